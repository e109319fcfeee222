use Rattle.std.proofs.Common.{◌≡◌, ◌++◌, ◌∷◌, [], ◌∙◌, sym, ap, subst, List, ℕ, rules, string_bytes, lit<, Some}
use Rattle.span_value.proofs.CellTexts.{IsHalvedFrom, half_step, half_end, half_none}
use Rattle.span_value.proofs.cell.unescape_text.Goals as goal

pub returns-in_default-strip_backslash : goal.returns-in_default-strip_backslash
returns-in_default-strip_backslash c =
    half_none c.args.text.now (string_bytes c.loop-front.out) c.in-Some.front.now c.in-Some.tail.now c.loop-front.rest.now c.loop-front.invariant.so_far (c.in-Some.ensures.0) (c.in-Some.ensures.1) c.in_default-strip_backslash.ensures

pub loop-front-preserved : goal.loop-front-preserved
loop-front-preserved c = record {
  utf8 = search rules;
  so_far =
      let pushed : string_bytes c.push.new.self ≡ (string_bytes c.loop-front.out ++ c.in-Some.front.now) ++ (92 ∷ []) =
      c.in_ok-push.ensures.bytes ∙ ap (λ (w : List ℕ). string_bytes c.push_str.new.self ++ w) (c.in_ok-push.ensures.ascii (lit< tt)) ∙ ap (λ (w : List ℕ). w ++ (92 ∷ [])) c.in_ok-push_str.ensures.bytes in
      subst (λ (w : List ℕ). IsHalvedFrom c.args.text.now w c.in-Some-strip_backslash.after.now) (sym pushed)
      (half_step c.args.text.now (string_bytes c.loop-front.out) c.in-Some.front.now c.in-Some-strip_backslash.after.now c.loop-front.rest.now c.loop-front.invariant.so_far
      (c.in-Some.ensures.0 ∙ ap (λ (w : List ℕ). c.in-Some.front.now ++ (92 ∷ w)) c.in-Some-strip_backslash.ensures) (c.in-Some.ensures.1));
}

pub returns : goal.returns
returns c =
    half_end c.args.text.now (string_bytes c.loop-front.out) c.loop-front.rest.now c.loop-front.invariant.so_far c.in_default.ensures ∙ ap (λ (w : List ℕ). Some w) (sym c.in_ok-push_str-2.ensures.bytes)
