use Rattle.std.proofs.Common.{◌++◌, ◌∷◌, [], ◌∙◌, ap, List, ℕ, rules, string_bytes}
use Rattle.span_value.proofs.CellTexts.{double_step, double_end}
use Rattle.span_value.specs.Cells.{escaped}
use Rattle.span_value.proofs.cell.escape_text.Goals as goal

pub loop-front-preserved : goal.loop-front-preserved
loop-front-preserved c = record {
  utf8 = search rules;
  so_far =
      ap (λ (w : List ℕ). w ++ escaped c.in-Some.tail.now) ((c.in_ok-push_str-2.ensures).bytes ∙ ap (λ (w : List ℕ). w ++ (92 ∷ 92 ∷ [])) (c.in_ok-push_str.ensures).bytes)
      ∙ double_step c.args.text.now (string_bytes c.loop-front.out) c.in-Some.front.now c.in-Some.tail.now c.loop-front.rest.now c.loop-front.invariant.so_far ((c.in-Some.ensures).0) ((c.in-Some.ensures).1);
}

pub returns : goal.returns
returns c = (c.in_ok-push_str-3.ensures).bytes ∙ double_end c.args.text.now (string_bytes c.loop-front.out) c.loop-front.rest.now c.loop-front.invariant.so_far (c.in_default.ensures)
