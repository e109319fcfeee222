use Rattle.std.proofs.Common.{◌≡◌, ℕ, ◌+◌, ◌∙◌, ◌∷◌, ◌++◌, [], List, sym, ap, arith, drop, length-drop, Some, subst}
use Rattle.std.proofs.lemmas.List.{drop-drop, take_rest}
use Rattle.span_keycode.specs.Coding.{in_direction, AreBytes}
use Rattle.span_keycode.specs.Texts.{text_at, prepend, with_first}
use Rattle.span_keycode.proofs.Codes.{bytes_push}
use Rattle.span_keycode.proofs.Reading.{prepend_more, prepend_nothing}
use Rattle.span_keycode.proofs.text.read_text.Goals as goal

pub loop-byte-preserved : goal.loop-byte-preserved
loop-byte-preserved c =
    let bs = c.args.bytes.now in
    let d = c.args.desc in
    let w = take_rest bs c.loop-byte.at in
    let now = rw w at c.in-Byte.ensures in
    let e : drop c.in-Byte.width (drop c.loop-byte.at bs) ≡ drop (c.loop-byte.at + c.in-Byte.width) bs = drop-drop c.in-Byte.width c.loop-byte.at bs in
    let items : c.push.new.self.items ≡ c.loop-byte.text.items ++ c.in-Byte.byte ∷ [] = c.in_ok-push-in-Byte.ensures.items in
    record {
      within = omega (arith, now.2, c.loop-byte.invariant.within, length-drop c.loop-byte.at bs);
      bytes = (let P : List ℕ → Type 0 = AreBytes in subst P (sym items) (bytes_push c.loop-byte.text.items c.in-Byte.byte c.loop-byte.invariant.bytes (omega arith)));
      same = ap (λ (t : List ℕ). prepend t (text_at (in_direction d (drop (c.loop-byte.at + c.in-Byte.width) bs)))) items
          ∙ prepend_more c.loop-byte.text.items c.in-Byte.byte (text_at (in_direction d (drop (c.loop-byte.at + c.in-Byte.width) bs)))
          ∙ ap (λ (r : List ℕ). prepend c.loop-byte.text.items (with_first c.in-Byte.byte (text_at (in_direction d r)))) (sym e)
          ∙ ap (prepend c.loop-byte.text.items) (sym now.0) ∙ c.loop-byte.invariant.same;
    }

pub returns-in-End-clause-ok : goal.returns-in-End-clause-ok
returns-in-End-clause-ok c =
    let bs = c.args.bytes.now in
    let w = take_rest bs c.loop-byte.at in
    let now = rw w at c.in-End.ensures in
    let e : drop 2 (drop c.loop-byte.at bs) ≡ drop (c.loop-byte.at + 2) bs = drop-drop 2 c.loop-byte.at bs in
    sym c.loop-byte.invariant.same ∙ ap (prepend c.loop-byte.text.items) now.0 ∙ prepend_nothing c.loop-byte.text.items (in_direction c.args.desc (drop 2 (drop c.loop-byte.at bs)))
    ∙ ap (λ (r : List ℕ). Some (c.loop-byte.text.items, in_direction c.args.desc r)) e
