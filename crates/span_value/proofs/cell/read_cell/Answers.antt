use Rattle.std.proofs.Common.{List, ℕ, ◌≡◌, [], ◌∷◌, ap, subst, inl, Ok}
use Rattle.std.specs.Cmp.Lexicographic.{same_text}
use Rattle.span_value.specs.Cells.{IsCell}
use Rattle.span_value.proofs.IntCells.{null_alone}
use Rattle.span_value.proofs.cell.read_cell.Goals as goal

pub returns-then-eq-clause-read_all : goal.returns-then-eq-clause-read_all
returns-then-eq-clause-read_all c = λ v h.
    let same : c.args.text.now ≡ 92 ∷ 78 ∷ [] = same_text c.args.text.now (92 ∷ 78 ∷ []) c.if-eq.ensures in
    let P : List ℕ → Type 0 = λ w. IsCell c.args.kind v w in
    inl (ap Ok (null_alone c.args.kind v (subst P same h)))
