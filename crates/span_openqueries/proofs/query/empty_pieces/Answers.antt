use Rattle.std.proofs.Common.{◌≡◌, ℕ, ◌<◌, zero, suc, List, [], ◌∷◌, ◌++◌, length, map, take, refl, sym, ap, ◌∙◌, arith, add-one}
use Rattle.span_columns.specs.declared.leaf.Leaf.{Leaf}
use Rattle.span_fragment.specs.declared.piece.Piece.{Piece}
use Rattle.span_machine.specs.Pieces.{no_pieces}
use Rattle.span_openqueries.proofs.query.empty_pieces.Goals as goal

one_more : (ls : List Leaf) (k : ℕ) → k < length ls → map no_pieces (take (suc k) ls) ≡ map no_pieces (take k ls) ++ [] ∷ []
one_more [] k low = absurd (omega arith)
one_more (l ∷ ls) zero low = refl
one_more (l ∷ ls) (suc k) low = ap (λ (ps : List (List Piece)). [] ∷ ps) (one_more ls k (omega arith))

pub loop-leaf-preserved : goal.loop-leaf-preserved
loop-leaf-preserved c =
    rw (add-one c.loop-leaf._leaf-index)
    (c.in_ok-push.ensures.ok
    ∙ ap (λ (l : List (List Piece)). l ++ c.new.result ∷ []) c.loop-leaf.invariant
    ∙ ap (λ (r : List Piece). map no_pieces (take c.loop-leaf._leaf-index c.args.leaves.now) ++ r ∷ []) c.new.ensures
    ∙ sym (one_more c.args.leaves.now c.loop-leaf._leaf-index c.loop-leaf-test.true))
