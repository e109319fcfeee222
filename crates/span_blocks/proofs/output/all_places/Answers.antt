use Rattle.std.proofs.Common.{◌≡◌, ◌+◌, ◌++◌, ◌∷◌, [], ◌∙◌, ℕ, List, sym, ap}
use Rattle.std.specs.List.{range_with_len}
use Rattle.std.proofs.lemmas.List.{map-id}
use Rattle.std.proofs.lemmas.List.FromFn.{map-range_with_len_more}
use Rattle.std.proofs.Common.{arith}
use Rattle.span_blocks.proofs.output.all_places.Goals as goal

range_more : (n : ℕ) → range_with_len 0 n ++ (n ∷ []) ≡ range_with_len 0 (n + 1)
range_more n =
    sym (ap (λ (ks : List ℕ). ks ++ (n ∷ [])) (map-id (range_with_len 0 n)))
    ∙ sym (map-range_with_len_more (λ (k : ℕ). k) 0 n n (omega arith))
    ∙ map-id (range_with_len 0 (n + 1))

pub loop-place-preserved : goal.loop-place-preserved
loop-place-preserved c = c.in_ok-push.ensures.ok ∙ ap (λ (ks : List ℕ). ks ++ (c.loop-place.place ∷ [])) c.loop-place.invariant ∙ range_more c.loop-place.place
