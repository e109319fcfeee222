-- Aggregates that are the same, one after another.
use Rattle.std.proofs.Common.{◌≡◌, ℕ, ◌+◌, ◌<◌, ◌≤◌, List, [], ◌∷◌, ◌++◌, length, take, get_or, sym, ap, ◌∙◌}
use Rattle.std.proofs.lemmas.List.{take_more, take_all}
use Rattle.span_query.specs.declared.query.Aggregate.{Aggregate}

pub copied_more : (xs ys : List Aggregate) (i : ℕ) (a b : Aggregate) → i < length xs → a ≡ get_or xs i a → a ≡ b → take i xs ≡ ys → take (i + 1) xs ≡ ys ++ b ∷ []
copied_more xs ys i a b within is same so_far =
    take_more xs i a within ∙ ap (λ (c : Aggregate). take i xs ++ c ∷ []) (sym is ∙ same) ∙ ap (λ (l : List Aggregate). l ++ b ∷ []) so_far

pub copied_all : (xs ys : List Aggregate) (i : ℕ) → length xs ≤ i → take i xs ≡ ys → xs ≡ ys
copied_all xs ys i past so_far = sym (take_all i xs past) ∙ so_far
