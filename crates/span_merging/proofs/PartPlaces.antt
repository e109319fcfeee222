-- Lists one after another.
use Rattle.std.proofs.Common.{◌≡◌, sym, ap, subst, ◌∙◌, ℕ, ◌+◌, ◌<◌, List, [], ◌∷◌, ◌++◌, length, get_or, take}
use denote.Ref.{Bor}
use Rattle.std.proofs.lemmas.Grind.{flat_map-append}
use Rattle.std.proofs.lemmas.List.{append-nil, get_or-map, length-map, take_more}
use Rattle.span_query.specs.Rows.{Row}
use Rattle.span_merging.specs.PartPlaces.{joined, lists}

pub list_at : (parts : List (Bor (List Row))) (i : ℕ) (x : Bor (List Row)) → i < length parts → x ≡ get_or parts i x → get_or (lists parts) i [] ≡ x.now
list_at parts i x within is = get_or-map (λ (part : Bor (List Row)). part.now) parts i x [] within ∙ ap (λ (part : Bor (List Row)). part.now) (sym is)

pub list_within : (parts : List (Bor (List Row))) (i : ℕ) → i < length parts → i < length (lists parts)
list_within parts i within = subst (λ (n : ℕ). i < n) (sym (length-map parts (λ (part : Bor (List Row)). part.now))) within

pub joined_more : (parts : List (List Row)) (i : ℕ) → i < length parts → joined (take (i + 1) parts) ≡ joined (take i parts) ++ get_or parts i []
joined_more parts i within =
    ap joined (take_more parts i [] within)
    ∙ flat_map-append (λ (part : List Row). part) (take i parts) (get_or parts i [] ∷ [])
    ∙ ap (λ (l : List Row). joined (take i parts) ++ l) (append-nil (get_or parts i []))
