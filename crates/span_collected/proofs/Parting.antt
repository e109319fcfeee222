-- The rows of parts, one part after another.
use Rattle.std.proofs.Common.{◌≡◌, ℕ, ◌+◌, ◌<◌, ◌≤◌, List, [], ◌∷◌, ◌++◌, length, take, get_or, sym, ap, ◌∙◌}
use denote.Ref.{Bor}
use Rattle.std.proofs.lemmas.Grind.{flat_map-append}
use Rattle.std.proofs.lemmas.List.{append-nil, take_more, take_all}
use Rattle.span_query.specs.Rows.{Row}
use Rattle.span_collected.specs.Parts.{all_rows}

pub rows_more : (parts : List (Bor (List Row))) (i : ℕ) (x : Bor (List Row)) → i < length parts → x ≡ get_or parts i x → all_rows (take (i + 1) parts) ≡ all_rows (take i parts) ++ x.now
rows_more parts i x within is =
    ap all_rows (take_more parts i x within ∙ ap (λ (y : Bor (List Row)). take i parts ++ y ∷ []) (sym is))
    ∙ flat_map-append (λ (part : Bor (List Row)). part.now) (take i parts) (x ∷ [])
    ∙ ap (λ (l : List Row). all_rows (take i parts) ++ l) (append-nil x.now)

pub rows_all : (parts : List (Bor (List Row))) (i : ℕ) → length parts ≤ i → all_rows (take i parts) ≡ all_rows parts
rows_all parts i past = ap all_rows (take_all i parts past)
