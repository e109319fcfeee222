-- Rows that are lent, as the list of these rows.
use Rattle.std.proofs.Common.{◌≡◌, ◌∙◌, ◌<◌, ◌+◌, ◌++◌, ◌∷◌, [], ℕ, Bool, true, false, cond, List, Some, take, drop, length, get_or, append_assoc, ap, sym}
use denote.Ref.{Bor}
use Rattle.std.specs.Prelude.{slice_get, option_map}
use Rattle.std.proofs.lemmas.List.{length-map, map-append, take-map, drop-map, get_or-map}
use Rattle.std.proofs.lemmas.Option.{slice_get-map}
use Rattle.span_value.proofs.Lists.{drop_read}
use Rattle.span_query.specs.Rows.{Row}
use Rattle.span_query.specs.Sorting.{insert_sorted}
use Rattle.span_rows.specs.LentRows.{lent_rows}
use Rattle.span_rows.proofs.Gathering.{taken_more}

pub lent_count : (xs : List (Bor Row)) → length (lent_rows xs) ≡ length xs
lent_count xs = length-map xs (λ (r : Bor Row). r.now)

pub lent_get : (xs : List (Bor Row)) (k : ℕ) (x : Bor Row) → k < length xs → x ≡ get_or xs k x → x.now ≡ get_or (lent_rows xs) k x.now
lent_get xs k x below is = ap (λ (r : Bor Row). r.now) is ∙ sym (get_or-map (λ (r : Bor Row). r.now) xs k x x.now below)

pub lent_found : (xs : List (Bor Row)) (k : ℕ) (x : Bor Row) → slice_get xs k ≡ Some x → slice_get (lent_rows xs) k ≡ Some x.now
lent_found xs k x is = slice_get-map (λ (r : Bor Row). r.now) xs k ∙ ap (option_map (λ (r : Bor Row). r.now)) is

pub lent_put : (xs : List (Bor Row)) (at : ℕ) (x : Bor Row) → lent_rows (take at xs ++ x ∷ drop at xs) ≡ take at (lent_rows xs) ++ x.now ∷ drop at (lent_rows xs)
lent_put xs at x =
    map-append (λ (r : Bor Row). r.now) (take at xs) (x ∷ drop at xs)
    ∙ ap (λ (l : List Row). l ++ x.now ∷ lent_rows (drop at xs)) (sym (take-map (λ (r : Bor Row). r.now) at xs))
    ∙ ap (λ (l : List Row). take at (lent_rows xs) ++ x.now ∷ l) (sym (drop-map (λ (r : Bor Row). r.now) at xs))

pub lent_part : (xs : List (Bor Row)) (skip count : ℕ) → lent_rows (take count (drop skip xs)) ≡ take count (drop skip (lent_rows xs))
lent_part xs skip count =
    sym (take-map (λ (r : Bor Row). r.now) count (drop skip xs)) ∙ ap (take count) (sym (drop-map (λ (r : Bor Row). r.now) skip xs))

-- ---- the place of an item in a list that is in order

module _ {A : Type 0} (lt : A → A → Bool) (row : A) (xs : List A) (k : ℕ) (x : A) (below : k < length xs) (is : x ≡ get_or xs k x) where
  next_is : take k xs ++ insert_sorted lt row (drop k xs) ≡ take k xs ++ cond (lt x row) (x ∷ insert_sorted lt row (drop (k + 1) xs)) (row ∷ x ∷ drop (k + 1) xs)
  next_is = ap (λ (l : List A). take k xs ++ insert_sorted lt row l) (drop_read xs k x below is)

  pub passed_one : insert_sorted lt row xs ≡ take k xs ++ insert_sorted lt row (drop k xs) → lt x row ≡ true → insert_sorted lt row xs ≡ take (k + 1) xs ++ insert_sorted lt row (drop (k + 1) xs)
  passed_one so_far before =
      so_far ∙ next_is
      ∙ ap (λ (b : Bool). take k xs ++ cond b (x ∷ insert_sorted lt row (drop (k + 1) xs)) (row ∷ x ∷ drop (k + 1) xs)) before
      ∙ sym (append_assoc (take k xs) (x ∷ []) (insert_sorted lt row (drop (k + 1) xs)))
      ∙ ap (λ (l : List A). l ++ insert_sorted lt row (drop (k + 1) xs)) (taken_more xs k x below is)

  pub stopped_here : insert_sorted lt row xs ≡ take k xs ++ insert_sorted lt row (drop k xs) → lt x row ≡ false → insert_sorted lt row xs ≡ take k xs ++ row ∷ drop k xs
  stopped_here so_far after =
      so_far ∙ next_is
      ∙ ap (λ (b : Bool). take k xs ++ cond b (x ∷ insert_sorted lt row (drop (k + 1) xs)) (row ∷ x ∷ drop (k + 1) xs)) after
      ∙ ap (λ (l : List A). take k xs ++ row ∷ l) (sym (drop_read xs k x below is))
