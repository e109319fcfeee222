-- Each row once, at its first place: one more row.
use Rattle.std.proofs.Common.{◌≡◌, Bool, true, false, cond, not, ◌||◌, List, [], ◌∷◌, ◌++◌, refl, sym, ap, ◌∙◌}
use Rattle.std.specs.List.{filter, list_any}
use Rattle.indexmap.specs.IndexSet.{insert_key}
use Rattle.std.proofs.lemmas.List.Elements.{filter-append}
use Rattle.std.proofs.lemmas.List.{append-nil}
use Rattle.span_query.specs.Rows.{Row}
use Rattle.span_query.specs.Groups.{are_equal, distinct}
use Rattle.span_rows.specs.Keys.{contains_row, with_new}
use Rattle.span_rows.proofs.Alike.{are_equal-same, are_equal-reversed}

abbrev pub unlike : Row → Row → Bool
unlike x y = not (are_equal x y)

-- leaving out the rows like another leaves the rows like this one
pub contains_row-unlike : (x y : Row) → are_equal x y ≡ false → (rows : List Row) → contains_row (filter (unlike x) rows) y ≡ contains_row rows y
contains_row-unlike x y e [] = refl
contains_row-unlike x y e (z ∷ rows) = elim (are_equal x z) as (λ b. are_equal x z ≡ b → contains_row (cond (not b) (z ∷ filter (unlike x) rows) (filter (unlike x) rows)) y ≡ (are_equal z y || contains_row rows y)) [
  | true ↦ λ same. let other : are_equal z y ≡ false = ap (λ (w : Row). are_equal w y) (sym (are_equal-same x z same)) ∙ e in contains_row-unlike x y e rows ∙ sym (ap (λ b. b || contains_row rows y) other)
  | false ↦ λ apart. ap (λ b. are_equal z y || b) (contains_row-unlike x y e rows)
] refl

-- one more row after those that differ from another
unlike-more : (x y : Row) (rows : List Row) (b : Bool) → are_equal x y ≡ b → filter (unlike x) (rows ++ y ∷ []) ≡ filter (unlike x) rows ++ cond (not b) (y ∷ []) []
unlike-more x y rows b e = filter-append (unlike x) rows (y ∷ []) ∙ ap (λ c. filter (unlike x) rows ++ cond (not c) (y ∷ []) []) e

rest_first : (x y : Row) (rows : List Row) (alike : Bool) → are_equal x y ≡ alike → (known : Bool) → contains_row rows y ≡ known
    → x ∷ filter (unlike x) (cond known rows (rows ++ y ∷ [])) ≡ cond (alike || known) (x ∷ filter (unlike x) rows) (x ∷ filter (unlike x) rows ++ y ∷ [])
rest_first x y rows true e true f = refl
rest_first x y rows true e false f = ap (λ l. x ∷ l) (unlike-more x y rows true e ∙ append-nil (filter (unlike x) rows))
rest_first x y rows false e true f = refl
rest_first x y rows false e false f = ap (λ l. x ∷ l) (unlike-more x y rows false e)

same_any : (x y : Row) (rows : List Row) (alike : Bool) → are_equal x y ≡ alike → (alike || contains_row rows y) ≡ (alike || contains_row (filter (unlike x) rows) y)
same_any x y rows true e = refl
same_any x y rows false e = sym (contains_row-unlike x y e rows)

-- ONE MORE ROW: it is added where none of those kept is equal to it
pub distinct-more : (rows : List Row) (y : Row) → distinct (rows ++ y ∷ []) ≡ with_new (distinct rows) y
distinct-more [] y = refl
distinct-more (x ∷ rows) y =
    ap (λ (l : List Row). x ∷ filter (unlike x) l) (distinct-more rows y)
    ∙ rest_first x y (distinct rows) (are_equal x y) refl (contains_row (distinct rows) y) refl
    ∙ ap (λ b. cond b (x ∷ filter (unlike x) (distinct rows)) (x ∷ filter (unlike x) (distinct rows) ++ y ∷ [])) (same_any x y (distinct rows) (are_equal x y) refl)

-- ---- the keys of a set of rows

pub any_reversed : (keys : List Row) (y : Row) → list_any (are_equal y) keys ≡ contains_row keys y
any_reversed [] y = refl
any_reversed (x ∷ keys) y = ap (λ b. b || list_any (are_equal y) keys) (are_equal-reversed y x) ∙ ap (λ b. are_equal x y || b) (any_reversed keys y)

-- one more key
pub insert_key-new : (keys : List Row) (y : Row) → insert_key are_equal keys y ≡ with_new keys y
insert_key-new keys y = ap (λ b. cond b keys (keys ++ y ∷ [])) (any_reversed keys y)

pub distinct-inserted : (keys new rows : List Row) (y : Row) → keys ≡ distinct rows → new ≡ insert_key are_equal keys y → new ≡ distinct (rows ++ y ∷ [])
distinct-inserted keys new rows y is inserted = inserted ∙ insert_key-new keys y ∙ ap (λ (l : List Row). with_new l y) is ∙ sym (distinct-more rows y)
