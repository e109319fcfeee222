-- Paths: a parent is before its child, so what is known about the tables before gives the path to a table.
use Rattle.std.proofs.Common.{◌≡◌, ℕ, zero, suc, ◌+◌, ◌<◌, List, [], ◌∷◌, ◌++◌, Option, Some, None, refl, sym, ◌∙◌, ap, arith, Bool, length, length-append, take, map}
use Rattle.std.specs.List.{slice_get, position, range_with_len}
use Rattle.std.proofs.lemmas.Bool.Decides.{nat_tests}
use Rattle.std.proofs.lemmas.Option.{cond_some, slice_get_within, slice_get-get_or}
use Rattle.std.proofs.lemmas.List.{length-take, length-take-le}
use Rattle.std.proofs.lemmas.List.FromFn.{get_or-map-range_with_len, length-map-range_with_len}
use Rattle.span_schema.specs.declared.table.Table.{Table}
use Rattle.span_schema.specs.declared.table.Parent.{Parent}
use Rattle.span_schema.specs.declared.lineage.Lineage.{Lineage}
use Rattle.span_schema.specs.Tables.{parent_place, parent_place_of}
use Rattle.span_value.specs.Results.{first_cause}
use Rattle.span_schema.specs.Rules.{causes_of}
use Rattle.span_schema.specs.Lineages.{parent_in, parent_at, above, path_in, path_at, lineage_at, path_of_line, path_below, lineage_in, judged_in, cause_in, cause_at}

position_within : {X : Type 0} (p : X → Bool) (xs : List X) (i : ℕ) → position p xs ≡ Some i → i < length xs
position_within p xs i h = let found = cond_some _ _ _ h in grind (arith, nat_tests, found.0, found.1)

parent_within : (before : List Table) (parent : Option Parent) (p : ℕ) → parent_place_of before parent ≡ Some p → p < length before
parent_within before None p h = absurd (let e : None ≡ Some p = h in cc)
parent_within before (Some q) p h = position_within _ before p h

parent_in_before : (before : List Table) (t : Option Table) (p : ℕ) → parent_in before t ≡ Some p → p < length before
parent_in_before before None p h = absurd (let e : None ≡ Some p = h in cc)
parent_in_before before (Some t) p h = parent_within before t.parent p h

-- a parent is before its child
pub parent_before : (tables : List Table) (i p : ℕ) → parent_at tables i ≡ Some p → p < i
parent_before tables i p h =
    let within : p < length (take i tables) = parent_in_before (take i tables) (slice_get tables i) p h in
    omega (arith, length-take i tables)

above_same : (f g : ℕ → List ℕ) (o : Option ℕ) → ((p : ℕ) → o ≡ Some p → f p ≡ g p) → above f o ≡ above g o
above_same f g None h = refl
above_same f g (Some p) h = h p refl

-- more steps than places change nothing
pub steps_enough : (tables : List Table) (k m i : ℕ) → i < k → i < m → path_in tables k i ≡ path_in tables m i
steps_enough tables zero m i a b = absurd (omega arith)
steps_enough tables (suc k) zero i a b = absurd (omega arith)
steps_enough tables (suc k) (suc m) i a b =
    ap (λ (path : List ℕ). path ++ (i + 1) ∷ [])
    (above_same (path_in tables k) (path_in tables m) (parent_at tables i)
    (λ p h. let before : p < i = parent_before tables i p h in steps_enough tables k m p (omega arith) (omega arith)))

-- the path to a table is the path to its parent, and then its number
pub path_goes_on : (tables : List Table) (i : ℕ) → path_at tables i ≡ above (path_at tables) (parent_at tables i) ++ (i + 1) ∷ []
path_goes_on tables i =
    ap (λ (path : List ℕ). path ++ (i + 1) ∷ [])
    (above_same (path_in tables i) (path_at tables) (parent_at tables i)
    (λ p h. let before : p < i = parent_before tables i p h in steps_enough tables i (suc p) p before (omega arith)))

pub line_at : (tables : List Table) (n p : ℕ) → p < n → slice_get (map (lineage_at tables) (range_with_len 0 n)) p ≡ Some (lineage_at tables p)
line_at tables n p h =
    let len : length (map (lineage_at tables) (range_with_len 0 n)) ≡ n = length-map-range_with_len (lineage_at tables) 0 n in
    slice_get-get_or (map (lineage_at tables) (range_with_len 0 n)) p (lineage_at tables p) (omega arith)
    ∙ ap (λ (l : Lineage). Some l) (get_or-map-range_with_len (lineage_at tables) 0 n p p (lineage_at tables p) h (omega arith))

path_here : (tables : List Table) (i : ℕ) → path_below (map (lineage_at tables) (range_with_len 0 i)) (parent_at tables i) ≡ above (path_in tables i) (parent_at tables i)
path_here tables i = above_same _ (path_in tables i) (parent_at tables i)
    (λ p h. let before : p < i = parent_before tables i p h in
    ap path_of_line (line_at tables i p before) ∙ steps_enough tables (suc p) i p (omega arith) before)

-- what is checked and built for the tables before is what the definitions say
pub lineage_step : (tables : List Table) (i : ℕ) (t : Table) (lines : List Lineage) → slice_get tables i ≡ Some t → lines ≡ map (lineage_at tables) (range_with_len 0 i)
    → (lineage_in (take i tables) t lines ≡ lineage_at tables i) × (judged_in (take i tables) t lines ≡ cause_at tables i)
lineage_step tables i t lines at same =
    let inside : i < length tables = slice_get_within tables i t at in
    let parent : parent_place (take i tables) t ≡ parent_at tables i = sym (ap (parent_in (take i tables)) at) in
    let len : length (take i tables) ≡ i = length-take-le i tables (omega arith) in
    let path : path_below lines (parent_place (take i tables) t) ≡ above (path_in tables i) (parent_at tables i) =
    ap (path_below lines) parent ∙ ap (λ (ls : List Lineage). path_below ls (parent_at tables i)) same ∙ path_here tables i in
    let level : length (path_below lines (parent_place (take i tables) t)) + 1 ≡ length (path_at tables i) =
    ap (λ (ns : List ℕ). length ns + 1) path ∙ sym (length-append (above (path_in tables i) (parent_at tables i)) ((i + 1) ∷ [])) in
    (made _ _ _ _ parent (joined _ _ _ _ path len), ap (λ (l : ℕ). first_cause (causes_of (take i tables) t l)) level ∙ sym (ap (cause_in (take i tables) (length (path_at tables i))) at))
  where
    made : (p q : Option ℕ) (x y : List ℕ) → p ≡ q → x ≡ y → ◌≡◌ {A = Lineage} (record { parent = p; path = x }) (record { parent = q; path = y })
    made p q x y e f = cc

    joined : (x y : List ℕ) (m n : ℕ) → x ≡ y → m ≡ n → x ++ (m + 1) ∷ [] ≡ y ++ (n + 1) ∷ []
    joined x y m n e f = cc
