-- What is left of lists that are in order, while their rows are taken one by one.
use Rattle.std.proofs.Common.{◌≡◌, ◌≢◌, refl, sym, ap, subst, arith, ◌∙◌, ℕ, zero, suc, ◌<◌, Bool, true, false, cond, List, [], ◌∷◌, ◌++◌, None, Some, length, get_or, set}
use denote.Ref.{Bor}
use Rattle.std.specs.Prelude.{nat_lt, slice_get}
use Rattle.std.specs.Cmp.{IsStrictWeakOrder}
use Rattle.std.specs.List.{AllByRecursion}
use Rattle.std.specs.declared.cmp.Ordering.{Ordering}
use Rattle.std.specs.declared.cmp.Ordering.TheVariants.{Equal}
use Rattle.std.specs.Ordering.{is_lt, nat_cmp}
use Rattle.std.proofs.lemmas.Bool.Decides.{nat_tests}
use Rattle.std.proofs.lemmas.Grind.{flat_map-append}
use Rattle.std.proofs.lemmas.List.{append-nil, get_or-map, get_or-set_other, length-map, map-set, map_push}
use Rattle.std.proofs.Math.Seq.{map-set_same}
use Rattle.span_value.proofs.Comparisons.{number_equal, number_greater, number_less}
use Rattle.span_value.proofs.Lists.{all_at, all_map, all_weaker}
use Rattle.span_query.specs.declared.query.SortKey.{SortKey}
use Rattle.span_query.specs.Rows.{Row}
use Rattle.span_query.specs.Sorting.{comes_before, or_next, row_order, sorted}
use Rattle.span_rows.specs.RowPlaces.{rows_at}
use Rattle.span_sorting.specs.declared.coded.CodedRow.{CodedRow}
use Rattle.span_merging.specs.declared.parts.PartRest.{PartRest}
use Rattle.span_sorting.specs.declared.placed.CodedPlace.{CodedPlace}
use Rattle.span_sorting.specs.Orders.{IsSorted}
use Rattle.span_merging.specs.PartPlaces.{joined}
use Rattle.span_merging.specs.PartRests.{IsFirstTaken, IsNextOf, IsRest, front_at, lists_of_rests, rest_rows, row_before, rows_of_rests}
use Rattle.span_sorting.specs.PlacesInOrder.{ArePlacesBy, IsCodedPlace, without_codes}
use Rattle.span_sorting.proofs.CodedRows.{order_agrees}
use Rattle.span_merging.proofs.Merging.{IsLeast, first_ranked, least_taken, none_left}
use Rattle.span_sorting.proofs.Placing.{lent_coded, places_weaker}
use Rattle.span_sorting.proofs.RowOrder.{rows_ranked}
use Rattle.span_sorting.proofs.Sorting.{is_in_order}

-- ---- the first row that is left

pub front_is : (rows : List Row) (places : List CodedPlace) (p : CodedPlace) → slice_get places 0 ≡ Some p → slice_get (rows_at rows (without_codes places)) 0 ≡ Some (get_or rows p.place [])
front_is rows [] p e = cc
front_is rows (x ∷ places) p e = let same : x ≡ p = cc in ap (λ (y : CodedPlace). Some (get_or rows y.place [])) same

pub fronts_ranked : (keys : List SortKey) → IsStrictWeakOrder (row_before keys)
fronts_ranked keys = first_ranked (comes_before keys) (rows_ranked keys)

-- ---- the order of two rows at places with their codes

differ : (a b : ℕ) (o : Ordering) → a ≢ b → is_lt (or_next (nat_cmp a b) o) ≡ nat_lt a b
differ a b o apart = elim (nat_lt a b) as (λ t. nat_lt a b ≡ t → is_lt (or_next (nat_cmp a b) o) ≡ t) [
  | true ↦ λ e. ap (λ (n : Ordering). is_lt (or_next n o)) (number_less a b (grind (arith, nat_tests, e)))
  | false ↦ λ e. ap (λ (n : Ordering). is_lt (or_next n o)) (number_greater a b (grind (arith, nat_tests, e, apart)))
] refl

module _ (keys : List SortKey) (exact : Bool) (rows others : List Row) (p q : CodedPlace) (f : IsCodedPlace rows keys exact p) (g : IsCodedPlace others keys exact q) where
  abbrev by_keys : Ordering
  by_keys = row_order keys (get_or rows p.place []) (get_or others q.place [])

  abbrev by_second : Ordering
  by_second = or_next (nat_cmp p.second q.second) (cond exact Equal by_keys)

  by_codes : is_lt (or_next (nat_cmp p.first q.first) by_second) ≡ is_lt by_keys
  by_codes =
      let x : CodedRow = record { row = record { ref_ptr = (0, 0); now = get_or rows p.place [] }; first = p.first; second = p.second } in
      let y : CodedRow = record { row = record { ref_ptr = (0, 0); now = get_or others q.place [] }; first = q.first; second = q.second } in
      ap is_lt (order_agrees keys exact x y (lent_coded rows keys exact p x f refl refl refl) (lent_coded others keys exact q y g refl refl refl))

  -- where the codes at the first key differ, those at the second, or none
  pub first_codes_differ : p.first ≢ q.first → nat_lt p.first q.first ≡ comes_before keys (get_or rows p.place []) (get_or others q.place [])
  first_codes_differ apart = sym (differ p.first q.first by_second apart) ∙ by_codes

  first_codes_tie : p.first ≡ q.first → is_lt by_second ≡ is_lt by_keys
  first_codes_tie same = ap (λ (o : Ordering). is_lt (or_next o by_second)) (sym (number_equal p.first q.first same)) ∙ by_codes

  pub second_codes_differ : p.first ≡ q.first → p.second ≢ q.second → nat_lt p.second q.second ≡ comes_before keys (get_or rows p.place []) (get_or others q.place [])
  second_codes_differ same apart = sym (differ p.second q.second (cond exact Equal by_keys) apart) ∙ first_codes_tie same

  pub codes_tie : p.first ≡ q.first → p.second ≡ q.second → exact ≡ true → false ≡ comes_before keys (get_or rows p.place []) (get_or others q.place [])
  codes_tie same second ties =
      ap (λ (b : Bool). is_lt (cond b Equal by_keys)) (sym ties)
      ∙ ap (λ (o : Ordering). is_lt (or_next o (cond exact Equal by_keys))) (sym (number_equal p.second q.second second))
      ∙ first_codes_tie same

-- ---- rows that are left

-- where exact codes are asked of fewer
pub rests_weaker : (keys : List SortKey) (exact both : Bool) (rests : List PartRest) → (both ≡ true → exact ≡ true)
    → AllByRecursion (IsRest keys exact) rests → AllByRecursion (IsRest keys both) rests
rests_weaker keys exact both rests less all =
    all_weaker (IsRest keys exact) (IsRest keys both) (λ r is. record { coded = places_weaker r.rows.now keys exact both r.places.now less is.coded; order = is.order }) rests all

-- all rows of a list whose order was made
pub rest_of_places : (keys : List SortKey) (exact both : Bool) (r : PartRest) → (both ≡ true → exact ≡ true)
    → ArePlacesBy keys None r.rows.now exact r.places.now → IsRest keys both r
rest_of_places keys exact both r less are = record {
  coded = places_weaker r.rows.now keys exact both r.places.now less are.coded;
  order = subst (IsSorted (comes_before keys)) (sym are.sorted) (is_in_order (comes_before keys) (rows_ranked keys) r.rows.now);
}

pub joined_rests_more : (rests : List PartRest) (r : PartRest) → joined (rows_of_rests (rests ++ r ∷ [])) ≡ joined (rows_of_rests rests) ++ rest_rows r
joined_rests_more rests r =
    ap joined (map_push rest_rows rests r)
    ∙ flat_map-append (λ (l : List Row). l) (rows_of_rests rests) (rest_rows r ∷ [])
    ∙ ap (λ (l : List Row). joined (rows_of_rests rests) ++ l) (append-nil (rest_rows r))

-- ---- the first row is taken

all_set : {A : Type 0} (P : A → Type 0) (xs : List A) (n : ℕ) (x : A) → AllByRecursion P xs → P x → AllByRecursion P (set xs n x)
all_set P [] n x all p = all
all_set P (y ∷ ys) zero x all p = (p, all.1)
all_set P (y ∷ ys) (suc n) x all p = (all.0, all_set P ys n x all.1 p)

rows_taken : (old new : PartRest) (at : ℕ) → IsFirstTaken old new at → rest_rows old ≡ get_or old.rows.now at [] ∷ rest_rows new
rows_taken old new at is =
    let rest : List ℕ = without_codes new.places.now in
    ap (λ (l : List CodedPlace). rows_at old.rows.now (without_codes l)) is.places
    ∙ ap (λ (n : ℕ). get_or old.rows.now n [] ∷ rows_at old.rows.now rest) (sym is.place)
    ∙ ap (λ (l : Bor (List Row)). get_or old.rows.now at [] ∷ rows_at l.now rest) (sym is.rows)

module _ (keys : List SortKey) (exact : Bool) (rests : List PartRest) (k : ℕ) (r : PartRest) (is : r ≡ get_or rests k r)
    (least : IsLeast (row_before keys) (front_at (rows_of_rests rests)) (length rests) k) where
  left_there : get_or (rows_of_rests rests) k [] ≡ rest_rows r
  left_there = get_or-map rest_rows rests k r [] least.within ∙ ap rest_rows (sym is)

  least_of_lists : IsLeast (row_before keys) (front_at (rows_of_rests rests)) (length (rows_of_rests rests)) k
  least_of_lists = subst (λ (n : ℕ). IsLeast (row_before keys) (front_at (rows_of_rests rests)) n k) (sym (length-map rests rest_rows)) least

  -- where no row is left of the list whose first row comes before others, none is left of any
  pub none_is_left : r.places.now ≡ [] → joined (rows_of_rests rests) ≡ []
  none_is_left none =
      none_left (comes_before keys) (rows_ranked keys) (rows_of_rests rests) k
      (left_there ∙ ap (λ (l : List CodedPlace). rows_at r.rows.now (without_codes l)) none) least_of_lists

  pub next_taken : (new : PartRest) (at : ℕ) → AllByRecursion (IsRest keys exact) rests → IsFirstTaken r new at
      → IsNextOf keys exact rests (set rests k new) (record { part = k; place = at })
  next_taken new at all taken =
      let parts : List (List Row) = lists_of_rests rests in
      let mine : IsRest keys exact r = subst (IsRest keys exact) (sym is) (all_at (IsRest keys exact) rests k r least.within all) in
      let whole : rest_rows r ≡ get_or r.rows.now at [] ∷ rest_rows new = rows_taken r new at taken in
      let coded : AllByRecursion (IsCodedPlace r.rows.now keys exact) (taken.taken ∷ new.places.now) =
      subst (AllByRecursion (IsCodedPlace r.rows.now keys exact)) taken.places mine.coded in
      let order : IsSorted (comes_before keys) (get_or r.rows.now at [] ∷ rest_rows new) = subst (IsSorted (comes_before keys)) whole mine.order in
      let list : get_or parts k [] ≡ r.rows.now = get_or-map (λ (x : PartRest). x.rows.now) rests k r [] least.within ∙ ap (λ (x : PartRest). x.rows.now) (sym is) in
      let row : get_or (get_or parts k []) at [] ≡ get_or r.rows.now at [] = ap (λ (l : List Row). get_or l at []) list in
      let others : AllByRecursion (IsSorted (comes_before keys)) (rows_of_rests rests) =
      all_map (IsRest keys exact) (IsSorted (comes_before keys)) rest_rows (λ x h. h.order) rests all in
      record {
        lists = map-set_same (λ (x : PartRest). x.rows.now) rests k new r (ap (λ (b : Bor (List Row)). b.now) taken.rows ∙ ap (λ (x : PartRest). x.rows.now) is);
        rests = all_set (IsRest keys exact) rests k new all (record {
          coded = subst (λ (b : Bor (List Row)). AllByRecursion (IsCodedPlace b.now keys exact) new.places.now) (sym taken.rows) coded.1;
          order = order.1;
        });
        within = record {
          part = subst (λ (n : ℕ). k < n) (sym (length-map rests (λ (x : PartRest). x.rows.now))) least.within;
          place = subst (λ (l : List Row). at < length l) (sym list) (subst (λ (n : ℕ). n < length r.rows.now) (sym taken.place) coded.0.within);
        };
        rows = least_taken (comes_before keys) (rows_ranked keys) (rows_of_rests rests) k (get_or r.rows.now at []) (rest_rows new) (left_there ∙ whole) others least_of_lists
            ∙ ap (λ (s : Row). s ∷ sorted keys (joined (set (rows_of_rests rests) k (rest_rows new)))) (sym row)
            ∙ ap (λ (l : List (List Row)). get_or (get_or parts k []) at [] ∷ sorted keys (joined l)) (sym (map-set rest_rows rests k new));
      }

  -- the first rows of the other lists stay
  pub other_fronts : (new : PartRest) (i : ℕ) → i ≢ k → front_at (rows_of_rests (set rests k new)) i ≡ front_at (rows_of_rests rests) i
  other_fronts new i apart =
      ap (λ (l : List (List Row)). front_at l i) (map-set rest_rows rests k new)
      ∙ ap (λ (l : List Row). slice_get l 0) (get_or-set_other (rows_of_rests rests) k i (rest_rows new) [] apart)
