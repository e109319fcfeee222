-- Rows with their codes, in order.
use Rattle.std.proofs.Common.{◌≡◌, refl, sym, ap, subst, ◌∙◌, Bool, true, false, ◌&&◌, cond, List, [], ◌∷◌, ◌++◌, ◌-◌, ◌*◌, ◌^◌, ◌≤◌, ◌<◌, ℕ, arith, true≢false}
use denote.Param.Members.{Mut}
use denote.Ref.{Bor}
use Rattle.std.specs.Fn.{Called}
use Rattle.std.specs.Cmp.{IsTotalOrder, IsStrictWeakOrder}
use Rattle.std.specs.List.{AllByRecursion}
use Rattle.std.specs.List.Sorted.{IsSortedByClosure, IsStableByClosure}
use Rattle.std.proofs.lemmas.Cmp.{on_total, then_total, nat_cmp_total}
use Rattle.std.proofs.lemmas.Fn.{always_returns_same}
use Rattle.std.proofs.lemmas.List.MinMax.{ranks_by}
use Rattle.std.specs.declared.cmp.Ordering.{Ordering}
use Rattle.std.specs.declared.cmp.Ordering.TheVariants.{Less, Equal, Greater}
use Rattle.std.specs.Ordering.{nat_cmp, is_lt, ordering_then}
use Rattle.std.proofs.lemmas.Bool.Decides.{nat_tests}
use Rattle.std.proofs.lemmas.Bool.{and_parts, cond-true}
use Rattle.span_value.specs.declared.value.Value.{Value}
use Rattle.span_value.specs.Orders.{value_order}
use Rattle.span_query.specs.declared.query.SortKey.{SortKey}
use Rattle.span_query.specs.Rows.{Row}
use Rattle.span_query.specs.Sorting.{reverse_if, or_next, key_order, row_order, comes_before, insert_sorted, insertion_sort, sorted}
use Rattle.span_sorting.specs.declared.coded.CodedRow.{CodedRow}
use Rattle.span_sorting.specs.Codes.{code_of, is_exact, IsInRange, value_at, key_code, first_code, next_code, second_code, are_exact, AreInRange, IsFirstInRange, IsCoded, IsCodedAs, code_order, code_before, uncoded}
use Rattle.span_sorting.proofs.Codes.{code_agrees, exact_order, exact_same, code_end}
use Rattle.span_sorting.proofs.Sorting.{all_in_order, from_sorted, is_the_order}
use Rattle.span_sorting.proofs.RowOrder.{rows_total, same_next}
use Rattle.span_value.proofs.Comparisons.{number_less, number_greater, number_equal, same_number}

-- ---- the rows so far

pub uncoded_more : (xs : List CodedRow) (x : CodedRow) → uncoded (xs ++ x ∷ []) ≡ uncoded xs ++ x.row.now ∷ []
uncoded_more [] x = refl
uncoded_more (y ∷ xs) x = ap (λ (l : List Row). y.row.now ∷ l) (uncoded_more xs x)

pub coded_more : (keys : List SortKey) (exact both : Bool) (xs : List CodedRow) (x : CodedRow)
    → AllByRecursion (IsCodedAs keys exact) xs → IsCoded keys x → both ≡ (exact && are_exact keys x.row.now) → AllByRecursion (IsCodedAs keys both) (xs ++ x ∷ [])
coded_more keys exact both [] x all h is = (record { coded = h; ties = λ e. (and_parts exact (are_exact keys x.row.now) (sym is ∙ e)).1 }, tt)
coded_more keys exact both (y ∷ xs) x all h is =
    (record { coded = all.0.coded; ties = λ e. all.0.ties (and_parts exact (are_exact keys x.row.now) (sym is ∙ e)).0 }, coded_more keys exact both xs x all.1 h is)

-- ---- one key

backwards : (a b c d : ℕ) → a ≤ 5 * 2 ^ 64 → b ≤ 5 * 2 ^ 64 → c ≡ 5 * 2 ^ 64 - a → d ≡ 5 * 2 ^ 64 - b → nat_cmp c d ≡ reverse_if true (nat_cmp a b)
backwards a b c d f g e h = by_order (nat_cmp a b) refl
  where
    by_order : (o : Ordering) → nat_cmp a b ≡ o → nat_cmp c d ≡ reverse_if true o
    by_order Less k = let lt : a < b = grind (arith, nat_tests, k) in number_greater c d (omega (arith, lt, e, h, g))
    by_order Greater k = let lt : b < a = grind (arith, nat_tests, k) in number_less c d (omega (arith, lt, e, h, f))
    by_order Equal k = let same : a ≡ b = grind (arith, nat_tests, k) in number_equal c d (omega (arith, same, e, h))

reversed_next : (b : Bool) (o n : Ordering) → or_next (reverse_if b o) (reverse_if b n) ≡ reverse_if b (or_next o n)
reversed_next false o n = refl
reversed_next true Less n = refl
reversed_next true Equal n = refl
reversed_next true Greater n = refl

abbrev directed_code : Bool → Value → ℕ
directed_code descends v = cond descends (5 * 2 ^ 64 - code_of v) (code_of v)

-- the order of codes in the direction of a key
directed_order : (descends : Bool) (v w : Value) → IsInRange v → IsInRange w → nat_cmp (directed_code descends v) (directed_code descends w) ≡ reverse_if descends (nat_cmp (code_of v) (code_of w))
directed_order false v w f g = refl
directed_order true v w f g = backwards (code_of v) (code_of w) (5 * 2 ^ 64 - code_of v) (5 * 2 ^ 64 - code_of w) (code_end v f) (code_end w g) refl refl

module _ (key : SortKey) (r s : Row) (f : IsInRange (value_at key r)) (g : IsInRange (value_at key s)) where
  -- the codes at a key are in the order of the key or the same
  key_agrees : or_next (nat_cmp (key_code key r) (key_code key s)) (key_order key r s) ≡ key_order key r s
  key_agrees =
      ap (λ (o : Ordering). or_next o (key_order key r s)) (directed_order key.is_descending (value_at key r) (value_at key s) f g)
      ∙ reversed_next key.is_descending (nat_cmp (code_of (value_at key r)) (code_of (value_at key s))) (value_order (value_at key r) (value_at key s))
      ∙ ap (reverse_if key.is_descending) (code_agrees (value_at key r) (value_at key s) f g)

  key_exact : is_exact (value_at key r) ≡ true → is_exact (value_at key s) ≡ true → nat_cmp (key_code key r) (key_code key s) ≡ key_order key r s
  key_exact a b =
      directed_order key.is_descending (value_at key r) (value_at key s) f g
      ∙ ap (reverse_if key.is_descending) (exact_order (value_at key r) (value_at key s) f g a b)

  -- with the same codes, the values are both exact or both not
  exact_alike : nat_cmp (key_code key r) (key_code key s) ≡ Equal → is_exact (value_at key r) ≡ is_exact (value_at key s)
  exact_alike e =
      let turned : reverse_if key.is_descending (nat_cmp (code_of (value_at key r)) (code_of (value_at key s))) ≡ Equal = sym (directed_order key.is_descending (value_at key r) (value_at key s) f g) ∙ e in
      let equal : nat_cmp (code_of (value_at key r)) (code_of (value_at key s)) ≡ Equal = unturned key.is_descending (nat_cmp (code_of (value_at key r)) (code_of (value_at key s))) turned in
      exact_same (value_at key r) (value_at key s) f g (same_number (code_of (value_at key r)) (code_of (value_at key s)) equal)
    where
      unturned : (b : Bool) (o : Ordering) → reverse_if b o ≡ Equal → o ≡ Equal
      unturned false o e = e
      unturned true Equal e = refl
      unturned true Less e = cc
      unturned true Greater e = cc

-- ---- the order by codes

after_next : (n k r : Ordering) → or_next n k ≡ k → or_next n (or_next k r) ≡ or_next k r
after_next Less Less r e = refl
after_next Less Equal r e = cc
after_next Less Greater r e = cc
after_next Equal k r e = refl
after_next Greater Less r e = cc
after_next Greater Equal r e = cc
after_next Greater Greater r e = refl

first_decides : (n m k r : Ordering) → or_next n k ≡ k → (n ≡ Equal → or_next m (or_next k r) ≡ or_next k r) → or_next n (or_next m (or_next k r)) ≡ or_next k r
first_decides Less m Less r e h = refl
first_decides Less m Equal r e h = cc
first_decides Less m Greater r e h = cc
first_decides Equal m k r e h = h refl
first_decides Greater m Less r e h = cc
first_decides Greater m Equal r e h = cc
first_decides Greater m Greater r e h = refl

next_decides : (a b : Bool) → a ≡ b → (c d : ℕ) (k n r : Ordering) → (a ≡ true → k ≡ Equal) → (a ≡ true → or_next (nat_cmp c d) n ≡ n)
    → or_next (nat_cmp (cond a c 0) (cond b d 0)) (or_next k (or_next n r)) ≡ or_next k (or_next n r)
next_decides false false same c d k n r first next = refl
next_decides false true same c d k n r first next = absurd (true≢false (sym same))
next_decides true false same c d k n r first next = absurd (true≢false same)
next_decides true true same c d k n r first next =
    ap (λ (o : Ordering). or_next (nat_cmp c d) (or_next o (or_next n r))) (first refl)
    ∙ after_next (nat_cmp c d) n r (next refl)
    ∙ ap (λ (o : Ordering). or_next o (or_next n r)) (sym (first refl))

-- what comes before by the codes comes before by the keys
codes_agree : (keys : List SortKey) (r s : Row) → AreInRange keys r → AreInRange keys s
    → or_next (nat_cmp (first_code keys r) (first_code keys s)) (or_next (nat_cmp (second_code keys r) (second_code keys s)) (row_order keys r s)) ≡ row_order keys r s
codes_agree [] r s f g = refl
codes_agree (key ∷ []) r s f g = after_next (nat_cmp (key_code key r) (key_code key s)) (key_order key r s) Equal (key_agrees key r s f g)
codes_agree (key ∷ next ∷ keys) r s f g =
    first_decides (nat_cmp (key_code key r) (key_code key s)) (nat_cmp (next_code key next r) (next_code key next s)) (key_order key r s) (row_order (next ∷ keys) r s)
    (key_agrees key r s f.0 g.0)
    (λ e.
    let same : is_exact (value_at key r) ≡ is_exact (value_at key s) = exact_alike key r s f.0 g.0 e in
    next_decides (is_exact (value_at key r)) (is_exact (value_at key s)) same (key_code next r) (key_code next s) (key_order key r s) (key_order next r s) (row_order keys r s)
    (λ exact. sym (key_exact key r s f.0 g.0 exact (sym same ∙ exact)) ∙ e)
    (λ exact. key_agrees next r s (f.1 exact) (g.1 (sym same ∙ exact))))

pub first_in_range : (keys : List SortKey) (r : Row) → AreInRange keys r → IsFirstInRange keys r
first_in_range [] r f = tt
first_in_range (key ∷ []) r f = f
first_in_range (key ∷ next ∷ keys) r f = f.0

-- a row with a lesser code at the first key comes before
pub first_decides_alone : (keys : List SortKey) (r s : Row) → IsFirstInRange keys r → IsFirstInRange keys s → first_code keys r < first_code keys s → comes_before keys r s ≡ true
first_decides_alone [] r s f g lt = absurd (omega (arith, lt))
first_decides_alone (key ∷ keys) r s f g lt =
    let less : nat_cmp (key_code key r) (key_code key s) ≡ Less = number_less (key_code key r) (key_code key s) lt in
    let first : key_order key r s ≡ Less =
    sym (key_agrees key r s f g) ∙ ap (λ (o : Ordering). or_next o (key_order key r s)) less in
    ap (λ (o : Ordering). is_lt (or_next o (row_order keys r s))) first

-- where they are exact, the codes are in the order of the keys
exact_codes : (keys : List SortKey) (r s : Row) → AreInRange keys r → AreInRange keys s → are_exact keys r ≡ true → are_exact keys s ≡ true
    → or_next (nat_cmp (first_code keys r) (first_code keys s)) (or_next (nat_cmp (second_code keys r) (second_code keys s)) Equal) ≡ row_order keys r s
exact_codes [] r s f g a b = refl
exact_codes (key ∷ []) r s f g a b = ap (λ (o : Ordering). or_next o Equal) (key_exact key r s f g a b)
exact_codes (key ∷ next ∷ []) r s f g a b =
    let p = and_parts (is_exact (value_at key r)) (is_exact (value_at next r)) a in
    let q = and_parts (is_exact (value_at key s)) (is_exact (value_at next s)) b in
    let first : nat_cmp (key_code key r) (key_code key s) ≡ key_order key r s = key_exact key r s f.0 g.0 p.0 q.0 in
    let second : nat_cmp (next_code key next r) (next_code key next s) ≡ key_order next r s =
    ap (λ (n : ℕ). nat_cmp n (next_code key next s)) (cond-true (is_exact (value_at key r)) (key_code next r) 0 p.0)
    ∙ ap (λ (n : ℕ). nat_cmp (key_code next r) n) (cond-true (is_exact (value_at key s)) (key_code next s) 0 q.0)
    ∙ key_exact next r s (f.1 p.0) (g.1 q.0) p.1 q.1 in
    ap (λ (o : Ordering). or_next o (or_next (nat_cmp (next_code key next r) (next_code key next s)) Equal)) first
    ∙ ap (λ (o : Ordering). or_next (key_order key r s) (or_next o Equal)) second
exact_codes (key ∷ next ∷ other ∷ keys) r s f g a b = absurd (true≢false (sym a))

module _ (keys : List SortKey) where
  with_codes : (x y : CodedRow) → IsCoded keys x → IsCoded keys y → (o : Ordering)
      → or_next (nat_cmp x.first y.first) (or_next (nat_cmp x.second y.second) o)
      ≡ or_next (nat_cmp (first_code keys x.row.now) (first_code keys y.row.now)) (or_next (nat_cmp (second_code keys x.row.now) (second_code keys y.row.now)) o)
  with_codes x y f g o =
      ap (λ (n : ℕ). or_next (nat_cmp n y.first) (or_next (nat_cmp x.second y.second) o)) f.first
      ∙ ap (λ (n : ℕ). or_next (nat_cmp (first_code keys x.row.now) n) (or_next (nat_cmp x.second y.second) o)) g.first
      ∙ ap (λ (n : ℕ). or_next (nat_cmp (first_code keys x.row.now) (first_code keys y.row.now)) (or_next (nat_cmp n y.second) o)) f.second
      ∙ ap (λ (n : ℕ). or_next (nat_cmp (first_code keys x.row.now) (first_code keys y.row.now)) (or_next (nat_cmp (second_code keys x.row.now) n) o)) g.second

  -- of rows with their codes, the order by the codes is that of the rows
  pub order_agrees : (exact : Bool) (x y : CodedRow) → IsCodedAs keys exact x → IsCodedAs keys exact y → code_order keys exact x y ≡ row_order keys x.row.now y.row.now
  order_agrees false x y f g =
      with_codes x y f.coded g.coded (row_order keys x.row.now y.row.now)
      ∙ codes_agree keys x.row.now y.row.now f.coded.range g.coded.range
  order_agrees true x y f g =
      with_codes x y f.coded g.coded Equal
      ∙ exact_codes keys x.row.now y.row.now f.coded.range g.coded.range (f.ties refl) (g.ties refl)

  -- ---- a stable sort by the codes

  abbrev rest_order : Bool → CodedRow → CodedRow → Ordering
  rest_order exact x y = cond exact Equal (row_order keys x.row.now y.row.now)

  rest_total : (exact : Bool) → IsTotalOrder (rest_order exact)
  rest_total true = record { antisymm = λ r s. refl; trans = λ r s t p q. p; congr = λ r s t p. refl }
  rest_total false = on_total (λ (x : CodedRow). x.row.now) (rows_total keys)

  then_codes : (exact : Bool) (x y : CodedRow) → code_order keys exact x y ≡ ordering_then (nat_cmp x.first y.first) (ordering_then (nat_cmp x.second y.second) (rest_order exact x y))
  then_codes exact x y =
      same_next (nat_cmp x.first y.first) (or_next (nat_cmp x.second y.second) (rest_order exact x y))
      ∙ ap (ordering_then (nat_cmp x.first y.first)) (same_next (nat_cmp x.second y.second) (rest_order exact x y))

  pub code_total : (exact : Bool) → IsTotalOrder (code_order keys exact)
  code_total exact =
      subst IsTotalOrder (λ i x y. sym (then_codes exact x y) i)
      (then_total (on_total (λ (x : CodedRow). x.first) nat_cmp_total) (then_total (on_total (λ (x : CodedRow). x.second) nat_cmp_total) (rest_total exact)))

  code_ranked : (exact : Bool) → IsStrictWeakOrder (code_before keys exact)
  code_ranked exact = ranks_by (code_total exact) (λ (x : CodedRow). x)

  module _ (exact : Bool) where
    pub uncoded_inserted : (x : CodedRow) (ys : List CodedRow) → IsCodedAs keys exact x → AllByRecursion (IsCodedAs keys exact) ys
        → uncoded (insert_sorted (code_before keys exact) x ys) ≡ insert_sorted (comes_before keys) x.row.now (uncoded ys)
    uncoded_inserted x [] f all = refl
    uncoded_inserted x (y ∷ ys) f all =
        ap (λ (b : Bool). uncoded (cond b (y ∷ insert_sorted (code_before keys exact) x ys) (x ∷ y ∷ ys))) (ap is_lt (order_agrees exact y x all.0 f))
        ∙ (elim (comes_before keys y.row.now x.row.now) as (λ b. uncoded (cond b (y ∷ insert_sorted (code_before keys exact) x ys) (x ∷ y ∷ ys)) ≡ cond b (y.row.now ∷ insert_sorted (comes_before keys) x.row.now (uncoded ys)) (x.row.now ∷ y.row.now ∷ uncoded ys)) [
          | true ↦ ap (λ (l : List Row). y.row.now ∷ l) (uncoded_inserted x ys f all.1)
          | false ↦ refl
        ])

    -- rows in the order of their codes are in the order of the keys
    pub uncoded_in_order : (xs : List CodedRow) → AllByRecursion (IsCodedAs keys exact) xs → uncoded (insertion_sort (code_before keys exact) xs) ≡ sorted keys (uncoded xs)
    uncoded_in_order [] all = refl
    uncoded_in_order (x ∷ xs) all =
        uncoded_inserted x (insertion_sort (code_before keys exact) xs) all.0 (all_in_order (code_before keys exact) (IsCodedAs keys exact) xs all.1)
        ∙ ap (insert_sorted (comes_before keys) x.row.now) (uncoded_in_order xs all.1)

    -- what the clauses of a stable sort say, where each call compares two items by the codes of their rows
    pub in_code_order : {X : Type 0} (p : X → CodedRow) {F : Type 0} {g : Mut F (Bor X × (Bor X × Unit)) Ordering} {f : F} (xs ys : List X)
        → IsSortedByClosure g f ys → IsStableByClosure g f xs ys
        → ((a : Bor X × (Bor X × Unit)) (r : Ordering) (f' : F) → Called g f a r f' → (r ≡ code_order keys exact (p a.0.now) (p a.1.0.now)) × (f' ≡ f))
        → ys ≡ insertion_sort (λ (x y : X). code_before keys exact (p x) (p y)) xs
    in_code_order {X} p {F} {g} {f} xs ys up stable h =
        let lt : X → X → Bool = λ x y. code_before keys exact (p x) (p y) in
        let ranked : IsStrictWeakOrder lt = ranks_by (code_total exact) p in
        let by = always_returns_same g (λ a r. is_lt r ≡ lt a.0.now a.1.0.now) f (λ a r f' k. (ap is_lt (h a r f' k).0, (h a r f' k).1)) in
        is_the_order lt ranked xs ys (from_sorted lt ranked ys (up lt ranked by)) (stable lt ranked by)

    -- what the clauses of a stable sort say, where each call compares two rows by their codes
    pub sorted_by_codes : {F : Type 0} {g : Mut F (Bor CodedRow × (Bor CodedRow × Unit)) Ordering} {f : F} (xs ys : List CodedRow)
        → IsSortedByClosure g f ys → IsStableByClosure g f xs ys → AllByRecursion (IsCodedAs keys exact) xs
        → ((a : Bor CodedRow × (Bor CodedRow × Unit)) (r : Ordering) (f' : F) → Called g f a r f' → (r ≡ code_order keys exact a.0.now a.1.0.now) × (f' ≡ f)) → uncoded ys ≡ sorted keys (uncoded xs)
    sorted_by_codes {g = g} {f = f} xs ys up stable all h =
        let by = always_returns_same g (λ a r. is_lt r ≡ code_before keys exact a.0.now a.1.0.now) f (λ a r f' k. (ap is_lt (h a r f' k).0, (h a r f' k).1)) in
        ap uncoded (is_the_order (code_before keys exact) (code_ranked exact) xs ys (from_sorted (code_before keys exact) (code_ranked exact) ys (up (code_before keys exact) (code_ranked exact) by)) (stable (code_before keys exact) (code_ranked exact) by))
        ∙ uncoded_in_order xs all
