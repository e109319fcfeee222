-- Groups of rows put together with those of further rows, one of these after another.
use Rattle.std.proofs.Common.{◌≡◌, ◌≢◌, ℕ, ◌+◌, ◌<◌, ◌≤◌, Bool, true, false, cond, not, ◌||◌, List, [], ◌∷◌, ◌++◌, length, set, get_or, map, take, refl, sym, ap, ◌∙◌, subst, append_assoc, Result, Ok, Err, OnOk, inl, inr, arith}
use Rattle.std.specs.List.{filter}
use Rattle.std.proofs.lemmas.Bool.{cases_eq, or_parts}
use Rattle.std.proofs.lemmas.List.{length-set, length-append, get_or-set_same, get_or-set_other, map-append, append-nil, take_all}
use Rattle.std.proofs.lemmas.List.Elements.{All-push, filter-append}
use Rattle.std.proofs.lemmas.List.Folds.{list_any-append}
use Rattle.std.proofs.lemmas.Grind.{flat_map-append}
use Rattle.std.proofs.Math.Seq.{get_or-append_seam}
use Rattle.span_query.specs.declared.query.Grouping.{Grouping}
use Rattle.span_query.specs.Rows.{Row}
use Rattle.span_query.specs.Groups.{are_equal, columns_at, distinct, group_keys, rows_with}
use Rattle.span_groups.specs.declared.aggregate.AggregateState.{AggregateState}
use Rattle.span_groups.specs.StateLists.{Group}
use Rattle.span_rows.specs.Keys.{contains_row, with_new, place_of, AreApart}
use Rattle.span_groups.specs.States.{AreStatesOf}
use Rattle.span_groups.specs.GroupStates.{keys_of, HasTakenRows, AreGroupsOf}
use Rattle.span_groups.specs.MergedGroups.{AreWholeGroups, HasGroupAt, with_keys, rows_by_key}
use Rattle.span_rows.proofs.Alike.{are_equal-same, are_equal-reversed}
use Rattle.span_rows.specs.Columns.{distinct_at}
use Rattle.span_rows.proofs.Firsts.{unlike, distinct-more}
use Rattle.span_groups.proofs.Absorbed.{key_at, key_count, keys-same}
use Rattle.span_rows.proofs.Places.{place_found, place_tells, place_most, apart_at, group_keys-apart, distinct-apart, contains_row-distinct, none_with}

-- ---- rows with a key

rows_with-append : (places : List ℕ) (k : Row) (xs ys : List Row) → rows_with places k (xs ++ ys) ≡ rows_with places k xs ++ rows_with places k ys
rows_with-append places k xs ys = filter-append (λ (row : Row). are_equal k (columns_at places row)) xs ys

rows_with-again : (places : List ℕ) (key : Row) (rows : List Row) → rows_with places key (rows_with places key rows) ≡ rows_with places key rows
rows_with-again places key [] = refl
rows_with-again places key (row ∷ rows) = elim (are_equal key (columns_at places row)) as (λ b. are_equal key (columns_at places row) ≡ b
    → rows_with places key (cond b (row ∷ rows_with places key rows) (rows_with places key rows)) ≡ cond b (row ∷ rows_with places key rows) (rows_with places key rows)) [
      | true ↦ λ same.
          ap (λ b. cond b (row ∷ rows_with places key (rows_with places key rows)) (rows_with places key (rows_with places key rows))) same
          ∙ ap (λ (l : List Row). row ∷ l) (rows_with-again places key rows)
      | false ↦ λ apart. rows_with-again places key rows
    ] refl

rows_with-none : (places : List ℕ) (k key : Row) (rows : List Row) → are_equal k key ≡ false → rows_with places k (rows_with places key rows) ≡ []
rows_with-none places k key [] e = refl
rows_with-none places k key (row ∷ rows) e = elim (are_equal key (columns_at places row)) as (λ b. are_equal key (columns_at places row) ≡ b
    → rows_with places k (cond b (row ∷ rows_with places key rows) (rows_with places key rows)) ≡ []) [
      | true ↦ λ same.
          let other : are_equal k (columns_at places row) ≡ false = ap (are_equal k) (sym (are_equal-same key (columns_at places row) same)) ∙ e in
          ap (λ b. cond b (row ∷ rows_with places k (rows_with places key rows)) (rows_with places k (rows_with places key rows))) other ∙ rows_with-none places k key rows e
      | false ↦ λ apart. rows_with-none places k key rows e
    ] refl

none_empty : (key : Row) (rows : List Row) → are_equal [] key ≡ false → rows_with [] key rows ≡ []
none_empty key [] e = refl
none_empty key (row ∷ rows) e =
    ap (λ b. cond b (row ∷ rows_with [] key rows) (rows_with [] key rows)) (are_equal-reversed key [] ∙ e) ∙ none_empty key rows e

-- no row has a key that is not among the keys
no_rows_of : (places : List ℕ) (key : Row) (rows : List Row) → contains_row (group_keys places rows) key ≡ false → rows_with places key rows ≡ []
no_rows_of [] key rows e = none_empty key rows (or_parts (are_equal [] key) false e).0
no_rows_of (p ∷ ps) key rows e = none_with (p ∷ ps) key rows (sym (contains_row-distinct (map (columns_at (p ∷ ps)) rows) key) ∙ e)

-- ---- keys that are apart

apart_more : (keys : List Row) (key : Row) → AreApart keys → contains_row keys key ≡ false → AreApart (keys ++ key ∷ [])
apart_more [] key a e = (refl, tt)
apart_more (x ∷ keys) key a e =
    let both : (are_equal x key ≡ false) × (contains_row keys key ≡ false) = or_parts (are_equal x key) (contains_row keys key) e in
    let none : contains_row (keys ++ key ∷ []) x ≡ false =
    list_any-append (λ (y : Row). are_equal y x) keys (key ∷ [])
    ∙ ap (λ b. b || (are_equal key x || false)) a.0
    ∙ ap (λ b. b || false) (are_equal-reversed key x ∙ both.0) in
    (none, apart_more keys key a.1 both.1)

apart_new : (keys : List Row) (key : Row) → AreApart keys → (known : Bool) → contains_row keys key ≡ known → AreApart (cond known keys (keys ++ key ∷ []))
apart_new keys key a true e = a
apart_new keys key a false e = apart_more keys key a e

absent : (keys : List Row) (key k : Row) (known : Bool) → contains_row keys key ≡ known → contains_row (cond known keys (keys ++ key ∷ [])) k ≡ false
    → (contains_row keys k ≡ false) × (are_equal k key ≡ false)
absent keys key k true e none = (
  none,
  elim (are_equal k key) as (λ b. are_equal k key ≡ b → b ≡ false) [
    | true ↦ λ same. sym (ap (contains_row keys) (are_equal-same k key same) ∙ e) ∙ none
    | false ↦ λ apart. refl
  ] refl,
)
absent keys key k false e none =
    let both : (contains_row keys k ≡ false) × ((are_equal key k || false) ≡ false) =
    or_parts (contains_row keys k) (are_equal key k || false) (sym (list_any-append (λ (y : Row). are_equal y k) keys (key ∷ [])) ∙ none) in
    (both.0, are_equal-reversed k key ∙ (or_parts (are_equal key k) false both.1).0)

none_unlike : (keys : List Row) (x : Row) → contains_row keys x ≡ false → filter (unlike x) keys ≡ keys
none_unlike [] x e = refl
none_unlike (y ∷ keys) x e =
    let both : (are_equal y x ≡ false) × (contains_row keys x ≡ false) = or_parts (are_equal y x) (contains_row keys x) e in
    ap (λ b. cond (not b) (y ∷ filter (unlike x) keys) (filter (unlike x) keys)) (are_equal-reversed x y ∙ both.0)
    ∙ ap (λ (l : List Row). y ∷ l) (none_unlike keys x both.1)

pub apart_distinct : (keys : List Row) → AreApart keys → distinct keys ≡ keys
apart_distinct [] a = refl
apart_distinct (x ∷ keys) a = ap (λ (l : List Row). x ∷ filter (unlike x) l) (apart_distinct keys a.1) ∙ ap (λ (l : List Row). x ∷ l) (none_unlike keys x a.0)

distinct-after : (xs ys : List Row) → distinct (xs ++ distinct ys) ≡ distinct (xs ++ ys)
distinct-after [] ys = apart_distinct (distinct ys) (distinct-apart ys)
distinct-after (x ∷ xs) ys = ap (λ (l : List Row). x ∷ filter (unlike x) l) (distinct-after xs ys)

-- ---- the keys of rows, and after them those of further rows

with_keys-push : (keys xs : List Row) (x : Row) → with_keys keys (xs ++ x ∷ []) ≡ with_new (with_keys keys xs) x
with_keys-push keys [] x = refl
with_keys-push keys (y ∷ xs) x = with_keys-push (with_new keys y) xs x

with_keys-distinct : (xs ys : List Row) → with_keys (distinct xs) ys ≡ distinct (xs ++ ys)
with_keys-distinct xs [] = ap distinct (sym (append-nil xs))
with_keys-distinct xs (y ∷ ys) =
    ap (λ (l : List Row). with_keys l ys) (sym (distinct-more xs y))
    ∙ with_keys-distinct (xs ++ y ∷ []) ys
    ∙ ap distinct (append_assoc xs (y ∷ []) ys)

-- EACH ONCE, IN PARTS: lists may each be replaced by one that has the same rows where each is taken once
pub distinct_both : (xs xs' ys ys' : List Row) → distinct xs ≡ distinct xs' → distinct ys ≡ distinct ys' → distinct (xs ++ ys) ≡ distinct (xs' ++ ys')
distinct_both xs xs' ys ys' first second =
    sym (with_keys-distinct xs ys)
    ∙ ap (λ (l : List Row). with_keys l ys) first
    ∙ with_keys-distinct xs' ys
    ∙ sym (distinct-after xs' ys)
    ∙ ap (λ (l : List Row). distinct (xs' ++ l)) second
    ∙ distinct-after xs' ys'

-- the values at some columns of lists of rows, each once
pub distinct_at-both : (columns : List ℕ) (xs xs' ys ys' : List Row) → distinct_at columns xs ≡ distinct_at columns xs' → distinct_at columns ys ≡ distinct_at columns ys'
    → distinct_at columns (xs ++ ys) ≡ distinct_at columns (xs' ++ ys')
distinct_at-both columns xs xs' ys ys' first second =
    let taken : List Row → List Row = map (columns_at columns) in
    ap distinct (map-append (columns_at columns) xs ys)
    ∙ distinct_both (taken xs) (taken xs') (taken ys) (taken ys') first second
    ∙ ap distinct (sym (map-append (columns_at columns) xs' ys'))

keys_together : (places : List ℕ) (rows next : List Row) → with_keys (group_keys places rows) (group_keys places next) ≡ group_keys places (rows ++ next)
keys_together [] rows next = refl
keys_together (p ∷ ps) rows next =
    let key : Row → Row = columns_at (p ∷ ps) in
    with_keys-distinct (map key rows) (distinct (map key next))
    ∙ distinct-after (map key rows) (map key next)
    ∙ ap distinct (sym (map-append key rows next))

rows_by_key-push : (places : List ℕ) (keys next : List Row) (key : Row) → rows_by_key places (keys ++ key ∷ []) next ≡ rows_by_key places keys next ++ rows_with places key next
rows_by_key-push places keys next key =
    let one : Row → List Row = λ (k : Row). rows_with places k next in
    flat_map-append one keys (key ∷ []) ∙ ap (λ (l : List Row). rows_by_key places keys next ++ l) (append-nil (rows_with places key next))

found_by_key : (places : List ℕ) (keys next : List Row) (k : Row) → AreApart keys → rows_with places k (rows_by_key places keys next) ≡ cond (contains_row keys k) (rows_with places k next) []
found_by_key places [] next k a = refl
found_by_key places (x ∷ keys) next k a =
    let rest : rows_with places k (rows_by_key places keys next) ≡ cond (contains_row keys k) (rows_with places k next) [] = found_by_key places keys next k a.1 in
    rows_with-append places k (rows_with places x next) (rows_by_key places keys next)
    ∙ elim (are_equal x k) as (λ b. are_equal x k ≡ b → rows_with places k (rows_with places x next) ++ rows_with places k (rows_by_key places keys next) ≡ cond (b || contains_row keys k) (rows_with places k next) []) [
      | true ↦ λ same.
          let is : x ≡ k = are_equal-same x k same in
          let own : rows_with places k (rows_with places x next) ≡ rows_with places k next = ap (λ (y : Row). rows_with places k (rows_with places y next)) is ∙ rows_with-again places k next in
          let none : contains_row keys k ≡ false = ap (contains_row keys) (sym is) ∙ a.0 in
          ap (λ (l : List Row). l ++ rows_with places k (rows_by_key places keys next)) own
          ∙ ap (λ (l : List Row). rows_with places k next ++ l) (rest ∙ ap (λ c. cond c (rows_with places k next) []) none)
          ∙ append-nil (rows_with places k next)
      | false ↦ λ apart.
          ap (λ (l : List Row). l ++ rows_with places k (rows_by_key places keys next)) (rows_with-none places k x next (are_equal-reversed k x ∙ apart)) ∙ rest
    ] refl

rows_together : (places : List ℕ) (rows next : List Row) (k : Row) → rows_with places k (rows ++ rows_by_key places (group_keys places next) next) ≡ rows_with places k (rows ++ next)
rows_together places rows next k =
    let keys : List Row = group_keys places next in
    let all : (known : Bool) → contains_row keys k ≡ known → cond known (rows_with places k next) [] ≡ rows_with places k next = λ known. elim known as (λ b. contains_row keys k ≡ b → cond b (rows_with places k next) [] ≡ rows_with places k next) [
      | true ↦ λ e. refl
      | false ↦ λ e. sym (no_rows_of places k next e)
    ] in
    rows_with-append places k rows (rows_by_key places keys next)
    ∙ ap (λ (l : List Row). rows_with places k rows ++ l) (found_by_key places keys next k (group_keys-apart places next) ∙ all (contains_row keys k) refl)
    ∙ sym (rows_with-append places k rows next)

-- ---- the groups

pub groups_are_whole : (g : Grouping) (rows : List Row) (groups : List Group) → AreGroupsOf g rows groups → AreWholeGroups g (group_keys g.keys rows) rows groups
groups_are_whole g rows groups are = record { are = are; apart = group_keys-apart g.keys rows; whole = λ key none. no_rows_of g.keys key rows none }

module _ (g : Grouping) (key : Row) (keys rows : List Row) (groups : List Group) (h : AreWholeGroups g keys rows groups) (at : ℕ) (is : at ≡ place_of (keys_of groups) key) where
  pub has_group : at ≢ length groups → HasGroupAt g key keys rows groups at
  has_group apart =
      let within : at < length groups = omega (arith, place_most (keys_of groups) key, key_count groups) in
      let inside : place_of (keys_of groups) key < length (keys_of groups) = omega (arith, key_count groups) in
      let known : contains_row keys key ≡ true = ap (λ (ks : List Row). contains_row ks key) (sym h.are.keyed) ∙ (place_tells (keys_of groups) key).0 inside in
      let same : keys ≡ with_new keys key = sym (ap (λ b. cond b keys (keys ++ key ∷ [])) known) in
      record {
        are = subst (λ (ks : List Row). AreWholeGroups g ks rows groups) same h;
        within = within;
        has_key = λ d. sym (key_at groups at d key within) ∙ ap (λ i. get_or (keys_of groups) i key) is ∙ place_found (keys_of groups) key key inside;
      }

  pub new_group_at : (x : Group) → at ≡ length groups → x.key ≡ key → AreStatesOf g.aggregates [] x.states → HasGroupAt g key keys rows (groups ++ x ∷ []) at
  new_group_at x past same states =
      let new : contains_row keys key ≡ false = ap (λ (ks : List Row). contains_row ks key) (sym h.are.keyed) ∙ (place_tells (keys_of groups) key).1 (omega (arith, key_count groups)) in
      let none : rows_with g.keys x.key rows ≡ [] = ap (λ (k : Row). rows_with g.keys k rows) same ∙ h.whole key new in
      let taken : HasTakenRows g rows x = subst (λ (rs : List Row). AreStatesOf g.aggregates rs x.states) (sym none) states in
      let more : keys ++ key ∷ [] ≡ with_new keys key = sym (ap (λ b. cond b keys (keys ++ key ∷ [])) new) in
      record {
        are = record {
          are = record {
            keyed = map-append (λ (y : Group). y.key) groups (x ∷ []) ∙ ap (λ (k : Row). keys_of groups ++ k ∷ []) same ∙ ap (λ (ks : List Row). ks ++ key ∷ []) h.are.keyed ∙ more;
            each = All-push (HasTakenRows g rows) groups x h.are.each taken;
          };
          apart = apart_new keys key h.apart (contains_row keys key) refl;
          whole = λ k gone. h.whole k (absent keys key k (contains_row keys key) refl gone).0;
        };
        within = omega (arith, length-append groups (x ∷ []));
        has_key = λ d. ap (λ (y : Group). y.key) (ap (λ i. get_or (groups ++ x ∷ []) i d) past ∙ get_or-append_seam groups x [] d) ∙ same;
      }

pub on_ok_always : {T E P : Type 0} (r : Result T E) → P → OnOk r P
on_ok_always (Ok x) p = p
on_ok_always (Err e) p = tt

-- one group more
module _ (g : Grouping) (key : Row) (keys rows next : List Row) (groups : List Group) (at : ℕ) (has : HasGroupAt g key keys rows groups at)
    (was new : Group) (is : was ≡ get_or groups at was) (same : new.key ≡ was.key) (more : List AggregateState)
    (step : (rs ns : List Row) → AreStatesOf g.aggregates rs was.states → AreStatesOf g.aggregates ns more → AreStatesOf g.aggregates (rs ++ ns) new.states)
    (taken : AreStatesOf g.aggregates (rows_with g.keys key next) more) where
  abbrev pub after : List Row
  after = rows ++ rows_with g.keys key next

  own_key : was.key ≡ key
  own_key = ap (λ (x : Group). x.key) is ∙ has.has_key was

  other_key : (j : ℕ) (d : Group) → j < length groups → j ≢ at → are_equal (get_or groups j d).key key ≡ false
  other_key j d inside other =
      let ks = keys_of groups in
      let apart : are_equal (get_or ks j key) (get_or ks at key) ≡ false =
      apart_at ks (subst AreApart (sym has.are.are.keyed) has.are.apart) at j key key (omega (arith, has.within, key_count groups)) (omega (arith, key_count groups)) other in
      ap (λ (k : Row). are_equal k key) (sym (key_at groups j d key inside))
      ∙ ap (are_equal (get_or ks j key)) (sym (key_at groups at d key has.within ∙ has.has_key d))
      ∙ apart

  takes_here : HasTakenRows g after new
  takes_here =
      let old : HasTakenRows g rows was = subst (HasTakenRows g rows) (sym is) (has.are.are.each at was has.within) in
      let all : rows_with g.keys new.key after ≡ rows_with g.keys was.key rows ++ rows_with g.keys key next =
      ap (λ (k : Row). rows_with g.keys k after) (same ∙ own_key)
      ∙ rows_with-append g.keys key rows (rows_with g.keys key next)
      ∙ ap (λ (l : List Row). rows_with g.keys key rows ++ l) (rows_with-again g.keys key next)
      ∙ ap (λ (k : Row). rows_with g.keys k rows ++ rows_with g.keys key next) (sym own_key) in
      subst (λ (rs : List Row). AreStatesOf g.aggregates rs new.states) (sym all) (step (rows_with g.keys was.key rows) (rows_with g.keys key next) old taken)

  -- what has another key is as it was
  passes : (k : Row) → are_equal k key ≡ false → rows_with g.keys k after ≡ rows_with g.keys k rows
  passes k other =
      rows_with-append g.keys k rows (rows_with g.keys key next)
      ∙ ap (λ (l : List Row). rows_with g.keys k rows ++ l) (rows_with-none g.keys k key next other)
      ∙ append-nil (rows_with g.keys k rows)

  pub group_merged : AreWholeGroups g (with_new keys key) after (set groups at new)
  group_merged = record {
    are = record {
      keyed = keys-same groups at new has.within (same ∙ own_key ∙ sym (has.has_key new)) ∙ has.are.are.keyed;
      each = λ j d inside. elim (cases_eq j at) [
        | inl here ↦ subst (HasTakenRows g after) (sym (ap (λ i. get_or (set groups at new) i d) here ∙ get_or-set_same groups at new d has.within)) takes_here
        | inr other ↦
            let within : j < length groups = omega (arith, length-set groups at new) in
            let x : Group = get_or groups j d in
            let kept : HasTakenRows g after x = subst (λ (rs : List Row). AreStatesOf g.aggregates rs x.states) (sym (passes x.key (other_key j d within other))) (has.are.are.each j d within) in
            subst (HasTakenRows g after) (sym (get_or-set_other groups at j new d other)) kept
      ];
    };
    apart = has.are.apart;
    whole = λ k none.
        let gone = absent keys key k (contains_row keys key) refl none in
        passes k gone.1 ∙ has.are.whole k none;
  }

-- ---- the groups of further rows, one after another

module _ (g : Grouping) (rows next : List Row) (more : List Group) where
  -- the groups with the first of the further ones
  abbrev pub AreMergedTo : ℕ → List Group → Type 0
  AreMergedTo i now =
      AreWholeGroups g (with_keys (group_keys g.keys rows) (take i (keys_of more))) (rows ++ rows_by_key g.keys (take i (keys_of more)) next) now

  pub merged_first : (groups : List Group) → AreGroupsOf g rows groups → AreMergedTo 0 groups
  merged_first groups are = subst (λ (rs : List Row). AreWholeGroups g (group_keys g.keys rows) rs groups) (sym (append-nil rows)) (groups_are_whole g rows groups are)

  pub merged_more : (i : ℕ) (x : Row) (now : List Group) → take (i + 1) (keys_of more) ≡ take i (keys_of more) ++ x ∷ []
      → AreWholeGroups g (with_new (with_keys (group_keys g.keys rows) (take i (keys_of more))) x) ((rows ++ rows_by_key g.keys (take i (keys_of more)) next) ++ rows_with g.keys x next) now → AreMergedTo (i + 1) now
  merged_more i x now is merged =
      let ks = take i (keys_of more) in
      let keys_are : with_new (with_keys (group_keys g.keys rows) ks) x ≡ with_keys (group_keys g.keys rows) (take (i + 1) (keys_of more)) =
      sym (ap (with_keys (group_keys g.keys rows)) is ∙ with_keys-push (group_keys g.keys rows) ks x) in
      let rows_are : (rows ++ rows_by_key g.keys ks next) ++ rows_with g.keys x next ≡ rows ++ rows_by_key g.keys (take (i + 1) (keys_of more)) next =
      append_assoc rows (rows_by_key g.keys ks next) (rows_with g.keys x next)
      ∙ ap (λ (l : List Row). rows ++ l) (sym (ap (λ (l : List Row). rows_by_key g.keys l next) is ∙ rows_by_key-push g.keys ks next x)) in
      subst (λ (l : List Row). AreWholeGroups g l (rows ++ rows_by_key g.keys (take (i + 1) (keys_of more)) next) now) keys_are
      (subst (λ (l : List Row). AreWholeGroups g (with_new (with_keys (group_keys g.keys rows) ks) x) l now) rows_are merged)

  pub merged_all : (i : ℕ) (now : List Group) → length more ≤ i → AreGroupsOf g next more → AreMergedTo i now → AreGroupsOf g (rows ++ next) now
  merged_all i now done are merged =
      let all : take i (keys_of more) ≡ group_keys g.keys next = take_all i (keys_of more) (omega (arith, key_count more)) ∙ are.keyed in
      let whole : AreWholeGroups g (with_keys (group_keys g.keys rows) (group_keys g.keys next)) (rows ++ rows_by_key g.keys (group_keys g.keys next) next) now =
      subst (λ (l : List Row). AreWholeGroups g (with_keys (group_keys g.keys rows) l) (rows ++ rows_by_key g.keys l next) now) all merged in
      record {
        keyed = whole.are.keyed ∙ keys_together g.keys rows next;
        each = λ j d inside. subst (λ (rs : List Row). AreStatesOf g.aggregates rs (get_or now j d).states) (rows_together g.keys rows next (get_or now j d).key) (whole.are.each j d inside);
      }
