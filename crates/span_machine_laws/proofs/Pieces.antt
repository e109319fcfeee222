-- The pieces that cover the leaves of open queries: each leaf's are apart, and end where directories do.
use Rattle.std.proofs.Common.{◌≡◌, ℕ, zero, suc, ◌+◌, true, false, cond, List, [], ◌∷◌, ◌++◌, Option, Some, None, Result, refl, ap, sym, ◌∙◌, subst, inl, inr, ◌⊎◌}
use Rattle.std.specs.Prelude.{slice_get, slice_set, map, flat_map, insert, take, drop}
use Rattle.std.specs.List.{AllByRecursion, fold, list_all}
use Rattle.std.specs.Ordering.{is_lt}
use Rattle.std.proofs.lemmas.Bool.{and_parts}
use Rattle.span_value.specs.declared.refusal.Refusal.{Refusal}
use Rattle.span_schema.specs.declared.table.Table.{Table}
use Rattle.span_schema.specs.declared.layout.KeyPart.{KeyPart}
use Rattle.span_schema.specs.Numbers.{root_of, key_columns, key_places}
use Rattle.span_value.specs.declared.value.Value.{Value}
use Rattle.span_value.proofs.Lists.{all_push, all_found_at}
use Rattle.span_keycode.specs.declared.range.KeyRange.{KeyRange}
use Rattle.span_keycode.specs.declared.range.RangeComparison.{RangeComparison}
use Rattle.span_keycode.specs.Ranges.{range_start, range_end}
use Rattle.span_keycode.specs.Order.{byte_order}
use Rattle.span_keycode.specs.Parts.{family, is_nonempty, later_of, earlier_of, part_between, part_before, part_after, lowest_gap, place_among, AreApart}
use Rattle.span_keycode.proofs.PartLaws.{gap_nonempty, gap_apart, apart_insert}
use Rattle.span_expr.specs.declared.expr.Expr.{Expr}
use Rattle.span_query.specs.declared.query.Statement.{Statement}
use Rattle.span_params.specs.declared.params.Parameter.{Parameter}
use Rattle.span_columns.specs.declared.leaf.Leaf.{Leaf}
use Rattle.span_leaves.specs.Ranges.{KeyBound, is_of_type, bounds, bounds_by, bounded, narrowed}
use Rattle.span_planner.proofs.Ranged.{IsRanged, leaves_ranged}
use Rattle.span_truetime.specs.Time.{timestamp_of}
use Rattle.span_planner.proofs.Planned.{typed_bounds}
use Rattle.span_machine.specs.declared.query.OpenQuery.{OpenQuery}
use Rattle.span_machine.specs.declared.query.ScanLeaf.{ScanLeaf}
use Rattle.span_machine.specs.declared.slot.SlotState.{SlotState}
use Rattle.span_machine.specs.declared.step.Step.{Step}
use Rattle.span_machine.specs.declared.transaction.Decision.{Decision}
use Rattle.span_machine.specs.declared.transaction.Decision.TheVariants as decision
use Rattle.span_machine.specs.declared.transaction.OpenTransaction.{OpenTransaction}
use Rattle.span_machine.specs.Machine.{Machine, answer, if_some, is_query, gap_in, add_piece, with_piece, cover, uncovered, statement_plan, as_opened, applied_at}
use Rattle.span_machine.specs.Slots.{IsCut}
use Rattle.span_machine_laws.proofs.Lists.{all_without, all_found, all_changed_found, one_or_other}
use Rattle.span_machine_laws.proofs.Ranges.{HasRanges, cut_at}
use Rattle.span_machine_laws.proofs.Walks.{Ends, answer_by}

-- ---- lists

-- what holds of each piece of the leaf
abbrev pub AllCovered : (KeyRange → Type 0) → ScanLeaf → Type 0
AllCovered P l = AllByRecursion P l.covered

pub none_covered : (P : KeyRange → Type 0) (leaves : List Leaf) → AllByRecursion (AllCovered P) (map uncovered leaves)
none_covered P [] = tt
none_covered P (l ∷ ls) = (tt, none_covered P ls)

pub all_insert : {A : Type 0} (P : A → Type 0) (xs : List A) (n : ℕ) (x : A) → AllByRecursion P xs → P x → AllByRecursion P (insert xs n x)
all_insert {A = A} P xs n x all p = joined (take n xs) (drop n xs) (front n xs all) (back n xs all)
  where
    front : (n : ℕ) (xs : List A) → AllByRecursion P xs → AllByRecursion P (take n xs)
    front zero xs all = tt
    front (suc n) [] all = tt
    front (suc n) (y ∷ ys) all = (all.0, front n ys all.1)

    back : (n : ℕ) (xs : List A) → AllByRecursion P xs → AllByRecursion P (drop n xs)
    back zero xs all = all
    back (suc n) [] all = tt
    back (suc n) (y ∷ ys) all = back n ys all.1

    joined : (xs ys : List A) → AllByRecursion P xs → AllByRecursion P ys → AllByRecursion P (xs ++ x ∷ ys)
    joined [] ys all more = (p, more)
    joined (z ∷ zs) ys all more = (all.0, joined zs ys all.1 more)

pub all_set : {A : Type 0} (P : A → Type 0) (xs : List A) (n : ℕ) (x : A) → AllByRecursion P xs → P x → AllByRecursion P (slice_set xs n x)
all_set P [] n x all p = all
all_set P (y ∷ ys) zero x all p = (p, all.1)
all_set P (y ∷ ys) (suc n) x all p = (all.0, all_set P ys n x all.1 p)

-- the leaves with one more piece at a place
pub piece_at : (leaves : List ScanLeaf) (leaf : ℕ) (l : ScanLeaf) (part : KeyRange) → slice_get leaves leaf ≡ Some l → with_piece leaves leaf part ≡ slice_set leaves leaf (add_piece part l)
piece_at leaves leaf l part at = ap (λ o. if_some o leaves (λ (k : ScanLeaf). slice_set leaves leaf (add_piece part k))) at

pub all_covered_piece : (P : KeyRange → Type 0) (leaves : List ScanLeaf) (leaf : ℕ) (l : ScanLeaf) (part : KeyRange) → slice_get leaves leaf ≡ Some l → AllByRecursion (AllCovered P) leaves → P part → AllByRecursion (AllCovered P) (with_piece leaves leaf part)
all_covered_piece P leaves leaf l part at all p =
    subst (AllByRecursion (AllCovered P)) (sym (piece_at leaves leaf l part at))
    (all_set (AllCovered P) leaves leaf (add_piece part l) all (all_insert P l.covered (place_among l.covered part) part (all_found_at (AllCovered P) leaves leaf l at all) p))

-- ---- ends of ranges

-- an end of the range of a comparison of the first key column of a family with a value of its type
pub record IsBoundEnd (schema : List Table) (key : List ℕ) : Type 0 where
  pub table : ℕ
  pub part : KeyPart
  pub parts : List KeyPart
  pub columns : key_columns schema table ≡ part ∷ parts
  pub comparison : RangeComparison
  pub value : Value
  pub typed : is_of_type part.kind value ≡ true
  pub is : (key ≡ range_start (root_of schema table) part comparison value) ⊎ (key ≡ range_end (root_of schema table) part comparison value)

-- a coded root key, the number of a table alone, or an end of a comparison's range
abbrev pub IsEnd : List Table → List ℕ → Type 0
IsEnd schema key = IsCut schema (Some key) ⊎ ((n : ℕ) × (key ≡ n ∷ [])) ⊎ IsBoundEnd schema key

abbrev pub AreEnds : List Table → KeyRange → Type 0
AreEnds schema range = IsEnd schema range.low × IsEnd schema range.high

module _ (P : List ℕ → Type 0) where
  abbrev Both : KeyRange → Type 0
  Both range = P range.low × P range.high

  -- the ends of a gap are ends of the range or of pieces
  gap_ends : (range : KeyRange) (cs : List KeyRange) (g : KeyRange) → Both range → AllByRecursion Both cs → lowest_gap range cs ≡ Some g → Both g
  gap_ends range [] g ends all = elim (is_nonempty range) as (λ b. cond b (Some range) None ≡ Some g → Both g) [
    | true ↦ λ e. let same : range ≡ g = cc in subst Both same ends
    | false ↦ λ e. absurd (cc)
  ]
  gap_ends range (c ∷ cs) g ends all = elim (is_nonempty (part_before c range)) as (λ b. cond b (Some (part_before c range)) (lowest_gap (part_after c range) cs) ≡ Some g → Both g) [
    | true ↦ λ e. let same : part_before c range ≡ g = cc in subst Both same (ends.0, one_or_other P (is_lt (byte_order range.high c.low)) range.high c.low ends.1 all.0.0)
    | false ↦ λ e. gap_ends (part_after c range) cs g (one_or_other P (is_lt (byte_order c.high range.low)) range.low c.high ends.0 all.0.1, ends.1) all.1 e
  ]

module _ (schema : List Table) where
  later_end : (lo : Option (List ℕ)) (key : List ℕ) → IsCut schema lo → IsEnd schema key → IsEnd schema (later_of lo key)
  later_end None key cut is = is
  later_end (Some l) key cut is = one_or_other (IsEnd schema) (is_lt (byte_order l key)) key l is (inl cut)

  earlier_end : (hi : Option (List ℕ)) (key : List ℕ) → IsCut schema hi → IsEnd schema key → IsEnd schema (earlier_of hi key)
  earlier_end None key cut is = is
  earlier_end (Some h) key cut is = one_or_other (IsEnd schema) (is_lt (byte_order key h)) key h is (inl cut)

-- ---- the ranges of leaves

module _ (schema : List Table) where
  -- the family of a table ends at numbers of tables
  family_ends : (n : ℕ) → AreEnds schema (family n)
  family_ends n = (inr (inl (n, refl)), inr (inl (n + 1, refl)))

  module _ (table : ℕ) (part : KeyPart) (parts : List KeyPart) (columns : key_columns schema table ≡ part ∷ parts) where
    bounded_ends : (bs : List KeyBound) → list_all (λ (b : KeyBound). is_of_type part.kind b.1) bs ≡ true → (r : KeyRange) → AreEnds schema r → AreEnds schema (fold (bounded (root_of schema table) part) r bs)
    bounded_ends [] typed r ends = ends
    bounded_ends (b ∷ bs) typed r ends =
        let parts_of = and_parts (is_of_type part.kind b.1) (list_all (λ (x : KeyBound). is_of_type part.kind x.1) bs) typed in
        let low : List ℕ = range_start (root_of schema table) part b.0 b.1 in
        let high : List ℕ = range_end (root_of schema table) part b.0 b.1 in
        bounded_ends bs parts_of.1 (bounded (root_of schema table) part r b) (
          one_or_other (IsEnd schema) (is_lt (byte_order low r.low)) r.low low ends.0 (inr (inr (record { table = table; part = part; parts = parts; columns = columns; comparison = b.0; value = b.1; typed = parts_of.0; is = inl refl }))),
          one_or_other (IsEnd schema) (is_lt (byte_order r.high high)) r.high high ends.1 (inr (inr (record { table = table; part = part; parts = parts; columns = columns; comparison = b.0; value = b.1; typed = parts_of.0; is = inr refl }))),
        )

  narrowed_ends : (table at : ℕ) (es : List Expr) (columns : List KeyPart) (places : List ℕ) → key_columns schema table ≡ columns → AreEnds schema (narrowed (root_of schema table) columns places at es)
  narrowed_ends table at es [] places is = family_ends (root_of schema table)
  narrowed_ends table at es (part ∷ parts) [] is = family_ends (root_of schema table)
  narrowed_ends table at es (part ∷ parts) (place ∷ places) is =
      bounded_ends table part parts is (bounds_by part.kind (at + place) es) (typed_bounds (λ (b : KeyBound). is_of_type part.kind b.1) (flat_map (bounds (at + place)) es)) (family (root_of schema table)) (family_ends (root_of schema table))

  pub ranged_ends : (leaf : Leaf) → IsRanged schema leaf → AreEnds schema leaf.range
  ranged_ends leaf is = subst (AreEnds schema) (sym is.is) (narrowed_ends is.table is.at is.conditions (key_columns schema is.table) (key_places schema is.table) refl)

-- ---- the invariant

-- a leaf's range ends where directories do, and so do its pieces, which are apart
pub record IsOpenLeaf (schema : List Table) (l : ScanLeaf) : Type 0 where
  pub range : AreEnds schema l.leaf.range
  pub apart : AreApart l.covered
  pub ends : AllByRecursion (AreEnds schema) l.covered

-- the leaves without their pieces
abbrev pub leaves_of : List ScanLeaf → List Leaf
leaves_of leaves = map (λ (l : ScanLeaf). l.leaf) leaves

-- the leaves of an open query are those of the plan of its statement, and so is the query above them
pub record HasLeaves (schema : List Table) (q : OpenQuery) : Type 0 where
  pub leaves : AllByRecursion (IsOpenLeaf schema) q.leaves
  pub of_plan : leaves_of q.leaves ≡ (statement_plan schema q.statement).leaves
  pub top : q.top ≡ (statement_plan schema q.statement).top

abbrev pub AreOpenQueries : List Table → Machine → Type 0
AreOpenQueries schema m = AllByRecursion (HasLeaves schema) m.queries

-- an uncovered part of a leaf in a slot ends so too
pub part_ends : (schema : List Table) (m : Machine) → HasRanges schema m → (slot : ℕ) (slot_state : SlotState) (l : ScanLeaf) (part : KeyRange) → slice_get m.slots slot ≡ Some slot_state → IsOpenLeaf schema l → gap_in slot_state l ≡ Some part → AreEnds schema part
part_ends schema m ranges slot slot_state l part here is gap =
    let cuts = cut_at schema m.slots slot slot_state here ranges.cut in
    gap_ends (IsEnd schema) (part_between slot_state.lo slot_state.hi l.leaf.range) l.covered part
    (later_end schema slot_state.lo l.leaf.range.low cuts.0 is.range.0, earlier_end schema slot_state.hi l.leaf.range.high cuts.1 is.range.1) is.ends gap

-- a piece more
pub leaf_covered : (schema : List Table) (m : Machine) → HasRanges schema m → (slot : ℕ) (slot_state : SlotState) (l : ScanLeaf) (part : KeyRange) → slice_get m.slots slot ≡ Some slot_state → IsOpenLeaf schema l → gap_in slot_state l ≡ Some part → IsOpenLeaf schema (add_piece part l)
leaf_covered schema m ranges slot slot_state l part here is gap = record {
  range = is.range;
  apart = apart_insert l.covered part is.apart (gap_nonempty (part_between slot_state.lo slot_state.hi l.leaf.range) l.covered part gap) (gap_apart (part_between slot_state.lo slot_state.hi l.leaf.range) l.covered part is.apart gap);
  ends = all_insert (AreEnds schema) l.covered (place_among l.covered part) part is.ends (part_ends schema m ranges slot slot_state l part here is gap);
}

pub opened_leaves : (schema : List Table) (leaves : List Leaf) → AllByRecursion (IsRanged schema) leaves → AllByRecursion (IsOpenLeaf schema) (map uncovered leaves) × (leaves_of (map uncovered leaves) ≡ leaves)
opened_leaves schema [] are = (tt, refl)
opened_leaves schema (l ∷ ls) are =
    let rest = opened_leaves schema ls are.1 in
    ((record { range = ranged_ends schema l are.0; apart = tt; ends = tt }, rest.0), ap (λ (more : List Leaf). l ∷ more) rest.1)

-- what is opened has the leaves of its plan
pub opened_query : (schema : List Table) (number s : ℕ) (text : List ℕ) (params : List Parameter) (asked : Statement) → HasLeaves schema (as_opened schema number s text params asked)
opened_query schema number s text params asked =
    let there = opened_leaves schema (statement_plan schema asked).leaves (leaves_ranged schema asked.leaves asked.query) in
    record { leaves = there.0; of_plan = there.1; top = refl }

-- a piece leaves the leaves
pub leaves_covered : (leaves : List ScanLeaf) (leaf : ℕ) (l : ScanLeaf) (part : KeyRange) → slice_get leaves leaf ≡ Some l → leaves_of (slice_set leaves leaf (add_piece part l)) ≡ leaves_of leaves
leaves_covered [] leaf l part at = refl
leaves_covered (k ∷ ks) zero l part at = let same : l ≡ k = cc in ap (λ (x : ScanLeaf). x.leaf ∷ leaves_of ks) same
leaves_covered (k ∷ ks) (suc leaf) l part at = ap (λ (ls : List Leaf). k.leaf ∷ ls) (leaves_covered ks leaf l part at)

pub query_covered : (schema : List Table) (m : Machine) → HasRanges schema m → (slot leaf : ℕ) (slot_state : SlotState) (q : OpenQuery) (l : ScanLeaf) (part : KeyRange) → slice_get m.slots slot ≡ Some slot_state → slice_get q.leaves leaf ≡ Some l → HasLeaves schema q
    → gap_in slot_state l ≡ Some part → HasLeaves schema (cover leaf part q)
query_covered schema m ranges slot leaf slot_state q l part here at has gap =
    let same : with_piece q.leaves leaf part ≡ slice_set q.leaves leaf (add_piece part l) = piece_at q.leaves leaf l part at in
    record {
      leaves = subst (AllByRecursion (IsOpenLeaf schema)) (sym same)
          (all_set (IsOpenLeaf schema) q.leaves leaf (add_piece part l) has.leaves (leaf_covered schema m ranges slot slot_state l part here (all_found_at (IsOpenLeaf schema) q.leaves leaf l at has.leaves) gap));
      of_plan = ap leaves_of same ∙ leaves_covered q.leaves leaf l part at ∙ has.of_plan;
      top = has.top;
    }

-- ---- the steps

queries_applied : (schema : List Table) (m : Machine) → AreOpenQueries schema m → (o : Decision) (owner txn slot : ℕ) (t : OpenTransaction) → AreOpenQueries schema (applied_at o m owner txn slot t).1
queries_applied schema m are decision.Undecided owner txn slot t = are
queries_applied schema m are decision.Aborted owner txn slot t = are
queries_applied schema m are (decision.Committed ts) owner txn slot t = are

piece_ends : (schema : List Table) (m : Machine) (u : Result Statement Refusal) → HasRanges schema m → AreOpenQueries schema m → Ends schema m u (λ step a. AreOpenQueries schema a.1)
piece_ends schema m u ranges are = record {
  refuses = λ step why may. are;
  begins = λ owner ms accepted. are;
  prepares = λ owner txn slot t slot_state found here accepted well fits low. are;
  commits = λ owner txn interval t found accepted. are;
  aborts = λ owner txn interval t found open_still. are;
  applies = λ owner txn slot interval t slot_state found here accepted. queries_applied schema m are t.decision owner txn slot t;
  advances = λ slot interval slot_state here. are;
  trims = λ slot h slot_state here accepted. are;
  opens = λ text params bound interval asked is accepted.
      all_push (HasLeaves schema) m.queries (as_opened schema m.next_query (timestamp_of bound interval) text params asked) are (opened_query schema m.next_query (timestamp_of bound interval) text params asked);
  finds_nothing = λ query leaf slot interval. are;
  scans = λ query leaf slot interval q slot_state l part found here at gap above safe.
      all_changed_found (HasLeaves schema) (is_query query) (cover leaf part) m.queries q found
      (query_covered schema m ranges slot leaf slot_state q l part here at (all_found (HasLeaves schema) (is_query query) m.queries q found are) gap) are;
  waits = λ query leaf slot interval q slot_state found here. are;
  finishes = λ query q found covered. are;
  closes = λ query q found. all_without (HasLeaves schema) (is_query query) m.queries are;
  splits = λ table key code slot slot_state keyed home here accepted. are;
}

-- every step keeps the leaves of open queries
pub answer_open : (schema : List Table) (m : Machine) (u : Result Statement Refusal) → HasRanges schema m → AreOpenQueries schema m → (step : Step) → AreOpenQueries schema (answer schema m u step).1
answer_open schema m u ranges are step = answer_by schema m u (λ s a. AreOpenQueries schema a.1) (piece_ends schema m u ranges are) step
