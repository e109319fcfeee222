-- The ranges of the slots: no step but a Split changes them. Each coded key is in the range of one slot, and the ranges are cut at root keys.
use Rattle.std.proofs.Common.{◌≡◌, ◌≢◌, ℕ, zero, suc, max, true, false, cond, ◌&&◌, ◌==◌, ◌++◌, nat_lt, nat_le, List, [], ◌∷◌, length, Option, Some, None, refl, ap, sym, ◌∙◌, subst, inl, inr, ◌⊎◌}
use Rattle.std.specs.Prelude.{slice_get, slice_set, option_map, Result}
use Rattle.span_schema.specs.declared.table.Table.{Table}
use Rattle.span_value.specs.declared.refusal.Refusal.{Refusal}
use Rattle.span_query.specs.declared.query.Statement.{Statement}
use Rattle.span_mutate.specs.Directories.{Root}
use Rattle.span_checking.specs.RootKeys.{root_key}
use Rattle.span_checking.proofs.RootKeyLaws.{root_key_coded}
use Rattle.span_schema.specs.Lineages.{MeetsRules}
use Rattle.span_truetime.specs.declared.interval.Interval.{Interval}
use Rattle.span_machine.specs.declared.slot.SlotState.{SlotState}
use Rattle.span_machine.specs.declared.step.Step.{Step}
use Rattle.span_machine.specs.declared.step.Step.TheVariants.{Split}
use Rattle.span_machine.specs.declared.step.Reply.{Reply}
use Rattle.span_machine.specs.declared.transaction.Decision.{Decision}
use Rattle.span_machine.specs.declared.transaction.Decision.TheVariants as decision
use Rattle.span_machine.specs.declared.transaction.OpenTransaction.{OpenTransaction}
use Rattle.span_machine.specs.Slots.{SlotRange, is_between, has_key, holds, root_code, range_of, ranges_of, whole_range, IsInOne, AreTiles, IsCut, AreCut}
use Rattle.span_machine.specs.Run.{Run, IsOfSchema}
use Rattle.span_machine.specs.Machine.{Machine, Understanding, IsStep, answer, start, if_some, with_last, with_risen_floor, with_horizon, coordinator_slot, commit_timestamp, applied_at}
use Rattle.span_machine_laws.proofs.Walks.{Ends, answer_by}
use Rattle.span_machine_laws.proofs.Splits.{part_below, part_from, below_parts, from_parts, below_has, from_has, found_has, split_place, split_here, split_new, split_other}
use Rattle.span_keycode.specs.Coding.{AreValues}
use Rattle.span_keycode.proofs.Befores.{IsBefore, IsUpto, before_or_not, not_both}
use Rattle.span_value.specs.declared.value.Value.{Value}
use Rattle.std.proofs.lemmas.Bool.{eqb-true, eqb-false}
use Rattle.std.proofs.lemmas.Option.{same_Some}

-- ---- no step but a Split changes a range

pub ranges_set : (slots : List SlotState) (i : ℕ) (a b : SlotState) → slice_get slots i ≡ Some a → range_of b ≡ range_of a → ranges_of (slice_set slots i b) ≡ ranges_of slots
ranges_set [] i a b here same = refl
ranges_set (c ∷ cs) zero a b here same = let e : c ≡ a = cc in ap (λ (r : SlotRange). r ∷ ranges_of cs) (same ∙ ap range_of (sym e))
ranges_set (c ∷ cs) (suc i) a b here same = ap (λ (rs : List SlotRange). range_of c ∷ rs) (ranges_set cs i a b here same)

pub ranges_last : (slots : List SlotState) (slot ts : ℕ) → ranges_of (with_last slots slot ts) ≡ ranges_of slots
ranges_last slots slot ts = elim (slice_get slots slot) as (λ o. slice_get slots slot ≡ o → ranges_of (if_some o slots (λ slot_state. slice_set slots slot (record slot_state { last = max slot_state.last ts }))) ≡ ranges_of slots) [
  | None ↦ λ e. refl
  | Some slot_state ↦ λ e. ranges_set slots slot slot_state (record slot_state { last = max slot_state.last ts }) e refl
] refl

pub ranges_risen : (slots : List SlotState) (slot q : ℕ) (interval : Interval) (slot_state : SlotState) → slice_get slots slot ≡ Some slot_state → ranges_of (slice_set slots slot (with_risen_floor slot_state q interval)) ≡ ranges_of slots
ranges_risen slots slot q interval slot_state here = elim (nat_lt slot_state.floor q && nat_le q interval.latest) as (λ v. ranges_of (slice_set slots slot (cond v (record slot_state { floor = q }) slot_state)) ≡ ranges_of slots) [
  | true ↦ ranges_set slots slot slot_state (record slot_state { floor = q }) here refl
  | false ↦ ranges_set slots slot slot_state slot_state here refl
]

pub ranges_applied : (m : Machine) (o : Decision) (owner txn slot : ℕ) (t : OpenTransaction) → ranges_of (applied_at o m owner txn slot t).1.slots ≡ ranges_of m.slots
ranges_applied m decision.Undecided owner txn slot t = refl
ranges_applied m decision.Aborted owner txn slot t = refl
ranges_applied m (decision.Committed ts) owner txn slot t = ranges_last m.slots slot ts

-- ---- the slot of a key

pub ranged : (slots : List SlotState) (i : ℕ) → slice_get (ranges_of slots) i ≡ option_map range_of (slice_get slots i)
ranged [] i = refl
ranged (b ∷ slots) zero = refl
ranged (b ∷ slots) (suc i) = ranged slots i

-- the slot whose range has the key
pub record IsHome (slots : List SlotState) (key : List ℕ) : Type 0 where
  pub slot : ℕ
  pub state : SlotState
  pub here : slice_get slots slot ≡ Some state
  pub has : has_key state key ≡ true
  pub only : (i : ℕ) (b : SlotState) → slice_get slots i ≡ Some b → has_key b key ≡ true → i ≡ slot

pub home_of : (slots : List SlotState) (key : List ℕ) → IsInOne (ranges_of slots) key → IsHome slots key
home_of slots key one = by_state (slice_get slots one.slot) refl
  where
    by_state : (o : Option SlotState) → slice_get slots one.slot ≡ o → IsHome slots key
    by_state None e = absurd (let none : None ≡ Some one.range = sym (ranged slots one.slot ∙ ap (option_map range_of) e) ∙ one.here in cc)
    by_state (Some b) e =
        let same : Some (range_of b) ≡ Some one.range = sym (ranged slots one.slot ∙ ap (option_map range_of) e) ∙ one.here in
        let range : range_of b ≡ one.range = cc in
        record {
          slot = one.slot;
          state = b;
          here = e;
          has = subst (λ (r : SlotRange). is_between r.lo r.hi key ≡ true) (sym range) one.inside;
          only = λ i c h k. one.only i (range_of c) (ranged slots i ∙ ap (option_map range_of) h) k;
        }

-- and so the range that has it
pub one_of : (slots : List SlotState) (key : List ℕ) → IsHome slots key → IsInOne (ranges_of slots) key
one_of slots key home = record {
  slot = home.slot;
  range = range_of home.state;
  here = ranged slots home.slot ∙ ap (option_map range_of) home.here;
  inside = home.has;
  only = λ i r h k. by_state i r (slice_get slots i) refl h k;
}
  where
    by_state : (i : ℕ) (r : SlotRange) (o : Option SlotState) → slice_get slots i ≡ o → slice_get (ranges_of slots) i ≡ Some r → is_between r.lo r.hi key ≡ true → i ≡ home.slot
    by_state i r None e h k = absurd (let none : None ≡ Some r = sym (ranged slots i ∙ ap (option_map range_of) e) ∙ h in cc)
    by_state i r (Some b) e h k =
        let some : Some (range_of b) ≡ Some r = sym (ranged slots i ∙ ap (option_map range_of) e) ∙ h in
        let range : range_of b ≡ r = cc in
        home.only i b e (subst (λ (x : SlotRange). is_between x.lo x.hi key ≡ true) (sym range) k)

-- ---- a slot that is cut in two

module _ (slots : List SlotState) (slot : ℕ) (slot_state : SlotState) (code : List ℕ) (here : slice_get slots slot ≡ Some slot_state) (inside : has_key slot_state code ≡ true) where
  -- the slots after the cut
  abbrev cut_slots : List SlotState
  cut_slots = slice_set slots slot (part_below code slot_state) ++ part_from code slot_state ∷ []

  -- a key of another slot stays there
  home_elsewhere : (key : List ℕ) (home : IsHome slots key) → home.slot ≢ slot → IsHome cut_slots key
  home_elsewhere key home off = record {
    slot = home.slot;
    state = home.state;
    here = split_other slots slot (part_below code slot_state) (part_from code slot_state) home.state home.slot off home.here;
    has = home.has;
    only = λ i b h k. elim (split_place slots slot (part_below code slot_state) (part_from code slot_state) b i h) [
      | inl e ↦ absurd (off (sym (home.only slot slot_state here (below_parts code slot_state key inside (subst (λ (c : SlotState). has_key c key ≡ true) e.1 k)).0)))
      | inr other ↦ (elim other [
        | inl e ↦ absurd (off (sym (home.only slot slot_state here (from_parts code slot_state key inside (subst (λ (c : SlotState). has_key c key ≡ true) e.1 k)).0)))
        | inr e ↦ home.only i b e.0 k
      ])
    ];
  }

  -- a key of the slot before the cut stays there
  home_below : (key : List ℕ) (home : IsHome slots key) → home.slot ≡ slot → has_key slot_state key ≡ true → IsBefore key code → IsHome cut_slots key
  home_below key home at has before = record {
    slot = slot;
    state = part_below code slot_state;
    here = split_here slots slot slot_state (part_below code slot_state) (part_from code slot_state) here;
    has = below_has code slot_state key has before;
    only = λ i b h k. elim (split_place slots slot (part_below code slot_state) (part_from code slot_state) b i h) [
      | inl e ↦ e.0
      | inr other ↦ (elim other [
        | inl e ↦ absurd (not_both key code before (from_parts code slot_state key inside (subst (λ (c : SlotState). has_key c key ≡ true) e.1 k)).1)
        | inr e ↦ home.only i b e.0 k ∙ at
      ])
    ];
  }

  -- and one from there on is in the new slot
  home_from : (key : List ℕ) (home : IsHome slots key) → home.slot ≡ slot → has_key slot_state key ≡ true → IsUpto code key → IsHome cut_slots key
  home_from key home at has after = record {
    slot = length slots;
    state = part_from code slot_state;
    here = split_new slots slot (part_below code slot_state) (part_from code slot_state);
    has = from_has code slot_state key has after;
    only = λ i b h k. elim (split_place slots slot (part_below code slot_state) (part_from code slot_state) b i h) [
      | inl e ↦ absurd (not_both key code (below_parts code slot_state key inside (subst (λ (c : SlotState). has_key c key ≡ true) e.1 k)).1 after)
      | inr other ↦ (elim other [
        | inl e ↦ e.0
        | inr e ↦ absurd (e.1 (home.only i b e.0 k ∙ at))
      ])
    ];
  }

  pub home_split : (key : List ℕ) → IsHome slots key → IsHome cut_slots key
  home_split key home = elim (home.slot == slot) as (λ v. (home.slot == slot) ≡ v → IsHome cut_slots key) [
    | true ↦ λ e.
        let at : home.slot ≡ slot = eqb-true home.slot slot e in
        let same : home.state ≡ slot_state = same_Some home.state slot_state (sym home.here ∙ subst (λ i. slice_get slots i ≡ Some slot_state) (sym at) here) in
        let has : has_key slot_state key ≡ true = subst (λ (c : SlotState). has_key c key ≡ true) same home.has in
        elim (before_or_not key code) [
          | inl before ↦ home_below key home at has before
          | inr after ↦ home_from key home at has after
        ]
    | false ↦ λ e. home_elsewhere key home (eqb-false home.slot slot e)
  ] refl

  pub tiles_split : AreTiles (ranges_of slots) → AreTiles (ranges_of cut_slots)
  tiles_split tiles key = one_of cut_slots key (home_split key (home_of slots key (tiles key)))

-- ---- cuts

module _ (schema : List Table) where
  abbrev AreEndsCut : SlotState → Type 0
  AreEndsCut b = IsCut schema b.lo × IsCut schema b.hi

  pub cut_at : (slots : List SlotState) (i : ℕ) (b : SlotState) → slice_get slots i ≡ Some b → AreCut schema (ranges_of slots) → IsCut schema b.lo × IsCut schema b.hi
  cut_at [] i b h cut = absurd (cc)
  cut_at (c ∷ cs) zero b h cut = let same : c ≡ b = cc in subst AreEndsCut same cut.0
  cut_at (c ∷ cs) (suc i) b h cut = cut_at cs i b h cut.1

  cut_push : (slots : List SlotState) (b : SlotState) → AreCut schema (ranges_of slots) → AreEndsCut b → AreCut schema (ranges_of (slots ++ b ∷ []))
  cut_push [] b cut ends = (ends, tt)
  cut_push (c ∷ cs) b cut ends = (cut.0, cut_push cs b cut.1 ends)

  cut_set : (slots : List SlotState) (i : ℕ) (b : SlotState) → AreCut schema (ranges_of slots) → AreEndsCut b → AreCut schema (ranges_of (slice_set slots i b))
  cut_set [] i b cut ends = cut
  cut_set (c ∷ cs) zero b cut ends = (ends, cut.1)
  cut_set (c ∷ cs) (suc i) b cut ends = (cut.0, cut_set cs i b cut.1 ends)

  -- a root key is a cut
  pub split_cut : MeetsRules schema → (table : List ℕ) (key : List Value) (code : List ℕ) → AreValues key → root_key schema table key ≡ Some code → IsCut schema (Some code)
  unfolding root_code
  split_cut rules table key code values coded =
      let is = root_key_coded schema rules table key code values coded in
      (record { table = is.0; key = key }, (is.1, is.2), is.3)

  cut_split : (slots : List SlotState) (slot : ℕ) (slot_state : SlotState) (code : List ℕ) → slice_get slots slot ≡ Some slot_state → IsCut schema (Some code) → AreCut schema (ranges_of slots)
      → AreCut schema (ranges_of (slice_set slots slot (part_below code slot_state) ++ part_from code slot_state ∷ []))
  cut_split slots slot slot_state code here is cut =
      let ends = cut_at slots slot slot_state here cut in
      cut_push (slice_set slots slot (part_below code slot_state)) (part_from code slot_state) (cut_set slots slot (part_below code slot_state) cut (ends.0, is)) (is, ends.1)

-- ---- what holds of them

-- each key is in the range of one slot, and the ranges are cut at root keys
pub record HasRanges (schema : List Table) (m : Machine) : Type 0 where
  pub tiles : AreTiles (ranges_of m.slots)
  pub cut : AreCut schema (ranges_of m.slots)

-- the slots of a machine whose slots have ranges, or one of them is cut in two at a key of its range
pub record IsCutOf (schema : List Table) (step : Step) (slots new : List SlotState) : Type 0 where
  pub table : List ℕ
  pub key : List Value
  pub is : step ≡ Split table key
  pub code : List ℕ
  pub coded : root_key schema table key ≡ Some code
  pub slot : ℕ
  pub state : SlotState
  pub here : slice_get slots slot ≡ Some state
  pub inside : has_key state code ≡ true
  pub cut : new ≡ slice_set slots slot (part_below code state) ++ part_from code state ∷ []

abbrev pub KeepsRanges : List Table → Machine → Step → List SlotState → Type 0
KeepsRanges schema m step new = (ranges_of new ≡ ranges_of m.slots) ⊎ IsCutOf schema step m.slots new

ranges_ends : (schema : List Table) (m : Machine) (u : Result Statement Refusal) → Ends schema m u (λ step a. KeepsRanges schema m step a.1.slots)
ranges_ends schema m u = record {
  refuses = λ step why may. inl refl;
  begins = λ owner ms accepted. inl refl;
  prepares = λ owner txn slot t slot_state found here accepted well fits low. inl (ranges_set m.slots slot slot_state _ here refl);
  commits = λ owner txn interval t found accepted. inl (ranges_last m.slots (coordinator_slot t.prepared) (commit_timestamp m t interval));
  aborts = λ owner txn interval t found open_still. inl refl;
  applies = λ owner txn slot interval t slot_state found here accepted. inl (ranges_applied m t.decision owner txn slot t);
  advances = λ slot interval slot_state here. inl (ranges_set m.slots slot slot_state _ here refl);
  trims = λ slot h slot_state here accepted. inl (ranges_set m.slots slot slot_state (with_horizon h slot_state) here refl);
  opens = λ text params bound interval asked is accepted. inl refl;
  finds_nothing = λ query leaf slot interval. inl refl;
  scans = λ query leaf slot interval q slot_state l part found here at gap above safe. inl (ranges_risen m.slots slot q.s interval slot_state here);
  waits = λ query leaf slot interval q slot_state found here. inl (ranges_risen m.slots slot q.s interval slot_state here);
  finishes = λ query q found covered. inl refl;
  closes = λ query q found. inl refl;
  splits = λ table key code slot slot_state coded home here accepted. inr (record {
    table = table;
    key = key;
    is = refl;
    code = code;
    coded = coded;
    slot = slot;
    state = slot_state;
    here = here;
    inside = found_has m.slots code slot slot_state home here;
    cut = refl;
  });
}

-- a step leaves the ranges, or cuts one slot in two
pub answer_ranges : (schema : List Table) (m : Machine) (u : Result Statement Refusal) (step : Step) → KeepsRanges schema m step (answer schema m u step).1.slots
answer_ranges schema m u step = answer_by schema m u (λ s a. KeepsRanges schema m s a.1.slots) (ranges_ends schema m u) step

-- every step leaves ranges that tile the keys
pub answer_tiles : (schema : List Table) (m : Machine) (u : Result Statement Refusal) → AreTiles (ranges_of m.slots) → (step : Step) → AreTiles (ranges_of (answer schema m u step).1.slots)
answer_tiles schema m u tiles step = elim (answer_ranges schema m u step) [
  | inl same ↦ subst AreTiles (sym same) tiles
  | inr is ↦ subst (λ slots. AreTiles (ranges_of slots)) (sym is.cut) (tiles_split m.slots is.slot is.state is.code is.here is.inside tiles)
]

-- and cuts them at root keys, where a key is of values
pub answer_has_ranges : (schema : List Table) → MeetsRules schema → (m : Machine) (u : Result Statement Refusal) → HasRanges schema m → (step : Step) → IsOfSchema schema step → HasRanges schema (answer schema m u step).1
answer_has_ranges schema rules m u has step of = record {
  tiles = answer_tiles schema m u has.tiles step;
  cut = elim (answer_ranges schema m u step) [
    | inl same ↦ subst (AreCut schema) (sym same) has.cut
    | inr is ↦ (let values : AreValues is.key = subst (IsOfSchema schema) is.is of in
        let root : IsCut schema (Some is.code) = split_cut schema rules is.table is.key is.code values is.coded in
        subst (λ slots. AreCut schema (ranges_of slots)) (sym is.cut) (cut_split schema m.slots is.slot is.state is.code is.here root has.cut))
  ];
}

only_first : (r : SlotRange) (i : ℕ) → slice_get (whole_range ∷ []) i ≡ Some r → i ≡ 0
only_first r zero e = refl
only_first r (suc i) e = absurd (cc)

-- the first slot has every key
start_tiles : AreTiles (ranges_of start.slots)
unfolding is_between
start_tiles key = record { slot = 0; range = whole_range; here = refl; inside = refl; only = λ i r e k. only_first r i e }

pub start_ranges : (schema : List Table) → HasRanges schema start
start_ranges schema = record { tiles = start_tiles; cut = ((tt, tt), tt) }

-- one step, out of memory included
step_tiles : (understands : Understanding) (schema : List Table) (m : Machine) (step : Step) (r : Reply) (next : Machine) → IsStep understands schema m step r next → AreTiles (ranges_of m.slots) → AreTiles (ranges_of next.slots)
step_tiles understands schema m step r next (inl e) tiles = subst (λ (n : Machine). AreTiles (ranges_of n.slots)) (sym e.2.1) (answer_tiles schema m e.0 tiles step)
step_tiles understands schema m step r next (inr e) tiles = subst (λ (n : Machine). AreTiles (ranges_of n.slots)) (sym e.1.1) tiles

tiles_after : (understands : Understanding) (schema : List Table) (m : Machine) (steps : List Step) (replies : List Reply) (last : Machine) → Run understands schema m steps replies last → AreTiles (ranges_of m.slots) → AreTiles (ranges_of last.slots)
tiles_after understands schema m [] [] last run tiles = subst (λ (n : Machine). AreTiles (ranges_of n.slots)) (sym run) tiles
tiles_after understands schema m [] (r ∷ rs) last run tiles = absurd run
tiles_after understands schema m (x ∷ xs) [] last run tiles = absurd run
tiles_after understands schema m (x ∷ xs) (r ∷ rs) last run tiles = tiles_after understands schema run.0 xs rs last run.2 (step_tiles understands schema m x r run.0 run.1 tiles)

-- after every run, with whatever splits, the ranges of the slots in use tile the keys
pub run_tiles : (understands : Understanding) (schema : List Table) (steps : List Step) (replies : List Reply) (last : Machine) → Run understands schema start steps replies last → AreTiles (ranges_of last.slots)
run_tiles understands schema steps replies last run = tiles_after understands schema start steps replies last run start_tiles

-- ---- the slot of a directory

-- the slot that has the directory of a root row
abbrev pub IsHomeOf : List Table → Root → Machine → Type 0
IsHomeOf schema root m = IsHome m.slots (root_code schema root)

pub home_at : (schema : List Table) (m : Machine) → HasRanges schema m → (root : Root) → IsHomeOf schema root m
home_at schema m has root = home_of m.slots (root_code schema root) (has.tiles (root_code schema root))

-- no other slot has it
pub home_only : (schema : List Table) (m : Machine) → HasRanges schema m → (root : Root) (slot : ℕ) (slot_state : SlotState) → slice_get m.slots slot ≡ Some slot_state → holds schema slot_state root ≡ true
    → (i : ℕ) (b : SlotState) → slice_get m.slots i ≡ Some b → holds schema b root ≡ true → i ≡ slot
home_only schema m has root slot slot_state here held i b h k =
    let home = home_at schema m has root in
    home.only i b h k ∙ sym (home.only slot slot_state here held)
