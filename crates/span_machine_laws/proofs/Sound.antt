use Rattle.std.proofs.Common.{◌≡◌, ℕ, ◌<◌, ◌≤◌, true, not, ◌||◌, ◌==◌, nat_lt, nat_le, List, [], ◌∷◌, Some, refl, ap, sym, ◌∙◌, subst, inl, inr, arith}
use Rattle.std.specs.Prelude.{slice_get, slice_set}
use Rattle.std.proofs.lemmas.Bool.Decides.{nat_tests}
use Rattle.std.specs.List.{AllByRecursion, list_all}
use Rattle.span_truetime.specs.Time.{timestamp_of}
use Rattle.span_machine.specs.declared.slot.SlotState.{SlotState}
use Rattle.span_machine.specs.declared.query.OpenQuery.{OpenQuery}
use Rattle.span_machine.specs.declared.transaction.OpenTransaction.{OpenTransaction}
use Rattle.span_machine.specs.declared.transaction.Decision.{Decision}
use Rattle.span_machine.specs.declared.transaction.Decision.TheVariants as decision
use Rattle.span_machine.specs.declared.step.Step.{Step}
use Rattle.span_machine.specs.declared.step.Reply.{Reply}
use Rattle.span_machine.specs.Tables.{upto}
use Rattle.span_keycode.specs.declared.range.KeyRange.{KeyRange}
use Rattle.span_keycode.specs.Parts.{is_within, part_between}
use Rattle.span_keycode.proofs.PartLaws.{part_within, gap_within}
use Rattle.span_machine.specs.declared.query.ScanLeaf.{ScanLeaf}
use Rattle.span_machine.specs.Slots.{has_key, root_code}
use Rattle.span_machine.specs.Machine.{Machine, Understanding, IsStep, answer, start, holds, with_risen_floor, with_slot_state, as_opened, cover, gap_in, changed_first, is_query, is_safe, applied_at, statement_plan}
use Rattle.span_machine.specs.Run.{Run}
use Rattle.span_machine_laws.proofs.Lists.{slice_get-set, set_here, all_without, all_true, all_found, all_changed_found}
use Rattle.span_machine_laws.proofs.Pieces.{AllCovered, none_covered, all_covered_piece}
use Rattle.span_machine_laws.proofs.Ranges.{HasRanges, home_only}
use Rattle.span_machine_laws.proofs.Stability.{changes_at}
use Rattle.span_machine_laws.proofs.Sealed.{IsSealed, IsAbove, answer_keeps}
use Rattle.span_machine_laws.proofs.Walks.{Ends, answer_by}
use Rattle.span_machine_laws.proofs.Holdings.{AreHolding, answer_holding}
use Rattle.span_schema.specs.declared.table.Table.{Table}
use Rattle.span_mutate.specs.Directories.{Root}
use Rattle.span_machine_laws.proofs.Locality.{IsRoot}
use Rattle.span_value.specs.declared.refusal.Refusal.{Refusal}
use Rattle.span_query.specs.declared.query.Statement.{Statement}
use Rattle.std.specs.Prelude.{Result}
use Rattle.std.proofs.lemmas.Option.{same_Some}
use Rattle.std.proofs.lemmas.Bool.{and_parts}
use Rattle.span_value.proofs.Lists.{all_push, all_weaker}

-- ---- the invariant

-- the directories whose root rows are within a range of keys are sealed at s
abbrev pub IsPartSealed : List Table → Machine → ℕ → KeyRange → Type 0
IsPartSealed schema m s part = (root : Root) → IsRoot schema root → is_within part (root_code schema root) ≡ true → IsSealed schema root s m

-- what a query is to see in the pieces that cover its leaves is sealed
abbrev pub IsCoveredSealed : List Table → Machine → OpenQuery → Type 0
IsCoveredSealed schema m q = AllByRecursion (AllCovered (IsPartSealed schema m q.s)) q.leaves

pub record IsSound (schema : List Table) (m : Machine) : Type 0 where
  pub queries : AllByRecursion (IsCoveredSealed schema m) m.queries

-- what the step leaves sealed for each query, where it keeps what was sealed
abbrev pub GoesSound : List Table → Machine → Machine → Type 0
GoesSound schema m n = ((q : OpenQuery) → IsCoveredSealed schema m q → IsCoveredSealed schema n q) → AllByRecursion (IsCoveredSealed schema n) n.queries

pub above_by : (p slot s ts : ℕ) → (not (p == slot) || nat_lt s ts) ≡ true → p ≡ slot → s < ts
above_by p slot s ts e same = grind (arith, nat_tests)

module _ (schema : List Table) (m : Machine) (sound : IsSound schema m) where
  -- the same queries
  goes_same : (n : Machine) → n.queries ≡ m.queries → GoesSound schema m n
  goes_same n e w = subst (AllByRecursion (IsCoveredSealed schema n)) (sym e) (all_weaker (IsCoveredSealed schema m) (IsCoveredSealed schema n) w m.queries sound.queries)

  -- where s is safe at a slot, the floor has reached it, and what is prepared there is above it
  pub above_of_safe : (slot s : ℕ) (slot_state : SlotState) → is_safe m slot slot_state s ≡ true → (s ≤ slot_state.floor) × AllByRecursion (IsAbove s slot) m.transactions
  above_of_safe slot s slot_state safe =
      let low : nat_le s slot_state.floor ≡ true = (and_parts (nat_le s slot_state.floor) _ safe).0 in (
        grind (arith, nat_tests),
        all_true (IsAbove s slot) (λ t. list_all (λ p. not (p.slot == slot) || nat_lt s p.timestamp) t.prepared)
            (λ t e. all_true (λ p. p.slot ≡ slot → s < p.timestamp) (λ p. not (p.slot == slot) || nat_lt s p.timestamp) (λ p e same. above_by p.slot slot s p.timestamp e same) t.prepared e)
            m.transactions (and_parts (nat_le s slot_state.floor) _ safe).1,
      )

  -- the directories of a slot that is safe are sealed
  pub sealed_by_scan : HasRanges schema m → (slot s : ℕ) (before slot_state : SlotState) (queries : List OpenQuery) (root : Root) → slice_get m.slots slot ≡ Some before → holds schema before root ≡ true → is_safe m slot slot_state s ≡ true
      → IsSealed schema root s (record (with_slot_state m slot slot_state) { queries = queries })
  sealed_by_scan ranges slot s before slot_state queries root here held safe =
      let only : (i : ℕ) (b : SlotState) → slice_get (slice_set m.slots slot slot_state) i ≡ Some b → holds schema b root ≡ true → i ≡ slot =
      λ i b h k. elim (slice_get-set m.slots slot i slot_state b h) [
        | inl e ↦ e.0
        | inr g ↦ home_only schema m ranges root slot before here held i b g k
      ] in
      let above = above_of_safe slot s slot_state safe in
      record {
        floors = λ i b h k. let is : b ≡ slot_state = set_here m.slots slot slot_state b (subst (λ j. slice_get (slice_set m.slots slot slot_state) j ≡ Some b) (only i b h k) h) in
            subst (λ (c : SlotState). s ≤ c.floor) (sym is) above.0;
        prepared = λ i b h k. subst (λ j. AllByRecursion (IsAbove s j) m.transactions) (sym (only i b h k)) above.1;
      }

  -- what is within an uncovered part of a leaf in the slot, the slot has
  part_held : (slot_state : SlotState) (l : ScanLeaf) (part : KeyRange) (key : List ℕ) → gap_in slot_state l ≡ Some part → is_within part key ≡ true → has_key slot_state key ≡ true
  part_held slot_state l part key gap within =
      (part_within slot_state.lo slot_state.hi l.leaf.range key (gap_within (part_between slot_state.lo slot_state.hi l.leaf.range) l.covered part key gap within)).0

  -- what is safe now in the one slot that has the directory is sealed now
  pub sealed_when_safe : (slot s : ℕ) (slot_state : SlotState) (root : Root) → slice_get m.slots slot ≡ Some slot_state
      → ((i : ℕ) (b : SlotState) → slice_get m.slots i ≡ Some b → holds schema b root ≡ true → i ≡ slot) → is_safe m slot slot_state s ≡ true → IsSealed schema root s m
  sealed_when_safe slot s slot_state root here only safe =
      let above = above_of_safe slot s slot_state safe in
      record {
        floors = λ i b h k. let is : Some slot_state ≡ Some b = sym here ∙ subst (λ j. slice_get m.slots j ≡ Some b) (only i b h k) h in
            subst (λ (c : SlotState). s ≤ c.floor) (same_Some slot_state b is) above.0;
        prepared = λ i b h k. subst (λ j. AllByRecursion (IsAbove s j) m.transactions) (sym (only i b h k)) above.1;
      }

  goes_applied : (o : Decision) (owner txn slot : ℕ) (t : OpenTransaction) → GoesSound schema m (applied_at o m owner txn slot t).1
  goes_applied decision.Undecided owner txn slot t = goes_same (applied_at decision.Undecided m owner txn slot t).1 refl
  goes_applied decision.Aborted owner txn slot t = goes_same (applied_at decision.Aborted m owner txn slot t).1 refl
  goes_applied (decision.Committed ts) owner txn slot t = goes_same (applied_at (decision.Committed ts) m owner txn slot t).1 refl

  sound_ends : HasRanges schema m → (u : Result Statement Refusal) → Ends schema m u (λ step a. GoesSound schema m a.1)
  sound_ends ranges u = record {
    refuses = λ step why may. goes_same m refl;
    begins = λ owner ms accepted. goes_same _ refl;
    prepares = λ owner txn slot t slot_state found here accepted well fits low. goes_same _ refl;
    commits = λ owner txn interval t found accepted. goes_same _ refl;
    aborts = λ owner txn interval t found open_still. goes_same _ refl;
    applies = λ owner txn slot interval t slot_state found here accepted. goes_applied t.decision owner txn slot t;
    advances = λ slot interval slot_state here. goes_same _ refl;
    trims = λ slot h slot_state here accepted. goes_same _ refl;
    opens = λ text params bound interval asked is accepted w. all_push (IsCoveredSealed schema _) m.queries (as_opened schema m.next_query (timestamp_of bound interval) text params asked)
        (all_weaker (IsCoveredSealed schema m) (IsCoveredSealed schema _) w m.queries sound.queries) (none_covered (IsPartSealed schema _ (timestamp_of bound interval)) (statement_plan schema asked).leaves);
    finds_nothing = λ query leaf slot interval. goes_same m refl;
    scans = λ query leaf slot interval q slot_state l part found here at gap above safe w.
        let after : Machine = record (with_slot_state m slot (with_risen_floor slot_state q.s interval)) { queries = changed_first (is_query query) (cover leaf part) m.queries } in
        let old : AllByRecursion (IsCoveredSealed schema after) m.queries = all_weaker (IsCoveredSealed schema m) (IsCoveredSealed schema after) w m.queries sound.queries in
        all_changed_found (IsCoveredSealed schema after) (is_query query) (cover leaf part) m.queries q found
        (all_covered_piece (IsPartSealed schema after q.s) q.leaves leaf l part at (all_found (IsCoveredSealed schema after) (is_query query) m.queries q found old)
        (λ root is within. sealed_by_scan ranges slot q.s slot_state (with_risen_floor slot_state q.s interval) (changed_first (is_query query) (cover leaf part) m.queries) root here (part_held slot_state l part (root_code schema root) gap within) safe))
        old;
    waits = λ query leaf slot interval q slot_state found here. goes_same _ refl;
    finishes = λ query q found covered. goes_same m refl;
    splits = λ table key code slot slot_state keyed home here accepted. goes_same _ refl;
    closes = λ query q found w. all_without (IsCoveredSealed schema _) (is_query query) m.queries (all_weaker (IsCoveredSealed schema m) (IsCoveredSealed schema _) w m.queries sound.queries);
  }

-- every step leaves the machine sound
pub answer_sound : (schema : List Table) (m : Machine) (u : Result Statement Refusal) → HasRanges schema m → AreHolding m → IsSound schema m → (step : Step) → IsSound schema (answer schema m u step).1
answer_sound schema m u ranges holding sound step = record {
  queries = answer_by schema m u (λ s a. GoesSound schema m a.1) (sound_ends schema m sound ranges u) step
      (λ q. all_weaker (AllCovered (IsPartSealed schema m q.s)) (AllCovered (IsPartSealed schema (answer schema m u step).1 q.s))
      (λ l. all_weaker (IsPartSealed schema m q.s) (IsPartSealed schema (answer schema m u step).1 q.s) (λ part seals root is within. (answer_keeps schema root is q.s m holding (seals root is within) u step).seal) l.covered)
      q.leaves);
}

pub start_sound : (schema : List Table) → IsSound schema start
start_sound schema = record { queries = tt }

-- ---- whole runs

-- one step, out of memory included
pub step_keeps : (understands : Understanding) (schema : List Table) (root : Root) → IsRoot schema root → (s : ℕ) (m : Machine) (step : Step) (r : Reply) (next : Machine) → IsStep understands schema m step r next → AreHolding m → IsSealed schema root s m
    → IsSealed schema root s next × (changes_at schema root (upto next.log s) ≡ changes_at schema root (upto m.log s))
step_keeps understands schema root is s m step r next (inl e) holding sealed =
    let k = answer_keeps schema root is s m holding sealed e.0 step in
    (subst (IsSealed schema root s) (sym e.2.1) k.seal, ap (λ (n : Machine). changes_at schema root (upto n.log s)) e.2.1 ∙ k.same)
step_keeps understands schema root is s m step r next (inr e) holding sealed = (subst (IsSealed schema root s) (sym e.1.1) sealed, ap (λ (n : Machine). changes_at schema root (upto n.log s)) e.1.1)

step_holding : (understands : Understanding) (schema : List Table) (m : Machine) (step : Step) (r : Reply) (next : Machine) → IsStep understands schema m step r next → AreHolding m → AreHolding next
step_holding understands schema m step r next (inl e) holding = subst AreHolding (sym e.2.1) (answer_holding schema m e.0 holding step)
step_holding understands schema m step r next (inr e) holding = subst AreHolding (sym e.1.1) holding

-- a run leaves the changes of a sealed directory
pub run_keeps : (understands : Understanding) (schema : List Table) (root : Root) → IsRoot schema root → (s : ℕ) (m : Machine) (steps : List Step) (replies : List Reply) (last : Machine) → Run understands schema m steps replies last → AreHolding m → IsSealed schema root s m
    → changes_at schema root (upto last.log s) ≡ changes_at schema root (upto m.log s)
run_keeps understands schema root is s m [] [] last run holding sealed = ap (λ (n : Machine). changes_at schema root (upto n.log s)) run
run_keeps understands schema root is s m [] (r ∷ rs) last run holding sealed = absurd run
run_keeps understands schema root is s m (x ∷ xs) [] last run holding sealed = absurd run
run_keeps understands schema root is s m (x ∷ xs) (r ∷ rs) last run holding sealed =
    let one = step_keeps understands schema root is s m x r run.0 run.1 holding sealed in
    run_keeps understands schema root is s run.0 xs rs last run.2 (step_holding understands schema m x r run.0 run.1 holding) one.0 ∙ one.1
