use Rattle.std.proofs.Common.{◌≡◌, nat_lt, ℕ, ◌≤◌, ◌<◌, ◌^◌, ◌==◌, cond, subst, length, Bool, true, false, not, List, [], ◌∷◌, Option, Some, None, refl, ap, sym, ◌∙◌, arith}
use Rattle.std.proofs.lemmas.Bool.Decides.{nat_tests}
use Rattle.std.specs.List.{list_all}
use Rattle.std.specs.Prelude.{find, option_map, slice_get, slice_set, remove}
use Rattle.std.proofs.lemmas.Option.{same_Some}
use Rattle.span_truetime.specs.declared.interval.Interval.{Interval}
use Rattle.span_schema.specs.declared.table.Table.{Table}
use Rattle.span_machine.specs.declared.slot.SlotState.{SlotState}
use Rattle.span_machine.specs.declared.transaction.OpenTransaction.{OpenTransaction}
use Rattle.span_machine.specs.Place.{IsPlace}
use Rattle.span_value.specs.declared.refusal.Refusal.{Refusal}
use Rattle.span_value.specs.Results.{first_cause}
use Rattle.span_keycode.specs.declared.range.KeyRange.{KeyRange}
use Rattle.span_fragment.specs.declared.piece.Piece.{Piece}
use Rattle.span_transactions.specs.States.{has_wrong_state, decision_of}
use Rattle.span_openqueries.specs.Targets.{IsTarget, target_refusal, is_free}
use Rattle.span_journal.specs.Judged.{leaf_of, IsNoted, IsApplied, MayScan, IsRegistered}
use Rattle.span_journal.specs.Scans.{piece_refusal, register_refusal, IsRisen}
use Rattle.span_journal.proofs.Gaps.{gap_free}
use Rattle.span_journal.proofs.Preparing.{may_note}
use Rattle.span_value.specs.declared.refusal.Refusal.TheVariants as refusal
use Rattle.span_machine.specs.declared.query.ScanLeaf.{ScanLeaf}
use Rattle.span_machine.specs.declared.query.OpenQuery.{OpenQuery}
use Rattle.span_machine.specs.declared.step.Reply.TheVariants as reply
use Rattle.span_machine.specs.Machine.{Machine, refused, if_some, is_query, is_transaction, without_first, closed, close, add_prepared, without_prepared, prepare_timestamp, with_last, apply_refusal, applied, applied_at, scan, scan_leaf, scan_gap, scanned, is_safe, with_risen_floor, with_slot_state, changed_first, cover, gap_in, finish, finish_query, is_covered, answer_on, meaning}
use Rattle.span_machine.specs.Pieces.{Pieced, Journaled, machine_of, queries_of, covered_by}
use Rattle.span_machine.proofs.PiecedLists.{find-map, without_first-map}

-- the query of the machine is that of the piece
pub found_query : (ps : List Pieced) (query : ℕ) (o : Option Pieced) → find (λ p. is_query query p.query) ps ≡ o → find (is_query query) (queries_of ps) ≡ option_map (λ p. p.query) o
found_query ps query o e = find-map (λ (p : Pieced). p.query) (is_query query) ps ∙ ap (option_map (λ (p : Pieced). p.query)) e

-- a query that is not there is not closed
pub close_none : (j : Journaled) (query : ℕ) → find (λ p. is_query query p.query) j.queries ≡ None → close (machine_of j) query ≡ refused (machine_of j) refusal.UnknownQuery
close_none j query e = ap (λ (o : Option OpenQuery). if_some o (refused (machine_of j) refusal.UnknownQuery) (closed (machine_of j) query)) (found_query j.queries query None e)

-- a query that is there is closed
pub close_some : (j : Journaled) (query : ℕ) (p : Pieced) → find (λ p. is_query query p.query) j.queries ≡ Some p
    → close (machine_of j) query ≡ (reply.Closed, machine_of (record j { queries = without_first (λ p. is_query query p.query) j.queries }))
close_some j query p e =
    ap (λ (o : Option OpenQuery). if_some o (refused (machine_of j) refusal.UnknownQuery) (closed (machine_of j) query)) (found_query j.queries query (Some p) e)
    ∙ ap (λ (qs : List OpenQuery). (reply.Closed, record (machine_of j) { queries = qs })) (without_first-map (λ (p : Pieced). p.query) (is_query query) j.queries)

-- ---- prepare and apply

-- a transaction is noted as prepared
pub noted : (j : Journaled) (owner txn slot ts at : ℕ) (t : OpenTransaction) (slot_state : SlotState) (bs : List SlotState) (txs : List OpenTransaction)
    → IsPlace (is_transaction owner txn) j.transactions at t → slice_get j.slots slot ≡ Some slot_state → has_wrong_state slot t ≡ false → ts ≡ prepare_timestamp slot_state → ts < 2 ^ 62
    → bs ≡ slice_set j.slots slot (record slot_state { last = ts }) → txs ≡ slice_set j.transactions at (add_prepared slot ts t)
    → IsNoted (machine_of j) owner txn slot ts (machine_of (record j { slots = bs; transactions = txs }))
noted j owner txn slot ts at t slot_state bs txs place here right is early slots_are txs_are = record {
  transaction = t;
  slot_state = slot_state;
  found = place.found;
  here = here;
  accepted = may_note slot t slot_state right (subst (λ n. n < 2 ^ 62) is early);
  at = is;
  after = ap (λ (l : List SlotState). machine_of (record j { slots = l; transactions = txs })) (slots_are ∙ ap (λ n. slice_set j.slots slot (record slot_state { last = n })) is)
      ∙ ap (λ (l : List OpenTransaction). machine_of (record j { slots = slice_set j.slots slot (record slot_state { last = prepare_timestamp slot_state }); transactions = l }))
      (txs_are ∙ ap (λ n. slice_set j.transactions at (add_prepared slot n t)) is ∙ sym (place.changed (add_prepared slot (prepare_timestamp slot_state))));
}

-- the last timestamps once a transaction is applied
abbrev pub slots_after : List SlotState → ℕ → Option ℕ → List SlotState
slots_after slots slot None = slots
slots_after slots slot (Some ts) = with_last slots slot ts

applied_is : (j : Journaled) (owner txn slot : ℕ) (t : OpenTransaction) (committed : Option ℕ)
    → machine_of (record j { slots = slots_after j.slots slot committed; transactions = applied (machine_of j) owner txn slot t }) ≡ (applied_at (decision_of committed) (machine_of j) owner txn slot t).1
applied_is j owner txn slot t None = refl
applied_is j owner txn slot t (Some ts) = refl

-- a transaction is noted as applied
pub applied_noted : (j : Journaled) (owner txn slot at : ℕ) (interval : Interval) (t : OpenTransaction) (slot_state : SlotState) (committed : Option ℕ) (bs : List SlotState) (txs : List OpenTransaction)
    → IsPlace (is_transaction owner txn) j.transactions at t → slice_get j.slots slot ≡ Some slot_state → apply_refusal slot t interval ≡ None → t.decision ≡ decision_of committed
    → bs ≡ slots_after j.slots slot committed
    → txs ≡ cond (length (without_prepared slot t).prepared == 0) (remove j.transactions at) (slice_set j.transactions at (without_prepared slot t))
    → IsApplied (machine_of j) owner txn slot interval committed (machine_of (record j { slots = bs; transactions = txs }))
applied_noted j owner txn slot at interval t slot_state committed bs txs place here accepted decision_reply slots_are txs_are = record {
  transaction = t;
  slot_state = slot_state;
  found = place.found;
  here = here;
  accepted = accepted;
  decision = decision_reply;
  after = ap (λ (l : List SlotState). machine_of (record j { slots = l; transactions = txs })) slots_are
      ∙ ap (λ (l : List OpenTransaction). machine_of (record j { slots = slots_after j.slots slot committed; transactions = l }))
      (txs_are ∙ ap (λ (l : List OpenTransaction). cond (length (without_prepared slot t).prepared == 0) l (slice_set j.transactions at (without_prepared slot t))) (sym place.without)
      ∙ ap (λ (l : List OpenTransaction). cond (length (without_prepared slot t).prepared == 0) (without_first (is_transaction owner txn) j.transactions) l) (sym (place.changed (without_prepared slot))))
      ∙ applied_is j owner txn slot t committed;
}

-- ---- scan and finish

pub is_below : (s q h : ℕ) → s ≡ q → s < h → nat_lt q h ≡ true
is_below s q h same low = grind (arith, nat_tests)

pub is_not_below : (s q h : ℕ) → s ≡ q → h ≤ s → nat_lt q h ≡ false
is_not_below s q h same high = grind (arith, nat_tests)

-- what is made of the query, its leaf and the slot of these numbers, or of why they are not there
abbrev looked : {A : Type 0} → Machine → ℕ → ℕ → ℕ → (Refusal → A) → (OpenQuery → ScanLeaf → SlotState → A) → A
looked m query leaf slot miss make =
    if_some (find (is_query query) m.queries) (miss refusal.UnknownQuery)
    (λ q. if_some (slice_get q.leaves leaf) (miss refusal.UnknownQuery) (λ l. if_some (slice_get m.slots slot) (miss refusal.NoSlot) (make q l)))

module _ {A : Type 0} (j : Journaled) (query leaf slot : ℕ) (miss : Refusal → A) (make : OpenQuery → ScanLeaf → SlotState → A) where
  looked_query : (o : Option Pieced) → find (λ p. is_query query p.query) j.queries ≡ o
      → looked (machine_of j) query leaf slot miss make ≡ if_some o (miss refusal.UnknownQuery)
      (λ p. if_some (slice_get p.query.leaves leaf) (miss refusal.UnknownQuery) (λ l. if_some (slice_get j.slots slot) (miss refusal.NoSlot) (make p.query l)))
  looked_query o e =
      ap (λ (p : Option OpenQuery). if_some p (miss refusal.UnknownQuery)
      (λ q. if_some (slice_get q.leaves leaf) (miss refusal.UnknownQuery) (λ l. if_some (slice_get j.slots slot) (miss refusal.NoSlot) (make q l)))) (found_query j.queries query o e)
      ∙ mapped o
    where
      mapped : (p : Option Pieced) → if_some (option_map (λ (x : Pieced). x.query) p) (miss refusal.UnknownQuery)
          (λ q. if_some (slice_get q.leaves leaf) (miss refusal.UnknownQuery) (λ l. if_some (slice_get j.slots slot) (miss refusal.NoSlot) (make q l)))
          ≡ if_some p (miss refusal.UnknownQuery)
          (λ x. if_some (slice_get x.query.leaves leaf) (miss refusal.UnknownQuery) (λ l. if_some (slice_get j.slots slot) (miss refusal.NoSlot) (make x.query l)))
      mapped None = refl
      mapped (Some x) = refl

  looked_leaf : (p : Pieced) → find (λ p. is_query query p.query) j.queries ≡ Some p → (o : Option ScanLeaf) → slice_get p.query.leaves leaf ≡ o
      → looked (machine_of j) query leaf slot miss make ≡ if_some o (miss refusal.UnknownQuery) (λ l. if_some (slice_get j.slots slot) (miss refusal.NoSlot) (make p.query l))
  looked_leaf p found o e =
      looked_query (Some p) found ∙ ap (λ (q : Option ScanLeaf). if_some q (miss refusal.UnknownQuery) (λ l. if_some (slice_get j.slots slot) (miss refusal.NoSlot) (make p.query l))) e

  looked_slot : (p : Pieced) → find (λ p. is_query query p.query) j.queries ≡ Some p → (l : ScanLeaf) → slice_get p.query.leaves leaf ≡ Some l → (o : Option SlotState) → slice_get j.slots slot ≡ o
      → looked (machine_of j) query leaf slot miss make ≡ if_some o (miss refusal.NoSlot) (make p.query l)
  looked_slot p found l there o e =
      looked_leaf p found (Some l) there ∙ ap (λ (q : Option SlotState). if_some q (miss refusal.NoSlot) (make p.query l)) e

  -- where they are there
  looked_found : (at : ℕ) (p : Pieced) (l : ScanLeaf) (b : SlotState) → IsTarget j.queries j.slots query leaf slot at p l b → looked (machine_of j) query leaf slot miss make ≡ make p.query l b
  looked_found at p l b t = looked_slot p t.place.found l t.there (Some b) t.here

  -- where they are not
  looked_missing : (why : Refusal) → target_refusal j.queries j.slots query leaf slot ≡ Some why → looked (machine_of j) query leaf slot miss make ≡ miss why
  looked_missing why = elim (find (λ (p : Pieced). is_query query p.query) j.queries) as (λ o. find (λ (p : Pieced). is_query query p.query) j.queries ≡ o
      → if_some o (Some refusal.UnknownQuery) (λ p. if_some (slice_get p.query.leaves leaf) (Some refusal.UnknownQuery) (λ l. if_some (slice_get j.slots slot) (Some refusal.NoSlot) (λ b. None))) ≡ Some why
      → looked (machine_of j) query leaf slot miss make ≡ miss why) [
        | None ↦ λ e w. looked_query None e ∙ ap miss (same_Some refusal.UnknownQuery why w)
        | Some p ↦ λ e. elim (slice_get p.query.leaves leaf) as (λ o. slice_get p.query.leaves leaf ≡ o
            → if_some o (Some refusal.UnknownQuery) (λ l. if_some (slice_get j.slots slot) (Some refusal.NoSlot) (λ b. None)) ≡ Some why
            → looked (machine_of j) query leaf slot miss make ≡ miss why) [
              | None ↦ λ f w. looked_leaf p e None f ∙ ap miss (same_Some refusal.UnknownQuery why w)
              | Some l ↦ λ f. elim (slice_get j.slots slot) as (λ o. slice_get j.slots slot ≡ o
                  → if_some o (Some refusal.NoSlot) (λ b. None) ≡ Some why
                  → looked (machine_of j) query leaf slot miss make ≡ miss why) [
                    | None ↦ λ g w. looked_slot p e l f None g ∙ ap miss (same_Some refusal.NoSlot why w)
                    | Some b ↦ λ g w. absurd (let w : None ≡ Some why = w in cc)
                  ] refl
            ] refl
      ] refl

-- ---- a scan

-- nothing to scan
pub scan_missing : (j : Journaled) (query leaf slot : ℕ) (interval : Interval) (why : Refusal) → target_refusal j.queries j.slots query leaf slot ≡ Some why
    → scan (machine_of j) query leaf slot interval ≡ refused (machine_of j) why
scan_missing j query leaf slot interval why e = looked_missing j query leaf slot (refused (machine_of j)) (scan_leaf (machine_of j) query leaf slot interval) why e

module _ (j : Journaled) (query leaf slot : ℕ) (interval : Interval) (at : ℕ) (p : Pieced) (l : ScanLeaf) (slot_state : SlotState) (t : IsTarget j.queries j.slots query leaf slot at p l slot_state) where
  abbrev m : Machine
  m = machine_of j

  abbrev s : ℕ
  s = p.query.s

  abbrev risen : SlotState
  risen = with_risen_floor slot_state s interval

  scan_in : scan m query leaf slot interval ≡ scan_leaf m query leaf slot interval p.query l slot_state
  scan_in = looked_found j query leaf slot (refused m) (scan_leaf m query leaf slot interval) at p l slot_state t

  pub scan_nothing : gap_in slot_state l ≡ None → scan m query leaf slot interval ≡ (reply.Nothing, m)
  scan_nothing none = scan_in ∙ ap (λ (o : Option KeyRange). if_some o (reply.Nothing, m) (scan_gap m query leaf slot interval p.query slot_state)) none

  module _ (part : KeyRange) (gap : gap_in slot_state l ≡ Some part) where
    -- what is left once the part is found
    scan_part : scan m query leaf slot interval ≡ scan_gap m query leaf slot interval p.query slot_state part
    scan_part = scan_in ∙ ap (λ (o : Option KeyRange). if_some o (reply.Nothing, m) (scan_gap m query leaf slot interval p.query slot_state)) gap

    -- below the horizon nothing is read
    pub scan_trimmed : nat_lt s slot_state.horizon ≡ true → scan m query leaf slot interval ≡ refused m refusal.Trimmed
    scan_trimmed below = scan_part ∙ ap (λ b. cond b (refused m refusal.Trimmed) (scanned m query leaf part slot risen s)) below

    pub scan_waits : nat_lt s slot_state.horizon ≡ false → is_safe m slot risen s ≡ false → (bs : List SlotState) → bs ≡ slice_set j.slots slot risen
        → scan m query leaf slot interval ≡ (reply.Refused refusal.NotYet, machine_of (record j { slots = bs }))
    scan_waits above unsafe bs slots_are = scan_part
        ∙ ap (λ b. cond b (refused m refusal.Trimmed) (scanned m query leaf part slot risen s)) above
        ∙ ap (λ b. cond b (reply.Scanned, record (with_slot_state m slot risen) { queries = changed_first (is_query query) (cover leaf part) m.queries }) (reply.Refused refusal.NotYet, with_slot_state m slot risen)) unsafe
        ∙ ap (λ (bks : List SlotState). (reply.Refused refusal.NotYet, machine_of (record j { slots = bks }))) (sym slots_are)

    pub may_scan : nat_lt s slot_state.horizon ≡ false → is_safe m slot risen s ≡ true → MayScan m query leaf slot interval part s
    may_scan above safe = record {
      question = p.query;
      gap = l;
      slot_state = slot_state;
      part = part;
      found = found_query j.queries query (Some p) t.place.found;
      there = t.there;
      here = t.here;
      uncovered = gap;
      free = gap_free slot_state l part t.apart gap;
      of_part = refl;
      at = refl;
      above = above;
      safe = safe;
    }

  -- ---- a piece

  module _ (range : KeyRange) where
    register_in : register_refusal m query leaf slot interval range ≡ piece_refusal m slot interval range s l slot_state
    register_in = looked_found j query leaf slot (λ why. Some why) (λ q k b. piece_refusal m slot interval range q.s k b) at p l slot_state t

    by_tests : (free below safe : Bool) → is_free slot_state l range ≡ free → nat_lt s slot_state.horizon ≡ below → is_safe m slot risen s ≡ safe
        → register_refusal m query leaf slot interval range ≡ first_cause ((not free, refusal.Incomplete) ∷ (below, refusal.Trimmed) ∷ (not safe, refusal.NotYet) ∷ [])
    by_tests free below safe is_free is_below is_safe_is = register_in
        ∙ ap (λ b. first_cause ((not b, refusal.Incomplete) ∷ (nat_lt s slot_state.horizon, refusal.Trimmed) ∷ (not (is_safe m slot risen s), refusal.NotYet) ∷ [])) is_free
        ∙ ap (λ b. first_cause ((not free, refusal.Incomplete) ∷ (b, refusal.Trimmed) ∷ (not (is_safe m slot risen s), refusal.NotYet) ∷ [])) is_below
        ∙ ap (λ b. first_cause ((not free, refusal.Incomplete) ∷ (below, refusal.Trimmed) ∷ (not b, refusal.NotYet) ∷ [])) is_safe_is

    pub piece_taken : is_free slot_state l range ≡ false → register_refusal m query leaf slot interval range ≡ Some refusal.Incomplete
    piece_taken taken = by_tests false (nat_lt s slot_state.horizon) (is_safe m slot risen s) taken refl refl

    pub piece_trimmed : is_free slot_state l range ≡ true → nat_lt s slot_state.horizon ≡ true → register_refusal m query leaf slot interval range ≡ Some refusal.Trimmed
    piece_trimmed free below = by_tests true true (is_safe m slot risen s) free below refl

    pub piece_waits : is_free slot_state l range ≡ true → nat_lt s slot_state.horizon ≡ false → is_safe m slot risen s ≡ false → register_refusal m query leaf slot interval range ≡ Some refusal.NotYet
    piece_waits free above unsafe = by_tests true false false free above unsafe

  -- the slot's floor has risen
  pub is_risen : (bs : List SlotState) → bs ≡ slice_set j.slots slot risen → IsRisen j query slot interval (record j { slots = bs })
  is_risen bs slots_are = record {
    question = p;
    slot_state = slot_state;
    found = t.place.found;
    here = t.here;
    after = ap (λ (l : List SlotState). record j { slots = l }) slots_are;
  }

  -- the piece is registered
  pub is_registered : (range : KeyRange) (piece : Piece) (bs : List SlotState) (qs : List Pieced) → is_free slot_state l range ≡ true → nat_lt s slot_state.horizon ≡ false → is_safe m slot risen s ≡ true
      → bs ≡ slice_set j.slots slot risen → qs ≡ slice_set j.queries at (covered_by leaf range piece p)
      → IsRegistered j query leaf slot interval range piece (record j { slots = bs; queries = qs })
  is_registered range piece bs qs free above safe slots_are queries_are = record {
    question = p;
    gap = l;
    slot_state = slot_state;
    found = t.place.found;
    there = t.there;
    here = t.here;
    free = free;
    above = above;
    safe = safe;
    after = ap (λ (k : List SlotState). record j { slots = k; queries = qs }) slots_are
        ∙ ap (λ (k : List Pieced). record j { slots = slice_set j.slots slot risen; queries = k }) (queries_are ∙ sym (t.place.changed (covered_by leaf range piece)));
  }

-- why a piece is not registered: nothing to scan
pub register_missing : (j : Journaled) (query leaf slot : ℕ) (interval : Interval) (range : KeyRange) (why : Refusal) → target_refusal j.queries j.slots query leaf slot ≡ Some why
    → register_refusal (machine_of j) query leaf slot interval range ≡ Some why
register_missing j query leaf slot interval range why e = looked_missing j query leaf slot (λ w. Some w) (λ q l b. piece_refusal (machine_of j) slot interval range q.s l b) why e

-- a query that is not there has no answer
pub finish_none : (schema : List Table) (j : Journaled) (query : ℕ) → find (λ p. is_query query p.query) j.queries ≡ None → finish schema (machine_of j) query ≡ refused (machine_of j) refusal.UnknownQuery
finish_none schema j query e = ap (λ (o : Option OpenQuery). if_some o (refused (machine_of j) refusal.UnknownQuery) (finish_query schema (machine_of j))) (found_query j.queries query None e)

pub finish_some : (schema : List Table) (j : Journaled) (query : ℕ) (p : Pieced) → find (λ p. is_query query p.query) j.queries ≡ Some p → finish schema (machine_of j) query ≡ finish_query schema (machine_of j) p.query
finish_some schema j query p e = ap (λ (o : Option OpenQuery). if_some o (refused (machine_of j) refusal.UnknownQuery) (finish_query schema (machine_of j))) (found_query j.queries query (Some p) e)

pub finish_uncovered : (schema : List Table) (j : Journaled) (query : ℕ) (p : Pieced) → find (λ p. is_query query p.query) j.queries ≡ Some p → list_all is_covered p.query.leaves ≡ false → finish schema (machine_of j) query ≡ refused (machine_of j) refusal.Incomplete
finish_uncovered schema j query p found uncovered =
    finish_some schema j query p found ∙ ap (λ b. cond b (answer_on p.query.s (meaning schema (machine_of j) p.query), machine_of j) (refused (machine_of j) refusal.Incomplete)) uncovered

-- the leaf of a query that is not there, and of one that is
pub leaf_none : (j : Journaled) (query leaf : ℕ) → find (λ p. is_query query p.query) j.queries ≡ None → leaf_of (machine_of j) query leaf ≡ None
leaf_none j query leaf e = ap (λ (o : Option OpenQuery). if_some o None (λ q. option_map (λ (l : ScanLeaf). l.leaf) (slice_get q.leaves leaf))) (found_query j.queries query None e)

pub leaf_some : (j : Journaled) (query leaf : ℕ) (p : Pieced) → find (λ p. is_query query p.query) j.queries ≡ Some p → leaf_of (machine_of j) query leaf ≡ option_map (λ (l : ScanLeaf). l.leaf) (slice_get p.query.leaves leaf)
leaf_some j query leaf p e = ap (λ (o : Option OpenQuery). if_some o None (λ q. option_map (λ (l : ScanLeaf). l.leaf) (slice_get q.leaves leaf))) (found_query j.queries query (Some p) e)
