-- Scan of a leaf in a slot.
use Rattle.std.proofs.Common.{◌≡◌, ℕ, ◌≤◌, cond, true, List, Option, Some, None, refl, ap, sym, ◌∙◌, subst, inl, inr}
use Rattle.std.specs.Prelude.{IfSome, MatchOption, Result, Err, find, slice_get, option_map}
use Rattle.std.specs.List.{AllByRecursion}
use Rattle.span_schema.specs.Numbers.{IsTable}
use Rattle.span_columns.specs.declared.leaf.Leaf.{Leaf}
use Rattle.span_leaves.specs.Maskable.{IsMaskable}
use Rattle.std.proofs.lemmas.Bool.{ltb-false}
use Rattle.std.proofs.lemmas.Option.{same_Some}
use Rattle.span_value.specs.declared.refusal.Refusal.{Refusal}
use Rattle.span_value.specs.declared.refusal.Refusal.TheVariants as refusal
use Rattle.span_truetime.specs.declared.interval.Interval.{Interval}
use Rattle.span_schema.specs.declared.table.Table.{Table}
use Rattle.span_keycode.specs.declared.range.KeyRange.{KeyRange}
use Rattle.span_fragment.specs.declared.piece.Piece.{Piece}
use Rattle.span_fragment.specs.Pieces.{IsPieceOf}
use Rattle.span_shard.specs.KeyVersions.{KeyVersions}
use Rattle.span_shard.specs.Shard.{snapshot}
use Rattle.span_machine.specs.declared.step.Step.TheVariants as step
use Rattle.span_machine.specs.declared.step.Reply.TheVariants as reply
use Rattle.span_machine.specs.declared.slot.SlotState.{SlotState}
use Rattle.span_machine.specs.declared.query.ScanLeaf.{ScanLeaf}
use Rattle.span_machine.specs.declared.query.OpenQuery.{OpenQuery}
use Rattle.span_machine.specs.Machine.{Machine, Answer, IsAnswer, refused, if_some, for_slot, is_query, is_safe, with_risen_floor, with_slot_state, cover, changed_first, gap_in, scan, scan_query, scan_leaf, scan_gap, scanned}
use Rattle.span_machine.specs.Pieces.{Pieced, Journaled, covered_by, machine_of, queries_of}
use Rattle.span_machine_laws.proofs.Reached.{IsReached, answer_reached, reached_tables}
use Rattle.span_version_laws.specs.Kept.{AreAllKept, ArePieced}
use Rattle.span_version_laws.proofs.AllKept.{all_kept_by_step}
use Rattle.span_version_laws.proofs.Snapshots.{snapshot_when_safe}
use Rattle.span_version_laws.proofs.Covers.{pieced_tables, pieced_maskable, pieced_scanned, covered-queries, find-queries, found_query}
use Rattle.span_journal.specs.Judged.{leaf_of, MayScan, IsRegistered}
use Rattle.span_parts.specs.Whole.{Shards, IsWhole, IsRead, IsReadFor, IsUnread}
use Rattle.span_parts.proofs.Wholes.{no_text}

-- the answer of a scan that covers a part of a leaf
abbrev covers : Machine → ℕ → ℕ → KeyRange → ℕ → SlotState → Answer
covers m query leaf part slot slot_state = (reply.Scanned, record (with_slot_state m slot slot_state) { queries = changed_first (is_query query) (cover leaf part) m.queries })

abbrev waits : Machine → ℕ → SlotState → Answer
waits m slot slot_state = (reply.Refused refusal.NotYet, with_slot_state m slot slot_state)

abbrev nothing : Machine → Answer
nothing m = (reply.Nothing, m)

-- the pieces of an open query
pub piece_of : (ps : List Pieced) (query : ℕ) (q : OpenQuery) → find (is_query query) (queries_of ps) ≡ Some q → (p : Pieced) × (find (λ (x : Pieced). is_query query x.query) ps ≡ Some p) × (p.query ≡ q)
piece_of ps query q found = elim (find (λ (x : Pieced). is_query query x.query) ps) as (λ o. find (λ (x : Pieced). is_query query x.query) ps ≡ o → (p : Pieced) × (o ≡ Some p) × (p.query ≡ q)) [
  | None ↦ λ e. absurd (none_found (sym found ∙ find-queries (is_query query) ps ∙ ap (option_map (λ (x : Pieced). x.query)) e))
  | Some p ↦ λ e. (p, refl, same_Some p.query q (sym (ap (option_map (λ (x : Pieced). x.query)) e) ∙ sym (find-queries (is_query query) ps) ∙ found))
] refl
  where
    none_found : Some q ≡ None → ⊥
    none_found e = cc

module _ (schema : List Table) (j : Journaled) (shards : Shards) (w : IsWhole schema j shards) (query leaf slot : ℕ) (interval : Interval) (range : KeyRange) (s : ℕ) (d : MayScan (machine_of j) query leaf slot interval range s) where
  abbrev m : Machine
  m = machine_of j

  abbrev risen : SlotState
  risen = with_risen_floor d.slot_state d.question.s interval

  scan_is : scan m query leaf slot interval ≡ covers m query leaf d.part slot risen
  scan_is =
      ap (λ (o : Option OpenQuery). if_some o (refused m refusal.UnknownQuery) (scan_query m query leaf slot interval)) d.found
      ∙ ap (λ (o : Option ScanLeaf). if_some o (refused m refusal.UnknownQuery) (λ l. for_slot m slot (scan_leaf m query leaf slot interval d.question l))) d.there
      ∙ ap (λ (o : Option SlotState). if_some o (refused m refusal.NoSlot) (scan_leaf m query leaf slot interval d.question d.gap)) d.here
      ∙ ap (λ (o : Option KeyRange). if_some o (nothing m) (scan_gap m query leaf slot interval d.question d.slot_state)) d.uncovered
      ∙ ap (λ b. cond b (refused m refusal.Trimmed) (scanned m query leaf d.part slot risen d.question.s)) d.above
      ∙ ap (λ b. cond b (covers m query leaf d.part slot risen) (waits m slot risen)) d.safe

  -- the leaf that may be scanned
  pub scanned_leaf : leaf_of m query leaf ≡ Some d.gap.leaf
  scanned_leaf =
      ap (λ (o : Option OpenQuery). if_some o None (λ q. option_map (λ (l : ScanLeaf). l.leaf) (slice_get q.leaves leaf))) d.found
      ∙ ap (option_map (λ (l : ScanLeaf). l.leaf)) d.there

  -- its tables are tables of the schema
  pub scanned_tables : IfSome (leaf_of m query leaf) (λ l. AllByRecursion (IsTable schema) l.tables)
  scanned_tables =
      let p = piece_of j.queries query d.question d.found in
      let there : slice_get p.0.query.leaves leaf ≡ Some d.gap = ap (λ (q : OpenQuery). slice_get q.leaves leaf) p.2 ∙ d.there in
      subst (λ (o : Option Leaf). IfSome o (λ l. AllByRecursion (IsTable schema) l.tables)) (sym scanned_leaf) (pieced_tables schema m j.queries query p.0 leaf d.gap w.pieced p.1 there)

  -- it is maskable
  pub scanned_maskable : IfSome (leaf_of m query leaf) (IsMaskable schema)
  scanned_maskable =
      let p = piece_of j.queries query d.question d.found in
      let there : slice_get p.0.query.leaves leaf ≡ Some d.gap = ap (λ (q : OpenQuery). slice_get q.leaves leaf) p.2 ∙ d.there in
      subst (λ (o : Option Leaf). IfSome o (IsMaskable schema)) (sym scanned_leaf) (pieced_maskable schema m j.queries query p.0 leaf d.gap w.pieced p.1 there)

  -- where a leaf may be scanned, memory alone may run out
  pub reads : (cs : List KeyVersions) → slice_get shards slot ≡ Some cs → (why : Refusal) → IsUnread schema cs range s why → why ≡ refusal.OutOfMemory
  reads cs there why (inl memory) = memory
  reads cs there why (inr none) =
      let made = reached_tables schema w.rules m d.question.s w.reached in
      let seen = snapshot_when_safe schema w.rules m slot d.slot_state risen cs d.question.s w.reached (w.kept.each slot cs there) d.here d.safe (ltb-false d.question.s d.slot_state.horizon d.above) made.0 made.1 range in
      absurd (none seen.rows seen.typed (ap (λ i. snapshot range i cs) d.at ∙ seen.entries_are))

  module _ (piece : Piece) (k : Journaled) (g : IsRegistered j query leaf slot interval range piece k) where
    same : g.question.query ≡ d.question
    same = same_Some _ _ (sym (found_query query j.queries g.question g.found) ∙ d.found)

    -- the journal has taken the step
    registered_is : machine_of k ≡ (scan m query leaf slot interval).1
    registered_is =
        let slot_state_same : g.slot_state ≡ d.slot_state = same_Some _ _ (sym g.here ∙ d.here) in
        let risen_same : with_risen_floor g.slot_state g.question.query.s interval ≡ risen =
        ap (λ (b : SlotState). with_risen_floor b g.question.query.s interval) slot_state_same ∙ ap (λ (q : OpenQuery). with_risen_floor d.slot_state q.s interval) same in
        ap machine_of g.after
        ∙ ap (λ (b : SlotState). machine_of (record j { slots = (with_slot_state m slot b).slots; queries = changed_first (λ (p : Pieced). is_query query p.query) (covered_by leaf range piece) j.queries })) risen_same
        ∙ ap (λ (qs : List OpenQuery). record (with_slot_state m slot risen) { queries = qs }) (sym (covered-queries (is_query query) leaf range piece j.queries))
        ∙ ap (λ (r : KeyRange). (covers m query leaf r slot risen).1) d.of_part
        ∙ sym (ap (λ (a : Answer). a.1) scan_is)

    pub scanned_answer : IsAnswer (scan m query leaf slot interval) reply.Scanned (machine_of k)
    scanned_answer = (sym (ap (λ (a : Answer). a.0) scan_is), registered_is)

    -- the piece has the rows of its range
    pub scanned_whole : (cs : List KeyVersions) → slice_get shards slot ≡ Some cs → IsReadFor schema m query leaf cs range s piece → IsWhole schema k shards
    scanned_whole cs there reading_of =
        let reading : IsRead schema cs range s d.gap.leaf d.question.top leaf piece = reading_of d.question d.gap.leaf d.found scanned_leaf in
        let read_at : s ≡ g.question.query.s = d.at ∙ ap (λ (q : OpenQuery). q.s) (sym same) in
        let safe : is_safe m slot risen g.question.query.s ≡ true = ap (λ (q : OpenQuery). is_safe m slot risen q.s) same ∙ d.safe in
        let high : d.slot_state.horizon ≤ g.question.query.s = subst (λ (q : OpenQuery). d.slot_state.horizon ≤ q.s) (sym same) (ltb-false d.question.s d.slot_state.horizon d.above) in
        let leaf_there : slice_get g.question.query.leaves leaf ≡ Some d.gap = ap (λ (q : OpenQuery). slice_get q.leaves leaf) same ∙ d.there in
        let part : gap_in d.slot_state d.gap ≡ Some range = d.uncovered ∙ ap (λ (r : KeyRange). Some r) (sym d.of_part) in
        let reading_there : IsPieceOf schema d.gap.leaf g.question.query.top leaf (snapshot range g.question.query.s cs) piece =
        subst (λ i. IsPieceOf schema d.gap.leaf g.question.query.top leaf (snapshot range i cs) piece) read_at
        (subst (λ (q : OpenQuery). IsRead schema cs range s d.gap.leaf q.top leaf piece) (sym same) reading) in
        let pieced : ArePieced schema m (changed_first (λ (x : Pieced). is_query query x.query) (covered_by leaf range piece) j.queries) =
        pieced_scanned schema w.rules m cs j.queries w.reached (w.kept.each slot cs there) w.pieced query g.question d.slot_state risen g.found d.here safe high leaf d.gap range leaf_there part piece reading_there in
        record {
          rules = w.rules;
          reached = subst (IsReached schema) (sym registered_is) (answer_reached schema w.rules m w.reached no_text (step.Scan query leaf slot interval) tt);
          kept = subst (λ (n : Machine). AreAllKept schema n shards) (sym registered_is)
              (all_kept_by_step schema m w.reached shards no_text (step.Scan query leaf slot interval) tt w.kept);
          pieced = subst (λ (l : Journaled). ArePieced schema (machine_of l) l.queries) (sym g.after) pieced;
        }

-- ---- what is read of a leaf that is there

pub of_leaf : (Q : Leaf → Type 0) (r : Result Piece Refusal) (o : Option Leaf) (l : Leaf) → o ≡ Some l → MatchOption o (r ≡ Err refusal.UnknownQuery) Q → Q l
of_leaf Q r o l there read = subst (λ (p : Option Leaf). MatchOption p (r ≡ Err refusal.UnknownQuery) Q) there read
