-- A scan that is cut in three, at one slot.
use Rattle.std.proofs.Common.{◌≡◌, ℕ, Bool, true, not, nat_lt, List, [], ◌∷◌, Option, Some, None, Result, Ok, Err, ap, sym, ◌∙◌, subst, inl, inr}
use Rattle.std.specs.Prelude.{IfErr, OnOk, slice_get}
use Rattle.span_value.specs.declared.refusal.Refusal.{Refusal}
use Rattle.span_value.specs.declared.refusal.Refusal.TheVariants as refusal
use Rattle.span_value.specs.Results.{first_cause}
use Rattle.span_truetime.specs.declared.interval.Interval.{Interval}
use Rattle.span_schema.specs.declared.table.Table.{Table}
use Rattle.span_keycode.specs.declared.range.KeyRange.{KeyRange}
use Rattle.span_fragment.specs.declared.piece.Piece.{Piece}
use Rattle.span_shard.specs.KeyVersions.{KeyVersions}
use Rattle.span_machine.specs.declared.step.Step.TheVariants as step
use Rattle.span_machine.specs.declared.step.Reply.TheVariants as reply
use Rattle.span_machine.specs.declared.slot.SlotState.{SlotState}
use Rattle.span_machine.specs.declared.query.ScanLeaf.{ScanLeaf}
use Rattle.span_machine.specs.declared.query.OpenQuery.{OpenQuery}
use Rattle.span_machine.specs.Machine.{Machine, Answer, Answers, if_some, is_safe, with_risen_floor, scan}
use Rattle.span_machine.specs.Pieces.{Journaled, machine_of}
use Rattle.span_journal.specs.declared.journal.Gap.{Gap}
use Rattle.span_journal.specs.Judged.{IsUnclaimed, MayScan, IsRegistered, IsUnregistered, IsUnchanged}
use Rattle.span_journal.specs.Scans.{piece_refusal, register_refusal}
use Rattle.span_openqueries.specs.Targets.{is_free}
use Rattle.span_parts.specs.Whole.{GoesWith, StaysAt, IsReadFor}
use Rattle.span_parts.proofs.Scanning.{scanned_whole}
use Rattle.span_parts.proofs.Wholes.{no_text, goes_same, goes_by, pieces_same}

-- why nothing is claimed is the scan's answer, or out of memory
pub unclaimed_answer : (m : Machine) (query leaf slot : ℕ) (interval : Interval) (why : Refusal) (n : Machine) → IsUnclaimed m query leaf slot interval why n → Answers m (scan m query leaf slot interval) (reply.Refused why) n
unclaimed_answer m query leaf slot interval why n (inl memory) = inr (ap reply.Refused memory.0, memory.1)
unclaimed_answer m query leaf slot interval why n (inr is) = inl (sym (ap (λ (a : Answer). a.0) is), sym (ap (λ (a : Answer). a.1) is))

module _ (schema : List Table) (j k : Journaled) (query leaf slot : ℕ) (interval : Interval) where
  pub unclaimed_goes : (why : Refusal) → IsUnclaimed (machine_of j) query leaf slot interval why (machine_of k) → k.queries ≡ j.queries → GoesWith schema j k
  unclaimed_goes why is same = goes_by schema j k no_text (step.Scan query leaf slot interval) tt (reply.Refused why) (unclaimed_answer (machine_of j) query leaf slot interval why (machine_of k) is) tt (pieces_same schema j.queries k.queries same)

  pub claimed_goes : (r : Result (Option Gap) Refusal) → IfErr r (λ why. IsUnclaimed (machine_of j) query leaf slot interval why (machine_of k)) → OnOk r (machine_of k ≡ machine_of j) → k.queries ≡ j.queries → GoesWith schema j k
  claimed_goes (Ok gap) is same queries = goes_same schema j k same queries
  claimed_goes (Err why) is same queries = unclaimed_goes why is queries

-- ---- a piece that is registered

module _ (schema : List Table) (j : Journaled) (query leaf slot : ℕ) (interval : Interval) (range : KeyRange) (s : ℕ) (d : MayScan (machine_of j) query leaf slot interval range s) where
  abbrev m : Machine
  m = machine_of j

  -- where the gap may be scanned, memory alone keeps a piece of it from being taken
  pub unregistered_is : (why : Refusal) → IsUnregistered j query leaf slot interval range why → why ≡ refusal.OutOfMemory
  unregistered_is why (inl memory) = memory
  unregistered_is why (inr is) = absurd (none_some (sym none ∙ is))
    where
      none_some : None ≡ Some why → ⊥
      none_some e = absurd (cc e)

      free : is_free d.slot_state d.gap range ≡ true
      free = ap (is_free d.slot_state d.gap) d.of_part ∙ d.free

      none : register_refusal m query leaf slot interval range ≡ None
      none =
          ap (λ (o : Option OpenQuery). if_some o (Some refusal.UnknownQuery) (λ q. if_some (slice_get q.leaves leaf) (Some refusal.UnknownQuery) (λ l. if_some (slice_get m.slots slot) (Some refusal.NoSlot) (piece_refusal m slot interval range q.s l)))) d.found
          ∙ ap (λ (o : Option ScanLeaf). if_some o (Some refusal.UnknownQuery) (λ l. if_some (slice_get m.slots slot) (Some refusal.NoSlot) (piece_refusal m slot interval range d.question.s l))) d.there
          ∙ ap (λ (o : Option SlotState). if_some o (Some refusal.NoSlot) (piece_refusal m slot interval range d.question.s d.gap)) d.here
          ∙ ap (λ (b : Bool). first_cause ((not b, refusal.Incomplete) ∷ (nat_lt d.question.s d.slot_state.horizon, refusal.Trimmed) ∷ (not (is_safe m slot (with_risen_floor d.slot_state d.question.s interval) d.question.s), refusal.NotYet) ∷ [])) free
          ∙ ap (λ (b : Bool). first_cause ((b, refusal.Trimmed) ∷ (not (is_safe m slot (with_risen_floor d.slot_state d.question.s interval) d.question.s), refusal.NotYet) ∷ [])) d.above
          ∙ ap (λ (b : Bool). first_cause ((not b, refusal.NotYet) ∷ [])) d.safe

  -- and then nothing has changed
  pub unregistered_same : (why : Refusal) (k : Journaled) → IsUnregistered j query leaf slot interval range why → IsUnchanged j query slot interval why k → k ≡ j
  unregistered_same why k is (inl same) = same
  unregistered_same why k is (inr risen) = absurd (not_memory (sym risen.0 ∙ unregistered_is why is))
    where
      not_memory : refusal.NotYet ≡ refusal.OutOfMemory → ⊥
      not_memory e = absurd (cc e)

  module _ (other : KeyRange) (at : ℕ) (piece : Piece) (range_same : range ≡ other) (s_same : s ≡ at) (k : Journaled) (g : IsRegistered j query leaf slot interval range piece k) where
    -- the piece was read of the same gap
    pub registered_whole : (cs : List KeyVersions) → IsReadFor schema m query leaf cs other at piece → StaysAt schema slot j k cs
    registered_whole cs read = λ shards w there.
        scanned_whole schema j shards w query leaf slot interval range s d piece k g cs there
        (subst (λ (r : KeyRange). IsReadFor schema m query leaf cs r s piece) (sym range_same) (subst (λ (i : ℕ). IsReadFor schema m query leaf cs other i piece) (sym s_same) read))
