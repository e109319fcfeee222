-- The end of a query.
use Rattle.std.proofs.Common.{◌≡◌, ℕ, List, Some, None, refl, ap, sym, ◌∙◌, inl, inr}
use Rattle.std.specs.Prelude.{◌⊎◌}
use Rattle.span_value.specs.declared.refusal.Refusal.{Refusal}
use Rattle.span_value.specs.declared.refusal.Refusal.TheVariants as refusal
use Rattle.span_schema.specs.declared.table.Table.{Table}
use Rattle.span_query.specs.declared.query.BoundQuery.{BoundQuery}
use Rattle.span_query.specs.Rows.{Rows}
use Rattle.span_fragment.specs.declared.piece.Piece.{Piece}
use Rattle.span_gather.specs.declared.rows.Rows.{Rows as Found}
use Rattle.span_gather.specs.Gathered.{gathered}
use Rattle.span_machine.specs.declared.step.Reply.TheVariants as reply
use Rattle.span_machine.specs.Machine.{Answer, Answers, answer_on, rows_or_refusal, finish}
use Rattle.span_machine.specs.Pieces.{Journaled, machine_of}
use Rattle.span_version_laws.proofs.Covers.{pieced_finish}
use Rattle.span_journal.specs.Judged.{IsCovered}
use Rattle.span_parts.specs.Whole.{Shards, IsWhole}
use Rattle.span_parts.proofs.Wholes.{no_text}

module _ (schema : List Table) (j : Journaled) (shards : Shards) (w : IsWhole schema j shards) (query s : ℕ) (top : BoundQuery) (pieces : List (List Piece)) (p : IsCovered j query s top pieces) where
  -- what the query above the leaves means on their pieces is the answer
  finish_is : (means : Rows) → gathered pieces top ≡ means → finish schema (machine_of j) query ≡ (answer_on s (rows_or_refusal means), machine_of j)
  finish_is means is =
      pieced_finish schema w.rules (machine_of j) w.reached j.queries refl w.pieced no_text query p.question p.found p.covered
      ∙ ap (λ (n : ℕ). (answer_on n (rows_or_refusal (gathered p.question.pieces p.question.query.top)), machine_of j)) (sym p.at)
      ∙ ap (λ (q : BoundQuery). (answer_on s (rows_or_refusal (gathered p.question.pieces q)), machine_of j)) (sym p.top_is)
      ∙ ap (λ (ps : List (List Piece)). (answer_on s (rows_or_refusal (gathered ps top)), machine_of j)) (sym p.pieces_are)
      ∙ ap (λ (r : Rows). (answer_on s (rows_or_refusal r), machine_of j)) is

  -- it means rows
  pub finished : (rows : Found) → gathered pieces top ≡ Some rows.rows → Answers (machine_of j) (finish schema (machine_of j) query) (reply.Rows s rows) (machine_of j)
  finished rows is =
      let e = finish_is (Some rows.rows) is in
      inl (sym (ap (λ (a : Answer). a.0) e), sym (ap (λ (a : Answer). a.1) e))

  -- it means the fault, or memory ran out
  pub unfinished : (why : Refusal) → ((why ≡ refusal.ArithmeticFault) × (gathered pieces top ≡ None)) ⊎ (why ≡ refusal.OutOfMemory)
      → Answers (machine_of j) (finish schema (machine_of j) query) (reply.Refused why) (machine_of j)
  unfinished why (inl fault) =
      let e = finish_is None fault.1 in
      inl (ap reply.Refused fault.0 ∙ sym (ap (λ (a : Answer). a.0) e), sym (ap (λ (a : Answer). a.1) e))
  unfinished why (inr memory) = inr (ap reply.Refused memory, refl)
