use Rattle.std.proofs.Common.{◌≡◌, List, [], length, Ok, sym, ◌∙◌, ap, inl, inr, subst, arith}
use Rattle.std.specs.Prelude.{Option, IfSome}
use Rattle.std.specs.Vec.Iter.{into_iter_items}
use Rattle.std.proofs.lemmas.List.{append-nil, nil_from_length}
use Rattle.std.proofs.lemmas.Result.{err_from_is_err_and}
use Rattle.span_value.proofs.Lists.{all_push}
use Rattle.span_mutate.specs.declared.mutation.CheckedMutation.{CheckedMutation}
use Rattle.span_mutate.specs.declared.batch.BatchRow.{BatchRow}
use Rattle.span_checking.specs.declared.named_columns.NamedColumns.{NamedColumns}
use Rattle.span_checking.specs.NamedBatches.{IsNamed}
use Rattle.span_mutate.specs.Batches.{row_mutation, row_mutations}
use Rattle.span_mutate.specs.Typed.{IsTypedMutation, AreTypedMutations}
use Rattle.span_checking.specs.Checking.{checked_all, with_front}
use Rattle.span_checking.proofs.Fronts.{front_more, front_refused}
use Rattle.span_checking.proofs.batch_check.check_rows.Goals as goal

pub returns-in_err-check_row-clause-checked : goal.returns-in_err-check_row-clause-checked
returns-in_err-check_row-clause-checked c =
    let tables = c.args.schema.now in
    let heading = c.args.heading.now in
    let next = c.in-Some.ensures.steps in
    let front = c.loop-row.done.items in
    let p = err_from_is_err_and c.from_residual-in_err-check_row.result c.from_residual-in_err-check_row.ensures.1 in
    rw (p.1, p.2) (elim c.in_err-check_row.ensures.checked [
      | inl e ↦ inr (sym c.loop-row.invariant.so_far ∙ ap (λ (l : List BatchRow). with_front front (checked_all tables (row_mutations heading l))) next.0
          ∙ front_refused tables front (row_mutation heading c.in-Some.row) (row_mutations heading (into_iter_items c.next.new.self)) c.in_err-check_row.field-0.0 e)
      | inr e ↦ inl e
    ])

pub loop-row-preserved : goal.loop-row-preserved
loop-row-preserved c =
    let tables = c.args.schema.now in
    let heading = c.args.heading.now in
    let next = c.in-Some.ensures.steps in
    let front = c.loop-row.done.items in
    let rest = row_mutations heading (into_iter_items c.next.new.self) in
    record {
      so_far = ap (λ (l : List CheckedMutation). with_front l (checked_all tables rest)) c.push_reserved.ensures.items
          ∙ front_more tables front (row_mutation heading c.in-Some.row) rest c.in_ok-check_row.field-0 c.in_ok-check_row.ensures.checked
          ∙ ap (λ (l : List BatchRow). with_front front (checked_all tables (row_mutations heading l))) (sym next.0) ∙ c.loop-row.invariant.so_far;
      typed = subst (AreTypedMutations tables) (sym c.push_reserved.ensures.items) (all_push (IsTypedMutation tables) front c.in_ok-check_row.field-0 c.loop-row.invariant.typed c.in_ok-check_row.ensures.typed);
      capacity = omega (arith, next.1, c.push_reserved.ensures.len, c.push_reserved.ensures.capacity, c.loop-row.invariant.capacity);
      count = omega (arith, ap length next.0, next.1, c.loop-row.invariant.count);
    }

pub returns-clause-checked : goal.returns-clause-checked
returns-clause-checked c =
    let tables = c.args.schema.now in
    let heading = c.args.heading.now in
    let front = c.loop-row.done.items in
    let over : into_iter_items c.loop-row.row-iterator ≡ [] = nil_from_length _ (sym c.loop-row.invariant.count ∙ c.in-None.ensures.steps.0) in
    sym c.loop-row.invariant.so_far ∙ ap (λ (l : List BatchRow). with_front front (checked_all tables (row_mutations heading l))) over ∙ ap Ok (append-nil front)

pub check_row-requires-clause-named : goal.check_row-requires-clause-named
check_row-requires-clause-named c =
    subst (λ (o : Option NamedColumns). IfSome o (IsNamed c.args.schema.now c.args.heading.now)) (sym c.as_ref-named.ensures.value) c.unbound_columns-columns.ensures
