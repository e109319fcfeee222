use Rattle.std.proofs.Common.{◌≡◌, List, [], length, Ok, Err, sym, ◌∙◌, ap, inl, inr, subst, arith}
use Rattle.std.specs.Vec.Iter.{into_iter_items}
use Rattle.std.proofs.lemmas.List.{append-nil, nil_from_length}
use Rattle.std.proofs.lemmas.Result.{err_from_is_err_and}
use Rattle.span_mutate.specs.declared.mutation.Mutation.{Mutation}
use Rattle.span_mutate.specs.Batches.{batch_mutations}
use Rattle.span_checking.specs.Checking.{checked_all, with_front}
use Rattle.span_checking.proofs.Batched.{front_batch, front_batch_refused}
use Rattle.span_checking.proofs.Keyed.{keyed_all}
use Rattle.span_checking.proofs.batch_check.check_batches.Goals as goal

pub returns-in_err-check_rows-clause-checked : goal.returns-in_err-check_rows-clause-checked
returns-in_err-check_rows-clause-checked c =
    let tables = c.args.schema.now in
    let next = c.in-Some.ensures.steps in
    let front = c.loop-batch.done.items in
    let rest = batch_mutations (into_iter_items c.next.new.self) in
    let p = err_from_is_err_and c.from_residual.result c.from_residual.ensures.1 in
    rw (p.1, p.2) (elim c.in_err-check_rows.ensures.checked [
      | inl e ↦ inl e
      | inr e ↦ inr (sym c.loop-batch.invariant.so_far ∙ ap (λ (l : List (List Mutation)). with_front front (checked_all tables (batch_mutations l))) next.0
          ∙ front_batch_refused tables c.in-Some.batch rest front c.in_err-check_rows.field-0.0
          (subst (λ (l : List Mutation). with_front front (checked_all tables l) ≡ Err c.in_err-check_rows.field-0.0) (sym c.into_parts-heading.ensures) e))
    ])

pub loop-batch-preserved : goal.loop-batch-preserved
loop-batch-preserved c =
    let tables = c.args.schema.now in
    let next = c.in-Some.ensures.steps in
    let front = c.loop-batch.done.items in
    let rest = batch_mutations (into_iter_items c.next.new.self) in
    let done = c.check_rows.new.done.items in
    record {
      so_far = front_batch tables c.in-Some.batch rest front done
          (subst (λ (l : List Mutation). with_front front (checked_all tables l) ≡ Ok done) (sym c.into_parts-heading.ensures) c.in_ok-check_rows.ensures.checked)
          ∙ ap (λ (l : List (List Mutation)). with_front front (checked_all tables (batch_mutations l))) (sym next.0) ∙ c.loop-batch.invariant.so_far;
      typed = c.in_ok-check_rows.ensures.typed;
      count = omega (arith, ap length next.0, next.1, c.loop-batch.invariant.count);
    }

pub returns-clause-checked : goal.returns-clause-checked
returns-clause-checked c =
    let tables = c.args.schema.now in
    let front = c.loop-batch.done.items in
    let over : into_iter_items c.loop-batch.batch-iterator ≡ [] = nil_from_length _ (sym c.loop-batch.invariant.count ∙ c.in-None.ensures.steps.0) in
    sym c.loop-batch.invariant.so_far ∙ ap (λ (l : List (List Mutation)). with_front front (checked_all tables (batch_mutations l))) over ∙ ap Ok (append-nil front)

pub returns-clause-keyed : goal.returns-clause-keyed
returns-clause-keyed c = keyed_all c.args.schema.now (batch_mutations c.args.batches.items) _ (returns-clause-checked c)
