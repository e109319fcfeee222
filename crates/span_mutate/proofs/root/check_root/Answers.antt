use Rattle.std.proofs.Common.{◌+◌, ◌<◌, List, length, drop, sym, ap, ◌∙◌, inl, inr, arith}
use Rattle.std.proofs.lemmas.Result.{err_from_is_err_and}
use Rattle.span_value.proofs.Lists.{drop_read}
use Rattle.span_mutate.specs.declared.mutation.CheckedMutation.{CheckedMutation}
use Rattle.span_mutate.specs.Database.{apply}
use Rattle.span_mutate.proofs.Runs.{run_on, run_faults}
use Rattle.span_mutate.proofs.root.check_root.Goals as goal

pub returns-in_err-now : goal.returns-in_err-now
returns-in_err-now c =
    let tables = c.args.schema.now in
    let ms = c.args.mutations.now in
    let i = c.loop-mutation.mutation-index in
    let inside : i < length ms = omega arith in
    let next = drop_read ms i c.mutation-item.result inside c.mutation-item.is in
    let p = err_from_is_err_and c.from_residual.result c.from_residual.ensures.1 in
    rw (p.1, p.2) (elim c.in_err-now.ensures [
      | inl e ↦ inl (sym c.loop-mutation.invariant ∙ ap (λ (l : List CheckedMutation). apply tables c.loop-mutation.now.items l) next
          ∙ run_faults tables c.loop-mutation.now.items c.mutation-item.result (drop (i + 1) ms) c.in_err-now.field-0.0 e)
      | inr e ↦ inr e
    ])

pub loop-mutation-preserved : goal.loop-mutation-preserved
loop-mutation-preserved c =
    let tables = c.args.schema.now in
    let ms = c.args.mutations.now in
    let i = c.loop-mutation.mutation-index in
    let inside : i < length ms = omega arith in
    let next = drop_read ms i c.mutation-item.result inside c.mutation-item.is in
    sym (run_on tables c.loop-mutation.now.items c.mutation-item.result (drop (i + 1) ms) c.in_ok-now.now.items c.in_ok-now.ensures)
    ∙ ap (λ (l : List CheckedMutation). apply tables c.loop-mutation.now.items l) (sym next) ∙ c.loop-mutation.invariant
