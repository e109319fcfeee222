use Rattle.std.proofs.Common.{◌≡◌, List, true, false, sym, ◌∙◌, ap}
use Rattle.std.proofs.lemmas.Result.{err_from_is_err_and}
use Rattle.span_value.specs.declared.value.Kind.{Kind}
use Rattle.span_schema.specs.Numbers.{other_kinds}
use Rattle.span_mutate.specs.Typed.{are_named_kinds}
use Rattle.span_checking.proofs.Batched.{full_checked, full_kinds, full_refused}
use Rattle.span_checking.proofs.batch_check.check_full.Goals as goal

pub prove-unreachable-requires : goal.prove-unreachable-requires
prove-unreachable-requires c =
    let tables = c.args.schema.now in
    let n = c.args.number in
    let fit = full_kinds tables c.meets_rules.ensures n c.table-table.result.now c.table-table.ensures c.args.heading.now c.args.row c.requires.bound c.requires.full c.in_ok-check_full_rules.ensures.cause in
    let all : are_named_kinds c.other_kinds.result.now c.as_slice.result.now ≡ true =
    ap (λ (ks : List Kind). are_named_kinds ks c.as_slice.result.now) c.other_kinds.ensures ∙ ap (are_named_kinds (other_kinds tables n)) c.as_slice.ensures ∙ fit in
    let bad : false ≡ true = sym c.if-prove.true ∙ c.have_named_kinds.ensures.kinds ∙ all in
    absurd (cc)

pub returns-clause-checked : goal.returns-clause-checked
returns-clause-checked c = full_checked c.args.schema.now c.meets_rules.ensures c.args.number c.table-table.result.now c.table-table.ensures c.args.heading.now c.args.row c.requires.bound c.requires.full c.in_ok-check_full_rules.ensures.cause

pub returns-in_err-check_full_rules-clause-checked : goal.returns-in_err-check_full_rules-clause-checked
returns-in_err-check_full_rules-clause-checked c =
    let p = err_from_is_err_and c.from_residual.result c.from_residual.ensures.1 in
    rw (p.1, p.2) (full_refused c.args.schema.now c.meets_rules.ensures c.args.number c.table-table.result.now c.table-table.ensures c.args.heading.now c.args.row c.requires.bound c.requires.full c.in_err-check_full_rules.field-0.0 c.in_err-check_full_rules.ensures.cause)
