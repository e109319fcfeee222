use Rattle.std.proofs.Common.{◌≡◌, List, true, false, sym, ◌∙◌, ap}
use Rattle.span_value.specs.declared.value.Kind.{Kind}
use Rattle.span_schema.specs.Numbers.{other_kinds}
use Rattle.span_checking.specs.Columns.{values_named}
use Rattle.span_mutate.specs.Typed.{are_named_kinds}
use Rattle.span_checking.proofs.NamedKinds.{mutation_kinds, columns_apart}
use Rattle.span_checking.proofs.check.check_at.Goals as goal

pub prove-unreachable-requires : goal.prove-unreachable-requires
prove-unreachable-requires c =
    let tables = c.args.schema.now in
    let t = c.table-table.result.now in
    let n = c.args.number in
    let fit = mutation_kinds tables c.meets_rules.ensures n t c.args.mutation c.table-table.ensures c.in_ok-check_rules.ensures.cause in
    let items : c.in_ok-cells.cells.items ≡ values_named t.key c.args.mutation.cells t.columns = c.in_ok-cells.ensures ∙ cc in
    let all : are_named_kinds c.other_kinds.result.now c.as_slice-2.result.now ≡ true =
    ap (λ (ks : List Kind). are_named_kinds ks c.as_slice-2.result.now) c.other_kinds.ensures ∙ ap (are_named_kinds (other_kinds tables n)) (c.as_slice-2.ensures.value ∙ items) ∙ fit in
    let bad : false ≡ true = sym c.if-prove.true ∙ c.have_named_kinds.ensures.kinds ∙ all in
    absurd (cc)

pub values_of-requires-clause-once : goal.values_of-requires-clause-once
values_of-requires-clause-once c = columns_apart c.args.schema.now c.meets_rules.ensures c.args.number c.table-table.result.now c.table-table.ensures
