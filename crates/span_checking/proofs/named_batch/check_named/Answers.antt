use Rattle.std.proofs.Common.{◌≡◌, List, Ok, true, false, sym, ◌∙◌, ap, map, subst}
use Rattle.std.specs.Prelude.{Option}
use Rattle.span_value.specs.declared.value.Kind.{Kind}
use Rattle.span_value.specs.declared.value.Value.{Value}
use Rattle.span_schema.specs.Numbers.{other_kinds}
use Rattle.span_checking.specs.NamedBatches.{AreApart, value_at}
use Rattle.span_mutate.specs.Typed.{are_named_kinds}
use Rattle.span_checking.proofs.NamedRows.{named_apart, named_checked, named_kinds}
use Rattle.span_checking.proofs.named_batch.check_named.Goals as goal

pub take_cells-requires : goal.take_cells-requires
take_cells-requires c =
    subst AreApart (sym c.as_slice.ensures.value)
    (named_apart c.args.schema.now c.args.columns.now c.table-table.result.now c.table-table.ensures c.args.heading.now c.requires c.meets_rules.ensures)

pub prove-unreachable-requires : goal.prove-unreachable-requires
prove-unreachable-requires c =
    let tables = c.args.schema.now in
    let columns = c.args.columns.now in
    let fit = named_kinds tables columns c.table-table.result.now c.table-table.ensures c.args.heading.now c.requires c.args.row c.meets_rules.ensures c.in_ok-check_named_rules.ensures.cause in
    let items : c.in_ok-cells.cells.items ≡ map (value_at c.args.row.cells) columns.names.items =
    c.in_ok-cells.ensures
    ∙ ap (λ (vs : List (Option Value)). map (value_at vs) c.as_slice.result.now) c.into_vec.ensures
    ∙ ap (map (value_at c.args.row.cells)) c.as_slice.ensures.value in
    let all : are_named_kinds c.other_kinds.result.now c.as_slice-2.result.now ≡ true =
    ap (λ (ks : List Kind). are_named_kinds ks c.as_slice-2.result.now) c.other_kinds.ensures
    ∙ ap (are_named_kinds (other_kinds tables columns.table)) (c.as_slice-2.ensures.value ∙ items)
    ∙ fit in
    let bad : false ≡ true = sym c.if-prove.true ∙ c.have_named_kinds.ensures.kinds ∙ all in
    absurd (cc)

pub returns-clause-checked : goal.returns-clause-checked
returns-clause-checked c =
    let columns = c.args.columns.now in
    let items : c.in_ok-cells.cells.items ≡ map (value_at c.args.row.cells) columns.names.items =
    c.in_ok-cells.ensures
    ∙ ap (λ (vs : List (Option Value)). map (value_at vs) c.as_slice.result.now) c.into_vec.ensures
    ∙ ap (map (value_at c.args.row.cells)) c.as_slice.ensures.value in
    named_checked c.args.schema.now columns c.table-table.result.now c.table-table.ensures c.args.heading.now c.requires c.args.row c.in_ok-check_named_rules.ensures.cause
    ∙ ap (λ (cells : List (Option Value)). Ok (record { kind = c.args.heading.now.kind; table = columns.table; key = c.args.row.key; cells = cells })) (sym (c.from_vec.ensures ∙ items))
