use Rattle.std.proofs.Common.{ap, ◌∙◌, length, take, List}
use Rattle.span_value.specs.declared.value.Value.{Value}
use Rattle.span_transactions.proofs.Conflicts.{root_coded}
use Rattle.span_transactions.proofs.conflict.encode_root.Goals as goal

pub returns-in-Ok : goal.returns-in-Ok
returns-in-Ok c =
    root_coded c.args.schema.now c.args.mutation.now c.root_of-root.result (length c.key_columns-len.result.now) c.first_values.result.now c.in-Ok.key
    c.root_of-root.ensures.root (ap length c.key_columns-len.ensures)
    (c.first_values.ensures ∙ ap (λ (vs : List Value). take (length c.key_columns-len.result.now) vs) c.as_slice.ensures)
    c.in-Ok.ensures.coded.1.0 c.in-Ok.ensures.coded.2
