use Rattle.std.proofs.Common.{◌≡◌, ◌∙◌, ℕ, List, Option, is_some, sym, ap, subst}
use Rattle.std.specs.Option.{option_copied}
use Rattle.span_value.specs.declared.value.Value.{Value}
use Rattle.span_shard.specs.Overlay.{row_over, row_before, AreCellsOf}
use Rattle.span_shard.proofs.RunPuts.{some_copied, put_answer}
use Rattle.span_shard.proofs.run.row_put.Goals as goal

pub returns : goal.returns
returns c =
    let tables = c.args.schema.now in
    let cs = c.args.store.now in
    let es = c.args.changes.now in
    let m = c.args.mutation.now in
    let before : row_before tables cs es m ≡ option_copied c.row_over_near-before.result = ap (row_over cs es) (sym c.requires.key) ∙ sym c.row_over_near-before.ensures in
    let present : is_some (row_before tables cs es m) ≡ c.is_some.result = ap (λ (o : Option (List ℕ)). is_some o) before ∙ some_copied c.row_over_near-before.result ∙ sym c.is_some.ensures in
    put_answer tables cs es m c.as_slice.result.now c.is_some.result c.in_ok-lacks_parent.field-0
    (subst (λ (vs : List Value). AreCellsOf tables m.table (row_before tables cs es m) vs) (sym c.as_slice.ensures.value) (subst (λ (o : Option (List ℕ)). AreCellsOf tables m.table o c.in_ok-old.old.items) (sym before) c.in_ok-old.ensures))
    present (sym c.in_ok-lacks_parent.ensures) c.in_ok-check_presence.ensures.0 c.in_ok-check_presence.ensures.1 c.if-branch.false c.new_row.result c.new_row.ensures
