use Rattle.std.proofs.Common.{◌≡◌, ◌<◌, ◌&&◌, suc, Bool, true, sym, ◌∙◌, ap, arith, length, drop, get_or, add-one}
use Rattle.std.specs.Prelude.{Option, slice_get}
use Rattle.span_schema.specs.declared.table.Column.{Column}
use Rattle.span_checking.specs.InOrder.{is_name_of, are_names_at}
use Rattle.span_checking.proofs.Batched.{names_differ, names_step}
use Rattle.span_checking.proofs.column.are_names_at.Goals as goal

pub returns-then-places-names : goal.returns-then-places-names
returns-then-places-names c = sym (names_differ c.args.columns.now c.args.places.now c.args.names.now c.if-places-names.true)

pub loop-i-preserved : goal.loop-i-preserved
loop-i-preserved c =
    let columns = c.args.columns.now in
    let ps = c.args.places.now in
    let ns = c.args.names.now in
    let i = c.loop-i.i in
    let within : i < length ns = omega arith in
    let n = c.index-names-i.result in
    let step = names_step columns ps ns i 0 n c.loop-i-test.true within c.index-names-i.is in
    let is : is_name_of (slice_get columns (get_or ps i 0)) n ≡ true =
    ap (λ (o : Option Column). is_name_of o n) (sym c.column_at.ensures) ∙ sym c.is_name_of.ensures ∙ c.if-not-is_name_of.false in
    rw (add-one i) (c.loop-i.invariant ∙ step ∙ ap (λ (b : Bool). b && are_names_at columns (drop (suc i) ps) (drop (suc i) ns)) is)
