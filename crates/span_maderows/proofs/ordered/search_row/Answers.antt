use Rattle.std.proofs.Common.{◌≡◌, ◌≤◌, ◌<◌, length, Some, refl, ap, sym, ◌∙◌, slice_get, arith}
use Rattle.std.specs.Ordering.{is_eq}
use Rattle.std.proofs.lemmas.Bool.{ltb-true, ltb-false}
use Rattle.std.proofs.lemmas.Option.{slice_get_read, slice_get_within}
use Rattle.span_maderows.proofs.MadeRows.{place_some, place_none, other_key}
use Rattle.span_maderows.proofs.ordered.search_row.Goals as goal

pub returns-in_default : goal.returns-in_default
returns-in_default c =
    let rows = c.args.rows.now in
    let n = c.count_before.result in
    sym (place_none c.args.key.now rows n c.requires c.count_before.ensures.count (λ e at. absurd (
    let less : n < length rows = slice_get_within rows n e at in
    let past : length rows ≤ n = ltb-false n (length rows) (sym c.in_default.ensures.lookup.0) in
    omega arith)))

pub returns-then-is_eq : goal.returns-then-is_eq
returns-then-is_eq c =
    let rows = c.args.rows.now in
    let n = c.count_before.result in
    let at : slice_get rows n ≡ Some c.in-Some.field-0.now =
    slice_get_read rows (length rows) n c.in-Some.field-0.now refl (ltb-true n (length rows) (sym c.in-Some.ensures.lookup.0)) c.in-Some.ensures.lookup.1 in
    sym (place_some c.args.key.now rows n c.in-Some.field-0.now.0 c.in-Some.field-0.now.1 c.requires at (sym (c.is_eq.ensures ∙ ap is_eq c.cmp.ensures) ∙ c.if-is_eq.true))

pub returns-else-is_eq : goal.returns-else-is_eq
returns-else-is_eq c =
    let rows = c.args.rows.now in
    let n = c.count_before.result in
    let at : slice_get rows n ≡ Some c.in-Some.field-0.now =
    slice_get_read rows (length rows) n c.in-Some.field-0.now refl (ltb-true n (length rows) (sym c.in-Some.ensures.lookup.0)) c.in-Some.ensures.lookup.1 in
    sym (place_none c.args.key.now rows n c.requires c.count_before.ensures.count
    (other_key c.args.key.now rows n c.in-Some.field-0.now at (sym (c.is_eq.ensures ∙ ap is_eq c.cmp.ensures) ∙ c.if-is_eq.false)))
