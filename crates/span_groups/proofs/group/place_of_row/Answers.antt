use Rattle.std.proofs.Common.{rules, ◌≡◌, ◌∙◌, not, [], ap, refl}
use Rattle.std.proofs.lemmas.List.{nil_from_length}
use Rattle.span_query.specs.Rows.{Row}
use Rattle.span_query.specs.Groups.{columns_at}
use Rattle.span_rows.specs.Keys.{contains_row, with_new}
use Rattle.span_rows.proofs.Firsts.{insert_key-new, any_reversed}
use Rattle.span_rows.proofs.Places.{index_place}
use Rattle.span_groups.proofs.GroupSteps.{one_key}
use Rattle.span_groups.proofs.group.place_of_row.Goals as goal

pub returns-then-is_empty-clause-place : goal.returns-then-is_empty-clause-place
returns-then-is_empty-clause-place c =
    let none : c.args.places.now ≡ [] = nil_from_length c.args.places.now (search rules) in
    (one_key c.args.places.now c.args.index.now.keys c.args.row.now none c.requires).place

pub returns-then-is_empty-clause-added : goal.returns-then-is_empty-clause-added
returns-then-is_empty-clause-added c =
    let none : c.args.places.now ≡ [] = nil_from_length c.args.places.now (search rules) in
    (one_key c.args.places.now c.args.index.now.keys c.args.row.now none c.requires).added

pub returns-then-is_empty-clause-keys : goal.returns-then-is_empty-clause-keys
returns-then-is_empty-clause-keys c =
    let none : c.args.places.now ≡ [] = nil_from_length c.args.places.now (search rules) in
    (one_key c.args.places.now c.args.index.now.keys c.args.row.now none c.requires).kept

pub returns-clause-place : goal.returns-clause-place
returns-clause-place c =
    let key : Row = columns_at c.args.places.now c.args.row.now in
    index_place c.args.index.now.keys c.args.index.now.keys key c.new.result c.in_ok-insert_full.field-0.0 refl c.in_ok-insert_full.ensures.index c.new.ensures

pub returns-clause-added : goal.returns-clause-added
returns-clause-added c =
    let key : Row = columns_at c.args.places.now c.args.row.now in
    c.in_ok-insert_full.ensures.added
    ∙ ap not (any_reversed c.args.index.now.keys c.new.result)
    ∙ ap (λ (k : Row). not (contains_row c.args.index.now.keys k)) c.new.ensures

pub returns-clause-keys : goal.returns-clause-keys
returns-clause-keys c =
    c.in_ok-insert_full.ensures.keys
    ∙ insert_key-new c.args.index.now.keys c.new.result
    ∙ ap (with_new c.args.index.now.keys) c.new.ensures
