use Rattle.std.proofs.Common.{◌≡◌, ◌∙◌, sym}
use Rattle.std.specs.Prelude.{position}
use Rattle.span_schema.specs.Tables.{is_same_name}
use Rattle.span_mutate.specs.declared.mutation.NamedValue.{NamedValue}
use Rattle.span_checking.proofs.Taking.{taken_none, taken_value, taken_rest}
use Rattle.span_checking.proofs.column.take_value.Goals as goal

pub returns-in-None-clause-value : goal.returns-in-None-clause-value
returns-in-None-clause-value c =
    let place : c.cell_place.result ≡ position (λ (x : NamedValue). is_same_name x.column c.args.name.now) c.args.cells.now.items = rw c.as_slice.ensures.value at c.cell_place.ensures in
    sym (taken_none c.args.cells.now.items c.args.name.now (sym place ∙ c.in-None.is))

pub returns-in-Some-clause-value : goal.returns-in-Some-clause-value
returns-in-Some-clause-value c =
    let place : c.cell_place.result ≡ position (λ (x : NamedValue). is_same_name x.column c.args.name.now) c.args.cells.now.items = rw c.as_slice.ensures.value at c.cell_place.ensures in
    sym (taken_value c.args.cells.now.items c.args.name.now c.in-Some.at c.remove-value.result (sym place ∙ c.in-Some.is) c.remove-value.ensures.value)

pub returns-in-Some-clause-rest : goal.returns-in-Some-clause-rest
returns-in-Some-clause-rest c =
    let place : c.cell_place.result ≡ position (λ (x : NamedValue). is_same_name x.column c.args.name.now) c.args.cells.now.items = rw c.as_slice.ensures.value at c.cell_place.ensures in
    λ other apart. rw c.remove-value.ensures.items (taken_rest c.args.cells.now.items c.args.name.now c.in-Some.at c.remove-value.result (sym place ∙ c.in-Some.is) c.remove-value.ensures.value other apart)
