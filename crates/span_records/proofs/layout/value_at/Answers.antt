use Rattle.std.proofs.Common.{◌≡◌, ◌∙◌, ℕ, List, Bor, Some, None, inr, refl, ap, length, slice_get}
use Rattle.std.specs.Option.{option_map}
use Rattle.std.proofs.lemmas.Option.{slice_get_read, slice_get_past}
use Rattle.std.proofs.lemmas.Result.{IfOk-weaker}
use Rattle.csv.specs.Records.{field_at}
use Rattle.span_value.specs.Cells.{IsCell}
use Rattle.span_records.specs.Record.{texts}
use Rattle.span_records.specs.Layouts.{IsFieldCell}
use Rattle.span_records.proofs.Lent.{text_at, no_other, no_field}
use Rattle.span_records.proofs.layout.value_at.Goals as goal

pub returns-in-Some-clause-read : goal.returns-in-Some-clause-read
returns-in-Some-clause-read c =
    let fields = c.args.fields.now in
    let field = c.in-Some.field.now in
    let here : slice_get fields c.args.at ≡ Some field = slice_get_read fields (length fields) c.args.at field refl c.in-Some.ensures.lookup.3.0 c.in-Some.ensures.lookup.1 in
    let is : field_at (texts fields) c.args.at ≡ Some field.now = text_at fields c.args.at ∙ ap (option_map (λ (f : Bor (List ℕ)). f.now)) here in
    IfOk-weaker c.read_cell.result (λ value. IsCell c.args.kind value field.now) (λ value. IsFieldCell (texts fields) c.args.at c.args.kind value)
    (λ value cell. (field.now, is, cell)) c.read_cell.ensures.read

pub returns-in-Some-clause-refusals : goal.returns-in-Some-clause-refusals
returns-in-Some-clause-refusals c =
    let fields = c.args.fields.now in
    let field = c.in-Some.field.now in
    let here : slice_get fields c.args.at ≡ Some field = slice_get_read fields (length fields) c.args.at field refl c.in-Some.ensures.lookup.3.0 c.in-Some.ensures.lookup.1 in
    let is : field_at (texts fields) c.args.at ≡ Some field.now = text_at fields c.args.at ∙ ap (option_map (λ (f : Bor (List ℕ)). f.now)) here in
    no_other (texts fields) c.args.at field.now c.args.kind c.read_cell.result is c.read_cell.ensures.read_all c.read_cell.ensures.refusals

pub returns-in-None-clause-refusals : goal.returns-in-None-clause-refusals
returns-in-None-clause-refusals c =
    let fields = c.args.fields.now in
    let past : slice_get fields c.args.at ≡ None = slice_get_past fields c.args.at c.in-None.ensures.lookup.3 in
    let is : field_at (texts fields) c.args.at ≡ None = text_at fields c.args.at ∙ ap (option_map (λ (f : Bor (List ℕ)). f.now)) past in
    inr (refl, no_field (texts fields) c.args.at c.args.kind is)
