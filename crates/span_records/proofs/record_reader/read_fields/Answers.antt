use Rattle.std.proofs.Common.{◌≡◌, ◌∙◌, [], ap, sym, refl, length, arith}
use Rattle.std.proofs.lemmas.List.{nil_from_length}
use Rattle.csv.specs.Reading.{strip_bom}
use Rattle.csv.specs.Machine.{next_record}
use Rattle.span_records.specs.Record.{record_fields}
use Rattle.span_records.proofs.record_reader.read_fields.Goals as goal

none : record_fields [] ≡ []
unfolding next_record strip_bom
none = refl

pub returns-then-is_empty-clause-fields : goal.returns-then-is_empty-clause-fields
returns-then-is_empty-clause-fields c =
    let short : length c.args.text.now ≡ 0 = grind (c.is_empty.ensures, c.if-is_empty.true, arith) in
    let empty : c.args.text.now ≡ [] = nil_from_length c.args.text.now short in
    c.clear.ensures.fields ∙ sym none ∙ ap record_fields (sym empty)
