use Rattle.std.proofs.Common.{◌≡◌, ◌++◌, ◌<◌, ◌∙◌, true, List, ℕ, ap, sym, length, arith}
use Rattle.std.specs.Prelude.{Bool}
use Rattle.std.proofs.lemmas.Result.{IfOk-weaker}
use Rattle.csv.specs.Reading.{strip_bom}
use Rattle.span_records.specs.Record.{pieces, record_fields, texts, IsUnmarked}
use Rattle.span_records.proofs.Plain.{plain_fields}
use Rattle.span_records.proofs.record_reader.push_plain_fields.Goals as goal

pub returns : goal.returns
returns c =
    let text = c.args.text.now in
    let some : 0 < length text = grind (c.is_empty.ensures, c.if-is_empty.false, arith) in
    let front : strip_bom text ≡ text = rw c.as_bytes.ensures.value at (c.may_be_marked.ensures c.if-may_be_marked.false) in
    IfOk-weaker c.push_pieces.result (λ (is_plain : Bool). is_plain ≡ true → (texts c.push_pieces.new.found.items ≡ texts c.args.found.now.items ++ pieces text) × IsUnmarked text) (λ (is_plain : Bool). is_plain ≡ true → texts c.push_pieces.new.found.items ≡ texts c.args.found.now.items ++ record_fields text)
    (λ is_plain whole yes. (whole yes).0 ∙ ap (λ (w : List (List ℕ)). texts c.args.found.now.items ++ w) (sym (plain_fields text ((whole yes).1, front) some))) c.push_pieces.ensures
