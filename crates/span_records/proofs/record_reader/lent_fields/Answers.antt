use Rattle.std.proofs.Common.{◌≡◌, ◌∙◌, ◌+◌, ◌++◌, ◌<◌, ℕ, List, Bor, Option, Some, None, rules, arith, sym, ap, length, drop}
use Rattle.std.specs.Option.{option_map, IsSome}
use Rattle.csv.specs.Records.{fields_of, field_at}
use Rattle.csv.proofs.RecordFacts.{field-there}
use Rattle.span_records.specs.Record.{texts}
use Rattle.span_records.proofs.Lent.{one_more, fields_from}
use Rattle.span_records.proofs.record_reader.lent_fields.Goals as goal

is_there : (fields : List (List ℕ)) (i : ℕ) (o : Option (Bor (List ℕ))) → i < length fields → option_map (λ (f : Bor (List ℕ)). f.now) o ≡ field_at fields i → IsSome o
is_there fields i None within is = absurd (field-there fields i within (sym is))
is_there fields i (Some f) within is = search rules

pub unwrap-requires : goal.unwrap-requires
unwrap-requires c =
    let within : c.loop-i.i < length (fields_of c.args.fields.now) = omega (arith, c.loop-i-test.true, c.len-i-end.ensures) in
    is_there (fields_of c.args.fields.now) c.loop-i.i c.get.result within c.get.ensures.value

pub loop-i-preserved : goal.loop-i-preserved
loop-i-preserved c =
    let fields = fields_of c.args.fields.now in
    let field = c.unwrap.result in
    let within : c.loop-i.i < length fields = omega (arith, c.loop-i-test.true, c.len-i-end.ensures) in
    let found : field_at fields c.loop-i.i ≡ Some field.now = sym c.get.ensures.value ∙ ap (option_map (λ (f : Bor (List ℕ)). f.now)) c.unwrap.ensures in
    rw c.in_ok-push.ensures.ok
    (one_more c.loop-i.found.items field (drop (c.loop-i.i + 1) fields)
    ∙ ap (λ (w : List (List ℕ)). texts c.loop-i.found.items ++ w) (sym (fields_from fields c.loop-i.i field.now within found))
    ∙ c.loop-i.invariant)
