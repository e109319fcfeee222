use Rattle.std.proofs.Common.{◌≡◌, ◌⊎◌, inl, inr, List, get_or, refl, arith}
use Rattle.std.specs.List.{AllZip}
use Rattle.std.proofs.lemmas.Result.{err_from_is_err_and}
use Rattle.span_value.specs.declared.refusal.Refusal.TheVariants as refusal
use Rattle.span_value.specs.declared.value.Kind.TheVariants as kind
use Rattle.span_value.specs.declared.value.Value.{Value}
use Rattle.span_records.specs.Record.{texts}
use Rattle.span_records.specs.Layouts.{IsKeyCell}
use Rattle.span_records.proofs.Zips.{one_more, none_at}
use Rattle.span_records.proofs.layout.key_of.Goals as goal

pub loop-part-preserved : goal.loop-part-preserved
loop-part-preserved c =
    record {
      read = rw c.push_reserved.ensures.items (one_more (IsKeyCell (texts c.args.fields.now)) c.args.parts.now c.loop-part.key.items c.loop-part.part-index (record { at = 0; kind = kind.Int }) (get_or c.args.parts.now c.loop-part.part-index (record { at = 0; kind = kind.Int })) c.in_ok-value_at.field-0 c.loop-part-test.true refl c.loop-part.invariant.read c.in_ok-value_at.ensures.read);
      count = omega (arith, c.push_reserved.ensures.len, c.loop-part.invariant.count);
      capacity = omega (arith, c.push_reserved.ensures.capacity, c.loop-part.invariant.capacity);
    }

pub returns-in_err-value_at-clause-refusals : goal.returns-in_err-value_at-clause-refusals
returns-in_err-value_at-clause-refusals c =
    let known = err_from_is_err_and c.from_residual-in_err-value_at.result c.from_residual-in_err-value_at.ensures.1 in
    rw (known.1, known.2) (by c.in_err-value_at.ensures.refusals)
  where
    by : (c.in_err-value_at.field-0.0 ≡ refusal.OutOfMemory) ⊎ ((c.in_err-value_at.field-0.0 ≡ refusal.WrongType) × ((x : Value) → IsKeyCell (texts c.args.fields.now) (get_or c.args.parts.now c.loop-part.part-index (record { at = 0; kind = kind.Int })) x → ⊥))
        → (c.in_err-value_at.field-0.0 ≡ refusal.OutOfMemory) ⊎ ((c.in_err-value_at.field-0.0 ≡ refusal.WrongType) × ((xs : List Value) → AllZip (IsKeyCell (texts c.args.fields.now)) c.args.parts.now xs → ⊥))
    by (inl want) = inl want
    by (inr none) = inr (none.0, none_at (IsKeyCell (texts c.args.fields.now)) c.args.parts.now c.loop-part.part-index (record { at = 0; kind = kind.Int }) (get_or c.args.parts.now c.loop-part.part-index (record { at = 0; kind = kind.Int })) c.loop-part-test.true refl none.1)
