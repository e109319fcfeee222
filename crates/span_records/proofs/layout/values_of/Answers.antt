use Rattle.std.proofs.Common.{◌≡◌, ◌⊎◌, inl, inr, refl, List, Some, arith}
use Rattle.std.specs.List.{AllZip}
use Rattle.std.proofs.lemmas.Result.{err_from_is_err_and}
use Rattle.span_value.specs.declared.refusal.Refusal.TheVariants as refusal
use Rattle.span_value.specs.declared.value.Value.{Value}
use Rattle.span_mutate.specs.declared.mutation.NamedValue.{NamedValue}
use Rattle.span_records.specs.Record.{texts}
use Rattle.span_records.specs.Layouts.{IsColumnCell, IsColumnValue, IsFieldCell}
use Rattle.span_records.proofs.Zips.{one_more, none_at}
use Rattle.span_records.proofs.layout.values_of.Goals as goal

pub loop-part-preserved : goal.loop-part-preserved
loop-part-preserved c = record {
  read = rw c.push_reserved.ensures.items (one_more (IsColumnValue (texts c.args.fields.now)) c.args.parts.now c.loop-part.values.items c.loop-part.part-index c.part-item.result c.part-item.result (Some c.in_ok-value_at.field-0) c.loop-part-test.true c.part-item.is c.loop-part.invariant.read (c.in_ok-value_at.field-0, refl, c.in_ok-value_at.ensures.read));
  count = omega (arith, c.push_reserved.ensures.len, c.loop-part.invariant.count);
  capacity = omega (arith, c.push_reserved.ensures.capacity, c.loop-part.invariant.capacity);
}

pub returns-in_err-value_at-clause-refusals : goal.returns-in_err-value_at-clause-refusals
returns-in_err-value_at-clause-refusals c =
    let known = err_from_is_err_and c.from_residual-in_err-value_at.result c.from_residual-in_err-value_at.ensures.1 in
    rw (known.1, known.2) (by c.in_err-value_at.ensures.refusals)
  where
    by : (c.in_err-value_at.field-0.0 ≡ refusal.OutOfMemory) ⊎ ((c.in_err-value_at.field-0.0 ≡ refusal.WrongType) × ((x : Value) → IsFieldCell (texts c.args.fields.now) c.part-item.result.at c.part-item.result.kind x → ⊥))
        → (c.in_err-value_at.field-0.0 ≡ refusal.OutOfMemory) ⊎ ((c.in_err-value_at.field-0.0 ≡ refusal.WrongType) × ((xs : List NamedValue) → AllZip (IsColumnCell (texts c.args.fields.now)) c.args.parts.now xs → ⊥))
    by (inl want) = inl want
    by (inr none) = inr (none.0, none_at (IsColumnCell (texts c.args.fields.now)) c.args.parts.now c.loop-part.part-index c.part-item.result c.part-item.result c.loop-part-test.true c.part-item.is (λ cell h. none.1 cell.value h.1))
