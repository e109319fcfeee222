use Rattle.std.proofs.Common.{◌≡◌, ◌⊎◌, inl, inr, List, arith}
use Rattle.std.specs.List.{AllZip}
use Rattle.std.proofs.lemmas.Result.{err_from_is_err_and}
use Rattle.span_value.specs.declared.refusal.Refusal.TheVariants as refusal
use Rattle.span_mutate.specs.declared.mutation.NamedValue.{NamedValue}
use Rattle.span_records.specs.Record.{texts}
use Rattle.span_records.specs.Layouts.{IsColumnCell}
use Rattle.span_records.proofs.Zips.{one_more, none_at}
use Rattle.span_records.proofs.layout.cells_of.Goals as goal

pub loop-part-preserved : goal.loop-part-preserved
loop-part-preserved c = record {
  read = rw c.push_reserved.ensures.items (one_more (IsColumnCell (texts c.args.fields.now)) c.args.parts.now c.loop-part.cells.items c.loop-part.part-index c.part-item.result c.part-item.result c.in_ok-cell_of.field-0 c.loop-part-test.true c.part-item.is c.loop-part.invariant.read c.in_ok-cell_of.ensures.read);
  count = omega (arith, c.push_reserved.ensures.len, c.loop-part.invariant.count);
  capacity = omega (arith, c.push_reserved.ensures.capacity, c.loop-part.invariant.capacity);
}

pub returns-in_err-cell_of-clause-refusals : goal.returns-in_err-cell_of-clause-refusals
returns-in_err-cell_of-clause-refusals c =
    let known = err_from_is_err_and c.from_residual-in_err-cell_of.result c.from_residual-in_err-cell_of.ensures.1 in
    rw (known.1, known.2) (by c.in_err-cell_of.ensures.refusals)
  where
    by : (c.in_err-cell_of.field-0.0 ≡ refusal.OutOfMemory) ⊎ ((c.in_err-cell_of.field-0.0 ≡ refusal.WrongType) × ((x : NamedValue) → IsColumnCell (texts c.args.fields.now) c.part-item.result x → ⊥))
        → (c.in_err-cell_of.field-0.0 ≡ refusal.OutOfMemory) ⊎ ((c.in_err-cell_of.field-0.0 ≡ refusal.WrongType) × ((xs : List NamedValue) → AllZip (IsColumnCell (texts c.args.fields.now)) c.args.parts.now xs → ⊥))
    by (inl want) = inl want
    by (inr none) = inr (none.0, none_at (IsColumnCell (texts c.args.fields.now)) c.args.parts.now c.loop-part.part-index c.part-item.result c.part-item.result c.loop-part-test.true c.part-item.is none.1)
