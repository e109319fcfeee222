use Rattle.std.proofs.Common.{◌≡◌, ◌⊎◌, inl, inr}
use Rattle.std.proofs.lemmas.Result.{err_from_is_err_and}
use Rattle.span_value.specs.declared.refusal.Refusal.TheVariants as refusal
use Rattle.span_value.specs.declared.value.Value.{Value}
use Rattle.span_mutate.specs.declared.mutation.NamedValue.{NamedValue}
use Rattle.span_records.specs.Record.{texts}
use Rattle.span_records.specs.Layouts.{IsFieldCell, IsColumnCell}
use Rattle.span_records.proofs.layout.cell_of.Goals as goal

pub returns-in_err-value-clause-refusals : goal.returns-in_err-value-clause-refusals
returns-in_err-value-clause-refusals c =
    let known = err_from_is_err_and c.from_residual.result c.from_residual.ensures.1 in
    rw (known.1, known.2) (by c.in_err-value.ensures.refusals)
  where
    by : (c.in_err-value.field-0.0 ≡ refusal.OutOfMemory) ⊎ ((c.in_err-value.field-0.0 ≡ refusal.WrongType) × ((value : Value) → IsFieldCell (texts c.args.fields.now) c.args.part.now.at c.args.part.now.kind value → ⊥))
        → (c.in_err-value.field-0.0 ≡ refusal.OutOfMemory) ⊎ ((c.in_err-value.field-0.0 ≡ refusal.WrongType) × ((cell : NamedValue) → IsColumnCell (texts c.args.fields.now) c.args.part.now cell → ⊥))
    by (inl want) = inl want
    by (inr none) = inr (none.0, λ cell h. none.1 cell.value h.1)
