use Rattle.std.proofs.Common.{◌≡◌, ◌⊎◌, inl, inr, List}
use Rattle.std.specs.List.{AllZip}
use Rattle.std.proofs.lemmas.Result.{err_from_is_err_and}
use Rattle.span_value.specs.declared.refusal.Refusal.TheVariants as refusal
use Rattle.span_value.specs.declared.value.Value.{Value}
use Rattle.span_mutate.specs.declared.mutation.NamedValue.{NamedValue}
use Rattle.span_mutate.specs.declared.mutation.Mutation.{Mutation}
use Rattle.span_records.specs.Record.{texts}
use Rattle.span_records.specs.Layouts.{IsKeyCell, IsColumnCell, IsOfRecord}
use Rattle.span_records.proofs.layout.RecordLayout.mutation_of.Goals as goal

pub returns-in_err-key-clause-refusals : goal.returns-in_err-key-clause-refusals
returns-in_err-key-clause-refusals c =
    let known = err_from_is_err_and c.from_residual.result c.from_residual.ensures.1 in
    rw (known.1, known.2) (by c.in_err-key.ensures.refusals)
  where
    by : (c.in_err-key.field-0.0 ≡ refusal.OutOfMemory) ⊎ ((c.in_err-key.field-0.0 ≡ refusal.WrongType) × ((key : List Value) → AllZip (IsKeyCell (texts c.args.fields.now)) c.as_slice.result.now key → ⊥))
        → (c.in_err-key.field-0.0 ≡ refusal.OutOfMemory) ⊎ ((c.in_err-key.field-0.0 ≡ refusal.WrongType) × ((m : Mutation) → IsOfRecord c.args.self.now c.args.kind (texts c.args.fields.now) m → ⊥))
    by (inl want) = inl want
    by (inr none) = inr (none.0, λ m h. none.1 m.key (rw c.as_slice.ensures.value h.3))

pub returns-in_err-cells-clause-refusals : goal.returns-in_err-cells-clause-refusals
returns-in_err-cells-clause-refusals c =
    let known = err_from_is_err_and c.from_residual-in_err-cells.result c.from_residual-in_err-cells.ensures.1 in
    rw (known.1, known.2) (by c.in_err-cells.ensures.refusals)
  where
    by : (c.in_err-cells.field-0.0 ≡ refusal.OutOfMemory) ⊎ ((c.in_err-cells.field-0.0 ≡ refusal.WrongType) × ((cells : List NamedValue) → AllZip (IsColumnCell (texts c.args.fields.now)) c.as_slice-2.result.now cells → ⊥))
        → (c.in_err-cells.field-0.0 ≡ refusal.OutOfMemory) ⊎ ((c.in_err-cells.field-0.0 ≡ refusal.WrongType) × ((m : Mutation) → IsOfRecord c.args.self.now c.args.kind (texts c.args.fields.now) m → ⊥))
    by (inl want) = inl want
    by (inr none) = inr (none.0, λ m h. none.1 m.cells (rw c.as_slice-2.ensures.value h.4))
