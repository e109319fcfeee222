use Rattle.std.proofs.Common.{◌≡◌, ◌⊎◌, inl, inr, refl, sym, length, List}
use Rattle.std.proofs.lemmas.List.{length-map}
use Rattle.std.specs.List.{AllZip}
use Rattle.std.proofs.lemmas.Result.{err_from_is_err_and}
use Rattle.span_value.specs.declared.refusal.Refusal.TheVariants as refusal
use Rattle.span_value.specs.declared.value.Value.{Value}
use Rattle.span_mutate.specs.declared.mutation.NamedValue.{NamedValue}
use Rattle.span_mutate.specs.declared.mutation.Mutation.{Mutation}
use Rattle.span_mutate.specs.declared.mutation.MutationKind.{MutationKind}
use Rattle.span_records.specs.Record.{texts}
use Rattle.span_records.specs.Layouts.{IsKeyCell, IsColumnCell, IsOfRecord}
use Rattle.span_records.proofs.Rows.{named_values}
use Rattle.span_records.proofs.layout.RecordLayout.row_of.Goals as goal

pub returns-clause-read : goal.returns-clause-read
returns-clause-read c =
    let fields = texts c.args.fields.now in
    let many : length fields ≡ c.args.self.now.fields = simp (length-map) (sym c.if-self-fields.false) in
    let cells = named_values fields c.args.self.now.cells.items c.in_ok-cells.cells (rw c.as_slice-2.ensures.value at c.in_ok-cells.ensures.read) in
    λ kind. (many, refl, refl, rw c.as_slice.ensures.value at c.in_ok-key.ensures.read, cells)

pub returns-in_err-key-clause-refusals : goal.returns-in_err-key-clause-refusals
returns-in_err-key-clause-refusals c =
    let known = err_from_is_err_and c.from_residual.result c.from_residual.ensures.1 in
    rw (known.1, known.2) (by c.in_err-key.ensures.refusals)
  where
    by : (c.in_err-key.field-0.0 ≡ refusal.OutOfMemory) ⊎ ((c.in_err-key.field-0.0 ≡ refusal.WrongType) × ((key : List Value) → AllZip (IsKeyCell (texts c.args.fields.now)) c.as_slice.result.now key → ⊥))
        → (c.in_err-key.field-0.0 ≡ refusal.OutOfMemory) ⊎ ((c.in_err-key.field-0.0 ≡ refusal.WrongType) × ((kind : MutationKind) (m : Mutation) → IsOfRecord c.args.self.now kind (texts c.args.fields.now) m → ⊥))
    by (inl want) = inl want
    by (inr none) = inr (none.0, λ kind m h. none.1 m.key (rw c.as_slice.ensures.value h.3))

pub returns-in_err-cells-clause-refusals : goal.returns-in_err-cells-clause-refusals
returns-in_err-cells-clause-refusals c =
    let known = err_from_is_err_and c.from_residual-in_err-cells.result c.from_residual-in_err-cells.ensures.1 in
    rw (known.1, known.2) (by c.in_err-cells.ensures.refusals)
  where
    by : (c.in_err-cells.field-0.0 ≡ refusal.OutOfMemory) ⊎ ((c.in_err-cells.field-0.0 ≡ refusal.WrongType) × ((cells : List NamedValue) → AllZip (IsColumnCell (texts c.args.fields.now)) c.as_slice-2.result.now cells → ⊥))
        → (c.in_err-cells.field-0.0 ≡ refusal.OutOfMemory) ⊎ ((c.in_err-cells.field-0.0 ≡ refusal.WrongType) × ((kind : MutationKind) (m : Mutation) → IsOfRecord c.args.self.now kind (texts c.args.fields.now) m → ⊥))
    by (inl want) = inl want
    by (inr none) = inr (none.0, λ kind m h. none.1 m.cells (rw c.as_slice-2.ensures.value h.4))
