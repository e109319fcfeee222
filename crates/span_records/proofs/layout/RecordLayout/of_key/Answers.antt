use Rattle.std.proofs.Common.{◌≡◌, ◌⊎◌, inl, inr, None}
use Rattle.std.proofs.lemmas.Result.{IfErr-weaker}
use Rattle.span_value.specs.declared.refusal.Refusal.{Refusal}
use Rattle.span_value.specs.declared.refusal.Refusal.TheVariants as refusal
use Rattle.span_schema.specs.Numbers.{number_named, key_places}
use Rattle.span_records.specs.Layouts.{LacksKey}
use Rattle.span_records.proofs.Within.{lacks_nothing}
use Rattle.span_records.proofs.layout.RecordLayout.of_key.Goals as goal

pub returns-clause-refusals : goal.returns-clause-refusals
returns-clause-refusals c =
    IfErr-weaker c.layout_at.result
    (λ why. (why ≡ refusal.OutOfMemory) ⊎ ((why ≡ refusal.WrongType) × LacksKey (key_places c.args.schema.now c.in-Some.number) (key_places c.args.schema.now c.in-Some.number)))
    (λ why. (why ≡ refusal.OutOfMemory) ⊎ ((why ≡ refusal.NoTable) × (number_named c.args.schema.now c.args.table.now ≡ None)))
    by
    (rw c.key_places.ensures at c.layout_at.ensures.refusals)
  where
    by : (why : Refusal) → (why ≡ refusal.OutOfMemory) ⊎ ((why ≡ refusal.WrongType) × LacksKey (key_places c.args.schema.now c.in-Some.number) (key_places c.args.schema.now c.in-Some.number))
        → (why ≡ refusal.OutOfMemory) ⊎ ((why ≡ refusal.NoTable) × (number_named c.args.schema.now c.args.table.now ≡ None))
    by why (inl want) = inl want
    by why (inr lacks) = absurd (lacks_nothing (key_places c.args.schema.now c.in-Some.number) lacks.1)
