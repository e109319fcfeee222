-- The faults of mutations.
use Rattle.std.specs.Prelude.{◌≡◌, Bool, true, false, List, Err}
use Rattle.span_value.specs.declared.refusal.Refusal.{Refusal}
use Rattle.span_value.specs.declared.refusal.Refusal.TheVariants.{Exists, Missing, ParentMissing, HasChildren, RowTooLong}
use Rattle.span_schema.specs.declared.table.Table.{Table}
use Rattle.span_mutate.specs.declared.mutation.CheckedMutation.{CheckedMutation}
use Rattle.span_mutate.specs.declared.row.TableRow.{TableRow}
use Rattle.span_mutate.specs.Database.{apply}

-- what a mutation that was checked against the schema may be refused with
abbrev pub is_mutation_fault : Refusal → Bool
is_mutation_fault Exists = true
is_mutation_fault Missing = true
is_mutation_fault ParentMissing = true
is_mutation_fault HasChildren = true
is_mutation_fault RowTooLong = true
is_mutation_fault why = false

-- Apply has these faults alone
abbrev pub FaultsAreNamed : Type 0
FaultsAreNamed =
    (tables : List Table) (db : List TableRow) (ms : List CheckedMutation) (why : Refusal)
    → apply tables db ms ≡ Err why → is_mutation_fault why ≡ true
