use Rattle.std.specs.Prelude.{ℕ, Bool, ◌==◌, ◌&&◌, ◌||◌, nat_lt, nat_le, List, [], ◌∷◌, ◌++◌, filter, Result}
use Rattle.span_value.specs.declared.refusal.Refusal.{Refusal}
use Rattle.span_schema.specs.declared.table.Table.{Table}
use Rattle.span_mutate.specs.declared.mutation.CheckedMutation.{CheckedMutation}
use Rattle.span_mutate.specs.declared.row.TableRow.{TableRow}
use Rattle.span_mutate.specs.Database.{apply}
use Rattle.span_machine.specs.declared.transaction.Commit.{Commit}
use Rattle.span_machine.specs.Sorting.{in_order}

-- by timestamp, and then by number
abbrev pub is_before : Commit → Commit → Bool
is_before a b = nat_lt a.timestamp b.timestamp || (a.timestamp == b.timestamp && nat_lt a.number b.number)

-- the commits with a timestamp of at most s, in order
abbrev pub upto : List Commit → ℕ → List Commit
upto log s = in_order is_before (filter (λ c. nat_le c.timestamp s) log)

abbrev pub mutations_of : List Commit → List CheckedMutation
mutations_of [] = []
mutations_of (c ∷ cs) = c.mutations ++ mutations_of cs

-- the database that commits begin from: no rows
abbrev pub base : List TableRow
base = []

-- a base database with every commit at s or earlier, in order of timestamps
abbrev pub tables_from : List Table → List TableRow → List Commit → ℕ → Result (List TableRow) Refusal
tables_from schema db log s = apply schema db (mutations_of (upto log s))

-- the tables at s
abbrev pub tables : List Table → List Commit → ℕ → Result (List TableRow) Refusal
tables schema log s = tables_from schema base log s
