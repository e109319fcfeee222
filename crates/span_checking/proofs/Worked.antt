-- The check of worked mutations, compared with what it comes to by hand. Each is proved by computing it.
use Rattle.std.proofs.Common.{◌≡◌, ℕ, true, List, [], ◌∷◌, Some, None, Ok, Err, refl}
use Rattle.span_value.specs.declared.value.Value.{Value}
use Rattle.span_value.specs.declared.value.Value.TheVariants.{Null, Bool as Flag}
use Rattle.span_value.specs.declared.refusal.Refusal.TheVariants.{NoColumn, NoTable, WrongType, NullNotAllowed, EmptyTransaction}
use Rattle.span_mutate.specs.declared.mutation.MutationKind.{MutationKind}
use Rattle.span_mutate.specs.declared.mutation.MutationKind.TheVariants.{Insert, Update, Delete}
use Rattle.span_mutate.specs.declared.mutation.NamedValue.{NamedValue}
use Rattle.span_mutate.specs.declared.mutation.Mutation.{Mutation}
use Rattle.span_checking.specs.Checking.{checked_transaction}
use Rattle.span_mutate.proofs.Worked.{mutation, one, schema}

abbrev asked : MutationKind → ℕ → List Value → List NamedValue → Mutation
asked kind name key cells = record { kind = kind; table = name ∷ []; key = key; cells = cells }

abbrev cell : ℕ → Value → NamedValue
cell name v = record { column = name ∷ []; value = v }

-- names of either case; the cells in the order of declaration
accepted : checked_transaction (schema true true) (asked Update 97 (one ∷ []) (cell 86 (Flag true) ∷ []) ∷ []) ≡ Ok (mutation Update 1 (one ∷ []) (None ∷ Some (Flag true) ∷ []) ∷ [])
accepted = refl

empty : checked_transaction (schema true true) [] ≡ Err EmptyTransaction
empty = refl

no_table : checked_transaction (schema true true) (asked Insert 68 [] [] ∷ []) ≡ Err NoTable
no_table = refl

-- the whole key is checked before the cells, its types before NULL
short_key : checked_transaction (schema true true) (asked Insert 65 [] (cell 97 Null ∷ []) ∷ []) ≡ Err WrongType
short_key = refl

null_key : checked_transaction (schema true true) (asked Insert 65 (Null ∷ []) (cell 97 Null ∷ []) ∷ []) ≡ Err NullNotAllowed
null_key = refl

key_as_cell : checked_transaction (schema true true) (asked Insert 65 (one ∷ []) (cell 97 one ∷ []) ∷ []) ≡ Err NoColumn
key_as_cell = refl

named_twice : checked_transaction (schema true true) (asked Insert 65 (one ∷ []) (cell 117 Null ∷ cell 85 Null ∷ []) ∷ []) ≡ Err NoColumn
named_twice = refl

delete_with_cell : checked_transaction (schema true true) (asked Delete 65 (one ∷ []) (cell 117 Null ∷ []) ∷ []) ≡ Err NoColumn
delete_with_cell = refl

-- the second mutation is checked where nothing refuses the first
second : checked_transaction (schema true true) (asked Delete 65 (one ∷ []) [] ∷ asked Insert 65 (one ∷ []) (cell 117 one ∷ []) ∷ []) ≡ Err WrongType
second = refl
