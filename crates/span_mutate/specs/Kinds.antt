-- Kinds of mutations.
use Rattle.std.specs.Prelude.{Bool, true, false}
use Rattle.span_mutate.specs.declared.mutation.MutationKind.{MutationKind}
use Rattle.span_mutate.specs.declared.mutation.MutationKind.TheVariants.{Insert, InsertOrUpdate, Delete}

abbrev pub is_delete : MutationKind → Bool
is_delete Delete = true
is_delete kind = false

-- whether a mutation may make a new row
abbrev pub may_insert : MutationKind → Bool
may_insert Insert = true
may_insert InsertOrUpdate = true
may_insert kind = false
