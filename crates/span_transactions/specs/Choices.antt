-- Mutations of a transaction, lent or copied.
use Rattle.std.specs.Prelude.{List}
use Rattle.span_mutate.specs.declared.mutation.CheckedMutation.{CheckedMutation}
use Rattle.span_transactions.specs.declared.choice.Chosen.{Chosen}
use Rattle.span_transactions.specs.declared.choice.Chosen.TheVariants.{Lent, Made}

abbrev pub chosen_mutations : Chosen → List CheckedMutation
chosen_mutations (Lent mutations) = mutations.now
chosen_mutations (Made mutations) = mutations
