use Rattle.std.proofs.Common.{◌≡◌, drop}
use Rattle.span_mutate.specs.Database.{apply}
use Rattle.span_mutate.proofs.root.check_root.Given as goal

-- what is left to run on the rows so far
abbrev pub invariant-loop-mutation : goal.invariant-loop-mutation
invariant-loop-mutation l = apply l.schema l.now.items (drop l.mutation-index l.mutations) ≡ apply l.schema l.fn.rows.items l.mutations
