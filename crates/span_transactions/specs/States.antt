-- The state that a transaction is in.
use Rattle.std.specs.Prelude.{ℕ, Bool, not, ◌||◌, Option, Some, None}
use Rattle.span_machine.specs.declared.transaction.OpenTransaction.{OpenTransaction}
use Rattle.span_machine.specs.declared.transaction.Decision.{Decision}
use Rattle.span_machine.specs.declared.transaction.Decision.TheVariants as decision
use Rattle.span_machine.specs.Machine.{is_undecided, is_prepared_at}

-- the decision of a commit timestamp, or of none
abbrev pub decision_of : Option ℕ → Decision
decision_of None = decision.Aborted
decision_of (Some ts) = decision.Committed ts

-- the transaction may not be prepared at the slot: it is decided, or prepared there
abbrev pub has_wrong_state : ℕ → OpenTransaction → Bool
has_wrong_state slot t = not (is_undecided t) || is_prepared_at slot t
