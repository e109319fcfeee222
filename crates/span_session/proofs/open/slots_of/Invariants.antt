use Rattle.std.proofs.Common.{◌≡◌, ◌-◌, ◌++◌, [], length}
use Rattle.span_board.specs.Rule.{holders, clients}
use Rattle.span_session.proofs.open.slots_of.Given as goal

abbrev pub invariant-loop-number : goal.invariant-loop-number
invariant-loop-number g l = (l.first.table_id ≡ g.J.Naming.table) × (l.first.me ≡ (holders l.number (16 - l.number) ++ clients 0 l.sessions, [])) × (length l.slots.items ≡ l.number)
