use Rattle.std.proofs.Common.{◌≡◌, ◌-◌, ◌++◌, []}
use Rattle.span_board.specs.Rule.{clients, newcomers}
use Rattle.span_session.proofs.open.sessions_of.Given as goal

abbrev pub invariant-loop-owner : goal.invariant-loop-owner
invariant-loop-owner g l = (l.first.table_id ≡ g.J.Naming.table) × (l.first.me ≡ (clients l.owner (l.count - l.owner), [])) × (l.sessions.items ++ newcomers l.owner (l.count - l.owner) ≡ newcomers 0 l.count)
