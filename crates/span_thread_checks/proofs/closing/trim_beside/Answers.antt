use denote.RattleType.{RattleType}
use denote.Param.{param}
use denote.Param.Laws.{Laws}
use denote.Param.Send.{IsSend, IsSync, sendable, param_send}
use contract.Lifetimes.{Lfts}
use mir.Syntax.{Dict}
use Rattle.std.specs.declared.sync.Wait as Wait
use Rattle.std.specs.declared.thread.Threads as Threads
use Rattle.std.proofs.Crossing.{crosses}
use Rattle.span_board.specs.declared.board.Naming.{Ghosts}
use Rattle.span_session.proofs.Crosses.{db_sync, session_send}
use Rattle.span_session_fixtures.proofs.clock.SharedClock.TheSendSync as of_clock
use Rattle.span_session_fixtures.proofs.clock.Turnstile.TheSendSync as of_gate
use Rattle.span_thread_checks.proofs.closing.trim_beside.Goals as goal
use Rattle.span_thread_checks.proofs.closing.trim_beside.Lts as lts

-- what the first thread takes may cross to it. A lemma over plain variables: among the hypotheses of the goal the search gives up
takes : (j r : RattleType) (lj : Laws j) (lr : Laws r) (n : Ghosts j.Denot) (d : Dict) (t : Threads.Ghosts r.Denot) (e : Dict) (w : Wait.Ghosts r.Denot) (f : Dict) (κs : Lfts 15) → IsSync (param 1 r) → IsSend (lts.arg-0-1 j r lj lr n d t e w f κs)
takes j r lj lr n d t e w f κs runtime =
    let shared = db_sync (param 0 j) n in
    let mine = session_send (param 0 j) n in
    search (of_clock.the_field_sync, of_gate.the_field_sync, crosses, sendable) depth 20

pub join-requires-send-F : goal.join-requires-send-F
join-requires-send-F g c κs within =
    param_send 1 _ (takes g.row.J g.row.R g.J.laws g.R.laws g.J.Naming g.J.Naming-dict g.R.Threads g.R.Threads-dict g.R.Wait g.R.Wait-dict κs c.type_bounds.sync-R)
