use denote.RattleType.{RattleType}
use denote.Param.{param}
use denote.Param.Laws.{Laws}
use denote.Param.Send.{IsSync, sendable, param_sync}
use contract.Lifetimes.{Lfts}
use mir.Syntax.{Dict}
use Rattle.std.specs.declared.sync.Wait as Wait
use Rattle.std.specs.declared.thread.Threads as Threads
use Rattle.std.proofs.Crossing.{crosses}
use Rattle.span_schema.proofs.schema.Schema.TheSendSync as of_schema
use Rattle.span_board.specs.declared.board.Naming.{Ghosts}
use Rattle.span_session.proofs.Crosses.{db_sync}
use Rattle.span_session_fixtures.proofs.clock.SharedClock.TheSendSync as of_clock
use Rattle.span_thread_checks.proofs.callers.call_all.Goals as goal
use Rattle.span_thread_checks.proofs.callers.call_all.Lts as lts

-- what the threads share may be shared. A lemma over plain variables: among the hypotheses of the goal the search gives up
shares : (j r : RattleType) (lj : Laws j) (lr : Laws r) (n : Ghosts j.Denot) (d : Dict) (t : Threads.Ghosts r.Denot) (e : Dict) (w : Wait.Ghosts r.Denot) (f : Dict) (κs : Lfts 12) → IsSync (param 1 r) → IsSync (lts.arg-0-4 j r lj lr n d t e w f κs)
shares j r lj lr n d t e w f κs runtime =
    let shared = db_sync (param 0 j) n in
    search (of_clock.the_field_sync, of_schema.the_sync, crosses, sendable) depth 20

pub map_vec-requires-sync-F : goal.map_vec-requires-sync-F
map_vec-requires-sync-F g c κs within =
    param_sync 4 _ (shares g.row.J g.row.R g.J.laws g.R.laws g.J.Naming g.J.Naming-dict g.R.Threads g.R.Threads-dict g.R.Wait g.R.Wait-dict κs c.type_bounds.sync-R)
