use denote.RattleType.{RattleType}
use denote.Param.{param}
use denote.Param.Laws.{Laws}
use denote.Param.Send.{IsSync, sendable, param_sync}
use contract.Lifetimes.{Lfts}
use mir.Syntax.{Dict}
use Rattle.std.specs.declared.sync.Wait as Wait
use Rattle.std.specs.declared.thread.Threads as Threads
use Rattle.std.proofs.Crossing.{crosses}
use Rattle.span_truetime.specs.declared.clock.Clock as Clock
use Rattle.span_params.proofs.params.Params.TheSendSync as of_params
use Rattle.span_board.specs.declared.board.Naming.{Ghosts}
use Rattle.span_scans.specs.declared.workers.Gate as Gate
use Rattle.span_scans.proofs.Crosses.{locks_sync, plan_sync}
use Rattle.span_scans.proofs.scan_queue.ScanQueue.TheSendSync as of_queue
use Rattle.span_scans.proofs.locks.Locks.scan_side_by_side.Goals as goal
use Rattle.span_scans.proofs.locks.Locks.scan_side_by_side.Lts as lts

-- what the workers share may be shared. A lemma over plain variables: among the hypotheses of the goal the search gives up
shares : (j r c a : RattleType) (lj : Laws j) (lr : Laws r) (lc : Laws c) (la : Laws a) (n : Ghosts j.Denot) (d : Dict) (t : Threads.Ghosts r.Denot) (e : Dict) (w : Wait.Ghosts r.Denot) (f : Dict) (k : Clock.Ghosts c.Denot) (h : Dict) (s : Gate.Ghosts a.Denot) (i : Dict) (κs : Lfts 12) → IsSync (param 1 r) → IsSync (param 2 c) → IsSync (param 3 a) → IsSync (lts.arg-0-2 j r c a lj lr lc la n d t e w f k h s i κs)
shares j r c a lj lr lc la n d t e w f k h s i κs runtime clock gate =
    let shared = locks_sync (param 0 j) n in
    let queue = of_queue.the_send (param 0 j) n in
    search (plan_sync, of_params.the_sync, crosses, sendable) depth 20

pub map_indices-requires-sync-F : goal.map_indices-requires-sync-F
map_indices-requires-sync-F g c κs within =
    param_sync 2 _ (shares g.row.J g.row.R g.row.C g.row.G g.J.laws g.R.laws g.C.laws g.G.laws g.J.Naming g.J.Naming-dict g.R.Threads g.R.Threads-dict g.R.Wait g.R.Wait-dict g.C.Clock g.C.Clock-dict g.G.Gate g.G.Gate-dict κs c.type_bounds.sync-R c.type_bounds.sync-C c.type_bounds.sync-G)
