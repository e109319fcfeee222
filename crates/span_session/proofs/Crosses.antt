-- A database may be shared by threads, and a session may move to another one.
use denote.RattleType.{RattleType}
use denote.Param.Send.{IsSend, IsSync, sendable}
use Rattle.std.proofs.Crossing.{crosses}
use Rattle.span_board.specs.declared.board.Naming.{Ghosts}
use Rattle.span_board.specs.contracts.session.Session as Session
use Rattle.span_board.proofs.session.Session.TheSendSync as of_session
use Rattle.span_scans.proofs.Crosses.{locks_sync}
use Rattle.span_session.specs.contracts.db.Db as Db

-- threads may share a database
pub db_sync : (J : RattleType) (g : Ghosts J.Denot) → IsSync (Db.the_field J g).row
db_sync j g =
    let locks = locks_sync j g in
    search (crosses, sendable) depth 60 fits 20000

-- a session may move to another thread
pub session_send : (J : RattleType) (g : Ghosts J.Denot) → IsSend (Session.the_row J g)
session_send j g = of_session.the_send j g
