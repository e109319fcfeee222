-- The locks of a database may be shared by threads: what lies under them may cross to another thread.
--
-- Of a type that has no expression or query in it, and no value that contracts alone see, its own crate proves this (`TheSendSync`).
-- `search` goes down through the fields of the others, and gives up at a limit where they are many, so that each has a line of its own here.
use denote.RattleType.{RattleType}
use denote.Param.Send.{IsSend, IsSync, sendable}
use Rattle.std.proofs.Crossing.{crosses}
use Rattle.sqlite_items.specs.contracts.items.Items as Items
use Rattle.span_expr.specs.contracts.expr.Expr as Expr
use Rattle.span_expr.proofs.expr.Expr.TheLaws.TheKnot as of_expr
use Rattle.span_query.specs.contracts.query.Join as Join
use Rattle.span_query.specs.contracts.query.Grouping as Grouping
use Rattle.span_query.specs.contracts.query.Block as Block
use Rattle.span_query.specs.contracts.query.BoundQuery as BoundQuery
use Rattle.span_query.specs.contracts.query.Statement as Statement
use Rattle.span_query.proofs.query.BoundQuery.TheLaws.TheKnot as of_query
use Rattle.span_columns.specs.contracts.leaf.LeafJoin as LeafJoin
use Rattle.span_columns.specs.contracts.leaf.Leaf as Leaf
use Rattle.span_columns.specs.contracts.leaf.Plan as Plan
use Rattle.span_machine.specs.contracts.query.OpenQuery as OpenQuery
use Rattle.span_machine.specs.contracts.query.ScanLeaf as ScanLeaf
use Rattle.span_machine.proofs.slot.SlotState.TheSendSync as of_slot
use Rattle.span_collected.specs.contracts.grouped.GroupedRows as GroupedRows
use Rattle.span_collected.specs.contracts.part_rows.PartRows as PartRows
use Rattle.span_fragment.specs.contracts.piece.Piece as Piece
use Rattle.span_transactions.proofs.transaction.KeptTransaction.TheSendSync as of_transaction
use Rattle.span_transactions.specs.contracts.commit.KeptCommit as KeptCommit
use Rattle.span_openqueries.specs.contracts.query.KeptQuery as KeptQuery
use Rattle.span_journal.specs.contracts.journal.Journal as Journal
use Rattle.atomic_table.proofs.badge.Badge.TheSendSync as of_badge
use Rattle.span_board.specs.declared.board.Naming.{Ghosts}
use Rattle.span_locks.specs.contracts.journal.LockedJournal as LockedJournal
use Rattle.span_scans.specs.contracts.locks.Locks as Locks
use Rattle.span_board.proofs.board.Board.TheSendSync as of_board
use Rattle.span_locks.proofs.slot.LockedSlot.TheSendSync as of_locked_slot

-- ---- expressions and queries

pub expr_send : IsSend (Expr.the_field).row
expr_send = search (crosses, of_expr.crosses, sendable) depth 60 fits 20000

pub expr_sync : IsSync (Expr.the_field).row
expr_sync = search (crosses, of_expr.crosses, sendable) depth 60 fits 20000

grouping_send : IsSend (Grouping.the_field).row
grouping_send = search (crosses, expr_send, sendable) depth 60 fits 20000

grouping_sync : IsSync (Grouping.the_field).row
grouping_sync = search (crosses, expr_sync, sendable) depth 60 fits 20000

join_send : (h : RattleType) → IsSend h → IsSend (Join.the_row h)
join_send h s = search (crosses, expr_send, sendable) depth 60 fits 20000

join_sync : (h : RattleType) → IsSync h → IsSync (Join.the_row h)
join_sync h s = search (crosses, expr_sync, sendable) depth 60 fits 20000

block_send : (h : RattleType) → IsSend h → IsSend (Block.the_row h)
block_send h s = search (crosses, join_send, expr_send, grouping_send, sendable) depth 60 fits 20000

block_sync : (h : RattleType) → IsSync h → IsSync (Block.the_row h)
block_sync h s = search (crosses, join_sync, expr_sync, grouping_sync, sendable) depth 60 fits 20000

blocks_send : (h : RattleType) → IsSend h → IsSend (Items.the_row (Block.the_row h))
blocks_send h s = let b = block_send h s in search (crosses, sendable) depth 60 fits 20000

blocks_sync : (h : RattleType) → IsSync h → IsSync (Items.the_row (Block.the_row h))
blocks_sync h s = let b = block_sync h s in search (crosses, sendable) depth 60 fits 20000

pub bound_query_send : IsSend (BoundQuery.the_field).row
bound_query_send = of_query.send-BoundQuery block_send blocks_send (search (crosses, sendable) depth 60 fits 20000) (search (crosses, sendable) depth 60 fits 20000)

pub bound_query_sync : IsSync (BoundQuery.the_field).row
bound_query_sync = of_query.sync-BoundQuery block_sync blocks_sync (search (crosses, sendable) depth 60 fits 20000) (search (crosses, sendable) depth 60 fits 20000)

statement_send : IsSend (Statement.the_field).row
statement_send = search (crosses, bound_query_send, sendable) depth 60 fits 20000

-- ---- plans, and open queries

leaf_join_send : IsSend (LeafJoin.the_field).row
leaf_join_send = search (crosses, expr_send, sendable) depth 60 fits 20000

leaf_join_sync : IsSync (LeafJoin.the_field).row
leaf_join_sync = search (crosses, expr_sync, sendable) depth 60 fits 20000

pub leaf_send : IsSend (Leaf.the_field).row
leaf_send = search (crosses, expr_send, leaf_join_send, sendable) depth 60 fits 20000

pub leaf_sync : IsSync (Leaf.the_field).row
leaf_sync = search (crosses, expr_sync, leaf_join_sync, sendable) depth 60 fits 20000

-- the workers of a query share its plan
pub plan_sync : IsSync (Plan.the_field).row
plan_sync = search (crosses, leaf_sync, bound_query_sync, sendable) depth 60 fits 20000

scan_leaf_send : IsSend (ScanLeaf.the_field).row
scan_leaf_send = search (crosses, leaf_send, sendable) depth 60 fits 20000

open_query_send : IsSend (OpenQuery.the_field).row
open_query_send = search (crosses, statement_send, scan_leaf_send, bound_query_send, sendable) depth 60 fits 20000

-- ---- pieces

grouped_rows_send : IsSend GroupedRows.the_row
grouped_rows_send = search (crosses, grouping_send, sendable) depth 60 fits 20000

part_rows_send : IsSend PartRows.the_row
part_rows_send = search (crosses, grouped_rows_send, sendable) depth 60 fits 20000

piece_send : IsSend (Piece.the_field).row
piece_send = search (crosses, part_rows_send, sendable) depth 60 fits 20000

-- ---- the journal

kept_query_send : IsSend KeptQuery.the_row
kept_query_send = search (crosses, open_query_send, piece_send, sendable) depth 60 fits 20000

kept_commit_send : IsSend KeptCommit.the_row
kept_commit_send = search (crosses, sendable) depth 60 fits 20000

pub journal_send : IsSend Journal.the_row
journal_send = search (crosses, kept_query_send, of_transaction.the_send, kept_commit_send, of_slot.the_field_send, sendable) depth 60 fits 20000

-- ---- the locks

locked_journal_send : (J : RattleType) (g : Ghosts J.Denot) → IsSend (LockedJournal.the_row J g)
locked_journal_send j g = search (crosses, journal_send, of_badge.the_send, sendable) depth 60 fits 20000

-- threads may share the locks of a database
pub locks_sync : (J : RattleType) (g : Ghosts J.Denot) → IsSync (Locks.the_field J g).row
locks_sync j g =
    let board = of_board.the_field_sync j g in
    let journal = locked_journal_send j g in
    let slot = of_locked_slot.the_send j g in
    search (crosses, sendable) depth 60 fits 20000
