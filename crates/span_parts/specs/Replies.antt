-- The replies to steps, by what the functions of this crate return.
use Rattle.std.specs.Prelude.{ℕ, Bool, true, false}
use Rattle.span_gather.specs.declared.rows.Rows.{Rows}
use Rattle.span_machine.specs.declared.step.Reply.{Reply}
use Rattle.span_machine.specs.declared.step.Reply.TheVariants as reply
use Rattle.span_journal.specs.declared.journal.Opened.{Opened}
pub use Rattle.span_journal.specs.Judged.{as_reply, decision_reply}

-- the reply to a scan: whether there was something to scan
abbrev pub scan_reply : Bool → Reply
scan_reply true = reply.Scanned
scan_reply false = reply.Nothing

-- the reply of a query's end: the timestamp that it reads at, and its rows
abbrev pub rows_reply : ℕ × Rows → Reply
rows_reply r = reply.Rows r.0 r.1

-- the reply to an Open
abbrev pub opened_reply : Opened → Reply
opened_reply opened = reply.Opened opened.query opened.s opened.leaves
