use Rattle.std.proofs.Common.{◌≡◌, ◌++◌}
use Rattle.span_rows.proofs.distinct.copies_of.Given as goal

-- the rows so far, and those that are left
abbrev pub invariant-loop-key : goal.invariant-loop-key
invariant-loop-key l = l.rows ++ l.key-iterator ≡ l.fn.seen.keys
