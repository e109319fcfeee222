use Rattle.std.proofs.Common.{◌≡◌, ◌++◌, drop, string_bytes}
use Rattle.span_gather.specs.Explained.{leaf_lines}
use Rattle.span_gather.proofs.explain.push_leaves.Given as goal

-- the lines so far, and those of the leaves that are left
abbrev pub invariant-loop-number : goal.invariant-loop-number
invariant-loop-number l = string_bytes l.out ++ leaf_lines l.schema l.number (drop l.number l.leaves) ≡ string_bytes l.fn.out ++ leaf_lines l.schema 0 l.leaves
