use Rattle.std.proofs.Common.{◌≡◌, ◌++◌, drop, map, Some}
use Rattle.span_sorting.specs.Columns.{key_over}
use Rattle.span_sorting.proofs.columns.keys_over.Given as goal

-- the keys so far, and those that are left
abbrev pub invariant-loop-key : goal.invariant-loop-key
invariant-loop-key l = map (key_over l.columns) l.keys ≡ map (λ key. Some key) l.moved.items ++ map (key_over l.columns) (drop l.key-index l.keys)
