use Rattle.std.proofs.Common.{◌≡◌, ◌++◌, drop, map}
use Rattle.std.specs.List.{filter}
use Rattle.span_shard.specs.Overlay.{is_unchanged}
use Rattle.span_shard.proofs.overlay.unchanged_keys.Given as goal

-- the keys so far, and those of what is left
abbrev pub invariant-loop-stored : goal.invariant-loop-stored
invariant-loop-stored l =
    l.keys.items ++ map (λ c. c.key) (filter (is_unchanged l.changes) (drop l.stored-index l.found)) ≡ map (λ c. c.key) (filter (is_unchanged l.changes) l.found)
