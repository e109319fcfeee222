use Rattle.std.proofs.Common.{◌≡◌, map, take}
use Rattle.span_rowreader.specs.Readers.{target}
use Rattle.span_rowreader.proofs.reader.targets.Given as goal

-- the places so far
abbrev pub invariant-loop-place : goal.invariant-loop-place
invariant-loop-place l = l.found.items ≡ map (target l.mask) (take l.place-index l.places)
