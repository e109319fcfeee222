use Rattle.std.proofs.Common.{◌≡◌, drop, fold}
use Rattle.span_rows.specs.Hashes.{row_writes}
use Rattle.span_rows.proofs.key.hash_row.Given as goal

-- what is to be written, and what is left to write
abbrev pub invariant-loop-value : goal.invariant-loop-value
invariant-loop-value g l = fold g.H.Hasher.write l.initial.state (row_writes l.row) ≡ fold g.H.Hasher.write l.state (row_writes (drop l.value-index l.row))
