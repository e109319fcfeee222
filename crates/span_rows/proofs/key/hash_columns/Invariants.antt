use Rattle.std.proofs.Common.{◌≡◌, drop, fold}
use Rattle.span_query.specs.Groups.{columns_at}
use Rattle.span_rows.specs.Hashes.{row_writes}
use Rattle.span_rows.proofs.key.hash_columns.Given as goal

-- what is to be written, and what is left to write
abbrev pub invariant-loop-place : goal.invariant-loop-place
invariant-loop-place g l =
    fold g.H.Hasher.write l.initial.state (row_writes (columns_at l.places l.row))
    ≡ fold g.H.Hasher.write l.state (row_writes (columns_at (drop l.place-index l.places) l.row))
