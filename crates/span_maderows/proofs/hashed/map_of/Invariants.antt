use Rattle.std.proofs.Common.{◌≡◌, vec_len}
use Rattle.span_maderows.specs.Made.{in_key_order}
use Rattle.span_maderows.proofs.Hashing.{put_all}
use Rattle.span_maderows.proofs.hashed.map_of.Given as goal

-- with the rows that are left put into the map too, all are
abbrev pub invariant-loop-key : goal.invariant-loop-key
invariant-loop-key l = put_all l.rest.items l.map.entries ≡ in_key_order l.fn.rows.items

abbrev pub decreases-loop-key : goal.decreases-loop-key
decreases-loop-key l = vec_len l.rest
