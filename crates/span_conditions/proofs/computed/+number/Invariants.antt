use Rattle.std.proofs.Common.{◌≡◌, ◌++◌, map, drop}
use Rattle.std.specs.List.{fold}
use Rattle.span_value.specs.declared.truth.Outcome.TheVariants.{Val}
use Rattle.span_value.specs.declared.value.Value.TheVariants as value
use Rattle.span_expr.specs.Meaning.{apply_link, link_val}
use Rattle.span_conditions.proofs.computed.+number.Given as goal

-- the links that are left, after the number so far
abbrev pub invariant-linked_number-loop-link : goal.invariant-linked_number-loop-link
invariant-linked_number-loop-link l =
    fold apply_link (Val (value.Int l.fn.first)) (map (link_val (l.left ++ l.right)) l.links)
    ≡ fold apply_link (Val (value.Int l.so_far)) (map (link_val (l.left ++ l.right)) (drop l.link-index l.links))
