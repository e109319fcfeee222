use Rattle.std.proofs.Common.{◌≡◌, map, drop}
use Rattle.std.specs.List.{list_all}
use Rattle.span_expr.specs.Meaning.{is_total_arm}
use Rattle.span_expr.specs.Places.{link_operand, reads_only, reads_link, reads_arm}
use Rattle.span_columns.specs.Reads.{is_not}
use Rattle.span_columns.proofs.reads.+avoids.Given as goal

abbrev pub invariant-all_avoid-loop-operand : goal.invariant-all_avoid-loop-operand
invariant-all_avoid-loop-operand l =
    list_all (λ b. b) (map (reads_only (is_not l.place)) l.operands) ≡ list_all (λ b. b) (map (reads_only (is_not l.place)) (drop l.operand-index l.operands))

abbrev pub invariant-links_avoid-loop-link : goal.invariant-links_avoid-loop-link
invariant-links_avoid-loop-link l =
    list_all link_operand (map (reads_link (is_not l.place)) l.links) ≡ list_all link_operand (map (reads_link (is_not l.place)) (drop l.link-index l.links))

abbrev pub invariant-arms_avoid-loop-arm : goal.invariant-arms_avoid-loop-arm
invariant-arms_avoid-loop-arm l =
    list_all is_total_arm (map (reads_arm (is_not l.place)) l.arms) ≡ list_all is_total_arm (map (reads_arm (is_not l.place)) (drop l.arm-index l.arms))
