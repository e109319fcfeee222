use Rattle.std.proofs.Common.{◌≡◌, map, drop}
use Rattle.std.specs.List.{list_all}
use Rattle.span_expr.specs.Meaning.{is_total_arm}
use Rattle.span_expr.specs.Places.{link_operand, reads_only, is_in, reads_link, reads_arm}
use Rattle.span_expr.proofs.reads.+reads.Given as goal

abbrev pub invariant-all_read_within-loop-operand : goal.invariant-all_read_within-loop-operand
invariant-all_read_within-loop-operand l =
    list_all (λ b. b) (map (reads_only (is_in l.low l.high)) l.operands) ≡ list_all (λ b. b) (map (reads_only (is_in l.low l.high)) (drop l.operand-index l.operands))

abbrev pub invariant-links_read_within-loop-link : goal.invariant-links_read_within-loop-link
invariant-links_read_within-loop-link l =
    list_all link_operand (map (reads_link (is_in l.low l.high)) l.links) ≡ list_all link_operand (map (reads_link (is_in l.low l.high)) (drop l.link-index l.links))

abbrev pub invariant-arms_read_within-loop-arm : goal.invariant-arms_read_within-loop-arm
invariant-arms_read_within-loop-arm l =
    list_all is_total_arm (map (reads_arm (is_in l.low l.high)) l.arms) ≡ list_all is_total_arm (map (reads_arm (is_in l.low l.high)) (drop l.arm-index l.arms))
