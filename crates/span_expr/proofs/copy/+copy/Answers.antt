use Rattle.std.proofs.Common.{◌∙◌, ap, ◌-◌}
use Rattle.span_expr.specs.Places.{rank}
use Rattle.span_expr.proofs.Copies.{kept_next, copied_between, copied_starts_with, copied_match}
use Rattle.span_expr.proofs.copy.+copy.Goals as goal

pub copy_moved-returns-in_ok-a-in-Between-3 : goal.copy_moved-returns-in_ok-a-in-Between-3
copy_moved-returns-in_ok-a-in-Between-3 t c =
    copied_between (λ place. rank c.args.mask.now (place - c.args.front)) c.args.expr.now c.in-Between.a c.in-Between.low c.in-Between.high
    c.get-in-Between.result.now c.get-in-Between-2.result.now c.get-in-Between-3.result.now
    c.in_ok-a-in-Between-3.a c.in_ok-a-in-Between-3.low c.in_ok-a-in-Between-3.high
    c.in-Between.is c.get-in-Between.ensures c.get-in-Between-2.ensures c.get-in-Between-3.ensures
    (ap (λ p. p.0) c.in_ok-a-in-Between-3.ensures.0 ∙ c.in_ok-a-in-Between-2.ensures.0 ∙ c.in_ok-a-in-Between.ensures)
    (ap (λ p. p.1) c.in_ok-a-in-Between-3.ensures.0 ∙ kept_next c.copy_boxed-in-Between-2.result _ _ c.in_ok-a-in-Between-2.ensures.1 c.copy_boxed-in-Between-2.ensures)
    (kept_next c.copy_boxed-in-Between-3.result _ _ c.in_ok-a-in-Between-3.ensures.1 c.copy_boxed-in-Between-3.ensures)

pub copy_moved-returns-in_ok-a-in-Match-3 : goal.copy_moved-returns-in_ok-a-in-Match-3
copy_moved-returns-in_ok-a-in-Match-3 t c =
    copied_match (λ place. rank c.args.mask.now (place - c.args.front)) c.args.expr.now c.in-Match.a c.get-in-Match.result.now c.in_ok-a-in-Match-3.a
    c.in-Match.arms c.as_slice-in-Match.result.now c.in_ok-a-in-Match-3.arms c.in-Match.otherwise c.in_ok-a-in-Match-3.otherwise
    c.in-Match.is c.get-in-Match.ensures c.as_slice-in-Match.ensures
    (ap (λ p. p.0) c.in_ok-a-in-Match-3.ensures.0 ∙ c.in_ok-a-in-Match-2.ensures.0 ∙ c.in_ok-a-in-Match.ensures)
    (ap (λ p. p.1) c.in_ok-a-in-Match-3.ensures.0 ∙ kept_next c.copy_arms-in-Match.result _ _ c.in_ok-a-in-Match-2.ensures.1 c.copy_arms-in-Match.ensures)
    (kept_next c.copy_otherwise-in-Match.result _ _ c.in_ok-a-in-Match-3.ensures.1 c.copy_otherwise-in-Match.ensures)

pub copy_moved-returns-in_ok-a-in-StartsWith-2 : goal.copy_moved-returns-in_ok-a-in-StartsWith-2
copy_moved-returns-in_ok-a-in-StartsWith-2 t c =
    copied_starts_with (λ place. rank c.args.mask.now (place - c.args.front)) c.args.expr.now c.in-StartsWith.a c.in-StartsWith.prefix
    c.get-in-StartsWith.result.now c.get-in-StartsWith-2.result.now c.in_ok-a-in-StartsWith-2.a c.in_ok-a-in-StartsWith-2.prefix
    c.in-StartsWith.is c.get-in-StartsWith.ensures c.get-in-StartsWith-2.ensures
    (c.in_ok-a-in-StartsWith-2.ensures.0 ∙ c.in_ok-a-in-StartsWith.ensures)
    (kept_next c.copy_boxed-in-StartsWith-2.result _ _ c.in_ok-a-in-StartsWith-2.ensures.1 c.copy_boxed-in-StartsWith-2.ensures)
