use Rattle.std.proofs.Common.{ap, ◌∙◌, ◌∷◌, [], ℕ}
use Rattle.span_value.proofs.CellTexts.{two_pushed}
use Rattle.span_gather.proofs.explain.push_pair.Goals as goal

pub returns : goal.returns
returns c =
    two_pushed _ _ _ _ _ _ _ c.in_ok-push-2.ensures.bytes c.in_ok-push.ensures.bytes
    (c.in_ok-push.ensures.ascii c.hex_digit.ensures.ascii ∙ ap (λ (n : ℕ). n ∷ []) c.hex_digit.ensures.digit)
    (c.in_ok-push-2.ensures.ascii c.hex_digit-2.ensures.ascii ∙ ap (λ (n : ℕ). n ∷ []) c.hex_digit-2.ensures.digit)
