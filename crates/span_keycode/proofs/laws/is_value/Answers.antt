use Rattle.std.proofs.Common.{◌∙◌}
use Rattle.span_keycode.proofs.ValueLaws.{value_from}
use Rattle.span_keycode.proofs.laws.is_value.Goals as goal

pub returns : goal.returns
returns c =
    value_from c.args.value.now
    (λ e. c.is_of_kind-int.ensures.fits (c.is_of_kind-int.ensures.kind ∙ e))
    (λ e. c.is_of_kind-str.ensures.fits (c.is_of_kind-str.ensures.kind ∙ e))
    (λ e. c.is_of_kind-bytes.ensures.fits (c.is_of_kind-bytes.ensures.kind ∙ e))
    (λ e. c.is_of_kind-bool.ensures.fits (c.is_of_kind-bool.ensures.kind ∙ e))
