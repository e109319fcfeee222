use Rattle.std.proofs.Common.{◌<◌, ℕ, refl, subst, arith}
use Rattle.span_truetime.specs.Limits.{timestamp_end}
use Rattle.span_steps.proofs.running.RunningScript.set_clock.Goals as goal

pub returns : goal.returns
returns c =
    let clock = c.in_ok-self.field-0 in
    let ok = c.in_ok-self.ensures.ok in (
      omega (arith, clock.ordered, ok.0, ok.1),
      subst (λ (n : ℕ). n < timestamp_end) ok.1 clock.in_range,
      clock,
      ok.0,
      ok.1,
      refl,
    )
