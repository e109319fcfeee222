use Rattle.std.proofs.Common.{◌≡◌, Bool, true, false, not, ◌||◌, [], ◌∷◌, None, refl}
use Rattle.span_value.specs.declared.refusal.Refusal.TheVariants as refusal
use Rattle.span_machine.specs.declared.transaction.Decision.{Decision}
use Rattle.span_machine.specs.declared.transaction.Decision.TheVariants as decision
use Rattle.span_value.specs.Results.{first_cause}
use Rattle.span_machine.specs.Machine.{is_no_decision}

-- what a step that is not refused has found

pub may_prepare : (u p z c : Bool) → first_cause ((not u || p || z, refusal.WrongState) ∷ (c, refusal.Conflict) ∷ []) ≡ None → (u ≡ true) × (p ≡ false) × (c ≡ false)
may_prepare true false false false e = (refl, refl, refl)
may_prepare true false false true e = absurd (cc)
may_prepare true false true c e = absurd (cc)
may_prepare true true z c e = absurd (cc)
may_prepare false p z c e = absurd (cc)

pub may_commit : (u ready late : Bool) → first_cause ((not u || not ready, refusal.WrongState) ∷ (late, refusal.TimestampRange) ∷ []) ≡ None → (u ≡ true) × (ready ≡ true) × (late ≡ false)
may_commit true true false e = (refl, refl, refl)
may_commit true true true e = absurd (cc)
may_commit true false late e = absurd (cc)
may_commit false ready late e = absurd (cc)

pub may_abort : (u : Bool) → first_cause ((not u, refusal.WrongState) ∷ []) ≡ None → u ≡ true
may_abort true e = refl
may_abort false e = absurd (cc)

pub may_apply : (u p early : Bool) → first_cause ((u || not p, refusal.WrongState) ∷ (early, refusal.TooEarly) ∷ []) ≡ None → (u ≡ false) × (p ≡ true) × (early ≡ false)
may_apply false true false e = (refl, refl, refl)
may_apply false true true e = absurd (cc)
may_apply false false early e = absurd (cc)
may_apply true p early e = absurd (cc)

pub undecided_is : (o : Decision) → is_no_decision o ≡ true → o ≡ decision.Undecided
undecided_is decision.Undecided e = refl
undecided_is (decision.Committed ts) e = absurd (cc)
undecided_is decision.Aborted e = absurd (cc)

pub may_trim : (backward safe : Bool) → first_cause ((backward, refusal.TrimBackward) ∷ (not safe, refusal.TrimTooNew) ∷ []) ≡ None → (backward ≡ false) × (safe ≡ true)
may_trim false true e = (refl, refl)
may_trim false false e = absurd (cc)
may_trim true safe e = absurd (cc)
