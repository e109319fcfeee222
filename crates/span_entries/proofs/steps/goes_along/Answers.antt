use Rattle.std.proofs.Common.{ℕ, List, arith, subst, length-drop, get_or}
use Rattle.std.proofs.lemmas.Option.{MatchOption-at_some, MatchOption-at_none}
use Rattle.span_entries.specs.declared.steps.KeyStep.{KeyStep}
use Rattle.span_entries.specs.declared.steps.KeyStep.TheVariants.{Table}
use Rattle.span_entries.specs.Steps.{IsTaken, IsOff}
use Rattle.span_entries.proofs.Along.{all_steps_left, step_taken, step_off, taken_within, whether_ended}
use Rattle.span_entries.proofs.steps.goes_along.Goals as goal

abbrev nothing : KeyStep
nothing = Table 0

pub loop-step-init : goal.loop-step-init
loop-step-init c = record {
  within = omega arith;
  left = all_steps_left c.args.schema.now c.meets_rules.ensures c.args.table c.requires.table c.args.steps.now c.args.key.now c.requires.steps;
}

pub returns-in-None : goal.returns-in-None
returns-in-None c =
    let steps : List KeyStep = c.args.steps.now in
    let i = c.loop-step.step-index in
    let P : List ℕ → Type 0 = IsOff (get_or steps i nothing) in
    step_off c.args.schema.now c.args.table steps c.args.key.now i c.loop-step.at nothing c.loop-step-test.true
    (subst P c.after.ensures (MatchOption-at_none _ _ c.in-None.is c.step_width.ensures)) c.loop-step.invariant.left

pub loop-step-preserved : goal.loop-step-preserved
loop-step-preserved c =
    let steps : List KeyStep = c.args.steps.now in
    let key = c.args.key.now in
    let i = c.loop-step.step-index in
    let at = c.loop-step.at in
    let w = c.in-Some.width in
    let P : List ℕ → Type 0 = λ xs. IsTaken (get_or steps i nothing) xs w in
    let one = subst P c.after.ensures (MatchOption-at_some _ _ _ c.in-Some.is c.step_width.ensures) in
    record {
      within = omega (arith, taken_within (get_or steps i nothing) _ w one, c.loop-step.invariant.within, length-drop at key);
      left = step_taken c.args.schema.now c.args.table steps key i at nothing c.loop-step-test.true w one c.loop-step.invariant.left;
    }

pub returns : goal.returns
returns c =
    whether_ended c.args.schema.now c.args.table c.args.steps.now c.args.key.now c.loop-step.step-index c.loop-step.at (let stop = c.loop-step-test.false in omega arith) c.loop-step.invariant.left c.loop-step.invariant.within
