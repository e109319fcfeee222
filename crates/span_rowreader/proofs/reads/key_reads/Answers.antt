use Rattle.std.proofs.Common.{◌≡◌, List, [], ◌++◌, rules, arith, ap, drop, length}
use Rattle.span_entries.specs.declared.steps.KeyStep.{KeyStep}
use Rattle.span_entries.specs.declared.steps.KeyStep.TheVariants.{Table}
use Rattle.span_rowreader.specs.declared.reads.KeyRead.{KeyRead}
use Rattle.span_rowreader.specs.Reads.{key_reads}
use Rattle.span_rowreader.proofs.KeyReads.{step_added, all_added}
use Rattle.span_rowreader.proofs.reads.key_reads.Goals as goal

abbrev nothing : KeyStep
nothing = Table 0

pub loop-step-init : goal.loop-step-init
loop-step-init c =
    let none : c.new-reads.result.items ≡ [] = search rules in
    let so_far = ap (λ (l : List KeyRead). l ++ key_reads c.args.steps.now 0 (drop (length l) c.args.places.now)) none in
    record { within = omega arith; so_far = so_far }

pub loop-step-preserved : goal.loop-step-preserved
loop-step-preserved c = record {
  within = omega (arith, c.in_ok-above.ensures.within, c.loop-step.invariant.within);
  so_far = step_added c.args.steps.now c.args.places.now c.loop-step.step-index c.loop-step.reads.items c.add_read.new.reads.items c.loop-step.above c.in_ok-above.above nothing c.loop-step-test.true c.in_ok-above.ensures c.loop-step.invariant.so_far;
}

pub returns : goal.returns
returns c =
    all_added c.args.steps.now c.args.places.now c.loop-step.step-index c.loop-step.reads.items c.loop-step.above (let stop = c.loop-step-test.false in omega arith) c.loop-step.invariant.so_far
