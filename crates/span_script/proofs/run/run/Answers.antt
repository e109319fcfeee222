use Rattle.std.proofs.Common.{rules, ◌≡◌, ◌∙◌, true, false, refl}
use Rattle.std.proofs.lemmas.Result.{on_ok_weaker}
use Rattle.span_script.proofs.Runs.{if_more, if_no_more, none_so_far, one_so_far, all_answered}
use Rattle.span_script.proofs.run.run.Goals as goal

pub loop-init : goal.loop-init
loop-init g c = record {
  input_works = refl;
  output_works = refl;
  same_schema = refl;
  so_far = λ script known. none_so_far _ _ script _ _ _ _ _ known c.new-lines.ensures c.new-running.ensures c.in_ok-answers.ensures.none;
}

pub loop-preserved : goal.loop-preserved
loop-preserved g c =
    let before = c.loop.invariant in
    let more : c.in_ok-take_next.field-0 ≡ true = search rules in
    record {
      input_works = c.in_ok-take_next.ensures.ok.0 ∙ before.input_works;
      output_works = c.in_ok-write_many.ensures.ok ∙ c.in_ok-take_next.ensures.ok.1 ∙ before.output_works;
      same_schema = c.take_line.ensures.schema ∙ before.same_schema;
      so_far = λ script known.
          let so = before.so_far script known in
          one_so_far _ _ script _ _ _ _ _ _ _ _ _ _ _ _ _ _ _ _ _ _ so
          (if_more c.take_next.new.lines (g.I.InputDevice.remaining c.take_next.new.input) so.rest c.in_ok-take_next.field-0 more (c.in_ok-take_next.ensures.next so.rest so.to_come)) c.line-line.ensures
          c.in_ok-take_next.ensures.written before.same_schema c.in_ok-refused-2.ensures.exact c.in_ok-write_many.ensures.written;
    }

pub returns-then-not-branch-clause-answered : goal.returns-then-not-branch-clause-answered
returns-then-not-branch-clause-answered g c =
    let ended : c.in_ok-take_next.field-0 ≡ false = search rules in
    on_ok_weaker c.write_to.result (λ wrote script known.
    let so = c.loop.invariant.so_far script known in
    all_answered _ _ script _ _ _ _ _ _ _ _ _ _ _ so
    (if_no_more c.take_next.new.lines (g.I.InputDevice.remaining c.take_next.new.input) so.rest c.in_ok-take_next.field-0 ended (c.in_ok-take_next.ensures.next so.rest so.to_come))
    c.in_ok-take_next.ensures.written c.in_ok-refused.ensures.exact wrote.1)
    c.write_to.ensures.written
