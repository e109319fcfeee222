use Rattle.std.proofs.Common.{◌≡◌, false, inr, Some}
use Rattle.span_script.specs.Scripts.{IsCommandLine, IsDone, is_passed_over}
use Rattle.span_steps.specs.Running.{state_of}
use Rattle.span_script.proofs.Doing.{adds_weaker}
use Rattle.span_script.proofs.lines.answer_text.Goals as goal

pub returns-in-Some-clause-exact : goal.returns-in-Some-clause-exact
returns-in-Some-clause-exact c =
    let a = c.args in
    let schema = a.core.now.schema in
    let m = a.core.now.machine in
    let state = state_of a.running.now in
    let next = state_of c.answer.new.running in
    let last = c.answer.new.core.machine in
    let not : is_passed_over a.text.now ≡ false = cc in
    adds_weaker (λ answer. IsDone schema c.in-Some.command state m answer next last) (λ answer. IsCommandLine schema (Some a.text.now) state m answer next last)
    a.answers.now c.answer.new.answers c.answer.result
    (λ answer is. inr (not, Some c.in-Some.command, c.in-Some.ensures, is))
    c.answer.ensures.exact
