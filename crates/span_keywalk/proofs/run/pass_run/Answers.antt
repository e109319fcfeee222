use Rattle.std.proofs.Common.{◌≡◌, ◌∙◌, ℕ, ◌+◌, ◌-◌, ◌<◌, List, ap, arith, get_or, length, length-set, subst, take, Some}
use Rattle.std.specs.Prelude.{Bool, nat_le}
use Rattle.span_keywalk.specs.Walks.{AreShortOf}
use Rattle.span_keywalk.proofs.Runs.{counted_more, kept_short, run_step}
use Rattle.span_keywalk.proofs.run.pass_run.Goals as goal

pub loop-i-preserved : goal.loop-i-preserved
loop-i-preserved c =
    let cs = c.args.arena.now.cells in
    let l = c.loop-i in
    let n : ℕ = c.args.number + l.i in
    let b : Bool = nat_le (get_or c.key_lengths-lengths.result.now n 0) c.args.most in
    let few : l.i < 8 = omega (arith, c.loop-i-test.true) in
    let short : b ≡ nat_le (length _) c.args.most =
    ap (λ (ls : List ℕ). nat_le (get_or ls n 0) c.args.most) c.key_lengths-lengths.ensures ∙ kept_short cs n c.args.most (omega (arith, c.requires.within, few)) c.requires.most in
    let fits : l.count < length l.numbers = omega (arith, c.requires.room, l.invariant.places, l.invariant.room, few) in
    record {
      room = counted_more b l.count c.args.count l.i l.invariant.room;
      places = length-set l.numbers l.count n ∙ l.invariant.places;
      passed = λ ns stop left es run many before.
          run_step cs ns c.args.most c.args.number l.i left l.count stop l.numbers b es run many few fits short (l.invariant.passed ns stop left es run many before);
    }

pub returns-clause-passed : goal.returns-clause-passed
returns-clause-passed c = λ ns stop left es run many before.
    let l = c.loop-i in
    let all : l.i ≡ 8 = omega (arith, c.loop-i-test.false, l.auto.i-end) in
    subst (λ (k : ℕ). AreShortOf c.args.arena.now.cells ns c.args.most stop es (take l.count l.numbers) (left - k) (Some (c.args.number + k))) all
    (l.invariant.passed ns stop left es run many before)
