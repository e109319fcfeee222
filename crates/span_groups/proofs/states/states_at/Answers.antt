use Rattle.std.proofs.Common.{◌≡◌, ◌+◌, ◌-◌, ◌*◌, ℕ, List, take, drop, ap, arith}
use Rattle.span_groups.specs.declared.aggregate.AggregateState.{AggregateState}
use Rattle.span_groups.proofs.states.states_at.Goals as goal

pub returns : goal.returns
returns c =
    let all : List AggregateState = c.args.states.now in
    let wide : c.args.at * c.args.width + c.args.width - c.args.at * c.args.width ≡ c.args.width = omega arith in
    ap (λ (n : ℕ). take n (drop (c.args.at * c.args.width) all)) wide
