use Rattle.std.proofs.Common.{rules, ◌≡◌, ◌∙◌, ℕ, ◌+◌, ◌<◌, length, get_or, subst, arith}
use Rattle.std.proofs.lemmas.List.{get_or-set_other, get_or_default, length-set}
use Rattle.std.specs.Fork.{ChangesAt}
use Rattle.span_threads.proofs.Parts.{changes_next}
use Rattle.span_threads.proofs.changes.in_turn.Goals as goal

pub loop-at-preserved : goal.loop-at-preserved
loop-at-preserved g c =
    let old = c.args.items.now in
    let now = c.loop-at.items in
    let at : ℕ = c.loop-at.at in
    let y = c.change_one.new.item in
    let within : at < length old = search rules in
    let item = c.index-items-at.result in
    let its : (d : g.row.T.Denot) → get_or now at item ≡ get_or old at d = λ d.
    get_or_default now at item d (omega (arith, within, c.loop-at.invariant.long)) ∙ c.loop-at.invariant.others at d (omega arith) in
    record {
      long = length-set now at y ∙ c.loop-at.invariant.long;
      changed = changes_next g.F.Fn c.args.f.now c.args.base old now at y within c.loop-at.invariant.long c.loop-at.invariant.changed (λ d. subst (λ x. ChangesAt g.F.Fn c.args.f.now (c.args.base + at) x y) (its d) c.change_one.ensures);
      others = λ k d past. get_or-set_other now at k y d (omega (arith, past)) ∙ c.loop-at.invariant.others k d (omega (arith, past));
    }
