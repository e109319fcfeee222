use Rattle.std.proofs.Common.{◌+◌, ℕ, refl, subst, arith, get_or}
use Rattle.std.specs.Fork.{ChangesAt}
use Rattle.span_threads.proofs.changes.for_each_mut.Goals as goal

pub returns : goal.returns
returns g c i d less = (
  refl,
  subst (λ (n : ℕ). ChangesAt g.F.Fn c.args.f.now n (get_or c.args.items.now i d) (get_or c.parts_from.new.items i d)) {x = 0 + i} (omega arith) (c.parts_from.ensures.each i d less),
)
