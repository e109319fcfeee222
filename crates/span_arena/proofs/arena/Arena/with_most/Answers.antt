use Rattle.std.proofs.Common.{arith, refl}
use Rattle.span_arena.proofs.arena.Arena.with_most.Goals as goal

pub invariant_of-result : goal.invariant_of-result
invariant_of-result c = rw (c.new.ensures.items, c.new-2.ensures.items, c.new-3.ensures) (record {
  sound = record {
    rank = λ _. 0;
    top = 0;
    runs = λ _. tt;
    free_list = tt;
    prepared = λ _. refl;
    counted = refl;
    bounded = omega arith;
  };
  spare = record { list = tt; counted = refl };
  cells = refl;
  few = omega arith;
  falling = λ _. tt;
})
