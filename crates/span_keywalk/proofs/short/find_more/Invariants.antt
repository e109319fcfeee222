use Rattle.std.proofs.Common.{◌≡◌, ◌+◌, false, [], cond}
use Rattle.std.specs.Prelude.{IsTrue}
use Rattle.span_keywalk.specs.Walks.{walked_in, AreShortOf}
use Rattle.span_keywalk.proofs.short.find_more.Given as goal

-- no short key was passed over
abbrev pub invariant-loop-found : goal.invariant-loop-found
invariant-loop-found l = record {
  short : AreShortOf l.arena.cells l.nexts l.most l.stop (walked_in l.arena.cells l.nexts l.fn.found.left l.fn.found.at l.stop) l.found.batch l.found.left l.found.at;
  none : l.found.goes_on ≡ false → l.found.batch ≡ [] → walked_in l.arena.cells l.nexts l.found.left l.found.at l.stop ≡ [];
  empty : IsTrue l.found.goes_on → l.found.batch ≡ [];
}

abbrev pub decreases-loop-found : goal.decreases-loop-found
decreases-loop-found l = cond l.found.goes_on (l.found.left + 1) 0
