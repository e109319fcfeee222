use Rattle.std.proofs.Common.{◌≡◌, ℕ, sym, List, Option, Some, None, subst}
use Rattle.std.specs.Prelude.{slice_get, IfSome}
use Rattle.std.specs.Option.{option_copied}
use Rattle.std.specs.Borrow.{Bor}
use Rattle.span_keycode.specs.Parts.{AreApart}
use Rattle.span_machine.specs.declared.query.ScanLeaf.{ScanLeaf}
use Rattle.span_openqueries.specs.Counts.{AreAllApart}
use Rattle.span_openqueries.proofs.Counted.{apart_at}
use Rattle.span_openqueries.proofs.query.KeptQuery.leaf.Goals as goal

apart_of : (o : Option (Bor ScanLeaf)) (leaves : List ScanLeaf) (i : ℕ) → AreAllApart leaves → option_copied o ≡ slice_get leaves i → IfSome o (λ l. AreApart l.now.covered)
apart_of None leaves i all is = tt
apart_of (Some l) leaves i all is = apart_at leaves i l.now all (sym is)

pub returns-clause-apart : goal.returns-clause-apart
returns-clause-apart c =
    apart_of c.leaf_at.result c.as_slice.result.now c.args.leaf (subst AreAllApart (sym c.as_slice.ensures) c.self.invariant.apart) c.leaf_at.ensures
