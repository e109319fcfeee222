use Rattle.std.proofs.Common.{◌≡◌, ◌∙◌, sym, subst, true, List}
use Rattle.std.specs.Prelude.{slice_get, IfSome}
use Rattle.span_machine.specs.declared.query.ScanLeaf.{ScanLeaf}
use Rattle.span_machine.specs.Pieces.{Pieced}
use Rattle.span_openqueries.specs.Counts.{AreCounted, AreAllApart, is_uncovered}
use Rattle.span_openqueries.proofs.Counted.{counted_after, apart_after, recounted}
use Rattle.span_openqueries.proofs.query.KeptQuery.cover.Goals as goal

pub invariant_of-self : goal.invariant_of-self
invariant_of-self c =
    let old = c.self.inside.open.leaves in
    let leaves = c.into_vec-leaves.result.items in
    let pieces = c.into_vec-pieces.result.items in
    let after = c.add_piece_at-added.new in
    let same : leaves ≡ old = c.into_vec-leaves.ensures ∙ c.replace.ensures.value in
    let before : AreCounted leaves pieces =
    recounted old leaves c.self.inside.pieces pieces same (c.into_vec-pieces.ensures ∙ c.replace-2.ensures.value) c.self.invariant.counted in
    let free_there : IfSome (slice_get old c.args.leaf) (λ l. is_uncovered l c.args.range ≡ true) =
    subst (λ (p : Pieced). IfSome (slice_get p.query.leaves c.args.leaf) (λ l. is_uncovered l c.args.range ≡ true)) (sym c.self.view_is) c.requires.uncovered in
    let free = subst (λ (ls : List ScanLeaf). IfSome (slice_get ls c.args.leaf) (λ l. is_uncovered l c.args.range ≡ true)) (sym same) free_there in
    record {
      counted = recounted after.leaves.items c.from_vec.result after.pieces.items c.from_vec-2.result c.from_vec.ensures c.from_vec-2.ensures
          (counted_after c.add_piece_at-added.result leaves after.leaves.items pieces after.pieces.items c.args.leaf c.args.range c.args.piece before c.add_piece_at-added.ensures.ok c.add_piece_at-added.ensures.err);
      apart = subst AreAllApart (sym c.from_vec.ensures)
          (apart_after c.add_piece_at-added.result leaves after.leaves.items pieces after.pieces.items c.args.leaf c.args.range c.args.piece
          (subst AreAllApart (sym same) c.self.invariant.apart) free c.add_piece_at-added.ensures.ok c.add_piece_at-added.ensures.err);
    }
