use Rattle.std.proofs.Common.{◌≡◌, ◌<◌, length, Some, refl, sym, subst}
use Rattle.std.specs.Prelude.{slice_get}
use Rattle.std.proofs.lemmas.Option.{slice_get_read}
use Rattle.std.proofs.lemmas.Result.{on_ok_weaker}
use Rattle.span_openqueries.proofs.Counted.{counted_at, counted_length, put_piece}
use Rattle.span_openqueries.proofs.query.add_piece_at.Goals as goal

pub add_piece-requires : goal.add_piece-requires
add_piece-requires c =
    let leaves = c.args.leaves.now.items in
    let pieces = c.args.pieces.now.items in
    let within : c.args.leaf < length pieces = subst (λ n. c.args.leaf < n) (sym (counted_length leaves pieces c.requires.counted)) c.requires.within in
    let here : slice_get leaves c.args.leaf ≡ Some c.index_mut.result.now = slice_get_read leaves (length leaves) c.args.leaf c.index_mut.result.now refl c.requires.within c.index_mut.ensures.value in
    let there : slice_get pieces c.args.leaf ≡ Some c.index_mut-2.result.now = slice_get_read pieces (length pieces) c.args.leaf c.index_mut-2.result.now refl within c.index_mut-2.ensures.value in
    counted_at leaves pieces c.args.leaf c.index_mut.result.now c.index_mut-2.result.now c.requires.counted here there

pub returns-clause-ok : goal.returns-clause-ok
returns-clause-ok c =
    let leaves = c.args.leaves.now.items in
    let pieces = c.args.pieces.now.items in
    let within : c.args.leaf < length pieces = subst (λ n. c.args.leaf < n) (sym (counted_length leaves pieces c.requires.counted)) c.requires.within in
    let here : slice_get leaves c.args.leaf ≡ Some c.index_mut.result.now = slice_get_read leaves (length leaves) c.args.leaf c.index_mut.result.now refl c.requires.within c.index_mut.ensures.value in
    let there : slice_get pieces c.args.leaf ≡ Some c.index_mut-2.result.now = slice_get_read pieces (length pieces) c.args.leaf c.index_mut-2.result.now refl within c.index_mut-2.ensures.value in
    on_ok_weaker c.add_piece.result (λ p. put_piece leaves pieces c.args.leaf c.args.range c.args.piece c.index_mut.result.now c.add_piece.new.leaf c.index_mut-2.result.now c.add_piece.new.pieces here there p.0 p.1) c.add_piece.ensures.ok
