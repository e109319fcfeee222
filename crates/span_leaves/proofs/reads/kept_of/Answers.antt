use Rattle.std.proofs.Common.{◌++◌, ◌∷◌, [], map, sym, ap, ◌∙◌, arith}
use Rattle.std.proofs.lemmas.List.FromFn.{map-range_with_len_more}
use Rattle.std.specs.List.{range_with_len}
use Rattle.span_columns.specs.Reads.{is_read, block_above}
use Rattle.span_leaves.proofs.reads.kept_of.Goals as goal

pub loop-place-preserved : goal.loop-place-preserved
loop-place-preserved c =
    c.in_ok-push.ensures.items
    ∙ ap (λ l. l ++ c.is_read_above.result ∷ []) c.loop-place.invariant
    ∙ ap (λ v. map (is_read (block_above c.args.block.now c.args.count)) (range_with_len 0 c.loop-place.place) ++ v ∷ []) c.is_read_above.ensures
    ∙ sym (map-range_with_len_more (is_read (block_above c.args.block.now c.args.count)) 0 c.loop-place.place c.loop-place.place (omega arith))
