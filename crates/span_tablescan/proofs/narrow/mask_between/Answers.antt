use Rattle.std.proofs.Common.{◌++◌, ◌∷◌, [], map, sym, ap, ◌∙◌, arith}
use Rattle.std.proofs.lemmas.List.FromFn.{map-range_with_len_more}
use Rattle.std.specs.List.{range_with_len}
use Rattle.span_expr.specs.Places.{is_in}
use Rattle.span_tablescan.proofs.narrow.mask_between.Goals as goal

pub loop-place-preserved : goal.loop-place-preserved
loop-place-preserved c =
    let test = is_in c.args.low c.args.high in
    c.in_ok-push.ensures.items
    ∙ ap (λ l. l ++ c.is_in.result ∷ []) c.loop-place.invariant
    ∙ ap (λ v. map test (range_with_len 0 c.loop-place.place) ++ v ∷ []) c.is_in.ensures
    ∙ sym (map-range_with_len_more test 0 c.loop-place.place c.loop-place.place (omega arith))
