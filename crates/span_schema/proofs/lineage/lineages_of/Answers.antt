use Rattle.std.proofs.Common.{◌≡◌, ◌++◌, ◌∷◌, [], arith, length, map, inl, inr, sym, refl, ◌∙◌, ap, below_more, Some}
use Rattle.std.specs.List.{range_with_len, slice_get}
use Rattle.std.proofs.lemmas.Option.{slice_get_read}
use Rattle.std.proofs.lemmas.List.{length-take-le}
use Rattle.std.proofs.lemmas.List.FromFn.{length-map-range_with_len, map-range_with_len_more}
use Rattle.std.proofs.lemmas.Result.{err_from_is_err_and}
use Rattle.span_schema.specs.Lineages.{lineage_at}
use Rattle.span_schema.proofs.Paths.{lineage_step}
use Rattle.span_schema.proofs.lineage.lineages_of.Goals as goal

pub lineage_of-requires : goal.lineage_of-requires
lineage_of-requires c =
    let lines : length c.loop-i.lines.items ≡ length (map (lineage_at c.args.tables.now) (range_with_len 0 c.loop-i.i)) = ap length c.loop-i.invariant.lines in
    length-take-le c.loop-i.i c.args.tables.now (omega arith)
    ∙ sym (ap length c.as_slice.ensures.value ∙ lines ∙ length-map-range_with_len (lineage_at c.args.tables.now) 0 c.loop-i.i)

pub returns-in_err-line : goal.returns-in_err-line
returns-in_err-line c =
    let tables = c.args.tables.now in
    let i = c.loop-i.i in
    let at : slice_get tables i ≡ Some c.index-tables-i.result = slice_get_read tables (length tables) i c.index-tables-i.result refl c.loop-i-test.true c.index-tables-i.is in
    let step = lineage_step tables i c.index-tables-i.result c.as_slice.result.now at (c.as_slice.ensures.value ∙ c.loop-i.invariant.lines) in
    let p = err_from_is_err_and c.from_residual.result c.from_residual.ensures.1 in
    rw (p.1, p.2) (elim c.in_err-line.ensures [
      | inl judged ↦ inl (record { place = i; before = c.loop-i.invariant.before; here = sym step.1 ∙ judged })
      | inr memory ↦ inr memory
    ])

pub loop-i-preserved : goal.loop-i-preserved
loop-i-preserved c =
    let tables = c.args.tables.now in
    let i = c.loop-i.i in
    let at : slice_get tables i ≡ Some c.index-tables-i.result = slice_get_read tables (length tables) i c.index-tables-i.result refl c.loop-i-test.true c.index-tables-i.is in
    let step = lineage_step tables i c.index-tables-i.result c.as_slice.result.now at (c.as_slice.ensures.value ∙ c.loop-i.invariant.lines) in
    let pushed : c.push.new.self.items ≡ c.loop-i.lines.items ++ c.in_ok-line.line ∷ [] = c.in_ok-push.ensures.items in
    let line : c.in_ok-line.line ≡ lineage_at tables i = c.in_ok-line.ensures.1 ∙ step.0 in
    let more = map-range_with_len_more (lineage_at tables) 0 i i (omega arith) in
    record {
      lines = pushed ∙ ap (λ ls. ls ++ c.in_ok-line.line ∷ []) c.loop-i.invariant.lines ∙ ap (λ l. map (lineage_at tables) (range_with_len 0 i) ++ l ∷ []) line ∙ sym more;
      before = below_more _ _ c.loop-i.invariant.before (sym step.1 ∙ c.in_ok-line.ensures.0);
    }
