use Rattle.std.proofs.Common.{◌∙◌, ◌++◌, Bool, List, map, ap}
use Rattle.std.proofs.lemmas.Result.{on_ok_weaker}
use Rattle.span_query.specs.Rows.{Row}
use Rattle.span_rows.specs.Masks.{values_where}
use Rattle.span_columns.specs.declared.leaf.Leaf.{Leaf}
use Rattle.span_fragment.proofs.KeptRows.{moved_added}
use Rattle.span_fragment.proofs.kept.move_kept.Goals as goal

pub returns-clause-added : goal.returns-clause-added
returns-clause-added c =
    let leaf : Leaf = c.args.leaf.now in
    let rows : List Row = c.args.rows.now in
    let old : List Row = c.args.found.now in
    let new : List Row = c.append_where.new.self in
    let moved = ap (λ (ms : List Bool). old ++ map (values_where ms) rows) (c.as_slice.ensures ∙ c.requires.mask) in
    on_ok_weaker c.append_where.result (λ is. λ schema entries added. moved_added schema leaf entries c.requires.part rows old new added (is ∙ moved)) c.append_where.ensures.rows
