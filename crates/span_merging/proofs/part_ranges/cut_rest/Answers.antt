use Rattle.std.proofs.Common.{rules, [], get_or, refl}
use Rattle.span_query.specs.Rows.{Row}
use Rattle.span_merging.specs.PartRanges.{is_before_boundary, is_from_boundary}
use Rattle.span_merging.proofs.PartRanges.{back_cut, front_cut}
use Rattle.span_merging.proofs.part_ranges.cut_rest.Goals as goal

pub returns-clause-before : goal.returns-clause-before
returns-clause-before c =
    let keys = c.args.keys.now in
    let boundary : Row = get_or c.args.rows.now c.args.boundary.now.place [] in
    front_cut keys c.args.are_exact (is_before_boundary keys boundary) c.args.rest.now _ c.count_before-count.result refl c.requires.rest (search rules) c.count_before-count.ensures.before

pub returns-clause-from : goal.returns-clause-from
returns-clause-from c =
    let keys = c.args.keys.now in
    let boundary : Row = get_or c.args.rows.now c.args.boundary.now.place [] in
    back_cut keys c.args.are_exact (is_from_boundary keys boundary) c.args.rest.now _ c.count_before-count.result refl c.requires.rest (search rules) c.count_before-count.ensures.from
