use Rattle.std.proofs.Common.{List}
use Rattle.span_query.specs.Rows.{Row}
use Rattle.span_collected.proofs.Reductions.{enough_again}
use Rattle.span_fragment.proofs.run.part_of.Goals as goal

pub returns-in_ok-ordered-in-Some : goal.returns-in_ok-ordered-in-Some
returns-in_ok-ordered-in-Some c =
    let kept : List Row = c.in_ok-kept.kept in
    let ordered : List Row = c.in_ok-ordered-in-Some.ordered in
    enough_again c.args.reduction.now ordered kept c.args.rows (c.in-Some.ensures ordered kept c.in_ok-ordered-in-Some.ensures) c.in_ok-kept.ensures
