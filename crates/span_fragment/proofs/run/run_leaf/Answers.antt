use Rattle.span_algebra.proofs.Reduced.{enough_means}
use Rattle.span_tablescan.specs.Given.{kept_given}
use Rattle.span_fragment.proofs.run.run_leaf.Goals as goal

pub returns : goal.returns
returns c = λ rows typed is.
    let given = kept_given c.args.schema.now c.args.leaf.now rows in
    enough_means c.args.top.now c.args.place c.in_ok-reduction.reduction c.in_ok-reduction.ensures _ given (c.in_ok-piece_of.ensures given (c.in_ok-found.ensures.ok.of rows typed is))
