use Rattle.std.proofs.Common.{◌∙◌, sym}
use Rattle.std.proofs.lemmas.List.{length-map}
use Rattle.span_expr.specs.Operators.{column_of}
use Rattle.span_query.specs.Groups.{columns_at}
use Rattle.span_rows.proofs.Alike.{unlike_lengths}
use Rattle.span_rows.proofs.key.have_equal_columns.Goals as goal

pub returns-then-left_places-right_places : goal.returns-then-left_places-right_places
returns-then-left_places-right_places c =
    unlike_lengths (columns_at c.args.left_places.now c.args.left.now) (columns_at c.args.right_places.now c.args.right.now)
    (λ same. c.if-left_places-right_places.true
    (sym (length-map c.args.left_places.now (column_of c.args.left.now)) ∙ same ∙ length-map c.args.right_places.now (column_of c.args.right.now)))
