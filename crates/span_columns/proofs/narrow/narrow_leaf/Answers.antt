use Rattle.std.proofs.Common.{Bool, List, ◌∙◌, ap}
use Rattle.std.specs.Option.{option_map}
use Rattle.span_expr.specs.Places.{moved, rank}
use Rattle.span_columns.proofs.narrow.narrow_leaf.Goals as goal

pub returns-clause-filter : goal.returns-clause-filter
returns-clause-filter c = c.in_ok-filter.ensures ∙ ap (λ (m : List Bool). option_map (moved (rank m)) c.args.leaf.now.filter) c.as_slice-mask.ensures
