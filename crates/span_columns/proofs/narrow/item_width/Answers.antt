use Rattle.std.proofs.Common.{◌∙◌, ap, sym}
use Rattle.span_query.specs.declared.query.BoundQuery.{BoundQuery}
use Rattle.span_query.specs.declared.query.Item.TheVariants as item
use Rattle.span_columns.specs.Reads.{masks_of}
use Rattle.span_columns.proofs.Layered.{derived_width}
use Rattle.span_columns.proofs.narrow.item_width.Goals as goal

pub returns-in-Derived : goal.returns-in-Derived
returns-in-Derived c = c.len.ensures ∙ derived_width (masks_of c.args.leaves.now) c.args.item.now c.get.result.now (c.in-Derived.is ∙ ap (λ (q : BoundQuery). item.Derived q) (sym c.get.ensures))
