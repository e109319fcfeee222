use Rattle.std.proofs.Common.{◌-◌, ◌<◌, List, arith, length, ◌∙◌, ap}
use Rattle.span_schema.specs.declared.table.Table.{Table}
use Rattle.span_schema.specs.Lineages.{children_at}
use Rattle.span_schema.proofs.Numbered.{each_at, each_length}
use Rattle.span_schema.proofs.schema.Schema.children_of.Goals as goal

pub index-requires : goal.index-requires
index-requires c =
    let each = each_length (children_at c.self.inside.tables.items) (length c.self.inside.tables.items) c.self.inside.children.items c.self.invariant.children in
    omega (arith, each, ap (length {A = Table}) c.self.view_is)

pub returns : goal.returns
returns c =
    let within : c.args.table - 1 < length c.self.inside.tables.items = omega (arith, ap (length {A = Table}) c.self.view_is) in
    c.as_slice.ensures ∙ c.index.ensures
    ∙ each_at (children_at c.self.inside.tables.items) (length c.self.inside.tables.items) (c.args.table - 1) c.self.inside.children.items c.index.result.now c.self.invariant.children within
    ∙ ap (λ (ts : List Table). children_at ts (c.args.table - 1)) c.self.view_is
