use Rattle.std.proofs.Common.{◌-◌, ◌<◌, List, arith, length, ◌∙◌, ap}
use Rattle.span_schema.specs.declared.table.Table.{Table}
use Rattle.span_schema.specs.Lineages.{lineage_at}
use Rattle.span_schema.proofs.Numbered.{each_at, each_length}
use Rattle.span_schema.proofs.schema.Schema.line.Goals as goal

pub index-requires : goal.index-requires
index-requires c =
    let each = each_length (lineage_at c.self.inside.tables.items) (length c.self.inside.tables.items) c.self.inside.lines.items c.self.invariant.lines in
    omega (arith, each, ap (length {A = Table}) c.self.view_is)

pub returns-clause-line : goal.returns-clause-line
returns-clause-line c =
    let within : c.args.table - 1 < length c.self.inside.tables.items = omega (arith, ap (length {A = Table}) c.self.view_is) in
    c.index.ensures
    ∙ each_at (lineage_at c.self.inside.tables.items) (length c.self.inside.tables.items) (c.args.table - 1) c.self.inside.lines.items c.index.result.now c.self.invariant.lines within
    ∙ ap (λ (ts : List Table). lineage_at ts (c.args.table - 1)) c.self.view_is
