use Rattle.std.proofs.Common.{List, sym, subst}
use Rattle.std.specs.List.{AllByRecursion}
use Rattle.span_schema.specs.declared.table.Table.{Table}
use Rattle.span_schema.specs.Numbers.{IsTable}
use Rattle.span_leaves.specs.Maskable.{IsMaskable}
use Rattle.span_locks.proofs.Held.{leaf_tables, leaf_maskable}
use Rattle.span_locks.proofs.slot.LockedSlot.read.Goals as goal

pub read_leaf-requires-clause-tables : goal.read_leaf-requires-clause-tables
read_leaf-requires-clause-tables g c =
    let own = c.requires in
    subst (λ (s : List Table). AllByRecursion (IsTable s) c.args.leaf.now.tables) (sym c.args.board.now.schema_is)
    (leaf_tables g.J.Naming.schema own.0 own.1 c.args.place c.args.leaf.now c.args.top.now own.2)

pub read_leaf-requires-clause-maskable : goal.read_leaf-requires-clause-maskable
read_leaf-requires-clause-maskable g c =
    let own = c.requires in
    subst (λ (s : List Table). IsMaskable s c.args.leaf.now) (sym c.args.board.now.schema_is)
    (leaf_maskable g.J.Naming.schema own.0 own.1 c.args.place c.args.leaf.now c.args.top.now own.2)
