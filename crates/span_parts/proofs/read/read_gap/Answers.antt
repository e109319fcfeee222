use Rattle.std.proofs.Common.{sym, subst}
use Rattle.std.specs.Prelude.{IfSome, Option}
use Rattle.std.specs.List.{AllByRecursion}
use Rattle.span_schema.specs.Numbers.{IsTable}
use Rattle.span_columns.specs.declared.leaf.Leaf.{Leaf}
use Rattle.span_leaves.specs.Maskable.{IsMaskable}
use Rattle.span_parts.proofs.read.read_gap.Goals as goal

pub read_leaf-requires-clause-tables : goal.read_leaf-requires-clause-tables
read_leaf-requires-clause-tables c = subst (λ (o : Option Leaf). IfSome o (λ l. AllByRecursion (IsTable c.args.schema.now) l.tables)) (sym c.in-Some-leaf.ensures) c.requires.tables

pub read_leaf-requires-clause-maskable : goal.read_leaf-requires-clause-maskable
read_leaf-requires-clause-maskable c = subst (λ (o : Option Leaf). IfSome o (IsMaskable c.args.schema.now)) (sym c.in-Some-leaf.ensures) c.requires.maskable
