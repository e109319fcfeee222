use Rattle.std.specs.Prelude.{List}
use Rattle.span_schema.specs.declared.table.Table.{Table}
use Rattle.span_machine.specs.Machine.{Machine}
use Rattle.span_machine.specs.Pieces.{Journaled, machine_of}
use Rattle.span_core.specs.Promises.{IsRunTo}
pub use Rattle.span_parts.specs.Whole.{Shards, IsWhole}

-- a database in memory: its schema, and the machine
pub record State : Type 0 where
  pub schema : List Table
  pub machine : Machine

-- a journal and shards that belong together, and a run that leads to the journal's machine
pub record IsDatabase (schema : List Table) (j : Journaled) (shards : Shards) : Type 0 where
  pub whole : IsWhole schema j shards
  pub past : IsRunTo schema (machine_of j)
