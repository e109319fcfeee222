use Rattle.std.specs.Prelude.{ℕ, List, Option}
use Rattle.span_store.specs.declared.chain.Version.{Version}
use Rattle.span_store.specs.declared.chain.PreparedWrite.{PreparedWrite}

-- what a shard has of a coded key: its versions, from the newest to the oldest, and the write that is prepared there
pub record KeyVersions : Type 0 where
  pub key : List ℕ
  pub versions : List Version
  pub prepared : Option PreparedWrite
