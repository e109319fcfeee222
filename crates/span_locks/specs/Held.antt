-- What lies under the locks.
use Rattle.std.specs.Prelude.{◌≡◌, ℕ, List, [], ◌∷◌, ◌++◌, Ok}
use Rattle.atomic_table.specs.Seated.{TableId}
use Rattle.span_schema.specs.declared.table.Table.{Table}
use Rattle.span_params.specs.declared.params.Parameter.{Parameter}
use Rattle.span_query.specs.declared.query.Statement.{Statement}
use Rattle.span_binder.specs.Understands.{Understands}
use Rattle.span_machine.specs.Pieces.{Journaled, machine_of}
use Rattle.span_parts.specs.Asked.{AreAsked}
use Rattle.span_parts.specs.Whole.{Shards, IsWhole}
use Rattle.span_board.specs.declared.board.Role.{Role}
use Rattle.span_board.specs.declared.board.Role.TheVariants.{Keeper}
use Rattle.span_board.specs.Rule.{known_at}

-- the query text, with these parameters, is understood as this statement
abbrev pub IsUnderstoodAs : List Table → List ℕ → List Parameter → Statement → Type 0
IsUnderstoodAs schema text params q = Understands schema text params (Ok q)

-- The keeper's seat, in this table, knows the log of the journal; the journal belongs to what the slots in use are to have, which are the
-- first ones; each open query has what its query text is understood as.
pub record IsKeeper (schema : List Table) (table here : TableId) (views : List (List Role))
    (j : Journaled) : Type 0 where
  pub at : here ≡ table
  pub knows : views ≡ (Keeper (known_at views) ∷ []) ∷ []
  pub log : (known_at views).commits ≡ j.log
  pub used : Shards
  pub spare : Shards
  pub slots : (known_at views).slots ≡ used ++ spare
  pub whole : IsWhole schema j used
  pub asked : AreAsked (IsUnderstoodAs schema) (machine_of j).queries
