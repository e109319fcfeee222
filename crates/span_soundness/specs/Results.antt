-- Rows of types, and tables of such rows.
use Rattle.std.specs.Prelude.{List, [], ◌∷◌, Some, None}
use Rattle.span_value.specs.declared.value.Kind.{Kind}
use Rattle.span_query.specs.Rows.{Row, Rows}
use Rattle.span_soundness.specs.Types.{IsRowOf}

-- each row is of the types
abbrev pub AreRowsOf : List Kind → List Row → Type 0
AreRowsOf types [] = Unit {0}
AreRowsOf types (row ∷ rows) = IsRowOf types row × AreRowsOf types rows

-- rows of the types, or the fault
abbrev pub AreResultsOf : List Kind → Rows → Type 0
AreResultsOf types None = Unit {0}
AreResultsOf types (Some rows) = AreRowsOf types rows

-- the tables of the leaves: as many as leaves, each with rows of its leaf's types
abbrev pub AreTablesOf : List (List Kind) → List (List Row) → Type 0
AreTablesOf [] [] = Unit {0}
AreTablesOf (types ∷ leaves) (rows ∷ tables) = AreRowsOf types rows × AreTablesOf leaves tables
AreTablesOf leaves tables = ⊥
