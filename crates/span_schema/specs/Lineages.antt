-- The lineages of tables, and what a schema is.
use Rattle.std.specs.Prelude.{◌≡◌, ℕ, zero, suc, ◌+◌, ◌-◌, ◌<◌, ◌==◌, Bool, false, List, [], ◌∷◌, ◌++◌, length, take, Option, Some, None, slice_get}
use Rattle.std.specs.List.{range_with_len, filter}
use Rattle.span_value.specs.declared.refusal.Refusal.{Refusal}
use Rattle.span_schema.specs.declared.table.Table.{Table}
use Rattle.span_schema.specs.declared.lineage.Lineage.{Lineage}
use Rattle.span_schema.specs.Tables.{parent_place}
use Rattle.span_value.specs.Results.{first_cause}
use Rattle.span_schema.specs.Rules.{causes_of}

abbrev pub parent_in : List Table → Option Table → Option ℕ
parent_in before None = None
parent_in before (Some t) = parent_place before t

-- the place of the parent of the table at a place; both are counted from 0
abbrev pub parent_at : List Table → ℕ → Option ℕ
parent_at tables i = parent_in (take i tables) (slice_get tables i)

abbrev pub above : (ℕ → List ℕ) → Option ℕ → List ℕ
above path None = []
above path (Some p) = path p

-- the last of the path to the table at a place, up to n steps from it
abbrev pub path_in : List Table → ℕ → ℕ → List ℕ
path_in tables zero i = []
path_in tables (suc steps) i = above (path_in tables steps) (parent_at tables i) ++ (i + 1) ∷ []

-- the path to the table at a place: the path to its parent, and then its own number. A parent is
-- before its child, so there are no more steps than places
abbrev pub path_at : List Table → ℕ → List ℕ
path_at tables i = path_in tables (suc i) i

abbrev pub lineage_at : List Table → ℕ → Lineage
lineage_at tables i = record { parent = parent_at tables i; path = path_at tables i }

-- the path to a parent, by the lineages of the tables before
abbrev pub path_of_line : Option Lineage → List ℕ
path_of_line None = []
path_of_line (Some line) = line.path

abbrev pub path_below : List Lineage → Option ℕ → List ℕ
path_below lines parent = above (λ p. path_of_line (slice_get lines p)) parent

abbrev pub lineage_in : List Table → Table → List Lineage → Lineage
lineage_in before t lines =
    record {
      parent = parent_place before t;
      path = path_below lines (parent_place before t) ++ (length before + 1) ∷ [];
    }

abbrev pub judged_in : List Table → Table → List Lineage → Option Refusal
judged_in before t lines = first_cause (causes_of before t (length (path_below lines (parent_place before t)) + 1))

-- whether the parent is the table at a place
abbrev pub is_parent : ℕ → Option ℕ → Bool
is_parent i None = false
is_parent i (Some p) = p == i

-- the numbers of the tables whose parent is at a place
abbrev pub children_at : List Table → ℕ → List ℕ
children_at tables i = filter (λ n. is_parent i (parent_at tables (n - 1))) (range_with_len 1 (length tables))

abbrev pub cause_in : List Table → ℕ → Option Table → Option Refusal
cause_in before level None = None
cause_in before level (Some t) = first_cause (causes_of before t level)

-- the first rule that the table at a place breaks
abbrev pub cause_at : List Table → ℕ → Option Refusal
cause_at tables i = cause_in (take i tables) (length (path_at tables i)) (slice_get tables i)

-- each table meets the rules
pub record MeetsRules (tables : List Table) : Type 0 where
  pub at : (i : ℕ) → i < length tables → cause_at tables i ≡ None

-- the first table that breaks a rule, and the first rule that it breaks
pub record IsFirstCause (tables : List Table) (why : Refusal) : Type 0 where
  pub place : ℕ
  pub before : (i : ℕ) → i < place → cause_at tables i ≡ None
  pub here : cause_at tables place ≡ Some why
