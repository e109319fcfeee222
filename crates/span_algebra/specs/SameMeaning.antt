-- Rows that a table may have in the place of others.
use Rattle.std.specs.Prelude.{◌≡◌, ℕ, List, ◌∷◌, ◌++◌, Some, length}
use Rattle.span_query.specs.declared.query.BoundQuery.{BoundQuery}
use Rattle.span_query.specs.Rows.{Row, Rows, append_results}
use Rattle.span_query.specs.Meaning.{given, meaning_over}
use Rattle.span_collected.specs.declared.reduction.Reduction.{Reduction}
use Rattle.span_collected.specs.Reductions.{AreEnough}

-- The query means the same where the table at this place has the one rows as where it has the others, whatever rows it has before and after
-- them, and whatever the other tables give.
pub record MeanTheSame (query : BoundQuery) (place : ℕ) (rows others : Rows) : Type 0 where
  pub of : (front rest : List Rows) (before after : Rows) → length front ≡ place
      → meaning_over (given (front ++ append_results before (append_results rows after) ∷ rest)) query
      ≡ meaning_over (given (front ++ append_results before (append_results others after) ∷ rest)) query

-- in the table at this place the query may have rows that are enough in the place of others
abbrev pub IsReductionFor : BoundQuery → ℕ → Reduction → Type 0
IsReductionFor query place reduction =
    (rows all : List Row) → AreEnough reduction rows all → MeanTheSame query place (Some rows) (Some all)
