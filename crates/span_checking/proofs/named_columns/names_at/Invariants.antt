use Rattle.std.proofs.Common.{◌≡◌, ◌++◌, ℕ, drop, map}
use Rattle.std.specs.Prelude.{slice_get}
use Rattle.span_checking.specs.NamedBatches.{name_of}
use Rattle.span_checking.proofs.named_columns.names_at.Given as goal

-- the names so far, and those of the columns that are left
abbrev pub invariant-loop-place : goal.invariant-loop-place
invariant-loop-place l =
    l.found.items ++ map (λ (p : ℕ). name_of l.names (slice_get l.columns p)) (drop l.place-index l.places) ≡ map (λ (p : ℕ). name_of l.names (slice_get l.columns p)) l.places
