-- Rows that are equal are the same row.
use Rattle.std.proofs.Common.{◌≡◌, ◌≢◌, false, length, ap}
use Rattle.std.specs.Cmp.{both_ways}
use Rattle.span_query.specs.Rows.{Row}
use Rattle.span_query.specs.Groups.{are_equal}
pub use Rattle.span_rows.specs.EqualRows.{is_equal-same, is_equal-itself, are_equal-same, are_equal-itself, are_equal-reversed}

pub unlike_lengths : (x y : Row) → length x ≢ length y → false ≡ are_equal x y
unlike_lengths x y apart = both_ways false (are_equal x y) (λ e. absurd cc) (λ e. absurd (apart (ap (λ (z : Row). length z) (are_equal-same x y e))))
