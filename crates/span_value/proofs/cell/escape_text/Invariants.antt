use Rattle.std.proofs.Common.{◌≡◌, ◌++◌, length, string_bytes}
use denote.Text.{Utf8}
use denote.Shadow.{shadow}
use Rattle.span_value.specs.Cells.{escaped}
use Rattle.span_value.proofs.cell.escape_text.Given as goal

abbrev pub invariant-loop-front : goal.invariant-loop-front
invariant-loop-front l = record { utf8 : shadow (Utf8 l.rest); so_far : string_bytes l.out ++ escaped l.rest ≡ escaped l.text }

abbrev pub decreases-loop-front : goal.decreases-loop-front
decreases-loop-front l = length l.rest
