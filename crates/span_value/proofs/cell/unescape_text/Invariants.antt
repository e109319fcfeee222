use Rattle.std.proofs.Common.{length, string_bytes}
use denote.Text.{Utf8}
use denote.Shadow.{shadow}
use Rattle.span_value.proofs.CellTexts.{IsHalvedFrom}
use Rattle.span_value.proofs.cell.unescape_text.Given as goal

abbrev pub invariant-loop-front : goal.invariant-loop-front
invariant-loop-front l = record { utf8 : shadow (Utf8 l.rest); so_far : IsHalvedFrom l.text (string_bytes l.out) l.rest }

abbrev pub decreases-loop-front : goal.decreases-loop-front
decreases-loop-front l = length l.rest
