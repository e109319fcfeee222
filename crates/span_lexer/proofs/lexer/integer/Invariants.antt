use Rattle.std.proofs.Common.{◌≡◌, ◌≤◌, drop}
use Rattle.span_lexer.specs.Lexing.{integer, greatest_integer}
use Rattle.span_lexer.proofs.lexer.integer.Given as goal

abbrev pub invariant-loop-digit : goal.invariant-loop-digit
invariant-loop-digit l = record { within : l.value ≤ greatest_integer; so_far : integer l.value (drop l.digit-index l.digits) ≡ integer 0 l.digits }
