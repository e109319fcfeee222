use Rattle.std.proofs.Common.{◌≡◌, ◌++◌, chars, length}
use denote.Text.{Utf8}
use denote.Shadow.{shadow}
use Rattle.span_lexer.specs.LiteralValues as spec
use Rattle.span_lexer.proofs.literal_value.bytes_of.Given as goal

-- the bytes so far, and what is left
abbrev pub invariant-loop-c : goal.invariant-loop-c
invariant-loop-c l =
    shadow (Utf8 l.rest)
    × (spec.bytes_of l.spelled ≡ l.out ++ spec.as_bytes (spec.decode_all (chars l.rest)))

abbrev pub decreases-loop-c : goal.decreases-loop-c
decreases-loop-c l = length l.rest
