use Rattle.std.proofs.Common.{◌≡◌, ◌++◌, chars, length, string_bytes}
use denote.Text.{Utf8}
use denote.Shadow.{shadow}
use Rattle.span_lexer.specs.LiteralValues as spec
use Rattle.std.specs.Str.{encode_utf8_all}
use Rattle.span_lexer.proofs.literal_value.text_of.Given as goal

-- the text so far, and what is left
abbrev pub invariant-loop-c : goal.invariant-loop-c
invariant-loop-c l =
    shadow (Utf8 l.rest)
    × (spec.text_of l.spelled ≡ string_bytes l.out ++ encode_utf8_all (spec.decode_all (chars l.rest)))

abbrev pub decreases-loop-c : goal.decreases-loop-c
decreases-loop-c l = length l.rest
