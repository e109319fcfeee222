use Rattle.std.proofs.Common.{◌≡◌, ◌≤◌, chars, length}
use denote.Text.{Utf8}
use denote.Shadow.{shadow}
use Rattle.span_pattern.specs.Patterns as spec
use Rattle.span_pattern.proofs.pattern.match_prefix.Given as goal

abbrev pub invariant-loop-part : goal.invariant-loop-part
invariant-loop-part l =
    shadow (Utf8 l.rest)
    × (spec.match_prefix l.pattern (chars l.text) ≡ spec.match_prefix l.parts (chars l.rest))
    × (length l.parts ≤ length l.pattern)
    × (length l.rest ≤ length l.text)

abbrev pub decreases-loop-part : goal.decreases-loop-part
decreases-loop-part l = length l.parts
