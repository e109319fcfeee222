use Rattle.std.proofs.Common.{true, ◌≤◌, length, slice_range, arith}
use Rattle.span_command.specs.Unread.{held, HasParts, IsTooLong}
use Rattle.span_command.proofs.Ranges.{joined, length_of_range}
use Rattle.span_command.proofs.Steps.{each, fits, lets_go}
use Rattle.span_command.proofs.line.Lines.let_go.Goals as goal

pub returns-then-self-gt-LONGEST_LINE : goal.returns-then-self-gt-LONGEST_LINE
returns-then-self-gt-LONGEST_LINE c =
    let lines = c.args.self.now in
    let bytes = lines.buffer.items in
    let within : lines.searched ≤ length bytes = omega (arith, fits lines, lines.searched_within) in
    let long : IsTooLong (slice_range bytes lines.start lines.searched) =
    omega (arith, length_of_range bytes lines.start lines.searched within, c.if-self-gt-LONGEST_LINE.true) in
    λ known text. each known (λ rest. HasParts lines.is_cut lines.has_ended (held lines) rest text)
    (λ rest. HasParts true lines.has_ended (slice_range bytes lines.searched lines.end) rest text)
    (λ rest. lets_go lines.is_cut lines.has_ended (held lines) (slice_range bytes lines.start lines.searched) (slice_range bytes lines.searched lines.end) rest text
    (joined bytes lines.start lines.searched lines.end lines.in_order lines.searched_within) lines.no_lf long)
