use Rattle.std.proofs.Common.{◌≡◌, [], length}
use Rattle.span_grammar.specs.declared.grammar.Part.TheVariants as part
use Rattle.span_primary.specs.Phrases.{each_read}
use Rattle.span_primary.specs.Expressions.{after, when}
use Rattle.span_primary.proofs.reader.Reader.when_rest.Given as goal

abbrev pub invariant-loop-tokens : goal.invariant-loop-tokens
invariant-loop-tokens g l = each_read (when (after l.self.text l.self.left).expression).read part.When l.found l.tokens.now ≡ each_read (when (after l.fn.self.text l.fn.self.left).expression).read part.When [] l.fn.tokens.now

abbrev pub decreases-loop-tokens : goal.decreases-loop-tokens
decreases-loop-tokens g l = length l.tokens.now
