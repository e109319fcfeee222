use Rattle.std.proofs.Common.{◌≡◌, [], length}
use Rattle.span_grammar.specs.declared.grammar.Part.TheVariants as part
use Rattle.span_primary.specs.Phrases.{each_read}
use Rattle.span_primary.specs.Expressions.{after, expression_more}
use Rattle.span_syntax.proofs.expression.ExpressionReader.expression_rest.Given as goal

abbrev pub invariant-loop-tokens : goal.invariant-loop-tokens
invariant-loop-tokens g l = each_read (expression_more l.self.text l.self.left (after l.self.text l.self.left)).read part.ExpressionMore l.found l.tokens.now ≡ each_read (expression_more l.fn.self.text l.fn.self.left (after l.fn.self.text l.fn.self.left)).read part.ExpressionMore [] l.fn.tokens.now

abbrev pub decreases-loop-tokens : goal.decreases-loop-tokens
decreases-loop-tokens g l = length l.tokens.now
