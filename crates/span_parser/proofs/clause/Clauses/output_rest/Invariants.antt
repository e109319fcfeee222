use Rattle.std.proofs.Common.{◌≡◌, [], length}
use Rattle.span_grammar.specs.declared.grammar.Part.TheVariants as part
use Rattle.span_primary.specs.Phrases.{each_read}
use Rattle.span_parser.specs.Queries.{output_more}
use Rattle.span_parser.proofs.clause.Clauses.output_rest.Given as goal

abbrev pub invariant-loop-tokens : goal.invariant-loop-tokens
invariant-loop-tokens l = each_read (output_more l.self.text l.self.left).read part.OutputMore l.found l.tokens.now ≡ each_read (output_more l.fn.self.text l.fn.self.left).read part.OutputMore [] l.fn.tokens.now

abbrev pub decreases-loop-tokens : goal.decreases-loop-tokens
decreases-loop-tokens l = length l.tokens.now
