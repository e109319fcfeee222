use Rattle.std.proofs.Common.{◌≡◌, [], length}
use Rattle.span_grammar.specs.declared.grammar.Part.TheVariants as part
use Rattle.span_primary.specs.Phrases.{each_read}
use Rattle.span_parser.specs.Queries.{union_more, nested_query}
use Rattle.span_querytext.proofs.query.QueryReader.union_rest.Given as goal

abbrev pub invariant-loop-tokens : goal.invariant-loop-tokens
invariant-loop-tokens g l = each_read (union_more l.self.text l.self.left (nested_query l.self.text l.self.left)).read part.UnionMore l.found l.tokens.now ≡ each_read (union_more l.fn.self.text l.fn.self.left (nested_query l.fn.self.text l.fn.self.left)).read part.UnionMore [] l.fn.tokens.now

abbrev pub decreases-loop-tokens : goal.decreases-loop-tokens
decreases-loop-tokens g l = length l.tokens.now
