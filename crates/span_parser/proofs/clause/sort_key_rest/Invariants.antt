use Rattle.std.proofs.Common.{◌≡◌, [], length}
use Rattle.span_grammar.specs.declared.grammar.Part.TheVariants as part
use Rattle.span_primary.specs.Phrases.{each_read}
use Rattle.span_parser.specs.Queries.{sort_key_more}
use Rattle.span_parser.proofs.clause.sort_key_rest.Given as goal

abbrev pub invariant-turns : goal.invariant-turns
invariant-turns l = each_read (sort_key_more l.text).read part.SortKeyMore l.found l.tokens.now ≡ each_read (sort_key_more l.fn.text).read part.SortKeyMore [] l.fn.tokens.now

abbrev pub decreases-turns : goal.decreases-turns
decreases-turns l = length l.tokens.now
