use Rattle.std.proofs.Common.{◌≡◌, [], length}
use Rattle.span_grammar.specs.declared.grammar.Part.TheVariants as part
use Rattle.span_primary.specs.Phrases.{each_read}
use Rattle.span_parser.specs.Queries.{column_more}
use Rattle.span_parser.proofs.clause.column_rest.Given as goal

abbrev pub invariant-turns : goal.invariant-turns
invariant-turns l = each_read (column_more l.text).read part.ColumnMore l.found l.tokens.now ≡ each_read (column_more l.fn.text).read part.ColumnMore [] l.fn.tokens.now

abbrev pub decreases-turns : goal.decreases-turns
decreases-turns l = length l.tokens.now
