use Rattle.std.proofs.Common.{◌≡◌, ◌++◌, length}
use Rattle.span_grammar.specs.Classes.{lexemes_of}
use Rattle.span_grammar.proofs.classify.lexemes.Given as goal

abbrev pub invariant-loop-token : goal.invariant-loop-token
invariant-loop-token l = l.found.items ++ lexemes_of l.text l.rest ≡ lexemes_of l.text l.tokens

abbrev pub decreases-loop-token : goal.decreases-loop-token
decreases-loop-token l = length l.rest
