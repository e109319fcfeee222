-- The result of reading a part: the tokens after it, or why reading stops.
use Rattle.std.specs.Prelude.{◌≡◌, ℕ, List, [], ◌∷◌, Result, Ok, Err, if◌then◌else◌}
use denote.Ref.{Bor}
use Rattle.span_grammar.specs.declared.class.Lexeme.{Lexeme}
use Rattle.span_grammar.specs.declared.class.Sort.{Sort}
use Rattle.span_grammar.specs.declared.grammar.Part.{Part}
use Rattle.span_grammar.specs.declared.reader.Stop.{Stop}
use Rattle.span_grammar.specs.declared.reader.Stop.TheVariants as stop
use Rattle.span_grammar.specs.Rules.{is_of, Answer, Read, Wrong, Deep, most_openings, parse}
use Rattle.span_grammar.specs.Grammar.{inside, rule_of}

abbrev pub ReadResult : Type 0
ReadResult = Result (List Lexeme) Stop

abbrev pub read_result : Answer → ReadResult
read_result (Read x k) = Ok k
read_result (Wrong k) = Err stop.Syntax
read_result (Deep k) = Err stop.TooDeep

-- what the grammar's reading of a part gives, n openings left
unfoldable pub part_read : ℕ → Part → List Lexeme → ReadResult
part_read n p ts = read_result (parse inside n (rule_of p) ts)

unfoldable pub sort_read : Sort → List Lexeme → ReadResult
sort_read s [] = Err stop.Syntax
sort_read s (t ∷ ts) = if is_of s t then Ok ts else Err stop.Syntax

abbrev pub Follows : Result (Bor (List Lexeme)) Stop → ReadResult → Type 0
Follows (Ok rest) o = o ≡ Ok rest.now
Follows (Err e) o = o ≡ Err e

abbrev pub at_end : ReadResult → Result (Unit {0}) Stop
at_end (Ok []) = Ok tt
at_end (Ok (t ∷ k)) = Err stop.Syntax
at_end (Err e) = Err e

-- all the tokens
unfoldable pub text_read : Part → List Lexeme → Result (Unit {0}) Stop
text_read p ts = at_end (part_read most_openings p ts)
