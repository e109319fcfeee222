-- INT64 has each integer of a text, with either sign.
use Rattle.std.specs.Prelude.{◌≤◌, List}
use Rattle.std.specs.List.{AllByRecursion}
use Rattle.span_lexer.specs.declared.token.Token.{Token}
use Rattle.span_lexer.specs.declared.token.TokenKind.{TokenKind}
use Rattle.span_lexer.specs.declared.token.TokenKind.TheVariants as kind
use Rattle.span_lexer.specs.Lexing.{greatest_integer}
use Rattle.span_lexer.specs.Tokens.{Item, AreItems, tokens_of}

-- of another kind than an integer, or at most 2^63 - 1
abbrev pub IsWithinInt64 : TokenKind → Type 0
IsWithinInt64 (kind.Int v) = v ≤ greatest_integer
IsWithinInt64 k = Unit {0}

abbrev pub IntegersAreInt64 : Type 0
IntegersAreInt64 =
    (is : List Item) → AreItems is → AllByRecursion (λ (t : Token). IsWithinInt64 t.kind) (tokens_of 0 is)
