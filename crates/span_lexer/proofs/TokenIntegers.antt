-- Each integer of a text is at most 2^63 - 1.
use Rattle.std.proofs.Common.{ℕ, ◌+◌, List, [], ◌∷◌, length}
use Rattle.std.specs.List.{AllByRecursion}
use Rattle.span_lexer.specs.declared.token.TokenKind.{TokenKind}
use Rattle.span_lexer.specs.declared.token.TokenKind.TheVariants as kind
use Rattle.span_lexer.specs.declared.token.Token.{Token}
use Rattle.span_lexer.specs.Tokens.{IsToken, Item, Blank, Comment, Lexeme, AreItems, tokens_of}
use Rattle.span_lexer.specs.TokenIntegers.{IsWithinInt64, IntegersAreInt64}

token_within : (k : TokenKind) (bytes rest : List ℕ) → IsToken k bytes rest → IsWithinInt64 k
token_within (kind.Word w) bytes rest is = tt {0}
token_within kind.Name bytes rest is = tt {0}
token_within kind.Parameter bytes rest is = tt {0}
token_within (kind.Int v) bytes rest is = is.small
token_within kind.Str bytes rest is = tt {0}
token_within kind.Bytes bytes rest is = tt {0}
token_within (kind.Sign s) bytes rest is = tt {0}

within_from : (at : ℕ) (is : List Item) → AreItems is → AllByRecursion (λ (t : Token). IsWithinInt64 t.kind) (tokens_of at is)
within_from at [] are = tt {0}
within_from at (Blank b ∷ is) are = within_from (at + 1) is are.1
within_from at (Comment bytes ∷ is) are = within_from (at + (length bytes + 2)) is are.1
within_from at (Lexeme k bytes ∷ is) are = (token_within k bytes _ are.0, within_from (at + length bytes) is are.1)

pub integers_are_int64 : IntegersAreInt64
integers_are_int64 is are = within_from 0 is are
