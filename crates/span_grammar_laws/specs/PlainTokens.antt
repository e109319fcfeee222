-- A text's tokens for the written grammar: the class of each by the token itself, whatever follows it.
use Rattle.std.specs.Prelude.{ℕ, List, map}
use Rattle.span_lexer.specs.declared.token.Token.{Token}
use Rattle.span_lexer.specs.declared.token.TokenKind.{TokenKind}
use Rattle.span_lexer.specs.declared.token.TokenKind.TheVariants as kind
use Rattle.span_grammar.specs.declared.class.Class.{Class}
use Rattle.span_grammar.specs.declared.class.Class.TheVariants as class
use Rattle.span_grammar.specs.declared.class.Lexeme.{Lexeme}
use Rattle.span_grammar.specs.Contexts.{context_word}
use Rattle.span_grammar.specs.Classes.{name_class, token_bytes}

-- a name is a name whatever follows, and a semicolon is the sign
abbrev pub plain_class : TokenKind → List ℕ → Class
plain_class (kind.Word w) bytes = class.Word w
plain_class kind.Name bytes = name_class (context_word bytes)
plain_class kind.Parameter bytes = class.Parameter
plain_class (kind.Int v) bytes = class.Int
plain_class kind.Str bytes = class.Str
plain_class kind.Bytes bytes = class.Bytes
plain_class (kind.Sign s) bytes = class.Sign s

abbrev pub plain_lexeme : List ℕ → Token → Lexeme
plain_lexeme text t = record { class = plain_class t.kind (token_bytes text t); token = t }

-- the tokens of a text
abbrev pub plain_lexemes : List ℕ → List Token → List Lexeme
plain_lexemes text ts = map (plain_lexeme text) ts
