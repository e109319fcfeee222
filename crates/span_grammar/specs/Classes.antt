-- The classes of a text's tokens.
use Rattle.std.specs.Prelude.{ℕ, ◌-◌, Bool, true, false, ◌&&◌, List, [], ◌∷◌, take, drop, Option, Some, None, if◌then◌else◌}
use Rattle.span_lexer.specs.declared.token.Token.{Token}
use Rattle.span_lexer.specs.declared.token.TokenKind.{TokenKind}
use Rattle.span_lexer.specs.declared.token.TokenKind.TheVariants as kind
use Rattle.span_lexer.specs.declared.token.Sign.{Sign}
use Rattle.span_lexer.specs.declared.token.Sign.TheVariants as sign
use Rattle.span_grammar.specs.declared.class.Class.{Class}
use Rattle.span_grammar.specs.declared.class.Class.TheVariants as class
use Rattle.span_grammar.specs.declared.class.Lexeme.{Lexeme}
use Rattle.span_grammar.specs.declared.class.Context.{Context}
use Rattle.span_grammar.specs.Contexts.{context_word}

abbrev pub is_dot : TokenKind → Bool
is_dot (kind.Sign sign.Dot) = true
is_dot _ = false

abbrev pub is_star : TokenKind → Bool
is_star (kind.Sign sign.Star) = true
is_star _ = false

-- the first tokens are . and *
abbrev pub starts_all_of : List Token → Bool
starts_all_of [] = false
starts_all_of (s ∷ []) = false
starts_all_of (s ∷ t ∷ ts) = is_dot s.kind && is_star t.kind

-- a name, which may be a word of the grammar
abbrev pub name_class : Option Context → Class
name_class None = class.Name
name_class (Some w) = class.Context w

-- the bytes of a token
abbrev pub token_bytes : List ℕ → Token → List ℕ
token_bytes text t = take (t.end - t.start) (drop t.start text)

-- a semicolon, by the tokens after it
abbrev pub semicolon_class : List Token → Class
semicolon_class [] = class.LastSemicolon
semicolon_class (t ∷ ts) = class.Sign sign.Semicolon

abbrev pub sign_class : Sign → List Token → Class
sign_class sign.Semicolon tail = semicolon_class tail
sign_class s tail = class.Sign s

abbrev pub kind_class : TokenKind → List ℕ → List Token → Class
kind_class (kind.Word w) bytes tail = class.Word w
kind_class kind.Name bytes tail = if starts_all_of tail then class.AllOf else name_class (context_word bytes)
kind_class kind.Parameter bytes tail = class.Parameter
kind_class (kind.Int v) bytes tail = class.Int
kind_class kind.Str bytes tail = class.Str
kind_class kind.Bytes bytes tail = class.Bytes
kind_class (kind.Sign s) bytes tail = sign_class s tail

-- the class of a token of a text, by the tokens after it
abbrev pub class_at : List ℕ → Token → List Token → Class
class_at text t tail = kind_class t.kind (token_bytes text t) tail

-- the tokens of a text with their classes
unfoldable pub lexemes_of : List ℕ → List Token → List Lexeme
lexemes_of text [] = []
lexemes_of text (t ∷ ts) = record { class = class_at text t ts; token = t } ∷ lexemes_of text ts
