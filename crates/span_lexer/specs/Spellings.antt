-- How words and signs are spelled.
use Rattle.std.specs.Prelude.{◌==◌, ℕ, List, ◌∷◌, [], codes, Option, Some, None, if◌then◌else◌}
use Rattle.std.specs.Str.{bytes_eq, str_to_ascii_lowercase}
use Rattle.span_lexer.specs.declared.token.Word.{Word}
use Rattle.span_lexer.specs.declared.token.Word.TheVariants as w
use Rattle.span_lexer.specs.declared.token.Sign.{Sign}
use Rattle.span_lexer.specs.declared.token.Sign.TheVariants as s
use Rattle.span_lexer.specs.Characters.{begins}

abbrev pub word : Word → List ℕ
word w.All = codes "all"
word w.And = codes "and"
word w.As = codes "as"
word w.Asc = codes "asc"
word w.Between = codes "between"
word w.By = codes "by"
word w.Case = codes "case"
word w.Create = codes "create"
word w.Desc = codes "desc"
word w.Distinct = codes "distinct"
word w.Else = codes "else"
word w.End = codes "end"
word w.False = codes "false"
word w.From = codes "from"
word w.Group = codes "group"
word w.Having = codes "having"
word w.If = codes "if"
word w.In = codes "in"
word w.Inner = codes "inner"
word w.Is = codes "is"
word w.Join = codes "join"
word w.Left = codes "left"
word w.Like = codes "like"
word w.Limit = codes "limit"
word w.Not = codes "not"
word w.Null = codes "null"
word w.On = codes "on"
word w.Or = codes "or"
word w.Order = codes "order"
word w.Outer = codes "outer"
word w.Select = codes "select"
word w.Then = codes "then"
word w.True = codes "true"
word w.Union = codes "union"
word w.When = codes "when"
word w.Where = codes "where"

abbrev pub sign : Sign → List ℕ
sign s.Open = 40 ∷ []
sign s.Close = 41 ∷ []
sign s.Comma = 44 ∷ []
sign s.Dot = 46 ∷ []
sign s.Semicolon = 59 ∷ []
sign s.Star = 42 ∷ []
sign s.Plus = 43 ∷ []
sign s.Minus = 45 ∷ []
sign s.Equal = 61 ∷ []
sign s.LessGreater = 60 ∷ 62 ∷ []
sign s.BangEqual = 33 ∷ 61 ∷ []
sign s.Less = 60 ∷ []
sign s.LessEqual = 60 ∷ 61 ∷ []
sign s.Greater = 62 ∷ []
sign s.GreaterEqual = 62 ∷ 61 ∷ []
sign s.Concat = 124 ∷ 124 ∷ []

-- the first of some words that the bytes spell in any case
unfoldable pub matching_word : List Word → List ℕ → Option Word
matching_word [] bytes = None
matching_word (v ∷ vs) bytes =
    if bytes_eq (str_to_ascii_lowercase bytes) (word v) then Some v else matching_word vs bytes

-- the reserved words
abbrev pub reserved_words : List Word
reserved_words =
    w.All ∷ w.And ∷ w.As ∷ w.Asc ∷ w.Between ∷ w.By ∷ w.Case ∷ w.Create ∷ w.Desc ∷
    w.Distinct ∷ w.Else ∷ w.End ∷ w.False ∷ w.From ∷ w.Group ∷ w.Having ∷ w.If ∷ w.In ∷
    w.Inner ∷ w.Is ∷ w.Join ∷ w.Left ∷ w.Like ∷ w.Limit ∷ w.Not ∷ w.Null ∷ w.On ∷
    w.Or ∷ w.Order ∷ w.Outer ∷ w.Select ∷ w.Then ∷ w.True ∷ w.Union ∷ w.When ∷ w.Where ∷ []

-- the reserved word that the bytes spell in any case
abbrev pub reserved_word : List ℕ → Option Word
reserved_word bytes = matching_word reserved_words bytes

-- those of some words that begin with a letter in lower case
unfoldable pub words_with : ℕ → List Word → List Word
words_with letter [] = []
words_with letter (v ∷ vs) =
    if begins (λ c. c == letter) (word v) then v ∷ words_with letter vs else words_with letter vs
