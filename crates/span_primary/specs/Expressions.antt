-- Expressions: the expression that each rule of the grammar yields.
use Rattle.std.specs.Prelude.{ℕ, zero, suc, Bool, true, false, List, [], ◌∷◌, Option, Some, None, Err}
use Rattle.std.specs.Str.Lossy.{utf8_lossy}
use Rattle.span_lexer.specs.declared.token.TokenKind.{TokenKind}
use Rattle.span_lexer.specs.declared.token.TokenKind.TheVariants as kind
use Rattle.span_lexer.specs.declared.token.Word.TheVariants as word
use Rattle.span_lexer.specs.declared.token.Sign.{Sign}
use Rattle.span_lexer.specs.declared.token.Sign.TheVariants as sign
use Rattle.span_lexer.specs.declared.token.Token.{Token}
use Rattle.span_grammar.specs.declared.class.Lexeme.{Lexeme}
use Rattle.span_grammar.specs.declared.class.Sort.{Sort}
use Rattle.span_grammar.specs.declared.class.Sort.TheVariants as sort
use Rattle.span_grammar.specs.declared.grammar.Part.TheVariants as part
use Rattle.span_primary.specs.declared.fault.SyntaxError.TheVariants as fault
use Rattle.span_trees.specs.declared.tree.Span.{Span}
use Rattle.span_trees.specs.declared.tree.Spelling.{Spelling}
use Rattle.span_trees.specs.declared.tree.Integer.{Integer}
use Rattle.span_trees.specs.declared.tree.Column.{Column}
use Rattle.span_trees.specs.declared.tree.Operator.{Operator}
use Rattle.span_trees.specs.declared.tree.Operator.TheVariants as operator
use Rattle.span_trees.specs.declared.tree.ComparisonOperator.{ComparisonOperator}
use Rattle.span_trees.specs.declared.tree.ComparisonOperator.TheVariants as how
use Rattle.span_trees.specs.declared.operator.PredicateTest.{PredicateTest}
use Rattle.span_trees.specs.declared.operator.PredicateTest.TheVariants as predicate_test
use Rattle.span_trees.specs.declared.tree.Expr.{Expr}
use Rattle.span_trees.specs.declared.tree.Expr.TheVariants as e
use Rattle.span_trees.specs.declared.tree.Arm.{Arm, roll-Arm}
use Rattle.span_trees.specs.declared.tree.Link.{Link, roll-Link}
use Rattle.span_trees.specs.Operations.{chain_of, conjunction_of, disjunction_of, apply_test}
use Rattle.span_grammar.specs.Classes.{token_bytes}
use Rattle.span_primary.specs.Phrases.{Phrase, token, nothing, ◌<$>◌, ◌>>=◌, ◌>>◌, either, optional, each, pair_with, opening}

-- ---- tokens

abbrev pub span_of : Token → Span
span_of t = record { start = t.start; end = t.end }

-- the spelling of a token, and its place; of a token of a text in UTF-8 the bytes that are there (span_lexer's law
-- tokens_are_read_unchanged)
abbrev pub spelling_of : List ℕ → Lexeme → Spelling
spelling_of text t = record { text = utf8_lossy (token_bytes text t.token); span = span_of t.token }

abbrev pub value_of : TokenKind → ℕ
value_of (kind.Int v) = v
value_of _ = 0

abbrev pub integer_of : Bool → Lexeme → Integer
integer_of is_negative t = record { is_negative = is_negative; value = value_of t.token.kind; span = span_of t.token }

unfoldable pub spelling : List ℕ → Sort → Phrase Spelling
spelling text s = spelling_of text <$> token s

-- the parenthesis that ends what was read before
unfoldable pub close_parenthesis : {A : Type 0} → A → Phrase A
close_parenthesis x = (λ t. x) <$> token (sort.Sign sign.Close)

-- a phrase and the parenthesis that ends it
abbrev pub in_parentheses : {A : Type 0} → Phrase A → Phrase A
in_parentheses p = p >>= close_parenthesis

-- ---- columns

unfoldable pub qualifier : List ℕ → Phrase Spelling
qualifier text = token (sort.Sign sign.Dot) >> spelling text sort.Name

abbrev pub column_of : Spelling → Option Spelling → Column
column_of first None = record { table = None; name = first }
column_of first (Some name) = record { table = Some first; name = name }

-- what may come after a column's name
unfoldable pub qualified_column : List ℕ → Spelling → Phrase Column
qualified_column text first = column_of first <$> optional part.Qualifier (qualifier text)

unfoldable pub column : List ℕ → Phrase Column
column text = spelling text sort.Name >>= qualified_column text

-- [ASC | DESC]: whether it descends
unfoldable pub direction : Phrase Bool
direction =
    either (part.Token (sort.Word word.Asc)) ((λ t. false) <$> token (sort.Word word.Asc))
    (either (part.Token (sort.Word word.Desc)) ((λ t. true) <$> token (sort.Word word.Desc)) (nothing false))

-- ---- operators

unfoldable pub term_sign : Phrase Operator
term_sign =
    either (part.Token (sort.Sign sign.Star)) ((λ t. operator.Times) <$> token (sort.Sign sign.Star))
    ((λ t. operator.Concat) <$> token (sort.Sign sign.Concat))

unfoldable pub sum_sign : Phrase Operator
sum_sign =
    either (part.Token (sort.Sign sign.Plus)) ((λ t. operator.Plus) <$> token (sort.Sign sign.Plus))
    ((λ t. operator.Minus) <$> token (sort.Sign sign.Minus))

abbrev compares : ComparisonOperator → Sign → Phrase ComparisonOperator
compares c s = (λ t. c) <$> token (sort.Sign s)

unfoldable pub comparison : Phrase ComparisonOperator
comparison =
    either (part.Token (sort.Sign sign.Equal)) (compares how.Equal sign.Equal)
    (either (part.Token (sort.Sign sign.LessGreater)) (compares how.NotEqual sign.LessGreater)
    (either (part.Token (sort.Sign sign.BangEqual)) (compares how.NotEqual sign.BangEqual)
    (either (part.Token (sort.Sign sign.Less)) (compares how.Less sign.Less)
    (either (part.Token (sort.Sign sign.LessEqual)) (compares how.AtMost sign.LessEqual)
    (either (part.Token (sort.Sign sign.Greater)) (compares how.Greater sign.Greater)
    (compares how.AtLeast sign.GreaterEqual))))))

unfoldable pub maybe_not : Phrase Bool
maybe_not = either (part.Token (sort.Word word.Not)) ((λ t. true) <$> token (sort.Word word.Not)) (nothing false)

-- IS [NOT] NULL: whether with NOT
unfoldable pub null_words : Phrase Bool
null_words = token (sort.Word word.Is) >> (maybe_not >>= (λ is_not. (λ t. is_not) <$> token (sort.Word word.Null)))

-- ---- what is inside an opening, over the expressions there

unfoldable pub list_more : Phrase Expr → Phrase Expr
list_more p = token (sort.Sign sign.Comma) >> p

unfoldable pub list : Phrase Expr → Phrase (List Expr)
list p = p >>= (λ first. (λ all. all.0 ∷ all.1) <$> pair_with first (each part.ListMore (list_more p)))

unfoldable pub arm_of : Expr × Expr → Arm
arm_of ends = roll-Arm (record { condition = ends.0; value = ends.1 })

unfoldable pub then_value : Phrase Expr → Phrase Expr
then_value p = token (sort.Word word.Then) >> p

unfoldable pub when : Phrase Expr → Phrase Arm
when p = token (sort.Word word.When) >> (p >>= (λ condition. arm_of <$> pair_with condition (then_value p)))

unfoldable pub case_operand : Phrase Expr → Phrase (Option Expr)
case_operand p = optional part.Expression p

unfoldable pub case_else : Phrase Expr → Phrase (Option Expr)
case_else p = optional part.Else (token (sort.Word word.Else) >> p)

-- [ELSE expr] END
unfoldable pub case_end : Phrase Expr → Phrase (Option Expr)
case_end p = case_else p >>= (λ otherwise. (λ both. both.0) <$> pair_with otherwise (token (sort.Word word.End)))

-- the arms, and what ends them
unfoldable pub case_arms : Phrase Expr → Phrase (List Arm × Option Expr)
case_arms p =
    when p >>= (λ arm. pair_with arm (each part.When (when p)) >>= (λ all. pair_with (all.0 ∷ all.1) (case_end p)))

unfoldable pub case_of : Option Expr × (List Arm × Option Expr) → Expr
case_of parts = e.Case parts.0 parts.1.0 parts.1.1

unfoldable pub in_case : Phrase Expr → Phrase Expr
in_case p = case_operand p >>= (λ operand. case_of <$> pair_with operand (case_arms p))

unfoldable pub argument_list : Phrase Expr → Spelling → Phrase Expr
argument_list p name =
    either (part.Token (sort.Sign sign.Star)) ((λ t. e.CallStar name) <$> token (sort.Sign sign.Star))
    (either part.List (e.Call name <$> list p) (nothing (e.Call name [])))

-- ---- expressions

-- what is one opening deeper
pub record Inner : Type 0 where
  pub expression : Phrase Expr
  pub negated_predicate : Phrase Expr
  pub signed_primary : Phrase Expr

-- the text, and the number of openings left
module _ (text : List ℕ) (left : ℕ) (inner : Inner) where
  unfoldable pub parenthesis : Phrase Expr
  parenthesis = opening left (sort.Sign sign.Open) (in_parentheses inner.expression)

  unfoldable pub arguments : Spelling → Phrase Expr
  arguments name = opening left (sort.Sign sign.Open) (in_parentheses (argument_list inner.expression name))

  unfoldable pub members : Phrase (List Expr)
  members = opening left (sort.Sign sign.Open) (in_parentheses (list inner.expression))

  unfoldable pub case : Phrase Expr
  case = opening left (sort.Word word.Case) (in_case inner.expression)

  unfoldable pub negation : Phrase Expr
  negation = e.Not <$> opening left (sort.Word word.Not) inner.negated_predicate

  unfoldable pub opposite : Phrase Expr
  opposite = opening left (sort.Sign sign.Minus) inner.signed_primary

  unfoldable pub after_name : Spelling → Phrase Expr
  after_name name = either part.Arguments (arguments name) (e.Column <$> qualified_column text name)

  unfoldable pub call_or_column : Phrase Expr
  call_or_column = spelling text sort.Name >>= after_name

  unfoldable pub if_call : Phrase Expr
  if_call = spelling text (sort.Word word.If) >>= arguments

  -- CASE and what begins with a name, IF or a parenthesis
  unfoldable pub compound : Phrase Expr
  compound = either part.Named call_or_column (either part.IfCall if_call (either part.Case case parenthesis))

  unfoldable pub word_literal : Phrase Expr
  word_literal =
      either (part.Token (sort.Word word.True)) ((λ t. e.Truth true (span_of t.token)) <$> token (sort.Word word.True))
      (either (part.Token (sort.Word word.False))
      ((λ t. e.Truth false (span_of t.token)) <$> token (sort.Word word.False))
      (either (part.Token (sort.Word word.Null)) ((λ t. e.Null (span_of t.token)) <$> token (sort.Word word.Null))
      (either (part.Token sort.Parameter) (e.Parameter <$> spelling text sort.Parameter) compound)))

  -- prim, but no integer
  unfoldable pub other_primary : Phrase Expr
  other_primary =
      either (part.Token sort.Str) (e.Str <$> spelling text sort.Str)
      (either (part.Token sort.Bytes) (e.Bytes <$> spelling text sort.Bytes) word_literal)

  unfoldable pub primary : Phrase Expr
  primary = either (part.Token sort.Int) ((λ t. e.Integer (integer_of false t)) <$> token sort.Int) other_primary

  unfoldable pub unary : Phrase Expr
  unary = either part.Opposite opposite primary

  unfoldable pub other_unary : Phrase Expr
  other_unary = either part.Opposite opposite other_primary

  -- after a minus: the minus directly before an integer belongs to it
  unfoldable pub signed_primary : Phrase Expr
  signed_primary =
      either (part.Token sort.Int) ((λ t. e.Integer (integer_of true t)) <$> token sort.Int)
      (e.Negative <$> other_unary)

  unfoldable pub term_more : Phrase Link
  term_more = term_sign >>= (λ o. (λ x. roll-Link (record { operator = o; operand = x })) <$> unary)

  unfoldable pub term : Phrase Expr
  term = unary >>= (λ first. (λ all. chain_of all.0 all.1) <$> pair_with first (each part.TermMore term_more))

  unfoldable pub sum_more : Phrase Link
  sum_more = sum_sign >>= (λ o. (λ x. roll-Link (record { operator = o; operand = x })) <$> term)

  unfoldable pub sum : Phrase Expr
  sum = term >>= (λ first. (λ all. chain_of all.0 all.1) <$> pair_with first (each part.SumMore sum_more))

  -- what is asked of an operand, and whether with NOT

  unfoldable pub comparison_test : Phrase (Bool × PredicateTest)
  comparison_test = comparison >>= (λ c. (λ x. (false, predicate_test.Compared c x)) <$> sum)

  unfoldable pub is_null : Phrase (Bool × PredicateTest)
  is_null = (λ is_not. (is_not, predicate_test.IsNull)) <$> null_words

  unfoldable pub like : Phrase PredicateTest
  like = token (sort.Word word.Like) >> (predicate_test.Like <$> spelling text sort.Str)

  -- AND sum, after the low end of a BETWEEN
  unfoldable pub high_end : Phrase Expr
  high_end = token (sort.Word word.And) >> sum

  unfoldable pub between : Phrase PredicateTest
  between =
      token (sort.Word word.Between) >>
      (sum >>= (λ low. (λ ends. predicate_test.Between ends.0 ends.1) <$> pair_with low high_end))

  unfoldable pub within : Phrase PredicateTest
  within = token (sort.Word word.In) >> (predicate_test.In <$> members)

  unfoldable pub negatable_test : Phrase PredicateTest
  negatable_test = either part.Like like (either part.Between between within)

  unfoldable pub maybe_not_test : Phrase (Bool × PredicateTest)
  maybe_not_test = maybe_not >>= (λ is_not. (λ question. (is_not, question)) <$> negatable_test)

  unfoldable pub predicate_rest : Phrase (Bool × PredicateTest)
  predicate_rest =
      either part.Compared comparison_test
      (either part.IsNull is_null (either part.MaybeNotTest maybe_not_test (nothing (false, predicate_test.Nothing))))

  unfoldable pub predicate : Phrase Expr
  predicate = sum >>= (λ x. (λ both. apply_test both.0 both.1) <$> pair_with x predicate_rest)

  unfoldable pub negated_predicate : Phrase Expr
  negated_predicate = either part.Negation negation predicate

  unfoldable pub conjunction_more : Phrase Expr
  conjunction_more = token (sort.Word word.And) >> negated_predicate

  unfoldable pub conjunction : Phrase Expr
  conjunction =
      negated_predicate >>= (λ first. (λ all. conjunction_of all.0 all.1) <$> pair_with first
      (each part.ConjunctionMore conjunction_more))

  unfoldable pub expression_more : Phrase Expr
  expression_more = token (sort.Word word.Or) >> conjunction

  unfoldable pub expression : Phrase Expr
  expression =
      conjunction >>= (λ first. (λ all. disjunction_of all.0 all.1) <$> pair_with first
      (each part.ExpressionMore expression_more))

-- nothing is read where no opening is left
abbrev pub too_deep : Phrase Expr
too_deep = record { of = λ x. e.Null (record { start = 0; end = 0 }); read = λ ts. Err (fault.TooDeep 0) }

-- after an opening, with a number of openings left
unfoldable pub after : List ℕ → ℕ → Inner
after text zero = record { expression = too_deep; negated_predicate = too_deep; signed_primary = too_deep }
after text (suc n) = record {
  expression = expression text n (after text n);
  negated_predicate = negated_predicate text n (after text n);
  signed_primary = signed_primary text n (after text n);
}
