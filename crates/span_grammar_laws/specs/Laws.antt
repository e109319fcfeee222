-- The laws of the grammar: the one that is read, over token classes that look ahead, is the written one, over the
-- tokens one by one.
use Rattle.std.specs.Prelude.{ℕ, ◌<◌, ◌≤◌, ◌≡◌, ◌↔◌, length, List}
use Rattle.span_value.specs.declared.refusal.Refusal.{Refusal}
use Rattle.span_value.specs.declared.refusal.Refusal.TheVariants as refusal
use Rattle.span_lexer.specs.declared.token.Token.{Token}
use Rattle.span_lexer.specs.Limits.{longest_text}
use Rattle.span_lexer.specs.Tokens.{Item, AreItems, text_of, tokens_of}
use Rattle.span_grammar.specs.declared.class.Lexeme.{Lexeme}
use Rattle.span_grammar.specs.declared.grammar.Place.{Place}
use Rattle.span_grammar.specs.declared.judge.Goal.{Goal}
use Rattle.span_grammar.specs.declared.judge.Goal.TheVariants as goal
use Rattle.span_grammar.specs.Rules.{Rule, Tree}
use Rattle.span_grammar.specs.Texts.{HasTree, IsWrong, IsTooDeep}
use Rattle.span_grammar.specs.Grammar.{inside}
use Rattle.span_grammar.specs.Goals.{goal_rule}
use Rattle.span_grammar.specs.Classes.{lexemes_of}
use Rattle.span_grammar.specs.Judged.{HasItems, IsText, IsRefused}
use Rattle.span_grammar_laws.specs.PlainTokens.{plain_lexemes}
use Rattle.span_grammar_laws.specs.Written.{written_inside, written_statement, written_schema}

-- the rule of docs/SQL.md that a text must be of
abbrev pub written_rule : Goal → Rule
written_rule goal.Statement = written_statement
written_rule goal.Schema = written_schema

-- the tokens have some tree of the rule
abbrev pub HasSomeTree : (Place → Rule) → Rule → List Lexeme → Type 0
HasSomeTree inside a tokens = (x : Tree) × HasTree inside a tokens x

-- the two grammars give the same verdict on the tokens of a text
pub record JudgesAlike (g : Goal) (text : List ℕ) (tokens : List Token) : Type 0 where
  pub trees : HasSomeTree inside (goal_rule g) (lexemes_of text tokens)
      ↔ HasSomeTree written_inside (written_rule g) (plain_lexemes text tokens)
  pub wrong : IsWrong inside (goal_rule g) (lexemes_of text tokens)
      ↔ IsWrong written_inside (written_rule g) (plain_lexemes text tokens)
  pub deep : IsTooDeep inside (goal_rule g) (lexemes_of text tokens)
      ↔ IsTooDeep written_inside (written_rule g) (plain_lexemes text tokens)

abbrev pub SameAsWritten : Type 0
SameAsWritten = (g : Goal) (text : List ℕ) (tokens : List Token) → JudgesAlike g text tokens

-- the plain tokens among a text's items
abbrev pub plain_in : List ℕ → List Item → List Lexeme
plain_in text items = plain_lexemes text (tokens_of 0 items)

-- the text is in the written grammar
pub record IsWrittenText (g : Goal) (text : List ℕ) : Type 0 where
  pub items : List Item
  pub made : HasItems text items
  pub tree : Tree
  pub has : HasTree written_inside (written_rule g) (plain_in text items) tree

abbrev pub SameTexts : Type 0
SameTexts = (g : Goal) (text : List ℕ) → IsText g text ↔ IsWrittenText g text

-- what a refusal implies of a text by the written grammar: it is too long; else it does not consist of items; else no
-- tree goes on at a token, or a token is an opening that is too deep, whichever comes first; or memory ran out
abbrev pub IsWrittenRefused : Goal → List ℕ → Refusal → Type 0
IsWrittenRefused g text refusal.TextTooLong = longest_text < length text
IsWrittenRefused g text refusal.BadToken =
    (length text ≤ longest_text) × ((items : List Item) → AreItems items → text ≡ text_of items → ⊥)
IsWrittenRefused g text refusal.Syntax =
    (items : List Item) × HasItems text items × IsWrong written_inside (written_rule g) (plain_in text items)
IsWrittenRefused g text refusal.TooDeep =
    (items : List Item) × HasItems text items × IsTooDeep written_inside (written_rule g) (plain_in text items)
IsWrittenRefused g text refusal.OutOfMemory = Unit {0}
IsWrittenRefused g text other = ⊥

abbrev pub SameRefusals : Type 0
SameRefusals = (g : Goal) (text : List ℕ) (why : Refusal) → IsRefused g text why ↔ IsWrittenRefused g text why
