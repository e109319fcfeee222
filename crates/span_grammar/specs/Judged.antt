-- Which texts are in the grammar, and how each other text is refused.
use Rattle.std.specs.Prelude.{◌≡◌, ◌⊎◌, ℕ, ◌<◌, ◌≤◌, length, List, Result, Err}
use Rattle.span_value.specs.declared.refusal.Refusal.{Refusal}
use Rattle.span_value.specs.declared.refusal.Refusal.TheVariants as refusal
use Rattle.span_lexer.specs.Limits.{longest_text}
use Rattle.span_lexer.specs.Tokens.{Item, AreItems, text_of, tokens_of}
use Rattle.span_grammar.specs.declared.class.Lexeme.{Lexeme}
use Rattle.span_grammar.specs.declared.judge.Goal.{Goal}
use Rattle.span_grammar.specs.Rules.{Tree}
use Rattle.span_grammar.specs.Texts.{HasTree, IsWrong, IsTooDeep}
use Rattle.span_grammar.specs.Grammar.{inside}
use Rattle.span_grammar.specs.Goals.{goal_rule}
use Rattle.span_grammar.specs.Classes.{lexemes_of}

-- the text consists of these items, and is not too long
pub record HasItems (text : List ℕ) (items : List Item) : Type 0 where
  pub are : AreItems items
  pub spells : text ≡ text_of items
  pub short : length text ≤ longest_text

-- the tokens among them with their classes
abbrev pub lexemes_in : List ℕ → List Item → List Lexeme
lexemes_in text items = lexemes_of text (tokens_of 0 items)

-- the text is in the grammar
pub record IsText (goal : Goal) (text : List ℕ) : Type 0 where
  pub items : List Item
  pub made : HasItems text items
  pub tree : Tree
  pub has : HasTree inside (goal_rule goal) (lexemes_in text items) tree

-- what a refusal implies of a list of tokens
abbrev pub IsTokenRefusal : Goal → List Lexeme → Refusal → Type 0
IsTokenRefusal goal tokens refusal.Syntax = IsWrong inside (goal_rule goal) tokens
IsTokenRefusal goal tokens refusal.TooDeep = IsTooDeep inside (goal_rule goal) tokens
IsTokenRefusal goal tokens refusal.OutOfMemory = Unit {0}
IsTokenRefusal goal tokens other = ⊥

-- what a refusal implies of a text: it is too long; else it does not consist of items; else no tree goes on at a token,
-- or a token is an opening that is too deep, whichever comes first; or memory ran out
abbrev pub IsRefused : Goal → List ℕ → Refusal → Type 0
IsRefused goal text refusal.TextTooLong = longest_text < length text
IsRefused goal text refusal.BadToken =
    (length text ≤ longest_text) × ((items : List Item) → AreItems items → text ≡ text_of items → ⊥)
IsRefused goal text refusal.Syntax =
    (items : List Item) × HasItems text items × IsWrong inside (goal_rule goal) (lexemes_in text items)
IsRefused goal text refusal.TooDeep =
    (items : List Item) × HasItems text items × IsTooDeep inside (goal_rule goal) (lexemes_in text items)
IsRefused goal text refusal.OutOfMemory = Unit {0}
IsRefused goal text other = ⊥

-- the wanted result, or out of memory
abbrev pub OrOutOfMemory : Result (Unit {0}) Refusal → Result (Unit {0}) Refusal → Type 0
OrOutOfMemory result wanted = (result ≡ wanted) ⊎ (result ≡ Err refusal.OutOfMemory)
