-- What a reader has, and what it is to return.
use Rattle.std.specs.Prelude.{ℕ, List, Result}
use denote.Ref.{Bor, MutBor}
use Rattle.span_grammar.specs.declared.class.Lexeme.{Lexeme}
use Rattle.span_grammar.specs.declared.grammar.Part.{Part}
use Rattle.span_primary.specs.declared.fault.SyntaxError.{SyntaxError}
use Rattle.span_trees.specs.declared.tree.Expr.{Expr}
use Rattle.span_primary.specs.Phrases.{Phrase, Gives, each}
use Rattle.span_primary.specs.Expressions.{Inner, after}

-- the text, the number of openings left, and the function that reads what is after an opening
pub record Reading (F : Type 0) : Type 0 where
  pub text : List ℕ
  pub left : ℕ
  pub read : F

-- a cursor over tokens, which a function moves past what it reads
abbrev pub Cursor : Type 0
Cursor = MutBor (Bor (List Lexeme))

-- what is said of a move: of the tokens before it and after it, and of what the function returned
abbrev pub Move : Type 0 → Type 1
Move A = Bor (List Lexeme) → Bor (List Lexeme) → Result A SyntaxError → Type 0

module _ {F A : Type 0} (r : Reading F) where
  -- the tokens were read as the phrase says
  abbrev pub Reads : (List ℕ → ℕ → Inner → Phrase A) → Move A
  Reads phrase = Gives (phrase r.text r.left (after r.text r.left))

  -- the same of the phrase, which is the part, any number of times
  abbrev pub ReadsEach : Part → (List ℕ → ℕ → Inner → Phrase A) → Move (List A)
  ReadsEach a phrase = Gives (each a (phrase r.text r.left (after r.text r.left)))

  -- after an opening, of a phrase that is over the expressions there
  abbrev pub ReadsInside : (Phrase Expr → Phrase A) → Move A
  ReadsInside phrase = Gives (phrase (after r.text r.left).expression)

  abbrev pub ReadsEachInside : Part → (Phrase Expr → Phrase A) → Move (List A)
  ReadsEachInside a phrase = Gives (each a (phrase (after r.text r.left).expression))
