-- What a reader of clauses has, and what it is to return.
use Rattle.std.specs.Prelude.{ℕ, List}
use Rattle.span_grammar.specs.declared.grammar.Part.{Part}
use Rattle.span_primary.specs.Phrases.{Phrase, Gives, each}
use Rattle.span_primary.specs.Reading.{Move}

-- the text, and the number of openings left
pub record QueryText : Type 0 where
  pub text : List ℕ
  pub left : ℕ

module _ {A : Type 0} (q : QueryText) where
  -- the tokens were read as the phrase says
  abbrev pub Reads : (List ℕ → ℕ → Phrase A) → Move A
  Reads phrase = Gives (phrase q.text q.left)

  -- the same of the phrase, which is the part, any number of times
  abbrev pub ReadsEach : Part → (List ℕ → ℕ → Phrase A) → Move (List A)
  ReadsEach a phrase = Gives (each a (phrase q.text q.left))
