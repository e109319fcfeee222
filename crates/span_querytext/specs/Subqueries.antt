-- What a reader of queries is to return, and the function value that reads a query after an opening.
use Rattle.std.specs.Prelude.{◌≡◌, ℕ, ◌<◌, ◌≤◌, ◌-◌, List, Result}
use denote.Param.Members.{Shared}
use Rattle.std.specs.declared.alloc.Global.{Global}
use denote.Ref.{Bor}
use Rattle.span_grammar.specs.declared.grammar.Part.{Part}
use Rattle.span_primary.specs.declared.fault.SyntaxError.{SyntaxError}
use Rattle.span_parser.specs.declared.tree.Query.{Query}
use Rattle.span_grammar.specs.Rules.{most_openings}
use Rattle.span_primary.specs.Phrases.{Phrase, Gives, each}
use Rattle.span_primary.specs.Reading.{Reading, Cursor, Move}
use Rattle.span_parser.specs.Queries.{query, nested_query}

-- the query after an opening was read
abbrev pub ReadsNested : {F : Type 0} → Reading F → Move Query
ReadsNested r = Gives (nested_query r.text r.left)

module _ {F A : Type 0} (r : Reading F) where
  -- the tokens were read as the phrase says
  abbrev pub ReadsQuery : (List ℕ → ℕ → Phrase Query → Phrase A) → Move A
  ReadsQuery phrase = Gives (phrase r.text r.left (nested_query r.text r.left))

  -- the same of the phrase, which is the part, any number of times
  abbrev pub ReadsEachQuery : Part → (List ℕ → ℕ → Phrase Query → Phrase A) → Move (List A)
  ReadsEachQuery a phrase = Gives (each a (phrase r.text r.left (nested_query r.text r.left)))

-- the arguments of a call: the allocator, the text, the number of openings left and the cursor
abbrev Arguments : Type 0
Arguments = Global × (Bor (List ℕ) × (ℕ × (Cursor × Unit {0})))

-- what it returns, and the cursor then
abbrev Returned : Type 0
Returned = Result Query SyntaxError × (Cursor × Unit {0})

-- the reader's function reads a query of its text, with one opening fewer left
pub record NestsQueries {F : Type 0} (call : Shared F Arguments Returned) (r : Reading F) : Type 0 where
  pub limited : r.left ≤ most_openings
  pub callable : (alloc : Global) (t : Bor (List ℕ)) (ts : Cursor) → 0 < r.left
      → call.pre r.read (alloc, (t, (r.left - 1, (ts, tt))))
  pub gives : (alloc : Global) (t : Bor (List ℕ)) (ts k : Cursor) (v : Result Query SyntaxError) → t.now ≡ r.text
      → 0 < r.left
      → call.post r.read (alloc, (t, (r.left - 1, (ts, tt)))) (v, (k, tt))
      → Gives (query r.text (r.left - 1) (nested_query r.text (r.left - 1))) ts.now k.now v
