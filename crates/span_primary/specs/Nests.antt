-- What is after an opening, and the function value that reads it.
use Rattle.std.specs.Prelude.{◌≡◌, ℕ, ◌<◌, ◌≤◌, ◌-◌, List, Result}
use denote.Param.Members.{Shared}
use Rattle.std.specs.declared.alloc.Global.{Global}
use denote.Ref.{Bor}
use Rattle.span_primary.specs.declared.fault.SyntaxError.{SyntaxError}
use Rattle.span_trees.specs.declared.tree.Expr.{Expr}
use Rattle.span_primary.specs.declared.reader.Level.{Level}
use Rattle.span_primary.specs.declared.reader.Level.TheVariants as level
use Rattle.span_grammar.specs.Rules.{most_openings}
use Rattle.span_primary.specs.Phrases.{Phrase, Gives}
use Rattle.span_primary.specs.Expressions.{Inner, after, expression, negated_predicate, signed_primary}
use Rattle.span_primary.specs.Reading.{Reading, Cursor, Move}

-- what is after an opening, by its level
abbrev pub inner_at : Level → Inner → Phrase Expr
inner_at level.Expression inner = inner.expression
inner_at level.Negated inner = inner.negated_predicate
inner_at level.Signed inner = inner.signed_primary

-- the same with n openings left
abbrev pub at : Level → List ℕ → ℕ → Phrase Expr
at level.Expression text n = expression text n (after text n)
at level.Negated text n = negated_predicate text n (after text n)
at level.Signed text n = signed_primary text n (after text n)

-- it is read by what one of its three expressions is
abbrev pub ReadsAfter : {F : Type 0} → Reading F → Level → Move Expr
ReadsAfter r l = Gives (inner_at l (after r.text r.left))

-- the arguments of a call: the allocator, the text, the number of openings left, the level and the cursor
abbrev Arguments : Type 0
Arguments = Global × (Bor (List ℕ) × (ℕ × (Level × (Cursor × Unit {0}))))

-- what it returns, and the cursor then
abbrev Returned : Type 0
Returned = Result Expr SyntaxError × (Cursor × Unit {0})

-- the reader's function reads what is after an opening of its text, with one opening fewer left
pub record Nests {F : Type 0} (call : Shared F Arguments Returned) (r : Reading F) : Type 0 where
  pub limited : r.left ≤ most_openings
  pub callable : (alloc : Global) (t : Bor (List ℕ)) (l : Level) (ts : Cursor) → 0 < r.left
      → call.pre r.read (alloc, (t, (r.left - 1, (l, (ts, tt)))))
  pub gives : (alloc : Global) (t : Bor (List ℕ)) (l : Level) (ts : Cursor) (v : Result Expr SyntaxError) (k : Cursor)
      → t.now ≡ r.text → 0 < r.left
      → call.post r.read (alloc, (t, (r.left - 1, (l, (ts, tt))))) (v, (k, tt))
      → Gives (at l r.text (r.left - 1)) ts.now k.now v
