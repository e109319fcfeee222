-- What is after an opening is read with one opening fewer left.
use Rattle.std.proofs.Common.{◌≡◌, ℕ, zero, suc, ◌<◌, ◌-◌, List, ap, subst, arith}
use denote.Ref.{Bor}
use Rattle.std.specs.Prelude.{Result}
use Rattle.span_trees.specs.declared.tree.Expr.{Expr}
use Rattle.span_primary.specs.declared.reader.Level.{Level}
use Rattle.span_primary.specs.declared.reader.Level.TheVariants as level
use Rattle.span_grammar.specs.declared.class.Lexeme.{Lexeme}
use Rattle.span_primary.specs.declared.fault.SyntaxError.{SyntaxError}
use Rattle.span_primary.specs.Phrases.{Phrase, Gives}
use Rattle.span_primary.specs.Expressions.{after}
use Rattle.span_primary.specs.Nests.{inner_at, at}

before : (n : ℕ) → suc n - 1 ≡ n
before n = omega arith

pub deeper_is : (l : Level) (text : List ℕ) (n : ℕ) → 0 < n → at l text (n - 1) ≡ inner_at l (after text n)
unfolding after
deeper_is l text zero h = absurd (omega arith)
deeper_is level.Expression text (suc n) h = ap (at level.Expression text) (before n)
deeper_is level.Negated text (suc n) h = ap (at level.Negated text) (before n)
deeper_is level.Signed text (suc n) h = ap (at level.Signed text) (before n)

pub gives_deeper : (l : Level) (text : List ℕ) (n : ℕ) (ts k : Bor (List Lexeme)) (r : Result Expr SyntaxError) → 0 < n → Gives (at l text (n - 1)) ts k r → Gives (inner_at l (after text n)) ts k r
gives_deeper l text n ts k r h g = subst (λ (p : Phrase Expr). Gives p ts k r) (deeper_is l text n h) g

pub ruleset level_steps = (gives_deeper)
