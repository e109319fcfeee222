-- A query after an opening is read with one opening fewer left.
use Rattle.std.proofs.Common.{◌≡◌, ℕ, zero, suc, ◌<◌, ◌-◌, List, Result, ap, subst, arith}
use denote.Ref.{Bor}
use Rattle.span_grammar.specs.declared.class.Lexeme.{Lexeme}
use Rattle.span_primary.specs.declared.fault.SyntaxError.{SyntaxError}
use Rattle.span_parser.specs.declared.tree.Query.{Query}
use Rattle.span_primary.specs.Phrases.{Phrase, Gives}
use Rattle.span_parser.specs.Queries.{query, nested_query}

before : (n : ℕ) → suc n - 1 ≡ n
before n = omega arith

at : List ℕ → ℕ → Phrase Query
at text n = query text n (nested_query text n)

deeper_is : (text : List ℕ) (n : ℕ) → 0 < n → query text (n - 1) (nested_query text (n - 1)) ≡ nested_query text n
unfolding nested_query at
deeper_is text zero h = absurd (omega arith)
deeper_is text (suc n) h = ap (at text) (before n)

pub gives_deeper : (text : List ℕ) (n : ℕ) (ts k : Bor (List Lexeme)) (r : Result Query SyntaxError) → 0 < n → Gives (query text (n - 1) (nested_query text (n - 1))) ts k r → Gives (nested_query text n) ts k r
gives_deeper text n ts k r h g = subst (λ (p : Phrase Query). Gives p ts k r) (deeper_is text n h) g

pub ruleset level_steps = (gives_deeper)
