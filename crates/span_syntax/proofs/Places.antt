-- The place of an error.
use Rattle.std.proofs.Common.{◌≡◌, ℕ, ◌≤◌, ◌<◌, ◌-◌, nat_le, List, length, Option, None, true, false, slice_get, ◌∙◌, ap, arith}
use Rattle.std.specs.Prelude.{option_map, take, drop}
use Rattle.std.proofs.lemmas.Bool.{cond-true, cond-false}
use Rattle.std.proofs.lemmas.Bool.Decides.{nat_tests}
use Rattle.std.proofs.lemmas.Option.{slice_get_past}
use Rattle.span_lexer.specs.declared.token.Token.{Token}
use Rattle.span_grammar.specs.declared.class.Lexeme.{Lexeme}
use Rattle.span_syntax.specs.Parsed.{token_at, split_tokens}

pub at_some : (n : ℕ) (ts : List Lexeme) (o : Option Lexeme) → n ≤ length ts → slice_get (drop (length ts - n) ts) 0 ≡ o → token_at n ts ≡ o
unfolding token_at
at_some n ts o h e = let t : nat_le n (length ts) ≡ true = grind (arith, nat_tests) in cond-true (nat_le n (length ts)) _ _ t ∙ e

pub at_none : (n : ℕ) (ts : List Lexeme) → length ts < n → token_at n ts ≡ None
unfolding token_at
at_none n ts h = let f : nat_le n (length ts) ≡ false = grind (arith, nat_tests) in cond-false (nat_le n (length ts)) _ _ f

pub past_end : (n : ℕ) (ts : List Token) → length ts ≤ n → split_tokens n ts ≡ None
unfolding split_tokens
past_end n ts h = ap (option_map (λ t. (take n ts, t.start))) (slice_get_past ts n h)

pub ruleset ending_steps = (at_some, at_none, past_end)
