-- Phrases of the grammar: the value of a derivation by a rule, and how it is read, one token ahead.
use Rattle.std.specs.Prelude.{◌≡◌, ◌≢◌, ℕ, zero, suc, ◌==◌, List, [], ◌∷◌, ◌++◌, length, Option, Some, None, Result, Ok, Err, if◌then◌else◌}
use denote.Ref.{Bor}
use Rattle.span_grammar.specs.declared.class.Lexeme.{Lexeme}
use Rattle.span_grammar.specs.declared.class.Class.TheVariants as class
use Rattle.span_grammar.specs.declared.class.Sort.{Sort}
use Rattle.span_primary.specs.declared.fault.SyntaxError.{SyntaxError}
use Rattle.span_primary.specs.declared.fault.SyntaxError.TheVariants as fault
use Rattle.span_grammar.specs.declared.grammar.Part.{Part}
use Rattle.span_grammar.specs.Grammar.{rule_of}
use Rattle.span_grammar.specs.Rules.{is_of, of_class, Tree, Leaf, Pair, Left, Right, More, Nest, Answer, Read, Wrong, Deep, starts}

-- ---- the parts of a derivation; where there is no such part, the value does not matter

unfoldable pub token_of : Tree → Lexeme
token_of (Leaf t) = t
token_of (Nest t x) = t
token_of _ = of_class class.Name

unfoldable pub first_of : Tree → Tree
first_of (Pair x y) = x
first_of x = x

unfoldable pub second_of : Tree → Tree
second_of (Pair x y) = y
second_of x = x

unfoldable pub nested_of : Tree → Tree
nested_of (Nest t x) = x
nested_of x = x

unfoldable pub either_of : {A : Type 0} → (Tree → A) → (Tree → A) → Tree → A
either_of f g (Left x) = f x
either_of f g (Right y) = g y
either_of f g x = g x

unfoldable pub each_of : {A : Type 0} → (Tree → A) → Tree → List A
each_of f (More x more) = f x ∷ each_of f more
each_of f x = []

-- ---- what is read, and the tokens after it

abbrev pub ReadResult : Type 0 → Type 0
ReadResult A = Result (A × List Lexeme) SyntaxError

abbrev pub and_then : {A B : Type 0} → ReadResult A → (A → List Lexeme → ReadResult B) → ReadResult B
and_then (Ok p) f = f p.0 p.1
and_then (Err e) f = Err e

unfoldable pub token_read : Sort → List Lexeme → ReadResult Lexeme
token_read s [] = Err (fault.Syntax 0)
token_read s (t ∷ ts) = if is_of s t then Ok (t, ts) else Err (fault.Syntax (length (t ∷ ts)))

-- an opening token, with `left` openings left
unfoldable pub enter_read : ℕ → Sort → List Lexeme → ReadResult Lexeme
enter_read left s ts =
    and_then (token_read s ts) (λ t k. if left == 0 then Err (fault.TooDeep (length ts)) else Ok (t, k))

-- after what was read: a phrase, which is the part, as long as it can begin, at most n times
unfoldable pub read_times : {A : Type 0} → (List Lexeme → ReadResult A) → Part → ℕ → List A → List Lexeme
    → ReadResult (List A)
read_times f a zero found ts = Ok (found, ts)
read_times f a (suc n) found ts =
    if starts (rule_of a) ts then and_then (f ts) (λ x k. read_times f a n (found ++ (x ∷ [])) k) else Ok (found, ts)

-- each time takes a token
unfoldable pub each_read : {A : Type 0} → (List Lexeme → ReadResult A) → Part → List A → List Lexeme
    → ReadResult (List A)
each_read f a found ts = read_times f a (length ts) found ts

-- ---- phrases

pub record Phrase (A : Type 0) : Type 0 where
  pub of : Tree → A
  pub read : List Lexeme → ReadResult A

abbrev pub token : Sort → Phrase Lexeme
token s = record { of = token_of; read = token_read s }

abbrev pub nothing : {A : Type 0} → A → Phrase A
nothing a = record { of = λ x. a; read = λ ts. Ok (a, ts) }

infixr 11 ◌<$>◌
abbrev pub ◌<$>◌ : {A B : Type 0} → (A → B) → Phrase A → Phrase B
f <$> p = record { of = λ x. f (p.of x); read = λ ts. and_then (p.read ts) (λ x k. Ok (f x, k)) }

infixl 10 ◌>>=◌
abbrev pub ◌>>=◌ : {A B : Type 0} → Phrase A → (A → Phrase B) → Phrase B
p >>= f =
    record {
      of = λ x. (f (p.of (first_of x))).of (second_of x);
      read = λ ts. and_then (p.read ts) (λ x k. (f x).read k);
    }

infixl 10 ◌>>◌
abbrev pub ◌>>◌ : {A B : Type 0} → Phrase A → Phrase B → Phrase B
p >> q = p >>= (λ x. q)

-- the first, which is the part, where it can begin with what comes, else the second
abbrev pub either : {A : Type 0} → Part → Phrase A → Phrase A → Phrase A
either a p q = record { of = either_of p.of q.of; read = λ ts. if starts (rule_of a) ts then p.read ts else q.read ts }

-- the phrase or nothing
abbrev pub optional : {A : Type 0} → Part → Phrase A → Phrase (Option A)
optional a p = either a (Some <$> p) (nothing None)

-- the phrase, which is the part, any number of times
abbrev pub each : {A : Type 0} → Part → Phrase A → Phrase (List A)
each a p = record { of = each_of p.of; read = λ ts. each_read p.read a [] ts }

-- what was read before, and a phrase after it
abbrev pub pair_with : {A B : Type 0} → A → Phrase B → Phrase (A × B)
pair_with x p = record { of = λ t. (x, p.of t); read = λ ts. and_then (p.read ts) (λ y k. Ok ((x, y), k)) }

-- an opening token, with `left` openings left
abbrev pub opening_token : ℕ → Sort → Phrase Lexeme
opening_token left s = record { of = token_of; read = enter_read left s }

-- the same, and what is after it
abbrev pub opening : {A : Type 0} → ℕ → Sort → Phrase A → Phrase A
opening left s p =
    record { of = λ x. p.of (nested_of x); read = λ ts. and_then (enter_read left s ts) (λ t k. p.read k) }

-- ---- the result of the grammar's reading, as a result of a phrase

unfoldable pub to_read_result : {A : Type 0} → (Tree → A) → Answer → ReadResult A
to_read_result f (Read x k) = Ok (f x, k)
to_read_result f (Wrong k) = Err (fault.Syntax (length k))
to_read_result f (Deep k) = Err (fault.TooDeep (length k))

-- what a function returned whose cursor was at `before`, and now is at `after`: what the phrase reads, unless memory ran
-- out; after an error nothing is stated of the cursor
abbrev pub Gives : {A : Type 0} → Phrase A → Bor (List Lexeme) → Bor (List Lexeme) → Result A SyntaxError → Type 0
Gives p before after (Ok x) = p.read before.now ≡ Ok (x, after.now)
Gives p before after (Err e) = e ≢ fault.OutOfMemory → p.read before.now ≡ Err e
