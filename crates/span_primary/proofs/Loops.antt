-- Reading a phrase any number of times, turn by turn.
use Rattle.std.proofs.Common.{◌≡◌, ℕ, zero, suc, ◌<◌, ◌≤◌, Bool, true, false, List, [], ◌∷◌, ◌++◌, length, refl, ap, ◌∙◌, arith, Ok, Err}
use Rattle.std.specs.Prelude.{if◌then◌else◌}
use Rattle.std.proofs.lemmas.Bool.{cond-true, cond-false}
use Rattle.span_grammar.specs.declared.class.Lexeme.{Lexeme}
use Rattle.span_primary.specs.declared.fault.SyntaxError.{SyntaxError}
use Rattle.span_grammar.specs.declared.grammar.Part.{Part}
use Rattle.span_grammar.specs.Rules.{starts}
use Rattle.span_grammar.specs.Grammar.{rule_of}
use Rattle.span_primary.specs.Phrases.{ReadResult, and_then, read_times, each_read}

-- it takes a token at least
pub record Shrinks {A : Type 0} (f : List Lexeme → ReadResult A) : Type 0 where
  pub falls : (ts k : List Lexeme) (x : A) → f ts ≡ Ok (x, k) → length k < length ts

pub each_falls : {A : Type 0} (f : List Lexeme → ReadResult A) (ts k : List Lexeme) (x : A) → Shrinks f → f ts ≡ Ok (x, k) → length k < length ts
each_falls f ts k x s h = s.falls ts k x h

module _ {A : Type 0} (f : List Lexeme → ReadResult A) (a : Part) where
  grows : (o r : ReadResult (List A)) (b : Bool) (F G : A → List Lexeme → ReadResult (List A)) → (o' : ReadResult A) → ((x : A) (k : List Lexeme) → o' ≡ Ok (x, k) → F x k ≡ G x k)
      → (if b then and_then o' F else r) ≡ (if b then and_then o' G else r)
  grows o r false F G o' all = refl
  grows o r true F G (Ok p) all = all p.0 p.1 refl
  grows o r true F G (Err e) all = refl

  -- more turns than tokens change nothing
  fuel : Shrinks f → (n m : ℕ) (found : List A) (ts : List Lexeme) → length ts ≤ n → length ts ≤ m → read_times f a n found ts ≡ read_times f a m found ts
  unfolding read_times
  fuel s zero zero found ts p q = refl
  fuel s zero (suc m) found [] p q = refl
  fuel s zero (suc m) found (t ∷ ts) p q = absurd (omega arith)
  fuel s (suc n) zero found [] p q = refl
  fuel s (suc n) zero found (t ∷ ts) p q = absurd (omega arith)
  fuel s (suc n) (suc m) found ts p q =
      grows (Ok (found, ts)) (Ok (found, ts)) (starts (rule_of a) ts) (λ x k. read_times f a n (found ++ (x ∷ [])) k) (λ x k. read_times f a m (found ++ (x ∷ [])) k) (f ts)
      (λ x k i. let g = s.falls ts k x i in fuel s n m (found ++ (x ∷ [])) k (omega (arith, g)) (omega (arith, g)))

  abbrev once : ℕ → List A → List Lexeme → ReadResult (List A)
  once n found ts = and_then (f ts) (λ x k. read_times f a n (found ++ (x ∷ [])) k)

  pub each_more : (found : List A) (ts k : List Lexeme) (x : A) → Shrinks f → starts (rule_of a) ts ≡ true → f ts ≡ Ok (x, k) → each_read f a found ts ≡ each_read f a (found ++ (x ∷ [])) k
  unfolding each_read read_times
  each_more found [] k x s h i = absurd cc
  each_more found (t ∷ ts) k x s h i =
      let g = s.falls (t ∷ ts) k x i in
      cond-true (starts (rule_of a) (t ∷ ts)) (once (length ts) found (t ∷ ts)) (Ok (found, t ∷ ts)) h
      ∙ ap (λ (o : ReadResult A). and_then o (λ x k. read_times f a (length ts) (found ++ (x ∷ [])) k)) i
      ∙ fuel s (length ts) (length k) (found ++ (x ∷ [])) k (omega (arith, g)) (omega arith)

  pub each_end : (found : List A) (ts : List Lexeme) → starts (rule_of a) ts ≡ false → each_read f a found ts ≡ Ok (found, ts)
  unfolding each_read read_times
  each_end found [] h = refl
  each_end found (t ∷ ts) h = cond-false (starts (rule_of a) (t ∷ ts)) (once (length ts) found (t ∷ ts)) (Ok (found, t ∷ ts)) h

  pub each_err : (found : List A) (ts : List Lexeme) (e : SyntaxError) → starts (rule_of a) ts ≡ true → f ts ≡ Err e → each_read f a found ts ≡ Err e
  unfolding each_read read_times
  each_err found [] e h i = absurd cc
  each_err found (t ∷ ts) e h i =
      cond-true (starts (rule_of a) (t ∷ ts)) (once (length ts) found (t ∷ ts)) (Ok (found, t ∷ ts)) h
      ∙ ap (λ (o : ReadResult A). and_then o (λ x k. read_times f a (length ts) (found ++ (x ∷ [])) k)) i
