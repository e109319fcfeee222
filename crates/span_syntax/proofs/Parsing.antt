-- What the result of reading all the tokens implies of the text.
use Rattle.std.proofs.Common.{◌≡◌, ◌≢◌, ◌⊎◌, inl, inr, ℕ, List, [], ◌∷◌, length, Result, Ok, Err, refl, sym, ap, subst, ◌∙◌, arith}
use Rattle.std.specs.Prelude.{IfOk, IfErr}
use Rattle.span_value.specs.declared.refusal.Refusal.{Refusal}
use Rattle.span_value.specs.declared.refusal.Refusal.TheVariants as refusal
use Rattle.span_lexer.specs.declared.lexer.ReadError.{ReadError}
use Rattle.span_lexer.specs.Tokens.{Item}
use Rattle.span_lexer.specs.Readings.{IsReadError}
use Rattle.span_grammar.specs.declared.class.Lexeme.{Lexeme}
use Rattle.span_primary.specs.declared.fault.SyntaxError.{SyntaxError}
use Rattle.span_primary.specs.declared.fault.SyntaxError.TheVariants as fault
use Rattle.span_grammar.specs.declared.judge.Goal.{Goal}
use Rattle.span_grammar.specs.Rules.{Rule, Tree, Answer, Read, Wrong, Deep, most_openings, parse}
use Rattle.span_grammar.specs.Texts.{HasTree, IsWrong, IsTooDeep}
use Rattle.span_grammar.specs.Grammar.{inside}
use Rattle.span_grammar.specs.Goals.{goal_part, goal_rule}
use Rattle.span_grammar.specs.Judged.{HasItems, lexemes_in, IsTokenRefusal, IsRefused}
use Rattle.span_primary.specs.Phrases.{Phrase, to_read_result}
use Rattle.span_syntax.specs.Parsed.{ParsesAs, GivesToEnd, require_end, at_end, read_to_end, refusal_of, Reports, Refuses, IsOrOutOfMemory}
use Rattle.span_grammar.proofs.Whole.{whole, Right, answered, tree_answered, deep_answered, wrong_answered}
use Rattle.span_grammar.proofs.Ending.{ends, inside_ends}
use Rattle.span_grammar.proofs.Apart.{st}
use Rattle.span_grammar.proofs.Verdicts.{wide, good, goal_good}
use Rattle.span_grammar.proofs.Judging.{same_lexemes, judged_refused, made_not, misread_same}
use Rattle.span_primary.proofs.Good.{Good}

-- ---- for the code

pub used_none : {A : Type 0} (x : A) (k : List Lexeme) → length k ≡ 0 → require_end x k ≡ Ok x
unfolding require_end
used_none x [] z = refl
used_none x (t ∷ k) z = absurd (omega (arith, z))

pub used_more : {A : Type 0} (x : A) (k : List Lexeme) → length k ≢ 0 → require_end x k ≡ Err (fault.Syntax (length k))
unfolding require_end
used_more x [] z = absurd (z refl)
used_more x (t ∷ k) z = refl

pub ruleset used_steps = (used_none, used_more)

pub whole_then : {A : Type 0} (x : Phrase A) (ts k : List Lexeme) (v : A) (r : Result A SyntaxError) → x.read ts ≡ Ok (v, k) → GivesToEnd r (require_end v k) → GivesToEnd r (read_to_end x ts)
unfolding read_to_end
whole_then x ts k v r h g = subst (GivesToEnd r) (sym (ap at_end h)) g

pub whole_err : {A : Type 0} (x : Phrase A) (ts : List Lexeme) (e : SyntaxError) → x.read ts ≡ Err e → read_to_end x ts ≡ Err e
unfolding read_to_end
whole_err x ts e h = ap at_end h

pub ruleset whole_steps = (whole_then, whole_err)

-- ---- tokens

ok_is : {X : Type 0} (a b : X) → (let o : Result X SyntaxError = Ok a in o) ≡ Ok b → a ≡ b
ok_is a b h = cc

err_is : {X : Type 0} (e f : SyntaxError) → (let o : Result X SyntaxError = Err e in o) ≡ Err f → e ≡ f
err_is e f h = cc

abbrev answer : {A : Type 0} → (Tree → A) → Answer → Result A SyntaxError
answer of (Read x k) = Ok (of x)
answer of (Wrong k) = Err (fault.Syntax (length k))
answer of (Deep k) = Err (fault.TooDeep (length k))

used_at : {A : Type 0} (of : Tree → A) (s : Answer) → at_end (to_read_result of s) ≡ answer of (whole s)
unfolding to_read_result require_end
used_at of (Read x []) = refl
used_at of (Read x (t ∷ k)) = refl
used_at of (Wrong k) = refl
used_at of (Deep k) = refl

module _ {A : Type 0} (g : Goal) (phrase : Phrase A) (is_good : Good most_openings (goal_rule g) phrase) (ts : List Lexeme) where
  abbrev rule : Rule
  rule = goal_rule g

  abbrev of : Tree → A
  of = phrase.of

  abbrev run : Answer
  run = whole (parse inside most_openings rule ts)

  abbrev Answers : Answer → Type 0
  Answers s = Right inside st wide inside_ends good rule (ends (goal_part g)) (goal_good g) ts s

  right : Answers run
  right = answered inside st wide inside_ends good rule (ends (goal_part g)) (goal_good g) ts

  read_is : read_to_end phrase ts ≡ answer of run
  unfolding read_to_end
  read_is = ap at_end (is_good.is ts) ∙ used_at of (parse inside most_openings rule ts)

  value_at : (q : A) (s : Answer) → answer of s ≡ Ok q → Answers s → (x : Tree) × HasTree inside rule ts x × (q ≡ of x)
  value_at q (Read x k) h r = (x, r, sym (ok_is (of x) q h))
  value_at q (Wrong k) h r = absurd cc
  value_at q (Deep k) h r = absurd cc

  pub value_read : (q : A) → read_to_end phrase ts ≡ Ok q → (x : Tree) × HasTree inside rule ts x × (q ≡ of x)
  value_read q h = value_at q run (sym read_is ∙ h) right

  pub value_all : (x : Tree) → HasTree inside rule ts x → read_to_end phrase ts ≡ Ok (of x)
  value_all x h = read_is ∙ ap (answer of) (tree_answered inside st wide inside_ends good rule (ends (goal_part g)) (goal_good g) ts x h)

  fault_at : (f : SyntaxError) (s : Answer) → answer of s ≡ Err f → Answers s → IsTokenRefusal g ts (refusal_of f)
  fault_at f (Read x k) h r = absurd cc
  fault_at f (Wrong k) h r = subst (λ (v : SyntaxError). IsTokenRefusal g ts (refusal_of v)) (err_is {X = A} (fault.Syntax (length k)) f h) r
  fault_at f (Deep k) h r = subst (λ (v : SyntaxError). IsTokenRefusal g ts (refusal_of v)) (err_is {X = A} (fault.TooDeep (length k)) f h) r

  pub fault_read : (f : SyntaxError) → read_to_end phrase ts ≡ Err f → IsTokenRefusal g ts (refusal_of f)
  fault_read f h = fault_at f run (sym read_is ∙ h) right

  pub wrong_all : IsWrong inside rule ts → (k : List Lexeme) × (read_to_end phrase ts ≡ Err (fault.Syntax (length k)))
  wrong_all w = let a = wrong_answered inside st wide inside_ends good rule (ends (goal_part g)) (goal_good g) ts w in (a.0, read_is ∙ ap (answer of) a.1)

  pub deep_all : IsTooDeep inside rule ts → (k : List Lexeme) × (read_to_end phrase ts ≡ Err (fault.TooDeep (length k)))
  deep_all w = let a = deep_answered inside st wide inside_ends good rule (ends (goal_part g)) (goal_good g) ts w in (a.0, read_is ∙ ap (answer of) a.1)

pub reports : {A : Type 0} (o : Result A SyntaxError) (f : SyntaxError) (e : ReadError) → (f ≢ fault.OutOfMemory → o ≡ Err f) → e.refusal ≡ refusal_of f → Reports (let r : Result A ReadError = Err e in r) o
reports o fault.OutOfMemory e h i = inl i
reports o (fault.Syntax n) e h i = inr (fault.Syntax n, h (λ j. absurd cc), i)
reports o (fault.TooDeep n) e h i = inr (fault.TooDeep n, h (λ j. absurd cc), i)

-- ---- texts

not_both : {X : Type 0} (o : Result X SyntaxError) (x : X) (f : SyntaxError) → o ≡ Ok x → o ≡ Err f → ⊥
not_both {X = X} o x f h i = let j : (let r : Result X SyntaxError = Ok x in r) ≡ Err f = sym h ∙ i in absurd cc

same_fault : {X : Type 0} (o : Result X SyntaxError) (f g : SyntaxError) → o ≡ Err f → o ≡ Err g → f ≡ g
same_fault {X = X} o f g h i = err_is {X = X} f g (sym h ∙ i)

module _ {A : Type 0} (g : Goal) (phrase : Phrase A) (is_good : Good most_openings (goal_rule g) phrase) (text : List ℕ) (is : List Item) (made : HasItems text is) where
  abbrev found : Result A SyntaxError
  found = read_to_end phrase (lexemes_in text is)

  pub text_value : (r : Result A ReadError) → Reports r found → IfOk r (λ q. ParsesAs g phrase.of text q)
  text_value (Ok q) h = let t = value_read g phrase is_good (lexemes_in text is) q h in record { items = is; made = made; tree = t.0; has = t.1; is = t.2 }
  text_value (Err e) h = tt

  has_here : (q : A) (t : ParsesAs g phrase.of text q) → found ≡ Ok q
  has_here q t =
      let P : List Lexeme → Type 0 = λ w. HasTree inside (goal_rule g) w t.tree in
      value_all g phrase is_good (lexemes_in text is) t.tree (subst P (same_lexemes text t.items is t.made made) t.has) ∙ ap (λ (v : A). let o : Result A SyntaxError = Ok v in o) (sym t.is)

  -- a text has one value at most
  pub one_value : (x y : A) → ParsesAs g phrase.of text x → ParsesAs g phrase.of text y → x ≡ y
  one_value x y s t = ok_is x y (sym (has_here x s) ∙ has_here y t)

  pub text_value_all : (r : Result A ReadError) → Reports r found → (q : A) → ParsesAs g phrase.of text q → IsOrOutOfMemory r q
  text_value_all (Ok x) h q t = ok_is x q (sym h ∙ has_here q t)
  text_value_all (Err e) (inl m) q t = m
  text_value_all (Err e) (inr f) q t = absurd (not_both found q f.0 (has_here q t) f.1)

  pub text_refused : (r : Result A ReadError) → Reports r found → IfErr r (λ why. IsRefused g text why.refusal)
  text_refused (Ok x) h = tt
  text_refused (Err e) (inl m) = subst (λ (v : Refusal). IsRefused g text v) (sym m) tt
  text_refused (Err e) (inr f) =
      subst (λ (v : Refusal). IsRefused g text v) (sym f.2) (judged_refused g text is (refusal_of f.0) made (fault_read g phrase is_good (lexemes_in text is) f.0 f.1))

  refuses_at : (r : Result A ReadError) → Reports r found → (f : SyntaxError) → found ≡ Err f → Refuses r (refusal_of f)
  refuses_at (Ok x) h f i = not_both found x f h i
  refuses_at (Err e) (inl m) f i = inr m
  refuses_at (Err e) (inr w) f i = inl (w.2 ∙ ap refusal_of (same_fault found w.0 f w.1 i))

  pub text_refused_all : (r : Result A ReadError) → Reports r found → (why : Refusal) → why ≢ refusal.OutOfMemory → IsRefused g text why → Refuses r why
  text_refused_all r h refusal.TextTooLong n i = absurd (made_not text refusal.TextTooLong is i n made)
  text_refused_all r h refusal.BadToken n i = absurd (made_not text refusal.BadToken is i n made)
  text_refused_all r h refusal.Syntax n i =
      let P : List Lexeme → Type 0 = λ w. IsWrong inside (goal_rule g) w in
      let a = wrong_all g phrase is_good (lexemes_in text is) (subst P (same_lexemes text i.0 is i.1 made) i.2) in
      refuses_at r h (fault.Syntax (length a.0)) a.1
  text_refused_all r h refusal.TooDeep n i =
      let P : List Lexeme → Type 0 = λ w. IsTooDeep inside (goal_rule g) w in
      let a = deep_all g phrase is_good (lexemes_in text is) (subst P (same_lexemes text i.0 is i.1 made) i.2) in
      refuses_at r h (fault.TooDeep (length a.0)) a.1
  text_refused_all r h refusal.OutOfMemory n i = absurd (n refl)
  text_refused_all r h _ n i = absurd i

  -- a text that has a value is not refused
  pub value_not_refused : (v : A) → ParsesAs g phrase.of text v → (why : Refusal) → why ≢ refusal.OutOfMemory → IsRefused g text why → ⊥
  value_not_refused v t why n i = text_refused_all (Ok v) (has_here v t) why n i

-- ---- texts that have no tokens

pub misread_value : {A : Type 0} (g : Goal) (of : Tree → A) (text : List ℕ) (e : ReadError) → IsReadError text e.refusal → (q : A) → ParsesAs g of text q → e.refusal ≡ refusal.OutOfMemory
misread_value g of text e h q t = at e.refusal h
  where
    at : (why : Refusal) → IsReadError text why → why ≡ refusal.OutOfMemory
    at refusal.TextTooLong h = absurd (made_not text refusal.TextTooLong t.items h (λ e. absurd cc) t.made)
    at refusal.BadToken h = absurd (made_not text refusal.BadToken t.items h (λ e. absurd cc) t.made)
    at refusal.OutOfMemory h = refl
    at _ h = absurd h

pub misread_refuses : (g : Goal) (text : List ℕ) (e : ReadError) → IsReadError text e.refusal → (why : Refusal) → why ≢ refusal.OutOfMemory → IsRefused g text why → (e.refusal ≡ why) ⊎ (e.refusal ≡ refusal.OutOfMemory)
misread_refuses g text e h why n i = elim (misread_same g text e.refusal why h n i) [ inl j ↦ inl (refusal_is e.refusal why j) | inr j ↦ inr (refusal_is e.refusal refusal.OutOfMemory j) ]
  where
    refusal_is : (a b : Refusal) → (let o : Result (Unit {0}) Refusal = Err a in o) ≡ Err b → a ≡ b
    refusal_is a b h = cc
