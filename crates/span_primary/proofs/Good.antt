-- A phrase is read as the grammar's theory reads its part, and built.
use Rattle.std.proofs.Common.{◌≡◌, ℕ, zero, suc, Bool, true, false, List, [], ◌∷◌, ◌++◌, length, refl, sym, ap, subst, ◌∙◌, Ok, Err, append_assoc}
use Rattle.std.proofs.Math.Dec.{eqb-suc-zero}
use Rattle.std.proofs.lemmas.List.{append-nil}
use Rattle.std.specs.Prelude.{if◌then◌else◌, ◌==◌}
use Rattle.span_grammar.specs.declared.class.Lexeme.{Lexeme}
use Rattle.span_grammar.specs.declared.class.Sort.{Sort}
use Rattle.span_primary.specs.declared.fault.SyntaxError.TheVariants as fault
use Rattle.span_grammar.specs.declared.grammar.Part.{Part}
use Rattle.span_grammar.specs.declared.grammar.Part.TheVariants as part
use Rattle.span_grammar.specs.declared.grammar.Place.{Place}
use Rattle.span_grammar.specs.declared.grammar.Shape.{Shape}
use Rattle.span_grammar.specs.declared.grammar.Shape.TheVariants as shape
use Rattle.span_grammar.specs.Rules.{is_of, Rule, Then, Or, Many, Open, Tree, Leaf, Pair, Left, Right, End, More, Nest, Answer, Read, Wrong, Deep, bind, starts, read_many, one, parse}
use Rattle.span_grammar.specs.Shapes.{shape_of, part_inside}
use Rattle.span_grammar.specs.Grammar.{inside, rule_of, nothing_rule}
use Rattle.span_primary.specs.Phrases.{token_of, first_of, second_of, nested_of, either_of, each_of, ReadResult, and_then, token_read, enter_read, read_times, each_read, Phrase, token, nothing, ◌<$>◌, ◌>>=◌, either, each, pair_with, opening, to_read_result}
use Rattle.span_grammar.proofs.Shaped.{IsShaped, shaped, inside_is}

pub record Good {A : Type 0} (n : ℕ) (r : Rule) (x : Phrase A) : Type 0 where
  pub is : (ts : List Lexeme) → x.read ts ≡ to_read_result x.of (parse inside n r ts)

rule_is : (p : Part) (s : Shape) → s ≡ shape_of p → IsShaped (rule_of p) s
rule_is p s h = subst (IsShaped (rule_of p)) (sym h) (shaped p)

by_rule : {A : Type 0} (n : ℕ) (p : Part) (r : Rule) (x : Phrase A) → rule_of p ≡ r → Good n r x → Good n (rule_of p) x
by_rule n p r x h g = subst (λ (v : Rule). Good n v x) (sym h) g

-- ---- tokens and nothing

token_at : (s : Sort) (ts : List Lexeme) → token_read s ts ≡ to_read_result token_of (one s ts)
unfolding token_read to_read_result token_of
token_at s [] = refl
token_at s (t ∷ ts) =
    elim (is_of s t) as (λ v. (if v then Ok (t, ts) else Err (fault.Syntax (length (t ∷ ts)))) ≡ to_read_result token_of (if v then Read (Leaf t) ts else Wrong (t ∷ ts))) [ true ↦ refl | false ↦ refl ]

pub token_good : (n : ℕ) (s : Sort) → Good n (rule_of (part.Token s)) (token s)
unfolding rule_of
token_good n s = record { is = token_at s }

pub nothing_good : {A : Type 0} (n : ℕ) (a : A) → Good n (rule_of part.Nothing) (nothing a)
unfolding rule_of nothing_rule to_read_result
nothing_good n a = record { is = λ ts. refl }

-- ---- what is made of what was read

map_at : {A B : Type 0} (f : A → B) (of : Tree → A) (s : Answer) → and_then (to_read_result of s) (λ x k. Ok (f x, k)) ≡ to_read_result (λ t. f (of t)) s
unfolding to_read_result
map_at f of (Read x k) = refl
map_at f of (Wrong k) = refl
map_at f of (Deep k) = refl

pub map_good : {A B : Type 0} {n : ℕ} {r : Rule} (f : A → B) (x : Phrase A) → Good n r x → Good n r (f <$> x)
map_good {B = B} {n = n} {r = r} f x g = record { is = λ ts. ap (λ (o : ReadResult _). and_then o (λ v k. let w : ReadResult B = Ok (f v, k) in w)) (g.is ts) ∙ map_at f x.of (parse inside n r ts) }

pub beside_good : {A B : Type 0} {n : ℕ} {r : Rule} (v : A) (x : Phrase B) → Good n r x → Good n r (pair_with v x)
beside_good v x g = map_good (λ w. (v, w)) x g

-- ---- one after the other

module _ {A B : Type 0} (n : ℕ) (a b : Rule) (x : Phrase A) (f : A → Phrase B) (gx : Good n a x) (gf : (v : A) → Good n b (f v)) where
  second_at : (t : Tree) (s : Answer) → to_read_result (f (x.of t)).of s ≡ to_read_result (x >>= f).of (bind s (λ y k2. Read (Pair t y) k2))
  unfolding to_read_result first_of second_of
  second_at t (Read y k) = refl
  second_at t (Wrong k) = refl
  second_at t (Deep k) = refl

  first_at : (s : Answer) → and_then (to_read_result x.of s) (λ v k. (f v).read k) ≡ to_read_result (x >>= f).of (bind s (λ y k. bind (parse inside n b k) (λ z k2. Read (Pair y z) k2)))
  unfolding to_read_result
  first_at (Read y k) = (gf (x.of y)).is k ∙ second_at y (parse inside n b k)
  first_at (Wrong k) = refl
  first_at (Deep k) = refl

  then_is : Good n (Then a b) (x >>= f)
  then_is = record { is = λ ts. ap (λ (o : ReadResult A). and_then o (λ v k. (f v).read k)) (gx.is ts) ∙ first_at (parse inside n a ts) }

pub then_good : {A B : Type 0} (n : ℕ) (p a b : Part) → shape.Then a b ≡ shape_of p → (x : Phrase A) (f : A → Phrase B) → Good n (rule_of a) x → ((v : A) → Good n (rule_of b) (f v)) → Good n (rule_of p) (x >>= f)
then_good n p a b h x f gx gf = by_rule n p (Then (rule_of a) (rule_of b)) (x >>= f) (rule_is p (shape.Then a b) h) (then_is n (rule_of a) (rule_of b) x f gx gf)

-- ---- one or the other

left_at : {A : Type 0} (f g : Tree → A) (s : Answer) → to_read_result f s ≡ to_read_result (either_of f g) (bind s (λ x k. Read (Left x) k))
unfolding to_read_result either_of
left_at f g (Read x k) = refl
left_at f g (Wrong k) = refl
left_at f g (Deep k) = refl

right_at : {A : Type 0} (f g : Tree → A) (s : Answer) → to_read_result g s ≡ to_read_result (either_of f g) (bind s (λ x k. Read (Right x) k))
unfolding to_read_result either_of
right_at f g (Read x k) = refl
right_at f g (Wrong k) = refl
right_at f g (Deep k) = refl

or_at : {A : Type 0} (f : Tree → A) (b : Bool) (o p : ReadResult A) (s t : Answer) → o ≡ to_read_result f s → p ≡ to_read_result f t → (if b then o else p) ≡ to_read_result f (if b then s else t)
or_at f true o p s t h i = h
or_at f false o p s t h i = i

pub or_good : {A : Type 0} (n : ℕ) (p a b : Part) → shape.Or a b ≡ shape_of p → (x y : Phrase A) → Good n (rule_of a) x → Good n (rule_of b) y → Good n (rule_of p) (either a x y)
or_good n p a b h x y gx gy = by_rule n p (Or (rule_of a) (rule_of b)) (either a x y) (rule_is p (shape.Or a b) h) (record {
  is = λ ts. or_at (either_of x.of y.of) (starts (rule_of a) ts) (x.read ts) (y.read ts) (bind (parse inside n (rule_of a) ts) (λ t k. Read (Left t) k)) (bind (parse inside n (rule_of b) ts) (λ t k. Read (Right t) k))
      (gx.is ts ∙ left_at x.of y.of (parse inside n (rule_of a) ts)) (gy.is ts ∙ right_at x.of y.of (parse inside n (rule_of b) ts));
})

-- ---- any number of times

abbrev onto : {A : Type 0} → List A → ReadResult (List A) → ReadResult (List A)
onto found (Ok p) = Ok (found ++ p.0, p.1)
onto found (Err e) = Err e

module _ {A : Type 0} (n : ℕ) (a : Part) (x : Phrase A) (gx : Good n (rule_of a) x) where
  abbrev manies : ℕ → List Lexeme → Answer
  manies m ts = read_many (λ us. parse inside n (rule_of a) us) (rule_of a) m ts

  more_at : (found : List A) (t : Tree) (s : Answer) → onto (found ++ (x.of t ∷ [])) (to_read_result (each_of x.of) s) ≡ onto found (to_read_result (each_of x.of) (bind s (λ more k. Read (More t more) k)))
  unfolding to_read_result each_of
  more_at found t (Read y k) = ap (λ (w : List A). let o : ReadResult (List A) = Ok (w, k) in o) (append_assoc found (x.of t ∷ []) (each_of x.of y))
  more_at found t (Wrong k) = refl
  more_at found t (Deep k) = refl

  turn_at : (m : ℕ) (found : List A) (s : Answer) → ((fs : List A) (k : List Lexeme) → read_times x.read a m fs k ≡ onto fs (to_read_result (each_of x.of) (manies m k)))
      → and_then (to_read_result x.of s) (λ v k. read_times x.read a m (found ++ (v ∷ [])) k) ≡ onto found (to_read_result (each_of x.of) (bind s (λ t k. bind (manies m k) (λ more k2. Read (More t more) k2))))
  unfolding to_read_result
  turn_at m found (Read t k) all = all (found ++ (x.of t ∷ [])) k ∙ more_at found t (manies m k)
  turn_at m found (Wrong k) all = refl
  turn_at m found (Deep k) all = refl

  end_at : (found : List A) (ts : List Lexeme) → (let o : ReadResult (List A) = Ok (found, ts) in o) ≡ onto found (to_read_result (each_of x.of) (Read End ts))
  unfolding to_read_result each_of
  end_at found ts = ap (λ (w : List A). let o : ReadResult (List A) = Ok (w, ts) in o) (sym (append-nil found))

  many_or : (b : Bool) (found : List A) (o p : ReadResult (List A)) (s t : Answer) → o ≡ onto found (to_read_result (each_of x.of) s) → p ≡ onto found (to_read_result (each_of x.of) t) → (if b then o else p) ≡ onto found (to_read_result (each_of x.of) (if b then s else t))
  many_or true found o p s t h i = h
  many_or false found o p s t h i = i

  turns_is : (m : ℕ) (found : List A) (ts : List Lexeme) → read_times x.read a m found ts ≡ onto found (to_read_result (each_of x.of) (manies m ts))
  unfolding read_times
  turns_is zero found ts = end_at found ts
  turns_is (suc m) found ts =
      many_or (starts (rule_of a) ts) found (and_then (x.read ts) (λ v k. read_times x.read a m (found ++ (v ∷ [])) k)) (Ok (found, ts))
      (bind (parse inside n (rule_of a) ts) (λ t k. bind (manies m k) (λ more k2. Read (More t more) k2))) (Read End ts)
      (ap (λ (o : ReadResult A). and_then o (λ v k. read_times x.read a m (found ++ (v ∷ [])) k)) (gx.is ts) ∙ turn_at m found (parse inside n (rule_of a) ts) (λ fs k. turns_is m fs k))
      (end_at found ts)

  onto_nil : (o : ReadResult (List A)) → onto [] o ≡ o
  onto_nil (Ok p) = refl
  onto_nil (Err e) = refl

  each_is : Good n (Many (rule_of a)) (each a x)
  unfolding each_read
  each_is = record { is = λ ts. turns_is (length ts) [] ts ∙ onto_nil (to_read_result (each_of x.of) (manies (length ts) ts)) }

pub many_good : {A : Type 0} (n : ℕ) (p a : Part) → shape.Many a ≡ shape_of p → (x : Phrase A) → Good n (rule_of a) x → Good n (rule_of p) (each a x)
many_good n p a h x g = by_rule n p (Many (rule_of a)) (each a x) (rule_is p (shape.Many a) h) (each_is n a x g)

-- ---- after an opening

nest_at : {A : Type 0} (of : Tree → A) (t : Lexeme) (s : Answer) → to_read_result of s ≡ to_read_result (λ v. of (nested_of v)) (bind s (λ x k. Read (Nest t x) k))
unfolding to_read_result nested_of
nest_at of t (Read x k) = refl
nest_at of t (Wrong k) = refl
nest_at of t (Deep k) = refl

module _ {A : Type 0} (s : Sort) (l : Place) (x : Phrase A) where
  abbrev entered : ℕ → Bool → Lexeme → List Lexeme → ReadResult A
  entered n b t ts = and_then (and_then (if b then Ok (t, ts) else Err (fault.Syntax (length (t ∷ ts)))) (λ u k. if n == 0 then Err (fault.TooDeep (length (t ∷ ts))) else Ok (u, k))) (λ u k. x.read k)

  shut_at : (b : Bool) (t : Lexeme) (ts : List Lexeme) → entered 0 b t ts ≡ to_read_result (λ v. x.of (nested_of v)) (if b then Deep (t ∷ ts) else Wrong (t ∷ ts))
  unfolding to_read_result
  shut_at true t ts = refl
  shut_at false t ts = refl

  wrong_at : (t : Lexeme) (ts : List Lexeme) → (let o : ReadResult A = Err (fault.Syntax (length (t ∷ ts))) in o) ≡ to_read_result (λ v. x.of (nested_of v)) (Wrong (t ∷ ts))
  unfolding to_read_result
  wrong_at t ts = refl

  in_at : (n : ℕ) → Good n (inside l) x → (b : Bool) (t : Lexeme) (ts : List Lexeme) → entered (suc n) b t ts ≡ to_read_result (λ v. x.of (nested_of v)) (if b then bind (parse inside n (inside l) ts) (λ y k. Read (Nest t y) k) else Wrong (t ∷ ts))
  in_at n g true t ts =
      ap (λ (b : Bool). and_then (if b then Err (fault.TooDeep (length (t ∷ ts))) else Ok (t, ts)) (λ u k. x.read k)) (eqb-suc-zero n)
      ∙ g.is ts ∙ nest_at x.of t (parse inside n (inside l) ts)
  in_at n g false t ts = wrong_at t ts

  open_is : (n : ℕ) → ((m : ℕ) → n ≡ suc m → Good m (inside l) x) → (ts : List Lexeme) → (opening n s x).read ts ≡ to_read_result (opening n s x).of (parse inside n (Open s l) ts)
  unfolding enter_read token_read to_read_result
  open_is n g [] = refl
  open_is zero g (t ∷ ts) = shut_at (is_of s t) t ts
  open_is (suc n) g (t ∷ ts) = in_at n (g n refl) (is_of s t) t ts

pub open_good : {A : Type 0} (n : ℕ) (p : Part) (s : Sort) (l : Place) → shape.Open s l ≡ shape_of p → (x : Phrase A) → ((m : ℕ) → n ≡ suc m → Good m (rule_of (part_inside l)) x) → Good n (rule_of p) (opening n s x)
open_good n p s l h x g = by_rule n p (Open s l) (opening n s x) (rule_is p (shape.Open s l) h)
    (record { is = open_is s l x n (λ m e. subst (λ (v : Rule). Good m v x) (inside_is l) (g m e)) })
