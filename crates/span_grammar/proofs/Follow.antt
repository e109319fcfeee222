-- Where the text has a tree the parser reads it, and it never stops at a token that some tree has there.
use Rattle.std.proofs.Common.{◌≡◌, ℕ, zero, suc, ◌+◌, ◌<◌, ◌≤◌, ◌⊎◌, inl, inr, Bool, true, false, List, [], ◌∷◌, ◌++◌, length, refl, sym, ap, subst, ◌∙◌, append_assoc, arith, length-append}
use Rattle.std.specs.Prelude.{◌||◌, ◌&&◌}
use Rattle.std.proofs.lemmas.Bool.{or_left, or_right, and_from, or_parts, false_from_ne_true, cond-true, cond-false}
use Rattle.span_grammar.specs.declared.class.Lexeme.{Lexeme}
use Rattle.span_grammar.specs.declared.class.Sort.{Sort}
use Rattle.span_grammar.specs.declared.grammar.Place.{Place}
use Rattle.span_grammar.specs.Rules.{is_of, Rule, Empty, One, Then, Or, Many, Open, Tree, Nothing, Leaf, Pair, Left, Right, End, More, Nest, Marks, marks, words, most_openings, Shallow, Fits, Answer, Read, Wrong, Deep, bind, is_nullable, first, starts, read_many, one, Deeper, No, Yes, enter_place, opening, parse_with, deeper}
use Rattle.span_grammar.proofs.Sound.{words-append, Sound, Is, Ends, SoundIn, sound_with, many_sound, deeper_sound, depth_in}

-- ---- tests

and_false : (x y : Bool) → x ≡ true → (x && y) ≡ false → y ≡ false
and_false true y e f = f
and_false false y e f = absurd cc

abbrev pub Apart : (Lexeme → Bool) → (Lexeme → Bool) → Type 0
Apart f g = (t : Lexeme) → f t ≡ true → g t ≡ true → ⊥

-- ---- a grammar in which one token decides the way

-- with which tokens a tree of the rule may go on, where it could end; stretch says the same of the places
abbrev pub goes_on : (Place → Lexeme → Bool) → Rule → Lexeme → Bool
goes_on st Empty t = false
goes_on st (One s) t = false
goes_on st (Then a b) t = goes_on st b t || (is_nullable b && goes_on st a t)
goes_on st (Or a b) t = goes_on st a t || (goes_on st b t || (is_nullable b && first a t))
goes_on st (Many a) t = first a t || goes_on st a t
goes_on st (Open s p) t = st p t

abbrev pub Good : (Place → Lexeme → Bool) → Rule → Type 0
Good st Empty = Unit {0}
Good st (One s) = Unit {0}
Good st (Then a b) = Good st a × Good st b × Apart (goes_on st a) (first b)
Good st (Or a b) = Good st a × Good st b × (is_nullable a ≡ false) × Apart (first a) (first b)
Good st (Many a) = Good st a × (is_nullable a ≡ false) × Apart (goes_on st a) (first a)
Good st (Open s p) = Unit {0}

abbrev pub Stops : (Place → Lexeme → Bool) → Rule → List Lexeme → Type 0
Stops st a [] = Unit {0}
Stops st a (t ∷ k) = goes_on st a t ≡ false

-- ---- lists

pub split : (a b p q : Marks) (m : Lexeme × ℕ) → a ++ b ≡ p ++ (m ∷ q) → ((r : Marks) × (a ≡ p ++ (m ∷ r))) ⊎ ((r : Marks) × (p ≡ a ++ r) × (b ≡ r ++ (m ∷ q)))
split [] b p q m e = inr (p, refl, e)
split (x ∷ a) b [] q m e = let h : x ≡ m = cc in inl (a, ap (λ (y : Lexeme × ℕ). y ∷ a) h)
split (x ∷ a) b (y ∷ p) q m e =
    let h : x ≡ y = cc in
    let t : a ++ b ≡ p ++ (m ∷ q) = cc in
    elim (split a b p q m t) [
      | inl i ↦ inl (i.0, cc)
      | inr i ↦ inr (i.0, cc, i.2)
    ]

empty_both : (a b : Marks) → a ++ b ≡ [] → (a ≡ []) × (b ≡ [])
empty_both [] b e = (refl, e)
empty_both (m ∷ a) b e = absurd cc

pub shallow_left : (a b : Marks) → Shallow (a ++ b) → Shallow a
shallow_left [] b h = tt
shallow_left (m ∷ a) b h = (h.0, shallow_left a b h.1)

shallow_right : (a b : Marks) → Shallow (a ++ b) → Shallow b
shallow_right [] b h = h
shallow_right (m ∷ a) b h = shallow_right a b h.1

-- ---- what comes after a token

abbrev pub rest_of : Answer → List Lexeme
rest_of (Read x k) = k
rest_of (Wrong k) = k
rest_of (Deep k) = k

abbrev pub Past : List Lexeme → Answer → Type 0
Past r s = length (rest_of s) ≤ length r

pub past_sound : (d : ℕ) (P : Tree → Type 0) (ts : List Lexeme) (s : Answer) → Sound d P ts s → Past ts s
past_sound d P ts (Read x k) h = omega (arith, ap length h.prefix, length-append (words (marks d x)) k)
past_sound d P ts (Wrong k) h = omega (arith, ap length h.prefix, length-append (words h.before) k)
past_sound d P ts (Deep k) h = omega (arith, ap length h.prefix, length-append (words h.before) k)

past_bind : (r : List Lexeme) (s : Answer) (f : Tree → List Lexeme → Answer) → ((x : Tree) (k : List Lexeme) → Past k (f x k)) → Past r s → Past r (bind s f)
past_bind r (Read x k) f all h = omega (arith, all x k)
past_bind r (Wrong k) f all h = h
past_bind r (Deep k) f all h = h

-- The token h with mark e comes before r: a shallow one is passed, a deep one is answered.
pub record Meets (e : ℕ) (h : Lexeme) (r : List Lexeme) (s : Answer) : Type 0 where
  pub passes : e ≤ most_openings → Past r s
  pub stops : most_openings < e → s ≡ Deep (h ∷ r)

meets_bind : (e : ℕ) (h : Lexeme) (r : List Lexeme) (s : Answer) (f : Tree → List Lexeme → Answer) → ((x : Tree) (k : List Lexeme) → Past k (f x k)) → Meets e h r s → Meets e h r (bind s f)
meets_bind e h r s f all m = record { passes = λ le. past_bind r s f all (m.passes le); stops = λ lt. ap (λ (x : Answer). bind x f) (m.stops lt) }

meets_is : (e : ℕ) (h : Lexeme) (r : List Lexeme) (s s2 : Answer) → s ≡ s2 → Meets e h r s2 → Meets e h r s
meets_is e h r s s2 i m = subst (λ (x : Answer). Meets e h r x) (sym i) m

module _ (inside : Place → Rule) (st : Place → Lexeme → Bool) where
  pub none_of : (x : Tree) (a : Rule) (d : ℕ) → Fits inside x a → marks d x ≡ [] → is_nullable a ≡ true
  none_of Nothing Empty d h e = refl
  none_of (Leaf t) (One s) d h e = absurd cc
  none_of (Pair x y) (Then a b) d h e = let b2 = empty_both (marks d x) (marks d y) e in and_from (is_nullable a) (is_nullable b) (none_of x a d h.0 b2.0) (none_of y b d h.1 b2.1)
  none_of (Left x) (Or a b) d h e = or_left (is_nullable a) (is_nullable b) (none_of x a d h e)
  none_of (Right y) (Or a b) d h e = or_right (is_nullable a) (is_nullable b) (none_of y b d h e)
  none_of End (Many a) d h e = refl
  none_of (More x more) (Many a) d h e = refl
  none_of (Nest t x) (Open s p) d h e = absurd cc
  none_of _ _ d h e = absurd h

  first_then : (a b : Rule) (mx my : Marks) (m : Lexeme × ℕ) (q : Marks) → ((n : Lexeme × ℕ) (r : Marks) → mx ≡ n ∷ r → first a n.0 ≡ true) → (mx ≡ [] → is_nullable a ≡ true) → ((n : Lexeme × ℕ) (r : Marks) → my ≡ n ∷ r → first b n.0 ≡ true) → mx ++ my ≡ m ∷ q → (first a m.0 || (is_nullable a && first b m.0)) ≡ true
  first_then a b [] my m q f n g e = or_right (first a m.0) (is_nullable a && first b m.0) (and_from (is_nullable a) (first b m.0) (n refl) (g m q e))
  first_then a b (x ∷ mx) my m q f n g e =
      let i : x ≡ m = cc in
      or_left (first a m.0) (is_nullable a && first b m.0) (f m mx (ap (λ (y : Lexeme × ℕ). y ∷ mx) i))

  first_many : (a : Rule) (mx my : Marks) (m : Lexeme × ℕ) (q : Marks) → ((n : Lexeme × ℕ) (r : Marks) → mx ≡ n ∷ r → first a n.0 ≡ true) → ((n : Lexeme × ℕ) (r : Marks) → my ≡ n ∷ r → first a n.0 ≡ true) → mx ++ my ≡ m ∷ q → first a m.0 ≡ true
  first_many a [] my m q f g e = g m q e
  first_many a (x ∷ mx) my m q f g e = let i : x ≡ m = cc in f m mx (ap (λ (y : Lexeme × ℕ). y ∷ mx) i)

  pub first_of : (x : Tree) (a : Rule) (d : ℕ) → Fits inside x a → (m : Lexeme × ℕ) (q : Marks) → marks d x ≡ m ∷ q → first a m.0 ≡ true
  first_of Nothing Empty d h m q e = absurd cc
  first_of (Leaf t) (One s) d h m q e = let i : (t, d) ≡ m = cc in subst (λ (y : Lexeme × ℕ). is_of s y.0 ≡ true) i h
  first_of (Pair x y) (Then a b) d h m q e = first_then a b (marks d x) (marks d y) m q (first_of x a d h.0) (none_of x a d h.0) (first_of y b d h.1) e
  first_of (Left x) (Or a b) d h m q e = or_left (first a m.0) (first b m.0) (first_of x a d h m q e)
  first_of (Right y) (Or a b) d h m q e = or_right (first a m.0) (first b m.0) (first_of y b d h m q e)
  first_of End (Many a) d h m q e = absurd cc
  first_of (More x more) (Many a) d h m q e = first_many a (marks d x) (marks d more) m q (first_of x a d h.0) (first_of more (Many a) d h.1) e
  first_of (Nest t x) (Open s p) d h m q e = let i : (t, suc d) ≡ m = cc in subst (λ (y : Lexeme × ℕ). is_of s y.0 ≡ true) i h.0
  first_of _ _ d h m q e = absurd h

  -- ---- a tree is read

  stops_at : (a : Rule) (k : List Lexeme) (my : Marks) → (my ≡ [] → Stops st a k) → ((n : Lexeme × ℕ) (r : Marks) → my ≡ n ∷ r → goes_on st a n.0 ≡ false) → Stops st a (words my ++ k)
  stops_at a k [] f g = f refl
  stops_at a k (m ∷ my) f g = g m my refl

  stops_then : (a b : Rule) (k : List Lexeme) → Stops st (Then a b) k → Stops st b k
  stops_then a b [] h = tt
  stops_then a b (t ∷ k) h = (or_parts (goes_on st b t) (is_nullable b && goes_on st a t) h).0

  stops_over : (a b : Rule) (k : List Lexeme) → Stops st (Then a b) k → is_nullable b ≡ true → Stops st a k
  stops_over a b [] h n = tt
  stops_over a b (t ∷ k) h n = and_false (is_nullable b) (goes_on st a t) n (or_parts (goes_on st b t) (is_nullable b && goes_on st a t) h).1

  stops_first : (a b : Rule) (d : ℕ) (y : Tree) (k : List Lexeme) → Apart (goes_on st a) (first b) → Fits inside y b → (is_nullable b ≡ true → Stops st a k) → Stops st a (words (marks d y) ++ k)
  stops_first a b d y k ap_ h n = stops_at a k (marks d y) (λ e. n (none_of y b d h e)) (λ m q e. false_from_ne_true (goes_on st a m.0) (λ g. ap_ m.0 g (first_of y b d h m q e)))

  stops_many : (a : Rule) (k : List Lexeme) → Stops st (Many a) k → Stops st a k
  stops_many a [] h = tt
  stops_many a (t ∷ k) h = (or_parts (first a t) (goes_on st a t) h).1

  starts_many : (a : Rule) (k : List Lexeme) → Stops st (Many a) k → starts a k ≡ false
  starts_many a [] h = refl
  starts_many a (t ∷ k) h = (or_parts (first a t) (goes_on st a t) h).0

  stops_left : (a b : Rule) (k : List Lexeme) → Stops st (Or a b) k → Stops st a k
  stops_left a b [] h = tt
  stops_left a b (t ∷ k) h = (or_parts (goes_on st a t) (goes_on st b t || (is_nullable b && first a t)) h).0

  stops_right : (a b : Rule) (k : List Lexeme) → Stops st (Or a b) k → Stops st b k
  stops_right a b [] h = tt
  stops_right a b (t ∷ k) h = (or_parts (goes_on st b t) (is_nullable b && first a t) (or_parts (goes_on st a t) (goes_on st b t || (is_nullable b && first a t)) h).1).0

  starts_right : (a b : Rule) (k : List Lexeme) → Stops st (Or a b) k → is_nullable b ≡ true → starts a k ≡ false
  starts_right a b [] h n = refl
  starts_right a b (t ∷ k) h n = and_false (is_nullable b) (first a t) n (or_parts (goes_on st b t) (is_nullable b && first a t) (or_parts (goes_on st a t) (goes_on st b t || (is_nullable b && first a t)) h).1).1

  -- a text that begins with the marks of a tree that isn't empty
  starts_with : (a : Rule) (k : List Lexeme) (mx : Marks) → (mx ≡ [] → ⊥) → ((m : Lexeme × ℕ) (q : Marks) → mx ≡ m ∷ q → first a m.0 ≡ true) → starts a (words mx ++ k) ≡ true
  starts_with a k [] n f = absurd (n refl)
  starts_with a k (m ∷ mx) n f = f m mx refl

  starts_not : (a : Rule) (k : List Lexeme) (mx : Marks) → (mx ≡ [] → starts a k ≡ false) → ((m : Lexeme × ℕ) (q : Marks) → mx ≡ m ∷ q → first a m.0 ≡ false) → starts a (words mx ++ k) ≡ false
  starts_not a k [] n f = n refl
  starts_not a k (m ∷ mx) n f = f m mx refl

  pub never_none : (x : Tree) (a : Rule) (d : ℕ) → Fits inside x a → is_nullable a ≡ false → marks d x ≡ [] → ⊥
  never_none x a d h n e = let i = none_of x a d h e in cc

  pub longer : (k : List Lexeme) (mx : Marks) → (mx ≡ [] → ⊥) → length k < length (words mx ++ k)
  longer k [] n = absurd (n refl)
  longer k (m ∷ mx) n = omega (arith, length-append (words mx) k)

  regroup : (mx my : Marks) (k : List Lexeme) → words (mx ++ my) ++ k ≡ words mx ++ (words my ++ k)
  regroup mx my k = ap (λ (w : List Lexeme). w ++ k) (words-append mx my) ∙ append_assoc (words mx) (words my) k

  -- how a rule is read that a parser f reads
  abbrev pub Reads : ℕ → Rule → (List Lexeme → Answer) → Type 0
  Reads d a f = (x : Tree) → Fits inside x a → Shallow (marks d x) → (k : List Lexeme) → Stops st a k → f (words (marks d x) ++ k) ≡ Read x k

  many_reads : (d : ℕ) (a : Rule) (f : List Lexeme → Answer) → Reads d a f → is_nullable a ≡ false → Apart (goes_on st a) (first a) → (n : ℕ) (x : Tree) → Fits inside x (Many a) → Shallow (marks d x) → (k : List Lexeme) → Stops st (Many a) k → length (words (marks d x) ++ k) ≤ n → read_many f a n (words (marks d x) ++ k) ≡ Read x k
  many_reads d a f all nn apart zero End h s k stop le = refl
  many_reads d a f all nn apart (suc n) End h s k stop le = cond-false (starts a k) (bind (f k) (λ x k3. bind (read_many f a n k3) (λ more k2. Read (More x more) k2))) (Read End k) (starts_many a k stop)
  many_reads d a f all nn apart zero (More x more) h s k stop le =
      let g = longer (words (marks d more) ++ k) (marks d x) (never_none x a d h.0 nn) in
      absurd (omega (arith, g, ap length (regroup (marks d x) (marks d more) k)))
  many_reads d a f all nn apart (suc n) (More x more) h s k stop le =
      let rest : List Lexeme = words (marks d more) ++ k in
      let ts : List Lexeme = words (marks d x ++ marks d more) ++ k in
      let i : ts ≡ words (marks d x) ++ rest = regroup (marks d x) (marks d more) k in
      let st1 : starts a ts ≡ true = ap (λ (w : List Lexeme). starts a w) i ∙ starts_with a rest (marks d x) (never_none x a d h.0 nn) (first_of x a d h.0) in
      let g : length rest < length (words (marks d x) ++ rest) = longer rest (marks d x) (never_none x a d h.0 nn) in
      let stop1 : Stops st a rest = stops_first a (Many a) d more k apart h.1 (λ _. stops_many a k stop) in
      let e1 : f ts ≡ Read x rest = ap f i ∙ all x h.0 (shallow_left (marks d x) (marks d more) s) rest stop1 in
      let e2 : read_many f a n rest ≡ Read more k = many_reads d a f all nn apart n more h.1 (shallow_right (marks d x) (marks d more) s) k stop (omega (arith, ap length i)) in
      cond-true (starts a ts) (bind (f ts) (λ x2 k3. bind (read_many f a n k3) (λ more2 k2. Read (More x2 more2) k2))) (Read End ts) st1
      ∙ ap (λ (w : Answer). bind w (λ x2 k3. bind (read_many f a n k3) (λ more2 k2. Read (More x2 more2) k2))) e1
      ∙ ap (λ (w : Answer). bind w (λ more2 k2. Read (More x more2) k2)) e2
  many_reads d a f all nn apart _ _ h s k stop le = absurd h

  abbrev pub ReadsIn : ℕ → Deeper → Type 0
  ReadsIn d No = d ≡ most_openings
  ReadsIn d (Yes f) = (p : Place) → Reads (suc d) (inside p) (f p)

  go_in_reads : (d : ℕ) (g : Deeper) → ReadsIn d g → (p : Place) (t : Lexeme) (x : Tree) → Fits inside x (inside p) → Shallow ((t, suc d) ∷ marks (suc d) x) → (k : List Lexeme) → Stops st (inside p) k → enter_place g p t (words (marks (suc d) x) ++ k) ≡ Read (Nest t x) k
  go_in_reads d No r p t x h s k stop = absurd (omega (arith, s.0))
  go_in_reads d (Yes f) r p t x h s k stop = ap (λ (w : Answer). bind w (λ y k2. Read (Nest t y) k2)) (r p x h s.1 k stop)

  -- what holds of the places
  abbrev pub Stretches : Type 0
  Stretches = (p : Place) (t : Lexeme) → goes_on st (inside p) t ≡ true → st p t ≡ true

  stops_in : Stretches → (s : Sort) (p : Place) (k : List Lexeme) → Stops st (Open s p) k → Stops st (inside p) k
  stops_in all s p [] h = tt
  stops_in all s p (t ∷ k) h = false_from_ne_true (goes_on st (inside p) t) (λ g. let i = all p t g in cc)

  pub reads_with : Stretches → (d : ℕ) (g : Deeper) → ReadsIn d g → (a : Rule) → Good st a → Reads d a (λ ts. parse_with g a ts)
  reads_with wide d g r Empty good Nothing h s k stop = refl
  reads_with wide d g r (One o) good (Leaf t) h s k stop = cond-true (is_of o t) (Read (Leaf t) k) (Wrong (t ∷ k)) h
  reads_with wide d g r (Then a b) good (Pair x y) h s k stop =
      let rest : List Lexeme = words (marks d y) ++ k in
      let ts : List Lexeme = words (marks d x ++ marks d y) ++ k in
      let i : ts ≡ words (marks d x) ++ rest = regroup (marks d x) (marks d y) k in
      let stop1 : Stops st a rest = stops_first a b d y k good.2 h.1 (λ n. stops_over a b k stop n) in
      let e1 : parse_with g a ts ≡ Read x rest = ap (λ (w : List Lexeme). parse_with g a w) i ∙ reads_with wide d g r a good.0 x h.0 (shallow_left (marks d x) (marks d y) s) rest stop1 in
      let e2 : parse_with g b rest ≡ Read y k = reads_with wide d g r b good.1 y h.1 (shallow_right (marks d x) (marks d y) s) k (stops_then a b k stop) in
      ap (λ (w : Answer). bind w (λ x2 k3. bind (parse_with g b k3) (λ y2 k2. Read (Pair x2 y2) k2))) e1
      ∙ ap (λ (w : Answer). bind w (λ y2 k2. Read (Pair x y2) k2)) e2
  reads_with wide d g r (Or a b) good (Left x) h s k stop =
      let ts : List Lexeme = words (marks d x) ++ k in
      cond-true (starts a ts) (bind (parse_with g a ts) (λ x2 k2. Read (Left x2) k2)) (bind (parse_with g b ts) (λ y2 k2. Read (Right y2) k2)) (starts_with a k (marks d x) (never_none x a d h good.2) (first_of x a d h))
      ∙ ap (λ (w : Answer). bind w (λ x2 k2. Read (Left x2) k2)) (reads_with wide d g r a good.0 x h s k (stops_left a b k stop))
  reads_with wide d g r (Or a b) good (Right y) h s k stop =
      let ts : List Lexeme = words (marks d y) ++ k in
      cond-false (starts a ts) (bind (parse_with g a ts) (λ x2 k2. Read (Left x2) k2)) (bind (parse_with g b ts) (λ y2 k2. Read (Right y2) k2)) (starts_not a k (marks d y) (λ e. starts_right a b k stop (none_of y b d h e)) (λ m q e. false_from_ne_true (first a m.0) (λ f. good.3 m.0 f (first_of y b d h m q e))))
      ∙ ap (λ (w : Answer). bind w (λ x2 k2. Read (Right x2) k2)) (reads_with wide d g r b good.1 y h s k (stops_right a b k stop))
  reads_with wide d g r (Many a) good x h s k stop = many_reads d a (λ ts. parse_with g a ts) (reads_with wide d g r a good.0) good.1 good.2 (length (words (marks d x) ++ k)) x h s k stop (omega arith)
  reads_with wide d g r (Open o p) good (Nest t x) h s k stop =
      cond-true (is_of o t) (enter_place g p t (words (marks (suc d) x) ++ k)) (Wrong (t ∷ (words (marks (suc d) x) ++ k))) h.0
      ∙ go_in_reads d g r p t x h.1 s k (stops_in wide o p k stop)
  reads_with wide d g r _ good _ h s k stop = absurd h

  pub deeper_reads : Stretches → ((p : Place) → Good st (inside p)) → (n d : ℕ) → n + d ≡ most_openings → ReadsIn d (deeper inside n)
  deeper_reads wide all zero d e = omega arith
  deeper_reads wide all (suc n) d e = λ p. reads_with wide (suc d) (deeper inside n) (deeper_reads wide all n (suc d) (omega arith)) (inside p) (all p)

  -- ---- a token that some tree has is passed

  stops_begun : (a : Rule) (i h : Marks) (r : List Lexeme) (my : Marks) (m : Lexeme × ℕ) (q : Marks) → my ≡ i ++ (m ∷ q) → ((n : Lexeme × ℕ) (s : Marks) → my ≡ n ∷ s → goes_on st a n.0 ≡ false) → Stops st a (words i ++ (m.0 ∷ r))
  stops_begun a [] h r my m q e f = f m q e
  stops_begun a (n ∷ i) h r my m q e f = f n (i ++ (m ∷ q)) e

  starts_begun : (a : Rule) (b : Bool) (i : Marks) (r : List Lexeme) (my : Marks) (m : Lexeme × ℕ) (q : Marks) → my ≡ i ++ (m ∷ q) → ((n : Lexeme × ℕ) (s : Marks) → my ≡ n ∷ s → first a n.0 ≡ b) → starts a (words i ++ (m.0 ∷ r)) ≡ b
  starts_begun a b [] r my m q e f = f m q e
  starts_begun a b (n ∷ i) r my m q e f = f n (i ++ (m ∷ q)) e

  abbrev pub Meeting : ℕ → Rule → (List Lexeme → Answer) → Type 0
  Meeting d a f = (x : Tree) → Fits inside x a → (p : Marks) (m : Lexeme × ℕ) (q : Marks) → marks d x ≡ p ++ (m ∷ q) → Shallow p → (r : List Lexeme) → Meets m.1 m.0 r (f (words p ++ (m.0 ∷ r)))

  past_mk : (d : ℕ) (b : Rule) (f : List Lexeme → Answer) (mk : Tree → Tree) → ((ts : List Lexeme) → Sound d (Is inside b) ts (f ts)) → (k : List Lexeme) → Past k (bind (f k) (λ y k2. Read (mk y) k2))
  past_mk d b f mk all k = past_bind k (f k) (λ y k2. Read (mk y) k2) (λ y k2. omega arith) (past_sound d (Is inside b) k (f k) (all k))

  -- one part after another: the token is in the first or in the second
  pair_meets : (d : ℕ) (a b : Rule) (mk : Tree → Tree → Tree) (f f2 : List Lexeme → Answer)
      → Reads d a f → Meeting d a f → ((ts : List Lexeme) → Sound d (Is inside b) ts (f2 ts)) → Apart (goes_on st a) (first b)
      → (x y : Tree) → Fits inside x a → Fits inside y b
      → (p : Marks) (m : Lexeme × ℕ) (q : Marks) → marks d x ++ marks d y ≡ p ++ (m ∷ q) → Shallow p → (r : List Lexeme)
      → ((i : Marks) → p ≡ marks d x ++ i → marks d y ≡ i ++ (m ∷ q) → Shallow i → Meets m.1 m.0 r (f2 (words i ++ (m.0 ∷ r))))
      → Meets m.1 m.0 r (bind (f (words p ++ (m.0 ∷ r))) (λ x2 k3. bind (f2 k3) (λ y2 k2. Read (mk x2 y2) k2)))
  pair_meets d a b mk f f2 rd mt snd apart x y hx hy p m q e s r ih =
      elim (split (marks d x) (marks d y) p q m e) [
        | inl i ↦ meets_bind m.1 m.0 r (f (words p ++ (m.0 ∷ r))) (λ x2 k3. bind (f2 k3) (λ y2 k2. Read (mk x2 y2) k2)) (λ x2 k. past_mk d b f2 (mk x2) snd k) (mt x hx p m i.0 i.1 s r)
        | inr i ↦
            let rest : List Lexeme = words i.0 ++ (m.0 ∷ r) in
            let ts : List Lexeme = words p ++ (m.0 ∷ r) in
            let s2 : Shallow (marks d x ++ i.0) = subst Shallow i.1 s in
            let j : ts ≡ words (marks d x) ++ rest = ap (λ (w : Marks). words w ++ (m.0 ∷ r)) i.1 ∙ regroup (marks d x) i.0 (m.0 ∷ r) in
            let stop : Stops st a rest = stops_begun a i.0 [] r (marks d y) m q i.2 (λ n t g. false_from_ne_true (goes_on st a n.0) (λ go. apart n.0 go (first_of y b d hy n t g))) in
            let e1 : f ts ≡ Read x rest = ap f j ∙ rd x hx (shallow_left (marks d x) i.0 s2) rest stop in
            meets_is m.1 m.0 r (bind (f ts) (λ x2 k3. bind (f2 k3) (λ y2 k2. Read (mk x2 y2) k2))) (bind (f2 rest) (λ y2 k2. Read (mk x y2) k2))
            (ap (λ (w : Answer). bind w (λ x2 k3. bind (f2 k3) (λ y2 k2. Read (mk x2 y2) k2))) e1)
            (meets_bind m.1 m.0 r (f2 rest) (λ y2 k2. Read (mk x y2) k2) (λ y2 k2. omega arith) (ih i.0 i.1 i.2 (shallow_right (marks d x) i.0 s2)))
      ]

  shorter : (mx p i : Marks) (t : List Lexeme) (n : ℕ) → p ≡ mx ++ i → (mx ≡ [] → ⊥) → length (words p ++ t) ≤ suc n → length (words i ++ t) ≤ n
  shorter mx p i t n j ne le =
      let g = longer (words i ++ t) mx ne in
      omega (arith, g, ap (λ (w : Marks). length (words w ++ t)) j, ap length (regroup mx i t))

  many_meets : (d : ℕ) (a : Rule) (f : List Lexeme → Answer) → Reads d a f → Meeting d a f → ((ts : List Lexeme) → Sound d (Is inside a) ts (f ts)) → is_nullable a ≡ false → Apart (goes_on st a) (first a)
      → (n : ℕ) (x : Tree) → Fits inside x (Many a) → (p : Marks) (m : Lexeme × ℕ) (q : Marks) → marks d x ≡ p ++ (m ∷ q) → Shallow p → (r : List Lexeme) → length (words p ++ (m.0 ∷ r)) ≤ n → Meets m.1 m.0 r (read_many f a n (words p ++ (m.0 ∷ r)))
  many_meets d a f rd mt snd nn apart n End h [] m q e s r le = absurd cc
  many_meets d a f rd mt snd nn apart n End h (l ∷ p) m q e s r le = absurd cc
  many_meets d a f rd mt snd nn apart zero (More x more) h p m q e s r le = absurd (omega (arith, length-append (words p) (m.0 ∷ r)))
  many_meets d a f rd mt snd nn apart (suc n) (More x more) h p m q e s r le =
      let ts : List Lexeme = words p ++ (m.0 ∷ r) in
      let st1 : starts a ts ≡ true = starts_begun a true p r (marks d (More x more)) m q e (λ l t g. first_of (More x more) (Many a) d h l t g) in
      meets_is m.1 m.0 r (read_many f a (suc n) ts) (bind (f ts) (λ x2 k3. bind (read_many f a n k3) (λ more2 k2. Read (More x2 more2) k2)))
      (cond-true (starts a ts) (bind (f ts) (λ x2 k3. bind (read_many f a n k3) (λ more2 k2. Read (More x2 more2) k2))) (Read End ts) st1)
      (pair_meets d a (Many a) More f (λ k. read_many f a n k) rd mt (λ k. many_sound inside d a f snd n k) apart x more h.0 h.1 p m q e s r
      (λ i j g s2. many_meets d a f rd mt snd nn apart n more h.1 i m q g s2 r (shorter (marks d x) p i (m.0 ∷ r) n j (never_none x a d h.0 nn) le)))
  many_meets d a f rd mt snd nn apart n _ h p m q e s r le = absurd h

  abbrev pub MeetsIn : ℕ → Deeper → Type 0
  MeetsIn d No = d ≡ most_openings
  MeetsIn d (Yes f) = (d < most_openings) × ((p : Place) (ts : List Lexeme) → Sound (suc d) (Is inside (inside p)) ts (f p ts)) × ((p : Place) → Meeting (suc d) (inside p) (f p))

  open_meets : (d : ℕ) (g : Deeper) → MeetsIn d g → (o : Sort) (l : Place) (t : Lexeme) (x : Tree) → is_of o t ≡ true → Fits inside x (inside l) → (p : Marks) (m : Lexeme × ℕ) (q : Marks) → ((t, suc d) ∷ marks (suc d) x) ≡ p ++ (m ∷ q) → Shallow p → (r : List Lexeme) → Meets m.1 m.0 r (opening g o l (words p ++ (m.0 ∷ r)))
  open_meets d No k o l t x i h [] m q e s r =
      let j : (t, suc d) ≡ m = cc in
      subst (λ (w : Lexeme × ℕ). Meets w.1 w.0 r (opening No o l (w.0 ∷ r))) j
      (meets_is (suc d) t r (opening No o l (t ∷ r)) (Deep (t ∷ r)) (cond-true (is_of o t) (Deep (t ∷ r)) (Wrong (t ∷ r)) i) (record { passes = λ le. absurd (omega arith); stops = λ lt. refl }))
  open_meets d No k o l t x i h (n ∷ p) m q e s r = let j : (t, suc d) ≡ n = cc in absurd (omega (arith, ap (λ (w : Lexeme × ℕ). w.1) j, s.0))
  open_meets d (Yes f) k o l t x i h [] m q e s r =
      let j : (t, suc d) ≡ m = cc in
      subst (λ (w : Lexeme × ℕ). Meets w.1 w.0 r (opening (Yes f) o l (w.0 ∷ r))) j
      (meets_is (suc d) t r (opening (Yes f) o l (t ∷ r)) (bind (f l r) (λ y k2. Read (Nest t y) k2)) (cond-true (is_of o t) (bind (f l r) (λ y k2. Read (Nest t y) k2)) (Wrong (t ∷ r)) i)
      (record { passes = λ le. past_mk (suc d) (inside l) (f l) (λ y. Nest t y) (k.1 l) r; stops = λ lt. absurd (omega (arith, k.0)) }))
  open_meets d (Yes f) k o l t x i h (n ∷ p) m q e s r =
      let j : (t, suc d) ≡ n = cc in
      let j2 : marks (suc d) x ≡ p ++ (m ∷ q) = cc in
      let us : List Lexeme = words p ++ (m.0 ∷ r) in
      subst (λ (w : Lexeme × ℕ). Meets m.1 m.0 r (opening (Yes f) o l (w.0 ∷ us))) j
      (meets_is m.1 m.0 r (opening (Yes f) o l (t ∷ us)) (bind (f l us) (λ y k2. Read (Nest t y) k2)) (cond-true (is_of o t) (bind (f l us) (λ y k2. Read (Nest t y) k2)) (Wrong (t ∷ us)) i)
      (meets_bind m.1 m.0 r (f l us) (λ y k2. Read (Nest t y) k2) (λ y k2. omega arith) (k.2 l x h p m q j2 s.1 r)))

  pub meets_with : Stretches → (d : ℕ) (g : Deeper) → SoundIn inside d g → ReadsIn d g → MeetsIn d g → (a : Rule) → Ends inside a → Good st a → Meeting d a (λ ts. parse_with g a ts)
  meets_with wide d g so rd mt Empty en good Nothing h [] m q e s r = absurd cc
  meets_with wide d g so rd mt Empty en good Nothing h (n ∷ p) m q e s r = absurd cc
  meets_with wide d g so rd mt (One o) en good (Leaf t) h [] m q e s r =
      let j : (t, d) ≡ m = cc in
      subst (λ (w : Lexeme × ℕ). Meets w.1 w.0 r (one o (w.0 ∷ r))) j
      (meets_is d t r (one o (t ∷ r)) (Read (Leaf t) r) (cond-true (is_of o t) (Read (Leaf t) r) (Wrong (t ∷ r)) h) (record { passes = λ le. omega arith; stops = λ lt. absurd (omega (arith, depth_in inside d g so)) }))
  meets_with wide d g so rd mt (One o) en good (Leaf t) h (n ∷ []) m q e s r = absurd cc
  meets_with wide d g so rd mt (One o) en good (Leaf t) h (n ∷ n2 ∷ p) m q e s r = absurd cc
  meets_with wide d g so rd mt (Then a b) en good (Pair x y) h p m q e s r =
      pair_meets d a b Pair (λ ts. parse_with g a ts) (λ ts. parse_with g b ts) (reads_with wide d g rd a good.0) (meets_with wide d g so rd mt a en.0 good.0) (λ ts. sound_with inside d g so b en.1 ts) good.2 x y h.0 h.1 p m q e s r
      (λ i j k s2. meets_with wide d g so rd mt b en.1 good.1 y h.1 i m q k s2 r)
  meets_with wide d g so rd mt (Or a b) en good (Left x) h p m q e s r =
      let ts : List Lexeme = words p ++ (m.0 ∷ r) in
      let st1 : starts a ts ≡ true = starts_begun a true p r (marks d x) m q e (λ l t k. first_of x a d h l t k) in
      meets_is m.1 m.0 r (parse_with g (Or a b) ts) (bind (parse_with g a ts) (λ x2 k2. Read (Left x2) k2)) (cond-true (starts a ts) (bind (parse_with g a ts) (λ x2 k2. Read (Left x2) k2)) (bind (parse_with g b ts) (λ y2 k2. Read (Right y2) k2)) st1)
      (meets_bind m.1 m.0 r (parse_with g a ts) (λ x2 k2. Read (Left x2) k2) (λ y k2. omega arith) (meets_with wide d g so rd mt a en.0 good.0 x h p m q e s r))
  meets_with wide d g so rd mt (Or a b) en good (Right y) h p m q e s r =
      let ts : List Lexeme = words p ++ (m.0 ∷ r) in
      let st1 : starts a ts ≡ false = starts_begun a false p r (marks d y) m q e (λ l t k. false_from_ne_true (first a l.0) (λ f. good.3 l.0 f (first_of y b d h l t k))) in
      meets_is m.1 m.0 r (parse_with g (Or a b) ts) (bind (parse_with g b ts) (λ x2 k2. Read (Right x2) k2)) (cond-false (starts a ts) (bind (parse_with g a ts) (λ x2 k2. Read (Left x2) k2)) (bind (parse_with g b ts) (λ y2 k2. Read (Right y2) k2)) st1)
      (meets_bind m.1 m.0 r (parse_with g b ts) (λ x2 k2. Read (Right x2) k2) (λ y k2. omega arith) (meets_with wide d g so rd mt b en.1 good.1 y h p m q e s r))
  meets_with wide d g so rd mt (Many a) en good x h p m q e s r =
      many_meets d a (λ ts. parse_with g a ts) (reads_with wide d g rd a good.0) (meets_with wide d g so rd mt a en good.0) (λ ts. sound_with inside d g so a en ts) good.1 good.2 (length (words p ++ (m.0 ∷ r))) x h p m q e s r (omega arith)
  meets_with wide d g so rd mt (Open o l) en good (Nest t x) h p m q e s r = open_meets d g mt o l t x h.0 h.1 p m q e s r
  meets_with wide d g so rd mt _ en good _ h p m q e s r = absurd h

  pub deeper_meets : Stretches → ((p : Place) → Ends inside (inside p)) → ((p : Place) → Good st (inside p)) → (n d : ℕ) → n + d ≡ most_openings → MeetsIn d (deeper inside n)
  deeper_meets wide en all zero d e = omega arith
  deeper_meets wide en all (suc n) d e =
      let so = deeper_sound inside en n (suc d) (omega arith) in (
        omega arith,
        λ p ts. sound_with inside (suc d) (deeper inside n) so (inside p) (en p) ts,
        λ p. meets_with wide (suc d) (deeper inside n) so (deeper_reads wide all n (suc d) (omega arith)) (deeper_meets wide en all n (suc d) (omega arith)) (inside p) (en p) (all p),
      )
