-- The marks of a rule's trees, and rules whose trees have the same marks.
use Rattle.std.proofs.Common.{◌≡◌, ℕ, suc, ◌⊎◌, inl, inr, true, [], ◌∷◌, ◌++◌, refl, sym, ap, ap₂, ◌∙◌, append_assoc}
use Rattle.span_grammar.specs.declared.class.Lexeme.{Lexeme}
use Rattle.span_grammar.specs.declared.class.Sort.{Sort}
use Rattle.span_grammar.specs.declared.grammar.Place.{Place}
use Rattle.span_grammar.specs.Rules.{is_of, Rule, Empty, One, Then, Or, Many, Open, Tree, Nothing, Leaf, Pair, Left, Right, More, Nest, Marks, marks, Fits}

module _ (inside : Place → Rule) where
  -- a tree of the rule, with d openings around it, has these marks
  abbrev pub In : Rule → ℕ → Marks → Type 0
  In a d ms = (x : Tree) × Fits inside x a × (marks d x ≡ ms)

  pub moved : (a : Rule) (d : ℕ) (ms ns : Marks) → ms ≡ ns → In a d ms → In a d ns
  moved a d ms ns e h = (h.0, h.1, h.2 ∙ e)

  -- ---- what a rule's trees are made of

  pub record Two (a b : Rule) (d : ℕ) (ms : Marks) : Type 0 where
    pub left : Marks
    pub right : Marks
    pub first : In a d left
    pub second : In b d right
    pub parts : left ++ right ≡ ms

  two_at : (x : Tree) (a b : Rule) (d : ℕ) (ms : Marks) → Fits inside x (Then a b) → marks d x ≡ ms → Two a b d ms
  two_at (Pair x y) a b d ms h e = record { left = marks d x; right = marks d y; first = (x, h.0, refl); second = (y, h.1, refl); parts = e }
  two_at _ a b d ms h e = absurd h

  pub then_out : (a b : Rule) (d : ℕ) (ms : Marks) → In (Then a b) d ms → Two a b d ms
  then_out a b d ms h = two_at h.0 a b d ms h.1 h.2

  pub then_in : (a b : Rule) (d : ℕ) (u v : Marks) → In a d u → In b d v → In (Then a b) d (u ++ v)
  then_in a b d u v h i = (Pair h.0 i.0, (h.1, i.1), ap₂ (λ (p q : Marks). p ++ q) h.2 i.2)

  or_at : (x : Tree) (a b : Rule) (d : ℕ) (ms : Marks) → Fits inside x (Or a b) → marks d x ≡ ms → In a d ms ⊎ In b d ms
  or_at (Left x) a b d ms h e = inl (x, h, e)
  or_at (Right y) a b d ms h e = inr (y, h, e)
  or_at _ a b d ms h e = absurd h

  pub or_out : (a b : Rule) (d : ℕ) (ms : Marks) → In (Or a b) d ms → In a d ms ⊎ In b d ms
  or_out a b d ms h = or_at h.0 a b d ms h.1 h.2

  pub or_left : (a b : Rule) (d : ℕ) (ms : Marks) → In a d ms → In (Or a b) d ms
  or_left a b d ms h = (Left h.0, h.1, h.2)

  pub or_right : (a b : Rule) (d : ℕ) (ms : Marks) → In b d ms → In (Or a b) d ms
  or_right a b d ms h = (Right h.0, h.1, h.2)

  empty_at : (x : Tree) (d : ℕ) (ms : Marks) → Fits inside x Empty → marks d x ≡ ms → [] ≡ ms
  empty_at Nothing d ms h e = e
  empty_at _ d ms h e = absurd h

  pub empty_out : (d : ℕ) (ms : Marks) → In Empty d ms → [] ≡ ms
  empty_out d ms h = empty_at h.0 d ms h.1 h.2

  pub empty_in : (d : ℕ) → In Empty d []
  empty_in d = (Nothing, tt, refl)

  pub record Token (s : Sort) (d : ℕ) (ms : Marks) : Type 0 where
    pub lexeme : Lexeme
    pub is : is_of s lexeme ≡ true
    pub parts : (lexeme, d) ∷ [] ≡ ms

  token_at : (x : Tree) (s : Sort) (d : ℕ) (ms : Marks) → Fits inside x (One s) → marks d x ≡ ms → Token s d ms
  token_at (Leaf t) s d ms h e = record { lexeme = t; is = h; parts = e }
  token_at _ s d ms h e = absurd h

  pub one_out : (s : Sort) (d : ℕ) (ms : Marks) → In (One s) d ms → Token s d ms
  one_out s d ms h = token_at h.0 s d ms h.1 h.2

  pub one_in : (s : Sort) (d : ℕ) (t : Lexeme) → is_of s t ≡ true → In (One s) d ((t, d) ∷ [])
  one_in s d t h = (Leaf t, h, refl)

  pub record Opened (s : Sort) (p : Place) (d : ℕ) (ms : Marks) : Type 0 where
    pub lexeme : Lexeme
    pub is : is_of s lexeme ≡ true
    pub within : Marks
    pub has : In (inside p) (suc d) within
    pub parts : (lexeme, suc d) ∷ within ≡ ms

  opened_at : (x : Tree) (s : Sort) (p : Place) (d : ℕ) (ms : Marks) → Fits inside x (Open s p) → marks d x ≡ ms → Opened s p d ms
  opened_at (Nest t x) s p d ms h e = record { lexeme = t; is = h.0; within = marks (suc d) x; has = (x, h.1, refl); parts = e }
  opened_at _ s p d ms h e = absurd h

  pub open_out : (s : Sort) (p : Place) (d : ℕ) (ms : Marks) → In (Open s p) d ms → Opened s p d ms
  open_out s p d ms h = opened_at h.0 s p d ms h.1 h.2

  pub open_in : (s : Sort) (p : Place) (d : ℕ) (t : Lexeme) (ms : Marks) → is_of s t ≡ true → In (inside p) (suc d) ms → In (Open s p) d ((t, suc d) ∷ ms)
  open_in s p d t ms h i = (Nest t i.0, (h, i.1), ap (λ (w : Marks). (t, suc d) ∷ w) i.2)

  pub many_more : (a : Rule) (d : ℕ) (u v : Marks) → In a d u → In (Many a) d v → In (Many a) d (u ++ v)
  many_more a d u v h i = (More h.0 i.0, (h.1, i.1), ap₂ (λ (p q : Marks). p ++ q) h.2 i.2)

  -- ---- rules whose trees have the same marks

  pub record Equal (a b : Rule) : Type 0 where
    pub to : (d : ℕ) (ms : Marks) → In a d ms → In b d ms
    pub from : (d : ℕ) (ms : Marks) → In b d ms → In a d ms

  same : (a : Rule) → Equal a a
  same a = record { to = λ d ms h. h; from = λ d ms h. h }

  back : (a b : Rule) → Equal a b → Equal b a
  back a b e = record { to = e.from; from = e.to }

  next : (a b c : Rule) → Equal a b → Equal b c → Equal a c
  next a b c e f = record { to = λ d ms h. f.to d ms (e.to d ms h); from = λ d ms h. e.from d ms (f.from d ms h) }

  then_then : (a a2 b b2 : Rule) → Equal a a2 → Equal b b2 → Equal (Then a b) (Then a2 b2)
  then_then a a2 b b2 e f = record {
    to = λ d ms h. let s = then_out a b d ms h in moved (Then a2 b2) d (s.left ++ s.right) ms s.parts (then_in a2 b2 d s.left s.right (e.to d s.left s.first) (f.to d s.right s.second));
    from = λ d ms h. let s = then_out a2 b2 d ms h in moved (Then a b) d (s.left ++ s.right) ms s.parts (then_in a b d s.left s.right (e.from d s.left s.first) (f.from d s.right s.second));
  }

  or_or : (a a2 b b2 : Rule) → Equal a a2 → Equal b b2 → Equal (Or a b) (Or a2 b2)
  or_or a a2 b b2 e f = record {
    to = λ d ms h. elim (or_out a b d ms h) [ inl i ↦ or_left a2 b2 d ms (e.to d ms i) | inr i ↦ or_right a2 b2 d ms (f.to d ms i) ];
    from = λ d ms h. elim (or_out a2 b2 d ms h) [ inl i ↦ or_left a b d ms (e.from d ms i) | inr i ↦ or_right a b d ms (f.from d ms i) ];
  }

  -- a (b c) is (a b) c
  pub then_assoc : (a b c : Rule) → Equal (Then a (Then b c)) (Then (Then a b) c)
  then_assoc a b c = record {
    to = λ d ms h.
        let s = then_out a (Then b c) d ms h in
        let t = then_out b c d s.right s.second in
        moved (Then (Then a b) c) d ((s.left ++ t.left) ++ t.right) ms (append_assoc s.left t.left t.right ∙ ap (λ (w : Marks). s.left ++ w) t.parts ∙ s.parts)
        (then_in (Then a b) c d (s.left ++ t.left) t.right (then_in a b d s.left t.left s.first t.first) t.second);
    from = λ d ms h.
        let s = then_out (Then a b) c d ms h in
        let t = then_out a b d s.left s.first in
        moved (Then a (Then b c)) d (t.left ++ (t.right ++ s.right)) ms (sym (append_assoc t.left t.right s.right) ∙ ap (λ (w : Marks). w ++ s.right) t.parts ∙ s.parts)
        (then_in a (Then b c) d t.left (t.right ++ s.right) t.first (then_in b c d t.right s.right t.second s.second));
  }

  pub then_assoc_four : (a b c e r : Rule) → Equal (Then a (Then b (Then c (Then e r)))) (Then (Then a (Then b (Then c e))) r)
  then_assoc_four a b c e r =
      let i = then_then a a (Then b (Then c (Then e r))) (Then b (Then (Then c e) r)) (same a) (then_then b b (Then c (Then e r)) (Then (Then c e) r) (same b) (then_assoc c e r)) in
      let j = then_then a a (Then b (Then (Then c e) r)) (Then (Then b (Then c e)) r) (same a) (then_assoc b (Then c e) r) in
      next (Then a (Then b (Then c (Then e r)))) (Then a (Then b (Then (Then c e) r))) (Then (Then a (Then b (Then c e))) r) i
      (next (Then a (Then b (Then (Then c e) r))) (Then a (Then (Then b (Then c e)) r)) (Then (Then a (Then b (Then c e))) r) j (then_assoc a (Then b (Then c e)) r))

  -- a | (b | c) is (a | b) | c
  or_assoc : (a b c : Rule) → Equal (Or a (Or b c)) (Or (Or a b) c)
  or_assoc a b c = record {
    to = λ d ms h. elim (or_out a (Or b c) d ms h) [
      | inl i ↦ or_left (Or a b) c d ms (or_left a b d ms i)
      | inr i ↦ elim (or_out b c d ms i) [ inl j ↦ or_left (Or a b) c d ms (or_right a b d ms j) | inr j ↦ or_right (Or a b) c d ms j ]
    ];
    from = λ d ms h. elim (or_out (Or a b) c d ms h) [
      | inl i ↦ elim (or_out a b d ms i) [ inl j ↦ or_left a (Or b c) d ms j | inr j ↦ or_right a (Or b c) d ms (or_left b c d ms j) ]
      | inr i ↦ or_right a (Or b c) d ms (or_right b c d ms i)
    ];
  }

  -- a | (b | c) is b | (a | c)
  pub or_swap : (a b c : Rule) → Equal (Or a (Or b c)) (Or b (Or a c))
  or_swap a b c = record { to = swapped a b c; from = swapped b a c }
    where
      swapped : (a b c : Rule) (d : ℕ) (ms : Marks) → In (Or a (Or b c)) d ms → In (Or b (Or a c)) d ms
      swapped a b c d ms h = elim (or_out a (Or b c) d ms h) [
        | inl i ↦ or_right b (Or a c) d ms (or_left a c d ms i)
        | inr i ↦ elim (or_out b c d ms i) [ inl j ↦ or_left b (Or a c) d ms j | inr j ↦ or_right b (Or a c) d ms (or_right a c d ms j) ]
      ]

  -- [a] b is a b | b
  pub option_first : (a b : Rule) → Equal (Then (Or a Empty) b) (Or (Then a b) b)
  option_first a b = record {
    to = λ d ms h.
        let s = then_out (Or a Empty) b d ms h in
        elim (or_out a Empty d s.left s.first) [
          | inl i ↦ or_left (Then a b) b d ms (moved (Then a b) d (s.left ++ s.right) ms s.parts (then_in a b d s.left s.right i s.second))
          | inr i ↦ or_right (Then a b) b d ms (moved b d s.right ms (ap (λ (w : Marks). w ++ s.right) (empty_out d s.left i) ∙ s.parts) s.second)
        ];
    from = λ d ms h. elim (or_out (Then a b) b d ms h) [
      | inl i ↦ (let s = then_out a b d ms i in moved (Then (Or a Empty) b) d (s.left ++ s.right) ms s.parts (then_in (Or a Empty) b d s.left s.right (or_left a Empty d s.left s.first) s.second))
      | inr i ↦ then_in (Or a Empty) b d [] ms (or_right a Empty d [] (empty_in d)) i
    ];
  }

  -- [a] b | c is a b | b | c
  pub or_option : (a b c : Rule) → Equal (Or (Then (Or a Empty) b) c) (Or (Then a b) (Or b c))
  or_option a b c =
      next (Or (Then (Or a Empty) b) c) (Or (Or (Then a b) b) c) (Or (Then a b) (Or b c))
      (or_or (Then (Or a Empty) b) (Or (Then a b) b) c c (option_first a b) (same c)) (back (Or (Then a b) (Or b c)) (Or (Or (Then a b) b) c) (or_assoc (Then a b) b c))

  -- m a | m b is m (a | b)
  taken_out : (m a b : Rule) → Equal (Or (Then m a) (Then m b)) (Then m (Or a b))
  taken_out m a b = record {
    to = λ d ms h. elim (or_out (Then m a) (Then m b) d ms h) [
      | inl i ↦ (let s = then_out m a d ms i in moved (Then m (Or a b)) d (s.left ++ s.right) ms s.parts (then_in m (Or a b) d s.left s.right s.first (or_left a b d s.right s.second)))
      | inr i ↦ (let s = then_out m b d ms i in moved (Then m (Or a b)) d (s.left ++ s.right) ms s.parts (then_in m (Or a b) d s.left s.right s.first (or_right a b d s.right s.second)))
    ];
    from = λ d ms h.
        let s = then_out m (Or a b) d ms h in
        elim (or_out a b d s.right s.second) [
          | inl i ↦ or_left (Then m a) (Then m b) d ms (moved (Then m a) d (s.left ++ s.right) ms s.parts (then_in m a d s.left s.right s.first i))
          | inr i ↦ or_right (Then m a) (Then m b) d ms (moved (Then m b) d (s.left ++ s.right) ms s.parts (then_in m b d s.left s.right s.first i))
        ];
  }

  two_taken_out : (m a b r : Rule) → Equal (Or (Then m a) (Or (Then m b) r)) (Or (Then m (Or a b)) r)
  two_taken_out m a b r =
      next (Or (Then m a) (Or (Then m b) r)) (Or (Or (Then m a) (Then m b)) r) (Or (Then m (Or a b)) r) (or_assoc (Then m a) (Then m b) r)
      (or_or (Or (Then m a) (Then m b)) (Then m (Or a b)) r r (taken_out m a b) (same r))

  -- m a | m b | m c | r is m (a | b | c) | r
  pub three_taken_out : (m a b c r : Rule) → Equal (Or (Then m a) (Or (Then m b) (Or (Then m c) r))) (Or (Then m (Or a (Or b c))) r)
  three_taken_out m a b c r =
      next (Or (Then m a) (Or (Then m b) (Or (Then m c) r))) (Or (Then m a) (Or (Then m (Or b c)) r)) (Or (Then m (Or a (Or b c))) r)
      (or_or (Then m a) (Then m a) (Or (Then m b) (Or (Then m c) r)) (Or (Then m (Or b c)) r) (same (Then m a)) (two_taken_out m b c r)) (two_taken_out m a (Or b c) r)

  -- n q | (n | i) g | r is n (g | q) | i g | r
  pub first_taken_out : (n q i g r : Rule) → Equal (Or (Then n q) (Or (Then (Or n i) g) r)) (Or (Then n (Or g q)) (Or (Then i g) r))
  first_taken_out n q i g r = record {
    to = λ d ms h. elim (or_out (Then n q) (Or (Then (Or n i) g) r) d ms h) [
      | inl j ↦ (let s = then_out n q d ms j in left_of d ms (s.left ++ s.right) s.parts (then_in n (Or g q) d s.left s.right s.first (or_right g q d s.right s.second)))
      | inr j ↦ elim (or_out (Then (Or n i) g) r d ms j) [
        | inl k ↦ (let s = then_out (Or n i) g d ms k in elim (or_out n i d s.left s.first) [
          | inl l ↦ left_of d ms (s.left ++ s.right) s.parts (then_in n (Or g q) d s.left s.right l (or_left g q d s.right s.second))
          | inr l ↦ or_right (Then n (Or g q)) (Or (Then i g) r) d ms (or_left (Then i g) r d ms (moved (Then i g) d (s.left ++ s.right) ms s.parts (then_in i g d s.left s.right l s.second)))
        ])
        | inr k ↦ or_right (Then n (Or g q)) (Or (Then i g) r) d ms (or_right (Then i g) r d ms k)
      ]
    ];
    from = λ d ms h. elim (or_out (Then n (Or g q)) (Or (Then i g) r) d ms h) [
      | inl j ↦ (let s = then_out n (Or g q) d ms j in elim (or_out g q d s.right s.second) [
        | inl k ↦ middle_of d ms (s.left ++ s.right) s.parts (then_in (Or n i) g d s.left s.right (or_left n i d s.left s.first) k)
        | inr k ↦ or_left (Then n q) (Or (Then (Or n i) g) r) d ms (moved (Then n q) d (s.left ++ s.right) ms s.parts (then_in n q d s.left s.right s.first k))
      ])
      | inr j ↦ elim (or_out (Then i g) r d ms j) [
        | inl k ↦ (let s = then_out i g d ms k in middle_of d ms (s.left ++ s.right) s.parts (then_in (Or n i) g d s.left s.right (or_right n i d s.left s.first) s.second))
        | inr k ↦ or_right (Then n q) (Or (Then (Or n i) g) r) d ms (or_right (Then (Or n i) g) r d ms k)
      ]
    ];
  }
    where
      left_of : (d : ℕ) (ms ns : Marks) → ns ≡ ms → In (Then n (Or g q)) d ns → In (Or (Then n (Or g q)) (Or (Then i g) r)) d ms
      left_of d ms ns e h = or_left (Then n (Or g q)) (Or (Then i g) r) d ms (moved (Then n (Or g q)) d ns ms e h)

      middle_of : (d : ℕ) (ms ns : Marks) → ns ≡ ms → In (Then (Or n i) g) d ns → In (Or (Then n q) (Or (Then (Or n i) g) r)) d ms
      middle_of d ms ns e h = or_right (Then n q) (Or (Then (Or n i) g) r) d ms (or_left (Then (Or n i) g) r d ms (moved (Then (Or n i) g) d ns ms e h))
