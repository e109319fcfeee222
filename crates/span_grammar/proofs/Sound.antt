-- What is read is a tree of the rule; up to an error, some tree still goes on.
use Rattle.std.proofs.Common.{◌≡◌, ℕ, zero, suc, ◌+◌, ◌<◌, ◌≤◌, Bool, true, false, List, [], ◌∷◌, ◌++◌, length, refl, sym, ap, subst, ◌∙◌, append_assoc, arith}
use Rattle.std.specs.Prelude.{if◌then◌else◌}
use Rattle.span_grammar.specs.declared.class.Lexeme.{Lexeme}
use Rattle.span_grammar.specs.declared.class.Sort.{Sort}
use Rattle.span_grammar.specs.declared.grammar.Place.{Place}
use Rattle.span_grammar.specs.Rules.{is_of, Rule, Empty, One, Then, Or, Many, Open, Tree, Nothing, Leaf, Pair, Left, Right, End, More, Nest, Marks, marks, words, most_openings, Shallow, Fits, Answer, Read, Wrong, Deep, bind, starts, read_many, one, Deeper, No, Yes, enter_place, opening, parse_with, deeper, parse}

pub words-append : (a b : Marks) → words (a ++ b) ≡ words a ++ words b
words-append [] b = refl
words-append (m ∷ a) b = ap (λ (w : List Lexeme). m.0 ∷ w) (words-append a b)

pub shallow-append : (a b : Marks) → Shallow a → Shallow b → Shallow (a ++ b)
shallow-append [] b p q = q
shallow-append (m ∷ a) b p q = (p.0, shallow-append a b p.1 q)

pub record ReadAt (d : ℕ) (P : Tree → Type 0) (ts : List Lexeme) (x : Tree) (k : List Lexeme) : Type 0 where
  pub fits : P x
  pub prefix : ts ≡ words (marks d x) ++ k
  pub shallow : Shallow (marks d x)

pub record WrongAt (d : ℕ) (P : Tree → Type 0) (ts k : List Lexeme) : Type 0 where
  pub tree : Tree
  pub before : Marks
  pub after : Marks
  pub fits : P tree
  pub parts : marks d tree ≡ before ++ after
  pub shallow : Shallow before
  pub prefix : ts ≡ words before ++ k

pub record DeepAt (d : ℕ) (P : Tree → Type 0) (ts k : List Lexeme) : Type 0 where
  pub tree : Tree
  pub before : Marks
  pub token : Lexeme
  pub depth : ℕ
  pub after : Marks
  pub rest : List Lexeme
  pub fits : P tree
  pub parts : marks d tree ≡ before ++ ((token, depth) ∷ after)
  pub shallow : Shallow before
  pub over : most_openings < depth
  pub prefix : ts ≡ words before ++ k
  pub is_front : k ≡ token ∷ rest

abbrev pub Sound : ℕ → (Tree → Type 0) → List Lexeme → Answer → Type 0
Sound d P ts (Read x k) = ReadAt d P ts x k
Sound d P ts (Wrong k) = WrongAt d P ts k
Sound d P ts (Deep k) = DeepAt d P ts k

-- ---- a part and a part

module _ (d : ℕ) (P Q R : Tree → Type 0) (mk : Tree → Tree → Tree) (joins : (x y : Tree) → marks d (mk x y) ≡ marks d x ++ marks d y) (fit : (x y : Tree) → P x → Q y → R (mk x y)) where
  wrong_first : (ts k : List Lexeme) (y : Tree) → Q y → WrongAt d P ts k → WrongAt d R ts k
  wrong_first ts k y q w = record {
    tree = mk w.tree y;
    before = w.before;
    after = w.after ++ marks d y;
    fits = fit w.tree y w.fits q;
    parts = joins w.tree y ∙ ap (λ (m : Marks). m ++ marks d y) w.parts ∙ append_assoc w.before w.after (marks d y);
    shallow = w.shallow;
    prefix = w.prefix;
  }

  deep_first : (ts k : List Lexeme) (y : Tree) → Q y → DeepAt d P ts k → DeepAt d R ts k
  deep_first ts k y q w = record {
    tree = mk w.tree y;
    before = w.before;
    token = w.token;
    depth = w.depth;
    rest = w.rest;
    after = w.after ++ marks d y;
    fits = fit w.tree y w.fits q;
    parts = joins w.tree y ∙ ap (λ (m : Marks). m ++ marks d y) w.parts ∙ append_assoc w.before ((w.token, w.depth) ∷ w.after) (marks d y);
    shallow = w.shallow;
    over = w.over;
    prefix = w.prefix;
    is_front = w.is_front;
  }

  front_after : (ts k k2 : List Lexeme) (x : Tree) (m : Marks) → ts ≡ words (marks d x) ++ k → k ≡ words m ++ k2 → ts ≡ words (marks d x ++ m) ++ k2
  front_after ts k k2 x m e f = e ∙ ap (λ (w : List Lexeme). words (marks d x) ++ w) f ∙ sym (append_assoc (words (marks d x)) (words m) k2) ∙ ap (λ (w : List Lexeme). w ++ k2) (sym (words-append (marks d x) m))

  wrong_second : (ts k k2 : List Lexeme) (x : Tree) → ReadAt d P ts x k → WrongAt d Q k k2 → WrongAt d R ts k2
  wrong_second ts k k2 x r w = record {
    tree = mk x w.tree;
    before = marks d x ++ w.before;
    after = w.after;
    fits = fit x w.tree r.fits w.fits;
    parts = joins x w.tree ∙ ap (λ (m : Marks). marks d x ++ m) w.parts ∙ sym (append_assoc (marks d x) w.before w.after);
    shallow = shallow-append (marks d x) w.before r.shallow w.shallow;
    prefix = front_after ts k k2 x w.before r.prefix w.prefix;
  }

  deep_second : (ts k k2 : List Lexeme) (x : Tree) → ReadAt d P ts x k → DeepAt d Q k k2 → DeepAt d R ts k2
  deep_second ts k k2 x r w = record {
    tree = mk x w.tree;
    before = marks d x ++ w.before;
    token = w.token;
    depth = w.depth;
    rest = w.rest;
    after = w.after;
    fits = fit x w.tree r.fits w.fits;
    parts = joins x w.tree ∙ ap (λ (m : Marks). marks d x ++ m) w.parts ∙ sym (append_assoc (marks d x) w.before ((w.token, w.depth) ∷ w.after));
    shallow = shallow-append (marks d x) w.before r.shallow w.shallow;
    over = w.over;
    prefix = front_after ts k k2 x w.before r.prefix w.prefix;
    is_front = w.is_front;
  }

  read_both : (ts k k2 : List Lexeme) (x y : Tree) → ReadAt d P ts x k → ReadAt d Q k y k2 → ReadAt d R ts (mk x y) k2
  read_both ts k k2 x y r w = record {
    fits = fit x y r.fits w.fits;
    prefix = subst (λ (m : Marks). ts ≡ words m ++ k2) (sym (joins x y)) (front_after ts k k2 x (marks d y) r.prefix w.prefix);
    shallow = subst Shallow (sym (joins x y)) (shallow-append (marks d x) (marks d y) r.shallow w.shallow);
  }

  second_sound : (ts k : List Lexeme) (x : Tree) (r : ReadAt d P ts x k) (s : Answer) → Sound d Q k s → Sound d R ts (bind s (λ y k2. Read (mk x y) k2))
  second_sound ts k x r (Read y k2) h = read_both ts k k2 x y r h
  second_sound ts k x r (Wrong k2) h = wrong_second ts k k2 x r h
  second_sound ts k x r (Deep k2) h = deep_second ts k k2 x r h

  both_sound : (ts : List Lexeme) (y : Tree) → Q y → (s : Answer) → Sound d P ts s → (f : List Lexeme → Answer) → ((k : List Lexeme) → Sound d Q k (f k)) → Sound d R ts (bind s (λ x k. bind (f k) (λ y2 k2. Read (mk x y2) k2)))
  both_sound ts y q (Read x k) h f all = second_sound ts k x h (f k) (all k)
  both_sound ts y q (Wrong k) h f all = wrong_first ts k y q h
  both_sound ts y q (Deep k) h f all = deep_first ts k y q h

-- ---- one part under another tree of the same marks

module _ (d : ℕ) (P R : Tree → Type 0) (mk : Tree → Tree) (same : (x : Tree) → marks d (mk x) ≡ marks d x) (fit : (x : Tree) → P x → R (mk x)) where
  wrapped : (ts : List Lexeme) (s : Answer) → Sound d P ts s → Sound d R ts (bind s (λ x k. Read (mk x) k))
  wrapped ts (Read x k) h = record { fits = fit x h.fits; prefix = subst (λ (m : Marks). ts ≡ words m ++ k) (sym (same x)) h.prefix; shallow = subst Shallow (sym (same x)) h.shallow }
  wrapped ts (Wrong k) h = record { tree = mk h.tree; before = h.before; after = h.after; fits = fit h.tree h.fits; parts = same h.tree ∙ h.parts; shallow = h.shallow; prefix = h.prefix }
  wrapped ts (Deep k) h = record { tree = mk h.tree; before = h.before; token = h.token; depth = h.depth; rest = h.rest; after = h.after; fits = fit h.tree h.fits; parts = same h.tree ∙ h.parts; shallow = h.shallow; over = h.over; prefix = h.prefix; is_front = h.is_front }

pub choose : (d : ℕ) (P : Tree → Type 0) (ts : List Lexeme) (b : Bool) (x y : Answer) → Sound d P ts x → Sound d P ts y → Sound d P ts (if b then x else y)
choose d P ts true x y p q = p
choose d P ts false x y p q = q

module _ (inside : Place → Rule) where
  abbrev pub Is : Rule → Tree → Type 0
  Is a x = Fits inside x a

  -- some tree of the rule
  abbrev pub Has : Rule → Type 0
  Has a = (x : Tree) × Is a x

  -- what each rule needs so that what was begun can be ended
  abbrev pub Ends : Rule → Type 0
  Ends Empty = Unit {0}
  Ends (One s) = (t : Lexeme) × (is_of s t ≡ true)
  Ends (Then a b) = Ends a × Ends b × Has b
  Ends (Or a b) = Ends a × Ends b
  Ends (Many a) = Ends a
  Ends (Open s p) = ((t : Lexeme) × (is_of s t ≡ true)) × Has (inside p)

  empty_sound : (d : ℕ) (ts : List Lexeme) → Sound d (Is Empty) ts (Read Nothing ts)
  empty_sound d ts = record { fits = tt; prefix = refl; shallow = tt }

  wrong_here : (d : ℕ) (a : Rule) (ts : List Lexeme) → Has a → Sound d (Is a) ts (Wrong ts)
  wrong_here d a ts h = record { tree = h.0; before = []; after = marks d h.0; fits = h.1; parts = refl; shallow = tt; prefix = refl }

  one_at : (d : ℕ) (s : Sort) (t : Lexeme) (ts : List Lexeme) → d ≤ most_openings → Has (One s) → (b : Bool) → is_of s t ≡ b → Sound d (Is (One s)) (t ∷ ts) (if b then Read (Leaf t) ts else Wrong (t ∷ ts))
  one_at d s t ts le h true e = record { fits = e; prefix = refl; shallow = (le, tt) }
  one_at d s t ts le h false e = wrong_here d (One s) (t ∷ ts) h

  one_sound : (d : ℕ) (s : Sort) (ts : List Lexeme) → d ≤ most_openings → Has (One s) → Sound d (Is (One s)) ts (one s ts)
  one_sound d s [] le h = wrong_here d (One s) [] h
  one_sound d s (t ∷ ts) le h = one_at d s t ts le h (is_of s t) refl

  pub many_sound : (d : ℕ) (a : Rule) (f : List Lexeme → Answer) → ((ts : List Lexeme) → Sound d (Is a) ts (f ts)) → (n : ℕ) (ts : List Lexeme) → Sound d (Is (Many a)) ts (read_many f a n ts)
  many_sound d a f all zero ts = record { fits = tt; prefix = refl; shallow = tt }
  many_sound d a f all (suc n) ts =
      choose d (Is (Many a)) ts (starts a ts) (bind (f ts) (λ x k. bind (read_many f a n k) (λ more k2. Read (More x more) k2))) (Read End ts)
      (both_sound d (Is a) (Is (Many a)) (Is (Many a)) More (λ x y. refl) (λ x y p q. (p, q)) ts End tt (f ts) (all ts) (λ k. read_many f a n k) (λ k. many_sound d a f all n k))
      (record { fits = tt; prefix = refl; shallow = tt })

  -- what is known of the way in
  abbrev pub SoundIn : ℕ → Deeper → Type 0
  SoundIn d No = d ≡ most_openings
  SoundIn d (Yes f) = (d < most_openings) × ((p : Place) (ts : List Lexeme) → Sound (suc d) (Is (inside p)) ts (f p ts))

  nested : (d : ℕ) (s : Sort) (p : Place) (t : Lexeme) (ts : List Lexeme) → suc d ≤ most_openings → is_of s t ≡ true → (r : Answer) → Sound (suc d) (Is (inside p)) ts r → Sound d (Is (Open s p)) (t ∷ ts) (bind r (λ x k. Read (Nest t x) k))
  nested d s p t ts le e (Read x k) h = record { fits = (e, h.fits); prefix = ap (λ (w : List Lexeme). t ∷ w) h.prefix; shallow = (le, h.shallow) }
  nested d s p t ts le e (Wrong k) h = record { tree = Nest t h.tree; before = (t, suc d) ∷ h.before; after = h.after; fits = (e, h.fits); parts = ap (λ (m : Marks). (t, suc d) ∷ m) h.parts; shallow = (le, h.shallow); prefix = ap (λ (w : List Lexeme). t ∷ w) h.prefix }
  nested d s p t ts le e (Deep k) h = record { tree = Nest t h.tree; before = (t, suc d) ∷ h.before; token = h.token; depth = h.depth; rest = h.rest; after = h.after; fits = (e, h.fits); parts = ap (λ (m : Marks). (t, suc d) ∷ m) h.parts; shallow = (le, h.shallow); over = h.over; prefix = ap (λ (w : List Lexeme). t ∷ w) h.prefix; is_front = h.is_front }

  go_in_sound : (d : ℕ) (g : Deeper) → SoundIn d g → (s : Sort) (p : Place) (t : Lexeme) (ts : List Lexeme) → Has (inside p) → is_of s t ≡ true → Sound d (Is (Open s p)) (t ∷ ts) (enter_place g p t ts)
  go_in_sound d No k s p t ts h e = record { tree = Nest t h.0; before = []; token = t; depth = suc d; rest = ts; after = marks (suc d) h.0; fits = (e, h.1); parts = refl; shallow = tt; over = omega arith; prefix = refl; is_front = refl }
  go_in_sound d (Yes f) k s p t ts h e = nested d s p t ts (omega arith) e (f p ts) (k.1 p ts)

  open_at : (d : ℕ) (g : Deeper) → SoundIn d g → (s : Sort) (p : Place) (t : Lexeme) (ts : List Lexeme) → Has (inside p) → Has (Open s p) → (b : Bool) → is_of s t ≡ b → Sound d (Is (Open s p)) (t ∷ ts) (if b then enter_place g p t ts else Wrong (t ∷ ts))
  open_at d g k s p t ts h o true e = go_in_sound d g k s p t ts h e
  open_at d g k s p t ts h o false e = wrong_here d (Open s p) (t ∷ ts) o

  open_sound : (d : ℕ) (g : Deeper) → SoundIn d g → (s : Sort) (p : Place) (ts : List Lexeme) → Has (inside p) → Has (Open s p) → Sound d (Is (Open s p)) ts (opening g s p ts)
  open_sound d g k s p [] h o = wrong_here d (Open s p) [] o
  open_sound d g k s p (t ∷ ts) h o = open_at d g k s p t ts h o (is_of s t) refl

  pub depth_in : (d : ℕ) (g : Deeper) → SoundIn d g → d ≤ most_openings
  depth_in d No k = omega arith
  depth_in d (Yes f) k = omega arith

  pub sound_with : (d : ℕ) (g : Deeper) → SoundIn d g → (a : Rule) → Ends a → (ts : List Lexeme) → Sound d (Is a) ts (parse_with g a ts)
  sound_with d g k Empty e ts = empty_sound d ts
  sound_with d g k (One s) e ts = one_sound d s ts (depth_in d g k) (Leaf e.0, e.1)
  sound_with d g k (Then a b) e ts =
      both_sound d (Is a) (Is b) (Is (Then a b)) Pair (λ x y. refl) (λ x y p q. (p, q)) ts e.2.0 e.2.1 (parse_with g a ts) (sound_with d g k a e.0 ts) (λ us. parse_with g b us) (λ us. sound_with d g k b e.1 us)
  sound_with d g k (Or a b) e ts =
      choose d (Is (Or a b)) ts (starts a ts) _ _
      (wrapped d (Is a) (Is (Or a b)) Left (λ x. refl) (λ x h. h) ts (parse_with g a ts) (sound_with d g k a e.0 ts))
      (wrapped d (Is b) (Is (Or a b)) Right (λ x. refl) (λ x h. h) ts (parse_with g b ts) (sound_with d g k b e.1 ts))
  sound_with d g k (Many a) e ts = many_sound d a (λ us. parse_with g a us) (λ us. sound_with d g k a e us) (length ts) ts
  sound_with d g k (Open s p) e ts = open_sound d g k s p ts e.1 (Nest e.0.0 e.1.0, (e.0.1, e.1.1))

  pub deeper_sound : (all : (p : Place) → Ends (inside p)) (n d : ℕ) → n + d ≡ most_openings → SoundIn d (deeper inside n)
  deeper_sound all zero d e = omega arith
  deeper_sound all (suc n) d e = (omega arith, λ p ts. sound_with (suc d) (deeper inside n) (deeper_sound all n (suc d) (omega arith)) (inside p) (all p) ts)

  pub parse_sound : (all : (p : Place) → Ends (inside p)) (n d : ℕ) → n + d ≡ most_openings → (a : Rule) → Ends a → (ts : List Lexeme) → Sound d (Is a) ts (parse inside n a ts)
  parse_sound all n d e a h ts = sound_with d (deeper inside n) (deeper_sound all n d e) a h ts
