-- How each shape of part is read, step by step.
use Rattle.std.proofs.Common.{◌≡◌, ℕ, zero, suc, ◌-◌, ◌<◌, ◌≤◌, Bool, true, false, List, [], ◌∷◌, length, refl, sym, ap, subst, ◌∙◌, arith, Ok, Err}
use Rattle.std.specs.Prelude.{if◌then◌else◌, ◌||◌, ◌&&◌}
use Rattle.std.proofs.lemmas.Bool.{cond-true, cond-false}
use Rattle.span_grammar.specs.declared.class.Class.{Class}
use Rattle.span_grammar.specs.declared.class.Lexeme.{Lexeme}
use Rattle.span_grammar.specs.declared.class.Sort.{Sort}
use Rattle.span_grammar.specs.declared.grammar.Part.{Part}
use Rattle.span_grammar.specs.declared.grammar.Place.{Place}
use Rattle.span_grammar.specs.declared.grammar.Shape.{Shape}
use Rattle.span_grammar.specs.declared.grammar.Shape.TheVariants as shape
use Rattle.span_grammar.specs.declared.reader.Stop.{Stop}
use Rattle.span_grammar.specs.declared.reader.Stop.TheVariants as stop
use Rattle.span_grammar.specs.Rules.{is_class, is_of, of_class, Rule, Empty, One, Then, Or, Many, Open, Tree, Leaf, Pair, Left, Right, End, More, Nest, marks, most_openings, Answer, Read, Wrong, Deep, bind, is_nullable, first, starts, read_many, one, Deeper, No, enter_place, opening, deeper, parse}
use Rattle.span_grammar.specs.Shapes.{shape_of, part_inside}
use Rattle.span_grammar.specs.Grammar.{inside, rule_of}
use Rattle.span_grammar.specs.Reading.{ReadResult, read_result, part_read, sort_read}
use Rattle.span_grammar.proofs.Shaped.{IsShaped, shaped, inside_is}
use Rattle.span_grammar.proofs.Follow.{never_none, longer}
use Rattle.span_grammar.proofs.Sound.{Is, Sound, parse_sound}
use Rattle.span_grammar.proofs.Ending.{ends, inside_ends}
use Rattle.span_grammar.proofs.Repeated.{repeated_full}
use Rattle.span_grammar.proofs.Ranks.{rank, IsAbove, above, rank_small}

-- ---- a part and its rule

rule_is : (p : Part) (s : Shape) → s ≡ shape_of p → IsShaped (rule_of p) s
rule_is p s h = subst (IsShaped (rule_of p)) (sym h) (shaped p)

rank_is : (p : Part) (s : Shape) → s ≡ shape_of p → IsAbove (rank p) s
rank_is p s h = subst (IsAbove (rank p)) (sym h) (above p)

pub below_first_then : (p a b : Part) → shape.Then a b ≡ shape_of p → rank a < rank p
below_first_then p a b h = (rank_is p (shape.Then a b) h).0

pub below_second_then : (p a b : Part) → shape.Then a b ≡ shape_of p → rank b < rank p
below_second_then p a b h = (rank_is p (shape.Then a b) h).1

pub below_first_or : (p a b : Part) → shape.Or a b ≡ shape_of p → rank a < rank p
below_first_or p a b h = (rank_is p (shape.Or a b) h).0

pub below_second_or : (p a b : Part) → shape.Or a b ≡ shape_of p → rank b < rank p
below_second_or p a b h = (rank_is p (shape.Or a b) h).1

pub below_many : (p a : Part) → shape.Many a ≡ shape_of p → rank a < rank p
below_many p a h = rank_is p (shape.Many a) h

-- ---- nothing

pub nothing_empty : (p : Part) → shape.Empty ≡ shape_of p → is_nullable (rule_of p) ≡ true
nothing_empty p h = ap is_nullable (rule_is p shape.Empty h)

pub nothing_one : (p : Part) (s : Sort) → shape.One s ≡ shape_of p → is_nullable (rule_of p) ≡ false
nothing_one p s h = ap is_nullable (rule_is p (shape.One s) h)

pub nothing_then : (p a b : Part) → shape.Then a b ≡ shape_of p → is_nullable (rule_of p) ≡ (is_nullable (rule_of a) && is_nullable (rule_of b))
nothing_then p a b h = ap is_nullable (rule_is p (shape.Then a b) h)

pub nothing_or : (p a b : Part) → shape.Or a b ≡ shape_of p → is_nullable (rule_of p) ≡ (is_nullable (rule_of a) || is_nullable (rule_of b))
nothing_or p a b h = ap is_nullable (rule_is p (shape.Or a b) h)

pub nothing_many : (p a : Part) → shape.Many a ≡ shape_of p → is_nullable (rule_of p) ≡ true
nothing_many p a h = ap is_nullable (rule_is p (shape.Many a) h)

pub nothing_open : (p : Part) (s : Sort) (l : Place) → shape.Open s l ≡ shape_of p → is_nullable (rule_of p) ≡ false
nothing_open p s l h = ap is_nullable (rule_is p (shape.Open s l) h)

pub ruleset nothing_steps = (nothing_empty, nothing_one, nothing_then, nothing_or, nothing_many, nothing_open, below_first_then, below_second_then, below_first_or, below_second_or)

-- ---- beginnings

pub begin_empty : (p : Part) (t : Class) → shape.Empty ≡ shape_of p → first (rule_of p) (of_class t) ≡ false
begin_empty p t h = ap (λ (r : Rule). first r (of_class t)) (rule_is p shape.Empty h)

pub begin_one : (p : Part) (t : Class) (s : Sort) → shape.One s ≡ shape_of p → first (rule_of p) (of_class t) ≡ is_class s t
begin_one p t s h = ap (λ (r : Rule). first r (of_class t)) (rule_is p (shape.One s) h)

pub begin_then : (p : Part) (t : Class) (a b : Part) → shape.Then a b ≡ shape_of p → first (rule_of p) (of_class t) ≡ (first (rule_of a) (of_class t) || (is_nullable (rule_of a) && first (rule_of b) (of_class t)))
begin_then p t a b h = ap (λ (r : Rule). first r (of_class t)) (rule_is p (shape.Then a b) h)

pub begin_or : (p : Part) (t : Class) (a b : Part) → shape.Or a b ≡ shape_of p → first (rule_of p) (of_class t) ≡ (first (rule_of a) (of_class t) || first (rule_of b) (of_class t))
begin_or p t a b h = ap (λ (r : Rule). first r (of_class t)) (rule_is p (shape.Or a b) h)

pub begin_many : (p : Part) (t : Class) (a : Part) → shape.Many a ≡ shape_of p → first (rule_of p) (of_class t) ≡ first (rule_of a) (of_class t)
begin_many p t a h = ap (λ (r : Rule). first r (of_class t)) (rule_is p (shape.Many a) h)

pub begin_open : (p : Part) (t : Class) (s : Sort) (l : Place) → shape.Open s l ≡ shape_of p → first (rule_of p) (of_class t) ≡ is_class s t
begin_open p t s l h = ap (λ (r : Rule). first r (of_class t)) (rule_is p (shape.Open s l) h)

-- the class decides
by_class : (r : Rule) (t : Lexeme) → first r t ≡ first r (of_class t.class)
by_class Empty t = refl
by_class (One s) t = refl
by_class (Then a b) t = ap (λ v. v || (is_nullable a && first b t)) (by_class a t) ∙ ap (λ v. first a (of_class t.class) || (is_nullable a && v)) (by_class b t)
by_class (Or a b) t = ap (λ v. v || first b t) (by_class a t) ∙ ap (λ v. first a (of_class t.class) || v) (by_class b t)
by_class (Many a) t = by_class a t
by_class (Open s p) t = refl

pub starts_by : (p : Part) (ws ts : List Lexeme) (t : Lexeme) (b : Bool) → ws ≡ t ∷ ts → b ≡ first (rule_of p) (of_class t.class) → b ≡ starts (rule_of p) ws
starts_by p ws ts t b e h = h ∙ sym (by_class (rule_of p) t) ∙ sym (ap (starts (rule_of p)) e)

pub ruleset begin_steps = (begin_empty, begin_one, begin_then, begin_or, begin_many, begin_open, below_first_then, below_second_then, below_first_or, below_second_or, below_many)

-- ---- reading

by_rule : (n : ℕ) (p : Part) (r : Rule) (ts : List Lexeme) → rule_of p ≡ r → part_read n p ts ≡ read_result (parse inside n r ts)
unfolding part_read
by_rule n p r ts h = ap (λ (v : Rule). read_result (parse inside n v ts)) h

pub read_empty : (n : ℕ) (p : Part) (ts : List Lexeme) → shape.Empty ≡ shape_of p → part_read n p ts ≡ Ok ts
read_empty n p ts h = by_rule n p Empty ts (rule_is p shape.Empty h)

one_outcome : (s : Sort) (ts : List Lexeme) → read_result (one s ts) ≡ sort_read s ts
unfolding sort_read
one_outcome s [] = refl
one_outcome s (t ∷ ts) = elim (is_of s t) as (λ v. read_result (if v then Read (Leaf t) ts else Wrong (t ∷ ts)) ≡ (if v then Ok ts else Err stop.Syntax)) [ true ↦ refl | false ↦ refl ]

pub read_one : (n : ℕ) (p : Part) (s : Sort) (ts : List Lexeme) → shape.One s ≡ shape_of p → part_read n p ts ≡ sort_read s ts
read_one n p s ts h = by_rule n p (One s) ts (rule_is p (shape.One s) h) ∙ one_outcome s ts

-- what is built from what was read does not change the rest
kept : (mk : Tree → Tree) (s : Answer) → read_result (bind s (λ y k. Read (mk y) k)) ≡ read_result s
kept mk (Read x k) = refl
kept mk (Wrong k) = refl
kept mk (Deep k) = refl

ok_is : (x y : List Lexeme) → (let r : ReadResult = Ok x in r) ≡ Ok y → x ≡ y
ok_is x y e = cc

bind_ok : (s : Answer) (k : List Lexeme) (f : Tree → List Lexeme → Answer) (g : List Lexeme → ReadResult) → ((x : Tree) (j : List Lexeme) → read_result (f x j) ≡ g j) → read_result s ≡ Ok k → read_result (bind s f) ≡ g k
bind_ok (Read x j) k f g all e = all x j ∙ ap g (ok_is j k e)
bind_ok (Wrong j) k f g all e = absurd cc
bind_ok (Deep j) k f g all e = absurd cc

bind_err : (s : Answer) (e : Stop) (f : Tree → List Lexeme → Answer) → read_result s ≡ Err e → read_result (bind s f) ≡ Err e
bind_err (Read x j) e f h = absurd cc
bind_err (Wrong j) e f h = h
bind_err (Deep j) e f h = h

pub read_then_ok : (n : ℕ) (p a b : Part) (ts k : List Lexeme) → shape.Then a b ≡ shape_of p → part_read n a ts ≡ Ok k → part_read n p ts ≡ part_read n b k
unfolding part_read
read_then_ok n p a b ts k h i =
    by_rule n p (Then (rule_of a) (rule_of b)) ts (rule_is p (shape.Then a b) h)
    ∙ bind_ok (parse inside n (rule_of a) ts) k _ (λ j. read_result (parse inside n (rule_of b) j)) (λ x j. kept (λ y. Pair x y) (parse inside n (rule_of b) j)) i

pub read_then_err : (n : ℕ) (p a b : Part) (ts : List Lexeme) (e : Stop) → shape.Then a b ≡ shape_of p → part_read n a ts ≡ Err e → part_read n p ts ≡ Err e
unfolding part_read
read_then_err n p a b ts e h i = by_rule n p (Then (rule_of a) (rule_of b)) ts (rule_is p (shape.Then a b) h) ∙ bind_err (parse inside n (rule_of a) ts) e _ i

pub read_or_first : (n : ℕ) (p a b : Part) (ts : List Lexeme) → shape.Or a b ≡ shape_of p → starts (rule_of a) ts ≡ true → part_read n p ts ≡ part_read n a ts
unfolding part_read
read_or_first n p a b ts h i =
    by_rule n p (Or (rule_of a) (rule_of b)) ts (rule_is p (shape.Or a b) h) ∙ ap read_result (cond-true (starts (rule_of a) ts) (bind (parse inside n (rule_of a) ts) (λ x k. Read (Left x) k)) (bind (parse inside n (rule_of b) ts) (λ y k. Read (Right y) k)) i) ∙ kept Left (parse inside n (rule_of a) ts)

pub read_or_second : (n : ℕ) (p a b : Part) (ts : List Lexeme) → shape.Or a b ≡ shape_of p → starts (rule_of a) ts ≡ false → part_read n p ts ≡ part_read n b ts
unfolding part_read
read_or_second n p a b ts h i =
    by_rule n p (Or (rule_of a) (rule_of b)) ts (rule_is p (shape.Or a b) h) ∙ ap read_result (cond-false (starts (rule_of a) ts) (bind (parse inside n (rule_of a) ts) (λ x k. Read (Left x) k)) (bind (parse inside n (rule_of b) ts) (λ y k. Read (Right y) k)) i) ∙ kept Right (parse inside n (rule_of b) ts)

-- ---- many

abbrev once : (List Lexeme → Answer) → Rule → ℕ → List Lexeme → Answer
once f a n ts = bind (f ts) (λ x k. bind (read_many f a n k) (λ more k2. Read (More x more) k2))

grows : (s e : Answer) (b : Bool) (F G : List Lexeme → Answer) → ((x : Tree) (k : List Lexeme) → s ≡ Read x k → F k ≡ G k)
    → (if b then bind s (λ x k. bind (F k) (λ more k2. Read (More x more) k2)) else e) ≡ (if b then bind s (λ x k. bind (G k) (λ more k2. Read (More x more) k2)) else e)
grows s e false F G all = refl
grows (Read x k) e true F G all = ap (λ (w : Answer). bind w (λ more k2. Read (More x more) k2)) (all x k refl)
grows (Wrong k) e true F G all = refl
grows (Deep k) e true F G all = refl

many_fuel : (a : Rule) (f : List Lexeme → Answer) → ((ts k : List Lexeme) (x : Tree) → f ts ≡ Read x k → length k < length ts) → (n m : ℕ) (ts : List Lexeme) → length ts ≤ n → length ts ≤ m → read_many f a n ts ≡ read_many f a m ts
many_fuel a f sh zero zero ts p q = refl
many_fuel a f sh zero (suc m) [] p q = refl
many_fuel a f sh zero (suc m) (t ∷ ts) p q = absurd (omega arith)
many_fuel a f sh (suc n) zero [] p q = refl
many_fuel a f sh (suc n) zero (t ∷ ts) p q = absurd (omega arith)
many_fuel a f sh (suc n) (suc m) ts p q =
    grows (f ts) (Read End ts) (starts a ts) (λ k. read_many f a n k) (λ k. read_many f a m k) (λ x k i. let g = sh ts k x i in many_fuel a f sh n m k (omega (arith, g)) (omega (arith, g)))

pub shrinks : (n : ℕ) (a : Part) → is_nullable (rule_of a) ≡ false → n ≤ most_openings → (ts k : List Lexeme) (x : Tree) → parse inside n (rule_of a) ts ≡ Read x k → length k < length ts
shrinks n a full le ts k x h =
    let r = subst (λ (w : Answer). Sound (most_openings - n) (Is inside (rule_of a)) ts w) h (parse_sound inside inside_ends n (most_openings - n) (omega arith) (rule_of a) (ends a) ts) in
    let g = longer inside (λ p t. false) k (marks (most_openings - n) x) (never_none inside (λ p t. false) x (rule_of a) (most_openings - n) r.fits full) in
    omega (arith, g, ap length r.prefix)

shrinks_outcome : (n : ℕ) (a : Part) → is_nullable (rule_of a) ≡ false → n ≤ most_openings → (ts k : List Lexeme) (s : Answer) → parse inside n (rule_of a) ts ≡ s → read_result s ≡ Ok k → length k < length ts
shrinks_outcome n a full le ts k (Read x j) h e = let g = shrinks n a full le ts j x h in let i = ap length (ok_is j k e) in omega (arith, g, i)
shrinks_outcome n a full le ts k (Wrong j) h e = absurd cc
shrinks_outcome n a full le ts k (Deep j) h e = absurd cc

pub many_shorter : (n : ℕ) (p a : Part) (ts k : List Lexeme) → shape.Many a ≡ shape_of p → n ≤ most_openings → part_read n a ts ≡ Ok k → length k < length ts
unfolding part_read
many_shorter n p a ts k h le i = shrinks_outcome n a (repeated_full p a h) le ts k (parse inside n (rule_of a) ts) refl i

many_at : (n : ℕ) (p a : Part) (ts : List Lexeme) → shape.Many a ≡ shape_of p → part_read n p ts ≡ read_result (read_many (λ us. parse inside n (rule_of a) us) (rule_of a) (length ts) ts)
many_at n p a ts h = by_rule n p (Many (rule_of a)) ts (rule_is p (shape.Many a) h)

many_none : (f : List Lexeme → Answer) (a : Rule) (n : ℕ) (ts : List Lexeme) → starts a ts ≡ false → read_many f a n ts ≡ Read End ts
many_none f a zero ts h = refl
many_none f a (suc n) ts h = cond-false (starts a ts) (once f a n ts) (Read End ts) h

pub read_many_end : (n : ℕ) (p a : Part) (ts : List Lexeme) → shape.Many a ≡ shape_of p → starts (rule_of a) ts ≡ false → part_read n p ts ≡ Ok ts
read_many_end n p a ts h i = many_at n p a ts h ∙ ap read_result (many_none (λ us. parse inside n (rule_of a) us) (rule_of a) (length ts) ts i)

pub read_many_err : (n : ℕ) (p a : Part) (ts : List Lexeme) (e : Stop) → shape.Many a ≡ shape_of p → starts (rule_of a) ts ≡ true → part_read n a ts ≡ Err e → part_read n p ts ≡ Err e
unfolding part_read
read_many_err n p a [] e h i j = absurd cc
read_many_err n p a (t ∷ ts) e h i j =
    many_at n p a (t ∷ ts) h ∙ ap read_result (cond-true (starts (rule_of a) (t ∷ ts)) (once (λ us. parse inside n (rule_of a) us) (rule_of a) (length ts) (t ∷ ts)) (Read End (t ∷ ts)) i)
    ∙ bind_err (parse inside n (rule_of a) (t ∷ ts)) e _ j

pub read_many_ok : (n : ℕ) (p a : Part) (ts k : List Lexeme) → shape.Many a ≡ shape_of p → starts (rule_of a) ts ≡ true → part_read n a ts ≡ Ok k → n ≤ most_openings → part_read n p ts ≡ part_read n p k
unfolding part_read
read_many_ok n p a [] k h i j le = absurd cc
read_many_ok n p a (t ∷ ts) k h i j le =
    let f : List Lexeme → Answer = λ us. parse inside n (rule_of a) us in
    let full = repeated_full p a h in
    let short = many_shorter n p a (t ∷ ts) k h le j in
    many_at n p a (t ∷ ts) h ∙ ap read_result (cond-true (starts (rule_of a) (t ∷ ts)) (once f (rule_of a) (length ts) (t ∷ ts)) (Read End (t ∷ ts)) i)
    ∙ bind_ok (f (t ∷ ts)) k (λ x k3. bind (read_many f (rule_of a) (length ts) k3) (λ more k2. Read (More x more) k2)) (λ us. read_result (read_many f (rule_of a) (length ts) us)) (λ x us. kept (λ more. More x more) (read_many f (rule_of a) (length ts) us)) j
    ∙ ap read_result (many_fuel (rule_of a) f (λ us us2 x e. shrinks n a full le us us2 x e) (length ts) (length k) k (omega (arith, short)) (omega arith))
    ∙ sym (many_at n p a k h)

-- ---- openings

open_at : (n : ℕ) (p : Part) (s : Sort) (l : Place) (ts : List Lexeme) → shape.Open s l ≡ shape_of p → part_read n p ts ≡ read_result (opening (deeper inside n) s l ts)
open_at n p s l ts h = by_rule n p (Open s l) ts (rule_is p (shape.Open s l) h)

opening_err : (g : Deeper) (s : Sort) (l : Place) (ts : List Lexeme) (e : Stop) → sort_read s ts ≡ Err e → read_result (opening g s l ts) ≡ Err e
unfolding sort_read
opening_err g s l [] e h = h
opening_err g s l (t ∷ ts) e h =
    elim (is_of s t) as (λ v. (if v then Ok ts else Err stop.Syntax) ≡ Err e → read_result (if v then enter_place g l t ts else Wrong (t ∷ ts)) ≡ Err e) [ true ↦ λ i. absurd cc | false ↦ λ i. i ] h

opening_ok : (g : Deeper) (s : Sort) (l : Place) (ts k : List Lexeme) → sort_read s ts ≡ Ok k → (t : Lexeme) × (read_result (opening g s l ts) ≡ read_result (enter_place g l t k))
unfolding sort_read
opening_ok g s l [] k h = absurd cc
opening_ok g s l (t ∷ ts) k h = (
  t,
  elim (is_of s t) as (λ v. (if v then Ok ts else Err stop.Syntax) ≡ Ok k → read_result (if v then enter_place g l t ts else Wrong (t ∷ ts)) ≡ read_result (enter_place g l t k)) [
    | true ↦ λ i. ap (λ (w : List Lexeme). read_result (enter_place g l t w)) (ok_is ts k i)
    | false ↦ λ i. absurd cc
  ] h,
)

pub read_open_err : (n : ℕ) (p : Part) (s : Sort) (l : Place) (ts : List Lexeme) (e : Stop) → shape.Open s l ≡ shape_of p → sort_read s ts ≡ Err e → part_read n p ts ≡ Err e
read_open_err n p s l ts e h i = open_at n p s l ts h ∙ opening_err (deeper inside n) s l ts e i

pub read_open_deep : (n : ℕ) (p : Part) (s : Sort) (l : Place) (ts k : List Lexeme) → shape.Open s l ≡ shape_of p → sort_read s ts ≡ Ok k → n ≡ 0 → part_read n p ts ≡ Err stop.TooDeep
read_open_deep zero p s l ts k h i z = open_at 0 p s l ts h ∙ (opening_ok No s l ts k i).1
read_open_deep (suc n) p s l ts k h i z = absurd cc

pub read_open_in : (n : ℕ) (p q : Part) (s : Sort) (l : Place) (ts k : List Lexeme) → shape.Open s l ≡ shape_of p → sort_read s ts ≡ Ok k → 0 < n → q ≡ part_inside l → part_read n p ts ≡ part_read (n - 1) q k
unfolding part_read
read_open_in zero p q s l ts k h i z j = absurd (omega arith)
read_open_in (suc n) p q s l ts k h i z j =
    let o = opening_ok (deeper inside (suc n)) s l ts k i in
    open_at (suc n) p s l ts h ∙ o.1 ∙ kept (λ x. Nest o.0 x) (parse inside n (inside l) k)
    ∙ ap (λ (r : Rule). read_result (parse inside n r k)) (sym (inside_is l) ∙ ap rule_of (sym j))
    ∙ ap (λ (m : ℕ). read_result (parse inside m (rule_of q) k)) (let e : n ≡ suc n - 1 = omega arith in e)

pub ruleset read_steps = (read_empty, read_one, read_then_ok, read_then_err, read_or_first, read_or_second, read_many_end, read_many_err, read_many_ok, many_shorter, read_open_err, read_open_deep, read_open_in, below_first_then, below_second_then, below_first_or, below_second_or, below_many, rank_small)
