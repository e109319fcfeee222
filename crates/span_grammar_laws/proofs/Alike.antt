-- A rule over plain tokens and one over classes that look ahead whose trees have the same marks, with each token as what follows it makes it.
use Rattle.std.proofs.Common.{◌≡◌, ℕ, suc, ◌<◌, ◌≤◌, inl, inr, Bool, true, false, Option, Some, None, List, [], ◌∷◌, ◌++◌, length, refl, sym, ap, subst, ◌∙◌, arith, length-append, rules}
use Rattle.std.specs.Prelude.{if◌then◌else◌, ◌&&◌}
use Rattle.std.proofs.lemmas.Bool.{cases_lt, and_right, and_from}
use denote.Enum.Bare.{same_true}
use Rattle.span_lexer.specs.declared.token.Sign.TheVariants as sign
use Rattle.span_lexer.specs.contracts.token.Sign.{the_type as sign_type}
use Rattle.span_grammar.specs.declared.class.Class.{Class}
use Rattle.span_grammar.specs.declared.class.Context.{Context}
use Rattle.span_grammar.specs.declared.class.Class.TheVariants as class
use Rattle.span_grammar.specs.declared.class.Lexeme.{Lexeme}
use Rattle.span_grammar.specs.declared.class.Sort.{Sort}
use Rattle.span_grammar.specs.declared.class.Sort.TheVariants as sort
use Rattle.span_grammar.specs.declared.grammar.Place.{Place}
use Rattle.span_grammar.specs.Classes.{name_class, token_bytes}
use Rattle.span_grammar.specs.Contexts.{context_word}
use Rattle.span_grammar.specs.Rules.{is_class, is_of, is_nullable, Rule, Empty, One, Then, Or, Many, Open, Tree, End, More, Marks, marks, words, most_openings, Fits}
use Rattle.span_grammar.specs.Grammar.{inside}
use Rattle.span_grammar.proofs.Follow.{never_none}
use Rattle.span_grammar_laws.specs.Written.{written_inside}
use Rattle.span_grammar_laws.proofs.Languages.{In, moved, then_out, then_in, or_out, or_left, or_right, empty_out, empty_in, one_out, one_in, open_out, open_in, many_more, Equal}
use Rattle.span_grammar_laws.proofs.Tagging.{dot_class, star_class, begins_star, begins_all_of, is_empty, tag_class, tag, tag_marks, regroup, tag_marks-append, calm_sort, calm_of, calm_kept, calm_clear, calm_untagged, opening_sort, opening_of, OpensFirst, opens-append, untag_class, untag, untag_marks, untag_marks-append}

-- marks of the written rule, before k, have a tree of the other rule once they are tagged
pub record Tagged (b : Rule) (d : ℕ) (ms : Marks) (k : List Lexeme) : Type 0 where
  pub has : In inside b d (tag_marks ms k)
  pub clear : begins_all_of (words ms ++ k) ≡ false
  pub opens : d ≤ most_openings → OpensFirst ms

-- for marks that are fewer than n
abbrev pub To : ℕ → Rule → Rule → Type 0
To n a b = (d : ℕ) (ms : Marks) (k : List Lexeme) → length ms < n → begins_all_of k ≡ false → In written_inside a d ms → Tagged b d ms k

abbrev pub From : List ℕ → ℕ → Rule → Rule → Type 0
From text n a b = (d : ℕ) (ms : Marks) → length ms < n → In inside b d ms → In written_inside a d (untag_marks text ms)

-- what is after an opening has one token less
pub record Alike (a b : Rule) : Type 0 where
  pub to : (n : ℕ) → ((p : Place) → To n (written_inside p) (inside p)) → To (suc n) a b
  pub from : (text : List ℕ) (n : ℕ) → ((p : Place) → From text n (written_inside p) (inside p)) → From text (suc n) a b

pub tagged_is : (b : Rule) (d : ℕ) (ms ns : Marks) (k : List Lexeme) → ms ≡ ns → Tagged b d ms k → Tagged b d ns k
tagged_is b d ms ns k e h = subst (λ (w : Marks). Tagged b d w k) e h

pub untagged_is : (a : Rule) (text : List ℕ) (d : ℕ) (ms ns : Marks) → ms ≡ ns → In written_inside a d (untag_marks text ms) → In written_inside a d (untag_marks text ns)
untagged_is a text d ms ns e h = moved written_inside a d (untag_marks text ms) (untag_marks text ns) (ap (untag_marks text) e) h

-- ---- rules of rules

pub join : (a b c : Rule) (d : ℕ) (u v : Marks) (k : List Lexeme) → ((p q : Marks) → In inside a d p → In inside b d q → In inside c d (p ++ q)) → Tagged a d u (words v ++ k) → Tagged b d v k → Tagged c d (u ++ v) k
join a b c d u v k make x y = record {
  has = moved inside c d (tag_marks u (words v ++ k) ++ tag_marks v k) (tag_marks (u ++ v) k) (sym (tag_marks-append u v k)) (make (tag_marks u (words v ++ k)) (tag_marks v k) x.has y.has);
  clear = ap begins_all_of (regroup u v k) ∙ x.clear;
  opens = λ le. opens-append u v (x.opens le) (y.opens le);
}

pub tagged_then : (a b : Rule) (d : ℕ) (u v : Marks) (k : List Lexeme) → Tagged a d u (words v ++ k) → Tagged b d v k → Tagged (Then a b) d (u ++ v) k
tagged_then a b d u v k x y = join a b (Then a b) d u v k (λ p q h i. then_in inside a b d p q h i) x y

pub untagged_then : (a b : Rule) (text : List ℕ) (d : ℕ) (u v : Marks) → In written_inside a d (untag_marks text u) → In written_inside b d (untag_marks text v) → In written_inside (Then a b) d (untag_marks text (u ++ v))
untagged_then a b text d u v x y =
    moved written_inside (Then a b) d (untag_marks text u ++ untag_marks text v) (untag_marks text (u ++ v)) (sym (untag_marks-append text u v))
    (then_in written_inside a b d (untag_marks text u) (untag_marks text v) x y)

less_left : (u v ms : Marks) (n : ℕ) → u ++ v ≡ ms → length ms < n → length u < n
less_left u v ms n e lt = omega (arith, ap length e, length-append u v)

less_right : (u v ms : Marks) (n : ℕ) → u ++ v ≡ ms → length ms < n → length v < n
less_right u v ms n e lt = omega (arith, ap length e, length-append u v)

pub alike_then : {a b a2 b2 : Rule} → Alike a b → Alike a2 b2 → Alike (Then a a2) (Then b b2)
alike_then {a} {b} {a2} {b2} x y = record {
  to = λ n below d ms k lt c h.
      let s = then_out written_inside a a2 d ms h in
      let r = y.to n below d s.right k (less_right s.left s.right ms (suc n) s.parts lt) c s.second in
      let l = x.to n below d s.left (words s.right ++ k) (less_left s.left s.right ms (suc n) s.parts lt) r.clear s.first in
      tagged_is (Then b b2) d (s.left ++ s.right) ms k s.parts (tagged_then b b2 d s.left s.right k l r);
  from = λ text n below d ms lt h.
      let s = then_out inside b b2 d ms h in
      untagged_is (Then a a2) text d (s.left ++ s.right) ms s.parts (untagged_then a a2 text d s.left s.right
      (x.from text n below d s.left (less_left s.left s.right ms (suc n) s.parts lt) s.first) (y.from text n below d s.right (less_right s.left s.right ms (suc n) s.parts lt) s.second));
}

pub tagged_left : (a b : Rule) (d : ℕ) (ms : Marks) (k : List Lexeme) → Tagged a d ms k → Tagged (Or a b) d ms k
tagged_left a b d ms k t = record { has = or_left inside a b d (tag_marks ms k) t.has; clear = t.clear; opens = t.opens }

pub tagged_right : (a b : Rule) (d : ℕ) (ms : Marks) (k : List Lexeme) → Tagged b d ms k → Tagged (Or a b) d ms k
tagged_right a b d ms k t = record { has = or_right inside a b d (tag_marks ms k) t.has; clear = t.clear; opens = t.opens }

pub alike_or : {a b a2 b2 : Rule} → Alike a b → Alike a2 b2 → Alike (Or a a2) (Or b b2)
alike_or {a} {b} {a2} {b2} x y = record {
  to = λ n below d ms k lt c h. elim (or_out written_inside a a2 d ms h) [
    | inl i ↦ tagged_left b b2 d ms k (x.to n below d ms k lt c i)
    | inr i ↦ tagged_right b b2 d ms k (y.to n below d ms k lt c i)
  ];
  from = λ text n below d ms lt h. elim (or_out inside b b2 d ms h) [
    | inl i ↦ or_left written_inside a a2 d (untag_marks text ms) (x.from text n below d ms lt i)
    | inr i ↦ or_right written_inside a a2 d (untag_marks text ms) (y.from text n below d ms lt i)
  ];
}

many_to : (a b : Rule) (n : ℕ) → To n a b → (x : Tree) (d : ℕ) (k : List Lexeme) → Fits written_inside x (Many a) → length (marks d x) < n → begins_all_of k ≡ false → Tagged (Many b) d (marks d x) k
many_to a b n f End d k h lt c = record { has = (End, tt, refl); clear = c; opens = λ le. tt }
many_to a b n f (More x more) d k h lt c =
    let r = many_to a b n f more d k h.1 (less_right (marks d x) (marks d more) (marks d (More x more)) n refl lt) c in
    let l = f d (marks d x) (words (marks d more) ++ k) (less_left (marks d x) (marks d more) (marks d (More x more)) n refl lt) r.clear (x, h.0, refl) in
    join b (Many b) (Many b) d (marks d x) (marks d more) k (λ p q i j. many_more inside b d p q i j) l r
many_to a b n f _ d k h lt c = absurd h

many_from : (a b : Rule) (text : List ℕ) (n : ℕ) → From text n a b → (x : Tree) (d : ℕ) → Fits inside x (Many b) → length (marks d x) < n → In written_inside (Many a) d (untag_marks text (marks d x))
many_from a b text n f End d h lt = (End, tt, refl)
many_from a b text n f (More x more) d h lt =
    let r = many_from a b text n f more d h.1 (less_right (marks d x) (marks d more) (marks d (More x more)) n refl lt) in
    let l = f d (marks d x) (less_left (marks d x) (marks d more) (marks d (More x more)) n refl lt) (x, h.0, refl) in
    moved written_inside (Many a) d (untag_marks text (marks d x) ++ untag_marks text (marks d more)) (untag_marks text (marks d x ++ marks d more))
    (sym (untag_marks-append text (marks d x) (marks d more))) (many_more written_inside a d (untag_marks text (marks d x)) (untag_marks text (marks d more)) l r)
many_from a b text n f _ d h lt = absurd h

pub alike_many : {a b : Rule} → Alike a b → Alike (Many a) (Many b)
alike_many {a} {b} x = record {
  to = λ n below d ms k lt c h. tagged_is (Many b) d (marks d h.0) ms k h.2 (many_to a b (suc n) (x.to n below) h.0 d k h.1 (subst (λ (w : Marks). length w < suc n) (sym h.2) lt) c);
  from = λ text n below d ms lt h. untagged_is (Many a) text d (marks d h.0) ms h.2 (many_from a b text (suc n) (x.from text n below) h.0 d h.1 (subst (λ (w : Marks). length w < suc n) (sym h.2) lt));
}

-- a rule whose trees have the same marks in the written grammar
pub alike_by : {a a2 b : Rule} → Equal written_inside a a2 → Alike a2 b → Alike a b
alike_by {a} {a2} {b} e x = record {
  to = λ n below d ms k lt c h. x.to n below d ms k lt c (e.to d ms h);
  from = λ text n below d ms lt h. e.from d (untag_marks text ms) (x.from text n below d ms lt h);
}

-- ---- nothing, and tokens

pub alike_empty : Alike Empty Empty
alike_empty = record {
  to = λ n below d ms k lt c h. tagged_is Empty d [] ms k (empty_out written_inside d ms h) (record { has = empty_in inside d; clear = c; opens = λ le. tt });
  from = λ text n below d ms lt h. untagged_is Empty text d [] ms (empty_out inside d ms h) (empty_in written_inside d);
}

-- a token
tagged_one : (s : Sort) (d : ℕ) (t : Lexeme) (k : List Lexeme) → is_class s (tag_class t.class k) ≡ true → begins_all_of (t ∷ k) ≡ false → Tagged (One s) d ((t, d) ∷ []) k
tagged_one s d t k h c = record { has = one_in inside s d (tag t k) h; clear = c; opens = λ le. inl (le, tt) }

untagged_one : (s : Sort) (text : List ℕ) (d : ℕ) (t : Lexeme) → is_class s (untag_class (context_word (token_bytes text t.token)) t.class) ≡ true → In written_inside (One s) d (untag_marks text ((t, d) ∷ []))
untagged_one s text d t h = one_in written_inside s d (untag text t) h

calm_tagged : (s : Sort) (t : Lexeme) (k : List Lexeme) → calm_sort s ≡ true → is_of s t ≡ true → begins_all_of k ≡ false → is_class s (tag_class t.class k) ≡ true
calm_tagged s t k h i c = ap (is_class s) (calm_kept t.class k (calm_of s t.class h i) c) ∙ i

calm_untag : (s : Sort) (o : Option Context) (t : Lexeme) → calm_sort s ≡ true → is_of s t ≡ true → is_class s (untag_class o t.class) ≡ true
calm_untag s o t h i = ap (is_class s) (calm_untagged o t.class (calm_of s t.class h i)) ∙ i

pub alike_one : (s : Sort) → calm_sort s ≡ true → Alike (One s) (One s)
alike_one s h = record {
  to = λ n below d ms k lt c i.
      let t = one_out written_inside s d ms i in
      tagged_is (One s) d ((t.lexeme, d) ∷ []) ms k t.parts (tagged_one s d t.lexeme k (calm_tagged s t.lexeme k h t.is c) (calm_clear t.lexeme k (calm_of s t.lexeme.class h t.is)));
  from = λ text n below d ms lt i.
      let t = one_out inside s d ms i in
      untagged_is (One s) text d ((t.lexeme, d) ∷ []) ms t.parts (untagged_one s text d t.lexeme (calm_untag s (context_word (token_bytes text t.lexeme.token)) t.lexeme h t.is));
}

-- an opening, and what is after it
pub alike_open : (s : Sort) (p : Place) → calm_sort s ≡ true → opening_sort s ≡ true → Alike (Open s p) (Open s p)
alike_open s p h o = record {
  to = λ n below d ms k lt c i.
      let t = open_out written_inside s p d ms i in
      let r = below p (suc d) t.within k (omega (arith, lt, ap length t.parts)) c t.has in
      tagged_is (Open s p) d ((t.lexeme, suc d) ∷ t.within) ms k t.parts (record {
        has = open_in inside s p d (tag t.lexeme (words t.within ++ k)) (tag_marks t.within k) (calm_tagged s t.lexeme (words t.within ++ k) h t.is r.clear) r.has;
        clear = calm_clear t.lexeme (words t.within ++ k) (calm_of s t.lexeme.class h t.is);
        opens = λ le. elim (cases_lt most_openings (suc d)) [ inl i ↦ inr (i, opening_of s t.lexeme.class o t.is) | inr i ↦ inl (i, r.opens i) ];
      });
  from = λ text n below d ms lt i.
      let t = open_out inside s p d ms i in
      untagged_is (Open s p) text d ((t.lexeme, suc d) ∷ t.within) ms t.parts
      (open_in written_inside s p d (untag text t.lexeme) (untag_marks text t.within) (calm_untag s (context_word (token_bytes text t.lexeme.token)) t.lexeme h t.is)
      (below p (suc d) t.within (omega (arith, lt, ap length t.parts)) t.has));
}

-- ---- dots, stars and semicolons

abbrev pub dot : Rule
dot = One (sort.Sign sign.Dot)

abbrev pub star : Rule
star = One (sort.Sign sign.Star)

abbrev pub semicolon : Rule
semicolon = One (sort.Sign sign.Semicolon)

abbrev pub name : Rule
name = One sort.Name

-- a token of one sign has the sign's class
pub is_dot : (c : Class) → is_class (sort.Sign sign.Dot) c ≡ true → c ≡ class.Sign sign.Dot
unfolding is_class
is_dot (class.Sign v) h = ap class.Sign (sym (same_true sign_type (search rules) sign.Dot v h))
is_dot _ h = absurd cc

pub is_star : (c : Class) → is_class (sort.Sign sign.Star) c ≡ true → c ≡ class.Sign sign.Star
unfolding is_class
is_star (class.Sign v) h = ap class.Sign (sym (same_true sign_type (search rules) sign.Star v h))
is_star _ h = absurd cc

pub is_semicolon : (c : Class) → is_class (sort.Sign sign.Semicolon) c ≡ true → c ≡ class.Sign sign.Semicolon
unfolding is_class
is_semicolon (class.Sign v) h = ap class.Sign (sym (same_true sign_type (search rules) sign.Semicolon v h))
is_semicolon _ h = absurd cc

sign_tagged : (s : Sort) (c e : Class) (k : List Lexeme) → c ≡ e → is_class s (tag_class e k) ≡ true → is_class s (tag_class c k) ≡ true
sign_tagged s c e k i h = subst (λ (w : Class). is_class s (tag_class w k) ≡ true) (sym i) h

sign_untagged : (s : Sort) (o : Option Context) (c e : Class) → c ≡ e → is_class s (untag_class o e) ≡ true → is_class s (untag_class o c) ≡ true
sign_untagged s o c e i h = subst (λ (w : Class). is_class s (untag_class o w) ≡ true) (sym i) h

dot_is : is_class (sort.Sign sign.Dot) (class.Sign sign.Dot) ≡ true
unfolding is_class
dot_is = refl

star_is : is_class (sort.Sign sign.Star) (class.Sign sign.Star) ≡ true
unfolding is_class
star_is = refl

name_no_star : (c : Class) → is_class sort.Name c ≡ true → star_class c ≡ false
unfolding is_class
name_no_star class.Name h = refl
name_no_star (class.Context w) h = refl
name_no_star _ h = absurd cc

-- "." name
pub alike_qualifier : Alike (Then dot name) (Then dot name)
alike_qualifier = record {
  to = λ n below d ms k lt c h.
      let s = then_out written_inside dot name d ms h in
      let x = one_out written_inside (sort.Sign sign.Dot) d s.left s.first in
      let y = one_out written_inside sort.Name d s.right s.second in
      let r = tagged_one sort.Name d y.lexeme k (calm_tagged sort.Name y.lexeme k refl y.is c) (calm_clear y.lexeme k (calm_of sort.Name y.lexeme.class refl y.is)) in
      let l = tagged_one (sort.Sign sign.Dot) d x.lexeme (y.lexeme ∷ k) (sign_tagged (sort.Sign sign.Dot) x.lexeme.class (class.Sign sign.Dot) (y.lexeme ∷ k) (is_dot x.lexeme.class x.is) dot_is)
      (and_right (dot_class x.lexeme.class) (star_class y.lexeme.class) (name_no_star y.lexeme.class y.is)) in
      let e : (x.lexeme, d) ∷ (y.lexeme, d) ∷ [] ≡ s.left ++ s.right = ap (λ (w : Marks). w ++ ((y.lexeme, d) ∷ [])) x.parts ∙ ap (λ (w : Marks). s.left ++ w) y.parts in
      tagged_is (Then dot name) d ((x.lexeme, d) ∷ (y.lexeme, d) ∷ []) ms k (e ∙ s.parts) (tagged_then dot name d ((x.lexeme, d) ∷ []) ((y.lexeme, d) ∷ []) k l r);
  from = λ text n below d ms lt h.
      let s = then_out inside dot name d ms h in
      let x = one_out inside (sort.Sign sign.Dot) d s.left s.first in
      let y = one_out inside sort.Name d s.right s.second in
      untagged_is (Then dot name) text d (s.left ++ s.right) ms s.parts (untagged_then dot name text d s.left s.right
      (untagged_is dot text d ((x.lexeme, d) ∷ []) s.left x.parts (untagged_one (sort.Sign sign.Dot) text d x.lexeme (sign_untagged (sort.Sign sign.Dot) (context_word (token_bytes text x.lexeme.token)) x.lexeme.class (class.Sign sign.Dot) (is_dot x.lexeme.class x.is) dot_is)))
      (untagged_is name text d ((y.lexeme, d) ∷ []) s.right y.parts (untagged_one sort.Name text d y.lexeme (calm_untag sort.Name (context_word (token_bytes text y.lexeme.token)) y.lexeme refl y.is))));
}

name_all_of : (c : Class) (k : List Lexeme) → is_class sort.Name c ≡ true → begins_all_of k ≡ true → is_class sort.AllOf (tag_class c k) ≡ true
unfolding is_class
name_all_of class.Name k h e = ap (λ (b : Bool). is_class sort.AllOf (if b then class.AllOf else class.Name)) e
name_all_of (class.Context w) k h e = ap (λ (b : Bool). is_class sort.AllOf (if b then class.AllOf else class.Context w)) e
name_all_of _ k h e = absurd cc

name_is : (o : Option Context) → is_class sort.Name (name_class o) ≡ true
unfolding is_class
name_is = elim [ None ↦ refl | Some w ↦ refl ]

all_of_untag : (o : Option Context) (c : Class) → is_class sort.AllOf c ≡ true → is_class sort.Name (untag_class o c) ≡ true
unfolding is_class
all_of_untag o class.AllOf h = name_is o
all_of_untag o _ h = absurd cc

-- three tokens, one after the other
pub record Three (a b c : Lexeme) (d : ℕ) (ms : Marks) : Type 0 where
  pub parts : (a, d) ∷ (b, d) ∷ (c, d) ∷ [] ≡ ms

three : (a b c : Lexeme) (d : ℕ) (u v w x ms : Marks) → (a, d) ∷ [] ≡ u → (b, d) ∷ [] ≡ v → (c, d) ∷ [] ≡ w → v ++ w ≡ x → u ++ x ≡ ms → Three a b c d ms
three a b c d u v w x ms i j k l m = record {
  parts = ap (λ (y : Marks). (a, d) ∷ (b, d) ∷ y) k ∙ ap (λ (y : Marks). (a, d) ∷ (y ++ w)) j ∙ ap (λ (y : Marks). (a, d) ∷ y) l ∙ ap (λ (y : Marks). y ++ x) i ∙ m;
}

-- name "." "*"
pub alike_all_of : Alike (Then name (Then dot star)) (Then (One sort.AllOf) (Then dot star))
alike_all_of = record {
  to = λ n below d ms k lt c h.
      let s = then_out written_inside name (Then dot star) d ms h in
      let t = then_out written_inside dot star d s.right s.second in
      let x = one_out written_inside sort.Name d s.left s.first in
      let y = one_out written_inside (sort.Sign sign.Dot) d t.left t.first in
      let z = one_out written_inside (sort.Sign sign.Star) d t.right t.second in
      let e = three x.lexeme y.lexeme z.lexeme d s.left t.left t.right s.right ms x.parts y.parts z.parts t.parts s.parts in
      tagged_is (Then (One sort.AllOf) (Then dot star)) d ((x.lexeme, d) ∷ (y.lexeme, d) ∷ (z.lexeme, d) ∷ []) ms k e.parts (all_of_tagged d x.lexeme y.lexeme z.lexeme k x.is y.is z.is);
  from = λ text n below d ms lt h.
      let s = then_out inside (One sort.AllOf) (Then dot star) d ms h in
      let t = then_out inside dot star d s.right s.second in
      let x = one_out inside sort.AllOf d s.left s.first in
      let y = one_out inside (sort.Sign sign.Dot) d t.left t.first in
      let z = one_out inside (sort.Sign sign.Star) d t.right t.second in
      untagged_is (Then name (Then dot star)) text d (s.left ++ s.right) ms s.parts (untagged_then name (Then dot star) text d s.left s.right
      (untagged_is name text d ((x.lexeme, d) ∷ []) s.left x.parts (untagged_one sort.Name text d x.lexeme (all_of_untag (context_word (token_bytes text x.lexeme.token)) x.lexeme.class x.is)))
      (untagged_is (Then dot star) text d (t.left ++ t.right) s.right t.parts (untagged_then dot star text d t.left t.right
      (untagged_is dot text d ((y.lexeme, d) ∷ []) t.left y.parts (untagged_one (sort.Sign sign.Dot) text d y.lexeme (sign_untagged (sort.Sign sign.Dot) (context_word (token_bytes text y.lexeme.token)) y.lexeme.class (class.Sign sign.Dot) (is_dot y.lexeme.class y.is) dot_is)))
      (untagged_is star text d ((z.lexeme, d) ∷ []) t.right z.parts (untagged_one (sort.Sign sign.Star) text d z.lexeme (calm_untag (sort.Sign sign.Star) (context_word (token_bytes text z.lexeme.token)) z.lexeme refl z.is))))));
}
  where
    all_of_tagged : (d : ℕ) (x y z : Lexeme) (k : List Lexeme) → is_of sort.Name x ≡ true → is_of (sort.Sign sign.Dot) y ≡ true → is_of (sort.Sign sign.Star) z ≡ true
        → Tagged (Then (One sort.AllOf) (Then dot star)) d ((x, d) ∷ (y, d) ∷ (z, d) ∷ []) k
    all_of_tagged d x y z k hx hy hz =
        let star_here : star_class z.class ≡ true = ap star_class (is_star z.class hz) in
        let dot_here : dot_class y.class ≡ true = ap dot_class (is_dot y.class hy) in
        let clear : begins_all_of (x ∷ y ∷ z ∷ k) ≡ false = calm_clear x (y ∷ z ∷ k) (calm_of sort.Name x.class refl hx) in
        record {
          has = then_in inside (One sort.AllOf) (Then dot star) d ((tag x (y ∷ z ∷ k), d) ∷ []) ((tag y (z ∷ k), d) ∷ (tag z k, d) ∷ [])
              (one_in inside sort.AllOf d (tag x (y ∷ z ∷ k)) (name_all_of x.class (y ∷ z ∷ k) hx (and_from (dot_class y.class) (star_class z.class) dot_here star_here)))
              (then_in inside dot star d ((tag y (z ∷ k), d) ∷ []) ((tag z k, d) ∷ [])
              (one_in inside (sort.Sign sign.Dot) d (tag y (z ∷ k)) (sign_tagged (sort.Sign sign.Dot) y.class (class.Sign sign.Dot) (z ∷ k) (is_dot y.class hy) dot_is))
              (one_in inside (sort.Sign sign.Star) d (tag z k) (sign_tagged (sort.Sign sign.Star) z.class (class.Sign sign.Star) k (is_star z.class hz) star_is)));
          clear = clear;
          opens = λ le. inl (le, inl (le, inl (le, tt)));
        }

-- a semicolon, last or not
any_tagged : (k : List Lexeme) → is_class sort.AnySemicolon (tag_class (class.Sign sign.Semicolon) k) ≡ true
unfolding is_class
any_tagged k = elim (is_empty k) as (λ (b : Bool). is_class sort.AnySemicolon (if b then class.LastSemicolon else class.Sign sign.Semicolon) ≡ true) [ true ↦ refl | false ↦ refl ]

any_untag : (o : Option Context) (c : Class) → is_class sort.AnySemicolon c ≡ true → is_class (sort.Sign sign.Semicolon) (untag_class o c) ≡ true
unfolding is_class
any_untag o (class.Sign v) h = h
any_untag o class.LastSemicolon h = refl
any_untag o _ h = absurd cc

pub semicolon_clear : (t : Lexeme) (k : List Lexeme) → is_of (sort.Sign sign.Semicolon) t ≡ true → begins_all_of (t ∷ k) ≡ false
semicolon_clear t k h = ap (λ (c : Class). dot_class c && begins_star k) (is_semicolon t.class h)

pub alike_any_semicolon : Alike semicolon (One sort.AnySemicolon)
alike_any_semicolon = record {
  to = λ n below d ms k lt c h.
      let t = one_out written_inside (sort.Sign sign.Semicolon) d ms h in
      tagged_is (One sort.AnySemicolon) d ((t.lexeme, d) ∷ []) ms k t.parts
      (tagged_one sort.AnySemicolon d t.lexeme k (sign_tagged sort.AnySemicolon t.lexeme.class (class.Sign sign.Semicolon) k (is_semicolon t.lexeme.class t.is) (any_tagged k)) (semicolon_clear t.lexeme k t.is));
  from = λ text n below d ms lt h.
      let t = one_out inside sort.AnySemicolon d ms h in
      untagged_is semicolon text d ((t.lexeme, d) ∷ []) ms t.parts (untagged_one (sort.Sign sign.Semicolon) text d t.lexeme (any_untag (context_word (token_bytes text t.lexeme.token)) t.lexeme.class t.is));
}

-- a last semicolon
last_is : is_class sort.LastSemicolon class.LastSemicolon ≡ true
unfolding is_class
last_is = refl

last_untag : (o : Option Context) (c : Class) → is_class sort.LastSemicolon c ≡ true → is_class (sort.Sign sign.Semicolon) (untag_class o c) ≡ true
unfolding is_class
last_untag o class.LastSemicolon h = refl
last_untag o _ h = absurd cc

pub last_to : (d : ℕ) (ms : Marks) → In written_inside semicolon d ms → Tagged (One sort.LastSemicolon) d ms []
last_to d ms h =
    let t = one_out written_inside (sort.Sign sign.Semicolon) d ms h in
    tagged_is (One sort.LastSemicolon) d ((t.lexeme, d) ∷ []) ms [] t.parts
    (tagged_one sort.LastSemicolon d t.lexeme [] (sign_tagged sort.LastSemicolon t.lexeme.class (class.Sign sign.Semicolon) [] (is_semicolon t.lexeme.class t.is) last_is) (semicolon_clear t.lexeme [] t.is))

pub last_from : (text : List ℕ) (d : ℕ) (ms : Marks) → In inside (One sort.LastSemicolon) d ms → In written_inside semicolon d (untag_marks text ms)
last_from text d ms h =
    let t = one_out inside sort.LastSemicolon d ms h in
    untagged_is semicolon text d ((t.lexeme, d) ∷ []) ms t.parts (untagged_one (sort.Sign sign.Semicolon) text d t.lexeme (last_untag (context_word (token_bytes text t.lexeme.token)) t.lexeme.class t.is))

-- a semicolon before something
separator_is : is_class sort.Separator (class.Sign sign.Semicolon) ≡ true
unfolding is_class
separator_is = refl

separator_tagged : (ms : Marks) (k : List Lexeme) → (ms ≡ [] → ⊥) → is_class sort.Separator (tag_class (class.Sign sign.Semicolon) (words ms ++ k)) ≡ true
separator_tagged [] k n = absurd (n refl)
separator_tagged (m ∷ ms) k n = separator_is

separator_untag : (o : Option Context) (c : Class) → is_class sort.Separator c ≡ true → is_class (sort.Sign sign.Semicolon) (untag_class o c) ≡ true
unfolding is_class
separator_untag o (class.Sign v) h = h
separator_untag o _ h = absurd cc

not_none : (a : Rule) (d : ℕ) (ms : Marks) → is_nullable a ≡ false → In written_inside a d ms → ms ≡ [] → ⊥
not_none a d ms n h e = never_none written_inside (λ p t. false) h.0 a d h.1 n (h.2 ∙ e)

pub alike_separator : {a b : Rule} → Alike a b → is_nullable a ≡ false → Alike (Then semicolon a) (Then (One sort.Separator) b)
alike_separator {a} {b} x full = record {
  to = λ n below d ms k lt c h.
      let s = then_out written_inside semicolon a d ms h in
      let t = one_out written_inside (sort.Sign sign.Semicolon) d s.left s.first in
      let r = x.to n below d s.right k (less_right s.left s.right ms (suc n) s.parts lt) c s.second in
      let l = tagged_is (One sort.Separator) d ((t.lexeme, d) ∷ []) s.left (words s.right ++ k) t.parts
      (tagged_one sort.Separator d t.lexeme (words s.right ++ k)
      (sign_tagged sort.Separator t.lexeme.class (class.Sign sign.Semicolon) (words s.right ++ k) (is_semicolon t.lexeme.class t.is) (separator_tagged s.right k (not_none a d s.right full s.second)))
      (semicolon_clear t.lexeme (words s.right ++ k) t.is)) in
      tagged_is (Then (One sort.Separator) b) d (s.left ++ s.right) ms k s.parts (tagged_then (One sort.Separator) b d s.left s.right k l r);
  from = λ text n below d ms lt h.
      let s = then_out inside (One sort.Separator) b d ms h in
      let t = one_out inside sort.Separator d s.left s.first in
      untagged_is (Then semicolon a) text d (s.left ++ s.right) ms s.parts (untagged_then semicolon a text d s.left s.right
      (untagged_is semicolon text d ((t.lexeme, d) ∷ []) s.left t.parts (untagged_one (sort.Sign sign.Semicolon) text d t.lexeme (separator_untag (context_word (token_bytes text t.lexeme.token)) t.lexeme.class t.is)))
      (x.from text n below d s.right (less_right s.left s.right ms (suc n) s.parts lt) s.second));
}
