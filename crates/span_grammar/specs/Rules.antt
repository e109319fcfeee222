-- What a grammar is, and which texts are in it.
use Rattle.std.specs.Prelude.{◌≡◌, ℕ, zero, suc, ◌≤◌, Bool, true, false, ◌||◌, ◌&&◌, List, [], ◌∷◌, ◌++◌, map, length, if◌then◌else◌}
use denote.Enum.Bare.{sameb}
use Rattle.span_lexer.specs.contracts.token.Word.{the_type as word_type}
use Rattle.span_lexer.specs.contracts.token.Sign.{the_type as sign_type}
use Rattle.span_lexer.specs.declared.token.Sign.TheVariants as sign
use Rattle.span_lexer.specs.declared.token.TokenKind.TheVariants as kind
use Rattle.span_grammar.specs.contracts.class.Context.{the_type as context_type}
use Rattle.span_grammar.specs.declared.class.Class.{Class}
use Rattle.span_grammar.specs.declared.class.Lexeme.{Lexeme}
use Rattle.span_grammar.specs.declared.class.Class.TheVariants as class
use Rattle.span_grammar.specs.declared.class.Sort.{Sort}
use Rattle.span_grammar.specs.declared.class.Sort.TheVariants as sort
use Rattle.span_grammar.specs.declared.grammar.Place.{Place}

-- the class is what a rule asks for
unfoldable pub is_class : Sort → Class → Bool
is_class (sort.Word w) (class.Word v) = sameb word_type w v
is_class sort.Name class.Name = true
is_class sort.Name (class.Context v) = true
is_class (sort.Context w) (class.Context v) = sameb context_type w v
is_class sort.AllOf class.AllOf = true
is_class sort.Parameter class.Parameter = true
is_class sort.Int class.Int = true
is_class sort.Str class.Str = true
is_class sort.Bytes class.Bytes = true
is_class (sort.Sign s) (class.Sign v) = sameb sign_type s v
is_class sort.Separator (class.Sign v) = sameb sign_type sign.Semicolon v
is_class sort.LastSemicolon class.LastSemicolon = true
is_class sort.AnySemicolon (class.Sign v) = sameb sign_type sign.Semicolon v
is_class sort.AnySemicolon class.LastSemicolon = true
is_class _ _ = false

abbrev pub is_of : Sort → Lexeme → Bool
is_of s t = is_class s t.class

-- some token of the class
abbrev pub of_class : Class → Lexeme
of_class c = record { class = c; token = record { kind = kind.Name; start = 0; end = 0 } }

-- ---- the form of a grammar, as it is written down

pub data Rule : Type 0 where
  -- nothing
  Empty : Rule
  -- one token
  One : Sort → Rule
  -- a b
  Then : (a b : Rule) → Rule
  -- a | b
  Or : (a b : Rule) → Rule
  -- {a}
  Many : (a : Rule) → Rule
  -- an opening token, and what is at the place after it, one level deeper
  Open : Sort → Place → Rule

-- A derivation: which alternative was taken, how often a repeated part came, and the tokens.
pub data Tree : Type 0 where
  Nothing : Tree
  Leaf : Lexeme → Tree
  Pair : (x y : Tree) → Tree
  Left : (x : Tree) → Tree
  Right : (y : Tree) → Tree
  End : Tree
  More : (x more : Tree) → Tree
  Nest : Lexeme → (x : Tree) → Tree

-- the tokens of a tree from left to right, each with the number of openings that enclose it, itself counted
abbrev pub Marks : Type 0
Marks = List (Lexeme × ℕ)

abbrev pub marks : ℕ → Tree → Marks
marks d Nothing = []
marks d (Leaf t) = (t, d) ∷ []
marks d (Pair x y) = marks d x ++ marks d y
marks d (Left x) = marks d x
marks d (Right y) = marks d y
marks d End = []
marks d (More x more) = marks d x ++ marks d more
marks d (Nest t x) = (t, suc d) ∷ marks (suc d) x

abbrev pub words : Marks → List Lexeme
words ms = map (λ m. m.0) ms

-- the most openings that are nested in one another
abbrev pub most_openings : ℕ
most_openings = 32

abbrev pub Shallow : Marks → Type 0
Shallow [] = Unit {0}
Shallow (m ∷ ms) = (m.1 ≤ most_openings) × Shallow ms

module _ (inside : Place → Rule) where
  -- the tree is one of the rule's
  abbrev pub Fits : Tree → Rule → Type 0
  Fits Nothing Empty = Unit {0}
  Fits (Leaf t) (One s) = is_of s t ≡ true
  Fits (Pair x y) (Then a b) = Fits x a × Fits y b
  Fits (Left x) (Or a b) = Fits x a
  Fits (Right y) (Or a b) = Fits y b
  Fits End (Many a) = Unit {0}
  Fits (More x more) (Many a) = Fits x a × Fits more (Many a)
  Fits (Nest t x) (Open s p) = (is_of s t ≡ true) × Fits x (inside p)
  Fits _ _ = ⊥

-- ---- reading

pub data Answer : Type 0 where
  Read : Tree → List Lexeme → Answer
  -- from the token on with which no tree goes on
  Wrong : List Lexeme → Answer
  -- from the opening token on that is one too deep
  Deep : List Lexeme → Answer

abbrev pub bind : Answer → (Tree → List Lexeme → Answer) → Answer
bind (Read x k) f = f x k
bind (Wrong k) f = Wrong k
bind (Deep k) f = Deep k

abbrev pub is_nullable : Rule → Bool
is_nullable Empty = true
is_nullable (One s) = false
is_nullable (Then a b) = is_nullable a && is_nullable b
is_nullable (Or a b) = is_nullable a || is_nullable b
is_nullable (Many a) = true
is_nullable (Open s p) = false

abbrev pub first : Rule → Lexeme → Bool
first Empty t = false
first (One s) t = is_of s t
first (Then a b) t = first a t || (is_nullable a && first b t)
first (Or a b) t = first a t || first b t
first (Many a) t = first a t
first (Open s p) t = is_of s t

abbrev pub starts : Rule → List Lexeme → Bool
starts a [] = false
starts a (t ∷ ts) = first a t

abbrev pub read_many : (List Lexeme → Answer) → Rule → ℕ → List Lexeme → Answer
read_many f a zero ts = Read End ts
read_many f a (suc n) ts =
    if starts a ts then bind (f ts) (λ x k. bind (read_many f a n k) (λ more k2. Read (More x more) k2))
    else Read End ts

abbrev pub one : Sort → List Lexeme → Answer
one s [] = Wrong []
one s (t ∷ ts) = if is_of s t then Read (Leaf t) ts else Wrong (t ∷ ts)

pub data Deeper : Type 0 where
  No : Deeper
  Yes : (Place → List Lexeme → Answer) → Deeper

abbrev pub enter_place : Deeper → Place → Lexeme → List Lexeme → Answer
enter_place No p t ts = Deep (t ∷ ts)
enter_place (Yes f) p t ts = bind (f p ts) (λ x k. Read (Nest t x) k)

abbrev pub opening : Deeper → Sort → Place → List Lexeme → Answer
opening g s p [] = Wrong []
opening g s p (t ∷ ts) = if is_of s t then enter_place g p t ts else Wrong (t ∷ ts)

abbrev pub parse_with : Deeper → Rule → List Lexeme → Answer
parse_with g Empty ts = Read Nothing ts
parse_with g (One s) ts = one s ts
parse_with g (Then a b) ts = bind (parse_with g a ts) (λ x k. bind (parse_with g b k) (λ y k2. Read (Pair x y) k2))
parse_with g (Or a b) ts =
    if starts a ts then bind (parse_with g a ts) (λ x k. Read (Left x) k)
    else bind (parse_with g b ts) (λ y k. Read (Right y) k)
parse_with g (Many a) ts = read_many (λ us. parse_with g a us) a (length ts) ts
parse_with g (Open s p) ts = opening g s p ts

module _ (inside : Place → Rule) where
  abbrev pub deeper : ℕ → Deeper
  deeper zero = No
  deeper (suc n) = Yes (λ p ts. parse_with (deeper n) (inside p) ts)

  -- n openings are left
  abbrev pub parse : ℕ → Rule → List Lexeme → Answer
  parse n a ts = parse_with (deeper n) a ts
