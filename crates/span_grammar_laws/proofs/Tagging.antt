-- The classes that look ahead, from plain tokens and what follows them, and back.
use Rattle.std.proofs.Common.{◌≡◌, ℕ, ◌≤◌, ◌<◌, ◌⊎◌, inl, inr, Bool, true, false, Option, Some, None, List, [], ◌∷◌, ◌++◌, map, refl, sym, ap, ap₂, ◌∙◌, append_assoc, rules}
use Rattle.std.proofs.Math.Bool.{and-false}
use Rattle.std.specs.Prelude.{if◌then◌else◌, ◌&&◌}
use denote.Enum.Bare.{same_true}
use Rattle.std.proofs.lemmas.List.{append-nil}
use Rattle.span_lexer.specs.declared.token.Sign.{Sign}
use Rattle.span_lexer.specs.declared.token.Sign.TheVariants as sign
use Rattle.span_lexer.specs.declared.token.Token.{Token}
use Rattle.span_lexer.specs.declared.token.TokenKind.{TokenKind}
use Rattle.span_lexer.specs.declared.token.TokenKind.TheVariants as kind
use Rattle.span_lexer.specs.contracts.token.Sign.{the_type as sign_type}
use Rattle.span_grammar.specs.declared.class.Context.{Context}
use Rattle.span_grammar.specs.declared.class.Class.{Class}
use Rattle.span_grammar.specs.declared.class.Class.TheVariants as class
use Rattle.span_grammar.specs.declared.class.Lexeme.{Lexeme}
use Rattle.span_grammar.specs.declared.class.Sort.{Sort}
use Rattle.span_grammar.specs.declared.class.Sort.TheVariants as sort
use Rattle.span_grammar.specs.Contexts.{context_word}
use Rattle.span_grammar.specs.Classes.{is_dot, is_star, starts_all_of, name_class, semicolon_class, sign_class, kind_class, lexemes_of, token_bytes}
use Rattle.span_grammar.specs.Rules.{is_class, Marks, words, most_openings, Shallow}
use Rattle.span_grammar.proofs.Sound.{words-append}
use Rattle.span_grammar_laws.specs.PlainTokens.{plain_class, plain_lexemes}

-- ---- what follows a token

abbrev pub dot_class : Class → Bool
dot_class (class.Sign sign.Dot) = true
dot_class _ = false

abbrev pub star_class : Class → Bool
star_class (class.Sign sign.Star) = true
star_class _ = false

abbrev pub begins_star : List Lexeme → Bool
begins_star [] = false
begins_star (t ∷ ts) = star_class t.class

abbrev pub begins_all_of : List Lexeme → Bool
begins_all_of [] = false
begins_all_of (t ∷ ts) = dot_class t.class && begins_star ts

abbrev pub is_empty : List Lexeme → Bool
is_empty [] = true
is_empty (t ∷ ts) = false

-- ---- a plain token as what follows it makes it

abbrev pub tag_sign : Sign → List Lexeme → Class
tag_sign sign.Semicolon k = if is_empty k then class.LastSemicolon else class.Sign sign.Semicolon
tag_sign s k = class.Sign s

abbrev pub tag_class : Class → List Lexeme → Class
tag_class class.Name k = if begins_all_of k then class.AllOf else class.Name
tag_class (class.Context w) k = if begins_all_of k then class.AllOf else class.Context w
tag_class (class.Sign s) k = tag_sign s k
tag_class c k = c

abbrev pub tag : Lexeme → List Lexeme → Lexeme
tag t k = record { class = tag_class t.class k; token = t.token }

-- tokens before k
abbrev pub tags : List Lexeme → List Lexeme → List Lexeme
tags [] k = []
tags (t ∷ ts) k = tag t (ts ++ k) ∷ tags ts k

abbrev pub tag_marks : Marks → List Lexeme → Marks
tag_marks [] k = []
tag_marks (m ∷ ms) k = (tag m.0 (words ms ++ k), m.1) ∷ tag_marks ms k

-- the tokens of two rows of marks and what follows
pub regroup : (a b : Marks) (k : List Lexeme) → words (a ++ b) ++ k ≡ words a ++ (words b ++ k)
regroup a b k = ap (λ (w : List Lexeme). w ++ k) (words-append a b) ∙ append_assoc (words a) (words b) k

pub tag_marks-append : (a b : Marks) (k : List Lexeme) → tag_marks (a ++ b) k ≡ tag_marks a (words b ++ k) ++ tag_marks b k
tag_marks-append [] b k = refl
tag_marks-append (m ∷ a) b k = ap₂ (λ (w : List Lexeme) (n : Marks). (tag m.0 w, m.1) ∷ n) (regroup a b k) (tag_marks-append a b k)

pub tags-append : (a b k : List Lexeme) → tags (a ++ b) k ≡ tags a (b ++ k) ++ tags b k
tags-append [] b k = refl
tags-append (t ∷ a) b k = ap₂ (λ (w n : List Lexeme). tag t w ∷ n) (append_assoc a b k) (tags-append a b k)

pub words-tag_marks : (ms : Marks) (k : List Lexeme) → words (tag_marks ms k) ≡ tags (words ms) k
words-tag_marks [] k = refl
words-tag_marks (m ∷ ms) k = ap (λ (w : List Lexeme). tag m.0 (words ms ++ k) ∷ w) (words-tag_marks ms k)

pub shallow-tag_marks : (ms : Marks) (k : List Lexeme) → Shallow ms → Shallow (tag_marks ms k)
shallow-tag_marks [] k h = tt
shallow-tag_marks (m ∷ ms) k h = (h.0, shallow-tag_marks ms k h.1)

-- ---- what a token sees of what follows it

pub record SeesSame (k j : List Lexeme) : Type 0 where
  pub all : begins_all_of k ≡ begins_all_of j
  pub star : begins_star k ≡ begins_star j
  pub empty : is_empty k ≡ is_empty j

tag_sign_by : (s : Sign) (k j : List Lexeme) → SeesSame k j → tag_sign s k ≡ tag_sign s j
tag_sign_by sign.Semicolon k j h = ap (λ (b : Bool). if b then class.LastSemicolon else class.Sign sign.Semicolon) h.empty
tag_sign_by _ k j h = refl

tag_class_by : (c : Class) (k j : List Lexeme) → SeesSame k j → tag_class c k ≡ tag_class c j
tag_class_by class.Name k j h = ap (λ (b : Bool). if b then class.AllOf else class.Name) h.all
tag_class_by (class.Context w) k j h = ap (λ (b : Bool). if b then class.AllOf else class.Context w) h.all
tag_class_by (class.Sign s) k j h = tag_sign_by s k j h
tag_class_by _ k j h = refl

pub tag_by : (t : Lexeme) (k j : List Lexeme) → SeesSame k j → tag t k ≡ tag t j
tag_by t k j h = ap (λ (c : Class). let u : Lexeme = record { class = c; token = t.token } in u) (tag_class_by t.class k j h)

sees_after : (q k j : List Lexeme) → SeesSame k j → SeesSame (q ++ k) (q ++ j)
sees_after [] k j h = h
sees_after (t ∷ q) k j h = record { all = ap (λ (b : Bool). dot_class t.class && b) (sees_after q k j h).star; star = refl; empty = refl }

pub tags_by : (q k j : List Lexeme) → SeesSame k j → tags q k ≡ tags q j
tags_by [] k j h = refl
tags_by (t ∷ q) k j h = ap₂ (λ (u : Lexeme) (w : List Lexeme). u ∷ w) (tag_by t (q ++ k) (q ++ j) (sees_after q k j h)) (tags_by q k j h)

-- there are four kinds of what follows
pub data Kind : Type 0 where
  Nothing_more : Kind
  Other : Kind
  Star_next : Kind
  All_of_next : Kind

abbrev plain_of : Class → Lexeme
plain_of c = record { class = c; token = record { kind = kind.Name; start = 0; end = 0 } }

abbrev pub example : Kind → List Lexeme
example Nothing_more = []
example Other = plain_of class.Int ∷ []
example Star_next = plain_of (class.Sign sign.Star) ∷ []
example All_of_next = plain_of (class.Sign sign.Dot) ∷ plain_of (class.Sign sign.Star) ∷ []

dot_no_star : (c : Class) → star_class c ≡ true → dot_class c ≡ false
dot_no_star (class.Sign sign.Star) h = refl
dot_no_star _ h = absurd cc

kind_at : (t : Lexeme) (ts : List Lexeme) (s b : Bool) → star_class t.class ≡ s → begins_all_of (t ∷ ts) ≡ b → (κ : Kind) × SeesSame (t ∷ ts) (example κ)
kind_at t ts true b e f = (Star_next, record { all = ap (λ (v : Bool). v && begins_star ts) (dot_no_star t.class e); star = e; empty = refl })
kind_at t ts false true e f = (All_of_next, record { all = f; star = e; empty = refl })
kind_at t ts false false e f = (Other, record { all = f; star = e; empty = refl })

pub kind_of : (k : List Lexeme) → (κ : Kind) × SeesSame k (example κ)
kind_of [] = (Nothing_more, record { all = refl; star = refl; empty = refl })
kind_of (t ∷ ts) = kind_at t ts (star_class t.class) (begins_all_of (t ∷ ts)) refl refl

-- ---- classes that no following token changes

abbrev pub calm_sign : Sign → Bool
calm_sign sign.Dot = false
calm_sign sign.Semicolon = false
calm_sign _ = true

abbrev pub calm : Class → Bool
calm class.AllOf = false
calm class.LastSemicolon = false
calm (class.Sign s) = calm_sign s
calm _ = true

-- sorts of which each token is calm
abbrev pub calm_sort : Sort → Bool
calm_sort (sort.Sign s) = calm_sign s
calm_sort sort.AllOf = false
calm_sort sort.Separator = false
calm_sort sort.LastSemicolon = false
calm_sort sort.AnySemicolon = false
calm_sort _ = true

pub calm_of : (s : Sort) (c : Class) → calm_sort s ≡ true → is_class s c ≡ true → calm c ≡ true
unfolding is_class
calm_of (sort.Word w) (class.Word v) h i = refl
calm_of (sort.Word w) _ h i = absurd cc
calm_of sort.Name class.Name h i = refl
calm_of sort.Name (class.Context v) h i = refl
calm_of sort.Name _ h i = absurd cc
calm_of (sort.Context w) (class.Context v) h i = refl
calm_of (sort.Context w) _ h i = absurd cc
calm_of sort.Parameter class.Parameter h i = refl
calm_of sort.Parameter _ h i = absurd cc
calm_of sort.Int class.Int h i = refl
calm_of sort.Int _ h i = absurd cc
calm_of sort.Str class.Str h i = refl
calm_of sort.Str _ h i = absurd cc
calm_of sort.Bytes class.Bytes h i = refl
calm_of sort.Bytes _ h i = absurd cc
calm_of (sort.Sign w) (class.Sign v) h i = ap calm_sign (sym (same_true sign_type (search rules) w v i)) ∙ h
calm_of (sort.Sign w) _ h i = absurd cc
calm_of _ c h i = absurd cc

sign_kept : (s : Sign) (k : List Lexeme) → calm_sign s ≡ true → tag_sign s k ≡ class.Sign s
sign_kept sign.Semicolon k h = absurd cc
sign_kept _ k h = refl

pub calm_kept : (c : Class) (k : List Lexeme) → calm c ≡ true → begins_all_of k ≡ false → tag_class c k ≡ c
calm_kept class.Name k h e = ap (λ (b : Bool). if b then class.AllOf else class.Name) e
calm_kept (class.Context w) k h e = ap (λ (b : Bool). if b then class.AllOf else class.Context w) e
calm_kept (class.Sign s) k h e = sign_kept s k h
calm_kept _ k h e = refl

calm_no_dot : (c : Class) → calm c ≡ true → dot_class c ≡ false
calm_no_dot (class.Sign sign.Dot) h = absurd cc
calm_no_dot _ h = refl

pub calm_clear : (t : Lexeme) (k : List Lexeme) → calm t.class ≡ true → begins_all_of (t ∷ k) ≡ false
calm_clear t k h = ap (λ (b : Bool). b && begins_star k) (calm_no_dot t.class h)

-- ---- openings

abbrev pub opening_sign : Sign → Bool
opening_sign sign.Dot = false
opening_sign sign.Star = false
opening_sign sign.Semicolon = false
opening_sign _ = true

-- neither a name nor a dot nor a star nor a semicolon
abbrev pub opening : Class → Bool
opening (class.Word w) = true
opening (class.Sign s) = opening_sign s
opening _ = false

abbrev pub opening_sort : Sort → Bool
opening_sort (sort.Word w) = true
opening_sort (sort.Sign s) = opening_sign s
opening_sort _ = false

pub opening_of : (s : Sort) (c : Class) → opening_sort s ≡ true → is_class s c ≡ true → opening c ≡ true
unfolding is_class
opening_of (sort.Word w) (class.Word v) h i = refl
opening_of (sort.Word w) _ h i = absurd cc
opening_of (sort.Sign w) (class.Sign v) h i = ap opening_sign (sym (same_true sign_type (search rules) w v i)) ∙ h
opening_of (sort.Sign w) _ h i = absurd cc
opening_of _ c h i = absurd cc

opening_sign_kept : (s : Sign) (k : List Lexeme) → opening_sign s ≡ true → tag_sign s k ≡ class.Sign s
opening_sign_kept sign.Semicolon k h = absurd cc
opening_sign_kept _ k h = refl

opening_kept : (c : Class) (k : List Lexeme) → opening c ≡ true → tag_class c k ≡ c
opening_kept (class.Word w) k h = refl
opening_kept (class.Sign s) k h = opening_sign_kept s k h
opening_kept _ k h = absurd cc

opening_no_dot : (c : Class) → opening c ≡ true → dot_class c ≡ false
opening_no_dot (class.Sign sign.Dot) h = absurd cc
opening_no_dot _ h = refl

-- what follows an opening changes neither it nor what comes before it
pub opening_tag : (t : Lexeme) (k j : List Lexeme) → opening t.class ≡ true → tag t k ≡ tag t j
opening_tag t k j h = ap (λ (c : Class). let u : Lexeme = record { class = c; token = t.token } in u) (opening_kept t.class k h ∙ sym (opening_kept t.class j h))

pub opening_sees : (t : Lexeme) (k j : List Lexeme) → opening t.class ≡ true → SeesSame (t ∷ k) (t ∷ j)
opening_sees t k j h = record {
  all = ap (λ (b : Bool). b && begins_star k) (opening_no_dot t.class h) ∙ sym (ap (λ (b : Bool). b && begins_star j) (opening_no_dot t.class h));
  star = refl;
  empty = refl;
}

-- the first mark past the greatest number of openings, if there is one, is an opening
abbrev pub OpensFirst : Marks → Type 0
OpensFirst [] = Unit {0}
OpensFirst (m ∷ ms) = ((m.1 ≤ most_openings) × OpensFirst ms) ⊎ ((most_openings < m.1) × (opening m.0.class ≡ true))

pub opens-append : (a b : Marks) → OpensFirst a → OpensFirst b → OpensFirst (a ++ b)
opens-append [] b h i = i
opens-append (m ∷ a) b h i = elim h [ inl j ↦ inl (j.0, opens-append a b j.1 i) | inr j ↦ inr j ]

-- ---- a token with the class that it has by itself

abbrev pub untag_class : Option Context → Class → Class
untag_class o class.AllOf = name_class o
untag_class o class.LastSemicolon = class.Sign sign.Semicolon
untag_class o c = c

abbrev pub untag : List ℕ → Lexeme → Lexeme
untag text t = record { class = untag_class (context_word (token_bytes text t.token)) t.class; token = t.token }

abbrev pub untag_marks : List ℕ → Marks → Marks
untag_marks text [] = []
untag_marks text (m ∷ ms) = (untag text m.0, m.1) ∷ untag_marks text ms

pub untag_marks-append : (text : List ℕ) (a b : Marks) → untag_marks text (a ++ b) ≡ untag_marks text a ++ untag_marks text b
untag_marks-append text [] b = refl
untag_marks-append text (m ∷ a) b = ap (λ (w : Marks). (untag text m.0, m.1) ∷ w) (untag_marks-append text a b)

pub words-untag_marks : (text : List ℕ) (ms : Marks) → words (untag_marks text ms) ≡ map (untag text) (words ms)
words-untag_marks text [] = refl
words-untag_marks text (m ∷ ms) = ap (λ (w : List Lexeme). untag text m.0 ∷ w) (words-untag_marks text ms)

pub shallow-untag_marks : (text : List ℕ) (ms : Marks) → Shallow ms → Shallow (untag_marks text ms)
shallow-untag_marks text [] h = tt
shallow-untag_marks text (m ∷ ms) h = (h.0, shallow-untag_marks text ms h.1)

pub calm_untagged : (o : Option Context) (c : Class) → calm c ≡ true → untag_class o c ≡ c
calm_untagged o class.AllOf h = absurd cc
calm_untagged o class.LastSemicolon h = absurd cc
calm_untagged o _ h = refl

-- ---- the tokens of a text

dot_name : (o : Option Context) → dot_class (name_class o) ≡ false
dot_name None = refl
dot_name (Some w) = refl

star_name : (o : Option Context) → star_class (name_class o) ≡ false
star_name None = refl
star_name (Some w) = refl

dot_sign : (s : Sign) → dot_class (class.Sign s) ≡ is_dot (kind.Sign s)
dot_sign sign.Dot = refl
dot_sign _ = refl

star_sign : (s : Sign) → star_class (class.Sign s) ≡ is_star (kind.Sign s)
star_sign sign.Star = refl
star_sign _ = refl

dot_same : (κ : TokenKind) (bytes : List ℕ) → dot_class (plain_class κ bytes) ≡ is_dot κ
dot_same kind.Name bytes = dot_name (context_word bytes)
dot_same (kind.Sign s) bytes = dot_sign s
dot_same _ bytes = refl

star_same : (κ : TokenKind) (bytes : List ℕ) → star_class (plain_class κ bytes) ≡ is_star κ
star_same kind.Name bytes = star_name (context_word bytes)
star_same (kind.Sign s) bytes = star_sign s
star_same _ bytes = refl

begins_same : (text : List ℕ) (ts : List Token) → begins_all_of (plain_lexemes text ts) ≡ starts_all_of ts
begins_same text [] = refl
begins_same text (s ∷ []) = and-false (dot_class (plain_class s.kind (token_bytes text s)))
begins_same text (s ∷ t ∷ ts) = ap₂ (λ (a b : Bool). a && b) (dot_same s.kind (token_bytes text s)) (star_same t.kind (token_bytes text t))

name_by : (o : Option Context) (k : List Lexeme) (b : Bool) → begins_all_of k ≡ b → (if b then class.AllOf else name_class o) ≡ tag_class (name_class o) k
name_by None k b e = ap (λ (v : Bool). if v then class.AllOf else class.Name) (sym e)
name_by (Some w) k b e = ap (λ (v : Bool). if v then class.AllOf else class.Context w) (sym e)

last_by : (text : List ℕ) (ts : List Token) → semicolon_class ts ≡ tag_sign sign.Semicolon (plain_lexemes text ts)
last_by text [] = refl
last_by text (t ∷ ts) = refl

sign_by : (s : Sign) (text : List ℕ) (ts : List Token) → sign_class s ts ≡ tag_sign s (plain_lexemes text ts)
sign_by sign.Semicolon text ts = last_by text ts
sign_by _ text ts = refl

class_by : (κ : TokenKind) (bytes text : List ℕ) (ts : List Token) → kind_class κ bytes ts ≡ tag_class (plain_class κ bytes) (plain_lexemes text ts)
class_by kind.Name bytes text ts = name_by (context_word bytes) (plain_lexemes text ts) (starts_all_of ts) (begins_same text ts)
class_by (kind.Sign s) bytes text ts = sign_by s text ts
class_by _ bytes text ts = refl

pub tags_of_text : (text : List ℕ) (ts : List Token) → lexemes_of text ts ≡ tags (plain_lexemes text ts) []
unfolding lexemes_of
tags_of_text text [] = refl
tags_of_text text (t ∷ ts) =
    ap₂ (λ (c : Class) (w : List Lexeme). let u : Lexeme = record { class = c; token = t } in u ∷ w)
    (class_by t.kind (token_bytes text t) text ts ∙ ap (tag_class (plain_class t.kind (token_bytes text t))) (sym (append-nil (plain_lexemes text ts))))
    (tags_of_text text ts)

-- tokens that are what they are by themselves
abbrev pub IsPlain : List ℕ → Lexeme → Type 0
IsPlain text t = (k : List Lexeme) → untag text (tag t k) ≡ t

abbrev pub ArePlain : List ℕ → List Lexeme → Type 0
ArePlain text [] = Unit {0}
ArePlain text (t ∷ ts) = IsPlain text t × ArePlain text ts

plain_name : (o : Option Context) (k : List Lexeme) → untag_class o (tag_class (name_class o) k) ≡ name_class o
plain_name None k = elim (begins_all_of k) as (λ (b : Bool). untag_class None (if b then class.AllOf else class.Name) ≡ class.Name) [ true ↦ refl | false ↦ refl ]
plain_name (Some w) k = elim (begins_all_of k) as (λ (b : Bool). untag_class (Some w) (if b then class.AllOf else class.Context w) ≡ class.Context w) [ true ↦ refl | false ↦ refl ]

plain_sign : (o : Option Context) (s : Sign) (k : List Lexeme) → untag_class o (tag_sign s k) ≡ class.Sign s
plain_sign o sign.Semicolon k = elim (is_empty k) as (λ (b : Bool). untag_class o (if b then class.LastSemicolon else class.Sign sign.Semicolon) ≡ class.Sign sign.Semicolon) [ true ↦ refl | false ↦ refl ]
plain_sign o _ k = refl

plain_kind : (κ : TokenKind) (bytes : List ℕ) (k : List Lexeme) → untag_class (context_word bytes) (tag_class (plain_class κ bytes) k) ≡ plain_class κ bytes
plain_kind kind.Name bytes k = plain_name (context_word bytes) k
plain_kind (kind.Sign s) bytes k = plain_sign (context_word bytes) s k
plain_kind _ bytes k = refl

pub are_plain : (text : List ℕ) (ts : List Token) → ArePlain text (plain_lexemes text ts)
are_plain text [] = tt
are_plain text (t ∷ ts) = (
  λ k. ap (λ (c : Class). let u : Lexeme = record { class = c; token = t } in u) (plain_kind t.kind (token_bytes text t) k),
  are_plain text ts,
)

pub plain_left : (text : List ℕ) (a b : List Lexeme) → ArePlain text (a ++ b) → ArePlain text a
plain_left text [] b h = tt
plain_left text (t ∷ a) b h = (h.0, plain_left text a b h.1)

pub untag_tags : (text : List ℕ) (q k : List Lexeme) → ArePlain text q → map (untag text) (tags q k) ≡ q
untag_tags text [] k h = refl
untag_tags text (t ∷ q) k h = ap₂ (λ (u : Lexeme) (w : List Lexeme). u ∷ w) (h.0 (q ++ k)) (untag_tags text q k h.1)
