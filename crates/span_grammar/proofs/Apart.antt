-- Sets of tokens, by number, and what they say of a rule.
use Rattle.std.proofs.Common.{◌≡◌, inl, inr, ℕ, ◌==◌, Bool, true, false, List, [], ◌∷◌, ◌++◌, refl, sym, ap, ◌∙◌, eqb-true, eq-eqb, rules}
use Rattle.std.specs.Prelude.{if◌then◌else◌, ◌||◌, ◌&&◌, not}
use Rattle.std.proofs.lemmas.Bool.{and_parts, or_cases}
use denote.Enum.Bare.{same_true}
use Rattle.span_grammar.specs.declared.class.Class.{Class}
use Rattle.span_grammar.specs.declared.class.Lexeme.{Lexeme}
use Rattle.span_grammar.specs.declared.class.Class.TheVariants as class
use Rattle.span_grammar.specs.declared.class.Sort.{Sort}
use Rattle.span_grammar.specs.declared.class.Sort.TheVariants as sort
use Rattle.span_lexer.specs.declared.token.Sign.TheVariants as sign
use Rattle.span_lexer.specs.contracts.token.Word.{the_type as word_type}
use Rattle.span_lexer.specs.contracts.token.Sign.{the_type as sign_type}
use Rattle.span_grammar.specs.contracts.class.Context.{the_type as context_type}
use Rattle.span_grammar.specs.declared.grammar.Place.{Place}
use Rattle.span_grammar.specs.Rules.{is_class, Rule, Empty, One, Then, Or, Many, Open, is_nullable, first}
use Rattle.span_grammar.proofs.Follow.{goes_on, Good}
use Rattle.span_grammar.proofs.Tables.{code, word_code, context_code, sign_code, sort_codes, place_codes}
use Rattle.span_lexer.specs.declared.token.Word.{Word}
use Rattle.span_lexer.specs.declared.token.Sign.{Sign}
use Rattle.span_grammar.specs.declared.class.Context.{Context}
use Rattle.span_grammar.specs.declared.class.Context.TheVariants as context

-- ---- sets of numbers

abbrev pub has : List ℕ → ℕ → Bool
has [] n = false
has (x ∷ xs) n = (n == x) || has xs n

-- every number of the first is in the second
abbrev pub covers : List ℕ → List ℕ → Bool
covers [] ys = true
covers (x ∷ xs) ys = has ys x && covers xs ys

abbrev pub apart : List ℕ → List ℕ → Bool
apart [] ys = true
apart (x ∷ xs) ys = not (has ys x) && apart xs ys

covered : (xs ys : List ℕ) (n : ℕ) → covers xs ys ≡ true → has xs n ≡ true → has ys n ≡ true
covered [] ys n c h = absurd cc
covered (x ∷ xs) ys n c h =
    let two = and_parts (has ys x) (covers xs ys) c in
    elim (or_cases (n == x) (has xs n) h) [ inl e ↦ ap (has ys) (eqb-true n x e) ∙ two.0 | inr e ↦ covered xs ys n two.1 e ]

not_both : (b : Bool) → not b ≡ true → b ≡ true → ⊥
not_both true e f = absurd cc
not_both false e f = absurd cc

never : (xs ys : List ℕ) (n : ℕ) → apart xs ys ≡ true → has xs n ≡ true → has ys n ≡ true → ⊥
never [] ys n a h k = absurd cc
never (x ∷ xs) ys n a h k =
    let two = and_parts (not (has ys x)) (apart xs ys) a in
    elim (or_cases (n == x) (has xs n) h) [ inl e ↦ not_both (has ys x) two.0 (ap (has ys) (sym (eqb-true n x e)) ∙ k) | inr e ↦ never xs ys n two.1 e k ]

has_left : (xs ys : List ℕ) (n : ℕ) → has xs n ≡ true → has (xs ++ ys) n ≡ true
has_left [] ys n h = absurd cc
has_left (x ∷ xs) ys n h = elim (n == x) as (λ v. (v || has xs n) ≡ true → (v || has (xs ++ ys) n) ≡ true) [ true ↦ λ e. refl | false ↦ λ e. has_left xs ys n e ] h

has_right : (xs ys : List ℕ) (n : ℕ) → has ys n ≡ true → has (xs ++ ys) n ≡ true
has_right [] ys n h = h
has_right (x ∷ xs) ys n h = elim (n == x) as (λ v. (v || has (xs ++ ys) n) ≡ true) [ true ↦ refl | false ↦ has_right xs ys n h ]

-- ---- sorts

itself : (n : ℕ) → has (n ∷ []) n ≡ true
itself n = ap (λ (v : Bool). v || false) (eq-eqb n n refl)

context_is_name : (v : Context) → has (sort_codes sort.Name) (context_code v) ≡ true
context_is_name context.Offset = refl
context_is_name context.Table = refl
context_is_name context.Primary = refl
context_is_name context.Key = refl
context_is_name context.Interleave = refl
context_is_name context.Parent = refl
context_is_name context.Delete = refl
context_is_name context.Cascade = refl
context_is_name context.No = refl
context_is_name context.Action = refl
context_is_name context.Int64 = refl
context_is_name context.Bool = refl
context_is_name context.String = refl
context_is_name context.Bytes = refl
context_is_name context.Max = refl

in_sort : (s : Sort) (t : Class) → is_class s t ≡ true → has (sort_codes s) (code t) ≡ true
unfolding is_class
in_sort (sort.Word w) (class.Word v) h = ap (λ (x : Word). has (word_code x ∷ []) (word_code v)) (same_true word_type (search rules) w v h) ∙ itself (word_code v)
in_sort (sort.Word w) _ h = absurd cc
in_sort sort.Name class.Name h = refl
in_sort sort.Name (class.Context v) h = context_is_name v
in_sort sort.Name _ h = absurd cc
in_sort (sort.Context w) (class.Context v) h = ap (λ (x : Context). has (context_code x ∷ []) (context_code v)) (same_true context_type (search rules) w v h) ∙ itself (context_code v)
in_sort (sort.Context w) _ h = absurd cc
in_sort sort.AllOf class.AllOf h = refl
in_sort sort.AllOf _ h = absurd cc
in_sort sort.Parameter class.Parameter h = refl
in_sort sort.Parameter _ h = absurd cc
in_sort sort.Int class.Int h = refl
in_sort sort.Int _ h = absurd cc
in_sort sort.Str class.Str h = refl
in_sort sort.Str _ h = absurd cc
in_sort sort.Bytes class.Bytes h = refl
in_sort sort.Bytes _ h = absurd cc
in_sort (sort.Sign w) (class.Sign v) h = ap (λ (x : Sign). has (sign_code x ∷ []) (sign_code v)) (same_true sign_type (search rules) w v h) ∙ itself (sign_code v)
in_sort (sort.Sign w) _ h = absurd cc
in_sort sort.Separator (class.Sign v) h = ap (λ (x : Sign). has (sort_codes sort.Separator) (sign_code x)) (sym (same_true sign_type (search rules) sign.Semicolon v h))
in_sort sort.Separator _ h = absurd cc
in_sort sort.LastSemicolon class.LastSemicolon h = refl
in_sort sort.LastSemicolon _ h = absurd cc
in_sort sort.AnySemicolon (class.Sign v) h = ap (λ (x : Sign). has (sort_codes sort.AnySemicolon) (sign_code x)) (sym (same_true sign_type (search rules) sign.Semicolon v h))
in_sort sort.AnySemicolon class.LastSemicolon h = refl
in_sort sort.AnySemicolon _ h = absurd cc

-- ---- what is known of a rule

abbrev pub st : Place → Lexeme → Bool
st p t = has (place_codes p) (code t.class)

pub record Facts (r : Rule) (f g : List ℕ) : Type 0 where
  pub begins : (t : Lexeme) → first r t ≡ true → has f (code t.class) ≡ true
  pub goes : (t : Lexeme) → goes_on st r t ≡ true → has g (code t.class) ≡ true
  pub good : Good st r

pub one_facts : (s : Sort) → Facts (One s) (sort_codes s) []
one_facts s = record { begins = λ t e. in_sort s t.class e; goes = λ t e. absurd cc; good = tt }

pub empty_facts : Facts Empty [] []
empty_facts = record { begins = λ t e. absurd cc; goes = λ t e. absurd cc; good = tt }

pub open_facts : (s : Sort) (p : Place) → Facts (Open s p) (sort_codes s) (place_codes p)
open_facts s p = record { begins = λ t e. in_sort s t.class e; goes = λ t e. e; good = tt }

both_sets : (n : Bool) (xs ys zs : List ℕ) (k : ℕ) (a b : Bool) → covers (if n then xs ++ ys else xs) zs ≡ true → (a ≡ true → has xs k ≡ true) → (b ≡ true → has ys k ≡ true) → (a || (n && b)) ≡ true → has zs k ≡ true
both_sets true xs ys zs k a b c f g h = elim (or_cases a b h) [ inl e ↦ covered (xs ++ ys) zs k c (has_left xs ys k (f e)) | inr e ↦ covered (xs ++ ys) zs k c (has_right xs ys k (g e)) ]
both_sets false xs ys zs k a b c f g h = elim (or_cases a false h) [ inl e ↦ covered xs zs k c (f e) | inr e ↦ absurd cc ]

pub then_facts : (a b : Rule) (fa ga fb gb f g : List ℕ) (na nb : Bool) → is_nullable a ≡ na → is_nullable b ≡ nb → Facts a fa ga → Facts b fb gb
    → (covers (if na then fa ++ fb else fa) f && (covers (if nb then gb ++ ga else gb) g && apart ga fb)) ≡ true → Facts (Then a b) f g
then_facts a b fa ga fb gb f g na nb ea eb x y h =
    let p = and_parts (covers (if na then fa ++ fb else fa) f) (covers (if nb then gb ++ ga else gb) g && apart ga fb) h in
    let q = and_parts (covers (if nb then gb ++ ga else gb) g) (apart ga fb) p.1 in
    record {
      begins = λ t e. both_sets na fa fb f (code t.class) (first a t) (first b t) p.0 (x.begins t) (y.begins t) (ap (λ (v : Bool). first a t || (v && first b t)) (sym ea) ∙ e);
      goes = λ t e. both_sets nb gb ga g (code t.class) (goes_on st b t) (goes_on st a t) q.0 (y.goes t) (x.goes t) (ap (λ (v : Bool). goes_on st b t || (v && goes_on st a t)) (sym eb) ∙ e);
      good = (x.good, y.good, λ t e i. never ga fb (code t.class) q.1 (x.goes t e) (y.begins t i));
    }

pub or_facts : (a b : Rule) (fa ga fb gb f g : List ℕ) (nb : Bool) → is_nullable a ≡ false → is_nullable b ≡ nb → Facts a fa ga → Facts b fb gb
    → (covers (fa ++ fb) f && (covers (ga ++ (if nb then gb ++ fa else gb)) g && apart fa fb)) ≡ true → Facts (Or a b) f g
or_facts a b fa ga fb gb f g nb ea eb x y h =
    let p = and_parts (covers (fa ++ fb) f) (covers (ga ++ (if nb then gb ++ fa else gb)) g && apart fa fb) h in
    let q = and_parts (covers (ga ++ (if nb then gb ++ fa else gb)) g) (apart fa fb) p.1 in
    record {
      begins = λ t e. both_sets true fa fb f (code t.class) (first a t) (first b t) p.0 (x.begins t) (y.begins t) e;
      goes = λ t e. both_sets true ga (if nb then gb ++ fa else gb) g (code t.class) (goes_on st a t) (goes_on st b t || (is_nullable b && first a t)) q.0 (x.goes t)
          (λ i. some_more nb gb fa (code t.class) (goes_on st b t) (first a t) (y.goes t) (x.begins t) (ap (λ (v : Bool). goes_on st b t || (v && first a t)) (sym eb) ∙ i)) e;
      good = (x.good, y.good, ea, λ t e i. never fa fb (code t.class) q.1 (x.begins t e) (y.begins t i));
    }
  where
    some_more : (n : Bool) (xs ys : List ℕ) (k : ℕ) (a b : Bool) → (a ≡ true → has xs k ≡ true) → (b ≡ true → has ys k ≡ true) → (a || (n && b)) ≡ true → has (if n then xs ++ ys else xs) k ≡ true
    some_more true xs ys k a b f g h = elim (or_cases a b h) [ inl e ↦ has_left xs ys k (f e) | inr e ↦ has_right xs ys k (g e) ]
    some_more false xs ys k a b f g h = elim (or_cases a false h) [ inl e ↦ f e | inr e ↦ absurd cc ]

pub many_facts : (a : Rule) (fa ga g : List ℕ) → is_nullable a ≡ false → Facts a fa ga → (covers (fa ++ ga) g && apart ga fa) ≡ true → Facts (Many a) fa g
many_facts a fa ga g ea x h =
    let p = and_parts (covers (fa ++ ga) g) (apart ga fa) h in
    record {
      begins = x.begins;
      goes = λ t e. both_sets true fa ga g (code t.class) (first a t) (goes_on st a t) p.0 (x.begins t) (x.goes t) e;
      good = (x.good, ea, λ t e i. never ga fa (code t.class) p.1 (x.goes t e) (x.begins t i));
    }
