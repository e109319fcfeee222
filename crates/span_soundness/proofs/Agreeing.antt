-- What the one type of several operands implies for each.
use Rattle.std.proofs.Common.{◌≡◌, refl, subst, true, false, Bool, if◌then◌else◌, List, [], ◌∷◌, Option, Some, None, Result, Ok, Err}
use Rattle.std.specs.List.{AllByRecursion}
use Rattle.span_value.specs.declared.value.Kind.{Kind}
use Rattle.span_value.specs.declared.value.Kind.TheVariants as kind
use Rattle.span_value.specs.declared.refusal.Refusal.{Refusal}
use Rattle.span_value.specs.declared.refusal.Refusal.TheVariants.{TypeMismatch}
use Rattle.span_operators.specs.Kinds.{takes, common_kind, common_kind_with, common_kind_of_all, or_int, text_kind}
use Rattle.span_value.specs.Results.{and_then}
use Rattle.span_soundness.specs.Types.{are_same, is_text}
use Rattle.span_soundness.proofs.Sameness.{same_kind, is_same}

-- what holds of what was made, if it was
abbrev pub Made : {A : Type 0} → (A → Type 0) → Result A Refusal → Type 0
Made P (Ok x) = P x
Made P (Err why) = Unit {0}

pub then_made : {A B : Type 0} (P : A → Type 0) (Q : B → Type 0) (r : Result A Refusal) (f : A → Result B Refusal) → Made P r → ((x : A) → P x → Made Q (f x)) → Made Q (and_then r f)
then_made P Q (Ok x) f is follows = follows x is
then_made P Q (Err why) f is follows = tt {0}

pub made_so : {A : Type 0} (P Q : A → Type 0) (r : Result A Refusal) → Made P r → ((x : A) → P x → Q x) → Made Q r
made_so P Q (Ok x) is follows = follows x is
made_so P Q (Err why) is follows = tt {0}

-- what is made only if a test passes
pub made_if : {A : Type 0} (P : A → Type 0) (b : Bool) (x : A) (why : Refusal) → (b ≡ true → P x) → Made P (if b then Ok x else Err why)
made_if P true x why follows = follows refl
made_if P false x why follows = tt {0}

-- an operand of the second type fits wherever one of the first does
abbrev pub Covers : Option Kind → Option Kind → Type 0
Covers j k = (wanted : Kind) → takes wanted j ≡ true → takes wanted k ≡ true

abbrev pub AllCovered : Option Kind → List (Option Kind) → Type 0
AllCovered j [] = Unit {0}
AllCovered j (k ∷ ks) = Covers j k × AllCovered j ks

abbrev pub CoversBoth : Option Kind → Option Kind → Option Kind → Type 0
CoversBoth a b j = Covers j a × Covers j b

pub agreed_covers : (a b : Option Kind) → Made (CoversBoth a b) (common_kind a b)
unfolding common_kind
agreed_covers None b = (λ wanted is. refl, λ wanted is. is)
agreed_covers (Some j) None = (λ wanted is. is, λ wanted is. refl)
agreed_covers (Some j) (Some k) = made_if (CoversBoth (Some j) (Some k)) (are_same j k) (Some j) TypeMismatch (λ same. (λ wanted is. is, λ wanted is. subst (λ (t : Kind). takes wanted (Some t) ≡ true) (same_kind j k same) is))

abbrev pub CoversAll : Option Kind → List (Option Kind) → Option Kind → Type 0
CoversAll j ks r = Covers r j × AllCovered r ks

refused : (P : Option Kind → Type 0) (ks : List (Option Kind)) (why : Refusal) → Made P (common_kind_with ks (Err why))
refused P [] why = tt {0}
refused P (k ∷ ks) why = tt {0}

covers_more : (ks : List (Option Kind)) (j k i : Option Kind) → CoversBoth j k i → (r : Result (Option Kind) Refusal) → Made (CoversAll i ks) r → Made (CoversAll j (k ∷ ks)) r
covers_more ks j k i both (Ok r) all = (λ wanted is. both.0 wanted (all.0 wanted is), (λ wanted is. both.1 wanted (all.0 wanted is), all.1))
covers_more ks j k i both (Err why) all = tt {0}

with_covers : (ks : List (Option Kind)) (j : Option Kind) → Made (CoversAll j ks) (common_kind_with ks (Ok j))
with_covers [] j = (λ wanted is. is, tt {0})
with_covers (k ∷ ks) j = go (with_covers ks) (common_kind j k) (agreed_covers j k) where
  go : ((i : Option Kind) → Made (CoversAll i ks) (common_kind_with ks (Ok i))) → (o : Result (Option Kind) Refusal) → Made (CoversBoth j k) o → Made (CoversAll j (k ∷ ks)) (common_kind_with ks o)
  go rest (Ok i) both = covers_more ks j k i both (common_kind_with ks (Ok i)) (rest i)
  go rest (Err why) both = refused (CoversAll j (k ∷ ks)) ks why

pub all_covered : (ks : List (Option Kind)) → Made (λ (r : Option Kind). AllCovered r ks) (common_kind_of_all ks)
all_covered ks = go (common_kind_of_all ks) (with_covers ks None) where
  go : (r : Result (Option Kind) Refusal) → Made (CoversAll None ks) r → Made (λ (r : Option Kind). AllCovered r ks) r
  go (Ok r) all = all.1
  go (Err why) all = tt {0}

-- an operand of the type fits where this is wanted
abbrev pub Takes : Kind → Option Kind → Type 0
Takes wanted k = takes wanted k ≡ true

pub all_take : (wanted : Kind) (j : Option Kind) (ks : List (Option Kind)) → takes wanted j ≡ true → AllCovered j ks → AllByRecursion (Takes wanted) ks
all_take wanted j [] is all = tt {0}
all_take wanted j (k ∷ ks) is all = (all.0 wanted is, all_take wanted j ks is all.1)

-- one of its type fits where its type is wanted
pub takes_own : (j : Option Kind) → takes (or_int j) j ≡ true
unfolding or_int
takes_own None = refl
takes_own (Some k) = is_same k

-- that of two strings or of two BYTES
abbrev pub IsText : Option Kind → Kind → Type 0
IsText j k = (is_text k ≡ true) × (takes k j ≡ true)

pub text_is : (j : Option Kind) → Made (IsText j) (text_kind j)
unfolding text_kind
text_is None = (refl, refl)
text_is (Some kind.Str) = (refl, refl)
text_is (Some kind.Bytes) = (refl, refl)
text_is (Some kind.Int) = tt {0}
text_is (Some kind.Bool) = tt {0}
