-- The one type of many operands, and operands by their number.
use Rattle.std.proofs.Common.{◌≡◌, ℕ, suc, ◌<◌, List, [], ◌∷◌, ◌++◌, map, drop, length, get_or, Option, Ok, Err, refl, ap, sym, ◌∙◌}
use Rattle.std.proofs.Math.Seq.{drop-cons}
use Rattle.span_value.specs.declared.value.Kind.{Kind}
use Rattle.span_value.specs.declared.refusal.Refusal.{Refusal}
use Rattle.span_value.specs.declared.refusal.Refusal.TheVariants.{TypeMismatch}
use Rattle.span_operators.specs.declared.typed.Typed.{Typed}
use Rattle.span_value.specs.Results.{and_then}
use Rattle.span_operators.specs.Kinds.{common_kind, common_kind_with}
use Rattle.span_operators.specs.Operators.{one_of, two_of, three_of}

-- a refusal stays one
pub refused_stays : (ks : List (Option Kind)) (why : Refusal) → common_kind_with ks (Err why) ≡ Err why
refused_stays [] why = refl
refused_stays (k ∷ ks) why = refl

-- a type that does not agree with those before it
pub agreed_refused : {T : Type 0} (f : T → Option Kind) (ts : List T) (k : ℕ) (t : T) (j : Option Kind) (why : Refusal) → k < length ts → t ≡ get_or ts k t → common_kind j (f t) ≡ Err why → common_kind_with (map f (drop k ts)) (Ok j) ≡ Err why
agreed_refused f ts k t j why below is differ =
    ap (λ (l : List _). common_kind_with (map f l) (Ok j)) (drop-cons ts k t below ∙ ap (λ (x : _). x ∷ drop (suc k) ts) (sym is))
    ∙ ap (common_kind_with (map f (drop (suc k) ts))) differ ∙ refused_stays (map f (drop (suc k) ts)) why

pub ruleset kind_steps = (refused_stays)

-- four or more are not three
four_or_more : (x y w : Typed) (ws : List Typed) (z : Typed) → three_of (x ∷ y ∷ w ∷ (ws ++ (z ∷ []))) ≡ Err TypeMismatch
four_or_more x y w [] z = refl
four_or_more x y w (v ∷ vs) z = refl

-- three are two and one after them
pub three_after : (xs : List Typed) (z : Typed) → three_of (xs ++ (z ∷ [])) ≡ and_then (two_of xs) (λ p. Ok (p.0, p.1, z))
three_after [] z = refl
three_after (x ∷ []) z = refl
three_after (x ∷ y ∷ []) z = refl
three_after (x ∷ y ∷ w ∷ ws) z = four_or_more x y w ws z

-- two are one and one after it
pub two_after : (xs : List Typed) (z : Typed) → two_of (xs ++ (z ∷ [])) ≡ and_then (one_of xs) (λ x. Ok (x, z))
two_after [] z = refl
two_after (x ∷ []) z = refl
two_after (x ∷ y ∷ []) z = refl
two_after (x ∷ y ∷ w ∷ ws) z = refl

pub ruleset counting = (two_after, three_after)
