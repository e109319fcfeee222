-- Steps, and what functions answered of them.
use Rattle.std.proofs.Common.{◌≡◌, ◌≢◌, ℕ, suc, ◌+◌, ◌<◌, List, [], ◌∷◌, map, drop, length, get_or, Result, Ok, Err, refl, sym, ap, subst, ◌∙◌, arith}
use Rattle.std.proofs.Math.Seq.{drop-cons}
use Rattle.std.specs.List.{fold}
use Rattle.span_value.specs.declared.refusal.Refusal.{Refusal}
use Rattle.span_value.specs.declared.refusal.Refusal.TheVariants as refusal
use Rattle.span_value.specs.Results.{and_then}
use Rattle.span_operators.specs.Steps.{TypingStep, from_result, ◌>>=◌, next_of, Gives, Leaves}

err_is : {X : Type 0} (v w : Refusal) → (let o : Result X Refusal = Err v in o) ≡ Err w → v ≡ w
err_is v w h = cc

pub not_ok : {X : Type 0} (v : Refusal) (x : X) → (let o : Result X Refusal = Err v in o) ≡ Ok x → ⊥
not_ok v x h = absurd cc

-- a refusal is passed on
failed : {S A B : Type 0} (v : Refusal) (r : Result B Refusal) (o : Result (A × S) Refusal) (next : A × S → Result (B × S) Refusal) (g : S) → (v ≢ refusal.OutOfMemory → o ≡ Err v) → Gives r (Err v) → Leaves r g (and_then o next)
failed v (Ok y) o next g h e = absurd (not_ok v y e)
failed v (Err w) o next g h e = λ n. let same : v ≡ w = err_is v w (e n) in ap (λ p. and_then p next) (h (λ m. n (sym same ∙ m))) ∙ ap (λ u. Err u) same

-- what is made of what was found
made : {S B : Type 0} (o : Result B Refusal) (r : Result B Refusal) (g : S) → Gives r o → Leaves r g (and_then o (λ y. Ok (y, g)))
made o (Ok y) g e = ap (λ p. and_then p (λ y. Ok (y, g))) e
made o (Err w) g e = λ n. ap (λ p. and_then p (λ y. Ok (y, g))) (e n)

-- of one operand
pub made_of : {S A B : Type 0} (s : TypingStep S A) (f : A → Result B Refusal) (g0 g1 : S) (l : Result A Refusal) (r : Result B Refusal) → Leaves l g1 (s g0) → Gives r (and_then l f) → Leaves r g1 ((s >>= (λ x. from_result (f x))) g0)
made_of s f g0 g1 (Ok x) r h e = subst (λ o. Leaves r g1 (and_then o (λ p. from_result (f p.0) p.1))) (sym h) (made (f x) r g1 e)
made_of s f g0 g1 (Err v) r h e = failed v r (s g0) (λ p. from_result (f p.0) p.1) g1 h e

-- a step after another
pub made_step : {S A B : Type 0} (s : TypingStep S A) (t : A → TypingStep S B) (g0 g1 g2 : S) (l : Result A Refusal) (r : Result B Refusal) → Leaves l g1 (s g0) → Leaves r g2 (and_then l (λ x. t x g1)) → Leaves r g2 ((s >>= t) g0)
made_step s t g0 g1 g2 (Ok x) r h e = subst (λ o. Leaves r g2 (and_then o (λ p. t p.0 p.1))) (sym h) e
made_step s t g0 g1 g2 (Err v) (Ok y) h e = absurd (not_ok v (y, g2) e)
made_step s t g0 g1 g2 (Err v) (Err w) h e = failed v (Err w) (s g0) (λ p. t p.0 p.1) g2 h (λ n. ap (λ u. Err u) (err_is v w (e n)))

-- of two operands, where the second may depend on the first
pub made_of_two : {S A B C : Type 0} (s : TypingStep S A) (t : A → TypingStep S B) (f : A → B → Result C Refusal) (g0 g1 g2 : S) (l : Result A Refusal) (m : Result B Refusal) (r : Result C Refusal) → Leaves l g1 (s g0) → ((x : A) → l ≡ Ok x → Leaves m g2 (t x g1)) → Gives r (and_then l (λ x. and_then m (f x))) → Leaves r g2 ((s >>= (λ x. t x >>= (λ y. from_result (f x y)))) g0)
made_of_two s t f g0 g1 g2 (Ok x) m r h k e = subst (λ o. Leaves r g2 (and_then o (λ p. (t p.0 >>= (λ y. from_result (f p.0 y))) p.1))) (sym h) (made_of (t x) (f x) g1 g2 m r (k x refl) e)
made_of_two s t f g0 g1 g2 (Err v) m r h k e = failed v r (s g0) (λ p. (t p.0 >>= (λ y. from_result (f p.0 y))) p.1) g2 h e

-- of three
pub made_of_three : {S A B C D : Type 0} (s : TypingStep S A) (t : A → TypingStep S B) (u : A → B → TypingStep S C) (f : A → B → C → Result D Refusal) (g0 g1 g2 g3 : S) (l : Result A Refusal) (m : Result B Refusal) (n : Result C Refusal) (r : Result D Refusal) → Leaves l g1 (s g0) → ((x : A) → l ≡ Ok x → Leaves m g2 (t x g1)) → ((x : A) (y : B) → l ≡ Ok x → m ≡ Ok y → Leaves n g3 (u x y g2)) → Gives r (and_then l (λ x. and_then m (λ y. and_then n (f x y)))) → Leaves r g3 ((s >>= (λ x. t x >>= (λ y. u x y >>= (λ z. from_result (f x y z))))) g0)
made_of_three s t u f g0 g1 g2 g3 (Ok x) m n r h k j e = subst (λ o. Leaves r g3 (and_then o (λ p. (t p.0 >>= (λ y. u p.0 y >>= (λ z. from_result (f p.0 y z)))) p.1))) (sym h) (made_of_two (t x) (u x) (f x) g1 g2 g3 m n r (k x refl) (λ y q. j x y refl q) e)
made_of_three s t u f g0 g1 g2 g3 (Err v) m n r h k j e = failed v r (s g0) (λ p. (t p.0 >>= (λ y. u p.0 y >>= (λ z. from_result (f p.0 y z)))) p.1) g3 h e

-- what is refused at the first step
pub stopped : {S A B : Type 0} (s : TypingStep S A) (t : A → TypingStep S B) (g0 g1 g : S) (l : Result A Refusal) (v : Refusal) → Leaves l g1 (s g0) → l ≡ Err v → Leaves {A = B} (Err v) g ((s >>= t) g0)
stopped s t g0 g1 g l v h is = λ n.
    let err : v ≢ refusal.OutOfMemory → s g0 ≡ Err v = subst (λ (q : Result _ Refusal). Leaves q g1 (s g0)) is h in
    ap (λ (o : Result (_ × _) Refusal). and_then o (λ p. t p.0 p.1)) (err n)

-- at the second
pub stopped_second : {S A B C : Type 0} (s : TypingStep S A) (t : A → TypingStep S B) (u : A → B → TypingStep S C) (g0 g1 g2 g : S) (l : Result A Refusal) (x : A) (m : Result B Refusal) (v : Refusal) → Leaves l g1 (s g0) → l ≡ Ok x → Leaves m g2 (t x g1) → m ≡ Err v → Leaves {A = C} (Err v) g ((s >>= (λ x. t x >>= u x)) g0)
stopped_second s t u g0 g1 g2 g l x m v h is k stop =
    let ok : s g0 ≡ Ok (x, g1) = subst (λ (q : Result _ Refusal). Leaves q g1 (s g0)) is h in
    subst (λ (o : Result (_ × _) Refusal). Leaves (Err v) g (and_then o (λ p. (t p.0 >>= u p.0) p.1))) (sym ok) (stopped (t x) (u x) g1 g2 g m v k stop)

-- ---- what follows from operands that are there

-- from one operand
pub given : {A B : Type 0} (f : A → Result B Refusal) (l : Result A Refusal) (x : A) (r : Result B Refusal) → l ≡ Ok x → Gives r (f x) → Gives r (and_then l f)
given f l x r is e = subst (λ (o : Result _ Refusal). Gives r (and_then o f)) (sym is) e

pub refused_one : {A B : Type 0} (f : A → Result B Refusal) (l : Result A Refusal) (v : Refusal) → l ≡ Err v → Gives (Err v) (and_then l f)
refused_one f l v is = λ n. ap (λ (o : Result _ Refusal). and_then o f) is

same_pair : {A B : Type 0} (x : A) (y : B) (a : A) (b : B) → (let o : Result (A × B) Refusal = Ok (x, y) in o) ≡ Ok (a, b) → ◌≡◌ {A = A × B} (x, y) (a, b)
same_pair x y a b is = cc

-- a pair is made where the second is there
pub second_of : {A B : Type 0} (x : A) (m : Result B Refusal) (w : Result (A × B) Refusal) (a : A) (b : B) → w ≡ and_then m (λ y. Ok (x, y)) → w ≡ Ok (a, b) → m ≡ Ok b
second_of x (Ok y) w a b made is = ap (λ (p : _ × _). Ok p.1) (same_pair x y a b (sym made ∙ is))
second_of x (Err v) w a b made is = absurd (not_ok v (a, b) (sym made ∙ is))

pub first_of : {A B : Type 0} (x : A) (m : Result B Refusal) (w : Result (A × B) Refusal) (a : A) (b : B) → w ≡ and_then m (λ y. Ok (x, y)) → w ≡ Ok (a, b) → x ≡ a
first_of x (Ok y) w a b made is = ap (λ (p : _ × _). p.0) (same_pair x y a b (sym made ∙ is))
first_of x (Err v) w a b made is = absurd (not_ok v (a, b) (sym made ∙ is))

pub second_refused : {A B : Type 0} (x : A) (m : Result B Refusal) (w : Result (A × B) Refusal) (v : Refusal) → w ≡ and_then m (λ y. Ok (x, y)) → w ≡ Err v → m ≡ Err v
second_refused x (Ok y) w v made is = cc
second_refused x (Err u) w v made is = cc

-- an equation says more
pub gives : {A : Type 0} (r o : Result A Refusal) → r ≡ o → Gives r o
gives (Ok x) o is = sym is
gives (Err v) o is = λ n. sym is

-- from a value and an operand after it
pub given_with : {A B C : Type 0} (f : A → B → Result C Refusal) (x : A) (m : Result B Refusal) (w : Result (A × B) Refusal) (a : A) (b : B) (r : Result C Refusal) → w ≡ and_then m (λ y. Ok (x, y)) → w ≡ Ok (a, b) → Gives r (f a b) → Gives r (and_then m (f x))
given_with f x m w a b r made there e =
    given (f x) m b r (second_of x m w a b made there) (subst (λ (u : _). Gives r (f u b)) (sym (first_of x m w a b made there)) e)

pub refused_with : {A B C : Type 0} (f : B → Result C Refusal) (x : A) (m : Result B Refusal) (w : Result (A × B) Refusal) (v : Refusal) → w ≡ and_then m (λ y. Ok (x, y)) → w ≡ Err v → Gives (Err v) (and_then m f)
refused_with f x m w v made stop = refused_one f m v (second_refused x m w v made stop)

-- from two operands, put together
pub given_two : {A B C : Type 0} (f : A → B → Result C Refusal) (l : Result A Refusal) (x : A) (m : Result B Refusal) (w : Result (A × B) Refusal) (a : A) (b : B) (r : Result C Refusal) → l ≡ Ok x → w ≡ and_then m (λ y. Ok (x, y)) → w ≡ Ok (a, b) → Gives r (f a b) → Gives r (and_then l (λ x. and_then m (f x)))
given_two f l x m w a b r is made there e =
    given (λ x. and_then m (f x)) l x r is (given_with f x m w a b r made there e)

pub refused_two : {A B C : Type 0} (f : A → B → Result C Refusal) (l : Result A Refusal) (x : A) (m : Result B Refusal) (w : Result (A × B) Refusal) (v : Refusal) → l ≡ Ok x → w ≡ and_then m (λ y. Ok (x, y)) → w ≡ Err v → Gives (Err v) (and_then l (λ x. and_then m (f x)))
refused_two f l x m w v is made stop = given (λ x. and_then m (f x)) l x (Err v) is (refused_with (f x) x m w v made stop)

-- from three
pub given_three : {A B C D : Type 0} (f : A → B → C → Result D Refusal) (l : Result A Refusal) (x : A) (m : Result B Refusal) (w : Result (A × B) Refusal) (a : A) (b : B) (n : Result C Refusal) (u : Result ((A × B) × C) Refusal) (d : A) (e : B) (c : C) (r : Result D Refusal) → l ≡ Ok x → w ≡ and_then m (λ y. Ok (x, y)) → w ≡ Ok (a, b) → u ≡ and_then n (λ z. Ok ((a, b), z)) → u ≡ Ok ((d, e), c) → Gives r (f d e c) → Gives r (and_then l (λ x. and_then m (λ y. and_then n (f x y))))
given_three f l x m w a b n u d e c r is made there paired all done =
    given_two (λ x y. and_then n (f x y)) l x m w a b r is made there (given_with (λ p z. f p.0 p.1 z) (a, b) n u (d, e) c r paired all done)

pub refused_three : {A B C D : Type 0} (f : A → B → C → Result D Refusal) (l : Result A Refusal) (x : A) (m : Result B Refusal) (w : Result (A × B) Refusal) (a : A) (b : B) (n : Result C Refusal) (u : Result ((A × B) × C) Refusal) (v : Refusal) → l ≡ Ok x → w ≡ and_then m (λ y. Ok (x, y)) → w ≡ Ok (a, b) → u ≡ and_then n (λ z. Ok ((a, b), z)) → u ≡ Err v → Gives (Err v) (and_then l (λ x. and_then m (λ y. and_then n (f x y))))
refused_three f l x m w a b n u v is made there paired stop =
    given_two (λ x y. and_then n (f x y)) l x m w a b (Err v) is made there (refused_with (f a b) (a, b) n u v paired stop)

-- ---- along a list

-- the refusal of a step is that of the whole
refused_stays : {S X A : Type 0} (step : A → X → TypingStep S A) (v : Refusal) (xs : List X) → fold (next_of step) (Err v) xs ≡ Err v
refused_stays step v [] = refl
refused_stays step v (x ∷ xs) = refused_stays step v xs

-- the steps from the item at this place on
from_place : {S T X A : Type 0} (step : A → X → TypingStep S A) (f : T → X) (ts : List T) (k : ℕ) (t : T) (o : Result (A × S) Refusal) → k < length ts → t ≡ get_or ts k t → fold (next_of step) o (map f (drop k ts)) ≡ fold (next_of step) (next_of step o (f t)) (map f (drop (k + 1) ts))
from_place step f ts k t o below is =
    ap (λ (l : List _). fold (next_of step) o (map f l)) (drop-cons ts k t below ∙ ap (λ (x : _). x ∷ drop (suc k) ts) (sym is) ∙ ap (λ (n : ℕ). t ∷ drop n ts) {x = suc k} {y = k + 1} (omega arith))

-- one more step was taken
pub taken : {S T X A : Type 0} (step : A → X → TypingStep S A) (f : T → X) (ts : List T) (k : ℕ) (t : T) (a b : A) (g h : S) (whole : Result (A × S) Refusal) (r : Result A Refusal) → k < length ts → t ≡ get_or ts k t → whole ≡ fold (next_of step) (Ok (a, g)) (map f (drop k ts)) → Leaves r h (step a (f t) g) → r ≡ Ok b → whole ≡ fold (next_of step) (Ok (b, h)) (map f (drop (k + 1) ts))
taken step f ts k t a b g h whole r below is so_far turn made =
    let ok : step a (f t) g ≡ Ok (b, h) = subst (λ (q : Result _ Refusal). Leaves q h (step a (f t) g)) made turn in
    so_far ∙ from_place step f ts k t (Ok (a, g)) below is ∙ ap (λ (o : Result (_ × _) Refusal). fold (next_of step) o (map f (drop (k + 1) ts))) ok

-- a step was refused
pub refused : {S T X A : Type 0} (step : A → X → TypingStep S A) (f : T → X) (ts : List T) (k : ℕ) (t : T) (a : A) (v : Refusal) (g h e : S) (whole : Result (A × S) Refusal) (r : Result A Refusal) → k < length ts → t ≡ get_or ts k t → whole ≡ fold (next_of step) (Ok (a, g)) (map f (drop k ts)) → Leaves r h (step a (f t) g) → r ≡ Err v → Leaves {A = A} (Err v) e whole
refused step f ts k t a v g h e whole r below is so_far turn made = λ n.
    let err : v ≢ refusal.OutOfMemory → step a (f t) g ≡ Err v = subst (λ (q : Result _ Refusal). Leaves q h (step a (f t) g)) made turn in
    so_far ∙ from_place step f ts k t (Ok (a, g)) below is ∙ ap (λ (o : Result (_ × _) Refusal). fold (next_of step) o (map f (drop (k + 1) ts))) (err n) ∙ refused_stays step v (map f (drop (k + 1) ts))
