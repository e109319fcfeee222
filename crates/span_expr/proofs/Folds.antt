-- Folds of expressions: two steps in a row, and when two folds agree.
use Rattle.std.proofs.Common.{◌≡◌, ◌∙◌, sym, ap, subst}
use mathlib.Core.Sorted.{map-map, map-id}
use Rattle.span_expr.specs.declared.expr.Expr.{Expr}
use Rattle.span_expr.specs.declared.expr.Expr.TheBlock.{the_members, body-Expr}
use Rattle.span_expr.specs.declared.expr.Expr.TheOpen.{Expr-F}
use Rattle.span_expr.specs.declared.expr.Expr.TheViews.{roll-Expr}
use Rattle.span_expr.specs.declared.expr.Expr.TheFolds.{ind-Expr, map-Expr, map_is-Expr, fold-Expr, fold-roll-Expr}

pub map-map-Expr : (A B C : Type 0) (f : A → B) (g : B → C) (y : Expr-F A) → map-Expr B C g (map-Expr A B f y) ≡ map-Expr A C (λ a. g (f a)) y
map-map-Expr A B C f g y =
    sym (map_is-Expr (λ _. B) (λ _. C) (λ _. g) (map-Expr A B f y))
    ∙ ap (body-Expr.map (λ _. B) (λ _. C) (λ _. g)) (sym (map_is-Expr (λ _. A) (λ _. B) (λ _. f) y))
    ∙ map-map the_members body-Expr (λ _. A) (λ _. B) (λ _. C) (λ _. f) (λ _. g) y
    ∙ map_is-Expr (λ _. A) (λ _. C) (λ _ a. g (f a)) y

pub map-id-Expr : (A : Type 0) (y : Expr-F A) → map-Expr A A (λ a. a) y ≡ y
map-id-Expr A y = sym (map_is-Expr (λ _. A) (λ _. A) (λ _ a. a) y) ∙ map-id the_members body-Expr (λ _. A) y

-- layers whose operands agree
pub map-same : (A B : Type 0) (f g : A → B) → ((a : A) → f a ≡ g a) → (y : Expr-F A) → map-Expr A B f y ≡ map-Expr A B g y
map-same A B f g same y = ap (λ (h : A → B). map-Expr A B h y) (λ i a. same a i)

-- a function of a fold is a fold
pub fold-fusion : (A B : Type 0) (h : A → B) (step : Expr-F A → A) (next : Expr-F B → B) → ((y : Expr-F A) → h (step y) ≡ next (map-Expr A B h y)) → (e : Expr) → h (fold-Expr A step e) ≡ fold-Expr B next e
fold-fusion A B h step next follows =
    let P : Expr → Type 0 = λ e. h (fold-Expr A step e) ≡ fold-Expr B next e in
    ind-Expr P (λ x y is. subst (λ (z : Expr-F Expr). P (roll-Expr z)) is
    (let Witness : Type 0 = (e : Expr) × P e in
    let z : Expr-F Expr = map-Expr Witness Expr (λ (e : Witness). e.0) y in
    let inner : map-Expr A B h (map-Expr Expr A (fold-Expr A step) z) ≡ map-Expr Expr B (fold-Expr B next) z =
    map-map-Expr Expr A B (fold-Expr A step) h z
    ∙ map-map-Expr Witness Expr B (λ (e : Witness). e.0) (λ (e : Expr). h (fold-Expr A step e)) y
    ∙ map-same Witness B (λ (e : Witness). h (fold-Expr A step e.0)) (λ (e : Witness). fold-Expr B next e.0) (λ (e : Witness). e.1) y
    ∙ sym (map-map-Expr Witness Expr B (λ (e : Witness). e.0) (fold-Expr B next) y) in
    ap h (fold-roll-Expr A step z) ∙ follows (map-Expr Expr A (fold-Expr A step) z) ∙ ap next inner ∙ sym (fold-roll-Expr B next z)))

-- the fold that puts an expression together again
pub fold-roll : (e : Expr) → fold-Expr Expr roll-Expr e ≡ e
fold-roll =
    let P : Expr → Type 0 = λ e. fold-Expr Expr roll-Expr e ≡ e in
    ind-Expr P (λ x y is. subst (λ (z : Expr-F Expr). P (roll-Expr z)) is
    (let Witness : Type 0 = (e : Expr) × P e in
    let z : Expr-F Expr = map-Expr Witness Expr (λ (e : Witness). e.0) y in
    let inner : map-Expr Expr Expr (fold-Expr Expr roll-Expr) z ≡ z =
    map-map-Expr Witness Expr Expr (λ (e : Witness). e.0) (fold-Expr Expr roll-Expr) y
    ∙ map-same Witness Expr (λ (e : Witness). fold-Expr Expr roll-Expr e.0) (λ (e : Witness). e.0) (λ (e : Witness). e.1) y in
    fold-roll-Expr Expr roll-Expr z ∙ ap roll-Expr inner))

-- folds whose steps agree
pub fold-same : (A : Type 0) (step next : Expr-F A → A) → ((y : Expr-F A) → step y ≡ next y) → (e : Expr) → fold-Expr A step e ≡ fold-Expr A next e
fold-same A step next same e = ap (λ (s : Expr-F A → A). fold-Expr A s e) (λ i y. same y i)
