-- Copies of expressions, with their columns at other places.
use Rattle.std.proofs.Common.{◌≡◌, ◌∙◌, sym, ap, subst, ℕ, Result, Ok, IfOk, List, map, Option, Some, None}
use Rattle.std.specs.Option.{option_map}
use Rattle.span_expr.specs.declared.expr.Arm.{Arm}
use Rattle.span_expr.specs.declared.expr.Expr.{Expr}
use Rattle.span_expr.specs.declared.expr.Expr.TheVariants as e
use Rattle.span_expr.specs.declared.expr.Expr.TheVariants.{rolls-Between, rolls-StartsWith, rolls-Match}
use Rattle.span_expr.specs.declared.expr.Expr.TheOpen.{Expr-F}
use Rattle.span_expr.specs.declared.expr.Expr.TheFolds.{fold-roll-Expr}
use Rattle.span_expr.specs.Places.{move_at, moved, moved_arm}

-- what was made next and kept is what was asked for
pub kept_next : {A E : Type 0} (made : Result A E) (kept wanted : A) → made ≡ Ok kept → IfOk made (λ x. x ≡ wanted) → kept ≡ wanted
kept_next {A} {E} made kept wanted is right = subst (λ (r : Result A E). IfOk r (λ x. x ≡ wanted)) is right

pub copied_between : (f : ℕ → ℕ) (expr a low high x y z p q r : Expr) → expr ≡ e.Between a low high → x ≡ a → y ≡ low → z ≡ high → p ≡ moved f x → q ≡ moved f y → r ≡ moved f z → e.Between p q r ≡ moved f expr
copied_between f expr a low high x y z p q r is at_a at_low at_high copied_a copied_low copied_high =
    ap (λ (w : Expr). e.Between w q r) (copied_a ∙ ap (moved f) at_a)
    ∙ ap (λ (w : Expr). e.Between (moved f a) w r) (copied_low ∙ ap (moved f) at_low)
    ∙ ap (λ (w : Expr). e.Between (moved f a) (moved f low) w) (copied_high ∙ ap (moved f) at_high)
    ∙ sym (ap (moved f) (is ∙ sym (rolls-Between a low high)) ∙ fold-roll-Expr Expr (move_at f) (Expr-F.Between a low high) ∙ rolls-Between (moved f a) (moved f low) (moved f high))

pub copied_starts_with : (f : ℕ → ℕ) (expr a front x y p q : Expr) → expr ≡ e.StartsWith a front → x ≡ a → y ≡ front → p ≡ moved f x → q ≡ moved f y → e.StartsWith p q ≡ moved f expr
copied_starts_with f expr a front x y p q is at_a at_front copied_a copied_front =
    ap (λ (w : Expr). e.StartsWith w q) (copied_a ∙ ap (moved f) at_a)
    ∙ ap (λ (w : Expr). e.StartsWith (moved f a) w) (copied_front ∙ ap (moved f) at_front)
    ∙ sym (ap (moved f) (is ∙ sym (rolls-StartsWith a front)) ∙ fold-roll-Expr Expr (move_at f) (Expr-F.StartsWith a front) ∙ rolls-StartsWith (moved f a) (moved f front))

moved-Match : (f : ℕ → ℕ) (a : Expr) (arms : List (Arm Expr)) (otherwise : Option Expr) → moved f (e.Match a arms otherwise) ≡ e.Match (moved f a) (map (moved_arm f) arms) (option_map (moved f) otherwise)
moved-Match f a arms None = ap (moved f) (sym (rolls-Match a arms None)) ∙ fold-roll-Expr Expr (move_at f) (Expr-F.Match a arms None) ∙ rolls-Match (moved f a) (map (moved_arm f) arms) None
moved-Match f a arms (Some other) =
    ap (moved f) (sym (rolls-Match a arms (Some other))) ∙ fold-roll-Expr Expr (move_at f) (Expr-F.Match a arms (Some other)) ∙ rolls-Match (moved f a) (map (moved_arm f) arms) (Some (moved f other))

pub copied_match : (f : ℕ → ℕ) (expr a x p : Expr) (arms read copies : List (Arm Expr)) (otherwise copy : Option Expr) → expr ≡ e.Match a arms otherwise → x ≡ a → read ≡ arms → p ≡ moved f x → copies ≡ map (moved_arm f) read → copy ≡ option_map (moved f) otherwise → e.Match p copies copy ≡ moved f expr
copied_match f expr a x p arms read copies otherwise copy is at_a at_arms copied_a copied_arms copied_otherwise =
    ap (λ (w : Expr). e.Match w copies copy) (copied_a ∙ ap (moved f) at_a)
    ∙ ap (λ (w : List (Arm Expr)). e.Match (moved f a) w copy) (copied_arms ∙ ap (map (moved_arm f)) at_arms)
    ∙ ap (λ (w : Option Expr). e.Match (moved f a) (map (moved_arm f) arms) w) copied_otherwise
    ∙ sym (ap (moved f) is ∙ moved-Match f a arms otherwise)
