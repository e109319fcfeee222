-- Lists, or the fault: appended, and made of what each item of another gives.
use Rattle.std.proofs.Common.{◌≡◌, List, [], ◌∷◌, ◌++◌, Some, None, refl, ap, sym, ◌∙◌, append_assoc, Option}
use Rattle.std.specs.List.{AllByRecursion}
use Rattle.std.proofs.lemmas.List.{append-nil}
use Rattle.span_expr.specs.declared.expr.Expr.{Expr}
use Rattle.span_query.specs.Rows.{OrFault, ◌>>=◌, append_results, concat_map, Row, filter_where, holds, keep_if}

pub append_results-assoc : {A : Type 0} (a b c : OrFault (List A)) → append_results (append_results a b) c ≡ append_results a (append_results b c)
append_results-assoc (Some xs) (Some ys) (Some zs) = ap (λ (l : List _). Some l) (append_assoc xs ys zs)
append_results-assoc (Some xs) (Some ys) None = refl
append_results-assoc (Some xs) None c = refl
append_results-assoc None b c = refl

pub nil-append_results : {A : Type 0} (a : OrFault (List A)) → append_results (Some []) a ≡ a
nil-append_results (Some xs) = refl
nil-append_results None = refl

pub append_results-nil : {A : Type 0} (a : OrFault (List A)) → append_results a (Some []) ≡ a
append_results-nil (Some xs) = ap Some (append-nil xs)
append_results-nil None = refl

pub append_results-none : {A : Type 0} (a : OrFault (List A)) → append_results a None ≡ None
append_results-none (Some xs) = refl
append_results-none None = refl

pub concat_map-append : {A B : Type 0} (f : A → OrFault (List B)) (xs ys : List A) → concat_map f (xs ++ ys) ≡ append_results (concat_map f xs) (concat_map f ys)
concat_map-append f [] ys = sym (nil-append_results (concat_map f ys))
concat_map-append f (x ∷ xs) ys = ap (append_results (f x)) (concat_map-append f xs ys) ∙ sym (append_results-assoc (f x) (concat_map f xs) (concat_map f ys))

-- two that agree at each item give the same
pub concat_map-same : {A B : Type 0} (f g : A → OrFault (List B)) (xs : List A) → AllByRecursion (λ x. f x ≡ g x) xs → concat_map f xs ≡ concat_map g xs
concat_map-same f g [] all = refl
concat_map-same f g (x ∷ xs) all = ap (λ (o : OrFault (List _)). append_results o (concat_map f xs)) all.0 ∙ ap (append_results (g x)) (concat_map-same f g xs all.1)

-- where each gives nothing, nothing is given
pub concat_map-none : {A B : Type 0} (f : A → OrFault (List B)) (xs : List A) → AllByRecursion (λ x. f x ≡ Some []) xs → concat_map f xs ≡ Some []
concat_map-none f [] all = refl
concat_map-none f (x ∷ xs) all = ap (λ (o : OrFault (List _)). append_results o (concat_map f xs)) all.0 ∙ nil-append_results (concat_map f xs) ∙ concat_map-none f xs all.1

-- the next step at both parts, where it is the same at the parts and at both
pub bind-append_results : {A B : Type 0} (a b : OrFault (List A)) (f : List A → OrFault (List B)) → ((x y : List A) → f (x ++ y) ≡ append_results (f x) (f y)) → (append_results a b >>= f) ≡ append_results (a >>= f) (b >>= f)
bind-append_results (Some x) (Some y) f goes = goes x y
bind-append_results (Some x) None f goes = sym (append_results-none (f x))
bind-append_results None b f goes = refl

pub bind-assoc : {A B C : Type 0} (a : OrFault A) (f : A → OrFault B) (g : B → OrFault C) → ((a >>= f) >>= g) ≡ (a >>= (λ x. f x >>= g))
bind-assoc (Some x) f g = refl
bind-assoc None f g = refl

pub bind-Some : {A : Type 0} (a : OrFault A) → (a >>= (λ x. Some x)) ≡ a
bind-Some (Some x) = refl
bind-Some None = refl

-- ---- the rows that a condition leaves

pub filter_where-nil : (filter : Option Expr) → filter_where filter [] ≡ Some []
filter_where-nil None = refl
filter_where-nil (Some e) = refl

pub filter_where-append : (filter : Option Expr) (xs ys : List Row) → filter_where filter (xs ++ ys) ≡ append_results (filter_where filter xs) (filter_where filter ys)
filter_where-append None xs ys = refl
filter_where-append (Some e) xs ys = concat_map-append (λ row. holds e row >>= (λ b. Some (keep_if row b))) xs ys
