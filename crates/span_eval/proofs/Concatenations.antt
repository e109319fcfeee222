-- Memory runs out in an operand that has a `||`, or at a `||`.
use Rattle.std.proofs.Common.{◌≡◌, refl, ap, ◌∙◌, sym, List, [], ◌∷◌, ℕ, zero, suc, ◌<◌, ◌+◌, map, drop, length, get_or, Bool, true, false, ◌||◌, Option, Some, None}
use Rattle.std.specs.List.{fold, list_any}
use Rattle.std.specs.Option.{option_map}
use Rattle.std.proofs.lemmas.Bool.{or_left, or_right}
use Rattle.span_value.specs.declared.value.Value.{Value}
use Rattle.span_value.specs.declared.truth.Outcome.{Outcome}
use Rattle.span_value.proofs.Lists.{list_any-map, drop_read}
use Rattle.span_expr.specs.declared.expr.Comparison.{Comparison}
use Rattle.span_expr.specs.declared.expr.Expr.{Expr}
use Rattle.span_expr.specs.declared.expr.Expr.TheVariants as e
use Rattle.span_expr.specs.declared.expr.Expr.TheVariants.{rolls-Chain, rolls-Compare, rolls-StartsWith, rolls-Between, rolls-In, rolls-And, rolls-Or, rolls-Case, rolls-Match}
use Rattle.span_expr.specs.declared.expr.Expr.TheOpen.{Expr-F}
use Rattle.span_expr.specs.declared.expr.Expr.TheFolds.{fold-roll-Expr}
use Rattle.span_expr.specs.declared.expr.Link.{Link}
use Rattle.span_expr.specs.declared.expr.Arm.{Arm}
use Rattle.span_expr.specs.Meaning.{val}
use Rattle.span_expr.specs.Memory.{concatenation_at, has_concatenation, link_concatenation, any_concatenation, any_link_concatenation, any_arm_concatenation, in_some, concatenation_in_link, is_concatenation}

-- ---- one of two

either_of : (p q r : Bool) → (p || q) ≡ true → (p ≡ true → r ≡ true) → (q ≡ true → r ≡ true) → r ≡ true
either_of true q r is one two = one refl
either_of false q r is one two = two is

-- from what ran out (r, as s or t) to what has one (whole, as p or q)
pub by_two : (whole p q r s t : Bool) → whole ≡ (p || q) → (r ≡ true → (s || t) ≡ true) → (s ≡ true → p ≡ true) → (t ≡ true → q ≡ true) → r ≡ true → whole ≡ true
by_two whole p q r s t is apart one two ran = is ∙ either_of s t (p || q) (apart ran) (λ h. or_left p q (one h)) (λ h. or_right p q (two h))

pub by_three : (whole p q o r s t u : Bool) → whole ≡ ((p || q) || o) → (r ≡ true → ((s || t) || u) ≡ true) → (s ≡ true → p ≡ true) → (t ≡ true → q ≡ true) → (u ≡ true → o ≡ true) → r ≡ true → whole ≡ true
by_three whole p q o r s t u is apart one two three ran = by_two whole (p || q) o r (s || t) u is apart (by_two (p || q) p q (s || t) s t refl (λ h. h) one two) three ran

-- ---- one of a list

any_after : {X : Type 0} (p : X → Bool) (xs : List X) (i : ℕ) → list_any p (drop i xs) ≡ true → list_any p xs ≡ true
any_after p [] zero is = is
any_after p [] (suc i) is = is
any_after p (x ∷ xs) zero is = is
any_after p (x ∷ xs) (suc i) is = or_right (p x) (list_any p xs) (any_after p xs i is)

any_at : {X Y : Type 0} (p : Y → Bool) (f : X → Y) (xs : List X) (i : ℕ) (x : X) → i < length xs → x ≡ get_or xs i x → p (f x) ≡ true → list_any p (map f xs) ≡ true
any_at p f xs i x below is holds =
    list_any-map p f xs ∙ any_after (λ y. p (f y)) xs i (ap (list_any (λ y. p (f y))) (drop_read xs i x below is) ∙ or_left (p (f x)) (list_any (λ y. p (f y)) (drop (i + 1) xs)) holds)

pub operand_has : (xs : List Expr) (i : ℕ) (x : Expr) → i < length xs → x ≡ get_or xs i x → has_concatenation x ≡ true → any_concatenation xs ≡ true
operand_has xs i x below is has = any_at (λ b. b) has_concatenation xs i x below is has

pub link_has : (xs : List (Link Expr)) (i : ℕ) (x : Link Expr) → i < length xs → x ≡ get_or xs i x → (is_concatenation x.operator || has_concatenation x.operand) ≡ true → any_link_concatenation xs ≡ true
link_has xs i x below is has = any_at concatenation_in_link link_concatenation xs i x below is has

pub condition_has : (xs : List (Arm Expr)) (i : ℕ) (x : Arm Expr) → i < length xs → x ≡ get_or xs i x → has_concatenation x.condition ≡ true → any_arm_concatenation xs ≡ true
condition_has xs i x below is has = any_at (λ (a : Arm Bool). a.condition || a.value) (λ (a : Arm Expr). record { condition = has_concatenation a.condition; value = has_concatenation a.value }) xs i x below is (or_left (has_concatenation x.condition) (has_concatenation x.value) has)

pub value_has : (xs : List (Arm Expr)) (i : ℕ) (x : Arm Expr) → i < length xs → x ≡ get_or xs i x → has_concatenation x.value ≡ true → any_arm_concatenation xs ≡ true
value_has xs i x below is has = any_at (λ (a : Arm Bool). a.condition || a.value) (λ (a : Arm Expr). record { condition = has_concatenation a.condition; value = has_concatenation a.value }) xs i x below is (or_right (has_concatenation x.condition) (has_concatenation x.value) has)

-- ---- the operators, each with its operands as they are read

pub chain_has : (expr a x : Expr) (links read : List (Link Expr)) → expr ≡ e.Chain a links → x ≡ a → read ≡ links → has_concatenation expr ≡ (has_concatenation x || any_link_concatenation read)
chain_has expr a x links read is same also =
    ap has_concatenation is ∙ ap has_concatenation (sym (rolls-Chain a links)) ∙ fold-roll-Expr Bool concatenation_at (Expr-F.Chain a links) ∙ ap (λ (y : Expr). has_concatenation y || any_link_concatenation links) (sym same) ∙ ap (λ (ls : List (Link Expr)). has_concatenation x || any_link_concatenation ls) (sym also)

pub compare_has : (expr a b x y : Expr) (c : Comparison) → expr ≡ e.Compare a c b → x ≡ a → y ≡ b → has_concatenation expr ≡ (has_concatenation x || has_concatenation y)
compare_has expr a b x y c is same also =
    ap has_concatenation is ∙ ap has_concatenation (sym (rolls-Compare a c b)) ∙ fold-roll-Expr Bool concatenation_at (Expr-F.Compare a c b) ∙ ap (λ (z : Expr). has_concatenation z || has_concatenation b) (sym same) ∙ ap (λ (z : Expr). has_concatenation x || has_concatenation z) (sym also)

pub prefix_has : (expr a b x y : Expr) → expr ≡ e.StartsWith a b → x ≡ a → y ≡ b → has_concatenation expr ≡ (has_concatenation x || has_concatenation y)
prefix_has expr a b x y is same also =
    ap has_concatenation is ∙ ap has_concatenation (sym (rolls-StartsWith a b)) ∙ fold-roll-Expr Bool concatenation_at (Expr-F.StartsWith a b) ∙ ap (λ (z : Expr). has_concatenation z || has_concatenation b) (sym same) ∙ ap (λ (z : Expr). has_concatenation x || has_concatenation z) (sym also)

pub between_has : (expr a b c x y z : Expr) → expr ≡ e.Between a b c → x ≡ a → y ≡ b → z ≡ c → has_concatenation expr ≡ ((has_concatenation x || has_concatenation y) || has_concatenation z)
between_has expr a b c x y z is same also too =
    ap has_concatenation is ∙ ap has_concatenation (sym (rolls-Between a b c)) ∙ fold-roll-Expr Bool concatenation_at (Expr-F.Between a b c)
    ∙ ap (λ (w : Expr). (has_concatenation w || has_concatenation b) || has_concatenation c) (sym same)
    ∙ ap (λ (w : Expr). (has_concatenation x || has_concatenation w) || has_concatenation c) (sym also)
    ∙ ap (λ (w : Expr). (has_concatenation x || has_concatenation y) || has_concatenation w) (sym too)

list_form : (whole : Bool) (a x : Expr) (more read : List Expr) → whole ≡ (has_concatenation a || any_concatenation more) → x ≡ a → read ≡ more → whole ≡ (has_concatenation x || any_concatenation read)
list_form whole a x more read is same also =
    is ∙ ap (λ (y : Expr). has_concatenation y || any_concatenation more) (sym same) ∙ ap (λ (ys : List Expr). has_concatenation x || any_concatenation ys) (sym also)

pub in_has : (expr a x : Expr) (more read : List Expr) → expr ≡ e.In a more → x ≡ a → read ≡ more → has_concatenation expr ≡ (has_concatenation x || any_concatenation read)
in_has expr a x more read is = list_form (has_concatenation expr) a x more read (ap has_concatenation is ∙ ap has_concatenation (sym (rolls-In a more)) ∙ fold-roll-Expr Bool concatenation_at (Expr-F.In a more))

pub and_has : (expr a x : Expr) (more read : List Expr) → expr ≡ e.And a more → x ≡ a → read ≡ more → has_concatenation expr ≡ (has_concatenation x || any_concatenation read)
and_has expr a x more read is = list_form (has_concatenation expr) a x more read (ap has_concatenation is ∙ ap has_concatenation (sym (rolls-And a more)) ∙ fold-roll-Expr Bool concatenation_at (Expr-F.And a more))

pub or_has : (expr a x : Expr) (more read : List Expr) → expr ≡ e.Or a more → x ≡ a → read ≡ more → has_concatenation expr ≡ (has_concatenation x || any_concatenation read)
or_has expr a x more read is = list_form (has_concatenation expr) a x more read (ap has_concatenation is ∙ ap has_concatenation (sym (rolls-Or a more)) ∙ fold-roll-Expr Bool concatenation_at (Expr-F.Or a more))

abbrev pub else_has : Option Expr → Bool
else_has otherwise = in_some (option_map has_concatenation otherwise)

has_case : (arms : List (Arm Expr)) (otherwise : Option Expr) → has_concatenation (e.Case arms otherwise) ≡ (any_arm_concatenation arms || else_has otherwise)
has_case arms None = ap has_concatenation (sym (rolls-Case arms None)) ∙ fold-roll-Expr Bool concatenation_at (Expr-F.Case arms None)
has_case arms (Some other) = ap has_concatenation (sym (rolls-Case arms (Some other))) ∙ fold-roll-Expr Bool concatenation_at (Expr-F.Case arms (Some other))

has_match : (a : Expr) (arms : List (Arm Expr)) (otherwise : Option Expr) → has_concatenation (e.Match a arms otherwise) ≡ ((has_concatenation a || any_arm_concatenation arms) || else_has otherwise)
has_match a arms None = ap has_concatenation (sym (rolls-Match a arms None)) ∙ fold-roll-Expr Bool concatenation_at (Expr-F.Match a arms None)
has_match a arms (Some other) = ap has_concatenation (sym (rolls-Match a arms (Some other))) ∙ fold-roll-Expr Bool concatenation_at (Expr-F.Match a arms (Some other))

pub case_has : (expr : Expr) (arms read : List (Arm Expr)) (otherwise : Option Expr) → expr ≡ e.Case arms otherwise → read ≡ arms → has_concatenation expr ≡ (any_arm_concatenation read || else_has otherwise)
case_has expr arms read otherwise is same =
    ap has_concatenation is ∙ has_case arms otherwise ∙ ap (λ (all : List (Arm Expr)). any_arm_concatenation all || else_has otherwise) (sym same)

pub match_has : (expr a x : Expr) (arms read : List (Arm Expr)) (otherwise : Option Expr) → expr ≡ e.Match a arms otherwise → x ≡ a → read ≡ arms → has_concatenation expr ≡ ((has_concatenation x || any_arm_concatenation read) || else_has otherwise)
match_has expr a x arms read otherwise is same also =
    ap has_concatenation is ∙ has_match a arms otherwise
    ∙ ap (λ (y : Expr). (has_concatenation y || any_arm_concatenation arms) || else_has otherwise) (sym same)
    ∙ ap (λ (all : List (Arm Expr)). (has_concatenation x || any_arm_concatenation all) || else_has otherwise) (sym also)

-- ---- one operand more of a list that is evaluated from left to right

pub folded_step : {S : Type 0} (f : S → Outcome → S) (row : List Value) (xs : List Expr) (i : ℕ) (x : Expr) (s : S) → i < length xs → x ≡ get_or xs i x
    → fold f s (map (val row) (drop i xs)) ≡ fold f (f s (val row x)) (map (val row) (drop (i + 1) xs))
folded_step f row xs i x s below is = ap (λ (all : List Expr). fold f s (map (val row) all)) (drop_read xs i x below is)
