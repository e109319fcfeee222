-- Links as they are kept, by numbers.
use Rattle.std.proofs.Common.{◌≡◌, ℕ, ◌-◌, ◌<◌, ◌≤◌, List, refl, sym, ◌∙◌, ap, arith, length, take, map, set, get_or, Option, Some, None, subst, false}
use Rattle.std.specs.Prelude.{nat_eq, IfSome}
use Rattle.std.proofs.lemmas.Bool.Decides.{nat_tests}
use Rattle.std.proofs.lemmas.List.{get_or-map, length-map, map-set, take-map}
use Rattle.span_arena.specs.Limits.{most_chains}
use Rattle.span_keytree.specs.Nexts.{Nexts, link_to, next_of, with_cell, without_last, without_places}

abbrev links : Option ℕ → List (Option ℕ) → Nexts
links first next = record { first = first; next = next }

-- the links that these numbers are
abbrev pub stored : ℕ → List ℕ → Nexts
stored first next = links (link_to first) (map link_to next)

link_some : (n : ℕ) → n < most_chains → link_to n ≡ Some n
link_some n fits = let t : nat_eq n most_chains ≡ false = grind (arith, nat_tests) in rw t refl

-- a place among at most most_chains is a number of a chain
is_number : (first : ℕ) (next : List ℕ) (n : Nexts) (cell : ℕ) → stored first next ≡ n → length next ≤ most_chains → cell < length n.next → cell < most_chains
is_number first next n cell view few within =
    let inside : cell < length (map link_to next) = subst (λ (m : Nexts). cell < length m.next) (sym view) within in
    omega (arith, length-map next link_to)

put_first : (first : ℕ) (next : List ℕ) (cell : ℕ) → cell < most_chains → stored cell (set next cell first) ≡ with_cell (stored first next) None cell
put_first first next cell fits =
    ap (λ (f : Option ℕ). links f (map link_to (set next cell first))) (link_some cell fits)
    ∙ ap (λ (ls : List (Option ℕ)). links (Some cell) ls) (map-set link_to next cell first)

put_between : (first : ℕ) (next : List ℕ) (b cell x : ℕ) → cell < most_chains → b < length next → x ≡ get_or next b x
    → stored first (set (set next cell x) b cell) ≡ with_cell (stored first next) (Some b) cell
put_between first next b cell x fits within is =
    let after : link_to x ≡ next_of (stored first next) b = ap link_to is ∙ sym (get_or-map link_to next b x None within) in
    ap (λ (ls : List (Option ℕ)). links (link_to first) ls) (
    map-set link_to (set next cell x) b cell
    ∙ ap (λ (ls : List (Option ℕ)). set ls b (link_to cell)) (map-set link_to next cell x)
    ∙ ap (λ (y : Option ℕ). set (set (map link_to next) cell y) b (link_to cell)) after
    ∙ ap (λ (y : Option ℕ). set (set (map link_to next) cell (next_of (stored first next) b)) b y) (link_some cell fits)
    )

pub first_put : (first : ℕ) (next : List ℕ) (n : Nexts) (before : Option ℕ) (cell : ℕ) → stored first next ≡ n → length next ≤ most_chains
    → cell < length n.next → before ≡ None → stored cell (set next cell first) ≡ with_cell n before cell
first_put first next n before cell view few within is =
    subst (λ (o : Option ℕ). stored cell (set next cell first) ≡ with_cell n o cell) {x = None} {y = before} (sym is)
    (subst (λ (m : Nexts). stored cell (set next cell first) ≡ with_cell m None cell) {x = stored first next} {y = n} view
    (put_first first next cell (is_number first next n cell view few within)))

pub next_put : (first : ℕ) (next : List ℕ) (n : Nexts) (before : Option ℕ) (b cell x : ℕ) → stored first next ≡ n → length next ≤ most_chains
    → cell < length n.next → IfSome before (λ (i : ℕ). i < length n.next) → before ≡ Some b → x ≡ get_or next b x
    → stored first (set (set next cell x) b cell) ≡ with_cell n before cell
next_put first next n before b cell x view few within before_within is after =
    let inside : b < length n.next = subst (λ (o : Option ℕ). IfSome o (λ (i : ℕ). i < length n.next)) {x = before} {y = Some b} is before_within in
    let there : b < length (map link_to next) = subst (λ (m : Nexts). b < length m.next) {x = n} {y = stored first next} (sym view) inside in
    subst (λ (o : Option ℕ). stored first (set (set next cell x) b cell) ≡ with_cell n o cell) {x = Some b} {y = before} (sym is)
    (subst (λ (m : Nexts). stored first (set (set next cell x) b cell) ≡ with_cell m (Some b) cell) {x = stored first next} {y = n} view
    (put_between first next b cell x (is_number first next n cell view few within) (omega (arith, length-map next link_to)) after))

pub lasts_dropped : (first : ℕ) (next left : List ℕ) (n : Nexts) (len count : ℕ) → stored first next ≡ n → len ≡ length next → left ≡ take (len - count) next
    → stored first left ≡ without_places count n
lasts_dropped first next left n len count view all is =
    subst (λ (m : Nexts). stored first left ≡ without_places count m) {x = stored first next} {y = n} view
    (ap (λ (ls : List (Option ℕ)). links (link_to first) ls) (
    ap (λ (xs : List ℕ). map link_to xs) is
    ∙ sym (take-map link_to (len - count) next)
    ∙ ap (λ (k : ℕ). take (k - count) (map link_to next)) (all ∙ sym (length-map next link_to))
    ))

pub last_dropped : (first : ℕ) (next left : List ℕ) (n : Nexts) (len : ℕ) → stored first next ≡ n → len ≡ length next → left ≡ take (len - 1) next
    → stored first left ≡ without_last n
last_dropped first next left n len view all is = lasts_dropped first next left n len 1 view all is
