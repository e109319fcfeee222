-- How much of a FROM belongs to its first leaf, item by item.
use Rattle.std.proofs.Common.{◌≡◌, ◌∙◌, ℕ, ◌+◌, ◌-◌, ◌<◌, ◌≤◌, ◌==◌, zero, suc, Bool, true, false, ◌&&◌, List, [], ◌∷◌, map, take, drop, length, get_or, refl, ap, sym, arith, add-one}
use Rattle.std.specs.List.{list_all}
use Rattle.std.proofs.lemmas.Bool.{and_parts}
use Rattle.span_schema.specs.declared.table.Table.{Table}
use Rattle.span_expr.specs.declared.expr.Expr.{Expr}
use Rattle.span_expr.specs.Conjuncts.{all_true, conjuncts}
use Rattle.span_expr.specs.Places.{moved}
use Rattle.span_expr.proofs.Places.{moved-same}
use Rattle.span_query.specs.declared.query.BoundQuery.{BoundQuery}
use Rattle.span_query.specs.declared.query.Block.{Block}
use Rattle.span_query.specs.declared.query.Join.{Join}
use Rattle.span_query.proofs.Sizes.{all_sizes}
use Rattle.span_leaves.specs.Conditions.{conjuncts_on}
use Rattle.span_leaves.specs.Leaves.{first_filter, is_joined, leaf_len, widths}
use Rattle.span_leaves.specs.Numbered.{is_numbered_join, are_numbered_joins}

-- ---- lists

-- an item of a list, all of which pass, and the items after it
all_after : {A : Type 0} (p : A → Bool) (xs : List A) (i : ℕ) (x : A) → i < length xs → x ≡ get_or xs i x → list_all p (drop i xs) ≡ true → (p x ≡ true) × (list_all p (drop (suc i) xs) ≡ true)
all_after p [] i x below is all = absurd (omega arith)
all_after p (y ∷ xs) zero x below is all = let parts = and_parts (p y) (list_all p xs) all in (ap p is ∙ parts.0, parts.1)
all_after p (y ∷ xs) (suc i) x below is all = all_after p xs i x (omega arith) is all

pub all_next : {A : Type 0} (p : A → Bool) (xs : List A) (i : ℕ) (x : A) → i < length xs → x ≡ get_or xs i x → list_all p (drop i xs) ≡ true → (p x ≡ true) × (list_all p (drop (i + 1) xs) ≡ true)
all_next p xs i x below is all = rw (add-one i) (all_after p xs i x below is all)

all_taken : {A : Type 0} (p : A → Bool) (n : ℕ) (xs : List A) → list_all p xs ≡ true → list_all p (take n xs) ≡ true
all_taken p zero xs all = refl
all_taken p (suc n) [] all = refl
all_taken p (suc n) (x ∷ xs) all = let parts = and_parts (p x) (list_all p xs) all in ap (λ (b : Bool). b && list_all p (take n xs)) parts.0 ∙ all_taken p n xs parts.1

pub all_dropped : {A : Type 0} (p : A → Bool) (n : ℕ) (xs : List A) → list_all p xs ≡ true → list_all p (drop n xs) ≡ true
all_dropped p zero xs all = all
all_dropped p (suc n) [] all = refl
all_dropped p (suc n) (x ∷ xs) all = all_dropped p n xs (and_parts (p x) (list_all p xs) all).1

pub all_sizes_dropped : {A B : Type 0} (size : B → ℕ) (f : A → B) (n : ℕ) (xs : List A) → all_sizes size (map f (drop n xs)) ≤ all_sizes size (map f xs)
all_sizes_dropped size f zero xs = omega arith
all_sizes_dropped size f (suc n) [] = omega arith
all_sizes_dropped size f (suc n) (x ∷ xs) = let more = all_sizes_dropped size f n xs in omega arith

pub numbered_taken : (tables : List ℕ) (n : ℕ) (joins : List (Join BoundQuery)) → are_numbered_joins tables joins ≡ true → are_numbered_joins tables (take n joins) ≡ true
numbered_taken tables = all_taken (is_numbered_join tables)

pub unmoved : (es : List Expr) → map (moved (λ place. place - 0)) es ≡ es
unmoved [] = refl
unmoved (e ∷ es) = ap (λ (x : Expr). x ∷ map (moved (λ place. place - 0)) es) (moved-same (λ (k : ℕ). k - 0) (λ k. omega arith) e) ∙ ap (λ (xs : List Expr). e ∷ xs) (unmoved es)

-- ---- the conjuncts on the columns before a place

pub taken_before : (end : ℕ) (w : Expr) (conditions copies : List Expr) → conditions ≡ conjuncts w → copies ≡ map (moved (λ place. place - 0)) (conjuncts_on 0 end conditions)
    → all_true copies ≡ all_true (conjuncts_on 0 end (conjuncts w))
taken_before end w conditions copies is same = ap all_true (same ∙ unmoved (conjuncts_on 0 end conditions) ∙ ap (conjuncts_on 0 end) is)

-- ---- the WHERE of a leaf that is not the whole FROM

pub part_filter : {Q : Type 0} (b : Block Q) (len width : ℕ) (es copies : List Expr) → (len == length b.joins) ≡ false → copies ≡ map (moved (λ place. place - 0)) (conjuncts_on 0 width es) → all_true copies ≡ first_filter b len width es
part_filter b len width es copies other same = rw other (ap all_true (same ∙ unmoved (conjuncts_on 0 width es)))

-- ---- the extent of a leaf

widths_after : {Q : Type 0} (joins : List (Join Q)) (i : ℕ) (j : Join Q) → i < length joins → j ≡ get_or joins i j → widths (take (suc i) joins) ≡ widths (take i joins) + j.width
widths_after [] i j below is = absurd (omega arith)
widths_after (k ∷ joins) zero j below is = let same : j.width ≡ k.width = ap (λ (x : _). x.width) is in omega arith
widths_after (k ∷ joins) (suc i) j below is = let more = widths_after joins i j (omega arith) is in omega arith

pub widths_next : {Q : Type 0} (joins : List (Join Q)) (i : ℕ) (j : Join Q) → i < length joins → j ≡ get_or joins i j → widths (take (i + 1) joins) ≡ widths (take i joins) + j.width
widths_next joins i j below is = rw (add-one i) (widths_after joins i j below is)

leaf_len_after : {Q : Type 0} (schema : List Table) (tables : List ℕ) (first at : ℕ) (joins : List (Join Q)) (i : ℕ) (j : Join Q) →
    i < length joins → j ≡ get_or joins i j → is_joined schema tables first at j.on j.item ≡ true →
    leaf_len schema tables first at (drop i joins) ≡ suc (leaf_len schema tables first (at + j.width) (drop (suc i) joins))
leaf_len_after schema tables first at [] i j below is joined = absurd (omega arith)
leaf_len_after schema tables first at (k ∷ joins) zero j below is joined =
    let same : is_joined schema tables first at k.on k.item ≡ true = ap (λ (x : _). is_joined schema tables first at x.on x.item) (sym is) ∙ joined in
    let width : k.width ≡ j.width = ap (λ (x : _). x.width) (sym is) in
    rw same (ap (λ (w : ℕ). suc (leaf_len schema tables first (at + w) joins)) width)
leaf_len_after schema tables first at (k ∷ joins) (suc i) j below is joined = leaf_len_after schema tables first at joins i j (omega arith) is joined

pub leaf_len_next : {Q : Type 0} (schema : List Table) (tables : List ℕ) (first at : ℕ) (joins : List (Join Q)) (i : ℕ) (j : Join Q) →
    i < length joins → j ≡ get_or joins i j → is_joined schema tables first at j.on j.item ≡ true →
    leaf_len schema tables first at (drop i joins) ≡ suc (leaf_len schema tables first (at + j.width) (drop (i + 1) joins))
leaf_len_next schema tables first at joins i j below is joined = rw (add-one i) (leaf_len_after schema tables first at joins i j below is joined)
