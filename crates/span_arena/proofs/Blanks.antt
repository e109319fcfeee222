-- Lists that are one value again and again at their end.
use Rattle.std.proofs.Common.{◌≡◌, ℕ, zero, suc, ◌+◌, ◌-◌, List, [], ◌∷◌, ◌++◌, refl, sym, ◌∙◌, ap, arith, length, map, take, take_all, get_or, replicate}
use Rattle.std.proofs.lemmas.List.{length-map, map-append}
use Rattle.span_arena.specs.declared.cell.Cell.{Cell}
use Rattle.span_arena.specs.Cells.{blank, kept_length}

pub map_replicate : {A B : Type 0} (f : A → B) (n : ℕ) (x : A) → map f (replicate n x) ≡ replicate n (f x)
map_replicate f zero x = refl
map_replicate f (suc n) x = ap (λ l. f x ∷ l) (map_replicate f n x)

-- the default is read there, as it is beyond the end
pub read_replicate : {A : Type 0} (n i : ℕ) (x : A) → get_or (replicate n x) i x ≡ x
read_replicate zero i x = refl
read_replicate (suc n) zero x = refl
read_replicate (suc n) (suc i) x = read_replicate n i x

pub read_more : {A : Type 0} (xs : List A) (n i : ℕ) (x : A) → get_or (xs ++ replicate n x) i x ≡ get_or xs i x
read_more [] n i x = read_replicate n i x
read_more (y ∷ xs) n zero x = refl
read_more (y ∷ xs) n (suc i) x = read_more xs n i x

-- the lengths of the keys of further cells, which are blank, after those that are kept
pub lengths_more : (cs : List Cell) (kept : List ℕ) (n len long : ℕ) → kept ≡ map kept_length cs → len ≡ length cs → long ≡ length kept
    → take (len + n) kept ++ replicate (len + n - long) 0 ≡ map kept_length (cs ++ replicate n blank)
lengths_more cs kept n len long are is also =
    let same : length kept ≡ length cs = ap length are ∙ length-map cs kept_length in
    let all : take (len + n) kept ≡ kept = take_all (len + n) kept (omega (arith, is, same)) in
    let more : len + n - long ≡ n = omega (arith, is, also, same) in
    rw (all, more, are) (sym (map-append kept_length cs (replicate n blank) ∙ ap (λ l. map kept_length cs ++ l) (map_replicate kept_length n blank)))
