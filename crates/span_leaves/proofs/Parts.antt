-- The columns that leave a leaf: they are among those that it reads, and what is left of the block above it reads no others.
use Rattle.std.proofs.Common.{◌≡◌, ◌∙◌, ℕ, zero, suc, ◌+◌, ◌≤◌, ◌==◌, Bool, true, false, not, ◌&&◌, List, [], ◌∷◌, ◌++◌, map, take, drop, length, Option, None, refl, ap, sym, arith}
use Rattle.std.specs.Prelude.{if◌then◌else◌}
use Rattle.std.specs.List.{list_all, range_with_len}
use Rattle.std.proofs.lemmas.Bool.{and_from, and_parts}
use Rattle.span_expr.specs.declared.expr.Expr.{Expr}
use Rattle.span_query.specs.declared.query.Block.{Block}
use Rattle.span_query.specs.declared.query.Join.{Join}
use Rattle.span_query.specs.Rows.{Row}
use Rattle.span_columns.specs.Picks.{picked, mask_among}
use Rattle.span_columns.specs.Reads.{has_place, is_not, is_read, is_part, condition_reads, on_reads, selection_reads, block_reads, filter_above, block_above}
use Rattle.span_leaves.specs.Leaves.{widths, reads_of, kept_of}
use Rattle.span_leaves.proofs.Extents.{all_dropped}
use Rattle.span_leaves.proofs.Reading.{Covers, block_by, has_place-range}

-- ---- masks of which one is part of the other

pub part_own : (ms : List Bool) → is_part ms ms ≡ true
part_own [] = refl
part_own (true ∷ ms) = part_own ms
part_own (false ∷ ms) = part_own ms

pub part_length : (ks rs : List Bool) → is_part ks rs ≡ true → length ks ≡ length rs
part_length [] [] is = refl
part_length [] (r ∷ rs) is = cc
part_length (k ∷ ks) [] is = cc
part_length (true ∷ ks) (r ∷ rs) is = ap suc (part_length ks rs (and_parts r (is_part ks rs) is).1)
part_length (false ∷ ks) (r ∷ rs) is = ap suc (part_length ks rs is)

picked-none : (ms : List Bool) → picked ms [] ≡ []
picked-none [] = refl
picked-none (m ∷ ms) = refl

-- THE LAW OF A PART OF A MASK: what it picks of a row is picked of what the other mask picks.
pub part_picked : (ks rs : List Bool) → is_part ks rs ≡ true → (row : Row) → picked (mask_among rs ks) (picked rs row) ≡ picked ks row
part_picked [] [] is row = refl
part_picked [] (r ∷ rs) is row = cc
part_picked (k ∷ ks) [] is row = cc
part_picked (k ∷ ks) (r ∷ rs) is [] = picked-none (mask_among (r ∷ rs) (k ∷ ks))
part_picked (true ∷ ks) (true ∷ rs) is (v ∷ row) = ap (λ (l : Row). v ∷ l) (part_picked ks rs is row)
part_picked (true ∷ ks) (false ∷ rs) is (v ∷ row) = cc
part_picked (false ∷ ks) (true ∷ rs) is (v ∷ row) = part_picked ks rs is row
part_picked (false ∷ ks) (false ∷ rs) is (v ∷ row) = part_picked ks rs is row

-- the same of many rows
pub part_all : (ks rs : List Bool) → is_part ks rs ≡ true → (rows : List Row) → map (picked (mask_among rs ks)) (map (picked rs) rows) ≡ map (picked ks) rows
part_all ks rs is [] = refl
part_all ks rs is (row ∷ rows) =
    ap (λ (l : Row). l ∷ map (picked (mask_among rs ks)) (map (picked rs) rows)) (part_picked ks rs is row)
    ∙ ap (λ (ls : List Row). picked ks row ∷ ls) (part_all ks rs is rows)

-- masks of tests, of which one passes only where the other does
pub part_tests : (f g : ℕ → Bool) → ((k : ℕ) → f k ≡ true → g k ≡ true) → (a n m : ℕ) → n ≤ m → is_part (map f (range_with_len a n)) (take n (map g (range_with_len a m))) ≡ true
part_tests f g only a zero m fits = refl
part_tests f g only a (suc n) zero fits = absurd (omega arith)
part_tests f g only a (suc n) (suc m) fits = of_test (f a) refl (part_tests f g only (a + 1) n m (omega arith)) where
  of_test : (b : Bool) → f a ≡ b → is_part (map f (range_with_len (a + 1) n)) (take n (map g (range_with_len (a + 1) m))) ≡ true
      → is_part (b ∷ map f (range_with_len (a + 1) n)) (g a ∷ take n (map g (range_with_len (a + 1) m))) ≡ true
  of_test false is rest = rest
  of_test true is rest = and_from (g a) (is_part (map f (range_with_len (a + 1) n)) (take n (map g (range_with_len (a + 1) m)))) (only a is) rest

-- ---- what is left of a block above its first leaf

condition_above : (test : ℕ → Bool) (whole : Bool) (w : Option Expr) → condition_reads test w ≡ true → condition_reads test (if whole then None else w) ≡ true
condition_above test true w is = refl
condition_above test false w is = is

-- it reads no more than the block
pub above_reads : {Q : Type 0} (test : ℕ → Bool) (b : Block Q) (len : ℕ) → block_reads test b ≡ true → block_reads test (block_above b len) ≡ true
above_reads {Q} test b len is =
    let ons : List (Join Q) → Bool = list_all (on_reads test) in
    let outer = and_parts (ons b.joins && condition_reads test b.filter) (selection_reads test b.grouping b.outputs) is in
    let inner = and_parts (ons b.joins) (condition_reads test b.filter) outer.0 in
    and_from (ons (drop len b.joins) && condition_reads test (filter_above b len)) (selection_reads test b.grouping b.outputs)
    (and_from (ons (drop len b.joins)) (condition_reads test (filter_above b len)) (all_dropped (on_reads test) len b.joins inner.0) (condition_above test (len == length b.joins) b.filter inner.1)) outer.1

pub read_above : {Q : Type 0} (b : Block Q) (len k : ℕ) → is_read (block_above b len) k ≡ true → is_read b k ≡ true
read_above {Q} b len k is = of_test (block_reads (is_not k) b) refl where
  of_test : (t : Bool) → block_reads (is_not k) b ≡ t → not t ≡ true
  of_test false e = refl
  of_test true e = let f : not true ≡ true = ap not (sym (above_reads (is_not k) b len e)) ∙ is in cc

-- the columns that leave the first leaf are among those that the block reads
pub kept_part : {Q : Type 0} (width len n : ℕ) (b : Block Q) → n ≤ width + widths b.joins → is_part (kept_of b len n) (take n (reads_of width b)) ≡ true
kept_part width len n b fits = part_tests (is_read (block_above b len)) (is_read b) (read_above b len) 0 n (width + widths b.joins) fits

-- the place passes a test of places, or it is in the mask that comes after
place_among : (f : ℕ → Bool) (a n : ℕ) (later : List Bool) (k : ℕ) → f (a + k) ≡ true → ((j : ℕ) → k ≡ n + j → has_place later j ≡ true) → has_place (map f (range_with_len a n) ++ later) k ≡ true
place_among f a zero later k is rest = rest k (omega arith)
place_among f a (suc n) later zero is rest = let e : a ≡ a + 0 = omega arith in ap f e ∙ is
place_among f a (suc n) later (suc k) is rest =
    let e : (a + 1) + k ≡ a + suc k = omega arith in
    place_among f (a + 1) n later k (ap f e ∙ is) (λ j at. rest j (omega arith))

place_after : (n : ℕ) (rs : List Bool) (j : ℕ) → has_place rs (n + j) ≡ true → has_place (drop n rs) j ≡ true
place_after zero rs j has = let e : j ≡ 0 + j = omega arith in ap (has_place rs) e ∙ has
place_after (suc n) [] j has = refl
place_after (suc n) (r ∷ rs) j has = let e : suc (n + j) ≡ suc n + j = omega arith in place_after n rs j (ap (has_place (r ∷ rs)) e ∙ has)

-- What is left of a block above its first leaf reads, of the leaf's columns, those that leave it; the others that it reads are in any mask that has
-- what the block reads of them.
pub kept_covered : {Q : Type 0} (width len n : ℕ) (b : Block Q) (later : List Bool) → Covers (drop n (reads_of width b)) later → block_reads (has_place (kept_of b len n ++ later)) (block_above b len) ≡ true
kept_covered {Q} width len n b later covers = block_by (block_above b len) (has_place (kept_of b len n ++ later)) of_place where
  after : (k j : ℕ) → is_read (block_above b len) k ≡ true → k ≡ n + j → has_place later j ≡ true
  after k j is at =
      let zero_on : 0 + (n + j) ≡ k = omega arith in
      covers j (place_after n (reads_of width b) j (has_place-range (is_read b) 0 (width + widths b.joins) (n + j) (ap (is_read b) zero_on ∙ read_above b len k is)))

  of_place : (k : ℕ) → block_reads (is_not k) (block_above b len) ≡ false → has_place (kept_of b len n ++ later) k ≡ true
  of_place k out =
      let read : is_read (block_above b len) k ≡ true = ap not out in
      let e : 0 + k ≡ k = omega arith in
      place_among (is_read (block_above b len)) 0 n later k (ap (is_read (block_above b len)) e ∙ read) (λ j at. after k j read at)
