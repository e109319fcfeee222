-- A balanced tree of cells that follow each other.
use Rattle.std.proofs.Common.{◌≡◌, ◌≢◌, ℕ, zero, suc, ◌+◌, ◌*◌, ◌^◌, ◌<◌, ◌≤◌, List, [], ◌∷◌, ◌++◌, refl, sym, ◌∙◌, ap, arith, length, inl, inr, true, false, cond, Option, Some, None, subst, length-append, pow_mono}
use Rattle.std.specs.Prelude.{Bool, nat_lt}
use Rattle.std.proofs.Math.Nat.{pow-suc}
use Rattle.std.proofs.lemmas.Bool.{cases_lt, cases_eq}
use Rattle.std.proofs.lemmas.Bool.Decides.{nat_tests}
use Rattle.span_arena.specs.declared.cell.Cell.{Cell}
use Rattle.span_arena.specs.declared.cell.Links.{Links}
use Rattle.span_arena.specs.declared.cell.Balance.TheVariants.{Even, RightHigh}
use Rattle.span_keyindex.specs.declared.build.Built.{Built}
use Rattle.span_keytree.specs.Trees.{Tree, Fork, root_of, IsInCells, one_at, count, height, IsAvl, IsBalance}
use Rattle.span_arena.specs.Cells.{cell_at, with_links}
use Rattle.span_keytree.specs.Effects.{links_with}
use Rattle.span_keytree.specs.Items.{entry, items, holders}
use Rattle.span_keytree.specs.Entries.{KeyEntry}
use Rattle.span_keytree.specs.Nexts.{Nexts, next_of}
use Rattle.span_keytree.specs.Puts.{tree_at, IsTree}
use Rattle.span_keywalk.specs.Walks.{walked}
use Rattle.span_keyindex.specs.Builds.{after_cells, run_of, IsRun, IsDigits, balance_of, IsBuilt}
use Rattle.span_keytree.proofs.Counting.{one_here, one_same, differ, stays, links_here, links_other, links_length}
use Rattle.span_keytree.proofs.Avl.{same_balance}
use Rattle.span_keytree.proofs.Linking.{held_append, held_items}
use Rattle.span_keytree.proofs.Whole.{shape_is}
use Rattle.span_keywalk.proofs.Walking.{walked_none}

-- ---- runs

module _ (f : ℕ → Cell) (g : ℕ → Option ℕ) where
  pub run_most : (n : ℕ) (at : Option ℕ) → length (walked f g n at None) ≤ n
  run_most zero at = omega arith
  run_most (suc n) None = omega arith
  run_most (suc n) (Some i) = omega (arith, run_most n (g i))

  run_split : (a b : ℕ) (at : Option ℕ) → length (walked f g (a + b) at None) ≡ a + b → walked f g (a + b) at None ≡ walked f g a at None ++ walked f g b (after_cells g a at) None
  run_split zero b at full = let e : zero + b ≡ b = omega arith in ap (λ (m : ℕ). walked f g m at None) e
  run_split (suc a) b None full =
      let none : length (walked f g (suc a + b) None None) ≡ 0 = ap length (walked_none f g (suc a + b) None) in
      absurd (omega (arith, full))
  run_split (suc a) b (Some i) full =
      let e : suc a + b ≡ suc (a + b) = omega arith in
      let whole : walked f g (suc a + b) (Some i) None ≡ entry (f i).key i ∷ walked f g (a + b) (g i) None = ap (λ (m : ℕ). walked f g m (Some i) None) e in
      let rest : length (walked f g (a + b) (g i) None) ≡ a + b = (let l = ap length whole in omega (arith, full)) in
      whole ∙ ap (λ (xs : List KeyEntry). entry (f i).key i ∷ xs) (run_split a b (g i) rest)

  after_none : (n : ℕ) → after_cells g n None ≡ None
  after_none zero = refl
  after_none (suc n) = refl

  after_split : (a b : ℕ) (at : Option ℕ) → after_cells g (a + b) at ≡ after_cells g b (after_cells g a at)
  after_split zero b at = let e : zero + b ≡ b = omega arith in ap (λ (m : ℕ). after_cells g m at) e
  after_split (suc a) b None = after_none (suc a + b) ∙ sym (after_none b)
  after_split (suc a) b (Some i) =
      let e : suc a + b ≡ suc (a + b) = omega arith in
      ap (λ (m : ℕ). after_cells g m (Some i)) e ∙ after_split a b (g i)

run_keys : (f h : ℕ → Cell) (g : ℕ → Option ℕ) (n : ℕ) (at : Option ℕ) → ((i : ℕ) → (h i).key ≡ (f i).key) → walked h g n at None ≡ walked f g n at None
run_keys f h g zero at same = refl
run_keys f h g (suc n) None same = refl
run_keys f h g (suc n) (Some i) same = ap (λ (k : List ℕ). entry k i ∷ walked h g n (g i) None) (same i) ∙ ap (λ (xs : List KeyEntry). entry (f i).key i ∷ xs) (run_keys f h g n (g i) same)

-- ---- numbers of digits

module _ (a b low high : ℕ) (da : IsDigits a low) (db : IsDigits b high) (from : low ≤ high) (to : high ≤ low + 1) where
  not_fewer : a ≤ b
  not_fewer = elim (cases_lt b a) [
    | inr le ↦ le
    | inl lt ↦ elim (cases_lt 0 low) [
      | inr none ↦ absurd (let z : a ≡ 0 = da.none (omega arith) in omega arith)
      | inl some ↦ absurd (let p : 2 ^ suc b ≡ 2 ^ b * 2 = pow-suc 2 b in let q = pow_mono {i = suc b} {j = a} (omega arith) in let r = da.most some in let s = db.above in omega arith)
    ]
  ]

  one_more : b ≤ a + 1
  one_more = elim (cases_lt (a + 1) b) [
    | inr le ↦ le
    | inl lt ↦ elim (cases_lt 0 high) [
      | inr none ↦ absurd (let z : b ≡ 0 = db.none (omega arith) in omega arith)
      | inl some ↦ absurd (let p : 2 ^ suc a ≡ 2 ^ a * 2 = pow-suc 2 a in let p2 : 2 ^ suc (suc a) ≡ 2 ^ suc a * 2 = pow-suc 2 (suc a) in let q = pow_mono {i = suc (suc a)} {j = b} (omega arith) in let r = db.most some in let s = da.above in omega arith)
    ]
  ]

  digits_more : IsDigits (b + 1) (low + suc high)
  digits_more =
      let e : b + 1 ≡ suc b = omega arith in
      let p : 2 ^ (b + 1) ≡ 2 ^ b * 2 = ap (λ (x : ℕ). 2 ^ x) e ∙ pow-suc 2 b in
      let s = db.above in
      let f = db.few in
      record {
        above = omega (arith, p);
        most = λ some. elim (cases_lt 0 high) [
          | inl big ↦ (let r = db.most big in omega (arith, p))
          | inr none ↦ (let z : b ≡ 0 = db.none (omega arith) in let w : 2 ^ b ≡ 2 ^ 0 = ap (λ (x : ℕ). 2 ^ x) z in omega (arith, p))
        ];
        none = λ zero_is. absurd (omega arith);
        few = omega arith;
      }

  balanced : IsBalance (balance_of a b) a b
  balanced = elim (cases_lt a b) [
    | inl lt ↦ (let t : nat_lt a b ≡ true = grind (arith, nat_tests) in
        let e : b ≡ suc a = (let m = one_more in omega arith) in
        subst (λ (x : Bool). IsBalance (cond x RightHigh Even) a b) {x = true} {y = nat_lt a b} (sym t) e)
    | inr ge ↦ (let t : nat_lt a b ≡ false = grind (arith, nat_tests) in
        let e : a ≡ b = (let m = not_fewer in omega arith) in
        subst (λ (x : Bool). IsBalance (cond x RightHigh Even) a b) {x = false} {y = nat_lt a b} (sym t) e)
  ]

-- ---- the left part

module _ (cs : List Cell) (ns : Nexts) (low high : ℕ) (at : Option ℕ) (run : IsRun cs ns (low + suc high) at) where
  parts : run_of cs ns (low + suc high) at ≡ run_of cs ns low at ++ run_of cs ns (suc high) (after_cells (next_of ns) low at)
  parts = run_split (cell_at cs) (next_of ns) low (suc high) at run.full

  lengths : low + suc high ≡ length (run_of cs ns low at) + length (run_of cs ns (suc high) (after_cells (next_of ns) low at))
  lengths = sym run.full ∙ ap length parts ∙ length-append (run_of cs ns low at) (run_of cs ns (suc high) (after_cells (next_of ns) low at))

  held_parts : (i : ℕ) → holders i (run_of cs ns (low + suc high) at) ≡ holders i (run_of cs ns low at) + holders i (run_of cs ns (suc high) (after_cells (next_of ns) low at))
  held_parts i = ap (holders i) parts ∙ held_append i (run_of cs ns low at) (run_of cs ns (suc high) (after_cells (next_of ns) low at))

  pub run_left : IsRun cs ns low at
  run_left =
      let first = run_most (cell_at cs) (next_of ns) low at in
      let second = run_most (cell_at cs) (next_of ns) (suc high) (after_cells (next_of ns) low at) in
      let len = lengths in
      record {
        full = omega arith;
        once = λ i. omega (arith, held_parts i, run.once i);
        within = λ i s. run.within i (omega (arith, held_parts i));
        places = run.places;
      }

  pub rest_some : (rest : Option ℕ) → rest ≡ after_cells (next_of ns) low at → rest ≢ None
  rest_some rest is none =
      let first = run_most (cell_at cs) (next_of ns) low at in
      let gone : run_of cs ns (suc high) (after_cells (next_of ns) low at) ≡ [] = ap (λ (x : Option ℕ). run_of cs ns (suc high) x) (sym is ∙ none) in
      let zero_long : length (run_of cs ns (suc high) (after_cells (next_of ns) low at)) ≡ 0 = ap length gone in
      let len = lengths in
      absurd (omega arith)

-- ---- the cell between the parts, and the right part

module _ (old mid : List Cell) (ns : Nexts) (low high : ℕ) (at : Option ℕ) (left : Built) (cell : ℕ) (run : IsRun old ns (low + suc high) at) (l : IsBuilt old mid ns low at left) (here : left.rest ≡ Some cell) where
  whole : run_of old ns (low + suc high) at ≡ run_of old ns low at ++ entry (cell_at old cell).key cell ∷ run_of old ns high (next_of ns cell)
  whole = parts old ns low high at run ∙ ap (λ (x : Option ℕ). run_of old ns low at ++ run_of old ns (suc high) x) (sym l.after ∙ here)

  held_whole : (i : ℕ) → holders i (run_of old ns (low + suc high) at) ≡ holders i (run_of old ns low at) + (one_at i cell + holders i (run_of old ns high (next_of ns cell)))
  held_whole i = ap (holders i) whole ∙ held_append i (run_of old ns low at) (entry (cell_at old cell).key cell ∷ run_of old ns high (next_of ns cell))

  pub cell_in : cell < length mid
  cell_in =
      let lt : cell < length old = run.within cell (omega (arith, held_whole cell, one_here cell)) in
      omega (arith, l.same_length)

  pub cell_linked : cell < length ns.next
  cell_linked = omega (arith, cell_in, l.same_length, run.places)

  right_same : run_of mid ns high (next_of ns cell) ≡ run_of old ns high (next_of ns cell)
  right_same = run_keys (cell_at old) (cell_at mid) (next_of ns) high (next_of ns cell) l.keys

  pub run_right : IsRun mid ns high (next_of ns cell)
  run_right =
      let len : low + suc high ≡ length (run_of old ns low at) + suc (length (run_of old ns high (next_of ns cell))) =
      sym run.full ∙ ap length whole ∙ length-append (run_of old ns low at) (entry (cell_at old cell).key cell ∷ run_of old ns high (next_of ns cell)) in
      let first = run_most (cell_at old) (next_of ns) low at in
      let second = run_most (cell_at old) (next_of ns) high (next_of ns cell) in
      let same : length (run_of mid ns high (next_of ns cell)) ≡ length (run_of old ns high (next_of ns cell)) = ap length right_same in
      let held_same : (i : ℕ) → holders i (run_of mid ns high (next_of ns cell)) ≡ holders i (run_of old ns high (next_of ns cell)) = λ i. ap (holders i) right_same in
      record {
        full = omega arith;
        once = λ i. omega (arith, held_same i, held_whole i, run.once i);
        within = λ i s. (let lt : i < length old = run.within i (omega (arith, held_same i, held_whole i)) in omega (arith, l.same_length));
        places = run.places ∙ sym l.same_length;
      }

-- ---- the whole tree

module _ (old mid far : List Cell) (ns : Nexts) (low high : ℕ) (at : Option ℕ) (left right : Built) (cell : ℕ) (run : IsRun old ns (low + suc high) at) (l : IsBuilt old mid ns low at left) (here : left.rest ≡ Some cell)
    (r : IsBuilt mid far ns high (next_of ns cell) right) (from : low ≤ high) (to : high ≤ low + 1) (new : List Cell) (written : new ≡ with_links far cell (links_with left.root right.root (balance_of left.levels right.levels))) where
  links : Links
  links = links_with left.root right.root (balance_of left.levels right.levels)

  cells_is : run_of old ns (low + suc high) at ≡ run_of old ns low at ++ entry (cell_at old cell).key cell ∷ run_of old ns high (next_of ns cell)
  cells_is = whole old mid ns low high at left cell run l here

  held_is : (i : ℕ) → holders i (run_of old ns (low + suc high) at) ≡ holders i (run_of old ns low at) + (one_at i cell + holders i (run_of old ns high (next_of ns cell)))
  held_is i = held_whole old mid ns low high at left cell run l here i

  same_run : run_of mid ns high (next_of ns cell) ≡ run_of old ns high (next_of ns cell)
  same_run = right_same old mid ns low high at left cell run l here

  count_left : (i : ℕ) → count i (tree_at mid left.levels left.root) ≡ holders i (run_of old ns low at)
  count_left i = sym (held_items i (tree_at mid left.levels left.root)) ∙ ap (holders i) l.entries

  count_right : (i : ℕ) → count i (tree_at far right.levels right.root) ≡ holders i (run_of old ns high (next_of ns cell))
  count_right i = sym (held_items i (tree_at far right.levels right.root)) ∙ ap (holders i) (r.entries ∙ same_run)

  pub inside : cell < length far
  inside = (let lt = cell_in old mid ns low high at left cell run l here in omega (arith, r.same_length))

  here_now : cell_at new cell ≡ record { key = (cell_at far cell).key; links = links_with left.root right.root (balance_of left.levels right.levels) }
  here_now = ap (λ (cs : List Cell). cell_at cs cell) written ∙ links_here far cell (links_with left.root right.root (balance_of left.levels right.levels)) inside

  elsewhere : (i : ℕ) → i ≢ cell → cell_at new i ≡ cell_at far i
  elsewhere i differs = ap (λ (cs : List Cell). cell_at cs i) written ∙ links_other far cell (links_with left.root right.root (balance_of left.levels right.levels)) i differs

  key_same : (cell_at far cell).key ≡ (cell_at old cell).key
  key_same = r.keys cell ∙ l.keys cell

  tree : Tree
  tree = Fork (tree_at mid left.levels left.root) cell (cell_at old cell).key (balance_of left.levels right.levels) (tree_at far right.levels right.root)

  apart_left : (i : ℕ) → 0 < count i (tree_at mid left.levels left.root) → i ≢ cell
  apart_left i some = differ i cell (holders i (run_of old ns low at)) (omega (arith, held_is i, run.once i)) (omega (arith, count_left i))

  apart_right : (i : ℕ) → 0 < count i (tree_at far right.levels right.root) → i ≢ cell
  apart_right i some = differ i cell (holders i (run_of old ns high (next_of ns cell))) (omega (arith, held_is i, run.once i)) (omega (arith, count_right i))

  -- the right part's cells are not the left one's
  kept_left : (i : ℕ) → 0 < count i (tree_at mid left.levels left.root) → cell_at new i ≡ cell_at mid i
  kept_left i some =
      let zero_right : holders i (run_of old ns high (next_of ns cell)) ≡ 0 = omega (arith, held_is i, run.once i, count_left i) in
      elsewhere i (apart_left i some) ∙ r.others i (ap (holders i) same_run ∙ zero_right)

  in_cells_now : IsInCells (cell_at new) (Fork (tree_at mid left.levels left.root) cell (cell_at old cell).key (balance_of left.levels right.levels) (tree_at far right.levels right.root))
  in_cells_now = (
    here_now
        ∙ ap (λ (k : List ℕ). record { key = k; links = links_with left.root right.root (balance_of left.levels right.levels) }) key_same
        ∙ ap (λ (x : Option ℕ). record { key = (cell_at old cell).key; links = links_with x right.root (balance_of left.levels right.levels) }) l.tree.root
        ∙ ap (λ (x : Option ℕ). record { key = (cell_at old cell).key; links = links_with (root_of (tree_at mid left.levels left.root)) x (balance_of left.levels right.levels) }) r.tree.root,
    stays (cell_at mid) (cell_at new) (tree_at mid left.levels left.root) kept_left l.tree.in_cells,
    stays (cell_at far) (cell_at new) (tree_at far right.levels right.root) (λ i some. elsewhere i (apart_right i some)) r.tree.in_cells,
  )

  long : length new ≡ length old
  long = ap length written ∙ links_length far cell (links_with left.root right.root (balance_of left.levels right.levels)) ∙ r.same_length ∙ l.same_length

  is_tree : IsTree new (Some cell) (Fork (tree_at mid left.levels left.root) cell (cell_at old cell).key (balance_of left.levels right.levels) (tree_at far right.levels right.root))
  is_tree = record {
    in_cells = in_cells_now;
    root = refl;
    once = λ i. omega (arith, count_left i, count_right i, held_is i, run.once i);
    within = λ i some. (let lt : i < length old = run.within i (omega (arith, count_left i, count_right i, held_is i)) in omega (arith, long));
  }

  tall_now : height (Fork (tree_at mid left.levels left.root) cell (cell_at old cell).key (balance_of left.levels right.levels) (tree_at far right.levels right.root)) ≡ right.levels + 1
  tall_now =
      let le : left.levels ≤ right.levels = not_fewer left.levels right.levels low high l.digits r.digits from to in
      omega (arith, l.tall, r.tall)

  shown : tree_at new (right.levels + 1) (Some cell) ≡ Fork (tree_at mid left.levels left.root) cell (cell_at old cell).key (balance_of left.levels right.levels) (tree_at far right.levels right.root)
  shown = shape_is (cell_at new) (Fork (tree_at mid left.levels left.root) cell (cell_at old cell).key (balance_of left.levels right.levels) (tree_at far right.levels right.root)) (right.levels + 1) in_cells_now (omega (arith, tall_now))

  is_avl : IsAvl (Fork (tree_at mid left.levels left.root) cell (cell_at old cell).key (balance_of left.levels right.levels) (tree_at far right.levels right.root))
  is_avl = (
    same_balance (balance_of left.levels right.levels) (height (tree_at mid left.levels left.root)) left.levels (height (tree_at far right.levels right.root)) right.levels l.tall r.tall (balanced left.levels right.levels low high l.digits r.digits from to),
    l.avl,
    r.avl,
  )

  entries_now : items (Fork (tree_at mid left.levels left.root) cell (cell_at old cell).key (balance_of left.levels right.levels) (tree_at far right.levels right.root)) ≡ run_of old ns (low + suc high) at
  entries_now =
      ap (λ (xs : List KeyEntry). xs ++ entry (cell_at old cell).key cell ∷ items (tree_at far right.levels right.root)) l.entries
      ∙ ap (λ (ys : List KeyEntry). run_of old ns low at ++ entry (cell_at old cell).key cell ∷ ys) (r.entries ∙ same_run)
      ∙ sym cells_is

  keys_now : (i : ℕ) → (cell_at new i).key ≡ (cell_at old i).key
  keys_now i = elim (cases_eq i cell) [
    | inl same ↦ ap (λ (x : ℕ). (cell_at new x).key) same ∙ ap (λ (c : Cell). c.key) here_now ∙ key_same ∙ sym (ap (λ (x : ℕ). (cell_at old x).key) same)
    | inr differs ↦ ap (λ (c : Cell). c.key) (elsewhere i differs) ∙ r.keys i ∙ l.keys i
  ]

  others_now : (i : ℕ) → holders i (run_of old ns (low + suc high) at) ≡ 0 → cell_at new i ≡ cell_at old i
  others_now i none =
      let differs : i ≢ cell = λ same. (let one : one_at i cell ≡ 1 = one_same i cell same in absurd (omega (arith, held_is i))) in
      elsewhere i differs ∙ r.others i (ap (holders i) same_run ∙ omega (arith, held_is i)) ∙ l.others i (omega (arith, held_is i))

  pub built_more : IsBuilt old new ns (low + suc high) at (record { root = Some cell; rest = right.rest; levels = right.levels + 1 })
  built_more = record {
    tree = subst (λ (t : Tree). IsTree new (Some cell) t) {x = Fork (tree_at mid left.levels left.root) cell (cell_at old cell).key (balance_of left.levels right.levels) (tree_at far right.levels right.root)} {y = tree_at new (right.levels + 1) (Some cell)} (sym shown) is_tree;
    avl = subst IsAvl {x = Fork (tree_at mid left.levels left.root) cell (cell_at old cell).key (balance_of left.levels right.levels) (tree_at far right.levels right.root)} {y = tree_at new (right.levels + 1) (Some cell)} (sym shown) is_avl;
    tall = ap height shown ∙ tall_now;
    entries = ap items shown ∙ entries_now;
    after = r.after ∙ sym (after_split (cell_at old) (next_of ns) low (suc high) at ∙ ap (λ (x : Option ℕ). after_cells (next_of ns) (suc high) x) (sym l.after ∙ here));
    digits = digits_more left.levels right.levels low high l.digits r.digits from to;
    keys = keys_now;
    others = others_now;
    same_length = long;
  }

-- ---- at a number of cells

pub run_at : (cs : List Cell) (ns : Nexts) (n low high : ℕ) (at : Option ℕ) → n ≡ low + suc high → IsRun cs ns n at → IsRun cs ns (low + suc high) at
run_at cs ns n low high at is run = subst (λ (m : ℕ). IsRun cs ns m at) {x = n} {y = low + suc high} is run

pub built_at : (old new : List Cell) (ns : Nexts) (n low high : ℕ) (at : Option ℕ) (b : Built) → n ≡ low + suc high → IsBuilt old new ns (low + suc high) at b → IsBuilt old new ns n at b
built_at old new ns n low high at b is built = subst (λ (m : ℕ). IsBuilt old new ns m at b) {x = low + suc high} {y = n} (sym is) built
