-- The last key of an index, and keys that are after it.
use Rattle.std.proofs.Common.{◌≡◌, ◌≢◌, ℕ, ◌+◌, ◌*◌, ◌^◌, ◌<◌, ◌≤◌, List, [], ◌∷◌, ◌++◌, refl, sym, ◌∙◌, ap, arith, length, true, false, Option, Some, None, subst}
use Rattle.std.specs.List.{AllByRecursion}
use Rattle.std.specs.Ordering.{is_gt}
use Rattle.std.specs.declared.cmp.Ordering.{Ordering}
use Rattle.std.specs.declared.cmp.Ordering.TheVariants.{Less, Equal, Greater}
use Rattle.std.proofs.lemmas.Map.Lookups.{exact_bytes}
use Rattle.span_value.proofs.Comparisons.{is_greater}
use Rattle.span_value.proofs.Lists.{all_append}
use Rattle.span_keycode.specs.Order.{byte_order}
use Rattle.span_arena.specs.declared.cell.Cell.{Cell}
use Rattle.span_arena.specs.declared.cell.Balance.{Balance}
use Rattle.span_arena.specs.Cells.{cell_at}
use Rattle.span_keytree.specs.Trees.{Tree, Leaf, Fork, by_side, search_in, size, height, IsAvl}
use Rattle.span_keytree.specs.Effects.{IsInside}
use Rattle.span_keytree.specs.Entries.{with_entry, KeyEntry}
use Rattle.span_keytree.specs.Items.{entry, items, holders, AreRising, below}
use Rattle.span_keytree.specs.Nexts.{last_cell, before_in}
use Rattle.span_keytree.specs.Lasts.{IsAboveRight, is_after, one_if_some}
use Rattle.span_keytree.proofs.Avl.{fewer_levels}
use Rattle.span_keytree.proofs.Linking.{last_some, last_held}
use Rattle.span_keytree.proofs.Rising.{AllBelow, turned, all_back, below_more, IsAround, around, keeps_below, drops_above, with_entry_left}
use Rattle.span_keytree.proofs.Searching.{AllOther, last_middle, before_is}

-- the entries have the keys of their cells
abbrev pub AreOwnKeys : List Cell → List KeyEntry → Type 0
AreOwnKeys cs es = AllByRecursion (λ (e : KeyEntry). (cell_at cs e.chain.number).key ≡ e.key) es

-- a list with a last entry
record HasLast (es : List KeyEntry) : Type 0 where
  pub front : List KeyEntry
  pub last : KeyEntry
  pub is : es ≡ front ++ last ∷ []

last_of : (e : KeyEntry) (es : List KeyEntry) → HasLast (e ∷ es)
last_of e [] = record { front = []; last = e; is = refl }
last_of e (f ∷ es) =
    let h = last_of f es in
    record { front = e ∷ h.front; last = h.last; is = ap (λ (xs : List KeyEntry). e ∷ xs) h.is }

not_gt : (o : Ordering) → is_gt o ≡ false → o ≢ Equal → o ≡ Less
not_gt Less is differs = refl
not_gt Equal is differs = absurd (differs refl)
not_gt Greater is differs = absurd (let e : true ≡ false = is in cc)

-- ---- at a list with a last entry

module _ (cs : List Cell) (xs : List KeyEntry) (e : KeyEntry) (key : List ℕ) where
  after_last : AreOwnKeys cs (xs ++ e ∷ []) → is_after cs (last_cell None (xs ++ e ∷ [])) key ≡ is_gt (byte_order key e.key)
  after_last keys =
      ap (λ (o : Option ℕ). is_after cs o key) (last_middle None xs e [])
      ∙ ap (λ (k : List ℕ). is_gt (byte_order key k)) (all_back (λ (f : KeyEntry). (cell_at cs f.chain.number).key ≡ f.key) xs (e ∷ []) keys).0

  below_last : AreRising (xs ++ e ∷ []) → is_gt (byte_order key e.key) ≡ true → AllBelow key (xs ++ e ∷ [])
  below_last rising is =
      let a : IsAround xs e [] = around xs e [] rising in
      let less : byte_order e.key key ≡ Less = turned key e.key Greater (is_greater (byte_order key e.key) is) in
      all_append (λ (f : KeyEntry). byte_order f.key key ≡ Less) xs (e ∷ []) (below_more e.key key xs less a.smaller) (less, tt)

  last_kept : (c : ℕ) → AreRising (xs ++ e ∷ []) → AllOther key (xs ++ e ∷ []) → is_gt (byte_order key e.key) ≡ false → last_cell None (with_entry (xs ++ e ∷ []) (entry key c)) ≡ last_cell None (xs ++ e ∷ [])
  last_kept c rising other is =
      let a : IsAround xs e [] = around xs e [] rising in
      let differs : e.key ≢ key = (all_back (λ (f : KeyEntry). f.key ≢ key) xs (e ∷ []) other).0 in
      let less : byte_order key e.key ≡ Less = not_gt (byte_order key e.key) is (λ q. differs (sym (exact_bytes key e.key q))) in
      ap (λ (l : List KeyEntry). last_cell None l) (sym (with_entry_left xs e [] (entry key c) a less))
      ∙ last_middle None (with_entry xs (entry key c)) e []
      ∙ sym (last_middle None xs e [])

-- ---- at any list

module _ (cs : List Cell) (key : List ℕ) where
  -- a key after the last one is after all
  pub all_before : (es : List KeyEntry) → AreRising es → AreOwnKeys cs es → is_after cs (last_cell None es) key ≡ true → AllBelow key es
  all_before [] rising keys after = tt
  all_before (x ∷ es) rising keys after =
      let h = last_of x es in
      let gt : is_gt (byte_order key h.last.key) ≡ true =
      sym (after_last cs h.front h.last key (subst (λ (l : List KeyEntry). AreOwnKeys cs l) {x = x ∷ es} {y = h.front ++ h.last ∷ []} h.is keys))
      ∙ ap (λ (l : List KeyEntry). is_after cs (last_cell None l) key) (sym h.is)
      ∙ after in
      subst (λ (l : List KeyEntry). AllBelow key l) {x = h.front ++ h.last ∷ []} {y = x ∷ es} (sym h.is)
      (below_last cs h.front h.last key (subst AreRising {x = x ∷ es} {y = h.front ++ h.last ∷ []} h.is rising) gt)

  -- a key that is not after the last one leaves it the last
  pub last_stays : (es : List KeyEntry) (c : ℕ) → AreRising es → AreOwnKeys cs es → AllOther key es → is_after cs (last_cell None es) key ≡ false → last_cell None (with_entry es (entry key c)) ≡ last_cell None es
  last_stays [] c rising keys other after = absurd (let e : true ≡ false = after in cc)
  last_stays (x ∷ es) c rising keys other after =
      let h = last_of x es in
      let gt : is_gt (byte_order key h.last.key) ≡ false =
      sym (after_last cs h.front h.last key (subst (λ (l : List KeyEntry). AreOwnKeys cs l) {x = x ∷ es} {y = h.front ++ h.last ∷ []} h.is keys))
      ∙ ap (λ (l : List KeyEntry). is_after cs (last_cell None l) key) (sym h.is)
      ∙ after in
      subst (λ (l : List KeyEntry). last_cell None (with_entry l (entry key c)) ≡ last_cell None l) {x = h.front ++ h.last ∷ []} {y = x ∷ es} (sym h.is)
      (last_kept cs h.front h.last key c (subst AreRising {x = x ∷ es} {y = h.front ++ h.last ∷ []} h.is rising) (subst (λ (l : List KeyEntry). AllOther key l) {x = x ∷ es} {y = h.front ++ h.last ∷ []} h.is other) gt)

-- a key after all is the last one
pub last_new : (es : List KeyEntry) (key : List ℕ) (c : ℕ) → AllBelow key es → last_cell None (with_entry es (entry key c)) ≡ Some c
last_new es key c all =
    ap (λ (zs : List KeyEntry). last_cell None (below key es ++ entry key c ∷ zs)) (drops_above key es all)
    ∙ last_middle None (below key es) (entry key c) []

-- the last cell is one
pub inside_last : (cs : List Cell) (es : List KeyEntry) → ((i : ℕ) → 0 < holders i es → i < length cs) → IsInside cs (last_cell None es)
inside_last cs [] within = tt
inside_last cs (e ∷ es) within =
    let l = last_some e.chain.number es in
    subst (λ (o : Option ℕ). IsInside cs o) {x = Some l.0} {y = last_cell (Some e.chain.number) es} (sym l.1) (within l.0 (last_held e es l.0 l.1))

-- ---- in a tree

pub above_right : (key : List ℕ) (t : Tree) → AllBelow key (items t) → IsAboveRight key t
above_right key Leaf all = tt
above_right key (Fork l n k b r) all =
    let h = all_back (λ (e : KeyEntry). byte_order e.key key ≡ Less) (items l) (entry k n ∷ items r) all in
    (turned k key Less h.0, above_right key r h.1)

pub not_there : (key : List ℕ) (t : Tree) → IsAboveRight key t → search_in key t ≡ None
not_there key Leaf h = refl
not_there key (Fork l n k b r) h = ap (λ (o : Ordering). by_side o (search_in key l) n (search_in key r)) h.0 ∙ not_there key r h.1

-- the last cell is the one before the new one
pub before_last : (key : List ℕ) (t : Tree) → AreRising (items t) → AllBelow key (items t) → before_in key None t ≡ last_cell None (items t)
before_last key t rising all =
    before_is key None t rising (not_there key t (above_right key t all)) ∙ ap (λ (es : List KeyEntry). last_cell None es) (keeps_below key (items t) all)

-- the last cell of a tree is that of its right part, or its own
pub last_fork : (x : Option ℕ) (l : Tree) (n : ℕ) (k : List ℕ) (b : Balance) (r : Tree) → last_cell x (items (Fork l n k b r)) ≡ last_cell (Some n) (items r)
last_fork x l n k b r = last_middle x (items l) (entry k n) (items r)

-- ---- costs

some_most : (o : Option ℕ) → one_if_some o ≤ 1
some_most None = omega arith
some_most (Some i) = omega arith

-- one comparison more than the tree has levels
pub one_more_compared : (t : Tree) (last : Option ℕ) (d : ℕ) → last ≡ last_cell None (items t) → IsAvl t → size t < 2 ^ d → one_if_some last + height t ≤ 2 * d
one_more_compared Leaf last d is avl few = omega (arith, ap one_if_some is)
one_more_compared (Fork l n k b r) last d is avl few = omega (arith, some_most last, fewer_levels (Fork l n k b r) d avl (omega arith) few)
