-- What a walk over a range of keys meets.
use Rattle.std.proofs.Common.{◌≡◌, ◌≢◌, ℕ, zero, suc, ◌+◌, ◌-◌, ◌<◌, ◌≤◌, List, [], ◌∷◌, ◌++◌, refl, sym, ◌∙◌, ap, arith, length, map, true, false, cond, Option, Some, None, subst, length-append, append-nil}
use Rattle.std.specs.Prelude.{Bool, not, nat_eq}
use Rattle.std.specs.List.{AllByRecursion}
use Rattle.std.specs.Ordering.{is_lt}
use Rattle.std.specs.declared.cmp.Ordering.TheVariants.{Less}
use Rattle.std.proofs.lemmas.Bool.Decides.{nat_tests}
use Rattle.std.proofs.lemmas.List.Elements.{filter-append}
use Rattle.std.proofs.lemmas.Bool.{eq-eqb}
use Rattle.span_keycode.specs.Order.{byte_order}
use Rattle.span_arena.specs.declared.cell.Cell.{Cell}
use Rattle.span_keytree.proofs.Keyed.{keys_in_cells}
use Rattle.span_keytree.specs.declared.tree.TreeRoot.{TreeRoot}
use Rattle.span_keytree.specs.Trees.{one_at}
use Rattle.span_arena.specs.declared.token.Chain.{Chain}
use Rattle.span_arena.specs.Cells.{cell_at}
use Rattle.span_keytree.specs.Items.{entry, holders, AreRising, below, from, entries_between}
use Rattle.span_keytree.specs.Entries.{KeyEntry}
use Rattle.span_keytree.specs.Nexts.{Nexts, next_of, IsLinked, head_cell}
use Rattle.span_keytree.specs.Roots.{tree_of, entries_at, IsIndex}
use Rattle.span_keywalk.specs.Walks.{is_stop, walked, walked_in, AreBelow, chains_from, chains_in, AreNumbersBelow}
use Rattle.span_keytree.proofs.Counting.{one_here, differ}
use Rattle.span_keytree.proofs.Rising.{all_front, all_back, below_more, rising_back, below_all, drops_from, cut_from, range_is}
use Rattle.span_keytree.proofs.Searching.{length_items}
use Rattle.span_keytree.proofs.Linking.{held_append, held_items, linked_back, linked_first}
use Rattle.span_keytree.proofs.Sizes.{size_most}

-- ---- one step

pub walked_none : (f : ℕ → Cell) (g : ℕ → Option ℕ) (n : ℕ) (stop : Option ℕ) → walked f g n None stop ≡ []
walked_none f g zero stop = refl
walked_none f g (suc n) stop = refl

pub walked_stop : (f : ℕ → Cell) (g : ℕ → Option ℕ) (n i : ℕ) (stop : Option ℕ) → is_stop i stop ≡ true → walked f g n (Some i) stop ≡ []
walked_stop f g zero i stop hit = refl
walked_stop f g (suc n) i stop hit = ap (λ (b : Bool). cond b [] (entry (f i).key i ∷ walked f g n (g i) stop)) hit

pub walked_more : (f : ℕ → Cell) (g : ℕ → Option ℕ) (n i : ℕ) (stop : Option ℕ) → 0 < n → is_stop i stop ≡ false → walked f g n (Some i) stop ≡ entry (f i).key i ∷ walked f g (n - 1) (g i) stop
walked_more f g zero i stop some miss = absurd (omega arith)
walked_more f g (suc n) i stop some miss =
    let e : n ≡ suc n - 1 = omega arith in
    ap (λ (b : Bool). cond b [] (entry (f i).key i ∷ walked f g n (g i) stop)) miss ∙ ap (λ (m : ℕ). entry (f i).key i ∷ walked f g m (g i) stop) e

-- ---- a whole walk

pub other_eq : (i j : ℕ) → j ≢ i → nat_eq i j ≡ false
other_eq i j differs = grind (arith, nat_tests)

not_stop : (i : ℕ) (es fs : List KeyEntry) → ((j : ℕ) → one_at j i + holders j (es ++ fs) ≤ 1) → is_stop i (head_cell None fs) ≡ false
not_stop i es [] once = refl
not_stop i es (e ∷ fs) once =
    let some : 0 < holders e.chain.number (es ++ e ∷ fs) = omega (arith, held_append e.chain.number es (e ∷ fs), one_here e.chain.number) in
    other_eq i e.chain.number (differ e.chain.number i (holders e.chain.number (es ++ e ∷ fs)) (once e.chain.number) some)

-- nothing is met from the stop on
none_met : (f : ℕ → Cell) (g : ℕ → Option ℕ) (n : ℕ) (at stop : Option ℕ) (fs : List KeyEntry) → IsLinked g at fs → stop ≡ head_cell None fs → walked f g n at stop ≡ []
none_met f g n at stop [] h is = ap (λ (x : Option ℕ). walked f g n x stop) h ∙ walked_none f g n stop
none_met f g n at stop (e ∷ fs) h is =
    let hit : is_stop e.chain.number stop ≡ true = ap (λ (x : Option ℕ). is_stop e.chain.number x) is ∙ eq-eqb e.chain.number e.chain.number refl in
    ap (λ (x : Option ℕ). walked f g n x stop) h.0 ∙ walked_stop f g n e.chain.number stop hit

-- the entries from the first of some to the one after them
pub walked_is : (f : ℕ → Cell) (g : ℕ → Option ℕ) (n : ℕ) (at stop : Option ℕ) (es fs : List KeyEntry) → IsLinked g at (es ++ fs) → stop ≡ head_cell None fs → length es ≤ n
    → AllByRecursion (λ (e : KeyEntry). (f e.chain.number).key ≡ e.key) es → ((i : ℕ) → holders i (es ++ fs) ≤ 1) → walked f g n at stop ≡ es
walked_is f g n at stop [] fs h is enough keys once = none_met f g n at stop fs h is
walked_is f g zero at stop (e ∷ es) fs h is enough keys once = absurd (omega arith)
walked_is f g (suc n) at stop (e ∷ es) fs h is enough keys once =
    let miss : is_stop e.chain.number stop ≡ false = ap (λ (x : Option ℕ). is_stop e.chain.number x) is ∙ not_stop e.chain.number es fs once in
    let rest : walked f g n (g e.chain.number) stop ≡ es = walked_is f g n (g e.chain.number) stop es fs h.1 is (omega arith) keys.1 (λ i. omega (arith, once i)) in
    ap (λ (x : Option ℕ). walked f g (suc n) x stop) h.0
    ∙ ap (λ (b : Bool). cond b [] (entry (f e.chain.number).key e.chain.number ∷ walked f g n (g e.chain.number) stop)) miss
    ∙ ap (λ (xs : List KeyEntry). entry (f e.chain.number).key e.chain.number ∷ xs) rest
    ∙ ap (λ (k : List ℕ). entry k e.chain.number ∷ es) keys.0

-- ---- in an index

cells_below : (m : ℕ) (es : List KeyEntry) → ((i : ℕ) → 0 < holders i es → i < m) → AreBelow m es
cells_below m [] within = tt
cells_below m (e ∷ es) within = (within e.chain.number (omega (arith, one_here e.chain.number)), cells_below m es (λ i s. within i (omega arith)))

-- what a walk meets, and that it is all in range
pub record IsWalked (cs : List Cell) (ns : Nexts) (n : ℕ) (at stop : Option ℕ) (es : List KeyEntry) : Type 0 where
  pub now : walked_in cs ns n at stop ≡ es
  pub within : AreBelow (length cs) (walked_in cs ns n at stop)

module _ (cs : List Cell) (ns : Nexts) (index : TreeRoot) (own : IsIndex cs ns index) (n : ℕ) (enough : length cs ≤ n) where
  few : length (entries_at cs index) ≤ length cs
  few = omega (arith, length_items (tree_of cs index), size_most (tree_of cs index) (length cs) own.search.tree.once own.search.tree.within)

  once : (i : ℕ) → holders i (entries_at cs index) ≤ 1
  once i = omega (arith, held_items i (tree_of cs index), own.search.tree.once i)

  inside : (i : ℕ) → 0 < holders i (entries_at cs index) → i < length cs
  inside i s = own.search.tree.within i (omega (arith, held_items i (tree_of cs index)))

  -- the entries between some others
  pub part_walked : (xs es fs : List KeyEntry) (at stop : Option ℕ) → entries_at cs index ≡ xs ++ (es ++ fs) → at ≡ head_cell None (es ++ fs) → stop ≡ head_cell None fs → IsWalked cs ns n at stop es
  part_walked xs es fs at stop is first last =
      let own_links : IsLinked (next_of ns) ns.first (xs ++ (es ++ fs)) = subst (λ (l : List KeyEntry). IsLinked (next_of ns) ns.first l) {x = entries_at cs index} {y = xs ++ (es ++ fs)} is own.linked in
      let from_first : IsLinked (next_of ns) (head_cell None (es ++ fs)) (es ++ fs) = linked_back (next_of ns) ns.first xs (es ++ fs) own_links in
      let linked : IsLinked (next_of ns) at (es ++ fs) = subst (λ (x : Option ℕ). IsLinked (next_of ns) x (es ++ fs)) {x = head_cell None (es ++ fs)} {y = at} (sym first) from_first in
      let all_keys : AllByRecursion (λ (e : KeyEntry). (cell_at cs e.chain.number).key ≡ e.key) (xs ++ (es ++ fs)) =
      subst (λ (l : List KeyEntry). AllByRecursion (λ (e : KeyEntry). (cell_at cs e.chain.number).key ≡ e.key) l) {x = entries_at cs index} {y = xs ++ (es ++ fs)} is (keys_in_cells cs (tree_of cs index) own.search.tree.in_cells) in
      let keys : AllByRecursion (λ (e : KeyEntry). (cell_at cs e.chain.number).key ≡ e.key) es =
      all_front (λ (e : KeyEntry). (cell_at cs e.chain.number).key ≡ e.key) es fs (all_back (λ (e : KeyEntry). (cell_at cs e.chain.number).key ≡ e.key) xs (es ++ fs) all_keys) in
      let len : length (entries_at cs index) ≡ length xs + (length es + length fs) = ap length is ∙ length-append xs (es ++ fs) ∙ ap (λ (m : ℕ). length xs + m) (length-append es fs) in
      let held_is : (i : ℕ) → holders i (entries_at cs index) ≡ holders i xs + holders i (es ++ fs) = λ i. ap (holders i) is ∙ held_append i xs (es ++ fs) in
      let now : walked_in cs ns n at stop ≡ es =
      walked_is (cell_at cs) (next_of ns) n at stop es fs linked last (omega (arith, few)) keys (λ i. omega (arith, held_is i, once i)) in
      record {
        now = now;
        within = subst (λ (l : List KeyEntry). AreBelow (length cs) l) {x = es} {y = walked_in cs ns n at stop} (sym now)
            (cells_below (length cs) es (λ i s. inside i (omega (arith, held_is i, held_append i es fs))));
      }

  pub range_walked : (low high : List ℕ) (at stop : Option ℕ) → byte_order low high ≡ Less → at ≡ head_cell None (from low (entries_at cs index)) → stop ≡ head_cell None (from high (entries_at cs index))
      → IsWalked cs ns n at stop (entries_between low high (entries_at cs index))
  range_walked low high at stop less first last =
      let es = entries_at cs index in
      let cut : es ≡ below low es ++ from low es = cut_from low es own.search.rising in
      let rising : AreRising (from low es) = rising_back (below low es) (from low es) (subst AreRising {x = es} {y = below low es ++ from low es} cut own.search.rising) in
      let again : from low es ≡ below high (from low es) ++ from high (from low es) = cut_from high (from low es) rising in
      let gone : from high (below low es) ≡ [] = drops_from high (below low es) (below_more low high (below low es) less (below_all low es)) in
      let rest : from high es ≡ from high (from low es) =
      ap (from high) cut ∙ filter-append (λ (e : KeyEntry). not (is_lt (byte_order e.key high))) (below low es) (from low es) ∙ ap (λ (xs : List KeyEntry). xs ++ from high (from low es)) gone in
      let is : es ≡ below low es ++ (below high (from low es) ++ from high (from low es)) = cut ∙ ap (λ (xs : List KeyEntry). below low es ++ xs) again in
      let walk : IsWalked cs ns n at stop (below high (from low es)) =
      part_walked (below low es) (below high (from low es)) (from high (from low es)) at stop is (first ∙ ap (λ (xs : List KeyEntry). head_cell None xs) again) (last ∙ ap (λ (xs : List KeyEntry). head_cell None xs) rest) in
      subst (λ (xs : List KeyEntry). IsWalked cs ns n at stop xs) {x = below high (from low es)} {y = entries_between low high es} (sym (range_is low high es)) walk

module _ (cs : List Cell) (ns : Nexts) (index : TreeRoot) (own : IsIndex cs ns index) (n : ℕ) (enough : length cs ≤ n) where
  -- all entries
  pub all_walked : IsWalked cs ns n ns.first None (entries_at cs index)
  all_walked =
      let es = entries_at cs index in
      let whole : es ≡ [] ++ (es ++ []) = sym (append-nil es) in
      let start : ns.first ≡ head_cell None (es ++ []) = linked_first (next_of ns) ns.first es own.linked ∙ ap (λ (xs : List KeyEntry). head_cell None xs) whole in
      part_walked cs ns index own n enough [] es [] ns.first None whole start refl

-- ---- the chains alone

chains_walked : (f : ℕ → Cell) (g : ℕ → Option ℕ) (n : ℕ) (at : Option ℕ) → chains_from g n at ≡ map (λ (e : KeyEntry). e.chain) (walked f g n at None)
chains_walked f g zero at = refl
chains_walked f g (suc n) None = refl
chains_walked f g (suc n) (Some i) = ap (λ (cs : List Chain). record { number = i } ∷ cs) (chains_walked f g n (g i))

numbers_below : (m : ℕ) (es : List KeyEntry) → AreBelow m es → AreNumbersBelow m (map (λ (e : KeyEntry). e.chain) es)
numbers_below m [] below = tt
numbers_below m (e ∷ es) below = (below.0, numbers_below m es below.1)

-- what is handed out of the chains, and that it is all in range
pub record AreWalked (ns : Nexts) (n : ℕ) (at : Option ℕ) (es : List KeyEntry) : Type 0 where
  pub now : chains_in ns n at ≡ map (λ (e : KeyEntry). e.chain) es
  pub within : AreNumbersBelow (length ns.next) (chains_in ns n at)

pub part_handed : (cs : List Cell) (ns : Nexts) (n : ℕ) (at : Option ℕ) (es : List KeyEntry) → length ns.next ≡ length cs → IsWalked cs ns n at None es → AreWalked ns n at es
part_handed cs ns n at es places walk =
    let chains : chains_in ns n at ≡ map (λ (e : KeyEntry). e.chain) (walked_in cs ns n at None) = chains_walked (cell_at cs) (next_of ns) n at in
    let inside : AreNumbersBelow (length cs) (chains_in ns n at) =
    subst (λ (xs : List Chain). AreNumbersBelow (length cs) xs) {x = map (λ (e : KeyEntry). e.chain) (walked_in cs ns n at None)} {y = chains_in ns n at} (sym chains) (numbers_below (length cs) (walked_in cs ns n at None) walk.within) in
    record {
      now = chains ∙ ap (map (λ (e : KeyEntry). e.chain)) walk.now;
      within = subst (λ (m : ℕ). AreNumbersBelow m (chains_in ns n at)) {x = length cs} {y = length ns.next} (sym places) inside;
    }

pub all_handed : (cs : List Cell) (ns : Nexts) (index : TreeRoot) → IsIndex cs ns index → (n : ℕ) → length cs ≤ n → (at : Option ℕ) → at ≡ ns.first → AreWalked ns n at (entries_at cs index)
all_handed cs ns index own n enough at first =
    let walk : IsWalked cs ns n ns.first None (entries_at cs index) = all_walked cs ns index own n enough in
    let chains : chains_in ns n ns.first ≡ map (λ (e : KeyEntry). e.chain) (walked_in cs ns n ns.first None) = chains_walked (cell_at cs) (next_of ns) n ns.first in
    let inside : AreNumbersBelow (length cs) (chains_in ns n ns.first) =
    subst (λ (xs : List Chain). AreNumbersBelow (length cs) xs) {x = map (λ (e : KeyEntry). e.chain) (walked_in cs ns n ns.first None)} {y = chains_in ns n ns.first} (sym chains) (numbers_below (length cs) (walked_in cs ns n ns.first None) walk.within) in
    let there : AreWalked ns n ns.first (entries_at cs index) = record {
      now = chains ∙ ap (map (λ (e : KeyEntry). e.chain)) walk.now;
      within = subst (λ (m : ℕ). AreNumbersBelow m (chains_in ns n ns.first)) {x = length cs} {y = length ns.next} (sym own.places) inside;
    } in
    subst (λ (x : Option ℕ). AreWalked ns n x (entries_at cs index)) {x = ns.first} {y = at} (sym first) there
