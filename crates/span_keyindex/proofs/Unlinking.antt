-- The links of the chains that are left, and the index of them.
use Rattle.std.proofs.Common.{◌≡◌, ◌≢◌, ℕ, zero, suc, ◌+◌, ◌<◌, ◌≤◌, List, [], ◌∷◌, ◌++◌, refl, sym, ◌∙◌, ap, arith, length, set, true, false, cond, filter, Option, Some, None, IfSome, subst, length-append, append-nil, append_assoc}
use Rattle.std.specs.Prelude.{Bool, not}
use Rattle.std.specs.List.{AllByRecursion}
use Rattle.std.specs.declared.cmp.Ordering.TheVariants.{Less}
use Rattle.std.proofs.lemmas.List.{get_or-set_other}
use Rattle.std.proofs.lemmas.List.Elements.{filter-append}
use Rattle.span_value.proofs.Lists.{all_filter}
use Rattle.span_keycode.specs.Order.{byte_order}
use Rattle.span_arena.specs.declared.cell.Cell.{Cell}
use Rattle.span_keytree.specs.declared.tree.TreeRoot.{TreeRoot}
use Rattle.span_keyindex.specs.declared.build.Built.{Built}
use Rattle.span_keyindex.specs.declared.remove.Kept.{Kept}
use Rattle.span_keytree.specs.Trees.{one_at, count}
use Rattle.span_keytree.specs.Puts.{tree_at}
use Rattle.span_arena.specs.Content.{Content, IsChain, is_unused, without_chain}
use Rattle.span_arena.specs.Cells.{cell_at}
use Rattle.span_keytree.specs.Items.{entry, items, holders, AreRising}
use Rattle.span_keytree.specs.Entries.{KeyEntry}
use Rattle.span_keytree.specs.Nexts.{Nexts, next_of, IsLinked, with_cell, last_cell, without_first}
use Rattle.span_keytree.specs.Roots.{tree_of, entries_at, IsIndex}
use Rattle.span_keywalk.specs.Walks.{walked}
use Rattle.span_keyindex.specs.Builds.{run_of, IsRun, IsBuilt}
use Rattle.span_keytree.specs.Arenas.{IsArenaOf}
use Rattle.span_keyindex.specs.Removals.{is_kept, unmarked, all_of, IsSequence, passed_links, passed, passed_arena, KeepsCells}
use Rattle.span_keytree.proofs.Counting.{one_here, one_same}
use Rattle.span_keyindex.proofs.Freeing.{IsFreed, is_chain_next, is_unused_next, freed_used, freed_more, freed_none, freed_cells}
use Rattle.span_keytree.proofs.Linking.{held_append, held_items, linked_same, linked_more, last_some, last_held, held_apart}
use Rattle.span_keytree.proofs.Whole.{length_cell}
use Rattle.span_keyindex.proofs.Building.{run_most}
use Rattle.span_keywalk.proofs.Walking.{walked_is, all_walked}

-- ---- filters

held_head : (i : ℕ) (b : Bool) (e : KeyEntry) (es : List KeyEntry) → holders i (cond b (e ∷ es) es) ≤ one_at i e.chain.number + holders i es
held_head i true e es = omega arith
held_head i false e es = omega arith

pub held_filter : (p : KeyEntry → Bool) (i : ℕ) (es : List KeyEntry) → holders i (filter p es) ≤ holders i es
held_filter p i [] = omega arith
held_filter p i (e ∷ es) = omega (arith, held_head i (p e) e (filter p es), held_filter p i es)

rising_head : (b : Bool) (e : KeyEntry) (es : List KeyEntry) → AllByRecursion (λ (f : KeyEntry). byte_order e.key f.key ≡ Less) es → AreRising es → AreRising (cond b (e ∷ es) es)
rising_head true e es h k = (h, k)
rising_head false e es h k = k

rising_filter : (p : KeyEntry → Bool) (es : List KeyEntry) → AreRising es → AreRising (filter p es)
rising_filter p [] h = tt
rising_filter p (e ∷ es) h = rising_head (p e) e (filter p es) (all_filter (λ (f : KeyEntry). byte_order e.key f.key ≡ Less) p es h.0) (rising_filter p es h.1)

-- ---- a pass over the links

-- the next entry of those that are left
pub record IsNextEntry (g : ℕ → Option ℕ) (cell : ℕ) (rest : List KeyEntry) : Type 0 where
  pub first : KeyEntry
  pub others : List KeyEntry
  pub is : rest ≡ first ∷ others
  pub number : first.chain.number ≡ cell
  pub linked : IsLinked g (g cell) others

next_entry : (g : ℕ → Option ℕ) (at : Option ℕ) (cell : ℕ) (rest : List KeyEntry) → IsLinked g at rest → at ≡ Some cell → IsNextEntry g cell rest
next_entry g at cell [] h is = absurd (let e : Some cell ≡ None = sym is ∙ h in cc)
next_entry g at cell (e ∷ es) h is =
    let same : e.chain.number ≡ cell = (let q : Some e.chain.number ≡ Some cell = sym h.0 ∙ is in cc) in
    record { first = e; others = es; is = refl; number = same; linked = subst (λ (x : ℕ). IsLinked g (g x) es) {x = e.chain.number} {y = cell} same h.1 }

-- some entries were passed; those of them whose chains are in use are linked again, and the chains of the others are free
pub record IsPassing (es : List KeyEntry) (a b : Content) (old ns : Nexts) (n step : ℕ) (at : Option ℕ) (k : Kept) : Type 0 where
  pub gone : List KeyEntry
  pub rest : List KeyEntry
  pub parts : es ≡ gone ++ rest
  pub few : length rest + step ≤ n
  pub relinked : IsLinked (next_of ns) ns.first (unmarked (is_unused a) gone)
  pub last : k.before ≡ last_cell None (unmarked (is_unused a) gone)
  pub count : k.count ≡ length (unmarked (is_unused a) gone)
  pub fewer : k.count ≤ step
  pub linked : IsLinked (next_of ns) at rest
  pub places : length ns.next ≡ length old.next
  pub freed : IsFreed a b gone
  pub cells : KeepsCells (is_unused a) a.cells b.cells

-- a link that neither the last cell nor the new one has
other_link : (n : Nexts) (before : Option ℕ) (c i : ℕ) (xs : List KeyEntry) → before ≡ last_cell None xs → holders i xs ≡ 0 → i ≢ c → next_of (with_cell n before c) i ≡ next_of n i
other_link n before c i [] is none differs =
    ap (λ (x : Option ℕ). next_of (with_cell n x c) i) is ∙ get_or-set_other n.next c i n.first None differs
other_link n before c i (x ∷ xs) is none differs =
    let last = last_some x.chain.number xs in
    let some : 0 < holders last.0 (x ∷ xs) = last_held x xs last.0 last.1 in
    let not_b : i ≢ last.0 = λ q. held_apart last.0 i (x ∷ xs) some none (sym q) in
    ap (λ (y : Option ℕ). next_of (with_cell n y c) i) (is ∙ last.1)
    ∙ get_or-set_other (set n.next c (next_of n last.0)) last.0 i (Some c) None not_b
    ∙ get_or-set_other n.next c i (next_of n last.0) None differs

module _ (es : List KeyEntry) (a b : Content) (old ns : Nexts) (n step : ℕ) (at : Option ℕ) (k : Kept) (cell : ℕ)
    (own : IsArenaOf es a) (once : (i : ℕ) → holders i es ≤ 1) (within : (i : ℕ) → 0 < holders i es → i < length old.next) (passing : IsPassing es a b old ns n step at k) (here : at ≡ Some cell) where
  next : IsNextEntry (next_of ns) cell passing.rest
  next = next_entry (next_of ns) at cell passing.rest passing.linked here

  held_is : (i : ℕ) → holders i es ≡ holders i passing.gone + (one_at i cell + holders i next.others)
  held_is i =
      ap (holders i) passing.parts
      ∙ held_append i passing.gone passing.rest
      ∙ ap (λ (xs : List KeyEntry). holders i passing.gone + holders i xs) next.is
      ∙ ap (λ (c : ℕ). holders i passing.gone + (one_at i c + holders i next.others)) next.number

  held_kept : (i : ℕ) → holders i (unmarked (is_unused a) passing.gone) ≤ holders i passing.gone
  held_kept i = held_filter (λ (e : KeyEntry). is_kept (is_unused a) e) i passing.gone

  pub cell_linked : cell < length ns.next
  cell_linked = (let lt = within cell (omega (arith, held_is cell, one_here cell)) in omega (arith, passing.places))

  before_by : (b : Option ℕ) → b ≡ last_cell None (unmarked (is_unused a) passing.gone) → IfSome b (λ (i : ℕ). i < length ns.next)
  before_by None is = tt
  before_by (Some b) is = by_list (unmarked (is_unused a) passing.gone) is (λ i s. (let lt = within i (omega (arith, held_is i, held_kept i)) in omega (arith, passing.places)))
    where
      by_list : (xs : List KeyEntry) → Some b ≡ last_cell None xs → ((i : ℕ) → 0 < holders i xs → i < length ns.next) → b < length ns.next
      by_list [] is inside = absurd (let e : Some b ≡ None = is in cc)
      by_list (x ∷ xs) is inside = inside b (last_held x xs b (sym is))

  pub before_linked : IfSome k.before (λ (i : ℕ). i < length ns.next)
  before_linked = before_by k.before passing.last

  parts_now : es ≡ (passing.gone ++ next.first ∷ []) ++ next.others
  parts_now = passing.parts ∙ ap (λ (xs : List KeyEntry). passing.gone ++ xs) next.is ∙ sym (append_assoc passing.gone (next.first ∷ []) next.others)

  parts_here : es ≡ passing.gone ++ next.first ∷ next.others
  parts_here = passing.parts ∙ ap (λ (xs : List KeyEntry). passing.gone ++ xs) next.is

  pub chain_next : IsChain b cell
  chain_next = subst (λ (c : ℕ). IsChain b c) {x = next.first.chain.number} {y = cell} next.number (is_chain_next es passing.gone next.others next.first a b own parts_here passing.freed)

  pub unused_same : is_unused b cell ≡ is_unused a cell
  unused_same = subst (λ (c : ℕ). is_unused b c ≡ is_unused a c) {x = next.first.chain.number} {y = cell} next.number (is_unused_next es passing.gone next.others next.first a b own parts_here passing.freed)

  few_now : length next.others + (step + 1) ≤ n
  few_now = (let len : length passing.rest ≡ suc (length next.others) = ap length next.is in omega (arith, passing.few))

  kept_now : (b : Bool) → is_kept (is_unused a) next.first ≡ b → unmarked (is_unused a) (passing.gone ++ next.first ∷ []) ≡ unmarked (is_unused a) passing.gone ++ cond b (next.first ∷ []) []
  kept_now b is = filter-append (λ (e : KeyEntry). is_kept (is_unused a) e) passing.gone (next.first ∷ []) ∙ ap (λ (x : Bool). unmarked (is_unused a) passing.gone ++ cond x (next.first ∷ []) []) is

  -- a marked cell
  pub passed_marked : is_unused a cell ≡ true → IsPassing es a (without_chain b cell) old ns n (step + 1) (next_of ns cell) k
  passed_marked marked =
      let fails : is_kept (is_unused a) next.first ≡ false = ap (λ (c : ℕ). not (is_unused a c)) next.number ∙ ap not marked in
      let same : unmarked (is_unused a) passing.gone ≡ unmarked (is_unused a) (passing.gone ++ next.first ∷ []) = sym (kept_now false fails ∙ append-nil (unmarked (is_unused a) passing.gone)) in
      record {
        gone = passing.gone ++ next.first ∷ [];
        rest = next.others;
        parts = parts_now;
        few = few_now;
        relinked = subst (λ (xs : List KeyEntry). IsLinked (next_of ns) ns.first xs) {x = unmarked (is_unused a) passing.gone} {y = unmarked (is_unused a) (passing.gone ++ next.first ∷ [])} same passing.relinked;
        last = passing.last ∙ ap (λ (xs : List KeyEntry). last_cell None xs) same;
        count = passing.count ∙ ap length same;
        fewer = omega (arith, passing.fewer);
        linked = next.linked;
        places = passing.places;
        freed = freed_more es passing.gone next.others next.first a b own parts_here passing.freed (ap (is_unused a) next.number ∙ marked) (without_chain b cell) (ap (without_chain b) (sym next.number));
        cells = freed_cells a b cell marked passing.cells;
      }

  last_end : (b : Option ℕ) (xs : List KeyEntry) (e : KeyEntry) → last_cell b (xs ++ e ∷ []) ≡ Some e.chain.number
  last_end b [] e = refl
  last_end b (x ∷ xs) e = last_end (Some x.chain.number) xs e

  -- a cell that is kept
  pub passed_kept : is_unused a cell ≡ false → IsPassing es a b old (with_cell ns k.before cell) n (step + 1) (next_of ns cell) (record { before = Some cell; count = k.count + 1 })
  passed_kept unmarked_cell =
      let holds : is_kept (is_unused a) next.first ≡ true = ap (λ (c : ℕ). not (is_unused a c)) next.number ∙ ap not unmarked_cell in
      let now : unmarked (is_unused a) (passing.gone ++ next.first ∷ []) ≡ unmarked (is_unused a) passing.gone ++ next.first ∷ [] = kept_now true holds in
      let as_entry : entry next.first.key cell ≡ next.first = ap (λ (c : ℕ). entry next.first.key c) (sym next.number) in
      let nil : unmarked (is_unused a) passing.gone ++ [] ≡ unmarked (is_unused a) passing.gone = append-nil (unmarked (is_unused a) passing.gone) in
      let held_nil : (i : ℕ) → holders i (unmarked (is_unused a) passing.gone ++ []) ≡ holders i (unmarked (is_unused a) passing.gone) = λ i. ap (holders i) nil in
      let none : holders cell passing.gone ≡ 0 = omega (arith, held_is cell, one_here cell, once cell) in
      let linked : IsLinked (next_of (with_cell ns k.before cell)) (with_cell ns k.before cell).first (unmarked (is_unused a) passing.gone ++ entry next.first.key cell ∷ []) =
      linked_more ns (unmarked (is_unused a) passing.gone) [] next.first.key cell k.before passing.last cell_linked
      (λ i s. (let lt = within i (omega (arith, held_nil i, held_is i, held_kept i)) in omega (arith, passing.places)))
      (λ i. omega (arith, held_nil i, held_is i, held_kept i, once i))
      (omega (arith, held_nil cell, held_kept cell, none))
      (subst (λ (xs : List KeyEntry). IsLinked (next_of ns) ns.first xs) {x = unmarked (is_unused a) passing.gone} {y = unmarked (is_unused a) passing.gone ++ []} (sym nil) passing.relinked) in
      record {
        gone = passing.gone ++ next.first ∷ [];
        rest = next.others;
        parts = parts_now;
        few = few_now;
        relinked = subst (λ (xs : List KeyEntry). IsLinked (next_of (with_cell ns k.before cell)) (with_cell ns k.before cell).first xs) {x = unmarked (is_unused a) passing.gone ++ entry next.first.key cell ∷ []} {y = unmarked (is_unused a) (passing.gone ++ next.first ∷ [])}
            (ap (λ (e : KeyEntry). unmarked (is_unused a) passing.gone ++ e ∷ []) as_entry ∙ sym now) linked;
        last = sym (ap (λ (xs : List KeyEntry). last_cell None xs) now ∙ last_end None (unmarked (is_unused a) passing.gone) next.first ∙ ap (λ (c : ℕ). Some c) next.number);
        count = ap (λ (m : ℕ). m + 1) passing.count ∙ sym (ap length now ∙ length-append (unmarked (is_unused a) passing.gone) (next.first ∷ []));
        fewer = omega (arith, passing.fewer);
        linked = linked_same (next_of ns) (next_of (with_cell ns k.before cell)) (next_of ns cell) next.others
            (λ i s. other_link ns k.before cell i (unmarked (is_unused a) passing.gone) passing.last (omega (arith, held_is i, held_kept i, once i)) (λ same. (let one : one_at i cell ≡ 1 = one_same i cell same in absurd (omega (arith, held_is i, once i))))) next.linked;
        places = length_cell ns k.before cell ∙ passing.places;
        freed = freed_used es passing.gone next.others next.first a b own parts_here passing.freed (ap (is_unused a) next.number ∙ unmarked_cell);
        cells = passing.cells;
      }

  pub passed_by : (u : Bool) → is_unused a cell ≡ u → IsPassing es a (passed_arena u b cell) old (passed_links u ns k.before cell) n (step + 1) (next_of ns cell) (passed u k cell)
  passed_by true is = passed_marked is
  passed_by false is = passed_kept is

-- nothing is left
pub passed_none : (es : List KeyEntry) (a b : Content) (old ns : Nexts) (n step : ℕ) (at : Option ℕ) (k : Kept) → IsPassing es a b old ns n step at k → at ≡ None → step < n → IsPassing es a b old ns n (step + 1) at k
passed_none es a b old ns n step at k passing none lt =
    let gone : length passing.rest ≡ 0 = by_list passing.rest passing.linked in
    record {
      gone = passing.gone;
      rest = passing.rest;
      parts = passing.parts;
      few = omega arith;
      relinked = passing.relinked;
      last = passing.last;
      count = passing.count;
      fewer = omega (arith, passing.fewer);
      linked = passing.linked;
      places = passing.places;
      freed = passing.freed;
      cells = passing.cells;
    }
  where
    by_list : (rest : List KeyEntry) → IsLinked (next_of ns) at rest → length rest ≡ 0
    by_list [] h = refl
    by_list (e ∷ rest) h = absurd (let q : Some e.chain.number ≡ None = sym h.0 ∙ none in cc)

pub passing_first : (a : Content) (old : Nexts) → IsSequence a.cells old → IsPassing (all_of a.cells old) a a old (without_first old) (length a.cells) 0 old.first (record { before = None; count = 0 })
passing_first a old own = record {
  gone = [];
  rest = all_of a.cells old;
  parts = refl;
  few = omega (arith, run_most (cell_at a.cells) (next_of old) (length a.cells) old.first);
  relinked = refl;
  last = refl;
  count = refl;
  fewer = omega arith;
  linked = own.linked;
  places = refl;
  freed = freed_none a;
  cells = record { others = λ i is. refl; same_length = refl };
}

-- ---- the index of what is left

own_keys : (f : ℕ → Cell) (g : ℕ → Option ℕ) (n : ℕ) (at : Option ℕ) → AllByRecursion (λ (e : KeyEntry). (f e.chain.number).key ≡ e.key) (walked f g n at None)
own_keys f g zero at = tt
own_keys f g (suc n) None = tt
own_keys f g (suc n) (Some i) = (refl, own_keys f g n (g i))

pub sequence_of : (cs : List Cell) (ns : Nexts) (index : TreeRoot) → IsIndex cs ns index → all_of cs ns ≡ entries_at cs index
sequence_of cs ns index own = (all_walked cs ns index own (length cs) (omega arith)).now

pub sequence_own : (cs : List Cell) (ns : Nexts) (index : TreeRoot) → IsIndex cs ns index → IsSequence cs ns
sequence_own cs ns index own =
    let is : all_of cs ns ≡ entries_at cs index = sequence_of cs ns index own in
    let held_same : (i : ℕ) → holders i (all_of cs ns) ≡ count i (tree_of cs index) = λ i. ap (holders i) is ∙ held_items i (tree_of cs index) in
    record {
      linked = subst (λ (es : List KeyEntry). IsLinked (next_of ns) ns.first es) {x = entries_at cs index} {y = all_of cs ns} (sym is) own.linked;
      once = λ i. omega (arith, held_same i, own.search.tree.once i);
      within = λ i s. own.search.tree.within i (omega (arith, held_same i));
      places = own.places;
    }

-- the keys of what is kept
kept_keys : (marks : ℕ → Bool) (cs ds : List Cell) (es : List KeyEntry) → KeepsCells marks cs ds → AllByRecursion (λ (e : KeyEntry). (cell_at cs e.chain.number).key ≡ e.key) es → AllByRecursion (λ (e : KeyEntry). (cell_at ds e.chain.number).key ≡ e.key) (unmarked marks es)
kept_keys marks cs ds [] keeps keys = tt
kept_keys marks cs ds (e ∷ es) keeps keys = by_mark (kept_keys marks cs ds es keeps keys.1) (marks e.chain.number) refl
  where
    by_mark : AllByRecursion (λ (f : KeyEntry). (cell_at ds f.chain.number).key ≡ f.key) (unmarked marks es) → (b : Bool) → marks e.chain.number ≡ b → AllByRecursion (λ (f : KeyEntry). (cell_at ds f.chain.number).key ≡ f.key) (cond (not b) (e ∷ unmarked marks es) (unmarked marks es))
    by_mark rest true is = rest
    by_mark rest false is = (ap (λ (c : Cell). c.key) (keeps.others e.chain.number is) ∙ keys.0, rest)

module _ (cs ds : List Cell) (ns ms : Nexts) (index : TreeRoot) (marks : ℕ → Bool) (n : ℕ) (at : Option ℕ) (own : IsIndex cs ns index) (keeps : KeepsCells marks cs ds) (linked : IsLinked (next_of ms) ms.first (unmarked marks (all_of cs ns)))
    (number : n ≡ length (unmarked marks (all_of cs ns))) (places : length ms.next ≡ length ns.next) (first : at ≡ ms.first) where
  sequence : IsSequence cs ns
  sequence = sequence_own cs ns index own

  held_left : (i : ℕ) → holders i (unmarked marks (all_of cs ns)) ≤ holders i (all_of cs ns)
  held_left i = held_filter (λ (e : KeyEntry). is_kept marks e) i (all_of cs ns)

  run_is : run_of ds ms n at ≡ unmarked marks (all_of cs ns)
  run_is =
      let nil : unmarked marks (all_of cs ns) ++ [] ≡ unmarked marks (all_of cs ns) = append-nil (unmarked marks (all_of cs ns)) in
      let whole : IsLinked (next_of ms) ms.first (unmarked marks (all_of cs ns) ++ []) = subst (λ (es : List KeyEntry). IsLinked (next_of ms) ms.first es) {x = unmarked marks (all_of cs ns)} {y = unmarked marks (all_of cs ns) ++ []} (sym nil) linked in
      let keys : AllByRecursion (λ (e : KeyEntry). (cell_at ds e.chain.number).key ≡ e.key) (unmarked marks (all_of cs ns)) =
      kept_keys marks cs ds (all_of cs ns) keeps (own_keys (cell_at cs) (next_of ns) (length cs) ns.first) in
      let held_nil : (i : ℕ) → holders i (unmarked marks (all_of cs ns) ++ []) ≡ holders i (unmarked marks (all_of cs ns)) = λ i. ap (holders i) nil in
      ap (λ (x : Option ℕ). run_of ds ms n x) first
      ∙ walked_is (cell_at ds) (next_of ms) n ms.first None (unmarked marks (all_of cs ns)) [] whole refl (omega (arith, number)) keys (λ i. omega (arith, held_nil i, held_left i, sequence.once i))

  pub run_left : IsRun ds ms n at
  run_left =
      let held_run : (i : ℕ) → holders i (run_of ds ms n at) ≡ holders i (unmarked marks (all_of cs ns)) = λ i. ap (holders i) run_is in
      record {
        full = ap length run_is ∙ sym number;
        once = λ i. omega (arith, held_run i, held_left i, sequence.once i);
        within = λ i s. (let lt = sequence.within i (omega (arith, held_run i, held_left i)) in omega (arith, keeps.same_length));
        places = places ∙ own.places ∙ sym keeps.same_length;
      }

  module _ (new : List Cell) (b : Built) (built : IsBuilt ds new ms n at b) where
    now : items (tree_at new b.levels b.root) ≡ unmarked marks (all_of cs ns)
    now = built.entries ∙ run_is

    pub entries_left : items (tree_at new b.levels b.root) ≡ unmarked marks (entries_at cs index)
    entries_left = now ∙ ap (λ (es : List KeyEntry). unmarked marks es) (sequence_of cs ns index own)

    pub index_left : (last : Option ℕ) → last ≡ last_cell None (items (tree_at new b.levels b.root)) → IsIndex new ms (record { root = b.root; levels = b.levels; last = last })
    index_left last last_is =
        let rising : AreRising (all_of cs ns) = subst AreRising {x = entries_at cs index} {y = all_of cs ns} (sym (sequence_of cs ns index own)) own.search.rising in
        let left : AreRising (unmarked marks (all_of cs ns)) = rising_filter (λ (e : KeyEntry). is_kept marks e) (all_of cs ns) rising in
        record {
          search = record {
            tree = built.tree;
            avl = built.avl;
            tall = built.tall;
            rising = subst AreRising {x = unmarked marks (all_of cs ns)} {y = items (tree_at new b.levels b.root)} (sym now) left;
          };
          linked = subst (λ (es : List KeyEntry). IsLinked (next_of ms) ms.first es) {x = unmarked marks (all_of cs ns)} {y = items (tree_at new b.levels b.root)} (sym now) linked;
          places = places ∙ own.places ∙ sym keeps.same_length ∙ sym built.same_length;
          last = last_is;
        }
