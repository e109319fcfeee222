-- A write is prepared at its key, which is there or comes with it.
use Rattle.std.proofs.Common.{◌≡◌, ℕ, zero, suc, ◌+◌, ◌<◌, ◌≤◌, nat_eq, Bool, true, false, cond, List, [], ◌∷◌, ◌++◌, Option, Some, None, length, get_or, map, refl, sym, ap, subst, ◌∙◌, arith, inl, inr}
use Rattle.std.specs.Prelude.{filter, find}
use Rattle.std.specs.List.{AllByRecursion}
use Rattle.std.specs.declared.cmp.Ordering.{Ordering}
use Rattle.std.specs.declared.cmp.Ordering.TheVariants.{Less, Equal, Greater}
use Rattle.std.specs.Ordering.{is_lt, is_gt, is_eq}
use Rattle.std.specs.Cmp.{tied_itself}
use Rattle.std.proofs.lemmas.Bool.{cases_eq}
use Rattle.std.proofs.lemmas.Bool.Decides.{nat_tests}
use Rattle.std.proofs.lemmas.List.{map-append}
use Rattle.std.proofs.lemmas.List.Elements.{filter-append}
use Rattle.std.proofs.lemmas.Map.Lookups.{exact_bytes}
use Rattle.span_keycode.specs.Order.{byte_order}
use Rattle.span_arena.specs.declared.version.ArenaVersion.{ArenaVersion}
use Rattle.span_arena.specs.declared.token.Chain.{Chain}
use Rattle.span_arena.specs.Content as content
use Rattle.span_arena.specs.Content.{Content, Prepared, versions, versions_in, prepared_for, IsNewChain}
use Rattle.span_arena.proofs.Keeping.{is_new_chain}
use Rattle.span_keytree.specs.Items.{holders}
use Rattle.span_keytree.specs.Arenas.{one_if_chain, IsArenaOf, in_use, IsWithoutUnused}
use Rattle.span_keytree.specs.Entries.{HasChain, IsAbsent, IsSlotFor, with_entry, KeyEntry}
use Rattle.span_keyindex.proofs.Holders.{one_here, one_of, chains_elsewhere, at_most_one}
use Rattle.span_keytree.proofs.Rising.{turned}
use Rattle.span_mutate.specs.Directories.{IsRising}
use Rattle.span_value.proofs.Comparisons.{is_less, is_greater}
use Rattle.span_value.proofs.Lists.{all_weaker, filter_all, all_whole}
use Rattle.span_keytree.proofs.Linking.{held_append}
use Rattle.span_maderows.proofs.Bytes.{bytes_total}
use Rattle.span_maderows.proofs.Lists.{all_filter_itself}
use Rattle.span_store.specs.declared.node.PreparedNode.{PreparedNode}
use Rattle.span_store.specs.declared.write.Write.{Write}
use Rattle.span_store.specs.KeyVersions.{KeyVersions}
use Rattle.span_store.specs.Versions.{is_used, with_prepared}
use Rattle.span_store.specs.KeyLists.{keys_cmp, AreInOrder, IsInUse, is_key, prepared_of, prepared_at, by_order, new_key, prepared_write, with_write}
use Rattle.span_store.specs.Stored.{version_of, chain_versions, write_for, kept, kept_entry, all_kept, IsNodeOf, AreOwned, HasPrepared, count_for}
use Rattle.span_store.proofs.Owned.{all_back_of, write-none, write-same, made, kept_equal, zero_for}
use Rattle.span_store.proofs.Unused.{map_alike, keys_used, owned_used}

-- ---- where the write goes

pub with_write-here : (txn : ℕ) (w : Write) (xs ys : List KeyVersions) (c : KeyVersions) → AllByRecursion (λ d. byte_order w.key d.key ≡ Greater) xs → byte_order w.key c.key ≡ Equal
    → with_write txn w (xs ++ c ∷ ys) ≡ xs ++ with_prepared (prepared_write txn w) c ∷ ys
with_write-here txn w [] ys c later same = ap (λ o. by_order o (new_key txn w ∷ c ∷ ys) (with_prepared (prepared_write txn w) c ∷ ys) (c ∷ with_write txn w ys)) same
with_write-here txn w (x ∷ xs) ys c later same =
    ap (λ o. by_order o (new_key txn w ∷ x ∷ (xs ++ c ∷ ys)) (with_prepared (prepared_write txn w) x ∷ (xs ++ c ∷ ys)) (x ∷ with_write txn w (xs ++ c ∷ ys))) later.0
    ∙ ap (λ (l : List KeyVersions). x ∷ l) (with_write-here txn w xs ys c later.1 same)

pub with_write-between : (txn : ℕ) (w : Write) (xs ys : List KeyVersions) → AllByRecursion (λ d. byte_order w.key d.key ≡ Greater) xs → AllByRecursion (λ d. byte_order w.key d.key ≡ Less) ys
    → with_write txn w (xs ++ ys) ≡ xs ++ new_key txn w ∷ ys
with_write-between txn w [] [] later before = refl
with_write-between txn w [] (y ∷ ys) later before = ap (λ o. by_order o (new_key txn w ∷ y ∷ ys) (with_prepared (prepared_write txn w) y ∷ ys) (y ∷ with_write txn w ys)) before.0
with_write-between txn w (x ∷ xs) ys later before =
    ap (λ o. by_order o (new_key txn w ∷ x ∷ (xs ++ ys)) (with_prepared (prepared_write txn w) x ∷ (xs ++ ys)) (x ∷ with_write txn w (xs ++ ys))) later.0
    ∙ ap (λ (l : List KeyVersions). x ∷ l) (with_write-between txn w xs ys later.1 before)

-- the keys in front of one come before it
front_before : (xs ys : List KeyVersions) (c : KeyVersions) → IsRising keys_cmp (xs ++ c ∷ ys) → AllByRecursion (λ (d : KeyVersions). byte_order c.key d.key ≡ Greater) xs
front_before [] ys c h = tt
front_before (x ∷ xs) ys c h = (turned x.key c.key Less (all_back_of (λ (y : KeyVersions). keys_cmp x y ≡ Less) xs (c ∷ ys) h.0).0, front_before xs ys c h.1)

all_mapped : {X Y : Type 0} (P : Y → Type 0) (f : X → Y) (xs : List X) → AllByRecursion (λ x. P (f x)) xs → AllByRecursion P (map f xs)
all_mapped P f [] h = tt
all_mapped P f (x ∷ xs) h = (h.0, all_mapped P f xs h.1)

all_unmapped : {X Y : Type 0} (P : Y → Type 0) (f : X → Y) (xs : List X) → AllByRecursion P (map f xs) → AllByRecursion (λ x. P (f x)) xs
all_unmapped P f [] h = tt
all_unmapped P f (x ∷ xs) h = (h.0, all_unmapped P f xs h.1)

-- ---- a key that is not there

abbrev before : List ℕ → KeyEntry → Bool
before key e = is_lt (byte_order e.key key)

abbrev later : List ℕ → KeyEntry → Bool
later key e = is_gt (byte_order e.key key)

all_following : (key : List ℕ) (es : List KeyEntry) → AllByRecursion (λ (e : KeyEntry). byte_order e.key key ≡ Greater) es → filter (before key) es ++ filter (later key) es ≡ es
all_following key [] h = refl
all_following key (e ∷ es) h =
    let no : before key e ≡ false = ap is_lt h.0 in
    let so : later key e ≡ true = ap is_gt h.0 in
    ap (λ b. cond b (e ∷ filter (before key) es) (filter (before key) es) ++ cond (later key e) (e ∷ filter (later key) es) (filter (later key) es)) no
    ∙ ap (λ b. filter (before key) es ++ cond b (e ∷ filter (later key) es) (filter (later key) es)) so
    ∙ ap (λ (l : List KeyEntry). l ++ e ∷ filter (later key) es) (none_before es h.1)
    ∙ ap (λ (l : List KeyEntry). e ∷ l) (ap (λ (l : List KeyEntry). l ++ filter (later key) es) (sym (none_before es h.1)) ∙ all_following key es h.1)
  where
    none_before : (es : List KeyEntry) → AllByRecursion (λ (e : KeyEntry). byte_order e.key key ≡ Greater) es → filter (before key) es ≡ []
    none_before [] h = refl
    none_before (e ∷ es) h = ap (λ b. cond b (e ∷ filter (before key) es) (filter (before key) es)) (ap is_lt h.0) ∙ none_before es h.1

-- what does not have the key comes before it or after it
parted : (a : Content) (ps : List PreparedNode) (key : List ℕ) (es : List KeyEntry) → AreInOrder (all_kept a ps es) → IsAbsent es key → filter (before key) es ++ filter (later key) es ≡ es
parted a ps key [] rising absent = refl
parted a ps key (e ∷ es) rising absent = cases (byte_order e.key key) refl (parted a ps key es rising.1 (λ k d lt. absent (suc k) d (omega arith)))
  where
    cases : (o : Ordering) → byte_order e.key key ≡ o → filter (before key) es ++ filter (later key) es ≡ es → cond (is_lt o) (e ∷ filter (before key) es) (filter (before key) es) ++ cond (is_gt o) (e ∷ filter (later key) es) (filter (later key) es) ≡ e ∷ es
    cases Less is again = ap (λ (l : List KeyEntry). e ∷ l) again
    cases Equal is again = absurd (absent zero e (omega arith) (exact_bytes e.key key is))
    cases Greater is again =
        let all : AllByRecursion (λ (x : KeyEntry). byte_order x.key key ≡ Greater) es =
        all_weaker (λ (x : KeyEntry). byte_order e.key x.key ≡ Less) (λ (x : KeyEntry). byte_order x.key key ≡ Greater)
        (λ x lt. turned key x.key Less (bytes_total.trans key e.key x.key (turned e.key key Greater is) lt)) es
        (all_unmapped (λ (c : KeyVersions). byte_order e.key c.key ≡ Less) (kept_entry a ps) es rising.0) in
        none_in_front all
      where
        none_in_front : AllByRecursion (λ (x : KeyEntry). byte_order x.key key ≡ Greater) es → filter (before key) es ++ e ∷ filter (later key) es ≡ e ∷ es
        none_in_front all =
            let none : filter (before key) es ≡ [] = none_before es all in
            ap (λ (l : List KeyEntry). l ++ e ∷ filter (later key) es) none ∙ ap (λ (l : List KeyEntry). e ∷ l) (ap (λ (l : List KeyEntry). l ++ filter (later key) es) (sym none) ∙ all_following key es all)
          where
            none_before : (xs : List KeyEntry) → AllByRecursion (λ (x : KeyEntry). byte_order x.key key ≡ Greater) xs → filter (before key) xs ≡ []
            none_before [] h = refl
            none_before (x ∷ xs) h = ap (λ b. cond b (x ∷ filter (before key) xs) (filter (before key) xs)) (ap is_lt h.0) ∙ none_before xs h.1

-- ---- a place for a write

abbrev pub entry : List ℕ → Chain → KeyEntry
entry key chain = record { key = key; chain = chain }

-- the key is between others, and all that there was is seen as it was
pub record IsSlot (es fs : List KeyEntry) (a b : Content) (ps : List PreparedNode) (key : List ℕ) (chain : Chain) : Type 0 where
  pub front : List KeyEntry
  pub back : List KeyEntry
  pub whole : fs ≡ front ++ entry key chain ∷ back
  pub keys : (e : KeyEntry) → kept_entry b ps e ≡ kept_entry a ps e
  pub owned : AreOwned b ps
  pub most : b.most ≡ a.most
  pub vacant : count_for chain.number ps ≡ 0 → prepared_at (all_kept a ps es) key ≡ None
  pub put : (txn : ℕ) (w : Write) → w.key ≡ key → with_write txn w (all_kept a ps es) ≡ map (kept_entry a ps) front ++ with_prepared (prepared_write txn w) (kept_entry b ps (entry key chain)) ∷ map (kept_entry a ps) back
  pub undone : AllByRecursion IsInUse (all_kept a ps es) → filter is_used (all_kept b ps fs) ≡ all_kept a ps es

record IsSplitAt (es : List KeyEntry) (e : KeyEntry) : Type 0 where
  front : List KeyEntry
  back : List KeyEntry
  whole : es ≡ front ++ e ∷ back

split_at : (es : List KeyEntry) (i : ℕ) (e : KeyEntry) → i < length es → get_or es i e ≡ e → IsSplitAt es e
split_at [] i e lt is = absurd (let l : i < 0 = lt in omega arith)
split_at (x ∷ xs) zero e lt is = record { front = []; back = xs; whole = ap (λ (y : KeyEntry). y ∷ xs) is }
split_at (x ∷ xs) (suc i) e lt is =
    let rest = split_at xs i e (omega arith) is in
    record { front = x ∷ rest.front; back = rest.back; whole = ap (λ (l : List KeyEntry). x ∷ l) rest.whole }

find_here : (key : List ℕ) (xs ys : List KeyVersions) (c : KeyVersions) → AllByRecursion (λ (d : KeyVersions). byte_order key d.key ≡ Greater) xs → is_key key c ≡ true → find (is_key key) (xs ++ c ∷ ys) ≡ Some c
find_here key [] ys c later same = ap (λ b. cond b (Some c) (find (is_key key) ys)) same
find_here key (x ∷ xs) ys c later same = ap (λ b. cond b (Some x) (find (is_key key) (xs ++ c ∷ ys))) (ap is_eq later.0) ∙ find_here key xs ys c later.1 same

-- the key was there
module _ (es : List KeyEntry) (a : Content) (ps : List PreparedNode) (key : List ℕ) (chain : Chain) (owned : AreOwned a ps) (order : AreInOrder (all_kept a ps es)) (has : HasChain es key chain) where
  at : IsSplitAt es (entry key chain)
  at = split_at es has.0 (entry key chain) has.1 has.2

  mapped : all_kept a ps es ≡ map (kept_entry a ps) at.front ++ kept_entry a ps (entry key chain) ∷ map (kept_entry a ps) at.back
  mapped = ap (map (kept_entry a ps)) at.whole ∙ map-append (kept_entry a ps) at.front (entry key chain ∷ at.back)

  pub found_there : find (is_key key) (all_kept a ps es) ≡ Some (kept a ps key chain.number)
  found_there =
      let front = front_before (map (kept_entry a ps) at.front) (map (kept_entry a ps) at.back) (kept_entry a ps (entry key chain)) (subst (IsRising keys_cmp) mapped order) in
      ap (find (is_key key)) mapped ∙ find_here key (map (kept_entry a ps) at.front) (map (kept_entry a ps) at.back) (kept_entry a ps (entry key chain)) front (ap is_eq (tied_itself bytes_total key))

  pub slot_there : IsSlot es es a a ps key chain
  slot_there = record {
    front = at.front;
    back = at.back;
    whole = at.whole;
    keys = λ e. refl;
    owned = owned;
    most = refl;
    vacant = λ none. ap prepared_of found_there ∙ write-none a chain.number ps none;
    put = λ txn w is. (
        let up = subst (IsRising keys_cmp) mapped order in
        let front = front_before (map (kept_entry a ps) at.front) (map (kept_entry a ps) at.back) (kept_entry a ps (entry key chain)) up in
        let P : List ℕ → Type 0 = λ k. AllByRecursion (λ (d : KeyVersions). byte_order k d.key ≡ Greater) (map (kept_entry a ps) at.front) in
        let same : byte_order w.key key ≡ Equal = ap (λ (k : List ℕ). byte_order k key) is ∙ tied_itself bytes_total key in
        ap (with_write txn w) mapped ∙ with_write-here txn w (map (kept_entry a ps) at.front) (map (kept_entry a ps) at.back) (kept_entry a ps (entry key chain)) (subst P (sym is) front) same);
    undone = λ used. filter_all is_used (all_kept a ps es) used;
  }

pub found_none : (es : List KeyEntry) (a : Content) (ps : List PreparedNode) (key : List ℕ) → IsAbsent es key → find (is_key key) (all_kept a ps es) ≡ None
found_none [] a ps key absent = refl
found_none (e ∷ es) a ps key absent =
    ap (λ b. cond b (Some (kept_entry a ps e)) (find (is_key key) (all_kept a ps es))) (other (byte_order key e.key) refl) ∙ found_none es a ps key (λ k d lt. absent (suc k) d (omega arith))
  where
    other : (o : Ordering) → byte_order key e.key ≡ o → is_eq o ≡ false
    other Less is = refl
    other Equal is = absurd (absent zero e (omega arith) (sym (exact_bytes key e.key is)))
    other Greater is = refl

-- the key is new
module _ (es : List KeyEntry) (a b : Content) (ps : List PreparedNode) (key : List ℕ) (chain : Chain) (owned : AreOwned a ps) (order : AreInOrder (all_kept a ps es)) (absent : IsAbsent es key) (new : IsNewChain a b chain.number) where
  prepared_is : b.prepared ≡ a.prepared
  prepared_is = ap (λ (x : Content). x.prepared) new.now

  versions_are : (c : ℕ) → versions b c ≡ versions a c
  versions_are c = elim (cases_eq c chain.number) [
    | inl same ↦ rw same (ap versions_in (is_new_chain a b chain.number new) ∙ sym (ap versions_in new.was_none))
    | inr differs ↦ ap versions_in (chains_elsewhere a b chain.number c new differs)
  ]

  stay : AllByRecursion (λ (q : PreparedNode). content.prepared_at b q.node.number ≡ content.prepared_at a q.node.number) ps
  stay = all_whole (λ (q : PreparedNode). content.prepared_at b q.node.number ≡ content.prepared_at a q.node.number) (λ q. ap (λ (l : List (Option Prepared)). get_or l q.node.number None) prepared_is) ps

  key_is : (e : KeyEntry) → kept_entry b ps e ≡ kept_entry a ps e
  key_is e = kept_equal e.key (chain_versions b e.chain.number) (chain_versions a e.chain.number) (write_for b ps e.chain.number) (write_for a ps e.chain.number)
      (ap (map version_of) (versions_are e.chain.number)) (write-same a b e.chain.number ps stay)

  node_stays : (p : PreparedNode) → IsNodeOf a p → IsNodeOf b p
  node_stays p h = record {
    image = h.image;
    prepared = ap (λ (l : List (Option Prepared)). get_or l p.node.number None) prepared_is ∙ h.prepared;
    is_chain = elim (cases_eq p.chain.number chain.number) [
      | inl same ↦ ([], (rw same (is_new_chain a b chain.number new)))
      | inr differs ↦ (h.is_chain.0, chains_elsewhere a b chain.number p.chain.number new differs ∙ h.is_chain.1)
    ];
  }

  owned_new : AreOwned b ps
  owned_new = record { nodes = all_weaker (IsNodeOf a) (IsNodeOf b) node_stays ps owned.nodes; counted = λ c. ap (prepared_for c) prepared_is ∙ owned.counted c; once = owned.once }

  parts : filter (before key) es ++ filter (later key) es ≡ es
  parts = parted a ps key es order absent

  nothing : kept_entry b ps (entry key chain) ≡ record { key = key; versions = []; prepared = None }
  nothing = kept_equal key (chain_versions b chain.number) [] (write_for b ps chain.number) None
      (ap (λ (o : Option (List ArenaVersion)). map version_of (versions_in o)) (is_new_chain a b chain.number new))
      (write-none b chain.number ps (sym (owned.counted chain.number) ∙ new.none_prepared))

  mapped_parts : all_kept a ps es ≡ map (kept_entry a ps) (filter (before key) es) ++ map (kept_entry a ps) (filter (later key) es)
  mapped_parts = ap (map (kept_entry a ps)) (sym parts) ∙ map-append (kept_entry a ps) (filter (before key) es) (filter (later key) es)

  in_front : AllByRecursion (λ (d : KeyVersions). byte_order key d.key ≡ Greater) (map (kept_entry a ps) (filter (before key) es))
  in_front = all_mapped (λ (d : KeyVersions). byte_order key d.key ≡ Greater) (kept_entry a ps) (filter (before key) es)
      (all_weaker (λ (e : KeyEntry). before key e ≡ true) (λ (e : KeyEntry). byte_order key e.key ≡ Greater) (λ e h. turned e.key key Less (is_less (byte_order e.key key) h)) (filter (before key) es) (all_filter_itself (before key) es))

  in_back : AllByRecursion (λ (d : KeyVersions). byte_order key d.key ≡ Less) (map (kept_entry a ps) (filter (later key) es))
  in_back = all_mapped (λ (d : KeyVersions). byte_order key d.key ≡ Less) (kept_entry a ps) (filter (later key) es)
      (all_weaker (λ (e : KeyEntry). later key e ≡ true) (λ (e : KeyEntry). byte_order key e.key ≡ Less) (λ e h. turned e.key key Greater (is_greater (byte_order e.key key) h)) (filter (later key) es) (all_filter_itself (later key) es))

  fresh_is : (txn : ℕ) (w : Write) → w.key ≡ key → new_key txn w ≡ with_prepared (prepared_write txn w) (kept_entry b ps (entry key chain))
  fresh_is txn w is =
      ap (λ (k : List ℕ). made k [] (Some (prepared_write txn w))) is ∙ sym (ap (with_prepared (prepared_write txn w)) nothing)

  left_out : filter is_used (all_kept b ps (with_entry es (entry key chain))) ≡ filter is_used (all_kept b ps es)
  left_out =
      let f = kept_entry b ps in
      let xs = filter (before key) es in
      let ys = filter (later key) es in
      ap (filter is_used) (map-append f xs (entry key chain ∷ ys))
      ∙ filter-append is_used (map f xs) (f (entry key chain) ∷ map f ys)
      ∙ ap (λ (k : KeyVersions). filter is_used (map f xs) ++ cond (is_used k) (k ∷ filter is_used (map f ys)) (filter is_used (map f ys))) nothing
      ∙ sym (filter-append is_used (map f xs) (map f ys))
      ∙ ap (filter is_used) (sym (map-append f xs ys) ∙ ap (map f) parts)

  pub slot_new : IsSlot es (with_entry es (entry key chain)) a b ps key chain
  slot_new = record {
    front = filter (before key) es;
    back = filter (later key) es;
    whole = refl;
    keys = key_is;
    owned = owned_new;
    most = ap (λ (x : Content). x.most) new.now;
    vacant = λ _. ap prepared_of (found_none es a ps key absent);
    put = λ txn w is. (
        let f = kept_entry a ps in
        let xs = map f (filter (before key) es) in
        let ys = map f (filter (later key) es) in
        let P : List ℕ → Type 0 = λ k. AllByRecursion (λ (d : KeyVersions). byte_order k d.key ≡ Greater) xs in
        let Q : List ℕ → Type 0 = λ k. AllByRecursion (λ (d : KeyVersions). byte_order k d.key ≡ Less) ys in
        ap (with_write txn w) mapped_parts ∙ with_write-between txn w xs ys (subst P (sym is) in_front) (subst Q (sym is) in_back) ∙ ap (λ (k : KeyVersions). xs ++ k ∷ ys) (fresh_is txn w is));
    undone = λ used. left_out ∙ ap (filter is_used) (map_alike (kept_entry b ps) (kept_entry a ps) es (all_whole (λ (e : KeyEntry). kept_entry b ps e ≡ kept_entry a ps e) key_is es)) ∙ filter_all is_used (all_kept a ps es) used;
  }

pub slot_is : (es fs : List KeyEntry) (a b : Content) (ps : List PreparedNode) (key : List ℕ) (chain : Chain) → AreOwned a ps → AreInOrder (all_kept a ps es) → IsSlotFor es fs a b key chain → IsSlot es fs a b ps key chain
slot_is es fs a b ps key chain owned order slot = elim slot [
  | inl there ↦ (
      let P : List KeyEntry → Type 0 = λ l. IsSlot es l a b ps key chain in
      let Q : Content → Type 0 = λ x. IsSlot es es a x ps key chain in
      subst P (sym there.1) (subst Q (sym there.2) (slot_there es a ps key chain owned order there.0)))
  | inr new ↦ (
      let P : List KeyEntry → Type 0 = λ l. IsSlot es l a b ps key chain in
      subst P (sym new.2) (slot_new es a b ps key chain owned order new.0 new.1))
]

-- the key goes again where it came with the write
module _ (es fs gs : List KeyEntry) (a b c d : Content) (ps qs : List PreparedNode) (key : List ℕ) (chain : Chain) (slot : IsSlot es fs a b ps key chain) (arena_is : c ≡ b) (nodes_are : qs ≡ ps) (without : IsWithoutUnused c d) where
  pub undone_owned : AreOwned d qs
  undone_owned = owned_used fs c d qs (subst (λ x. AreOwned x qs) (sym arena_is) (subst (AreOwned b) (sym nodes_are) slot.owned)) without

  pub undone_keys : gs ≡ in_use c fs → AllByRecursion IsInUse (all_kept a ps es) → all_kept d qs gs ≡ all_kept a ps es
  undone_keys is used =
      ap (all_kept d qs) is
      ∙ keys_used fs c d qs (subst (λ x. AreOwned x qs) (sym arena_is) (subst (AreOwned b) (sym nodes_are) slot.owned)) without
      ∙ ap (λ (x : Content). filter is_used (all_kept x qs fs)) arena_is ∙ ap (λ (l : List PreparedNode). filter is_used (all_kept b l fs)) nodes_are ∙ slot.undone used

-- ---- the write is prepared there

no_holder : (c : ℕ) (es : List KeyEntry) → holders c es ≡ 0 → AllByRecursion (λ (e : KeyEntry). nat_eq e.chain.number c ≡ false) es
no_holder c [] h = tt
no_holder c (e ∷ es) h = (zero_for (nat_eq e.chain.number c) (let f : one_of c e + holders c es ≡ 0 = h in omega arith), no_holder c es (let f : one_of c e + holders c es ≡ 0 = h in omega arith))

module _ (es fs : List KeyEntry) (a b d : Content) (ps qs : List PreparedNode) (key : List ℕ) (chain : Chain) (txn : ℕ) (w : Write) (slot : IsSlot es fs a b ps key chain) (own : IsArenaOf fs b) (put : HasPrepared b d ps qs chain.number (prepared_write txn w)) (is : w.key ≡ key) where
  apart : (holders chain.number slot.front ≡ 0) × (holders chain.number slot.back ≡ 0)
  apart =
      let most : one_if_chain (get_or b.chains chain.number None) ≤ 1 = at_most_one (get_or b.chains chain.number None) in
      let whole : holders chain.number fs ≡ holders chain.number (slot.front ++ entry key chain ∷ slot.back) = ap (holders chain.number) slot.whole in
      let one : one_of chain.number (entry key chain) ≡ 1 = one_here chain.number (entry key chain) refl in
      (omega (arith, held_append chain.number slot.front (entry key chain ∷ slot.back), own.each chain.number), omega (arith, held_append chain.number slot.front (entry key chain ∷ slot.back), own.each chain.number))

  chains_are : (c : ℕ) → chain_versions d c ≡ chain_versions b c
  chains_are c = ap (λ (cs : List (Option (List ArenaVersion))). map version_of (versions_in (get_or cs c None))) put.chains

  other : (e : KeyEntry) → nat_eq e.chain.number chain.number ≡ false → kept_entry d qs e ≡ kept_entry a ps e
  other e apart_from =
      let t : nat_eq chain.number e.chain.number ≡ false = grind (arith, nat_tests) in
      kept_equal e.key (chain_versions d e.chain.number) (chain_versions b e.chain.number) (write_for d qs e.chain.number) (write_for b ps e.chain.number) (chains_are e.chain.number)
      (put.writes e.chain.number ∙ ap (λ v. cond v (Some (prepared_write txn w)) (write_for b ps e.chain.number)) t) ∙ slot.keys e

  here : kept_entry d qs (entry key chain) ≡ with_prepared (prepared_write txn w) (kept_entry b ps (entry key chain))
  here =
      let t : nat_eq chain.number chain.number ≡ true = grind (arith, nat_tests) in
      kept_equal key (chain_versions d chain.number) (chain_versions b chain.number) (write_for d qs chain.number) (Some (prepared_write txn w)) (chains_are chain.number)
      (put.writes chain.number ∙ ap (λ v. cond v (Some (prepared_write txn w)) (write_for b ps chain.number)) t)

  others : (xs : List KeyEntry) → holders chain.number xs ≡ 0 → map (kept_entry d qs) xs ≡ map (kept_entry a ps) xs
  others xs none = map_alike (kept_entry d qs) (kept_entry a ps) xs (all_weaker (λ (e : KeyEntry). nat_eq e.chain.number chain.number ≡ false) (λ (e : KeyEntry). kept_entry d qs e ≡ kept_entry a ps e) other xs (no_holder chain.number xs none))

  pub put_done : all_kept d qs fs ≡ with_write txn w (all_kept a ps es)
  put_done =
      ap (map (kept_entry d qs)) slot.whole ∙ map-append (kept_entry d qs) slot.front (entry key chain ∷ slot.back)
      ∙ ap (λ (l : List KeyVersions). l ++ kept_entry d qs (entry key chain) ∷ map (kept_entry d qs) slot.back) (others slot.front apart.0)
      ∙ ap (λ (k : KeyVersions). map (kept_entry a ps) slot.front ++ k ∷ map (kept_entry d qs) slot.back) here
      ∙ ap (λ (l : List KeyVersions). map (kept_entry a ps) slot.front ++ with_prepared (prepared_write txn w) (kept_entry b ps (entry key chain)) ∷ l) (others slot.back apart.1)
      ∙ sym (slot.put txn w is)
