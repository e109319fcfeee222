-- A shard in two parts: what each has of the keys.
use Rattle.std.proofs.Common.{◌≡◌, ℕ, ◌≤◌, Bool, true, false, cond, not, ◌||◌, List, [], ◌∷◌, ◌++◌, Option, None, get_or, map, refl, sym, ap, subst, ◌∙◌, arith}
use Rattle.std.specs.Prelude.{filter, is_some}
use Rattle.std.specs.List.{AllByRecursion}
use Rattle.std.specs.Ordering.{is_lt}
use Rattle.std.proofs.lemmas.Bool.{not-true, both_ways}
use Rattle.span_value.proofs.Lists.{all_append, all_weaker, filter-map, all_filter, all_whole}
use Rattle.span_keycode.specs.Order.{byte_order}
use Rattle.span_arena.specs.declared.version.ArenaVersion.{ArenaVersion}
use Rattle.span_arena.specs.Limits.{most_nodes}
use Rattle.span_arena.specs.Content.{Content, Prepared, versions, versions_in, prepared_at, prepared_for}
use Rattle.span_keyindex.specs.declared.index.KeyIndex.{KeyIndex}
use Rattle.span_keytree.specs.Arenas.{IsArenaOf}
use Rattle.span_keytree.specs.Entries.{KeyEntry, entries_before, entries_from, keys_of}
use Rattle.span_keytree.specs.Items.{holders, AreRising}
use Rattle.span_keyindex.specs.Indexes.{IsIndexOf}
use Rattle.span_keyindex.specs.Splits.{IsPartFrom}
use Rattle.span_keytree.proofs.Counting.{one_here}
use Rattle.span_keyindex.proofs.Holders.{at_most_one}
use Rattle.span_keyindex.proofs.Keeping.{chain_same, same-equal}
use Rattle.span_keytree.proofs.Linking.{held_append}
use Rattle.span_keyindex.proofs.Owning.{index_stays}
use Rattle.span_keytree.proofs.Rising.{cut_from}
use Rattle.span_maderows.proofs.Lists.{all_filter_itself}
use Rattle.span_store.specs.declared.chain.Version.{Version}
use Rattle.span_store.specs.declared.chain.PreparedWrite.{PreparedWrite}
use Rattle.span_store.specs.declared.node.PreparedNode.{PreparedNode}
use Rattle.span_store.specs.KeyVersions.{KeyVersions}
use Rattle.span_store.specs.Versions.{is_empty, is_used}
use Rattle.span_mutate.proofs.Placing.{rising_filter}
use Rattle.span_keyindex.proofs.Unlinking.{held_filter}
use Rattle.span_store.specs.KeyLists.{keys_cmp, AreInOrder, IsIdle, IsInUse, keys_before, keys_from}
use Rattle.span_store.specs.Stored.{version_of, chain_versions, write_for, kept_entry, all_kept, IsNodeOf, AreOwned, IsKept, AreReserved, HaveVersions, HasSameKeys, AreMoved}
use Rattle.span_store.proofs.Owned.{write-same}

abbrev key_with : List ℕ → List Version → Option PreparedWrite → KeyVersions
key_with key vs p = record { key = key; versions = vs; prepared = p }

equal_keys : (k l : List ℕ) (vs ws : List Version) (p q : Option PreparedWrite) → k ≡ l → vs ≡ ws → p ≡ q → key_with k vs p ≡ key_with l ws q
equal_keys k l vs ws p q d e f = ap (λ (x : List ℕ). key_with x vs p) d ∙ ap (λ (x : List Version). key_with l x p) e ∙ ap (λ (x : Option PreparedWrite). key_with l ws x) f

-- nothing is prepared for the chains of some keys
abbrev AreIdle : Content → List PreparedNode → List KeyEntry → Type 0
AreIdle a ps es = AllByRecursion (λ (e : KeyEntry). write_for a ps e.chain.number ≡ None) es

idle_entries : (a : Content) (ps : List PreparedNode) (es : List KeyEntry) → IsIdle (all_kept a ps es) → AreIdle a ps es
idle_entries a ps [] h = tt
idle_entries a ps (e ∷ es) h = (h.0, idle_entries a ps es h.1)

abbrev AreUsed : Content → List PreparedNode → List KeyEntry → Type 0
AreUsed a ps es = AllByRecursion (λ (e : KeyEntry). is_used (kept_entry a ps e) ≡ true) es

used_entries : (a : Content) (ps : List PreparedNode) (es : List KeyEntry) → AllByRecursion IsInUse (all_kept a ps es) → AreUsed a ps es
used_entries a ps [] h = tt
used_entries a ps (e ∷ es) h = (h.0, used_entries a ps es h.1)

-- ---- the new part

moved_keys : (a d : Content) (ps : List PreparedNode) (es fs : List KeyEntry) → keys_of fs ≡ keys_of es → HaveVersions a d es fs → AreIdle a ps es → all_kept d [] fs ≡ all_kept a ps es
moved_keys a d ps [] [] keys there idle = refl
moved_keys a d ps [] (f ∷ fs) keys there idle = absurd there
moved_keys a d ps (e ∷ es) [] keys there idle = absurd there
moved_keys a d ps (e ∷ es) (f ∷ fs) keys there idle =
    let q : f.key ∷ keys_of fs ≡ e.key ∷ keys_of es = keys in
    let here : f.key ≡ e.key = cc in
    let rest : keys_of fs ≡ keys_of es = cc in
    let first : kept_entry d [] f ≡ kept_entry a ps e =
    equal_keys f.key e.key (chain_versions d f.chain.number) (chain_versions a e.chain.number) None (write_for a ps e.chain.number) here (ap (map version_of) there.0) (sym idle.0) in
    ap (λ (k : KeyVersions). k ∷ all_kept d [] fs) first ∙ ap (λ (l : List KeyVersions). kept_entry a ps e ∷ l) (moved_keys a d ps es fs rest there.1 idle.1)

pub part_keys : (key : List ℕ) (a b c d : Content) (ps : List PreparedNode) (es fs : List KeyEntry) → keys_of fs ≡ keys_of (entries_from key es) → AreMoved (entries_from key es) fs a b c d → IsIdle (all_kept a ps es)
    → all_kept d [] fs ≡ keys_from key (all_kept a ps es)
part_keys key a b c d ps es fs keys moved idle =
    moved_keys a d ps (entries_from key es) fs keys moved.there (all_filter (λ (e : KeyEntry). write_for a ps e.chain.number ≡ None) (λ (e : KeyEntry). not (is_lt (byte_order e.key key))) es (idle_entries a ps es idle))
    ∙ sym (filter-map (λ (k : KeyVersions). not (is_lt (byte_order k.key key))) (kept_entry a ps) es)

pub none_still : (a b : Content) → b.chains ≡ a.chains → ((x : ℕ) → versions a x ≡ []) → (x : ℕ) → versions b x ≡ []
none_still a b same none x = ap (λ (cs : List (Option (List ArenaVersion))). versions_in (get_or cs x None)) same ∙ none x

pub part_kept : (key : List ℕ) (es : List KeyEntry) (fs : List KeyEntry) (n : ℕ) (part : KeyIndex) (a b before c d : Content) → IsPartFrom key es a.most part before → AreReserved n before c → AreMoved (entries_from key es) fs a b c d → a.most ≡ most_nodes
    → IsKept part d []
part_kept key es fs n part a b before c d is reserved moved most =
    let own : IsIndexOf part c = index_stays part before c is.own reserved.cells (same-equal before c reserved.chains) in
    record {
      index = index_stays part c d own moved.to.cells moved.to.same;
      owned = record {
        nodes = tt;
        counted = λ x. ap (prepared_for x) moved.to.prepared ∙ reserved.prepared x ∙ ap (prepared_for x) is.prepared;
        once = λ x. omega arith;
      };
      most = moved.to.most ∙ reserved.most ∙ is.most ∙ most;
    }

-- ---- the old part

-- below the key a chain is as it was, and from it on it is empty
record IsParted (key : List ℕ) (a b : Content) (e : KeyEntry) : Type 0 where
  pub below : is_lt (byte_order e.key key) ≡ true → versions b e.chain.number ≡ versions a e.chain.number
  pub gone : is_lt (byte_order e.key key) ≡ false → versions b e.chain.number ≡ []

kept_below : (key : List ℕ) (a b : Content) (xs ys : List KeyEntry) → ((x : ℕ) → holders x (xs ++ ys) ≤ 1) → ((x : ℕ) → holders x ys ≡ 0 → versions b x ≡ versions a x) → AllByRecursion (λ (e : KeyEntry). is_lt (byte_order e.key key) ≡ true) xs
    → AllByRecursion (IsParted key a b) xs
kept_below key a b [] ys once stay h = tt
kept_below key a b (x ∷ xs) ys once stay h = (
  record {
    below = λ _. stay x.chain.number (omega (arith, once x.chain.number, one_here x.chain.number, held_append x.chain.number xs ys));
    gone = λ k. absurd (both_ways (is_lt (byte_order x.key key)) k h.0);
  },
  kept_below key a b xs ys (λ i. omega (arith, once i)) stay h.1,
)

gone_from : (key : List ℕ) (a b : Content) (ys : List KeyEntry) → AllByRecursion (λ (e : KeyEntry). versions b e.chain.number ≡ []) ys → AllByRecursion (λ (e : KeyEntry). not (is_lt (byte_order e.key key)) ≡ true) ys → AllByRecursion (IsParted key a b) ys
gone_from key a b [] gone h = tt
gone_from key a b (y ∷ ys) gone h = (
  record {
    below = λ k. absurd (both_ways (is_lt (byte_order y.key key)) (not-true (is_lt (byte_order y.key key)) h.0) k);
    gone = λ _. gone.0;
  },
  gone_from key a b ys gone.1 h.1,
)

all_parted : (key : List ℕ) (a b c d : Content) (es fs : List KeyEntry) → AreRising es → ((x : ℕ) → holders x es ≤ 1) → AreMoved (entries_from key es) fs a b c d → AllByRecursion (IsParted key a b) es
all_parted key a b c d es fs rising once moved =
    let cut : es ≡ entries_before key es ++ entries_from key es = cut_from key es rising in
    subst (λ (l : List KeyEntry). AllByRecursion (IsParted key a b) l) {x = entries_before key es ++ entries_from key es} {y = es} (sym cut)
    (all_append (IsParted key a b) (entries_before key es) (entries_from key es)
    (kept_below key a b (entries_before key es) (entries_from key es) (λ x. (let e : holders x es ≡ holders x (entries_before key es ++ entries_from key es) = ap (holders x) cut in omega (arith, once x))) moved.stay
    (all_filter_itself (λ (e : KeyEntry). is_lt (byte_order e.key key)) es))
    (gone_from key a b (entries_from key es) moved.gone (all_filter_itself (λ (e : KeyEntry). not (is_lt (byte_order e.key key))) es)))

unused_now : (vs : List Version) (p : Option PreparedWrite) → vs ≡ [] → p ≡ None → (not (is_empty vs) || is_some p) ≡ false
unused_now vs p e f = ap (λ (l : List Version). not (is_empty l) || is_some p) e ∙ ap (λ (o : Option PreparedWrite). false || is_some o) f

left_keys : (key : List ℕ) (a b : Content) (ps : List PreparedNode) (es : List KeyEntry) → ((c : ℕ) → write_for b ps c ≡ write_for a ps c) → AllByRecursion (IsParted key a b) es → AreIdle a ps es → AreUsed a ps es
    → filter is_used (all_kept b ps es) ≡ keys_before key (all_kept a ps es)
left_keys key a b ps [] same parted idle used = refl
left_keys key a b ps (e ∷ es) same parted idle used = by (is_lt (byte_order e.key key)) refl (left_keys key a b ps es same parted.1 idle.1 used.1)
  where
    by : (t : Bool) → is_lt (byte_order e.key key) ≡ t → filter is_used (all_kept b ps es) ≡ keys_before key (all_kept a ps es)
        → filter is_used (all_kept b ps (e ∷ es)) ≡ cond t (kept_entry a ps e ∷ keys_before key (all_kept a ps es)) (keys_before key (all_kept a ps es))
    by true is rest =
        let here : kept_entry b ps e ≡ kept_entry a ps e = equal_keys e.key e.key (chain_versions b e.chain.number) (chain_versions a e.chain.number) (write_for b ps e.chain.number) (write_for a ps e.chain.number) refl (ap (map version_of) (parted.0.below is)) (same e.chain.number) in
        ap (λ (k : KeyVersions). filter is_used (k ∷ all_kept b ps es)) here
        ∙ ap (λ (t : Bool). cond t (kept_entry a ps e ∷ filter is_used (all_kept b ps es)) (filter is_used (all_kept b ps es))) used.0
        ∙ ap (λ (l : List KeyVersions). kept_entry a ps e ∷ l) rest
    by false is rest =
        let nothing : is_used (kept_entry b ps e) ≡ false = unused_now (chain_versions b e.chain.number) (write_for b ps e.chain.number) (ap (map version_of) (parted.0.gone is)) (same e.chain.number ∙ idle.0) in
        ap (λ (t : Bool). cond t (kept_entry b ps e ∷ filter is_used (all_kept b ps es)) (filter is_used (all_kept b ps es))) nothing ∙ rest

module _ (a b : Content) (same : HasSameKeys a b) where
  stays : (q : PreparedNode) → prepared_at b q.node.number ≡ prepared_at a q.node.number
  stays q = ap (λ (l : List (Option Prepared)). get_or l q.node.number None) same.prepared

  pub owned_still : (ps : List PreparedNode) → AreOwned a ps → AreOwned b ps
  owned_still ps owned = record {
    nodes = all_weaker (IsNodeOf a) (IsNodeOf b) (λ p n. record { image = n.image; prepared = stays p ∙ n.prepared; is_chain = chain_same a b p.chain.number same.same n.is_chain }) ps owned.nodes;
    counted = λ c. ap (prepared_for c) same.prepared ∙ owned.counted c;
    once = owned.once;
  }

  pub writes_still : (ps : List PreparedNode) (c : ℕ) → write_for b ps c ≡ write_for a ps c
  writes_still ps c = write-same a b c ps (all_whole (λ (q : PreparedNode). prepared_at b q.node.number ≡ prepared_at a q.node.number) stays ps)

pub held_once : (es : List KeyEntry) (a : Content) → IsArenaOf es a → (x : ℕ) → holders x es ≤ 1
held_once es a own x = omega (arith, own.each x, at_most_one (get_or a.chains x None))

pub part_once : (key : List ℕ) (es : List KeyEntry) (a : Content) → IsArenaOf es a → (x : ℕ) → holders x (entries_from key es) ≤ 1
part_once key es a own x = omega (arith, held_once es a own x, held_filter (λ (e : KeyEntry). not (is_lt (byte_order e.key key))) x es)

pub old_keys : (key : List ℕ) (a b c d : Content) (ps : List PreparedNode) (es fs : List KeyEntry) → AreRising es → IsArenaOf es a → AreMoved (entries_from key es) fs a b c d → IsIdle (all_kept a ps es) → AllByRecursion IsInUse (all_kept a ps es)
    → filter is_used (all_kept b ps es) ≡ keys_before key (all_kept a ps es)
old_keys key a b c d ps es fs rising own moved idle used =
    left_keys key a b ps es (writes_still a b moved.from ps) (all_parted key a b c d es fs rising (held_once es a own) moved) (idle_entries a ps es idle) (used_entries a ps es used)

-- ---- what holds of every shard

pub kept_in_use : (p : KeyVersions → Bool) (cs : List KeyVersions) → AllByRecursion IsInUse cs → AllByRecursion IsInUse (filter p cs)
kept_in_use p cs used = all_filter IsInUse p cs used

pub kept_in_order : (p : KeyVersions → Bool) (cs : List KeyVersions) → AreInOrder cs → AreInOrder (filter p cs)
kept_in_order p cs order = rising_filter keys_cmp p cs order
