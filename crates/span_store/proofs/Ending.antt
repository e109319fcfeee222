-- The nodes of a transaction are ended, one after the other.
use Rattle.std.proofs.Common.{◌≡◌, ◌≢◌, ℕ, ◌+◌, ◌<◌, ◌≤◌, ◌==◌, Bool, true, false, cond, List, [], ◌∷◌, ◌++◌, Option, Some, None, length, get_or, set, take, drop, map, refl, sym, ap, subst, ◌∙◌, arith, inl, inr, append_assoc}
use Rattle.std.specs.Prelude.{filter, not}
use Rattle.std.specs.List.{AllByRecursion}
use Rattle.std.proofs.lemmas.Bool.{cases_eq}
use Rattle.std.proofs.lemmas.Bool.Decides.{nat_tests}
use Rattle.std.proofs.lemmas.List.{get_or-set_same, get_or-set_other, take_more, append-nil, take_all, drop_all}
use Rattle.std.proofs.lemmas.List.Elements.{filter-append}
use Rattle.span_value.proofs.Lists.{drop_read}
use Rattle.span_arena.specs.declared.version.ArenaVersion.{ArenaVersion}
use Rattle.span_arena.specs.Content.{Content, Prepared, versions, versions_in, prepared_at, IsSomePrepared, IsChain, given_back, linked, linked_as}
use Rattle.span_arena.specs.Order.{IsLater}
use Rattle.span_arena.specs.Order as order
use Rattle.span_arena.proofs.Keeping.{chain_in_range}
use Rattle.span_keytree.specs.Arenas.{HasSameChains}
use Rattle.span_keytree.specs.Entries.{KeyEntry}
use Rattle.span_keyindex.proofs.Keeping.{same-equal, same-linked, same_after}
use Rattle.span_maderows.proofs.Lists.{all_filter_itself}
use Rattle.span_store.specs.declared.chain.Version.{Version}
use Rattle.span_store.specs.declared.chain.PreparedWrite.{PreparedWrite}
use Rattle.span_store.specs.declared.node.PreparedNode.{PreparedNode}
use Rattle.span_store.specs.KeyVersions.{KeyVersions}
use Rattle.span_store.specs.Versions.{timestamps, with_version, applied_write, applied_to_key}
use Rattle.span_store.specs.Stored.{version_of, chain_versions, is_for, write_of, write_for, kept, kept_entry, all_kept, IsNodeOf, AreOwned, AreLaterEnds, HasEnded, IsEndable, IsLaterEnd, ended, is_other, remaining_nodes}
use Rattle.span_store.proofs.Owned.{all_back_of, kept_equal, owned_without, write_elsewhere, write_gone, write_was}

ended-prepared : (a : Content) (c n : ℕ) (image : Option (List ℕ)) (committed : Option ℕ) → prepared_at a n ≡ Some (record { chain = c; image = image }) → (ended a n committed).prepared ≡ set a.prepared n None
ended-prepared a c n image None e = refl
ended-prepared a c n image (Some ts) e = ap (λ (o : Option Prepared). (linked_as a n ts o).prepared) e

ended-same : (a : Content) (c n : ℕ) (image : Option (List ℕ)) (committed : Option ℕ) → IsChain a c → prepared_at a n ≡ Some (record { chain = c; image = image }) → HasSameChains a (ended a n committed)
ended-same a c n image None chain e = same-equal a (given_back a n) refl
ended-same a c n image (Some ts) chain e = same-linked a (linked a n ts) n ts c image chain e refl

ended-most : (a : Content) (n : ℕ) (committed : Option ℕ) → (ended a n committed).most ≡ a.most
ended-most a n None = refl
ended-most a n (Some ts) = by (prepared_at a n)
  where
    by : (o : Option Prepared) → (linked_as a n ts o).most ≡ a.most
    by None = refl
    by (Some p) = refl

ended-cells : (a : Content) (n : ℕ) (committed : Option ℕ) → (ended a n committed).cells ≡ a.cells
ended-cells a n None = refl
ended-cells a n (Some ts) = by (prepared_at a n)
  where
    by : (o : Option Prepared) → (linked_as a n ts o).cells ≡ a.cells
    by None = refl
    by (Some p) = refl

-- the versions of the chain, and those of the others
ended-here : (a : Content) (c n : ℕ) (image : Option (List ℕ)) (committed : Option ℕ) → IsChain a c → prepared_at a n ≡ Some (record { chain = c; image = image }) → chain_versions (ended a n committed) c ≡ with_version committed image (chain_versions a c)
ended-here a c n image None chain e = refl
ended-here a c n image (Some ts) chain e =
    ap (λ (o : Option Prepared). chain_versions (linked_as a n ts o) c) e
    ∙ ap (λ (o : Option (List ArenaVersion)). map version_of (versions_in o)) (get_or-set_same a.chains c (Some ((record { timestamp = ts; image = image }) ∷ versions a c)) None (chain_in_range a c chain))

ended-elsewhere : (a : Content) (c n d : ℕ) (image : Option (List ℕ)) (committed : Option ℕ) → c ≢ d → prepared_at a n ≡ Some (record { chain = c; image = image }) → chain_versions (ended a n committed) d ≡ chain_versions a d
ended-elsewhere a c n d image None differs e = refl
ended-elsewhere a c n d image (Some ts) differs e =
    ap (λ (o : Option Prepared). chain_versions (linked_as a n ts o) d) e
    ∙ ap (λ (o : Option (List ArenaVersion)). map version_of (versions_in o)) (get_or-set_other a.chains c d (Some ((record { timestamp = ts; image = image }) ∷ versions a c)) None (λ f. differs (sym f)))

-- the write of the transaction is ended, once
applied_own : (txn : ℕ) (committed : Option ℕ) (w : PreparedWrite) (key : List ℕ) (vs : List Version) → w.txn ≡ txn
    → applied_to_key txn committed (record { key = key; versions = vs; prepared = Some w }) ≡ record { key = key; versions = with_version committed w.row vs; prepared = None }
applied_own txn committed w key vs e =
    let t : (w.txn == txn) ≡ true = grind (arith, nat_tests) in
    ap (λ b. cond b (record { key = key; versions = with_version committed w.row vs; prepared = None }) (record { key = key; versions = vs; prepared = Some w })) t

-- ---- the commit timestamp is later

pub same_timestamps : (vs : List ArenaVersion) → timestamps (map version_of vs) ≡ order.timestamps vs
same_timestamps [] = refl
same_timestamps (v ∷ vs) = ap (λ (ts : List ℕ). v.timestamp ∷ ts) (same_timestamps vs)

endable : (b : Content) (c n : ℕ) (image : Option (List ℕ)) (w : PreparedWrite) (txn : ℕ) (committed : Option ℕ) → prepared_at b n ≡ Some (record { chain = c; image = image }) → w.txn ≡ txn → IsLaterEnd txn committed (chain_versions b c) (Some w)
    → IsEndable b n committed
endable b c n image w txn None at of later = subst (λ (o : Option Prepared). IsSomePrepared o (λ _. Unit {0})) (sym at) tt
endable b c n image w txn (Some ts) at of later = subst (λ (o : Option Prepared). IsSomePrepared o (λ p. IsLater ts (order.timestamps (versions b p.chain)))) (sym at) (subst (IsLater ts) (same_timestamps (versions b c)) (later of))

no_write : (txn : ℕ) (committed : Option ℕ) (vs : List Version) → IsLaterEnd txn committed vs None
no_write txn None vs = tt
no_write txn (Some ts) vs = tt

module _ (a b : Content) (xs ys : List PreparedNode) (p : PreparedNode) (owned : AreOwned a (xs ++ p ∷ ys)) (txn : ℕ) (committed : Option ℕ) (of : p.txn ≡ txn) (is : b ≡ ended a p.node.number committed) where
  at : IsNodeOf a p
  at = (all_back_of (IsNodeOf a) xs (p ∷ ys) owned.nodes).0

  prepared_is : b.prepared ≡ set a.prepared p.node.number None
  prepared_is = ap (λ (x : Content). x.prepared) is ∙ ended-prepared a p.chain.number p.node.number at.image committed at.prepared

  same : HasSameChains a b
  same = subst (HasSameChains a) (sym is) (ended-same a p.chain.number p.node.number at.image committed at.is_chain at.prepared)

  here : (key : List ℕ) → applied_to_key txn committed (kept b (xs ++ ys) key p.chain.number) ≡ applied_to_key txn committed (kept a (xs ++ p ∷ ys) key p.chain.number)
  here key =
      let c = p.chain.number in
      let now : kept b (xs ++ ys) key c ≡ record { key = key; versions = with_version committed at.image (chain_versions a c); prepared = None } =
      kept_equal key (chain_versions b c) (with_version committed at.image (chain_versions a c)) (write_for b (xs ++ ys) c) None
      (ap (λ (x : Content). chain_versions x c) is ∙ ended-here a c p.node.number at.image committed at.is_chain at.prepared)
      (write_gone a b xs ys p owned prepared_is same) in
      let was : kept a (xs ++ p ∷ ys) key c ≡ record { key = key; versions = chain_versions a c; prepared = Some (record { txn = p.txn; row = at.image }) } =
      kept_equal key (chain_versions a c) (chain_versions a c) (write_for a (xs ++ p ∷ ys) c) (Some (record { txn = p.txn; row = at.image })) refl (write_was a b xs ys p owned prepared_is same at.image at.prepared) in
      ap (applied_to_key txn committed) now ∙ sym (ap (applied_to_key txn committed) was ∙ applied_own txn committed (record { txn = p.txn; row = at.image }) key (chain_versions a c) of)

  pub ended_key : (key : List ℕ) (c : ℕ) → applied_to_key txn committed (kept b (xs ++ ys) key c) ≡ applied_to_key txn committed (kept a (xs ++ p ∷ ys) key c)
  ended_key key c = elim (cases_eq p.chain.number c) [
    | inl equal ↦ subst (λ d. applied_to_key txn committed (kept b (xs ++ ys) key d) ≡ applied_to_key txn committed (kept a (xs ++ p ∷ ys) key d)) equal (here key)
    | inr differs ↦ ap (applied_to_key txn committed) (kept_equal key (chain_versions b c) (chain_versions a c) (write_for b (xs ++ ys) c) (write_for a (xs ++ p ∷ ys) c)
        (ap (λ (x : Content). chain_versions x c) is ∙ ended-elsewhere a p.chain.number p.node.number c at.image committed differs at.prepared)
        (write_elsewhere a b xs ys p owned prepared_is same c differs))
  ]

  pub ended_later : AreLaterEnds txn committed a (xs ++ p ∷ ys) → AreLaterEnds txn committed b (xs ++ ys)
  ended_later later c = elim (cases_eq p.chain.number c) [
    | inl equal ↦ subst (IsLaterEnd txn committed (chain_versions b c)) (sym (ap (write_for b (xs ++ ys)) (sym equal) ∙ write_gone a b xs ys p owned prepared_is same)) (no_write txn committed (chain_versions b c))
    | inr differs ↦
        subst (λ (vs : List Version). IsLaterEnd txn committed vs (write_for b (xs ++ ys) c)) (sym (ap (λ (x : Content). chain_versions x c) is ∙ ended-elsewhere a p.chain.number p.node.number c at.image committed differs at.prepared))
        (subst (IsLaterEnd txn committed (chain_versions a c)) (sym (write_elsewhere a b xs ys p owned prepared_is same c differs)) (later c))
  ]

  pub own_endable : AreLaterEnds txn committed a (xs ++ p ∷ ys) → IsEndable a p.node.number committed
  own_endable later = endable a p.chain.number p.node.number at.image (record { txn = p.txn; row = at.image }) txn committed at.prepared of
      (subst (IsLaterEnd txn committed (chain_versions a p.chain.number)) (write_was a b xs ys p owned prepared_is same at.image at.prepared) (later p.chain.number))

  pub ended_owned : AreOwned b (xs ++ ys)
  ended_owned = owned_without a b xs ys p owned prepared_is same

  pub ended_same : HasSameChains a b
  ended_same = same

-- ---- the loop

module _ (ps : List PreparedNode) (i : ℕ) (p : PreparedNode) (lt : i < length ps) (read : p ≡ get_or ps i p) (txn : ℕ) where
  first : drop i ps ≡ p ∷ drop (i + 1) ps
  first = drop_read ps i p lt read

  front_is : take (i + 1) ps ≡ take i ps ++ p ∷ []
  front_is = take_more ps i p lt ∙ ap (λ (q : PreparedNode). take i ps ++ q ∷ []) (sym read)

  passed : filter (is_other txn) (take (i + 1) ps) ≡ filter (is_other txn) (take i ps) ++ cond (is_other txn p) (p ∷ []) []
  passed = ap (filter (is_other txn)) front_is ∙ filter-append (is_other txn) (take i ps) (p ∷ [])

  pub before : remaining_nodes txn i ps ≡ filter (is_other txn) (take i ps) ++ p ∷ drop (i + 1) ps
  before = ap (λ (l : List PreparedNode). filter (is_other txn) (take i ps) ++ l) first

  pub own_next : p.txn ≡ txn → remaining_nodes txn (i + 1) ps ≡ filter (is_other txn) (take i ps) ++ drop (i + 1) ps
  own_next e =
      let t : (p.txn == txn) ≡ true = grind (arith, nat_tests) in
      ap (λ (l : List PreparedNode). l ++ drop (i + 1) ps)
      (passed ∙ ap (λ b. filter (is_other txn) (take i ps) ++ cond (not b) (p ∷ []) []) t ∙ append-nil (filter (is_other txn) (take i ps)))

  pub other_next : p.txn ≢ txn → remaining_nodes txn (i + 1) ps ≡ remaining_nodes txn i ps
  other_next e =
      let t : (p.txn == txn) ≡ false = grind (arith, nat_tests) in
      ap (λ (l : List PreparedNode). l ++ drop (i + 1) ps)
      (passed ∙ ap (λ b. filter (is_other txn) (take i ps) ++ cond (not b) (p ∷ []) []) t)
      ∙ append_assoc (filter (is_other txn) (take i ps)) (p ∷ []) (drop (i + 1) ps) ∙ sym before

  module _ (committed : Option ℕ) (a b : Content) (so_far : HasEnded txn committed a b ps (remaining_nodes txn i ps)) where
    owned_here : AreOwned b (filter (is_other txn) (take i ps) ++ p ∷ drop (i + 1) ps)
    owned_here = subst (AreOwned b) before so_far.owned

    pub endable_here : p.txn ≡ txn → AreLaterEnds txn committed b (remaining_nodes txn i ps) → IsEndable b p.node.number committed
    endable_here e later = own_endable b (ended b p.node.number committed) (filter (is_other txn) (take i ps)) (drop (i + 1) ps) p owned_here txn committed e refl (subst (AreLaterEnds txn committed b) before later)

    pub later_own : p.txn ≡ txn → (d : Content) → d ≡ ended b p.node.number committed → AreLaterEnds txn committed b (remaining_nodes txn i ps) → AreLaterEnds txn committed d (remaining_nodes txn (i + 1) ps)
    later_own e d is later = subst (AreLaterEnds txn committed d) (sym (own_next e)) (ended_later b d (filter (is_other txn) (take i ps)) (drop (i + 1) ps) p owned_here txn committed e is (subst (AreLaterEnds txn committed b) before later))

    pub ends_own : p.txn ≡ txn → (d : Content) → d ≡ ended b p.node.number committed → HasEnded txn committed a d ps (remaining_nodes txn (i + 1) ps)
    ends_own e d is =
        let xs = filter (is_other txn) (take i ps) in
        let ys = drop (i + 1) ps in
        subst (HasEnded txn committed a d ps) (sym (own_next e)) (record {
          owned = ended_owned b d xs ys p owned_here txn committed e is;
          most = ap (λ (x : Content). x.most) is ∙ ended-most b p.node.number committed ∙ so_far.most;
          cells = ap (λ (x : Content). x.cells) is ∙ ended-cells b p.node.number committed ∙ so_far.cells;
          same = same_after a b d so_far.same (ended_same b d xs ys p owned_here txn committed e is);
          keys = λ key c. ended_key b d xs ys p owned_here txn committed e is key c ∙ ap (λ (l : List PreparedNode). applied_to_key txn committed (kept b l key c)) (sym before) ∙ so_far.keys key c;
        })

    pub ends_other : p.txn ≢ txn → HasEnded txn committed a b ps (remaining_nodes txn (i + 1) ps)
    ends_other e = subst (HasEnded txn committed a b ps) (sym (other_next e)) so_far

pub ends_start : (txn : ℕ) (committed : Option ℕ) (a : Content) (ps : List PreparedNode) → AreOwned a ps → HasEnded txn committed a a ps (remaining_nodes txn 0 ps)
ends_start txn committed a ps owned = record { owned = owned; most = refl; cells = refl; same = λ c. refl; keys = λ key c. refl }

pub ends_all : (txn : ℕ) (committed : Option ℕ) (a b : Content) (ps : List PreparedNode) (i : ℕ) → length ps ≤ i → HasEnded txn committed a b ps (remaining_nodes txn i ps) → HasEnded txn committed a b ps (filter (is_other txn) ps)
ends_all txn committed a b ps i le h =
    let e : remaining_nodes txn i ps ≡ filter (is_other txn) ps =
    ap (λ (l : List PreparedNode). filter (is_other txn) l ++ drop i ps) (take_all i ps le) ∙ ap (λ (l : List PreparedNode). filter (is_other txn) ps ++ l) (drop_all i ps le) ∙ append-nil (filter (is_other txn) ps) in
    subst (HasEnded txn committed a b ps) e h

-- ---- the keys, once none of the transaction's is left

other_stays : (txn : ℕ) (committed : Option ℕ) (b : Content) (ps : List PreparedNode) (key : List ℕ) (c : ℕ) → AllByRecursion (λ (p : PreparedNode). is_other txn p ≡ true) ps → applied_to_key txn committed (kept b ps key c) ≡ kept b ps key c
other_stays txn committed b ps key c all = go ps all
  where
    whole : KeyVersions
    whole = kept b ps key c

    by_other : (t : Bool) (w : PreparedWrite) → (w.txn == txn) ≡ t → not t ≡ true → applied_write (Some w) txn committed whole ≡ whole
    by_other true w e f = absurd (let g : false ≡ true = f in cc)
    by_other false w e f = ap (λ b. cond b (record whole { versions = with_version committed w.row whole.versions; prepared = None }) whole) e

    go : (qs : List PreparedNode) → AllByRecursion (λ (p : PreparedNode). is_other txn p ≡ true) qs → applied_write (write_for b qs c) txn committed whole ≡ whole
    go [] h = refl
    go (q ∷ qs) h = cases (is_for c q) (go qs h.1)
      where
        cases : (t : Bool) → applied_write (write_for b qs c) txn committed whole ≡ whole → applied_write (cond t (Some (write_of b q)) (write_for b qs c)) txn committed whole ≡ whole
        cases true again = by_other (q.txn == txn) (write_of b q) refl h.0
        cases false again = again

pub ended_keys : (txn : ℕ) (committed : Option ℕ) (a b : Content) (ps : List PreparedNode) → HasEnded txn committed a b ps (filter (is_other txn) ps) → (key : List ℕ) (c : ℕ) → kept b (filter (is_other txn) ps) key c ≡ applied_to_key txn committed (kept a ps key c)
ended_keys txn committed a b ps h key c = sym (other_stays txn committed b (filter (is_other txn) ps) key c (all_filter_itself (is_other txn) ps)) ∙ h.keys key c

pub ended_list : (txn : ℕ) (committed : Option ℕ) (a b : Content) (ps : List PreparedNode) (es : List KeyEntry) → HasEnded txn committed a b ps (filter (is_other txn) ps) → all_kept b (filter (is_other txn) ps) es ≡ map (applied_to_key txn committed) (all_kept a ps es)
ended_list txn committed a b ps [] h = refl
ended_list txn committed a b ps (e ∷ es) h =
    ap (λ (k : KeyVersions). k ∷ all_kept b (filter (is_other txn) ps) es) (ended_keys txn committed a b ps h e.key e.chain.number)
    ∙ ap (λ (l : List KeyVersions). applied_to_key txn committed (kept_entry a ps e) ∷ l) (ended_list txn committed a b ps es h)
