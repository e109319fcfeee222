-- What each call does to the content.
use Rattle.std.proofs.Common.{◌≡◌, ◌≢◌, ℕ, suc, ◌+◌, ◌-◌, ◌<◌, ◌≤◌, List, [], ◌∷◌, ◌++◌, refl, sym, ◌∙◌, ap, arith, length, map, Option, Some, None, get_or, set, inl, inr, add-one, true, false}
use Rattle.std.specs.Prelude.{nat_lt, nat_eq, ◌&&◌}
use Rattle.std.proofs.Math.ListN.{get_or-eq_default}
use Rattle.std.proofs.lemmas.List.{get_or-set_same, length-map, map-set, map-append, get_or-map, get_or_default}
use Rattle.std.proofs.lemmas.Bool.{cases_lt}
use Rattle.std.proofs.lemmas.Bool.Decides.{nat_tests}
use Rattle.span_arena.specs.declared.cell.Cell.{Cell}
use Rattle.span_arena.specs.declared.version.ArenaVersion.{ArenaVersion}
use Rattle.span_arena.specs.declared.record.NodeRecord.{NodeRecord}
use Rattle.span_arena.specs.declared.record.ChainRecord.{ChainRecord}
use Rattle.span_arena.specs.declared.record.ChainRecord.TheVariants as chain
use Rattle.span_arena.specs.declared.record.VersionLinks.{VersionLinks}
use Rattle.span_arena.specs.declared.record.NodeUse.TheVariants.{Free, Reserved, Linked}
use Rattle.span_arena.specs.Content.{Content, Prepared, versions, versions_in, IsInOrder, is_unused, live, linked, linked_as, given_back, IsSomePrepared, IsReserved, with_at, one_for, prepared_for}
use Rattle.span_arena.specs.Runs.{walk, IsFreeList, IsSound, node_at, blank, chain_of, record_at, links_at, links_of, prepared_of, content, version_of}
use Rattle.span_arena.proofs.Frames.{changed-set, changed-push, reserved_apart, free_apart}
use Rattle.span_arena.proofs.Counts.{length-walk, versions_counted, one_for-at, one_for-same}
use Rattle.span_arena.proofs.Chains.{with_prepared, versions_are, chain_at, used_prepared, read_used, links_were, chains_step}
use Rattle.span_arena.proofs.Moves.{maps_stay, is_for, is_none-free, is_none-linked}

abbrev pub of_parts : List (Option (List ArenaVersion)) → List (Option Prepared) → ℕ → ℕ → List Cell → Content
of_parts cs ps free most cells = record { chains = cs; cells = cells; prepared = ps; free = free; most = most }

pub parts_equal : (cs ds : List (Option (List ArenaVersion))) (ps qs : List (Option Prepared)) (free most : ℕ) (cells : List Cell) → cs ≡ ds → ps ≡ qs → of_parts cs ps free most cells ≡ of_parts ds qs free most cells
parts_equal cs ds ps qs free most cells e f = ap (λ (x : List (Option (List ArenaVersion))). of_parts x ps free most cells) e ∙ ap (λ (y : List (Option Prepared)). of_parts ds y free most cells) f

-- ---- what the code reads

-- what the code read of a node in which something is prepared
pub record IsHeld (nodes : List NodeRecord) (rs : List ChainRecord) (j : ℕ) (cell : NodeRecord) (c : ℕ) : Type 0 where
  pub in_range : j < length nodes
  pub at : node_at nodes j ≡ cell
  pub was : (node_at nodes j).used ≡ Reserved c
  pub prepared : get_or (map prepared_of nodes) j None ≡ Some (record { chain = c; image = (version_of cell).image })
  pub links : VersionLinks
  pub used : record_at rs c ≡ chain.Used links
  pub some : 0 < links.prepared

in_range-prepared : (nodes : List NodeRecord) (j : ℕ) (P : Prepared → Type 0) → IsSomePrepared (get_or (map prepared_of nodes) j None) P → j < length nodes
in_range-prepared nodes j P h = elim (cases_lt j (length nodes)) [
  | inl lt ↦ lt
  | inr ge ↦ let ge_map : length (map prepared_of nodes) ≤ j = omega (arith, length-map nodes prepared_of) in
      let e : get_or (map prepared_of nodes) j None ≡ None = get_or-eq_default (map prepared_of nodes) None ge_map in
      absurd (rw e at h)
]

-- and of its chain
pub links_held : (nodes : List NodeRecord) (rs : List ChainRecord) (j : ℕ) (cell : NodeRecord) (c : ℕ) → IsHeld nodes rs j cell c → (r : ChainRecord) (l : VersionLinks) → r ≡ get_or rs c r → r ≡ chain.Used l
    → (record_at rs c ≡ chain.Used l) × (0 < l.prepared)
links_held nodes rs j cell c is_held r l read is =
    let used : record_at rs c ≡ chain.Used l = read_used rs c r l is_held.links is_held.used read is in
    let q : chain.Used is_held.links ≡ chain.Used l = sym is_held.used ∙ used in
    let e : is_held.links ≡ l = cc in
    (used, rw e at is_held.some)

module _ (nodes : List NodeRecord) (rs : List ChainRecord) (free count most : ℕ) (cells : List Cell) (sound : IsSound nodes rs free count most) where
  some_prepared : (c j : ℕ) (image : Option (List ℕ)) → get_or (map prepared_of nodes) j None ≡ Some (record { chain = c; image = image }) → 0 < (links_at rs c).prepared
  some_prepared c j image e =
      let a : one_for c (get_or (map prepared_of nodes) j None) ≤ prepared_for c (map prepared_of nodes) = one_for-at c (map prepared_of nodes) j in
      let b : one_for c (get_or (map prepared_of nodes) j None) ≡ 1 = rw e (one_for-same c image) in
      omega (arith, sound.prepared c)

  pub held : (j : ℕ) (cell : NodeRecord) (P : Prepared → Type 0) (c : ℕ) → cell.used ≡ Reserved c → cell ≡ get_or nodes j cell → IsSomePrepared (get_or (map prepared_of nodes) j None) P
      → IsHeld nodes rs j cell c × P (record { chain = c; image = (version_of cell).image })
  held j cell P c place read h =
      let lt : j < length nodes = in_range-prepared nodes j P h in
      let at : node_at nodes j ≡ cell = get_or_default nodes j blank cell lt ∙ sym read in
      let e : get_or (map prepared_of nodes) j None ≡ Some (record { chain = c; image = (version_of cell).image }) = get_or-map prepared_of nodes j blank None lt ∙ ap prepared_of at ∙ is_for cell c place in
      let h3 : P (record { chain = c; image = (version_of cell).image }) = rw e at h in
      let found = used_prepared rs c (some_prepared c j (version_of cell).image e) in
      let n : (links_at rs c).prepared ≡ found.0.prepared = ap (λ (r : ChainRecord). (links_of r).prepared) found.1 in
      (record { in_range = lt; at = at; was = ap (λ (n : NodeRecord). n.used) at ∙ place; prepared = e; links = found.0; used = found.1; some = (let s : 0 < (links_at rs c).prepared = some_prepared c j (version_of cell).image e in omega arith) }, h3)

  -- ---- how many

  pub live_is : live (content nodes rs count most cells) + count ≡ length nodes
  live_is = omega (arith, sound.counted, versions_counted (node_at nodes) rs)

  pub unused_is : (c : ℕ) (l : VersionLinks) → record_at rs c ≡ chain.Used l → is_unused (content nodes rs count most cells) c ≡ (nat_eq l.count 0 && nat_eq l.prepared 0)
  unused_is c l used = rw (versions_are (node_at nodes) rs c, length-walk, sound.prepared c, links_were rs c l l used) refl

  pub prepared_is : (c : ℕ) (l : VersionLinks) → record_at rs c ≡ chain.Used l → prepared_for c (map prepared_of nodes) ≡ l.prepared
  prepared_is c l used = sound.prepared c ∙ ap (λ (r : ChainRecord). (links_of r).prepared) used

  pub in_order : IsInOrder (content nodes rs count most cells)
  in_order = record {
    placed = rw length-map (omega (arith, live_is));
    bounded = rw length-map sound.bounded;
    for_chains = λ node p e. (let found = used_prepared rs p.chain (some_prepared p.chain node p.image e) in
        (walk (node_at nodes) found.0.count found.0.newest, chain_at (node_at nodes) rs p.chain found.0 found.1));
  }

  -- ---- the calls

  module _ (j : ℕ) (cell : NodeRecord) (c : ℕ) (is_held : IsHeld nodes rs j cell c) (l : VersionLinks) (used : record_at rs c ≡ chain.Used l) where
    apart : (d : ℕ) → (node_at nodes j).used ≢ Linked d
    apart d = reserved_apart (node_at nodes j).used c d is_held.was

    pub chain_versions : versions (content nodes rs count most cells) c ≡ walk (node_at nodes) l.count l.newest
    chain_versions = ap versions_in (chain_at (node_at nodes) rs c l used)

    pub content-give_back : (x : NodeRecord) → x.used ≡ Free (count + 1)
        → content (set nodes j x) (set rs c (chain.Used (with_prepared l (l.prepared - 1)))) (count + 1) most cells ≡ given_back (content nodes rs count most cells) j
    content-give_back x is_free =
        let g = node_at (set nodes j x) in
        parts_equal _ _ _ _ (count + 1) most cells
        (chains_step rs c l (with_prepared l (l.prepared - 1)) used g refl refl ∙ maps_stay nodes rs free count most sound g j (changed-set nodes j x) apart)
        (map-set prepared_of nodes j x ∙ ap (set (map prepared_of nodes) j) (is_none-free x (count + 1) is_free))

    pub content-link : (x : NodeRecord) (s : ℕ) → x.used ≡ Linked c → (version_of x) ≡ record { timestamp = s; image = (version_of cell).image } → x.next ≡ l.newest
        → content (set nodes j x) (set rs c (chain.Used (record { newest = j; count = l.count + 1; prepared = l.prepared - 1 }))) count most cells ≡ linked (content nodes rs count most cells) j s
    content-link x s is_linked version next =
        let f = node_at nodes in
        let g = node_at (set nodes j x) in
        let v : ArenaVersion = record { timestamp = s; image = (version_of cell).image } in
        let m : VersionLinks = record { newest = j; count = l.count + 1; prepared = l.prepared - 1 } in
        let stay : map (chain_of g) rs ≡ map (chain_of f) rs = maps_stay nodes rs free count most sound g j (changed-set nodes j x) apart in
        let walk_same : walk g l.count l.newest ≡ walk f l.count l.newest =
        (let a : Some (walk g l.count l.newest) ≡ Some (walk f l.count l.newest)
        = sym (chain_at g rs c l used) ∙ ap (λ (cs : List (Option (List ArenaVersion))). get_or cs c None) stay ∙ chain_at f rs c l used in cc) in
        let at_j : g j ≡ x = get_or-set_same nodes j x blank is_held.in_range in
        let walked : chain_of g (chain.Used m) ≡ Some (v ∷ versions (content nodes rs count most cells) c) = rw (chain_versions, add-one, at_j, version, next, walk_same) refl in
        let chains : map (chain_of g) (set rs c (chain.Used m)) ≡ set (map (chain_of f) rs) c (Some (v ∷ versions (content nodes rs count most cells) c)) =
        map-set (chain_of g) rs c (chain.Used m) ∙ ap (λ (cs : List (Option (List ArenaVersion))). set cs c (chain_of g (chain.Used m))) stay ∙ ap (set (map (chain_of f) rs) c) walked in
        parts_equal _ _ _ _ count most cells chains (map-set prepared_of nodes j x ∙ ap (set (map prepared_of nodes) j) (is_none-linked x c is_linked))
        ∙ sym (ap (linked_as (content nodes rs count most cells) j s) is_held.prepared)

  -- the first of the free nodes, and what the code reads there
  pub first_free : 0 < count → (free < length nodes) × ((node_at nodes free).used ≡ Free count) × ((n : NodeRecord) → n ≡ get_or nodes free n → node_at nodes free ≡ n)
  first_free some =
      let e : count ≡ suc (count - 1) = omega arith in
      let list : IsFreeList (node_at nodes) (suc (count - 1)) free = rw e at sound.free_list in
      let lt : free < length nodes = elim (cases_lt free (length nodes)) [
        | inl lt ↦ lt
        | inr ge ↦ (let b : node_at nodes free ≡ blank = get_or-eq_default nodes blank ge in
            let p : blank.used ≡ Free (suc (count - 1)) = rw b at list.0 in
            let z : 0 ≡ suc (count - 1) = cc in omega arith)
      ] in
      (lt, list.0 ∙ ap Free (sym e), λ n read. get_or_default nodes free blank n lt ∙ sym read)

  module _ (c : ℕ) (l : VersionLinks) (used : record_at rs c ≡ chain.Used l) where
    pub content-reuse : (image : Option (List ℕ)) (x : NodeRecord) → 0 < count → free < length nodes → (node_at nodes free).used ≡ Free count → prepared_of x ≡ Some (record { chain = c; image = image })
        → IsReserved (content nodes rs count most cells) (content (set nodes free x) (set rs c (chain.Used (with_prepared l (l.prepared + 1)))) (count - 1) most cells) c image free
    content-reuse image x some in_range is_free is_prepared =
        let g = node_at (set nodes free x) in
        let lt : free < length (map prepared_of nodes) = rw length-map in_range in
        let t : nat_lt free (length (map prepared_of nodes)) ≡ true = grind (arith, nat_tests) in
        record {
          room = omega (arith, live_is, sound.bounded);
          number = omega (arith, length-map nodes prepared_of);
          was_none = get_or-map prepared_of nodes free blank None in_range ∙ is_none-free (node_at nodes free) count is_free;
          from_free = λ _. lt;
          now = parts_equal _ _ _ _ (count - 1) most cells
              (chains_step rs c l (with_prepared l (l.prepared + 1)) used g refl refl
              ∙ maps_stay nodes rs free count most sound g free (changed-set nodes free x) (λ d. free_apart (node_at nodes free).used count d is_free))
              (rw t (map-set prepared_of nodes free x ∙ ap (set (map prepared_of nodes) free) is_prepared));
        }

    pub content-push : (image : Option (List ℕ)) (x : NodeRecord) → count ≡ 0 → length nodes < most → prepared_of x ≡ Some (record { chain = c; image = image })
        → IsReserved (content nodes rs count most cells) (content (nodes ++ x ∷ []) (set rs c (chain.Used (with_prepared l (l.prepared + 1)))) count most cells) c image (length nodes)
    content-push image x none below is_prepared =
        let g = node_at (nodes ++ x ∷ []) in
        let ge : length (map prepared_of nodes) ≤ length nodes = omega (arith, length-map nodes prepared_of) in
        let t : nat_lt (length nodes) (length (map prepared_of nodes)) ≡ false = grind (arith, nat_tests) in
        let le : length nodes ≤ length nodes = omega arith in
        let end_is : node_at nodes (length nodes) ≡ blank = get_or-eq_default nodes blank le in
        let less : count - 1 ≡ count = omega arith in
        let more : List (Option Prepared) = with_at (map prepared_of nodes) (length nodes) (Some (record { chain = c; image = image })) in
        record {
          room = omega (arith, live_is);
          number = omega (arith, length-map nodes prepared_of);
          was_none = get_or-eq_default (map prepared_of nodes) None ge;
          from_free = λ some. absurd (omega arith);
          now = parts_equal _ (map (chain_of (node_at nodes)) rs) _ more count most cells
              (chains_step rs c l (with_prepared l (l.prepared + 1)) used g refl refl
              ∙ maps_stay nodes rs free count most sound g (length nodes) (changed-push nodes x) (λ d. free_apart (node_at nodes (length nodes)).used 0 d (ap (λ (n : NodeRecord). n.used) end_is)))
              (rw t (map-append prepared_of nodes (x ∷ []) ∙ ap (λ (p : Option Prepared). map prepared_of nodes ++ p ∷ []) is_prepared))
              ∙ ap (λ (n : ℕ). of_parts (map (chain_of (node_at nodes)) rs) more n most cells) (sym less);
        }
