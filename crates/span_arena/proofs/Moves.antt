-- What each call leaves of the layout: every node in one place, every chain with its versions.
use Rattle.std.proofs.Common.{◌≡◌, ◌≢◌, ℕ, suc, ◌+◌, ◌-◌, ◌<◌, ◌≤◌, List, [], ◌∷◌, ◌++◌, refl, sym, ◌∙◌, ap, arith, length, map, Option, Some, None, set, inl, inr, add-one, length-append, cond, nat_eq, true, false}
use Rattle.std.proofs.lemmas.List.{get_or-set_same, length-set}
use Rattle.std.proofs.lemmas.Bool.{cases_eq}
use Rattle.std.proofs.lemmas.Bool.Decides.{nat_tests}
use Rattle.std.proofs.Math.ListN.{get_or-eq_default}
use Rattle.span_arena.specs.declared.record.NodeRecord.{NodeRecord}
use Rattle.span_arena.specs.declared.record.ChainRecord.{ChainRecord}
use Rattle.span_arena.specs.declared.record.ChainRecord.TheVariants as chain
use Rattle.span_arena.specs.declared.record.VersionLinks.{VersionLinks}
use Rattle.span_arena.specs.declared.record.NodeUse.{NodeUse}
use Rattle.span_arena.specs.declared.record.NodeUse.TheVariants.{Free, Reserved, Linked}
use Rattle.span_arena.specs.Content.{Prepared, sum_for, one_if, one_for, prepared_for}
use Rattle.span_arena.specs.Runs.{IsRun, IsFreeList, IsSound, node_at, blank, total, chain_of, record_at, links_at, links_of, prepared_of, prepared_of_use, version_of}
use Rattle.span_arena.proofs.Frames.{IsChanged, run_stays, walk_stays, ranks_stay, run_wider, free_stays, changed-set, changed-push, reserved_apart, free_apart}
use Rattle.span_arena.proofs.Counts.{total-set, sum-node, sum-one_more, one_for-same, one_for-other}
use Rattle.span_arena.proofs.Chains.{with_prepared, used_in_range, links_were, links_here, links_elsewhere, prepared_step, runs_step, chains_stay}

-- what is prepared in a node, by its use
pub is_for : (n : NodeRecord) (c : ℕ) → n.used ≡ Reserved c → prepared_of n ≡ Some (record { chain = c; image = (version_of n).image })
is_for n c used = ap (λ (p : NodeUse). prepared_of_use p (version_of n).image) used

pub is_none-free : (n : NodeRecord) (k : ℕ) → n.used ≡ Free k → prepared_of n ≡ None
is_none-free n k used = ap (λ (p : NodeUse). prepared_of_use p (version_of n).image) used

pub is_none-linked : (n : NodeRecord) (c : ℕ) → n.used ≡ Linked c → prepared_of n ≡ None
is_none-linked n c used = ap (λ (p : NodeUse). prepared_of_use p (version_of n).image) used

-- nothing is prepared for another chain
pub for_others : (p : Option Prepared) (c : ℕ) (image : Option (List ℕ)) → p ≡ Some (record { chain = c; image = image }) → (d : ℕ) → d ≢ c → one_for d p ≡ 0
for_others p c image e d differs = rw e (one_for-other c d image differs)

pub for_this : (p : Option Prepared) (c : ℕ) (image : Option (List ℕ)) → p ≡ Some (record { chain = c; image = image }) → one_for c p ≡ 1
for_this p c image e = rw e (one_for-same c image)

module _ (nodes : List NodeRecord) (rs : List ChainRecord) (free count most : ℕ) (sound : IsSound nodes rs free count most) where
  -- where j was linked nowhere, each chain stays
  pub runs_stay : (g : ℕ → NodeRecord) (j : ℕ) → IsChanged (node_at nodes) g j → ((d : ℕ) → (node_at nodes j).used ≢ Linked d) → (d : ℕ) → IsRun g sound.rank d sound.top (links_at rs d).count (links_at rs d).newest
  runs_stay g j changed apart d = run_stays (node_at nodes) g j changed sound.rank d sound.top (links_at rs d).count (links_at rs d).newest (apart d) (sound.runs d)

  pub maps_stay : (g : ℕ → NodeRecord) (j : ℕ) → IsChanged (node_at nodes) g j → ((d : ℕ) → (node_at nodes j).used ≢ Linked d) → map (chain_of g) rs ≡ map (chain_of (node_at nodes)) rs
  maps_stay g j changed apart = chains_stay (node_at nodes) g rs (λ d. walk_stays (node_at nodes) g j changed sound.rank d sound.top (links_at rs d).count (links_at rs d).newest (apart d) (sound.runs d))

  module _ (c : ℕ) (l : VersionLinks) (used : record_at rs c ≡ chain.Used l) where
    total_same : (n : ℕ) → total (set rs c (chain.Used (with_prepared l n))) ≡ total rs
    total_same n =
        let t : total (set rs c (chain.Used (with_prepared l n))) + (links_at rs c).count ≡ total rs + l.count = total-set rs c (chain.Used (with_prepared l n)) (used_in_range rs c l used) in
        let e : (links_at rs c).count ≡ l.count = ap (λ (r : ChainRecord). (links_of r).count) used in omega arith

    -- a node in which something was prepared
    module _ (j : ℕ) (x : NodeRecord) (in_range : j < length nodes) (was : (node_at nodes j).used ≡ Reserved c) (some : 0 < l.prepared) where
      apart : (d : ℕ) → (node_at nodes j).used ≢ Linked d
      apart d = reserved_apart (node_at nodes j).used c d was

      was_for : prepared_of (node_at nodes j) ≡ Some (record { chain = c; image = (version_of (node_at nodes j)).image })
      was_for = is_for (node_at nodes j) c was

      changed : IsChanged (node_at nodes) (node_at (set nodes j x)) j
      changed = changed-set nodes j x

      at_j : node_at (set nodes j x) j ≡ x
      at_j = get_or-set_same nodes j x blank in_range

      prepared_less : (m : VersionLinks) → m.prepared ≡ l.prepared - 1 → prepared_of x ≡ None → (d : ℕ) → prepared_for d (map prepared_of (set nodes j x)) ≡ (links_at (set rs c (chain.Used m)) d).prepared
      prepared_less m is none = prepared_step rs c l m used (map prepared_of nodes) (map prepared_of (set nodes j x)) (prepared_of (node_at nodes j)) (prepared_of x)
          (λ d. sum-node (one_for d) nodes j x in_range) sound.prepared
          (let a : one_for c (prepared_of (node_at nodes j)) ≡ 1 = for_this (prepared_of (node_at nodes j)) c (version_of (node_at nodes j)).image was_for in
          let b : one_for c (prepared_of x) ≡ 0 = rw none refl in omega arith)
          (λ d differs. for_others (prepared_of (node_at nodes j)) c (version_of (node_at nodes j)).image was_for d differs ∙ (rw none refl))

      counted_less : prepared_of x ≡ None → sum_for one_if (map prepared_of (set nodes j x)) + 1 ≡ sum_for one_if (map prepared_of nodes)
      counted_less none =
          let s : sum_for one_if (map prepared_of (set nodes j x)) + one_if (prepared_of (node_at nodes j)) ≡ sum_for one_if (map prepared_of nodes) + one_if (prepared_of x) = sum-node one_if nodes j x in_range in
          let a : one_if (prepared_of (node_at nodes j)) ≡ 1 = rw was_for refl in
          let b : one_if (prepared_of x) ≡ 0 = rw none refl in omega arith

      not_free : (k m : ℕ) → (node_at nodes j).used ≡ Free m → k < m
      not_free k m p = absurd (let q : Reserved c ≡ Free m = sym was ∙ p in cc)

      -- is free now
      pub sound-give_back : x.used ≡ Free (count + 1) → x.next ≡ free → IsSound (set nodes j x) (set rs c (chain.Used (with_prepared l (l.prepared - 1)))) j (count + 1) most
      sound-give_back is_free next =
          let none : prepared_of x ≡ None = is_none-free x (count + 1) is_free in
          let rest : IsFreeList (node_at (set nodes j x)) count free = free_stays (node_at nodes) (node_at (set nodes j x)) j changed count free (λ m p. not_free count m p) sound.free_list in
          record {
            rank = sound.rank;
            top = sound.top;
            runs = runs_step rs c l (with_prepared l (l.prepared - 1)) used (node_at (set nodes j x)) sound.rank sound.top refl refl (runs_stay (node_at (set nodes j x)) j changed apart);
            free_list = rw (add-one, at_j) (is_free ∙ ap Free (add-one count), rw next rest);
            prepared = prepared_less (with_prepared l (l.prepared - 1)) refl none;
            counted = rw length-set (omega (arith, counted_less none, sound.counted, total_same (l.prepared - 1)));
            bounded = rw length-set sound.bounded;
          }

      -- above every rank that there was
      ranked : ℕ → ℕ
      ranked i = cond (nat_eq i j) sound.top (sound.rank i)

      ranked_here : ranked j ≡ sound.top
      unfolding ranked
      ranked_here = let t : nat_eq j j ≡ true = grind (arith, nat_tests) in rw t refl

      ranked_elsewhere : (i : ℕ) → i ≢ j → ranked i ≡ sound.rank i
      unfolding ranked
      ranked_elsewhere i differs = let t : nat_eq i j ≡ false = grind (arith, nat_tests) in rw t refl

      reranked : (d : ℕ) → IsRun (node_at (set nodes j x)) ranked d sound.top (links_at rs d).count (links_at rs d).newest
      reranked d = run_stays (node_at nodes) (node_at (set nodes j x)) j changed ranked d sound.top (links_at rs d).count (links_at rs d).newest (apart d)
          (ranks_stay (node_at nodes) j sound.rank ranked ranked_elsewhere d sound.top (links_at rs d).count (links_at rs d).newest (apart d) (sound.runs d))

      -- is the newest of its chain now
      pub sound-link : x.used ≡ Linked c → x.next ≡ l.newest
          → IsSound (set nodes j x) (set rs c (chain.Used (record { newest = j; count = l.count + 1; prepared = l.prepared - 1 }))) free count most
      sound-link is_linked next =
          let g = node_at (set nodes j x) in
          let m : VersionLinks = record { newest = j; count = l.count + 1; prepared = l.prepared - 1 } in
          let none : prepared_of x ≡ None = is_none-linked x c is_linked in
          let rest : IsRun g ranked c sound.top l.count l.newest = rw (links_were rs c l m used) at (reranked c) in
          let lifted : IsRun g ranked c (sound.top + 1) (l.count + 1) j = rw (add-one l.count, at_j, ranked_here) (is_linked, omega arith, rw next rest) in
          let t : total (set rs c (chain.Used m)) + (links_at rs c).count ≡ total rs + (l.count + 1) = total-set rs c (chain.Used m) (used_in_range rs c l used) in
          let n : (links_at rs c).count ≡ l.count = ap (λ (r : ChainRecord). (links_of r).count) used in
          record {
            rank = ranked;
            top = sound.top + 1;
            runs = λ d. elim (cases_eq d c) [
              | inl same ↦ rw (same, links_here rs c l m used) lifted
              | inr differs ↦ rw (links_elsewhere rs c l m used d differs) (run_wider g ranked d sound.top (sound.top + 1) (links_at rs d).count (links_at rs d).newest (omega arith) (reranked d))
            ];
            free_list = free_stays (node_at nodes) g j changed count free (λ k p. not_free count k p) sound.free_list;
            prepared = prepared_less m refl none;
            counted = rw length-set (omega (arith, counted_less none, sound.counted));
            bounded = rw length-set sound.bounded;
          }

    -- something is prepared in a node where nothing was; qs is what is prepared then
    prepared_more : (x : NodeRecord) (old : Option Prepared) (qs : List (Option Prepared)) → old ≡ None → x.used ≡ Reserved c
        → ((d : ℕ) → prepared_for d qs + one_for d old ≡ prepared_for d (map prepared_of nodes) + one_for d (prepared_of x))
        → (d : ℕ) → prepared_for d qs ≡ (links_at (set rs c (chain.Used (with_prepared l (l.prepared + 1)))) d).prepared
    prepared_more x old qs none is_reserved sums = prepared_step rs c l (with_prepared l (l.prepared + 1)) used (map prepared_of nodes) qs old (prepared_of x) sums sound.prepared
        (let a : one_for c (prepared_of x) ≡ 1 = for_this (prepared_of x) c (version_of x).image (is_for x c is_reserved) in
        let b : one_for c old ≡ 0 = rw none refl in omega arith)
        (λ d differs. (let a : one_for d (prepared_of x) ≡ 0 = for_others (prepared_of x) c (version_of x).image (is_for x c is_reserved) d differs in
        let b : one_for d old ≡ 0 = rw none refl in omega arith))

    -- the first of the free nodes
    pub sound-reuse : (k : ℕ) (x : NodeRecord) → count ≡ suc k → free < length nodes → x.used ≡ Reserved c
        → IsSound (set nodes free x) (set rs c (chain.Used (with_prepared l (l.prepared + 1)))) (node_at nodes free).next k most
    sound-reuse k x some in_range is_reserved =
        let g = node_at (set nodes free x) in
        let list : IsFreeList (node_at nodes) (suc k) free = rw some at sound.free_list in
        let none : prepared_of (node_at nodes free) ≡ None = is_none-free (node_at nodes free) (suc k) list.0 in
        let apart : (d : ℕ) → (node_at nodes free).used ≢ Linked d = λ d. free_apart (node_at nodes free).used (suc k) d list.0 in
        let changed : IsChanged (node_at nodes) g free = changed-set nodes free x in
        let s : sum_for one_if (map prepared_of (set nodes free x)) + one_if (prepared_of (node_at nodes free)) ≡ sum_for one_if (map prepared_of nodes) + one_if (prepared_of x) = sum-node one_if nodes free x in_range in
        let a : one_if (prepared_of x) ≡ 1 = rw (is_for x c is_reserved) refl in
        let b : one_if (prepared_of (node_at nodes free)) ≡ 0 = rw none refl in
        record {
          rank = sound.rank;
          top = sound.top;
          runs = runs_step rs c l (with_prepared l (l.prepared + 1)) used g sound.rank sound.top refl refl (runs_stay g free changed apart);
          free_list = free_stays (node_at nodes) g free changed k (node_at nodes free).next (λ m p. let q : Free (suc k) ≡ Free m = sym list.0 ∙ p in let e : suc k ≡ m = cc in omega arith) list.1;
          prepared = prepared_more x (prepared_of (node_at nodes free)) (map prepared_of (set nodes free x)) none is_reserved (λ d. sum-node (one_for d) nodes free x in_range);
          counted = rw length-set (omega (arith, sound.counted, total_same (l.prepared + 1)));
          bounded = rw length-set sound.bounded;
        }

    -- one node more
    pub sound-push : (x : NodeRecord) → x.used ≡ Reserved c → count ≡ 0 → length nodes < most → IsSound (nodes ++ x ∷ []) (set rs c (chain.Used (with_prepared l (l.prepared + 1)))) free count most
    sound-push x is_reserved none below =
        let g = node_at (nodes ++ x ∷ []) in
        let le : length nodes ≤ length nodes = omega arith in
        let end_is : node_at nodes (length nodes) ≡ blank = get_or-eq_default nodes blank le in
        let apart : (d : ℕ) → (node_at nodes (length nodes)).used ≢ Linked d = λ d. free_apart (node_at nodes (length nodes)).used 0 d (ap (λ (n : NodeRecord). n.used) end_is) in
        let changed : IsChanged (node_at nodes) g (length nodes) = changed-push nodes x in
        let s : sum_for one_if (map prepared_of (nodes ++ x ∷ [])) ≡ sum_for one_if (map prepared_of nodes) + one_if (prepared_of x) = sum-one_more one_if nodes x in
        let a : one_if (prepared_of x) ≡ 1 = rw (is_for x c is_reserved) refl in
        record {
          rank = sound.rank;
          top = sound.top;
          runs = runs_step rs c l (with_prepared l (l.prepared + 1)) used g sound.rank sound.top refl refl (runs_stay g (length nodes) changed apart);
          free_list = rw none tt;
          prepared = prepared_more x None (map prepared_of (nodes ++ x ∷ [])) refl is_reserved (λ d. let e : prepared_for d (map prepared_of (nodes ++ x ∷ [])) ≡ prepared_for d (map prepared_of nodes) + one_for d (prepared_of x) = sum-one_more (one_for d) nodes x in omega arith);
          counted = omega (arith, sound.counted, total_same (l.prepared + 1), length-append nodes (x ∷ []));
          bounded = omega (arith, length-append nodes (x ∷ []));
        }
