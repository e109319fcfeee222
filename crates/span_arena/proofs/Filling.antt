-- Free nodes become a chain, from its first to its last.
use Rattle.std.proofs.Common.{◌≡◌, ◌≢◌, ℕ, zero, suc, ◌+◌, ◌-◌, ◌<◌, ◌≤◌, List, [], ◌∷◌, ◌++◌, refl, sym, ◌∙◌, ap, arith, length, map, Option, Some, None, set, add-one, cond, nat_eq, true, false, subst, inl, inr, length-append}
use Rattle.std.proofs.lemmas.List.{get_or-set_same, length-set, map-set, map-append}
use Rattle.std.proofs.lemmas.Bool.{cases_lt}
use Rattle.std.proofs.lemmas.Bool.Decides.{nat_tests}
use Rattle.std.proofs.Math.ListN.{get_or-eq_default}
use Rattle.std.proofs.Math.Seq.{map-set_same, get_or-append_seam}
use Rattle.span_arena.specs.declared.version.ArenaVersion.{ArenaVersion}
use Rattle.span_arena.specs.declared.record.NodeRecord.{NodeRecord}
use Rattle.span_arena.specs.declared.record.ChainRecord.{ChainRecord}
use Rattle.span_arena.specs.declared.record.ChainRecord.TheVariants as chain
use Rattle.span_arena.specs.declared.cell.Cell.{Cell}
use Rattle.span_arena.specs.declared.record.VersionLinks.{VersionLinks}
use Rattle.span_arena.specs.declared.record.NodeUse.TheVariants.{Free, Linked}
use Rattle.span_arena.specs.Content.{Content, Prepared, with_versions, with_free_node, sum_for, one_if, one_for, prepared_for}
use Rattle.span_arena.specs.Runs.{walk, follow, IsRun, IsFreeList, IsSound, IsTrimming, node_at, blank, chain_of, record_at, links_at, links_of, prepared_of, content, version_of}
use Rattle.span_arena.proofs.Frames.{IsChanged, run_stays, walk_stays, free_stays, changed-set, changed-push, free_apart}
use Rattle.span_arena.proofs.Counts.{length-walk, sum-one_more}
use Rattle.span_arena.proofs.Chains.{chains_stay}
use Rattle.span_arena.proofs.Moves.{maps_stay, is_none-free, is_none-linked}
use Rattle.span_arena.proofs.Contents.{of_parts, parts_equal}
use Rattle.span_arena.proofs.Cutting.{walk-snoc, follow-snoc}

-- where a run in which j does not lie ends stays
follow_stays : (f g : ℕ → NodeRecord) (j : ℕ) → IsChanged f g j → (rank : ℕ → ℕ) (c bound k h : ℕ) → (f j).used ≢ Linked c → IsRun f rank c bound k h → follow g k h ≡ follow f k h
follow_stays f g j changed rank c bound zero h apart run = refl
follow_stays f g j changed rank c bound (suc k) h apart run =
    let e : g h ≡ f h = changed.others h (λ same. apart (rw same at run.0)) in
    rw e (follow_stays f g j changed rank c (rank h) k (f h).next apart run.2)

-- every rank one higher, but that of j the lowest
lifted : (ℕ → ℕ) → ℕ → ℕ → ℕ
lifted rank j i = cond (nat_eq i j) 0 (suc (rank i))

lifted_here : (rank : ℕ → ℕ) (j : ℕ) → lifted rank j j ≡ 0
unfolding lifted
lifted_here rank j = let t : nat_eq j j ≡ true = grind (arith, nat_tests) in rw t refl

lifted_elsewhere : (rank : ℕ → ℕ) (j i : ℕ) → i ≢ j → lifted rank j i ≡ suc (rank i)
unfolding lifted
lifted_elsewhere rank j i differs = let t : nat_eq i j ≡ false = grind (arith, nat_tests) in rw t refl

run_lifted : (f : ℕ → NodeRecord) (rank : ℕ → ℕ) (j c bound k h : ℕ) → (f j).used ≢ Linked c → IsRun f rank c bound k h → IsRun f (lifted rank j) c (suc bound) k h
run_lifted f rank j c bound zero h apart run = tt
run_lifted f rank j c bound (suc k) h apart run =
    let e : lifted rank j h ≡ suc (rank h) = lifted_elsewhere rank j h (λ here. apart (rw here at run.0)) in
    rw e (run.0, (let lt : rank h < bound = run.1 in omega arith), run_lifted f rank j c (rank h) k (f h).next apart run.2)

-- a run with j linked after its last
run_longer : (f g : ℕ → NodeRecord) (j : ℕ) → IsChanged f g j → (rank : ℕ → ℕ) (c bound k h : ℕ) → (f j).used ≢ Linked c → (g j).used ≡ Linked c → IsRun f rank c bound k h → follow f k h ≡ j
    → IsRun g (lifted rank j) c (suc bound) (suc k) h
run_longer f g j changed rank c bound zero h apart linked run end =
    let here : h ≡ j = end in
    let low : lifted rank j h ≡ 0 = ap (lifted rank j) here ∙ lifted_here rank j in
    (subst (λ i. (g i).used ≡ Linked c) (sym here) linked, omega (arith, low), tt)
run_longer f g j changed rank c bound (suc k) h apart linked run end =
    let differs : h ≢ j = (λ same. apart (rw same at run.0)) in
    let e : g h ≡ f h = changed.others h differs in
    let r : lifted rank j h ≡ suc (rank h) = lifted_elsewhere rank j h differs in
    rw (e, r) (run.0, (let lt : rank h < bound = run.1 in omega arith), run_longer f g j changed rank c (rank h) k (f h).next apart linked run.2 end)

-- the start: no node yet
pub filling_starts : (nodes : List NodeRecord) (rs : List ChainRecord) (free count most c : ℕ) (l : VersionLinks) → IsSound nodes rs free count most → record_at rs c ≡ chain.Used l → l.count ≡ 0
    → IsTrimming nodes rs free count most c 0 free
filling_starts nodes rs free count most c l sound used none =
    let z : (links_at rs c).count ≡ 0 = ap (λ (r : ChainRecord). (links_of r).count) used ∙ none in
    record {
      rank = sound.rank;
      top = sound.top;
      runs = sound.runs;
      low = 0;
      above = rw z tt;
      loose = tt;
      free_list = sound.free_list;
      prepared = sound.prepared;
      counted = omega (arith, sound.counted);
      bounded = sound.bounded;
    }

-- one free node more becomes the last
module _ (nodes : List NodeRecord) (rs : List ChainRecord) (free count most c n newest : ℕ) (filling : IsTrimming nodes rs free count most c n newest) (some : 0 < count) where
  count_is : count ≡ suc (count - 1)
  count_is = omega arith

  list : IsFreeList (node_at nodes) (suc (count - 1)) free
  list = rw count_is at filling.free_list

  pub fill_in_range : free < length nodes
  fill_in_range = elim (cases_lt free (length nodes)) [
    | inl lt ↦ lt
    | inr ge ↦ (let b : node_at nodes free ≡ blank = get_or-eq_default nodes blank ge in
        let p : blank.used ≡ Free (suc (count - 1)) = rw b at list.0 in
        let z : 0 ≡ suc (count - 1) = cc in omega arith)
  ]

  apart : (d : ℕ) → (node_at nodes free).used ≢ Linked d
  apart d = free_apart (node_at nodes free).used (suc (count - 1)) d list.0

  module _ (x : NodeRecord) (linked : x.used ≡ Linked c) where
    changed : IsChanged (node_at nodes) (node_at (set nodes free x)) free
    changed = changed-set nodes free x

    at_is : node_at (set nodes free x) free ≡ x
    at_is = get_or-set_same nodes free x blank fill_in_range

    prepared_same : map prepared_of (set nodes free x) ≡ map prepared_of nodes
    prepared_same = map-set_same prepared_of nodes free x blank (is_none-linked x c linked ∙ sym (is_none-free (node_at nodes free) (suc (count - 1)) list.0))

    pub fill_content : (cells : List Cell) (k : ℕ) → content (set nodes free x) rs k most cells ≡ content nodes rs k most cells
    fill_content cells k = parts_equal _ _ _ _ k most cells
        (chains_stay (node_at nodes) (node_at (set nodes free x)) rs
        (λ d. walk_stays (node_at nodes) (node_at (set nodes free x)) free changed filling.rank d filling.top (links_at rs d).count (links_at rs d).newest (apart d) (filling.runs d)))
        prepared_same

    module _ (end : follow (node_at nodes) n newest ≡ free) where
      stays : follow (node_at (set nodes free x)) n newest ≡ free
      stays = follow_stays (node_at nodes) (node_at (set nodes free x)) free changed filling.rank c filling.low n newest (apart c) filling.loose ∙ end

      pub fill_walk : walk (node_at (set nodes free x)) (n + 1) newest ≡ walk (node_at nodes) n newest ++ (version_of x) ∷ []
      fill_walk =
          let g = node_at (set nodes free x) in
          let w : walk g n newest ≡ walk (node_at nodes) n newest = walk_stays (node_at nodes) g free changed filling.rank c filling.low n newest (apart c) filling.loose in
          let v : (version_of (g (follow g n newest))) ≡ (version_of x) = ap (λ (i : ℕ). (version_of (g i))) stays ∙ ap (λ (y : NodeRecord). (version_of y)) at_is in
          rw (add-one, walk-snoc g n newest, w, v) refl

      pub fill_end : x.next ≡ (node_at nodes free).next → follow (node_at (set nodes free x)) (n + 1) newest ≡ (node_at nodes free).next
      fill_end next =
          let g = node_at (set nodes free x) in
          rw add-one (follow-snoc g n newest ∙ ap (λ (i : ℕ). (g i).next) stays ∙ ap (λ (y : NodeRecord). y.next) at_is ∙ next)

      pub fill_sound : (links_at rs c).count ≡ 0 → IsTrimming (set nodes free x) rs (node_at nodes free).next (count - 1) most c (n + 1) newest
      fill_sound none =
          let f = node_at nodes in
          let g = node_at (set nodes free x) in
          let rank : ℕ → ℕ = lifted filling.rank free in
          let is_linked : (g free).used ≡ Linked c = ap (λ (y : NodeRecord). y.used) at_is ∙ linked in
          let sums : sum_for one_if (map prepared_of (set nodes free x)) ≡ sum_for one_if (map prepared_of nodes) = ap (sum_for one_if) prepared_same in
          record {
            rank = rank;
            top = suc filling.top;
            runs = λ d. run_stays f g free changed rank d (suc filling.top) (links_at rs d).count (links_at rs d).newest (apart d)
                (run_lifted f filling.rank free d filling.top (links_at rs d).count (links_at rs d).newest (apart d) (filling.runs d));
            low = suc filling.low;
            above = rw none tt;
            loose = rw add-one (run_longer f g free changed filling.rank c filling.low n newest (apart c) is_linked filling.loose end);
            free_list = free_stays f g free changed (count - 1) (f free).next (λ m p. let q : Free (suc (count - 1)) ≡ Free m = sym list.0 ∙ p in let e : suc (count - 1) ≡ m = cc in omega arith) list.1;
            prepared = λ d. ap (sum_for (one_for d)) prepared_same ∙ filling.prepared d;
            counted = rw length-set (omega (arith, filling.counted, some));
            bounded = rw length-set filling.bounded;
          }

-- the end: they are the chain
pub filling_ends : (nodes : List NodeRecord) (rs : List ChainRecord) (free count most c n newest : ℕ) (cells : List Cell) (l : VersionLinks) (old : Content) (vs : List ArenaVersion) → record_at rs c ≡ chain.Used l
    → content nodes rs (count + n) most cells ≡ old → walk (node_at nodes) n newest ≡ vs
    → content nodes (set rs c (chain.Used (record { newest = newest; count = n; prepared = l.prepared }))) count most cells ≡ with_versions old c vs
filling_ends nodes rs free count most c n newest cells l old vs used same walked =
    let f = node_at nodes in
    let m : VersionLinks = record { newest = newest; count = n; prepared = l.prepared } in
    let chains : map (chain_of f) (set rs c (chain.Used m)) ≡ set (map (chain_of f) rs) c (Some vs) = map-set (chain_of f) rs c (chain.Used m) ∙ ap (λ (ws : List ArenaVersion). set (map (chain_of f) rs) c (Some ws)) walked in
    let long : length vs ≡ n = sym (ap length walked) ∙ length-walk f n newest in
    let less : count ≡ count + n - length vs = rw long (omega arith) in
    parts_equal _ (set (map (chain_of f) rs) c (Some vs)) _ (map prepared_of nodes) count most cells chains refl
    ∙ ap (λ (k : ℕ). of_parts (set (map (chain_of f) rs) c (Some vs)) (map prepared_of nodes) k most cells) less
    ∙ ap (λ (a : Content). with_versions a c vs) same

-- ---- a free node more

-- a node in no place is in no free list
free_stays-new : (f g : ℕ → NodeRecord) (j : ℕ) → IsChanged f g j → (f j).used ≡ Free 0 → (k h : ℕ) → IsFreeList f k h → IsFreeList g k h
free_stays-new f g j changed blank_there zero h free = tt
free_stays-new f g j changed blank_there (suc k) h free =
    let e : g h ≡ f h = changed.others h (λ same.
    let p : (f j).used ≡ Free (suc k) = rw same at free.0 in
    let q : Free 0 ≡ Free (suc k) = sym blank_there ∙ p in
    let z : 0 ≡ suc k = cc in omega arith) in
    rw e (free.0, free_stays-new f g j changed blank_there k (f h).next free.1)

module _ (nodes : List NodeRecord) (rs : List ChainRecord) (free count most : ℕ) (sound : IsSound nodes rs free count most) (x : NodeRecord) (is_free : x.used ≡ Free (count + 1)) where
  far : length nodes ≤ length nodes
  far = omega arith

  end_is : node_at nodes (length nodes) ≡ blank
  end_is = get_or-eq_default nodes blank far

  was_free : (node_at nodes (length nodes)).used ≡ Free 0
  was_free = ap (λ (n : NodeRecord). n.used) end_is

  added : IsChanged (node_at nodes) (node_at (nodes ++ x ∷ [])) (length nodes)
  added = changed-push nodes x

  pub free_node_content : (cells : List Cell) → content (nodes ++ x ∷ []) rs (count + 1) most cells ≡ with_free_node (content nodes rs count most cells)
  free_node_content cells = parts_equal _ _ _ _ (count + 1) most cells
      (maps_stay nodes rs free count most sound (node_at (nodes ++ x ∷ [])) (length nodes) added (λ d. free_apart (node_at nodes (length nodes)).used 0 d was_free))
      (map-append prepared_of nodes (x ∷ []) ∙ ap (λ (p : Option Prepared). map prepared_of nodes ++ p ∷ []) (is_none-free x (count + 1) is_free))

  pub free_node_sound : x.next ≡ free → length nodes < most → IsSound (nodes ++ x ∷ []) rs (length nodes) (count + 1) most
  free_node_sound next below =
      let f = node_at nodes in
      let g = node_at (nodes ++ x ∷ []) in
      let none : prepared_of x ≡ None = is_none-free x (count + 1) is_free in
      let at_end : g (length nodes) ≡ x = get_or-append_seam nodes x [] blank in
      let s : sum_for one_if (map prepared_of (nodes ++ x ∷ [])) ≡ sum_for one_if (map prepared_of nodes) + one_if (prepared_of x) = sum-one_more one_if nodes x in
      let z : one_if (prepared_of x) ≡ 0 = ap one_if none in
      record {
        rank = sound.rank;
        top = sound.top;
        runs = λ d. run_stays f g (length nodes) added sound.rank d sound.top (links_at rs d).count (links_at rs d).newest (free_apart (f (length nodes)).used 0 d was_free) (sound.runs d);
        free_list = rw (add-one, at_end) (is_free ∙ ap Free (add-one count), rw next (free_stays-new f g (length nodes) added was_free count free sound.free_list));
        prepared = λ d. (let e : prepared_for d (map prepared_of (nodes ++ x ∷ [])) ≡ prepared_for d (map prepared_of nodes) + one_for d (prepared_of x) = sum-one_more (one_for d) nodes x in
            let y : one_for d (prepared_of x) ≡ 0 = ap (one_for d) none in
            let p : prepared_for d (map prepared_of nodes) ≡ (links_at rs d).prepared = sound.prepared d in omega arith);
        counted = omega (arith, sound.counted, length-append nodes (x ∷ []));
        bounded = omega (arith, length-append nodes (x ∷ []));
      }
