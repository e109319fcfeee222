-- New free numbers, in the order in which they are handed out.
use Rattle.std.proofs.Common.{◌≡◌, ◌⊎◌, ℕ, zero, suc, ◌+◌, ◌-◌, ◌<◌, ◌≤◌, List, [], ◌∷◌, ◌++◌, refl, sym, ◌∙◌, ap, arith, length, map, Option, None, get_or, replicate, inl, inr, length-append}
use Rattle.std.proofs.Math.ListN.{get_or-eq_default}
use Rattle.std.proofs.lemmas.List.{get_or_append_left, get_or-append-add, get_or-map, length-map, length-replicate, map-append}
use Rattle.std.proofs.lemmas.Bool.{cases_lt}
use Rattle.span_arena.specs.declared.cell.Cell.{Cell}
use Rattle.span_arena.specs.declared.record.NodeRecord.{NodeRecord}
use Rattle.span_arena.specs.declared.record.NodeUse.TheVariants.{Free, Linked}
use Rattle.span_arena.specs.declared.record.ChainRecord.{ChainRecord}
use Rattle.span_arena.specs.declared.record.ChainRecord.TheVariants as chain
use Rattle.span_arena.specs.Cells as cells
use Rattle.span_arena.specs.Content.{Content, Prepared, sum_for, one_if, one_for, with_free_chains, with_free_nodes}
use Rattle.span_arena.specs.Order.{AreInTimeOrder}
use Rattle.span_arena.specs.FreeOrders.{free_chain, free_node, number_at, AreFreeChains, AreFreeNodes, AreInverse}
use Rattle.span_arena.specs.Runs.{walk, IsRun, IsFreeList, IsSound, IsSpare, AreSpare, node_at, blank, no_record, no_links, record_at, links_at, links_of, chain_of, prepared_of, content, total, used_count, version_of}
use Rattle.span_arena.proofs.Blanks.{read_more}
use Rattle.span_arena.proofs.Chains.{chains_stay}
use Rattle.span_arena.proofs.Contents.{parts_equal}
use Rattle.span_arena.proofs.Spares.{in_range-free, sound_chains}

-- ---- chains

spare_longer : (rs ms : List ChainRecord) (h k : ℕ) → IsSpare rs h k → IsSpare (rs ++ ms) h k
spare_longer rs ms h zero spare = tt
spare_longer rs ms h (suc k) spare =
    (spare.0, get_or_append_left rs ms no_record h (in_range-free rs h spare.0 k spare.1) ∙ spare.1, spare_longer rs ms spare.0 k spare.2)

module _ (base : ℕ) (numbers places : List ℕ) (last count : ℕ) (inverse : AreInverse numbers places) where
  number_in : (i : ℕ) → i < length numbers → number_at base numbers last i ≡ base + get_or numbers i 0
  number_in i lt = get_or-map (λ (n : ℕ). base + n) numbers i 0 last lt

  number_end : (i : ℕ) → length numbers ≤ i → number_at base numbers last i ≡ last
  number_end i le = let far : length (map (λ (n : ℕ). base + n) numbers) ≤ i = omega (arith, length-map numbers (λ (n : ℕ). base + n)) in
      get_or-eq_default (map (λ (n : ℕ). base + n) numbers) last far

  new_chains : List ChainRecord
  new_chains = map (free_chain base numbers last count) places

  record_new : (rs : List ChainRecord) → base ≡ length rs → (i : ℕ) → i < length numbers → record_at (rs ++ new_chains) (base + get_or numbers i 0) ≡ free_chain base numbers last count i
  unfolding new_chains
  record_new rs at i lt =
      ap (λ (b : ℕ). record_at (rs ++ new_chains) (b + get_or numbers i 0)) at
      ∙ get_or-append-add rs new_chains (get_or numbers i 0) no_record
      ∙ get_or-map (free_chain base numbers last count) places (get_or numbers i 0) 0 no_record (inverse.each i lt).within
      ∙ ap (free_chain base numbers last count) (inverse.each i lt).is

  new_spare : (rs : List ChainRecord) → base ≡ length rs → IsSpare rs last count → (k i : ℕ) → i + k ≡ length numbers → IsSpare (rs ++ new_chains) (number_at base numbers last i) (count + k)
  new_spare rs at spare zero i e =
      let z : count + 0 ≡ count = omega arith in
      rw (number_end i (omega (arith, e)), z) (spare_longer rs new_chains last count spare)
  new_spare rs at spare (suc k) i e =
      let lt : i < length numbers = omega (arith, e) in
      let n : count + (length numbers - i) ≡ suc (count + k) = omega (arith, e) in
      let c : count + suc k ≡ suc (count + k) = omega arith in
      rw (number_in i lt, c) (
        number_at base numbers last (i + 1),
        record_new rs at i lt ∙ ap (chain.Free (number_at base numbers last (i + 1))) n,
        new_spare rs at spare k (i + 1) (omega (arith, e)),
      )

  none_used : (ps : List ℕ) → used_count (map (free_chain base numbers last count) ps) ≡ 0
  none_used [] = refl
  none_used (p ∷ ps) = omega (arith, none_used ps)

  no_versions : (ps : List ℕ) → total (map (free_chain base numbers last count) ps) ≡ 0
  no_versions [] = refl
  no_versions (p ∷ ps) = omega (arith, no_versions ps)

  free_links : (ps : List ℕ) (d : ℕ) → links_of (get_or (map (free_chain base numbers last count) ps) d no_record) ≡ no_links
  free_links [] d = refl
  free_links (p ∷ ps) zero = refl
  free_links (p ∷ ps) (suc d) = free_links ps d

  no_chains : (f : ℕ → NodeRecord) (ps : List ℕ) → map (chain_of f) (map (free_chain base numbers last count) ps) ≡ replicate (length ps) None
  no_chains f [] = refl
  no_chains f (p ∷ ps) = ap (λ l. None ∷ l) (no_chains f ps)

used_append : (rs ms : List ChainRecord) → used_count (rs ++ ms) ≡ used_count rs + used_count ms
used_append [] ms = omega arith
used_append (r ∷ rs) ms = omega (arith, used_append rs ms)

total_append : (rs ms : List ChainRecord) → total (rs ++ ms) ≡ total rs + total ms
total_append [] ms = omega arith
total_append (r ∷ rs) ms = omega (arith, total_append rs ms)

-- the links of records that are read as those of a list at its end
links_append : (rs ms : List ChainRecord) → ((d : ℕ) → links_of (get_or ms d no_record) ≡ no_links) → (d : ℕ) → links_at (rs ++ ms) d ≡ links_at rs d
links_append [] ms none d = none d
links_append (r ∷ rs) ms none zero = refl
links_append (r ∷ rs) ms none (suc d) = links_append rs ms none d

module _ (rs : List ChainRecord) (numbers : List ℕ) (last count : ℕ) (ms : List ChainRecord) (new : AreFreeChains (length rs) numbers last count ms) where
  pub spare_more : AreSpare rs last count → AreSpare (rs ++ ms) (number_at (length rs) numbers last 0) (count + length numbers)
  unfolding new_chains
  spare_more spare =
      rw new.are (record {
        list = new_spare (length rs) numbers new.places last count new.inverse rs refl spare.list (length numbers) 0 (omega arith);
        counted = omega (
          arith,
          spare.counted,
          used_append rs (map (free_chain (length rs) numbers last count) new.places),
          none_used (length rs) numbers new.places last count new.inverse new.places,
          length-append rs (map (free_chain (length rs) numbers last count) new.places),
          length-map new.places (free_chain (length rs) numbers last count),
          new.inverse.long,
        );
      })

  pub sound_more : (nodes : List NodeRecord) (free free_count most : ℕ) (cs : List Cell) → IsSound nodes rs free free_count most → IsSound nodes (rs ++ ms) free free_count most
  sound_more nodes free free_count most cs sound =
      let same : (d : ℕ) → links_at (rs ++ ms) d ≡ links_at rs d = links_append rs ms (rw new.are (free_links (length rs) numbers new.places last count new.inverse new.places)) in
      let sums : total (rs ++ ms) ≡ total rs = rw new.are (omega (arith, total_append rs (map (free_chain (length rs) numbers last count) new.places), no_versions (length rs) numbers new.places last count new.inverse new.places)) in
      sound_chains nodes rs free free_count most cs sound (rs ++ ms)
      (λ d. rw (same d) (sound.runs d))
      (λ d. rw (same d) refl)
      sums

  pub content_more : (nodes : List NodeRecord) (free_count most : ℕ) (cs ds : List Cell) → ds ≡ cs ++ replicate (length numbers) cells.blank
      → content nodes (rs ++ ms) free_count most ds ≡ with_free_chains (length numbers) (content nodes rs free_count most cs)
  content_more nodes free_count most cs ds more = rw (more, new.are) (
      parts_equal _ _ _ _ free_count most (cs ++ replicate (length numbers) cells.blank)
      (map-append (chain_of (node_at nodes)) rs (map (free_chain (length rs) numbers last count) new.places)
      ∙ ap (λ l. map (chain_of (node_at nodes)) rs ++ l) (no_chains (length rs) numbers new.places last count new.inverse (node_at nodes) new.places ∙ ap (λ (n : ℕ). replicate n None) new.inverse.long))
      refl)

pub falling_more : (n : ℕ) (c : Content) → AreInTimeOrder c → AreInTimeOrder (with_free_chains n c)
falling_more n c all d = rw (read_more c.chains n d None) (all d)

pub cells_also : (cs ds : List Cell) (rs ms : List ChainRecord) (numbers : List ℕ) (last count : ℕ) → AreFreeChains (length rs) numbers last count ms → ds ≡ cs ++ replicate (length numbers) cells.blank
    → length cs ≡ length rs → length ds ≡ length (rs ++ ms)
cells_also cs ds rs ms numbers last count new more same = rw (more, new.are)
    (omega (arith, same, length-append cs (replicate (length numbers) cells.blank), length-replicate (length numbers) cells.blank, length-append rs (map (free_chain (length rs) numbers last count) new.places), length-map new.places (free_chain (length rs) numbers last count), new.inverse.long))

-- ---- nodes

-- g is f but where f has nodes that are in no list
module _ (f g : ℕ → NodeRecord) (filled : (i : ℕ) → ((f i).used ≡ Free 0) ⊎ (g i ≡ f i)) where
  run_filled : (rank : ℕ → ℕ) (c bound k h : ℕ) → IsRun f rank c bound k h → IsRun g rank c bound k h
  run_filled rank c bound zero h run = tt
  run_filled rank c bound (suc k) h run = elim (filled h) [
    | inl free ↦ absurd (let q : Free 0 ≡ Linked c = sym free ∙ run.0 in cc)
    | inr e ↦ rw e (run.0, run.1, run_filled rank c (rank h) k (f h).next run.2)
  ]

  walk_filled : (rank : ℕ → ℕ) (c bound k h : ℕ) → IsRun f rank c bound k h → walk g k h ≡ walk f k h
  walk_filled rank c bound zero h run = refl
  walk_filled rank c bound (suc k) h run = elim (filled h) [
    | inl free ↦ absurd (let q : Free 0 ≡ Linked c = sym free ∙ run.0 in cc)
    | inr e ↦ rw e (ap (λ vs. version_of (f h) ∷ vs) (walk_filled rank c (rank h) k (f h).next run.2))
  ]

  free_filled : (k h : ℕ) → IsFreeList f k h → IsFreeList g k h
  free_filled zero h free = tt
  free_filled (suc k) h free = elim (filled h) [
    | inl none ↦ absurd (let q : Free 0 ≡ Free (suc k) = sym none ∙ free.0 in let z : 0 ≡ suc k = cc in omega arith)
    | inr e ↦ rw e (free.0, free_filled k (f h).next free.1)
  ]

nodes_filled : (nodes ms : List NodeRecord) (i : ℕ) → ((node_at nodes i).used ≡ Free 0) ⊎ (node_at (nodes ++ ms) i ≡ node_at nodes i)
nodes_filled nodes ms i = elim (cases_lt i (length nodes)) [
  | inl lt ↦ inr (get_or_append_left nodes ms blank i lt)
  | inr ge ↦ inl (ap (λ (n : NodeRecord). n.used) (get_or-eq_default nodes blank ge))
]

pub sum_none : (w : Option Prepared → ℕ) (ps : List (Option Prepared)) (n : ℕ) → w None ≡ 0 → sum_for w (ps ++ replicate n None) ≡ sum_for w ps
sum_none w [] zero none = refl
sum_none w [] (suc n) none = omega (arith, none, sum_none w [] n none)
sum_none w (p ∷ ps) n none = omega (arith, sum_none w ps n none)

module _ (base : ℕ) (numbers places : List ℕ) (last count : ℕ) (inverse : AreInverse numbers places) where
  new_nodes : List NodeRecord
  new_nodes = map (free_node base numbers last count) places

  node_new : (nodes : List NodeRecord) → base ≡ length nodes → (i : ℕ) → i < length numbers → node_at (nodes ++ new_nodes) (base + get_or numbers i 0) ≡ free_node base numbers last count i
  unfolding new_nodes
  node_new nodes at i lt =
      ap (λ (b : ℕ). node_at (nodes ++ new_nodes) (b + get_or numbers i 0)) at
      ∙ get_or-append-add nodes new_nodes (get_or numbers i 0) blank
      ∙ get_or-map (free_node base numbers last count) places (get_or numbers i 0) 0 blank (inverse.each i lt).within
      ∙ ap (free_node base numbers last count) (inverse.each i lt).is

  new_free : (nodes : List NodeRecord) → base ≡ length nodes → IsFreeList (node_at nodes) count last → (k i : ℕ) → i + k ≡ length numbers → IsFreeList (node_at (nodes ++ new_nodes)) (count + k) (number_at base numbers last i)
  new_free nodes at free zero i e =
      let z : count + 0 ≡ count = omega arith in
      rw (number_end base numbers places last count inverse i (omega (arith, e)), z) (free_filled (node_at nodes) (node_at (nodes ++ new_nodes)) (nodes_filled nodes new_nodes) count last free)
  new_free nodes at free (suc k) i e =
      let lt : i < length numbers = omega (arith, e) in
      let n : count + (length numbers - i) ≡ suc (count + k) = omega (arith, e) in
      let c : count + suc k ≡ suc (count + k) = omega arith in
      rw (number_in base numbers places last count inverse i lt, c, node_new nodes at i lt) (ap Free n, new_free nodes at free k (i + 1) (omega (arith, e)))

  none_prepared : (ps : List ℕ) → map prepared_of (map (free_node base numbers last count) ps) ≡ replicate (length ps) None
  none_prepared [] = refl
  none_prepared (p ∷ ps) = ap (λ l. None ∷ l) (none_prepared ps)

module _ (nodes : List NodeRecord) (numbers : List ℕ) (last count : ℕ) (ms : List NodeRecord) (new : AreFreeNodes (length nodes) numbers last count ms) where
  prepared_more : map prepared_of (nodes ++ ms) ≡ map prepared_of nodes ++ replicate (length numbers) None
  prepared_more = rw new.are (map-append prepared_of nodes (map (free_node (length nodes) numbers last count) new.places)
      ∙ ap (λ l. map prepared_of nodes ++ l) (none_prepared (length nodes) numbers new.places last count new.inverse new.places ∙ ap (λ (n : ℕ). replicate n None) new.inverse.long))

  long_more : length (nodes ++ ms) ≡ length nodes + length numbers
  long_more = rw new.are (omega (arith, length-append nodes (map (free_node (length nodes) numbers last count) new.places), length-map new.places (free_node (length nodes) numbers last count), new.inverse.long))

  pub sound_nodes : (rs : List ChainRecord) (most : ℕ) → length nodes + length numbers ≤ most → IsSound nodes rs last count most → IsSound (nodes ++ ms) rs (number_at (length nodes) numbers last 0) (count + length numbers) most
  unfolding new_nodes
  sound_nodes rs most fits sound = record {
    rank = sound.rank;
    top = sound.top;
    runs = λ c. run_filled (node_at nodes) (node_at (nodes ++ ms)) (nodes_filled nodes ms) sound.rank c sound.top (links_at rs c).count (links_at rs c).newest (sound.runs c);
    free_list = rw new.are (new_free (length nodes) numbers new.places last count new.inverse nodes refl sound.free_list (length numbers) 0 (omega arith));
    prepared = λ c. rw prepared_more (sum_none (one_for c) (map prepared_of nodes) (length numbers) refl ∙ sound.prepared c);
    counted = rw prepared_more (omega (arith, sound.counted, long_more, sum_none one_if (map prepared_of nodes) (length numbers) refl));
    bounded = omega (arith, long_more, fits);
  }

  pub content_nodes : (rs : List ChainRecord) (most : ℕ) (cs : List Cell) (free : ℕ) → IsSound nodes rs free count most → content (nodes ++ ms) rs (count + length numbers) most cs ≡ with_free_nodes (length numbers) (content nodes rs count most cs)
  content_nodes rs most cs free sound = parts_equal _ _ _ _ (count + length numbers) most cs
      (chains_stay (node_at nodes) (node_at (nodes ++ ms)) rs
      (λ c. walk_filled (node_at nodes) (node_at (nodes ++ ms)) (nodes_filled nodes ms) sound.rank c sound.top (links_at rs c).count (links_at rs c).newest (sound.runs c)))
      prepared_more
