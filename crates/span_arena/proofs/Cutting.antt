-- A chain that is cut in two.
use Rattle.std.proofs.Common.{◌≡◌, ℕ, zero, suc, ◌+◌, ◌-◌, ◌<◌, ◌≤◌, List, [], ◌∷◌, ◌++◌, refl, sym, ◌∙◌, ap, arith, length, map, Option, Some, None, set, add-one, sub-one, subst, inl, inr, append_assoc}
use Rattle.std.specs.Prelude.{Bool, nat_le, true, false}
use Rattle.std.proofs.lemmas.List.{get_or-set_same, length-set, map-set, append-nil}
use Rattle.std.proofs.lemmas.Bool.{cases_eq}
use Rattle.std.proofs.lemmas.Bool.Decides.{nat_tests}
use Rattle.std.proofs.Math.Seq.{map-set_same}
use Rattle.span_arena.specs.declared.version.ArenaVersion.{ArenaVersion}
use Rattle.span_arena.specs.declared.record.NodeRecord.{NodeRecord}
use Rattle.span_arena.specs.declared.record.ChainRecord.{ChainRecord}
use Rattle.span_arena.specs.declared.record.ChainRecord.TheVariants as chain
use Rattle.span_arena.specs.declared.cell.Cell.{Cell}
use Rattle.span_arena.specs.declared.record.VersionLinks.{VersionLinks}
use Rattle.span_arena.specs.declared.record.NodeUse.TheVariants.{Free, Linked}
use Rattle.span_arena.specs.Content.{versions, versions_in, kept_upto, kept_by, kept_at, with_kept, sum_for, one_if, one_for, prepared_for}
use Rattle.span_arena.specs.Images.{image_of}
use Rattle.span_arena.specs.Runs.{walk, follow, IsRun, IsSomeRun, IsAbove, IsSound, IsCut, IsTrimming, node_at, blank, chain_of, record_at, links_at, links_of, prepared_of, content, total, version_of}
use Rattle.span_arena.proofs.Frames.{IsChanged, run_stays, walk_stays, free_stays, changed-set, linked_apart}
use Rattle.span_arena.proofs.Counts.{length-walk, total-set}
use Rattle.span_arena.proofs.Chains.{used_in_range, links_were, links_here, links_elsewhere, chain_at, chains_stay}
use Rattle.span_arena.proofs.Moves.{is_none-free, is_none-linked}
use Rattle.span_arena.proofs.Contents.{of_parts, parts_equal}
use Rattle.span_arena.proofs.Walking.{in_range-linked}

-- the front of a run, and what is left, whose ranks lie below the front's
pub record IsSplit (f : ℕ → NodeRecord) (rank : ℕ → ℕ) (c bound k r h : ℕ) : Type 0 where
  pub front : IsRun f rank c bound k h
  pub low : ℕ
  pub lower : low ≤ bound
  pub above : IsAbove f rank low k h
  pub rest : IsRun f rank c low r (follow f k h)

pub split : (f : ℕ → NodeRecord) (rank : ℕ → ℕ) (c bound k r h : ℕ) → IsRun f rank c bound (k + r) h → IsSplit f rank c bound k r h
split f rank c bound zero r h run = record { front = tt; low = bound; lower = omega arith; above = tt; rest = subst (λ n. IsRun f rank c bound n h) {x = zero + r} {y = r} (omega arith) run }
split f rank c bound (suc k) r h run =
    let run2 : IsRun f rank c bound (suc (k + r)) h = subst (λ n. IsRun f rank c bound n h) {x = suc k + r} {y = suc (k + r)} (omega arith) run in
    let again : IsSplit f rank c (rank h) k r (f h).next = split f rank c (rank h) k r (f h).next run2.2 in
    record { front = (run2.0, run2.1, again.front); low = again.low; lower = omega (arith, again.lower, run2.1); above = (again.lower, again.above); rest = again.rest }

pub walk-snoc : (f : ℕ → NodeRecord) (k h : ℕ) → walk f (suc k) h ≡ walk f k h ++ (version_of (f (follow f k h))) ∷ []
walk-snoc f zero h = refl
walk-snoc f (suc k) h = ap (λ vs. (version_of (f h)) ∷ vs) (walk-snoc f k (f h).next)

pub follow-snoc : (f : ℕ → NodeRecord) (k h : ℕ) → follow f (suc k) h ≡ (f (follow f k h)).next
follow-snoc f zero h = refl
follow-snoc f (suc k) h = follow-snoc f k (f h).next

-- a version with an image is kept at the horizon, and a deletion is not
kept_some : (v : ArenaVersion) (has : Bool) (bytes : List ℕ) → has ≡ true → kept_at v (image_of has bytes) ≡ v ∷ []
kept_some v has bytes h = rw h refl

kept_none : (v : ArenaVersion) (has : Bool) (bytes : List ℕ) → has ≡ false → kept_at v (image_of has bytes) ≡ []
kept_none v has bytes h = rw h refl

module _ (nodes : List NodeRecord) (h count s : ℕ) (on : IsSomeRun (node_at nodes) count h) (kept at : ℕ) (lt : kept < count) (here : at ≡ follow (node_at nodes) kept h) where
  parts : IsSplit (node_at nodes) on.rank on.chain on.bound kept (suc (count - (kept + 1))) h
  parts = split (node_at nodes) on.rank on.chain on.bound kept (suc (count - (kept + 1))) h (let e : count ≡ kept + suc (count - (kept + 1)) = omega arith in subst (λ n. IsRun (node_at nodes) on.rank on.chain on.bound n h) {x = count} {y = kept + suc (count - (kept + 1))} e on.run)

  pub cut_in_range : at < length nodes
  cut_in_range = in_range-linked nodes at on.chain (rw here (parts.rest.0))

  left_is : count - kept ≡ suc (count - (kept + 1))
  left_is = omega arith

  pub cut_here : follow (node_at nodes) (kept + 1) h ≡ (node_at nodes at).next
  cut_here = rw (add-one, follow-snoc (node_at nodes) kept h, ← here) refl

  front_more : walk (node_at nodes) (kept + 1) h ≡ walk (node_at nodes) kept h ++ (version_of (node_at nodes at)) ∷ []
  front_more = rw (add-one, walk-snoc (node_at nodes) kept h, ← here) refl

  module _ (same : kept_upto s (walk (node_at nodes) count h) ≡ walk (node_at nodes) kept h ++ kept_upto s (walk (node_at nodes) (count - kept) at)) where
    same_next : kept_upto s (walk (node_at nodes) count h) ≡ walk (node_at nodes) kept h ++ kept_upto s (walk (node_at nodes) (suc (count - (kept + 1))) at)
    same_next = rw left_is at same

    pub cut_more : s < (version_of (node_at nodes at)).timestamp → kept_upto s (walk (node_at nodes) count h) ≡ walk (node_at nodes) (kept + 1) h ++ kept_upto s (walk (node_at nodes) (count - (kept + 1)) (node_at nodes at).next)
    cut_more above =
        let t : nat_le (version_of (node_at nodes at)).timestamp s ≡ false = grind (arith, nat_tests) in
        let e : kept_upto s (walk (node_at nodes) (suc (count - (kept + 1))) at) ≡ (version_of (node_at nodes at)) ∷ kept_upto s (walk (node_at nodes) (count - (kept + 1)) (node_at nodes at).next) = rw t refl in
        same_next ∙ ap (λ (vs : List ArenaVersion). walk (node_at nodes) kept h ++ vs) e ∙ rw (front_more, append_assoc) refl

    -- an image is kept
    pub cut_after : (version_of (node_at nodes at)).timestamp ≤ s → (node_at nodes at).has_image ≡ true → walk (node_at nodes) (kept + 1) h ≡ kept_upto s (walk (node_at nodes) count h)
    cut_after le some =
        let t : nat_le (version_of (node_at nodes at)).timestamp s ≡ true = grind (arith, nat_tests) in
        let e : kept_upto s (walk (node_at nodes) (suc (count - (kept + 1))) at) ≡ (version_of (node_at nodes at)) ∷ [] = rw t (kept_some (version_of (node_at nodes at)) (node_at nodes at).has_image (node_at nodes at).image some) in
        front_more ∙ sym (same_next ∙ ap (λ (vs : List ArenaVersion). walk (node_at nodes) kept h ++ vs) e)

    -- a deletion is not
    pub cut_before : (version_of (node_at nodes at)).timestamp ≤ s → (node_at nodes at).has_image ≡ false → walk (node_at nodes) kept h ≡ kept_upto s (walk (node_at nodes) count h)
    cut_before le none =
        let t : nat_le (version_of (node_at nodes at)).timestamp s ≡ true = grind (arith, nat_tests) in
        let e : kept_upto s (walk (node_at nodes) (suc (count - (kept + 1))) at) ≡ [] = rw t (kept_none (version_of (node_at nodes at)) (node_at nodes at).has_image (node_at nodes at).image none) in
        sym (same_next ∙ ap (λ (vs : List ArenaVersion). walk (node_at nodes) kept h ++ vs) e ∙ append-nil (walk (node_at nodes) kept h))

-- a run whose ranks are below that of j stays
module _ (f g : ℕ → NodeRecord) (rank : ℕ → ℕ) (j : ℕ) (changed : IsChanged f g j) where
  pub below_stays : (c bound k h : ℕ) → bound ≤ rank j → IsRun f rank c bound k h → IsRun g rank c bound k h
  below_stays c bound zero h le run = tt
  below_stays c bound (suc k) h le run =
      let e : g h ≡ f h = changed.others h (λ same. let s : rank h ≡ rank j = ap rank same in let lt : rank h < bound = run.1 in omega arith) in
      rw e (run.0, run.1, below_stays c (rank h) k (f h).next (let lt : rank h < bound = run.1 in omega arith) run.2)

  -- so does one whose ranks are above
  pub above_stays : (c bound low k h : ℕ) → rank j < low → IsAbove f rank low k h → IsRun f rank c bound k h → IsRun g rank c bound k h × IsAbove g rank low k h × (walk g k h ≡ walk f k h)
  above_stays c bound low zero h lt above run = (tt, tt, refl)
  above_stays c bound low (suc k) h lt above run =
      let e : g h ≡ f h = changed.others h (λ same. let s : rank h ≡ rank j = ap rank same in let le : low ≤ rank h = above.0 in omega arith) in
      let again = above_stays c (rank h) low k (f h).next lt above.1 run.2 in
      (rw e (run.0, run.1, again.0), rw e (above.0, again.1), rw e (ap (λ vs. (version_of (f h)) ∷ vs) again.2))

above_kept : (f g : ℕ → NodeRecord) (rank : ℕ → ℕ) (j : ℕ) → IsChanged f g j → (low lower k h : ℕ) → rank j < low → lower ≤ low → IsAbove f rank low k h → IsAbove g rank lower k h
above_kept f g rank j changed low lower zero h lt le above = tt
above_kept f g rank j changed low lower (suc k) h lt le above =
    let e : g h ≡ f h = changed.others h (λ same. let s : rank h ≡ rank j = ap rank same in let m : low ≤ rank h = above.0 in omega arith) in
    let m : low ≤ rank h = above.0 in
    rw e (omega arith, above_kept f g rank j changed low lower k (f h).next lt le above.1)

-- the start: the front stays, and what is left is loose
pub trimming_starts : (nodes : List NodeRecord) (rs : List ChainRecord) (free count most : ℕ) (cells : List Cell) (c : ℕ) (l : VersionLinks) (s : Option ℕ) (kept at : ℕ) → IsSound nodes rs free count most → record_at rs c ≡ chain.Used l
    → IsCut (node_at nodes) l.newest l.count s kept at → record {
      sound : IsTrimming nodes (set rs c (chain.Used (record { newest = l.newest; count = kept; prepared = l.prepared }))) free count most c (l.count - kept) at;
      same : content nodes (set rs c (chain.Used (record { newest = l.newest; count = kept; prepared = l.prepared }))) (count + (l.count - kept)) most cells
          ≡ with_kept (content nodes rs count most cells) c (kept_by s (versions (content nodes rs count most cells) c));
    }
trimming_starts nodes rs free count most cells c l s kept at sound used is_cut =
    let f = node_at nodes in
    let m : VersionLinks = record { newest = l.newest; count = kept; prepared = l.prepared } in
    let lt : c < length rs = used_in_range rs c l used in
    let run : IsRun f sound.rank c sound.top l.count l.newest = rw (links_were rs c l m used) at (sound.runs c) in
    let within : kept ≤ l.count = is_cut.within in
    let whole : l.count ≡ kept + (l.count - kept) = omega arith in
    let parts : IsSplit f sound.rank c sound.top kept (l.count - kept) l.newest = split f sound.rank c sound.top kept (l.count - kept) l.newest (subst (λ n. IsRun f sound.rank c sound.top n l.newest) {x = l.count} {y = kept + (l.count - kept)} whole run) in
    let n : (links_at rs c).count ≡ l.count = ap (λ (r : ChainRecord). (links_of r).count) used in
    let t : total (set rs c (chain.Used m)) + (links_at rs c).count ≡ total rs + kept = total-set rs c (chain.Used m) lt in
    let v : versions (content nodes rs count most cells) c ≡ walk f l.count l.newest = ap versions_in (chain_at f rs c l used) in
    let vs : List ArenaVersion = kept_by s (versions (content nodes rs count most cells) c) in
    let w : walk f kept l.newest ≡ vs = is_cut.same ∙ ap (kept_by s) (sym v) in
    let long : length (versions (content nodes rs count most cells) c) ≡ l.count = ap length v ∙ length-walk f l.count l.newest in
    let short : length vs ≡ kept = sym (ap length w) ∙ length-walk f kept l.newest in
    let freed : count + (l.count - kept) ≡ count + (length (versions (content nodes rs count most cells) c) - length vs) = rw (long, short) refl in
    let chains : map (chain_of f) (set rs c (chain.Used m)) ≡ set (map (chain_of f) rs) c (Some vs) = map-set (chain_of f) rs c (chain.Used m) ∙ ap (set (map (chain_of f) rs) c) (ap Some w) in
    record {
      sound = record {
        rank = sound.rank;
        top = sound.top;
        runs = λ d. elim (cases_eq d c) [
          | inl same ↦ rw (same, links_here rs c l m used) parts.front
          | inr differs ↦ rw (links_elsewhere rs c l m used d differs) (sound.runs d)
        ];
        low = parts.low;
        above = rw (links_here rs c l m used) parts.above;
        loose = rw is_cut.here parts.rest;
        free_list = sound.free_list;
        prepared = λ d. elim (cases_eq d c) [
          | inl same ↦ (let e : prepared_for c (map prepared_of nodes) ≡ l.prepared = sound.prepared c ∙ ap (λ (r : ChainRecord). (links_of r).prepared) used in
              rw (same, links_here rs c l m used) e)
          | inr differs ↦ rw (links_elsewhere rs c l m used d differs) (sound.prepared d)
        ];
        counted = omega (arith, sound.counted);
        bounded = sound.bounded;
      };
      same = parts_equal _ (set (map (chain_of f) rs) c (Some vs)) _ (map prepared_of nodes) (count + (l.count - kept)) most cells chains refl
          ∙ ap (λ (n : ℕ). of_parts (set (map (chain_of f) rs) c (Some vs)) (map prepared_of nodes) n most cells) freed;
    }

-- the end: nothing is loose
pub trimming_ends : (nodes : List NodeRecord) (rs : List ChainRecord) (free count most c left at : ℕ) → IsTrimming nodes rs free count most c left at → left ≡ 0 → IsSound nodes rs free count most
trimming_ends nodes rs free count most c left at trimming none = record {
  rank = trimming.rank;
  top = trimming.top;
  runs = trimming.runs;
  free_list = trimming.free_list;
  prepared = trimming.prepared;
  counted = omega (arith, trimming.counted);
  bounded = trimming.bounded;
}

-- the first of a run, and the others
first_of : (f : ℕ → NodeRecord) (rank : ℕ → ℕ) (c bound k h : ℕ) → 0 < k → IsRun f rank c bound k h → ((f h).used ≡ Linked c) × (rank h < bound) × IsRun f rank c (rank h) (k - 1) (f h).next
first_of f rank c bound zero h some run = absurd (omega arith)
first_of f rank c bound (suc k) h some run = (run.0, run.1, rw sub-one run.2)

-- one more node is freed
module _ (nodes : List NodeRecord) (rs : List ChainRecord) (free count most c left at : ℕ) (trimming : IsTrimming nodes rs free count most c left at) (some : 0 < left) where
  front : ((node_at nodes at).used ≡ Linked c) × (trimming.rank at < trimming.low) × IsRun (node_at nodes) trimming.rank c (trimming.rank at) (left - 1) (node_at nodes at).next
  front = first_of (node_at nodes) trimming.rank c trimming.low left at some trimming.loose

  pub trim_in_range : at < length nodes
  trim_in_range = in_range-linked nodes at c front.0

  module _ (x : NodeRecord) where
    changed : IsChanged (node_at nodes) (node_at (set nodes at x)) at
    changed = changed-set nodes at x

    chain_stays : (d : ℕ) → IsRun (node_at (set nodes at x)) trimming.rank d trimming.top (links_at rs d).count (links_at rs d).newest × (walk (node_at (set nodes at x)) (links_at rs d).count (links_at rs d).newest ≡ walk (node_at nodes) (links_at rs d).count (links_at rs d).newest)
    chain_stays d = elim (cases_eq c d) [
      | inl same ↦ (let run : IsRun (node_at nodes) trimming.rank c trimming.top (links_at rs c).count (links_at rs c).newest = trimming.runs c in
          let r = above_stays (node_at nodes) (node_at (set nodes at x)) trimming.rank at changed c trimming.top trimming.low (links_at rs c).count (links_at rs c).newest front.1 trimming.above run in
          rw (← same) (r.0, r.2))
      | inr differs ↦ (
        run_stays (node_at nodes) (node_at (set nodes at x)) at changed trimming.rank d trimming.top (links_at rs d).count (links_at rs d).newest (linked_apart (node_at nodes at).used c d front.0 differs) (trimming.runs d),
        walk_stays (node_at nodes) (node_at (set nodes at x)) at changed trimming.rank d trimming.top (links_at rs d).count (links_at rs d).newest (linked_apart (node_at nodes at).used c d front.0 differs) (trimming.runs d),
      )
    ]

    at_is : node_at (set nodes at x) at ≡ x
    at_is = get_or-set_same nodes at x blank trim_in_range

    was_none : prepared_of (node_at nodes at) ≡ None
    was_none = is_none-linked (node_at nodes at) c front.0

    prepared_same : prepared_of x ≡ None → map prepared_of (set nodes at x) ≡ map prepared_of nodes
    prepared_same none = map-set_same prepared_of nodes at x blank (none ∙ sym was_none)

    pub trim_content : (cells : List Cell) (n : ℕ) → x.used ≡ Free n → (k : ℕ) → content (set nodes at x) rs k most cells ≡ content nodes rs k most cells
    trim_content cells n is_free k = parts_equal _ _ _ _ k most cells
        (chains_stay (node_at nodes) (node_at (set nodes at x)) rs (λ d. (chain_stays d).1))
        (prepared_same (is_none-free x n is_free))

    pub trim_sound : x.used ≡ Free (count + 1) → x.next ≡ free → IsTrimming (set nodes at x) rs at (count + 1) most c (left - 1) (node_at nodes at).next
    trim_sound is_free next =
        let stay : map prepared_of (set nodes at x) ≡ map prepared_of nodes = prepared_same (is_none-free x (count + 1) is_free) in
        let sums : sum_for one_if (map prepared_of (set nodes at x)) ≡ sum_for one_if (map prepared_of nodes) = ap (sum_for one_if) stay in
        record {
          rank = trimming.rank;
          top = trimming.top;
          runs = λ d. (chain_stays d).0;
          low = trimming.rank at;
          above = above_kept (node_at nodes) (node_at (set nodes at x)) trimming.rank at changed trimming.low (trimming.rank at) (links_at rs c).count (links_at rs c).newest front.1 (let lt : trimming.rank at < trimming.low = front.1 in omega arith) trimming.above;
          loose = below_stays (node_at nodes) (node_at (set nodes at x)) trimming.rank at changed c (trimming.rank at) (left - 1) (node_at nodes at).next (omega arith) front.2;
          free_list = rw (add-one, at_is) (is_free ∙ ap Free (add-one count), rw next (free_stays (node_at nodes) (node_at (set nodes at x)) at changed count free (λ m p. absurd (let q : Linked c ≡ Free m = sym front.0 ∙ p in cc)) trimming.free_list));
          prepared = λ d. ap (sum_for (one_for d)) stay ∙ trimming.prepared d;
          counted = rw length-set (omega (arith, trimming.counted));
          bounded = rw length-set trimming.bounded;
        }
