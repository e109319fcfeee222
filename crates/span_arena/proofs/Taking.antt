-- The newest version taken out of a chain, and a chain linked again.
use Rattle.std.proofs.Common.{◌≡◌, ℕ, zero, suc, ◌+◌, ◌-◌, ◌<◌, ◌≤◌, List, ◌∷◌, refl, sym, ◌∙◌, ap, arith, length, map, Option, Some, None, set, sub-one, subst, inl, inr}
use Rattle.std.proofs.lemmas.List.{get_or-set_same, map-set, set-set}
use Rattle.std.proofs.lemmas.Bool.{cases_eq}
use Rattle.span_arena.specs.declared.version.ArenaVersion.{ArenaVersion}
use Rattle.span_arena.specs.declared.record.NodeRecord.{NodeRecord}
use Rattle.span_arena.specs.declared.record.ChainRecord.{ChainRecord}
use Rattle.span_arena.specs.declared.record.ChainRecord.TheVariants as chain
use Rattle.span_arena.specs.declared.cell.Cell.{Cell}
use Rattle.span_arena.specs.declared.record.VersionLinks.{VersionLinks}
use Rattle.span_arena.specs.declared.record.NodeUse.TheVariants.{Free}
use Rattle.span_arena.specs.Content.{Content, versions, versions_in, with_kept, prepared_for}
use Rattle.span_arena.specs.Runs.{walk, IsRun, IsSound, IsTrimming, node_at, no_record, chain_of, record_at, links_at, links_of, prepared_of, content, total, version_of}
use Rattle.span_arena.proofs.Frames.{IsChanged, run_wider, changed-set}
use Rattle.span_arena.proofs.Counts.{length-walk, total-set}
use Rattle.span_arena.proofs.Chains.{used_in_range, links_here, links_elsewhere, chain_at}
use Rattle.span_arena.proofs.Contents.{of_parts, parts_equal}
use Rattle.span_arena.proofs.Cutting.{trimming_starts, trim_in_range, trim_sound, trim_content}

-- nodes that are in no chain are those of a chain that has none
pub loose_linked : (nodes : List NodeRecord) (rs : List ChainRecord) (free count most c left at : ℕ) (m : VersionLinks) → IsTrimming nodes rs free count most c left at → record_at rs c ≡ chain.Used m → m.count ≡ 0
    → IsSound nodes (set rs c (chain.Used (record { newest = at; count = left; prepared = m.prepared }))) free count most
loose_linked nodes rs free count most c left at m trimming used none =
    let f = node_at nodes in
    let l : VersionLinks = record { newest = at; count = left; prepared = m.prepared } in
    let t : total (set rs c (chain.Used l)) + (links_at rs c).count ≡ total rs + left = total-set rs c (chain.Used l) (used_in_range rs c m used) in
    let z : (links_at rs c).count ≡ 0 = ap (λ (r : ChainRecord). (links_of r).count) used ∙ none in
    record {
      rank = trimming.rank;
      top = trimming.top + trimming.low;
      runs = λ d. elim (cases_eq d c) [
        | inl same ↦ rw (same, links_here rs c m l used) (run_wider f trimming.rank c trimming.low (trimming.top + trimming.low) left at (omega arith) trimming.loose)
        | inr differs ↦ rw (links_elsewhere rs c m l used d differs) (run_wider f trimming.rank d trimming.top (trimming.top + trimming.low) (links_at rs d).count (links_at rs d).newest (omega arith) (trimming.runs d))
      ];
      free_list = trimming.free_list;
      prepared = λ d. elim (cases_eq d c) [
        | inl same ↦ (let e : prepared_for c (map prepared_of nodes) ≡ m.prepared = trimming.prepared c ∙ ap (λ (r : ChainRecord). (links_of r).prepared) used in
            rw (same, links_here rs c m l used) e)
        | inr differs ↦ rw (links_elsewhere rs c m l used d differs) (trimming.prepared d)
      ];
      counted = omega (arith, trimming.counted);
      bounded = trimming.bounded;
    }

-- the walk of a run whose ranks are below that of j stays
below_walks : (f g : ℕ → NodeRecord) (rank : ℕ → ℕ) (j : ℕ) → IsChanged f g j → (c bound k h : ℕ) → bound ≤ rank j → IsRun f rank c bound k h → walk g k h ≡ walk f k h
below_walks f g rank j changed c bound zero h le run = refl
below_walks f g rank j changed c bound (suc k) h le run =
    let e : g h ≡ f h = changed.others h (λ same. let s : rank h ≡ rank j = ap rank same in let lt : rank h < bound = run.1 in omega arith) in
    rw e (ap (λ vs. (version_of (f h)) ∷ vs) (below_walks f g rank j changed c (rank h) k (f h).next (let lt : rank h < bound = run.1 in omega arith) run.2))

run_rest : (f : ℕ → NodeRecord) (rank : ℕ → ℕ) (c bound k h : ℕ) → 0 < k → IsRun f rank c bound k h → IsRun f rank c (rank h) (k - 1) (f h).next
run_rest f rank c bound zero h some run = absurd (omega arith)
run_rest f rank c bound (suc k) h some run = rw sub-one run.2

walk_front : (f : ℕ → NodeRecord) (k h : ℕ) → 0 < k → walk f k h ≡ (version_of (f h)) ∷ walk f (k - 1) (f h).next
walk_front f zero h some = absurd (omega arith)
walk_front f (suc k) h some = rw sub-one refl

module _ (nodes : List NodeRecord) (rs : List ChainRecord) (free count most : ℕ) (cells : List Cell) (sound : IsSound nodes rs free count most) (c : ℕ) (l : VersionLinks) (used : record_at rs c ≡ chain.Used l) where
  pub versions_here : versions (content nodes rs count most cells) c ≡ walk (node_at nodes) l.count l.newest
  versions_here = ap versions_in (chain_at (node_at nodes) rs c l used)

  module _ (some : 0 < l.count) where
    pub loose : IsTrimming nodes (set rs c (chain.Used (record { newest = l.newest; count = 0; prepared = l.prepared }))) free count most c l.count l.newest
    loose = subst (λ n. IsTrimming nodes (set rs c (chain.Used (record { newest = l.newest; count = 0; prepared = l.prepared }))) free count most c n l.newest) {x = l.count - 0} {y = l.count} (omega arith)
        (trimming_starts nodes rs free count most cells c l None 0 l.newest sound used (record { within = omega arith; here = refl; same = refl })).sound

    pub take_in_range : l.newest < length nodes
    take_in_range = trim_in_range nodes (set rs c (chain.Used (record { newest = l.newest; count = 0; prepared = l.prepared }))) free count most c l.count l.newest loose some

    pub front_is : versions (content nodes rs count most cells) c ≡ (version_of (node_at nodes l.newest)) ∷ walk (node_at nodes) (l.count - 1) (node_at nodes l.newest).next
    front_is = versions_here ∙ walk_front (node_at nodes) l.count l.newest some

    module _ (x : NodeRecord) (is_free : x.used ≡ Free (count + 1)) (next : x.next ≡ free) where
      pub take_sound : IsSound (set nodes l.newest x) (set rs c (chain.Used (record { newest = (node_at nodes l.newest).next; count = l.count - 1; prepared = l.prepared }))) l.newest (count + 1) most
      take_sound =
          let none : VersionLinks = record { newest = l.newest; count = 0; prepared = l.prepared } in
          let cut : List ChainRecord = set rs c (chain.Used none) in
          let rest : VersionLinks = record { newest = (node_at nodes l.newest).next; count = l.count - 1; prepared = l.prepared } in
          let after : IsTrimming (set nodes l.newest x) cut l.newest (count + 1) most c (l.count - 1) (node_at nodes l.newest).next = trim_sound nodes cut free count most c l.count l.newest loose some x is_free next in
          let is_none : record_at cut c ≡ chain.Used none = get_or-set_same rs c (chain.Used none) no_record (used_in_range rs c l used) in
          subst (λ r. IsSound (set nodes l.newest x) r l.newest (count + 1) most) {x = set cut c (chain.Used rest)} {y = set rs c (chain.Used rest)} (set-set rs c (chain.Used none) (chain.Used rest))
          (loose_linked (set nodes l.newest x) cut l.newest (count + 1) most c (l.count - 1) (node_at nodes l.newest).next none after is_none refl)

      pub take_content : content (set nodes l.newest x) (set rs c (chain.Used (record { newest = (node_at nodes l.newest).next; count = l.count - 1; prepared = l.prepared }))) (count + 1) most cells
          ≡ with_kept (content nodes rs count most cells) c (walk (node_at nodes) (l.count - 1) (node_at nodes l.newest).next)
      take_content =
          let f = node_at nodes in
          let g = node_at (set nodes l.newest x) in
          let none : VersionLinks = record { newest = l.newest; count = 0; prepared = l.prepared } in
          let cut : List ChainRecord = set rs c (chain.Used none) in
          let rest : VersionLinks = record { newest = (node_at nodes l.newest).next; count = l.count - 1; prepared = l.prepared } in
          let vs : List ArenaVersion = walk f (l.count - 1) (f l.newest).next in
          let stay : content (set nodes l.newest x) cut count most cells ≡ content nodes cut count most cells = trim_content nodes cut free count most c l.count l.newest loose some x cells (count + 1) is_free count in
          let walked : walk g (l.count - 1) (f l.newest).next ≡ vs =
          below_walks f g loose.rank l.newest (changed-set nodes l.newest x) c (loose.rank l.newest) (l.count - 1) (f l.newest).next (omega arith) (run_rest f loose.rank c loose.low l.count l.newest some loose.loose) in
          let chains : map (chain_of g) (set rs c (chain.Used rest)) ≡ set (map (chain_of f) rs) c (Some vs) =
          ap (map (chain_of g)) (sym (set-set rs c (chain.Used none) (chain.Used rest)))
          ∙ map-set (chain_of g) cut c (chain.Used rest)
          ∙ ap (λ (cs : List (Option (List ArenaVersion))). set cs c (chain_of g (chain.Used rest))) (ap (λ (a : Content). a.chains) stay ∙ map-set (chain_of f) rs c (chain.Used none))
          ∙ set-set (map (chain_of f) rs) c (chain_of f (chain.Used none)) (chain_of g (chain.Used rest))
          ∙ ap (λ (ws : List ArenaVersion). set (map (chain_of f) rs) c (Some ws)) walked in
          let long : length (versions (content nodes rs count most cells) c) ≡ l.count = ap length versions_here ∙ length-walk f l.count l.newest in
          let short : length vs ≡ l.count - 1 = length-walk f (l.count - 1) (f l.newest).next in
          let freed : count + 1 ≡ count + (length (versions (content nodes rs count most cells) c) - length vs) = rw (long, short) (omega (arith, some)) in
          parts_equal _ (set (map (chain_of f) rs) c (Some vs)) _ (map prepared_of nodes) (count + 1) most cells chains (ap (λ (a : Content). a.prepared) stay)
          ∙ ap (λ (n : ℕ). of_parts (set (map (chain_of f) rs) c (Some vs)) (map prepared_of nodes) n most cells) freed
