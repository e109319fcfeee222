-- A walk along a chain, step by step.
use Rattle.std.proofs.Common.{◌≡◌, ℕ, zero, suc, ◌-◌, ◌<◌, ◌≤◌, List, ◌∷◌, refl, sym, ◌∙◌, ap, arith, length, Some, get_or, sub-one, inl, inr}
use Rattle.std.proofs.Math.ListN.{get_or-eq_default}
use Rattle.std.proofs.lemmas.List.{get_or_default}
use Rattle.std.proofs.lemmas.Bool.{cases_lt}
use Rattle.std.proofs.lemmas.Bool.Decides.{nat_tests}
use Rattle.std.specs.Prelude.{nat_le, true, false}
use Rattle.span_arena.specs.declared.record.NodeRecord.{NodeRecord}
use Rattle.span_arena.specs.declared.record.ChainRecord.{ChainRecord}
use Rattle.span_arena.specs.declared.record.ChainRecord.TheVariants as chain
use Rattle.span_arena.specs.declared.cell.Cell.{Cell}
use Rattle.span_arena.specs.declared.record.VersionLinks.{VersionLinks}
use Rattle.span_arena.specs.declared.record.NodeUse.TheVariants.{Linked}
use Rattle.span_arena.specs.Content.{versions, versions_in, newest_upto}
use Rattle.span_arena.specs.Runs.{walk, IsRun, IsSomeRun, IsSound, node_at, blank, record_at, content, version_of}
use Rattle.span_arena.proofs.Chains.{chain_at, links_were}

pub in_range-linked : (nodes : List NodeRecord) (i c : ℕ) → (node_at nodes i).used ≡ Linked c → i < length nodes
in_range-linked nodes i c h = elim (cases_lt i (length nodes)) [
  | inl lt ↦ lt
  | inr ge ↦ (let e : node_at nodes i ≡ blank = get_or-eq_default nodes blank ge in
      let f : blank.used ≡ Linked c = rw e at h in cc)
]

-- the start: the run of a chain has its versions
pub init_run : (nodes : List NodeRecord) (rs : List ChainRecord) (free count most : ℕ) (cells : List Cell) (sound : IsSound nodes rs free count most) (c : ℕ) (l : VersionLinks) → record_at rs c ≡ chain.Used l
    → IsSomeRun (node_at nodes) l.count l.newest × (walk (node_at nodes) l.count l.newest ≡ versions (content nodes rs count most cells) c)
init_run nodes rs free count most cells sound c l used =
    let run : IsRun (node_at nodes) sound.rank c sound.top l.count l.newest = rw (links_were rs c l l used) at (sound.runs c) in
    (record { rank = sound.rank; chain = c; bound = sound.top; run = run }, sym (ap versions_in (chain_at (node_at nodes) rs c l used)))

module _ (nodes : List NodeRecord) (k h : ℕ) (on : IsSomeRun (node_at nodes) k h) (some : 0 < k) where
  pub here_in_range : h < length nodes
  here_in_range = in_range on.chain on.bound k h on.run some
    where
      in_range : (c bound k h : ℕ) → IsRun (node_at nodes) on.rank c bound k h → 0 < k → h < length nodes
      in_range c bound zero h run some = absurd (omega arith)
      in_range c bound (suc k) h run some = in_range-linked nodes h c run.0

  read_is : (n : NodeRecord) → n ≡ get_or nodes h n → n ≡ node_at nodes h
  read_is n read = read ∙ get_or_default nodes h n blank here_in_range

  pub next_run : (n : NodeRecord) → n ≡ get_or nodes h n → IsSomeRun (node_at nodes) (k - 1) n.next
  next_run n read = rw (read_is n read) (go on.chain on.bound k h on.run some)
    where
      go : (c bound k h : ℕ) → IsRun (node_at nodes) on.rank c bound k h → 0 < k → IsSomeRun (node_at nodes) (k - 1) (node_at nodes h).next
      go c bound zero h run some = absurd (omega arith)
      go c bound (suc k) h run some = record { rank = on.rank; chain = c; bound = on.rank h; run = rw sub-one run.2 }

  walk_more : walk (node_at nodes) k h ≡ (version_of (node_at nodes h)) ∷ walk (node_at nodes) (k - 1) (node_at nodes h).next
  walk_more = go k h some
    where
      go : (k h : ℕ) → 0 < k → walk (node_at nodes) k h ≡ (version_of (node_at nodes h)) ∷ walk (node_at nodes) (k - 1) (node_at nodes h).next
      go zero h some = absurd (omega arith)
      go (suc k) h some = rw sub-one refl

  pub found_here : (n : NodeRecord) → n ≡ get_or nodes h n → (s : ℕ) → (version_of n).timestamp ≤ s → newest_upto s (walk (node_at nodes) k h) ≡ Some (version_of n)
  found_here n read s le =
      let t : nat_le (version_of n).timestamp s ≡ true = grind (arith, nat_tests) in
      rw (walk_more, ← (read_is n read), t) refl

  pub next_same : (n : NodeRecord) → n ≡ get_or nodes h n → (s : ℕ) → s < (version_of n).timestamp → newest_upto s (walk (node_at nodes) (k - 1) n.next) ≡ newest_upto s (walk (node_at nodes) k h)
  next_same n read s lt =
      let t : nat_le (version_of n).timestamp s ≡ false = grind (arith, nat_tests) in
      rw (walk_more, ← (read_is n read), t) refl
