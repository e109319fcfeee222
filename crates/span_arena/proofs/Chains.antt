-- Chains and their records.
use Rattle.std.proofs.Common.{◌≡◌, ◌≢◌, ℕ, zero, suc, ◌+◌, ◌<◌, List, [], ◌∷◌, refl, sym, ◌∙◌, ap, arith, length, map, Option, Some, None, get_or, set, inl, inr}
use Rattle.std.proofs.lemmas.List.{get_or-set_other, get_or-set_same, get_or_default}
use Rattle.std.proofs.Math.Seq.{map-set_same}
use Rattle.std.proofs.lemmas.Bool.{cases_eq}
use Rattle.span_arena.specs.declared.version.ArenaVersion.{ArenaVersion}
use Rattle.span_arena.specs.declared.record.NodeRecord.{NodeRecord}
use Rattle.span_arena.specs.declared.record.ChainRecord.{ChainRecord}
use Rattle.span_arena.specs.declared.record.ChainRecord.TheVariants as chain
use Rattle.span_arena.specs.declared.record.VersionLinks.{VersionLinks}
use Rattle.span_arena.specs.Content.{Prepared, versions_in, one_for, prepared_for}
use Rattle.span_arena.specs.Runs.{walk, IsRun, chain_of, record_at, links_at, links_of, no_record}

of_record : (f : ℕ → NodeRecord) (r : ChainRecord) → versions_in (chain_of f r) ≡ walk f (links_of r).count (links_of r).newest
of_record f (chain.Free next k) = refl
of_record f (chain.Used l) = refl

-- the versions of a chain are its run
pub versions_are : (f : ℕ → NodeRecord) (rs : List ChainRecord) (c : ℕ) → versions_in (get_or (map (chain_of f) rs) c None) ≡ walk f (links_at rs c).count (links_at rs c).newest
versions_are f [] c = refl
versions_are f (r ∷ rs) zero = of_record f r
versions_are f (r ∷ rs) (suc c) = versions_are f rs c

some_used : (f : ℕ → NodeRecord) (r : ChainRecord) (vs : List ArenaVersion) → chain_of f r ≡ Some vs → (l : VersionLinks) × (r ≡ chain.Used l)
some_used f (chain.Free next k) vs h = absurd (let q : None ≡ Some vs = h in cc)
some_used f (chain.Used l) vs h = (l, refl)

-- what the content has as a chain is in use
pub used_of : (f : ℕ → NodeRecord) (rs : List ChainRecord) (c : ℕ) (vs : List ArenaVersion) → get_or (map (chain_of f) rs) c None ≡ Some vs → (l : VersionLinks) × (record_at rs c ≡ chain.Used l)
used_of f [] c vs h = absurd (let q : None ≡ Some vs = h in cc)
used_of f (r ∷ rs) zero vs h = some_used f r vs h
used_of f (r ∷ rs) (suc c) vs h = used_of f rs c vs h

-- and the other way round
pub chain_at : (f : ℕ → NodeRecord) (rs : List ChainRecord) (c : ℕ) (l : VersionLinks) → record_at rs c ≡ chain.Used l → get_or (map (chain_of f) rs) c None ≡ Some (walk f l.count l.newest)
chain_at f [] c l h = absurd (let q : chain.Free 0 0 ≡ chain.Used l = h in cc)
chain_at f (r ∷ rs) zero l h = ap (chain_of f) h
chain_at f (r ∷ rs) (suc c) l h = chain_at f rs c l h

pub used_in_range : (rs : List ChainRecord) (c : ℕ) (l : VersionLinks) → record_at rs c ≡ chain.Used l → c < length rs
used_in_range [] c l h = absurd (let q : chain.Free 0 0 ≡ chain.Used l = h in cc)
used_in_range (r ∷ rs) zero l h = omega arith
used_in_range (r ∷ rs) (suc c) l h = omega (arith, used_in_range rs c l h)

used_if : (r : ChainRecord) → 0 < (links_of r).prepared → (l : VersionLinks) × (r ≡ chain.Used l)
used_if (chain.Free next k) h = absurd (omega arith)
used_if (chain.Used l) h = (l, refl)

-- a chain for which something is prepared is in use
pub used_prepared : (rs : List ChainRecord) (c : ℕ) → 0 < (links_at rs c).prepared → (l : VersionLinks) × (record_at rs c ≡ chain.Used l)
used_prepared rs c h = used_if (record_at rs c) h

pub not_free : (r : ChainRecord) (l : VersionLinks) (next k : ℕ) → r ≡ chain.Used l → r ≡ chain.Free next k → ⊥
not_free r l next k e f = (let q : chain.Used l ≡ chain.Free next k = sym e ∙ f in cc)

-- what the code read of a chain that is in use
pub read_used : (rs : List ChainRecord) (c : ℕ) (r : ChainRecord) (l m : VersionLinks) → record_at rs c ≡ chain.Used m → r ≡ get_or rs c r → r ≡ chain.Used l → record_at rs c ≡ chain.Used l
read_used rs c r l m used read is = get_or_default rs c no_record r (used_in_range rs c m used) ∙ sym read ∙ is

pub read_not_free : (rs : List ChainRecord) (c : ℕ) (r : ChainRecord) (m : VersionLinks) (next k : ℕ) → record_at rs c ≡ chain.Used m → r ≡ get_or rs c r → r ≡ chain.Free next k → ⊥
read_not_free rs c r m next k used read is = not_free (record_at rs c) m next k used (get_or_default rs c no_record r (used_in_range rs c m used) ∙ sym read ∙ is)

-- chains whose walks stay
pub chains_stay : (f g : ℕ → NodeRecord) (rs : List ChainRecord) → ((c : ℕ) → walk g (links_at rs c).count (links_at rs c).newest ≡ walk f (links_at rs c).count (links_at rs c).newest) → map (chain_of g) rs ≡ map (chain_of f) rs
chains_stay f g [] h = refl
chains_stay f g (r ∷ rs) h =
    let rest : map (chain_of g) rs ≡ map (chain_of f) rs = chains_stay f g rs (λ c. h (suc c)) in
    rw (rest, here r (h 0)) refl
  where
    here : (r : ChainRecord) → walk g (links_of r).count (links_of r).newest ≡ walk f (links_of r).count (links_of r).newest → chain_of g r ≡ chain_of f r
    here (chain.Free next k) e = refl
    here (chain.Used l) e = ap Some e

-- the links of a chain with another number of prepared nodes
abbrev pub with_prepared : VersionLinks → ℕ → VersionLinks
with_prepared l n = record { newest = l.newest; count = l.count; prepared = n }

-- a chain's record is written
module _ (rs : List ChainRecord) (c : ℕ) (l m : VersionLinks) (used : record_at rs c ≡ chain.Used l) where
  lt : c < length rs
  lt = used_in_range rs c l used

  pub links_were : links_at rs c ≡ l
  links_were = ap links_of used

  pub links_here : links_at (set rs c (chain.Used m)) c ≡ m
  links_here = ap links_of (get_or-set_same rs c (chain.Used m) no_record lt)

  pub links_elsewhere : (d : ℕ) → d ≢ c → links_at (set rs c (chain.Used m)) d ≡ links_at rs d
  links_elsewhere d differs = ap links_of (get_or-set_other rs c d (chain.Used m) no_record differs)

  -- each chain's prepared nodes, where one node is for other chains than before
  pub prepared_step : (ps qs : List (Option Prepared)) (old new : Option Prepared) → ((d : ℕ) → prepared_for d qs + one_for d old ≡ prepared_for d ps + one_for d new)
      → ((d : ℕ) → prepared_for d ps ≡ (links_at rs d).prepared) → m.prepared + one_for c old ≡ l.prepared + one_for c new → ((d : ℕ) → d ≢ c → one_for d old ≡ one_for d new)
      → (d : ℕ) → prepared_for d qs ≡ (links_at (set rs c (chain.Used m)) d).prepared
  prepared_step ps qs old new sums was balance others d = elim (cases_eq d c) [
    | inl same ↦ (let a : prepared_for c qs + one_for c old ≡ prepared_for c ps + one_for c new = sums c in
        let b : prepared_for c ps ≡ (links_at rs c).prepared = was c in
        let b2 : (links_at rs c).prepared ≡ l.prepared = ap (λ (x : VersionLinks). x.prepared) links_were in
        rw (same, links_here) (omega arith))
    | inr differs ↦ (let a : prepared_for d qs + one_for d old ≡ prepared_for d ps + one_for d new = sums d in
        let b : prepared_for d ps ≡ (links_at rs d).prepared = was d in
        let e : one_for d old ≡ one_for d new = others d differs in
        rw (links_elsewhere d differs) (omega arith))
  ]

  -- each chain's run, where the links stay but for what is prepared
  pub runs_step : (g : ℕ → NodeRecord) (rank : ℕ → ℕ) (top : ℕ) → m.newest ≡ l.newest → m.count ≡ l.count → ((d : ℕ) → IsRun g rank d top (links_at rs d).count (links_at rs d).newest)
      → (d : ℕ) → IsRun g rank d top (links_at (set rs c (chain.Used m)) d).count (links_at (set rs c (chain.Used m)) d).newest
  runs_step g rank top newest count runs d = elim (cases_eq d c) [
    | inl same ↦ (let r : IsRun g rank c top (links_at rs c).count (links_at rs c).newest = runs c in
        let r2 : IsRun g rank c top l.count l.newest = rw links_were at r in
        rw (same, links_here, newest, count) r2)
    | inr differs ↦ rw (links_elsewhere d differs) (runs d)
  ]

  pub chains_step : (g : ℕ → NodeRecord) → m.newest ≡ l.newest → m.count ≡ l.count → map (chain_of g) (set rs c (chain.Used m)) ≡ map (chain_of g) rs
  chains_step g newest count = map-set_same (chain_of g) rs c (chain.Used m) no_record (rw (newest, count, used) refl)
