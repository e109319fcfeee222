-- What a caller keeps from call to call.
use Rattle.std.proofs.Common.{◌≡◌, ◌≢◌, ℕ, ◌<◌, ◌≤◌, List, [], ◌∷◌, sym, ◌∙◌, arith, length, Option, Some, None, get_or, inl, inr, true, false}
use Rattle.std.specs.Prelude.{nat_lt}
use Rattle.std.proofs.Math.ListN.{get_or-eq_default}
use Rattle.std.proofs.Math.Seq.{get_or-append_seam}
use Rattle.std.proofs.lemmas.List.{get_or-set_same, get_or-set_other, get_or_append_left}
use Rattle.std.proofs.lemmas.Bool.{cases_lt}
use Rattle.std.proofs.lemmas.Bool.Decides.{nat_tests}
use Rattle.span_arena.specs.declared.version.ArenaVersion.{ArenaVersion}
use Rattle.span_arena.specs.Content.{Content, prepared_at, IsChain, with_at, IsNewChain, IsReserved, with_kept}

pub with_at-same : {A : Type 0} → (xs : List A) (i : ℕ) (x d : A) → i ≤ length xs → get_or (with_at xs i x) i d ≡ x
with_at-same xs i x d le = elim (cases_lt i (length xs)) [
  | inl lt ↦ (let t : nat_lt i (length xs) ≡ true = grind (arith, nat_tests) in rw t (get_or-set_same xs i x d lt))
  | inr ge ↦ (let t : nat_lt i (length xs) ≡ false = grind (arith, nat_tests) in
      let e : i ≡ length xs = omega arith in rw (t, e) (get_or-append_seam xs x [] d))
]

pub with_at-other : {A : Type 0} → (xs : List A) (i j : ℕ) (x d : A) → j ≢ i → j < length xs → get_or (with_at xs i x) j d ≡ get_or xs j d
with_at-other xs i j x d differs below = elim (cases_lt i (length xs)) [
  | inl lt ↦ (let t : nat_lt i (length xs) ≡ true = grind (arith, nat_tests) in rw t (get_or-set_other xs i j x d differs))
  | inr ge ↦ (let t : nat_lt i (length xs) ≡ false = grind (arith, nat_tests) in rw t (get_or_append_left xs (x ∷ []) d j below))
]

-- a new chain is one, and has no version
pub is_new_chain : (a b : Content) (c : ℕ) → IsNewChain a b c → get_or b.chains c None ≡ Some []
is_new_chain a b c fresh = rw fresh.now (with_at-same a.chains c (Some []) None fresh.number)

-- reserving changes no chain
pub chain_stays : (a b : Content) (c n d : ℕ) (image : Option (List ℕ)) → IsReserved a b c image n → IsChain a d → IsChain b d
chain_stays a b c n d image reserved h = rw reserved.now h

-- what was reserved is prepared, and what was prepared still is
pub prepared_now : (a b : Content) (c n : ℕ) (image : Option (List ℕ)) → IsReserved a b c image n → prepared_at b n ≡ Some (record { chain = c; image = image })
prepared_now a b c n image reserved = rw reserved.now (with_at-same a.prepared n (Some (record { chain = c; image = image })) None reserved.number)

-- a chain has a place
pub chain_in_range : (a : Content) (c : ℕ) → IsChain a c → c < length a.chains
chain_in_range a c chain = elim (cases_lt c (length a.chains)) [
  | inl lt ↦ lt
  | inr ge ↦ (let e : get_or a.chains c None ≡ None = get_or-eq_default a.chains None ge in
      let q : None ≡ Some chain.0 = sym e ∙ chain.1 in absurd cc)
]

-- a chain that is trimmed or cleared is one
pub kept_chain : (a b : Content) (c : ℕ) (vs : List ArenaVersion) → IsChain a c → b ≡ with_kept a c vs → IsChain b c
kept_chain a b c vs chain is = rw is (vs, get_or-set_same a.chains c (Some vs) None (chain_in_range a c chain))
