-- The order of versions.
use Rattle.std.proofs.Common.{◌≡◌, ℕ, zero, suc, ◌<◌, ◌≤◌, List, [], ◌∷◌, ◌++◌, refl, sym, arith, length, Option, Some, None, get_or, set, ◌⊎◌, inl, inr, true, false, cond, subst, nat_le}
use Rattle.std.specs.Prelude.{map, find, nat_lt}
use Rattle.std.specs.List.{AllByRecursion}
use Rattle.std.proofs.lemmas.Bool.Decides.{nat_tests}
use Rattle.span_arena.specs.declared.version.ArenaVersion.{ArenaVersion}
use Rattle.span_arena.specs.Content.{Content, Prepared, versions, versions_in, prepared_at, newest_upto, kept_at, kept_upto, kept_by, with_kept, with_versions, IsNewChain, IsReserved, linked, linked_as, without_chain, IsSomePrepared}
use Rattle.span_arena.specs.Order.{IsLater, AreFalling, timestamps, IsLast, IsLastUpto, IsNewestUpto, AreInTimeOrder, IsLaterFor}

-- ---- the newest version at or below a timestamp

module _ (V : Type 0) (stamp : V → ℕ) where
  -- versions that fall from one that is not later than s
  older : (s t : ℕ) (vs : List V) → t ≤ s → IsLater t (map stamp vs) → AreFalling (map stamp vs) → AllByRecursion (λ (w : V). stamp w < s) vs
  older s t [] le later falling = tt
  older s t (v ∷ vs) le later falling =
      let lt : stamp v < t = later in
      (omega arith, older s (stamp v) vs (omega arith) falling.0 falling.1)

  others_of : (s : ℕ) (v : V) (vs : List V) → AllByRecursion (λ (w : V). stamp w < stamp v) vs → AllByRecursion (λ (w : V). stamp w ≤ s → (w ≡ v) ⊎ (stamp w < stamp v)) vs
  others_of s v [] all = tt
  others_of s v (w ∷ vs) all = (λ _. inr all.0, others_of s v vs all.1)

  last_here : (s : ℕ) (v : V) (vs : List V) → stamp v ≤ s → AreFalling (map stamp (v ∷ vs)) → IsLast V stamp s (v ∷ vs) v
  last_here s v vs le falling = record {
    is_one = (0, omega arith, refl);
    upto = le;
    others = (λ _. inl refl, others_of s v vs (older (stamp v) (stamp v) vs (omega arith) falling.0 falling.1));
  }

  last_after : (s : ℕ) (v : V) (vs : List V) (found : Option V) → s < stamp v → IsLastUpto V stamp s vs found → IsLastUpto V stamp s (v ∷ vs) found
  last_after s v vs None above all = (above, all)
  last_after s v vs (Some w) above is = record {
    is_one = (suc is.is_one.0, (let lt : is.is_one.0 < length vs = is.is_one.1 in omega arith), is.is_one.2);
    upto = is.upto;
    others = (λ le. absurd (omega arith), is.others);
  }

  -- of versions that fall the first at or below s is the last one there
  pub first_is_last : (s : ℕ) (vs : List V) → AreFalling (map stamp vs) → IsLastUpto V stamp s vs (find (λ (v : V). nat_le (stamp v) s) vs)
  first_is_last s [] falling = tt
  first_is_last s (v ∷ vs) falling =
      elim (nat_le (stamp v) s) as (λ b. nat_le (stamp v) s ≡ b → IsLastUpto V stamp s (v ∷ vs) (cond b (Some v) (find (λ (w : V). nat_le (stamp w) s) vs))) [
        | true ↦ (λ e. last_here s v vs (grind (arith, nat_tests)) falling)
        | false ↦ (λ e. last_after s v vs (find (λ (w : V). nat_le (stamp w) s) vs) (grind (arith, nat_tests)) (first_is_last s vs falling.1))
      ] refl

pub found_last : (s : ℕ) (vs : List ArenaVersion) (found : Option ArenaVersion) → found ≡ newest_upto s vs → AreFalling (timestamps vs) → IsNewestUpto s vs found
found_last s vs found is falling = subst (IsNewestUpto s vs) (sym is) (first_is_last ArenaVersion (λ (v : ArenaVersion). v.timestamp) s vs falling)

-- ---- what stays in order

falling_set : (cs : List (Option (List ArenaVersion))) (c : ℕ) (o : Option (List ArenaVersion)) → ((d : ℕ) → AreFalling (timestamps (versions_in (get_or cs d None)))) → AreFalling (timestamps (versions_in o))
    → (d : ℕ) → AreFalling (timestamps (versions_in (get_or (set cs c o) d None)))
falling_set [] c o all here d = all d
falling_set (p ∷ cs) zero o all here zero = here
falling_set (p ∷ cs) zero o all here (suc d) = all (suc d)
falling_set (p ∷ cs) (suc c) o all here zero = all 0
falling_set (p ∷ cs) (suc c) o all here (suc d) = falling_set cs c o (λ e. all (suc e)) here d

falling_push : (cs : List (Option (List ArenaVersion))) (o : Option (List ArenaVersion)) → ((d : ℕ) → AreFalling (timestamps (versions_in (get_or cs d None)))) → AreFalling (timestamps (versions_in o))
    → (d : ℕ) → AreFalling (timestamps (versions_in (get_or (cs ++ o ∷ []) d None)))
falling_push [] o all here zero = here
falling_push [] o all here (suc d) = tt
falling_push (p ∷ cs) o all here zero = all 0
falling_push (p ∷ cs) o all here (suc d) = falling_push cs o (λ e. all (suc e)) here d

-- a chain more, with no version
pub falling-new_chain : (a b : Content) (c : ℕ) → AreInTimeOrder a → IsNewChain a b c → AreInTimeOrder b
falling-new_chain a b c all fresh = subst AreInTimeOrder (sym fresh.now)
    (elim (nat_lt c (length a.chains)) as (λ t. (d : ℕ) → AreFalling (timestamps (versions_in (get_or (cond t (set a.chains c (Some [])) (a.chains ++ Some [] ∷ [])) d None)))) [
      | true ↦ falling_set a.chains c (Some []) all tt
      | false ↦ falling_push a.chains (Some []) all tt
    ])

pub falling-free_chain : (a : Content) (c : ℕ) → AreInTimeOrder a → AreInTimeOrder (without_chain a c)
falling-free_chain a c all = falling_set a.chains c None all tt

pub falling-reserve : (a b : Content) (c n : ℕ) (image : Option (List ℕ)) → AreInTimeOrder a → IsReserved a b c image n → AreInTimeOrder b
falling-reserve a b c n image all reserved = subst AreInTimeOrder (sym reserved.now) all

-- a later version is linked
pub falling-link : (a : Content) (n s : ℕ) → AreInTimeOrder a → IsLaterFor a n s → AreInTimeOrder (linked a n s)
falling-link a n s all later = by_node (prepared_at a n) later
  where
    by_node : (p : Option Prepared) → IsSomePrepared p (λ p. IsLater s (timestamps (versions a p.chain))) → AreInTimeOrder (linked_as a n s p)
    by_node None later = absurd later
    by_node (Some p) later = falling_set a.chains p.chain (Some (record { timestamp = s; image = p.image } ∷ versions a p.chain)) all (later, all p.chain)

later_kept_at : (s : ℕ) (v : ArenaVersion) (image : Option (List ℕ)) → v.timestamp < s → IsLater s (timestamps (kept_at v image))
later_kept_at s v None lt = tt
later_kept_at s v (Some image) lt = lt

later_kept : (s h : ℕ) (vs : List ArenaVersion) → IsLater s (timestamps vs) → IsLater s (timestamps (kept_upto h vs))
later_kept s h [] later = tt
later_kept s h (v ∷ vs) later = elim (nat_le v.timestamp h) as (λ b. IsLater s (timestamps (cond b (kept_at v v.image) (v ∷ kept_upto h vs)))) [
  | true ↦ later_kept_at s v v.image later
  | false ↦ later
]

falling_kept_at : (v : ArenaVersion) (image : Option (List ℕ)) → AreFalling (timestamps (kept_at v image))
falling_kept_at v None = tt
falling_kept_at v (Some image) = (tt, tt)

falling_kept : (h : ℕ) (vs : List ArenaVersion) → AreFalling (timestamps vs) → AreFalling (timestamps (kept_upto h vs))
falling_kept h [] falling = tt
falling_kept h (v ∷ vs) falling = elim (nat_le v.timestamp h) as (λ b. AreFalling (timestamps (cond b (kept_at v v.image) (v ∷ kept_upto h vs)))) [
  | true ↦ falling_kept_at v v.image
  | false ↦ (later_kept v.timestamp h vs falling.0, falling_kept h vs falling.1)
]

falling_by : (horizon : Option ℕ) (vs : List ArenaVersion) → AreFalling (timestamps vs) → AreFalling (timestamps (kept_by horizon vs))
falling_by None vs falling = tt
falling_by (Some h) vs falling = falling_kept h vs falling

-- a chain is trimmed or cleared
pub falling-keep : (a : Content) (c : ℕ) (horizon : Option ℕ) → AreInTimeOrder a → AreInTimeOrder (with_kept a c (kept_by horizon (versions a c)))
falling-keep a c horizon all = falling_set a.chains c (Some (kept_by horizon (versions a c))) all (falling_by horizon (versions a c) (all c))

-- the newest version is taken out
pub falling-rest : (a : Content) (c : ℕ) (v : ArenaVersion) (rest : List ArenaVersion) → AreInTimeOrder a → versions a c ≡ v ∷ rest → AreInTimeOrder (with_kept a c rest)
falling-rest a c v rest all is =
    let falling : AreFalling (timestamps (v ∷ rest)) = subst (λ (vs : List ArenaVersion). AreFalling (timestamps vs)) is (all c) in
    falling_set a.chains c (Some rest) all falling.1

-- a chain has these versions now
pub falling-versions : (a : Content) (c : ℕ) (vs : List ArenaVersion) → AreInTimeOrder a → AreFalling (timestamps vs) → AreInTimeOrder (with_versions a c vs)
falling-versions a c vs all falling = falling_set a.chains c (Some vs) all falling
