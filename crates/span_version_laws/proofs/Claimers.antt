use Rattle.std.proofs.Common.{◌≡◌, ℕ, ◌<◌, ◌≤◌, Bool, true, false, cond, ◌||◌, ◌==◌, List, [], ◌∷◌, ◌++◌, length, Some, refl, ap, sym, ◌∙◌, subst, arith}
use Rattle.std.specs.Prelude.{find, filter}
use Rattle.std.proofs.lemmas.List.Elements.{filter-append}
use Rattle.span_machine.specs.declared.transaction.OpenTransaction.{OpenTransaction}
use Rattle.span_machine.specs.Machine.{Machine, changed_first, without_first}
use Rattle.std.specs.List.{AllByRecursion, list_any}
use Rattle.std.proofs.lemmas.Bool.{eqb-true}
use Rattle.span_machine.specs.declared.transaction.Prepared.{Prepared}
use Rattle.span_machine.specs.declared.transaction.Decision.TheVariants as decision
use Rattle.span_machine.specs.Machine.{is_prepared_at}
use Rattle.span_machine_laws.proofs.Holdings.{IsUpto, IsHolding}
use Rattle.span_machine_laws.proofs.Sealed.{IsAbove}
use Rattle.span_machine_laws.proofs.Lists.{IsIn, all_in, split_found, both_nil}
use Rattle.span_machine_laws.proofs.InPlace.{commits_at, claims, IsClaim}
use Rattle.span_machine_laws.proofs.Claims.{alone}
use Rattle.span_machine_laws.proofs.Reached.{IsReached}
use Rattle.span_version_laws.proofs.Slots.{HasRoot, placed_in}
use Rattle.span_schema.specs.declared.table.Table.{Table}
use Rattle.span_mutate.specs.Directories.{Root}
use Rattle.span_machine_laws.proofs.Locality.{IsRoot}

-- at most one transaction claims a directory in the slot that has it
pub claim_here : (schema : List Table) (m : Machine) → IsReached schema m → (root : Root) → IsRoot schema root → (slot : ℕ) → HasRoot schema m slot root → (n : ℕ) × IsClaim schema root n (commits_at schema root m.log) (filter (claims schema root slot) m.transactions)
claim_here schema m reached root is slot has = (has.slot_state.last, (placed_in schema m reached root is slot has).claim has.slot_state has.here)

-- the transactions that claim the directory, before and after the found one is changed or removed
pub record Claimers (schema : List Table) (root : Root) (slot : ℕ) (test : OpenTransaction → Bool) (ts : List OpenTransaction) (t : OpenTransaction) : Type 0 where
  pub here : claims schema root slot t ≡ true → filter (claims schema root slot) ts ≡ t ∷ []
  pub changed : (change : OpenTransaction → OpenTransaction) → claims schema root slot t ≡ true → filter (claims schema root slot) (changed_first test change ts) ≡ cond (claims schema root slot (change t)) (change t ∷ []) []
  pub gone : claims schema root slot t ≡ true → filter (claims schema root slot) (without_first test ts) ≡ []
  pub away : (change : OpenTransaction → OpenTransaction) → claims schema root slot t ≡ false → claims schema root slot (change t) ≡ false → filter (claims schema root slot) (changed_first test change ts) ≡ filter (claims schema root slot) ts
  pub away_gone : claims schema root slot t ≡ false → filter (claims schema root slot) (without_first test ts) ≡ filter (claims schema root slot) ts
  pub comes : (change : OpenTransaction → OpenTransaction) → claims schema root slot t ≡ false → claims schema root slot (change t) ≡ true → filter (claims schema root slot) ts ≡ [] → filter (claims schema root slot) (changed_first test change ts) ≡ change t ∷ []

claimers_among : (schema : List Table) (root : Root) (slot : ℕ) (test : OpenTransaction → Bool) (ts : List OpenTransaction) (t : OpenTransaction) (xs ys : List OpenTransaction)
    → filter (claims schema root slot) ts ≡ xs ++ cond (claims schema root slot t) (t ∷ ys) ys
    → ((change : OpenTransaction → OpenTransaction) → filter (claims schema root slot) (changed_first test change ts) ≡ xs ++ cond (claims schema root slot (change t)) (change t ∷ ys) ys)
    → filter (claims schema root slot) (without_first test ts) ≡ xs ++ ys
    → (claims schema root slot t ≡ true → (xs ≡ []) × (ys ≡ [])) → Claimers schema root slot test ts t
claimers_among schema root slot test ts t xs ys old new rest none = record {
  here = λ is. old ∙ ap (λ b. xs ++ cond b (t ∷ ys) ys) is ∙ ap (λ l. l ++ t ∷ ys) (none is).0 ∙ ap (λ l. t ∷ l) (none is).1;
  changed = λ change is. new change ∙ ap (λ l. l ++ cond (claims schema root slot (change t)) (change t ∷ ys) ys) (none is).0 ∙ ap (λ l. cond (claims schema root slot (change t)) (change t ∷ l) l) (none is).1;
  gone = λ is. rest ∙ ap (λ l. l ++ ys) (none is).0 ∙ (none is).1;
  away = λ change off still. new change ∙ ap (λ b. xs ++ cond b (change t ∷ ys) ys) still ∙ sym (old ∙ ap (λ b. xs ++ cond b (t ∷ ys) ys) off);
  away_gone = λ off. rest ∙ sym (old ∙ ap (λ b. xs ++ cond b (t ∷ ys) ys) off);
  comes = λ change off is empty.
      let both = both_nil xs ys (sym (old ∙ ap (λ b. xs ++ cond b (t ∷ ys) ys) off) ∙ empty) in
      new change ∙ ap (λ b. xs ++ cond b (change t ∷ ys) ys) is ∙ ap (λ l. l ++ change t ∷ ys) both.0 ∙ ap (λ l. change t ∷ l) both.1;
}

pub claimers_of : (schema : List Table) (m : Machine) → IsReached schema m → (root : Root) → IsRoot schema root → (slot : ℕ) → HasRoot schema m slot root → (test : OpenTransaction → Bool) (t : OpenTransaction) → find test m.transactions ≡ Some t → Claimers schema root slot test m.transactions t
claimers_of schema m reached root is_root slot has test t found =
    let sp = split_found test m.transactions t found in
    let claim = claim_here schema m reached root is_root slot has in
    let old : filter (claims schema root slot) m.transactions ≡ filter (claims schema root slot) sp.front ++ cond (claims schema root slot t) (t ∷ filter (claims schema root slot) sp.back) (filter (claims schema root slot) sp.back) =
    ap (filter (claims schema root slot)) sp.whole ∙ filter-append (claims schema root slot) sp.front (t ∷ sp.back) in
    claimers_among schema root slot test m.transactions t (filter (claims schema root slot) sp.front) (filter (claims schema root slot) sp.back) old
    (λ change. ap (filter (claims schema root slot)) (sp.changed change) ∙ filter-append (claims schema root slot) sp.front (change t ∷ sp.back))
    (ap (filter (claims schema root slot)) sp.without ∙ filter-append (claims schema root slot) sp.front sp.back)
    (λ is. let a = alone schema root claim.0 (commits_at schema root m.log) (filter (claims schema root slot) sp.front) (filter (claims schema root slot) sp.back) t
    (subst (IsClaim schema root claim.0 (commits_at schema root m.log)) (old ∙ ap (λ b. filter (claims schema root slot) sp.front ++ cond b (t ∷ filter (claims schema root slot) sp.back) (filter (claims schema root slot) sp.back)) is) claim.1) in (a.0, a.1))

-- ---- above the horizon

-- a commit of a transaction that is prepared at a slot is above what the prepare timestamps there are above
pub late : (slot s ts : ℕ) (ps : List Prepared) → list_any (λ p. p.slot == slot) ps ≡ true → AllByRecursion (λ p. p.slot ≡ slot → s < p.timestamp) ps → AllByRecursion (λ p. p.timestamp ≤ ts) ps → s < ts
late slot s ts [] = λ e above low. absurd (cc)
late slot s ts (p ∷ ps) = elim (p.slot == slot) as (λ v. (p.slot == slot) ≡ v → (v || list_any (λ p. p.slot == slot) ps) ≡ true → AllByRecursion (λ p. p.slot ≡ slot → s < p.timestamp) (p ∷ ps) → AllByRecursion (λ p. p.timestamp ≤ ts) (p ∷ ps) → s < ts) [
  | true ↦ λ is e above low. let up : s < p.timestamp = above.0 (eqb-true p.slot slot is) in let down : p.timestamp ≤ ts = low.0 in omega arith
  | false ↦ λ is e above low. late slot s ts ps e above.1 low.1
] refl

-- so a commit that is prepared yet is above the horizon
pub above_horizon : (schema : List Table) (m : Machine) → IsReached schema m → (root : Root) → IsRoot schema root → (slot : ℕ) (has : HasRoot schema m slot root) (t : OpenTransaction) (ts : ℕ) → IsIn t m.transactions → is_prepared_at slot t ≡ true → t.decision ≡ decision.Committed ts → has.slot_state.horizon < ts
above_horizon schema m reached root is_root slot has t ts at prepared committed =
    let seal = reached.horizons.sealed slot has.slot_state has.here root is_root has.held in
    let above = all_in (IsAbove has.slot_state.horizon slot) m.transactions t at (seal.prepared slot has.slot_state has.here has.held) in
    let upto : AllByRecursion (λ (p : Prepared). p.timestamp ≤ ts) t.prepared = subst (λ o. IsUpto o t.prepared) committed (all_in (IsHolding (length m.slots)) m.transactions t at reached.holding).timely in
    late slot has.slot_state.horizon ts t.prepared prepared above upto
