use Rattle.std.proofs.Common.{◌≡◌, ℕ, ◌<◌, ◌≤◌, ◌-◌, max, Bool, true, false, cond, not, ◌&&◌, ◌||◌, ◌==◌, nat_le, List, [], ◌∷◌, ◌++◌, length, Some, None, Ok, Err, refl, ap, sym, ◌∙◌, subst, inl, inr, arith}
use Rattle.std.specs.Prelude.{slice_get, slice_set, find, filter}
use Rattle.std.proofs.lemmas.Bool.Decides.{nat_tests}
use Rattle.std.proofs.lemmas.List.Elements.{filter-append}
use Rattle.std.specs.List.{list_any, list_all}
use Rattle.std.proofs.lemmas.Bool.{or_left, or_right, eq-eqb, and_parts, or_parts}
use Rattle.span_machine.specs.declared.slot.SlotState.{SlotState}
use Rattle.span_machine.specs.declared.transaction.Commit.{Commit}
use Rattle.span_schema.specs.declared.table.Table.{Table}
use Rattle.span_mutate.specs.declared.mutation.CheckedMutation.{CheckedMutation}
use Rattle.span_machine.specs.declared.transaction.Prepared.{Prepared}
use Rattle.span_machine.specs.declared.transaction.OpenTransaction.{OpenTransaction}
use Rattle.span_machine.specs.declared.transaction.Decision.{Decision}
use Rattle.span_machine.specs.declared.transaction.Decision.TheVariants as decision
use Rattle.span_value.specs.Results.{and_then}
use Rattle.span_value.proofs.Lists.{all_filter}
use Rattle.span_mutate.specs.Database.{apply}
use Rattle.span_mutate.specs.Directories.{Root, AreKeyed, directory}
use Rattle.span_machine.specs.Machine.{is_at, root_at}
use Rattle.span_machine.specs.Tables.{upto, mutations_of, tables}
use Rattle.span_machine.specs.Machine.{Machine, has_key, holds, changed_first, without_first, is_prepared_at, greatest, with_last, if_some, have_common_root, mutations_in, mutations_refusal, refusal_of, is_prepared_for, prepare_timestamp}
use Rattle.span_truetime.specs.Limits.{timestamp_end}
use Rattle.span_machine_laws.proofs.Tests.{both_true, no_length}
use Rattle.span_machine_laws.proofs.Lists.{slice_get-set, set_here, split_found, not_nil, both_nil}
use Rattle.span_machine_laws.proofs.Locality.{IsRoot, own_root, apply-directory, apply-database, empty_database}
use Rattle.span_machine_laws.proofs.Stability.{changes_at, touches, is_some_of}
use Rattle.span_machine_laws.proofs.InPlace.{IsBelow, IsUnder, IsRising, Succeeds, commits_at, claims, IsPromised, IsClaimed, IsClaim, below_up, greatest_push, apply-append, changes_at-upto}
use Rattle.span_schema.specs.Lineages.{MeetsRules}

-- ---- slot states

-- a slot state in the place of another, with no lower last
pub record Lifts (old new : List SlotState) : Type 0 where
  pub from : (i : ℕ) (b : SlotState) → slice_get new i ≡ Some b → (a : SlotState) × (slice_get old i ≡ Some a) × (a.last ≤ b.last) × ((key : List ℕ) → has_key b key ≡ has_key a key)

pub lifts_same : (slots : List SlotState) → Lifts slots slots
lifts_same slots = record { from = λ i b h. (b, h, omega arith, λ key. refl) }

pub lifts_set : (slots : List SlotState) (slot : ℕ) (a b : SlotState) → slice_get slots slot ≡ Some a → a.last ≤ b.last → ((key : List ℕ) → has_key b key ≡ has_key a key) → Lifts slots (slice_set slots slot b)
lifts_set slots slot a b here low range = record {
  from = λ i c h. elim (slice_get-set slots slot i b c h) [
    | inl e ↦ (a, ap (slice_get slots) e.0 ∙ here, subst (λ (d : SlotState). a.last ≤ d.last) (sym e.1) low, λ key. ap (λ (d : SlotState). has_key d key) e.1 ∙ range key)
    | inr g ↦ (c, g, omega arith, λ key. refl)
  ];
}

pub lifts_last : (slots : List SlotState) (slot ts : ℕ) → Lifts slots (with_last slots slot ts)
lifts_last slots slot ts = elim (slice_get slots slot) as (λ o. slice_get slots slot ≡ o → Lifts slots (if_some o slots (λ slot_state. slice_set slots slot (record slot_state { last = max slot_state.last ts })))) [
  | None ↦ λ e. lifts_same slots
  | Some slot_state ↦ λ e. lifts_set slots slot slot_state (record slot_state { last = max slot_state.last ts }) e (omega arith) (λ key. refl)
] refl

-- the state of the slot itself rises to ts
pub last_here : (slots : List SlotState) (slot ts : ℕ) (b : SlotState) → slice_get (with_last slots slot ts) slot ≡ Some b → ts ≤ b.last
last_here slots slot ts b = elim (slice_get slots slot) as (λ o. slice_get slots slot ≡ o → slice_get (if_some o slots (λ slot_state. slice_set slots slot (record slot_state { last = max slot_state.last ts }))) slot ≡ Some b → ts ≤ b.last) [
  | None ↦ λ e h. absurd (cc)
  | Some slot_state ↦ λ e h. let is : b ≡ record slot_state { last = max slot_state.last ts } = set_here slots slot (record slot_state { last = max slot_state.last ts }) b h in subst (λ (c : SlotState). ts ≤ c.last) (sym is) (omega arith)
] refl

-- ---- claims

pub promised_up : (schema : List Table) (root : Root) (n k : ℕ) (cs : List Commit) (t : OpenTransaction) → n ≤ k → IsPromised schema root n cs t → IsPromised schema root k cs t
promised_up schema root n k cs t low p = record { below = below_up n k cs low p.below; under = p.under; through = p.through }

pub claimed_up : (schema : List Table) (root : Root) (n k : ℕ) (cs : List Commit) (t : OpenTransaction) (o : Decision) → n ≤ k → IsClaimed schema root n cs t o → IsClaimed schema root k cs t o
claimed_up schema root n k cs t decision.Undecided low h = promised_up schema root n k cs t low h
claimed_up schema root n k cs t (decision.Committed ts) low h = below_up (max n ts) (max k ts) cs (omega arith) h
claimed_up schema root n k cs t decision.Aborted low h = below_up n k cs low h

pub claim_up : (schema : List Table) (root : Root) (n k : ℕ) (cs : List Commit) (ts : List OpenTransaction) → n ≤ k → IsClaim schema root n cs ts → IsClaim schema root k cs ts
claim_up schema root n k cs [] low h = below_up n k cs low h
claim_up schema root n k cs (t ∷ ts) low h = (h.0, claimed_up schema root n k cs t t.decision low h.1)

-- where one is there, it is alone
pub alone : (schema : List Table) (root : Root) (n : ℕ) (cs : List Commit) (xs ys : List OpenTransaction) (t : OpenTransaction) → IsClaim schema root n cs (xs ++ t ∷ ys) → (xs ≡ []) × (ys ≡ []) × IsClaimed schema root n cs t t.decision
alone schema root n cs [] ys t h = (refl, h.0, h.1)
alone schema root n cs (x ∷ xs) ys t h = absurd (not_nil xs ys t h.0)

-- what a change of one transaction owes, by whether it claims before (a) and after (b)
pub record Changes (schema : List Table) (root : Root) (n k : ℕ) (cs ds : List Commit) (rest : List OpenTransaction) (t u : OpenTransaction) (a b : Bool) : Type 0 where
  pub neither : a ≡ false → b ≡ false → (n ≤ k) × (cs ≡ ds)
  pub both : a ≡ true → b ≡ true → IsClaimed schema root n cs t t.decision → IsClaimed schema root k ds u u.decision
  pub leaves : a ≡ true → b ≡ false → IsClaimed schema root n cs t t.decision → IsBelow k ds
  pub comes : a ≡ false → b ≡ true → (rest ≡ []) × (IsBelow n cs → IsClaimed schema root k ds u u.decision)

pub claim_changed : (schema : List Table) (root : Root) (n k : ℕ) (cs ds : List Commit) (xs ys : List OpenTransaction) (t u : OpenTransaction) (a b : Bool) → Changes schema root n k cs ds (xs ++ ys) t u a b
    → IsClaim schema root n cs (xs ++ cond a (t ∷ ys) ys) → IsClaim schema root k ds (xs ++ cond b (u ∷ ys) ys)
claim_changed schema root n k cs ds xs ys t u false false ch h =
    let e = ch.neither refl refl in claim_up schema root n k ds (xs ++ ys) e.0 (subst (λ l. IsClaim schema root n l (xs ++ ys)) e.1 h)
claim_changed schema root n k cs ds xs ys t u true true ch h =
    let one = alone schema root n cs xs ys t h in
    subst (λ l. IsClaim schema root k ds (l ++ u ∷ ys)) (sym one.0) (one.1, ch.both refl refl one.2)
claim_changed schema root n k cs ds xs ys t u true false ch h =
    let one = alone schema root n cs xs ys t h in
    subst (λ l. IsClaim schema root k ds (l ++ ys)) (sym one.0) (subst (λ l. IsClaim schema root k ds l) (sym one.1) (ch.leaves refl refl one.2))
claim_changed schema root n k cs ds xs ys t u false true ch h =
    let e = ch.comes refl refl in
    let none = both_nil xs ys e.0 in
    let low : IsBelow n cs = subst (λ l. IsClaim schema root n cs l) e.0 h in
    subst (λ l. IsClaim schema root k ds (l ++ u ∷ ys)) (sym none.0) (none.1, e.1 low)

-- the claims of the transactions, the found one changed
pub claim_first : (schema : List Table) (root : Root) (slot n k : ℕ) (cs ds : List Commit) (test : OpenTransaction → Bool) (change : OpenTransaction → OpenTransaction) (ts : List OpenTransaction) (t : OpenTransaction) → find test ts ≡ Some t
    → ((rest : List OpenTransaction) → (claims schema root slot t ≡ false → rest ≡ filter (claims schema root slot) ts) → Changes schema root n k cs ds rest t (change t) (claims schema root slot t) (claims schema root slot (change t)))
    → IsClaim schema root n cs (filter (claims schema root slot) ts) → IsClaim schema root k ds (filter (claims schema root slot) (changed_first test change ts))
claim_first schema root slot n k cs ds test change ts t found ch h =
    let sp = split_found test ts t found in
    let q : OpenTransaction → Bool = claims schema root slot in
    let old : filter q ts ≡ filter q sp.front ++ cond (q t) (t ∷ filter q sp.back) (filter q sp.back) = ap (filter q) sp.whole ∙ filter-append q sp.front (t ∷ sp.back) in
    let new : filter q (changed_first test change ts) ≡ filter q sp.front ++ cond (q (change t)) (change t ∷ filter q sp.back) (filter q sp.back) = ap (filter q) (sp.changed change) ∙ filter-append q sp.front (change t ∷ sp.back) in
    subst (IsClaim schema root k ds) (sym new)
    (claim_changed schema root n k cs ds (filter q sp.front) (filter q sp.back) t (change t) (q t) (q (change t))
    (ch (filter q sp.front ++ filter q sp.back) (λ e. sym (old ∙ ap (λ b. filter q sp.front ++ cond b (t ∷ filter q sp.back) (filter q sp.back)) e)))
    (subst (IsClaim schema root n cs) old h))

-- the found one removed
pub claim_without : (schema : List Table) (root : Root) (slot n k : ℕ) (cs : List Commit) (test : OpenTransaction → Bool) (ts : List OpenTransaction) (t : OpenTransaction) → find test ts ≡ Some t → n ≤ k
    → (claims schema root slot t ≡ true → IsClaimed schema root n cs t t.decision → IsBelow k cs)
    → IsClaim schema root n cs (filter (claims schema root slot) ts) → IsClaim schema root k cs (filter (claims schema root slot) (without_first test ts))
claim_without schema root slot n k cs test ts t found low leaves h =
    let sp = split_found test ts t found in
    let q : OpenTransaction → Bool = claims schema root slot in
    let old : filter q ts ≡ filter q sp.front ++ cond (q t) (t ∷ filter q sp.back) (filter q sp.back) = ap (filter q) sp.whole ∙ filter-append q sp.front (t ∷ sp.back) in
    let new : filter q (without_first test ts) ≡ filter q sp.front ++ filter q sp.back = ap (filter q) sp.without ∙ filter-append q sp.front sp.back in
    subst (IsClaim schema root k cs) (sym new)
    (claim_changed schema root n k cs cs (filter q sp.front) (filter q sp.back) t t (q t) false
    (record { neither = λ a b. (low, refl); both = λ a b. absurd (cc); leaves = λ a b g. leaves a g; comes = λ a b. absurd (cc) })
    (subst (IsClaim schema root n cs) old h))

-- ---- tests

pub some_any : (schema : List Table) (root : Root) (ms : List CheckedMutation) → is_some_of (filter (is_at schema root) ms) ≡ true → list_any (is_at schema root) ms ≡ true
some_any schema root [] e = e
some_any schema root (m ∷ ms) e = elim (is_at schema root m) as (λ v. is_some_of (cond v (m ∷ filter (is_at schema root) ms) (filter (is_at schema root) ms)) ≡ true → (v || list_any (is_at schema root) ms) ≡ true) [
  | true ↦ λ e. refl
  | false ↦ λ e. some_any schema root ms e
] e

-- ---- mutations of one directory

-- lists that both change the directory have it in common
pub common : (schema : List Table) (root : Root) (is : IsRoot schema root) (ms ns : List CheckedMutation) → is_some_of (filter (is_at schema root) ms) ≡ true → is_some_of (filter (is_at schema root) ns) ≡ true → have_common_root schema ms ns ≡ true
common schema root is [] ns = λ e f. cc
common schema root is (m ∷ ms) ns = elim (is_at schema root m) as (λ v. is_at schema root m ≡ v → is_some_of (cond v (m ∷ filter (is_at schema root) ms) (filter (is_at schema root) ms)) ≡ true → is_some_of (filter (is_at schema root) ns) ≡ true → (list_any (is_at schema (root_at schema m)) ns || have_common_root schema ms ns) ≡ true) [
  | true ↦ λ at e f. or_left (list_any (is_at schema (root_at schema m)) ns) (have_common_root schema ms ns) (subst (λ (q : Root). list_any (is_at schema q) ns ≡ true) (own_root schema root m is at) (some_any schema root ns f))
  | false ↦ λ at e f. or_right (list_any (is_at schema (root_at schema m)) ns) (have_common_root schema ms ns) (common schema root is ms ns e f)
] refl

-- without a conflict no transaction claims the directory
pub unclaimed : (schema : List Table) (root : Root) (is : IsRoot schema root) (slot : ℕ) (ms : List CheckedMutation) (ts : List OpenTransaction) → is_some_of (filter (is_at schema root) ms) ≡ true
    → list_any (λ t. is_prepared_at slot t && have_common_root schema ms t.mutations) ts ≡ false → filter (claims schema root slot) ts ≡ []
unclaimed schema root is slot ms [] some e = refl
unclaimed schema root is slot ms (t ∷ ts) some e =
    elim (claims schema root slot t) as (λ v. claims schema root slot t ≡ v → cond v (t ∷ filter (claims schema root slot) ts) (filter (claims schema root slot) ts) ≡ []) [
      | true ↦ λ yes.
          let shared : have_common_root schema ms t.mutations ≡ true = common schema root is ms t.mutations some (and_parts (is_prepared_at slot t) (is_some_of (filter (is_at schema root) t.mutations)) yes).1 in
          let at : is_prepared_at slot t ≡ true = (and_parts (is_prepared_at slot t) (is_some_of (filter (is_at schema root) t.mutations)) yes).0 in
          let no : (is_prepared_at slot t && have_common_root schema ms t.mutations) ≡ false = (or_parts (is_prepared_at slot t && have_common_root schema ms t.mutations) _ e).0 in
          absurd (both_true (is_prepared_at slot t) (have_common_root schema ms t.mutations) at shared no)
      | false ↦ λ no_claim. unclaimed schema root is slot ms ts some (or_parts (is_prepared_at slot t && have_common_root schema ms t.mutations) _ e).1
    ] refl

-- where nothing is prepared at the slot, nothing claims the directory there
pub unclaimed_idle : (schema : List Table) (root : Root) (slot : ℕ) (ts : List OpenTransaction) → list_any (is_prepared_at slot) ts ≡ false → filter (claims schema root slot) ts ≡ []
unclaimed_idle schema root slot [] e = refl
unclaimed_idle schema root slot (t ∷ ts) e =
    ap (λ b. cond (b && is_some_of (filter (is_at schema root) t.mutations)) (t ∷ filter (claims schema root slot) ts) (filter (claims schema root slot) ts)) (or_parts (is_prepared_at slot t) (list_any (is_prepared_at slot) ts) e).0
    ∙ unclaimed_idle schema root slot ts (or_parts (is_prepared_at slot t) (list_any (is_prepared_at slot) ts) e).1

-- the mutations in the range of a slot that holds the root have all of the directory's
pub all_held : (schema : List Table) (root : Root) (is : IsRoot schema root) (slot_state : SlotState) (ms : List CheckedMutation) → holds schema slot_state root ≡ true → filter (is_at schema root) (mutations_in schema slot_state ms) ≡ filter (is_at schema root) ms
all_held schema root is slot_state [] held = refl
all_held schema root is slot_state (m ∷ ms) held = elim (is_at schema root m) as (λ v. is_at schema root m ≡ v → filter (is_at schema root) (cond (holds schema slot_state (root_at schema m)) (m ∷ mutations_in schema slot_state ms) (mutations_in schema slot_state ms)) ≡ cond v (m ∷ filter (is_at schema root) ms) (filter (is_at schema root) ms)) [
  | true ↦ λ at.
      let here : holds schema slot_state (root_at schema m) ≡ true = subst (λ (q : Root). holds schema slot_state q ≡ true) (own_root schema root m is at) held in
      ap (λ b. filter (is_at schema root) (cond b (m ∷ mutations_in schema slot_state ms) (mutations_in schema slot_state ms))) here ∙ ap (λ b. cond b (m ∷ filter (is_at schema root) (mutations_in schema slot_state ms)) (filter (is_at schema root) (mutations_in schema slot_state ms))) at ∙ ap (λ l. m ∷ l) (all_held schema root is slot_state ms held)
  | false ↦ λ at. elim (holds schema slot_state (root_at schema m)) as (λ b. filter (is_at schema root) (cond b (m ∷ mutations_in schema slot_state ms) (mutations_in schema slot_state ms)) ≡ filter (is_at schema root) ms) [
    | true ↦ ap (λ b. cond b (m ∷ filter (is_at schema root) (mutations_in schema slot_state ms)) (filter (is_at schema root) (mutations_in schema slot_state ms))) at ∙ all_held schema root is slot_state ms held
    | false ↦ all_held schema root is slot_state ms held
  ]
] refl

-- a commit at the log's end
pub commits_at-push : (schema : List Table) (root : Root) (log : List Commit) (c : Commit) → commits_at schema root (log ++ c ∷ []) ≡ commits_at schema root log ++ cond (touches schema root c) (c ∷ []) []
commits_at-push schema root log c = filter-append (touches schema root) log (c ∷ [])

pub all_kept : (s : ℕ) (cs : List Commit) → IsUnder timestamp_end cs → s ≡ timestamp_end - 1 → filter (λ d. nat_le d.timestamp s) cs ≡ cs
all_kept s [] under is = refl
all_kept s (c ∷ cs) under is =
    let low = under.0 in
    let e : nat_le c.timestamp s ≡ true = (let h : c.timestamp ≤ s = omega arith in grind (arith, nat_tests)) in
    rw e (ap (λ l. c ∷ l) (all_kept s cs under.1 is))

pub under_filter : (n : ℕ) (q : Commit → Bool) (cs : List Commit) → IsUnder n cs → IsUnder n (filter q cs)
under_filter n q cs all = all_filter (λ c. c.timestamp < n) q cs all

-- mutations that meet no fault on the tables as they are succeed after the directory's commits
pub go_through : (schema : List Table) → MeetsRules schema → (root : Root) → IsRoot schema root → (m : Machine) (ms : List CheckedMutation) → AreKeyed schema (mutations_of (upto m.log (timestamp_end - 1))) → AreKeyed schema ms
    → IsUnder timestamp_end m.log → IsRising (commits_at schema root m.log) → mutations_refusal schema m ms ≡ None → Succeeds schema (changes_at schema root (commits_at schema root m.log) ++ filter (is_at schema root) ms)
go_through schema rules root is m ms keyed_log keyed under up = elim (tables schema m.log (timestamp_end - 1)) as (λ r. tables schema m.log (timestamp_end - 1) ≡ r → refusal_of (and_then r (λ db. apply schema db ms)) ≡ None
    → Succeeds schema (changes_at schema root (commits_at schema root m.log) ++ filter (is_at schema root) ms)) [
      | Err why ↦ λ e bad. absurd (cc)
      | Ok db ↦ λ e. elim (apply schema db ms) as (λ r. apply schema db ms ≡ r → refusal_of r ≡ None → Succeeds schema (changes_at schema root (commits_at schema root m.log) ++ filter (is_at schema root) ms)) [
        | Err why ↦ λ f bad. absurd (cc)
        | Ok out ↦ λ f ok.
            let all : List CheckedMutation = mutations_of (upto m.log (timestamp_end - 1)) in
            let first : apply schema [] (changes_at schema root (upto m.log (timestamp_end - 1))) ≡ Ok (directory schema root db) =
            apply-directory schema rules all [] db root is (empty_database schema) keyed_log e in
            let same : changes_at schema root (upto m.log (timestamp_end - 1)) ≡ changes_at schema root (commits_at schema root m.log) =
            changes_at-upto schema root m.log (timestamp_end - 1) up ∙ ap (changes_at schema root) (all_kept (timestamp_end - 1) (commits_at schema root m.log) (under_filter timestamp_end (touches schema root) m.log under) refl) in
            let then : apply schema (directory schema root db) (filter (is_at schema root) ms) ≡ Ok (directory schema root out) =
            apply-directory schema rules ms db out root is (apply-database schema rules all [] db (empty_database schema) keyed_log e) keyed f in
            record {
              rows = directory schema root out;
              made = apply-append schema (changes_at schema root (commits_at schema root m.log)) (filter (is_at schema root) ms) [] (directory schema root db)
                  (subst (λ l. apply schema [] l ≡ Ok (directory schema root db)) same first) ∙ then;
            }
      ] refl
    ] refl

-- ---- prepared slots

pub other_slot : (p i slot : ℕ) → (p == i) ≡ true → (i == slot) ≡ false → (p == slot) ≡ false
other_slot p i slot at e = grind (arith, nat_tests)

-- a transaction that is prepared for a mutation of the directory is prepared at the directory's slot, which has a state
pub prepared_slot : (schema : List Table) (m : Machine) (slot : ℕ) (k : Root) → ((i : ℕ) (b : SlotState) → slice_get m.slots i ≡ Some b → holds schema b k ≡ true → i ≡ slot) → (ps : List Prepared)
    → list_any (λ p. if_some (slice_get m.slots p.slot) false (λ slot_state. holds schema slot_state k)) ps ≡ true → (list_any (λ p. p.slot == slot) ps ≡ true) × ((b : SlotState) × (slice_get m.slots slot ≡ Some b))
prepared_slot schema m slot k only [] = λ e. absurd (cc)
prepared_slot schema m slot k only (p ∷ ps) = elim (slice_get m.slots p.slot) as (λ o. slice_get m.slots p.slot ≡ o → (if_some o false (λ slot_state. holds schema slot_state k) || list_any (λ p. if_some (slice_get m.slots p.slot) false (λ slot_state. holds schema slot_state k)) ps) ≡ true
    → (((p.slot == slot) || list_any (λ p. p.slot == slot) ps) ≡ true) × ((b : SlotState) × (slice_get m.slots slot ≡ Some b))) [
      | None ↦ λ is e. let rest = prepared_slot schema m slot k only ps e in (or_right (p.slot == slot) (list_any (λ p. p.slot == slot) ps) rest.0, rest.1)
      | Some b ↦ λ is. elim (holds schema b k) as (λ v. holds schema b k ≡ v → (v || list_any (λ p. if_some (slice_get m.slots p.slot) false (λ slot_state. holds schema slot_state k)) ps) ≡ true
          → (((p.slot == slot) || list_any (λ p. p.slot == slot) ps) ≡ true) × ((b : SlotState) × (slice_get m.slots slot ≡ Some b))) [
            | true ↦ λ held e. let h : p.slot ≡ slot = only p.slot b is held in
                (or_left (p.slot == slot) (list_any (λ p. p.slot == slot) ps) (eq-eqb p.slot slot h), (b, subst (λ i. slice_get m.slots i ≡ Some b) h is))
            | false ↦ λ held e. let rest = prepared_slot schema m slot k only ps e in (or_right (p.slot == slot) (list_any (λ p. p.slot == slot) ps) rest.0, rest.1)
          ] refl
    ] refl

pub prepared_root : (schema : List Table) (root : Root) (is : IsRoot schema root) (m : Machine) (slot : ℕ) (t : OpenTransaction) → ((i : ℕ) (b : SlotState) → slice_get m.slots i ≡ Some b → holds schema b root ≡ true → i ≡ slot) → (ms : List CheckedMutation)
    → is_some_of (filter (is_at schema root) ms) ≡ true → list_all (is_prepared_for schema m t) ms ≡ true → (is_prepared_at slot t ≡ true) × ((b : SlotState) × (slice_get m.slots slot ≡ Some b))
prepared_root schema root is m slot t only [] = λ e all. absurd (cc)
prepared_root schema root is m slot t only (mu ∷ ms) = elim (is_at schema root mu) as (λ v. is_at schema root mu ≡ v → is_some_of (cond v (mu ∷ filter (is_at schema root) ms) (filter (is_at schema root) ms)) ≡ true → (is_prepared_for schema m t mu && list_all (is_prepared_for schema m t) ms) ≡ true
    → (is_prepared_at slot t ≡ true) × ((b : SlotState) × (slice_get m.slots slot ≡ Some b))) [
      | true ↦ λ at e all. prepared_slot schema m slot (root_at schema mu) (λ i b h k. only i b h (subst (λ (q : Root). holds schema b q ≡ true) (sym (own_root schema root mu is at)) k)) t.prepared (and_parts _ _ all).0
      | false ↦ λ at e all. prepared_root schema root is m slot t only ms e (and_parts _ _ all).1
    ] refl

-- prepared at another slot, and prepared there no more
pub away_push : (slot i ts : ℕ) (ps : List Prepared) → (i == slot) ≡ false → list_any (λ p. p.slot == slot) (ps ++ (record { slot = i; timestamp = ts }) ∷ []) ≡ list_any (λ p. p.slot == slot) ps
away_push slot i ts [] e = rw e refl
away_push slot i ts (p ∷ ps) e = ap (λ b. (p.slot == slot) || b) (away_push slot i ts ps e)

pub away_left : (slot i : ℕ) (ps : List Prepared) → (i == slot) ≡ false → list_any (λ p. p.slot == slot) (filter (λ p. not (p.slot == i)) ps) ≡ list_any (λ p. p.slot == slot) ps
away_left slot i [] e = refl
away_left slot i (p ∷ ps) e = elim (p.slot == i) as (λ v. (p.slot == i) ≡ v → list_any (λ p. p.slot == slot) (cond (not v) (p ∷ filter (λ p. not (p.slot == i)) ps) (filter (λ p. not (p.slot == i)) ps)) ≡ ((p.slot == slot) || list_any (λ p. p.slot == slot) ps)) [
  | true ↦ λ at. let off : (p.slot == slot) ≡ false = other_slot p.slot i slot at e in rw off (away_left slot i ps e)
  | false ↦ λ at. ap (λ b. (p.slot == slot) || b) (away_left slot i ps e)
] refl

pub none_left : (slot : ℕ) (ps : List Prepared) → (length ps == 0) ≡ true → list_any (λ p. p.slot == slot) ps ≡ false
none_left slot [] e = refl
none_left slot (p ∷ ps) e = absurd (no_length (length ps) e)

-- what is prepared nowhere at the slot
pub left_slot : (slot : ℕ) (ps : List Prepared) → list_any (λ p. p.slot == slot) (filter (λ p. not (p.slot == slot)) ps) ≡ false
left_slot slot [] = refl
left_slot slot (p ∷ ps) = elim (p.slot == slot) as (λ v. (p.slot == slot) ≡ v → list_any (λ p. p.slot == slot) (cond (not v) (p ∷ filter (λ p. not (p.slot == slot)) ps) (filter (λ p. not (p.slot == slot)) ps)) ≡ false) [
  | true ↦ λ e. left_slot slot ps
  | false ↦ λ e. rw e (left_slot slot ps)
] refl

-- what the found transaction, which claims the directory, says
pub claim_of : (schema : List Table) (root : Root) (slot n : ℕ) (cs : List Commit) (test : OpenTransaction → Bool) (ts : List OpenTransaction) (t : OpenTransaction) → find test ts ≡ Some t → claims schema root slot t ≡ true
    → IsClaim schema root n cs (filter (claims schema root slot) ts) → IsClaimed schema root n cs t t.decision
claim_of schema root slot n cs test ts t found is h =
    let sp = split_found test ts t found in
    let q : OpenTransaction → Bool = claims schema root slot in
    let old : filter q ts ≡ filter q sp.front ++ t ∷ filter q sp.back =
    ap (filter q) sp.whole ∙ filter-append q sp.front (t ∷ sp.back) ∙ ap (λ b. filter q sp.front ++ cond b (t ∷ filter q sp.back) (filter q sp.back)) is in
    (alone schema root n cs (filter q sp.front) (filter q sp.back) t (subst (IsClaim schema root n cs) old h)).2

pub prepared_last : (a slot_state : SlotState) (ps : List Prepared) (slot : ℕ) → a ≡ slot_state → a.last < greatest (ps ++ (record { slot = slot; timestamp = prepare_timestamp slot_state }) ∷ [])
prepared_last a slot_state ps slot same =
    let e : a.last ≡ slot_state.last = ap (λ (c : SlotState). c.last) same in
    let g : prepare_timestamp slot_state ≤ greatest (ps ++ (record { slot = slot; timestamp = prepare_timestamp slot_state }) ∷ []) = greatest_push ps (record { slot = slot; timestamp = prepare_timestamp slot_state }) in
    omega arith
