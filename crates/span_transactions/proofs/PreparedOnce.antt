-- A transaction is prepared once at each slot, so at no more slots than there may be.
use Rattle.std.proofs.Common.{◌≡◌, ℕ, ◌<◌, ◌≤◌, Bool, true, false, cond, not, ◌||◌, ◌==◌, List, [], ◌∷◌, ◌++◌, length, refl, sym, ap, suc, subst, arith, eqb}
use Rattle.std.specs.Prelude.{filter, nat_eq}
use Rattle.std.specs.List.{list_any, AllByRecursion, IsDistinct}
use Rattle.std.proofs.lemmas.Bool.Decides.{Decides-eqb, nat_tests}
use Rattle.std.proofs.lemmas.Map.Keys.{IsDistinct-cons}
use Rattle.std.proofs.lemmas.Map.Made.{IsDistinct-from_AllPairs}
use Rattle.std.proofs.lemmas.List.{length-map}
use Rattle.std.proofs.lemmas.Bool.{eqb-true, or_parts}
use Rattle.std.proofs.lemmas.Map.Steps.{length-le_from_distinct_below}
use Rattle.span_machine.specs.declared.transaction.Prepared.{Prepared}
use Rattle.span_machine.specs.Limits.{most_slots}
use Rattle.span_transactions.specs.Places.{slots_of, AreDifferent, AreOfSlots}

-- ---- one more

all_more : (P : ℕ → Type 0) (ps : List Prepared) (p : Prepared) → AllByRecursion P (slots_of ps) → P p.slot → AllByRecursion P (slots_of (ps ++ p ∷ []))
all_more P [] p all last = (last, tt)
all_more P (q ∷ qs) p all last = (all.0, all_more P qs p all.1 last)

distinct_more : (ps : List Prepared) (p : Prepared) → AreDifferent (slots_of ps) → list_any (λ q. q.slot == p.slot) ps ≡ false → AreDifferent (slots_of (ps ++ p ∷ []))
distinct_more [] p once none = (tt, tt)
distinct_more (q ∷ qs) p once none = (
  all_more (λ n. nat_eq q.slot n ≡ false) qs p once.0 (or_parts (q.slot == p.slot) (list_any (λ r. r.slot == p.slot) qs) none).0,
  distinct_more qs p once.1 (or_parts (q.slot == p.slot) (list_any (λ r. r.slot == p.slot) qs) none).1,
)

-- with one more slot, where the transaction is not prepared
pub once_more : (ps : List Prepared) (p : Prepared) → AreOfSlots ps → list_any (λ q. q.slot == p.slot) ps ≡ false → p.slot < most_slots → AreOfSlots (ps ++ p ∷ [])
once_more ps p are none low = record {
  once = distinct_more ps p are.once none;
  low = all_more (λ n. n < most_slots) ps p are.low low;
}

-- ---- fewer

all_fewer : (P : ℕ → Type 0) (test : Prepared → Bool) (ps : List Prepared) → AllByRecursion P (slots_of ps) → AllByRecursion P (slots_of (filter test ps))
all_fewer P test [] all = tt
all_fewer P test (p ∷ ps) all = elim (test p) as (λ b. AllByRecursion P (slots_of (cond b (p ∷ filter test ps) (filter test ps)))) [
  | true ↦ (all.0, all_fewer P test ps all.1)
  | false ↦ all_fewer P test ps all.1
]

distinct_fewer : (test : Prepared → Bool) (ps : List Prepared) → AreDifferent (slots_of ps) → AreDifferent (slots_of (filter test ps))
distinct_fewer test [] once = tt
distinct_fewer test (p ∷ ps) once = elim (test p) as (λ b. AreDifferent (slots_of (cond b (p ∷ filter test ps) (filter test ps)))) [
  | true ↦ (all_fewer (λ n. nat_eq p.slot n ≡ false) test ps once.0, distinct_fewer test ps once.1)
  | false ↦ distinct_fewer test ps once.1
]

-- without the slots that fail a test
pub once_fewer : (test : Prepared → Bool) (ps : List Prepared) → AreOfSlots ps → AreOfSlots (filter test ps)
once_fewer test ps are = record {
  once = distinct_fewer test ps are.once;
  low = all_fewer (λ n. n < most_slots) test ps are.low;
}

-- ---- how many

low_member : (ns : List ℕ) (n : ℕ) → AllByRecursion (λ m. m < most_slots) ns → list_any (eqb n) ns ≡ true → n < most_slots
low_member [] n low = λ e. absurd (cc)
low_member (m ∷ ms) n low = elim (eqb n m) as (λ b. eqb n m ≡ b → (b || list_any (eqb n) ms) ≡ true → n < most_slots) [
  | true ↦ λ same e. subst (λ k. k < most_slots) (sym (eqb-true n m same)) low.0
  | false ↦ λ other e. low_member ms n low.1 e
] refl

to_distinct : (ns : List ℕ) → AreDifferent ns → IsDistinct eqb ns
to_distinct [] different = IsDistinct-from_AllPairs Decides-eqb [] (λ i j d below within. absurd (omega arith))
to_distinct (n ∷ ns) different = IsDistinct-cons eqb n ns different.0 (to_distinct ns different.1)

-- at most at as many as there may be
pub once_few : (ps : List Prepared) → AreOfSlots ps → length ps ≤ most_slots
once_few ps are =
    subst (λ n. n ≤ most_slots) (length-map ps (λ (p : Prepared). p.slot))
    (length-le_from_distinct_below (slots_of ps) most_slots (to_distinct (slots_of ps) are.once) (λ n inside. low_member (slots_of ps) n are.low inside))

-- so one more is within the limit
pub one_more_fits : (ps : List Prepared) (p : Prepared) → AreOfSlots ps → list_any (λ q. q.slot == p.slot) ps ≡ false → p.slot < most_slots → length ps < most_slots
one_more_fits ps p are none low =
    let few : length (ps ++ p ∷ []) ≤ most_slots = once_few (ps ++ p ∷ []) (once_more ps p are none low) in
    grind (arith, few, one_longer ps p)
  where
    one_longer : (qs : List Prepared) (q : Prepared) → length (qs ++ q ∷ []) ≡ suc (length qs)
    one_longer [] q = refl
    one_longer (r ∷ rs) q = ap suc (one_longer rs q)

-- ---- elsewhere

-- a list has an element that passes, or none is left of it
pub any_left : (slot : ℕ) (ps : List Prepared) → list_any (λ p. not (p.slot == slot)) ps ≡ not (length (filter (λ p. not (p.slot == slot)) ps) == 0)
any_left slot [] = refl
any_left slot (p ∷ ps) = elim (not (p.slot == slot)) as (λ b. (b || list_any (λ p. not (p.slot == slot)) ps) ≡ not (length (cond b (p ∷ filter (λ p. not (p.slot == slot)) ps) (filter (λ p. not (p.slot == slot)) ps)) == 0)) [
  | true ↦ some_length (filter (λ p. not (p.slot == slot)) ps)
  | false ↦ any_left slot ps
]
  where
    some_length : (xs : List Prepared) → true ≡ not (length (p ∷ xs) == 0)
    some_length xs = grind (arith, nat_tests)
