-- How many versions are kept with some writes more.
use Rattle.std.proofs.Common.{◌≡◌, ℕ, ◌+◌, ◌≤◌, Bool, true, false, cond, List, [], ◌∷◌, ◌++◌, Option, Some, None, length, refl, ap, arith, inl, inr}
use Rattle.std.specs.Prelude.{find, is_some}
use Rattle.std.specs.declared.cmp.Ordering.{Ordering}
use Rattle.std.specs.declared.cmp.Ordering.TheVariants.{Less, Equal, Greater}
use Rattle.std.specs.Ordering.{is_eq}
use Rattle.std.proofs.lemmas.List.Sums.{sum_by-cons}
use Rattle.span_value.specs.declared.refusal.Refusal.{Refusal}
use Rattle.span_keycode.specs.Order.{byte_order}
use Rattle.span_store.specs.declared.chain.PreparedWrite.{PreparedWrite}
use Rattle.span_store.specs.declared.write.Write.{Write}
use Rattle.span_store.specs.KeyVersions.{KeyVersions}
use Rattle.span_store.specs.Versions.{with_prepared}
use Rattle.span_store.specs.KeyLists.{is_key, prepared_of, prepared_at, by_order, new_key, prepared_write, with_write, kept_of, live, IsPutRefused}
use Rattle.span_shard.specs.Shard.{with_writes, ArePutsRefused}

-- ---- how many there are with a write more

more_kept : (w : PreparedWrite) (c : KeyVersions) → kept_of c ≤ kept_of (with_prepared w c)
more_kept w c = by (is_some c.prepared)
  where
    by : (b : Bool) → length c.versions + cond b 1 0 ≤ length c.versions + 1
    by true = omega arith
    by false = omega arith

one_more : (w : PreparedWrite) (c : KeyVersions) → c.prepared ≡ None → kept_of (with_prepared w c) ≡ kept_of c + 1
one_more w c none =
    let e : kept_of c ≡ length c.versions + 0 = ap (λ (o : Option PreparedWrite). length c.versions + cond (is_some o) 1 0) none in
    omega (arith, e)

pub live_more : (txn : ℕ) (w : Write) (cs : List KeyVersions) → live cs ≤ live (with_write txn w cs)
live_more txn w [] = omega (arith, sum_by-cons kept_of (new_key txn w) [])
live_more txn w (c ∷ cs) =
    elim (byte_order w.key c.key) as (λ o. live (c ∷ cs) ≤ live (by_order o (new_key txn w ∷ c ∷ cs) (with_prepared (prepared_write txn w) c ∷ cs) (c ∷ with_write txn w cs))) [
      | Less ↦ omega (arith, sum_by-cons kept_of (new_key txn w) (c ∷ cs))
      | Equal ↦ omega (arith, sum_by-cons kept_of c cs, sum_by-cons kept_of (with_prepared (prepared_write txn w) c) cs, more_kept (prepared_write txn w) c)
      | Greater ↦ omega (arith, sum_by-cons kept_of c cs, sum_by-cons kept_of c (with_write txn w cs), live_more txn w cs)
    ]

pub live_one_more : (txn : ℕ) (w : Write) (cs : List KeyVersions) → prepared_at cs w.key ≡ None → live (with_write txn w cs) ≡ live cs + 1
live_one_more txn w [] none = omega (arith, sum_by-cons kept_of (new_key txn w) [])
live_one_more txn w (c ∷ cs) none = cases (byte_order w.key c.key) refl none (live_one_more txn w cs)
  where
    cases : (o : Ordering) → byte_order w.key c.key ≡ o → prepared_of (cond (is_eq o) (Some c) (find (is_key w.key) cs)) ≡ None → (prepared_at cs w.key ≡ None → live (with_write txn w cs) ≡ live cs + 1)
        → live (by_order o (new_key txn w ∷ c ∷ cs) (with_prepared (prepared_write txn w) c ∷ cs) (c ∷ with_write txn w cs)) ≡ live (c ∷ cs) + 1
    cases Less is vacant again = omega (arith, sum_by-cons kept_of (new_key txn w) (c ∷ cs))
    cases Equal is vacant again = omega (arith, sum_by-cons kept_of c cs, sum_by-cons kept_of (with_prepared (prepared_write txn w) c) cs, one_more (prepared_write txn w) c vacant)
    cases Greater is vacant again = omega (arith, sum_by-cons kept_of c cs, sum_by-cons kept_of c (with_write txn w cs), again vacant)

pub live_all_more : (txn : ℕ) (xs ys : List Write) (cs : List KeyVersions) → live (with_writes txn ys cs) ≤ live (with_writes txn (xs ++ ys) cs)
live_all_more txn [] ys cs = omega arith
live_all_more txn (x ∷ xs) ys cs = omega (arith, live_all_more txn xs ys cs, live_more txn x (with_writes txn (xs ++ ys) cs))

-- one write of many is refused
pub puts_refused : (txn : ℕ) (ws front rest : List Write) (w : Write) (cs st : List KeyVersions) (why : Refusal) → st ≡ with_writes txn rest cs → front ++ w ∷ rest ≡ ws → IsPutRefused st w.key why → ArePutsRefused txn ws cs why
puts_refused txn ws front rest w cs st why is whole refused = elim refused [
  | inl memory ↦ inl memory
  | inr full ↦ (
      let here : live (with_write txn w st) ≡ live st + 1 = live_one_more txn w st full.1 in
      let then : live (with_write txn w st) ≡ live (with_writes txn (w ∷ rest) cs) = ap (λ (l : List KeyVersions). live (with_write txn w l)) is in
      let all : live (with_writes txn (front ++ w ∷ rest) cs) ≡ live (with_writes txn ws cs) = ap (λ (l : List Write). live (with_writes txn l cs)) whole in
      inr (full.0, omega (arith, here, then, all, full.2, live_all_more txn front (w ∷ rest) cs)))
]
