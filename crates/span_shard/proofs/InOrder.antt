-- The keys of a shard stay in order.
use Rattle.std.proofs.Common.{◌≡◌, ℕ, true, false, cond, ◌==◌, List, [], ◌∷◌, Option, Some, None, refl, ap, ◌∙◌}
use Rattle.std.specs.Prelude.{map}
use Rattle.std.specs.List.{AllByRecursion}
use Rattle.std.specs.declared.cmp.Ordering.TheVariants.{Less, Equal, Greater}
use Rattle.std.specs.Ordering.{ordering_reverse}
use Rattle.span_keycode.specs.Order.{byte_order}
use Rattle.span_mutate.proofs.Placing.{rising_filter}
use Rattle.span_maderows.proofs.Bytes.{bytes_total}
use Rattle.span_store.specs.declared.chain.PreparedWrite.{PreparedWrite}
use Rattle.span_store.specs.declared.write.Write.{Write}
use Rattle.span_store.specs.KeyVersions.{KeyVersions}
use Rattle.span_store.specs.Versions.{is_used, with_prepared, with_version, applied_write, applied_to_key}
use Rattle.span_store.specs.KeyLists.{keys_cmp, AreInOrder, by_order, new_key, prepared_write, with_write, trimmed_key}
use Rattle.span_shard.specs.Shard.{with_writes, applied, trimmed}

-- ---- prepare

all_with_write : (d : KeyVersions) (txn : ℕ) (w : Write) (cs : List KeyVersions) → byte_order d.key w.key ≡ Less → AllByRecursion (λ c. keys_cmp d c ≡ Less) cs → AllByRecursion (λ c. keys_cmp d c ≡ Less) (with_write txn w cs)
all_with_write d txn w [] e h = (e, tt)
all_with_write d txn w (c ∷ cs) e h =
    elim (byte_order w.key c.key) as (λ o. AllByRecursion (λ c. keys_cmp d c ≡ Less) (by_order o (new_key txn w ∷ c ∷ cs) (with_prepared (prepared_write txn w) c ∷ cs) (c ∷ with_write txn w cs))) [
      | Less ↦ (e, h)
      | Equal ↦ (h.0, h.1)
      | Greater ↦ (h.0, all_with_write d txn w cs e h.1)
    ]

all_following : (key : List ℕ) (c : KeyVersions) (cs : List KeyVersions) → byte_order key c.key ≡ Less → AllByRecursion (λ d. keys_cmp c d ≡ Less) cs → AllByRecursion (λ (d : KeyVersions). byte_order key d.key ≡ Less) cs
all_following key c [] e h = tt
all_following key c (d ∷ cs) e h = (bytes_total.trans key c.key d.key e h.0, all_following key c cs e h.1)

pub in_order_with_write : (txn : ℕ) (w : Write) (cs : List KeyVersions) → AreInOrder cs → AreInOrder (with_write txn w cs)
in_order_with_write txn w [] h = (tt, tt)
in_order_with_write txn w (c ∷ cs) h =
    elim (byte_order w.key c.key) as (λ o. byte_order w.key c.key ≡ o → AreInOrder (by_order o (new_key txn w ∷ c ∷ cs) (with_prepared (prepared_write txn w) c ∷ cs) (c ∷ with_write txn w cs))) [
      | Less ↦ λ e. ((e, all_following w.key c cs e h.0), h)
      | Equal ↦ λ e. (h.0, h.1)
      | Greater ↦ λ e. (all_with_write c txn w cs (bytes_total.antisymm c.key w.key ∙ ap ordering_reverse e) h.0, in_order_with_write txn w cs h.1)
    ] refl

pub in_order_with_writes : (txn : ℕ) (ws : List Write) (cs : List KeyVersions) → AreInOrder cs → AreInOrder (with_writes txn ws cs)
in_order_with_writes txn [] cs h = h
in_order_with_writes txn (w ∷ ws) cs h = in_order_with_write txn w (with_writes txn ws cs) (in_order_with_writes txn ws cs h)

-- ---- apply

pub key_stays : (txn : ℕ) (committed : Option ℕ) (c : KeyVersions) → (applied_to_key txn committed c).key ≡ c.key
key_stays txn committed c = by_prepared c.prepared
  where
    by_prepared : (p : Option PreparedWrite) → (applied_write p txn committed c).key ≡ c.key
    by_prepared None = refl
    by_prepared (Some w) = elim (w.txn == txn) as (λ b. (cond b (record c { versions = with_version committed w.row c.versions; prepared = None }) c).key ≡ c.key) [ true ↦ refl | false ↦ refl ]

all_mapped : (d : KeyVersions) (txn : ℕ) (committed : Option ℕ) (cs : List KeyVersions) → AllByRecursion (λ c. keys_cmp d c ≡ Less) cs → AllByRecursion (λ c. keys_cmp (applied_to_key txn committed d) c ≡ Less) (map (applied_to_key txn committed) cs)
all_mapped d txn committed [] h = tt
all_mapped d txn committed (c ∷ cs) h =
    (ap (λ (k : List ℕ). byte_order k (applied_to_key txn committed c).key) (key_stays txn committed d) ∙ ap (byte_order d.key) (key_stays txn committed c) ∙ h.0, all_mapped d txn committed cs h.1)

in_order_mapped : (txn : ℕ) (committed : Option ℕ) (cs : List KeyVersions) → AreInOrder cs → AreInOrder (map (applied_to_key txn committed) cs)
in_order_mapped txn committed [] h = tt
in_order_mapped txn committed (c ∷ cs) h = (all_mapped c txn committed cs h.0, in_order_mapped txn committed cs h.1)

pub in_order_applied : (txn : ℕ) (committed : Option ℕ) (cs : List KeyVersions) → AreInOrder cs → AreInOrder (applied txn committed cs)
in_order_applied txn committed cs h = rising_filter keys_cmp is_used (map (applied_to_key txn committed) cs) (in_order_mapped txn committed cs h)

-- ---- trim

all_trimmed : (d : KeyVersions) (h : ℕ) (cs : List KeyVersions) → AllByRecursion (λ c. keys_cmp d c ≡ Less) cs → AllByRecursion (λ c. keys_cmp (trimmed_key h d) c ≡ Less) (map (trimmed_key h) cs)
all_trimmed d h [] all = tt
all_trimmed d h (c ∷ cs) all = (all.0, all_trimmed d h cs all.1)

in_order_each_trimmed : (h : ℕ) (cs : List KeyVersions) → AreInOrder cs → AreInOrder (map (trimmed_key h) cs)
in_order_each_trimmed h [] up = tt
in_order_each_trimmed h (c ∷ cs) up = (all_trimmed c h cs up.0, in_order_each_trimmed h cs up.1)

pub in_order_trimmed : (h : ℕ) (cs : List KeyVersions) → AreInOrder cs → AreInOrder (trimmed h cs)
in_order_trimmed h cs up = rising_filter keys_cmp is_used (map (trimmed_key h) cs) (in_order_each_trimmed h cs up)
