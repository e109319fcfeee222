use Rattle.std.proofs.Common.{◌≡◌, ℕ, Bool, true, false, cond, ◌==◌, List, [], ◌∷◌, ◌++◌, Option, Some, None, refl, ap, sym, ◌∙◌, subst}
use Rattle.std.specs.Prelude.{filter, map, is_some, not}
use Rattle.std.specs.List.{AllByRecursion}
use Rattle.span_keycode.specs.Order.{byte_order}
use Rattle.std.specs.declared.cmp.Ordering.TheVariants.{Less, Equal, Greater}
use Rattle.std.proofs.lemmas.Map.Lookups.{exact_bytes}
use Rattle.span_schema.specs.declared.table.Table.{Table}
use Rattle.span_store.specs.declared.chain.PreparedWrite.{PreparedWrite}
use Rattle.span_mutate.specs.declared.mutation.CheckedMutation.{CheckedMutation}
use Rattle.span_store.specs.declared.write.Write.{Write}
use Rattle.span_shard.specs.Rows.{is_touched}
use Rattle.span_store.specs.KeyVersions.{KeyVersions}
use Rattle.span_store.specs.Versions.{is_empty, is_used, with_prepared, with_version, applied_write, applied_to_key}
use Rattle.span_store.specs.KeyLists.{by_order, with_write, new_key, prepared_write, IsInUse}
use Rattle.span_shard.specs.Shard.{with_writes, applied, IsNotOf, HasNoneOf, HasSomeOf, IsFree}
use Rattle.span_store.proofs.Owned.{all_back_of}
use Rattle.std.proofs.Math.Bool.{or-true}
use Rattle.std.proofs.lemmas.Bool.{ne_eqb, eq-eqb}
use Rattle.span_value.proofs.Lists.{all_weaker}

-- ---- a transaction of which nothing is prepared

not_of_kept : (txn : ℕ) (p : Option PreparedWrite) (c : KeyVersions) → IsNotOf txn p → applied_write p txn None c ≡ c
not_of_kept txn None c h = refl
not_of_kept txn (Some w) c h = ap (λ b. cond b (record c { prepared = None }) c) (ne_eqb w.txn txn h)

pub applied-none : (txn : ℕ) (cs : List KeyVersions) → AllByRecursion IsInUse cs → HasNoneOf txn cs → applied txn None cs ≡ cs
applied-none txn [] used none = refl
applied-none txn (c ∷ cs) used none =
    let same : applied_to_key txn None c ≡ c = not_of_kept txn c.prepared c none.0 in
    let keep : is_used (applied_to_key txn None c) ≡ true = ap is_used same ∙ used.0 in
    ap (λ b. cond b (applied_to_key txn None c ∷ applied txn None cs) (applied txn None cs)) keep
    ∙ ap (λ (d : KeyVersions). d ∷ applied txn None cs) same ∙ ap (λ l. c ∷ l) (applied-none txn cs used.1 none.1)

-- ---- a commit leaves no key with nothing

used_committed : (txn ts : ℕ) (c : KeyVersions) → is_used c ≡ true → is_used (applied_to_key txn (Some ts) c) ≡ true
used_committed txn ts c used = by c.prepared
  where
    by : (p : Option PreparedWrite) → is_used (applied_write p txn (Some ts) c) ≡ true
    by None = used
    by (Some w) = elim (w.txn == txn) as (λ b. is_used (cond b (record c { versions = with_version (Some ts) w.row c.versions; prepared = None }) c) ≡ true) [ true ↦ refl | false ↦ used ]

pub applied-committed : (txn : ℕ) (committed : Option ℕ) (cs : List KeyVersions) → is_some committed ≡ true → AllByRecursion IsInUse cs → map (applied_to_key txn committed) cs ≡ applied txn committed cs
applied-committed txn None cs e used = absurd (let f : false ≡ true = e in cc)
applied-committed txn (Some ts) [] e used = refl
applied-committed txn (Some ts) (c ∷ cs) e used =
    ap (λ (l : List KeyVersions). applied_to_key txn (Some ts) c ∷ l) (applied-committed txn (Some ts) cs e used.1)
    ∙ sym (ap (λ b. cond b (applied_to_key txn (Some ts) c ∷ applied txn (Some ts) cs) (applied txn (Some ts) cs)) (used_committed txn ts c used.0))

-- ---- writes that are given up

-- nothing is prepared there but of the transaction
abbrev pub IsOpenFor : ℕ → Option PreparedWrite → Type 0
IsOpenFor txn None = Unit {0}
IsOpenFor txn (Some w) = w.txn ≡ txn

abbrev pub IsOpenAt : ℕ → List ℕ → List KeyVersions → Type 0
IsOpenAt txn key cs = AllByRecursion (λ c. byte_order key c.key ≡ Equal → IsOpenFor txn c.prepared) cs

given_up : (txn : ℕ) (w : Write) (p : Option PreparedWrite) (c : KeyVersions) → c.prepared ≡ p → IsOpenFor txn p → applied_to_key txn None (with_prepared (prepared_write txn w) c) ≡ applied_write p txn None c
given_up txn w None c is vacant =
    ap (λ b. cond b (record c { prepared = None }) (with_prepared (prepared_write txn w) c)) (eq-eqb txn txn refl) ∙ ap (λ (p : Option PreparedWrite). record c { prepared = p }) (sym is)
given_up txn w (Some q) c is vacant =
    ap (λ b. cond b (record c { prepared = None }) (with_prepared (prepared_write txn w) c)) (eq-eqb txn txn refl)
    ∙ sym (ap (λ b. cond b (record c { prepared = None }) c) (ap (λ n. n == txn) vacant ∙ eq-eqb txn txn refl))

fresh_gone : (txn : ℕ) (w : Write) (ds : List KeyVersions) → applied txn None (new_key txn w ∷ ds) ≡ applied txn None ds
fresh_gone txn w ds =
    let f : Bool → KeyVersions = λ b. cond b (record { key = w.key; versions = []; prepared = None }) (new_key txn w) in
    ap (λ b. cond (is_used (f b)) (f b ∷ applied txn None ds) (applied txn None ds)) (eq-eqb txn txn refl)

pub applied-with_write : (txn : ℕ) (w : Write) (cs : List KeyVersions) → IsOpenAt txn w.key cs → applied txn None (with_write txn w cs) ≡ applied txn None cs
applied-with_write txn w [] vacant = fresh_gone txn w []
applied-with_write txn w (c ∷ cs) vacant =
    elim (byte_order w.key c.key) as (λ o. byte_order w.key c.key ≡ o → applied txn None (by_order o (new_key txn w ∷ c ∷ cs) (with_prepared (prepared_write txn w) c ∷ cs) (c ∷ with_write txn w cs)) ≡ applied txn None (c ∷ cs)) [
      | Less ↦ λ e. fresh_gone txn w (c ∷ cs)
      | Equal ↦ λ e. ap (λ (d : KeyVersions). cond (is_used d) (d ∷ applied txn None cs) (applied txn None cs)) (given_up txn w c.prepared c refl (vacant.0 e))
      | Greater ↦ λ e. ap (λ l. cond (is_used (applied_to_key txn None c)) (applied_to_key txn None c ∷ l) l) (applied-with_write txn w cs vacant.1)
    ] refl

open_with_write : (txn : ℕ) (w : Write) (key : List ℕ) (cs : List KeyVersions) → IsOpenAt txn key cs → IsOpenAt txn key (with_write txn w cs)
open_with_write txn w key [] vacant = (λ _. refl, tt)
open_with_write txn w key (c ∷ cs) vacant =
    elim (byte_order w.key c.key) as (λ o. IsOpenAt txn key (by_order o (new_key txn w ∷ c ∷ cs) (with_prepared (prepared_write txn w) c ∷ cs) (c ∷ with_write txn w cs))) [
      | Less ↦ (λ _. refl, vacant)
      | Equal ↦ (λ _. refl, vacant.1)
      | Greater ↦ (vacant.0, open_with_write txn w key cs vacant.1)
    ]

open_with_writes : (txn : ℕ) (ws : List Write) (key : List ℕ) (cs : List KeyVersions) → IsOpenAt txn key cs → IsOpenAt txn key (with_writes txn ws cs)
open_with_writes txn [] key cs vacant = vacant
open_with_writes txn (w ∷ ws) key cs vacant = open_with_write txn w key (with_writes txn ws cs) (open_with_writes txn ws key cs vacant)

pub applied-with_writes : (txn : ℕ) (ws : List Write) (cs : List KeyVersions) → AllByRecursion (λ w. IsOpenAt txn w.key cs) ws → applied txn None (with_writes txn ws cs) ≡ applied txn None cs
applied-with_writes txn [] cs vacant = refl
applied-with_writes txn (w ∷ ws) cs vacant =
    applied-with_write txn w (with_writes txn ws cs) (open_with_writes txn ws w.key cs vacant.0) ∙ applied-with_writes txn ws cs vacant.1

-- ---- the writes of mutations at keys where nothing is prepared

pub equal_key : (key k : List ℕ) → byte_order key k ≡ Equal → key ≡ k
equal_key key k e = exact_bytes key k e

free_open : (txn : ℕ) (tables : List Table) (ms : List CheckedMutation) (cs : List KeyVersions) (key : List ℕ) → is_touched tables ms key ≡ true → IsFree tables ms cs → IsOpenAt txn key cs
free_open txn tables ms cs key any free = all_weaker (λ (c : KeyVersions). is_touched tables ms c.key ≡ true → c.prepared ≡ None) (λ (c : KeyVersions). byte_order key c.key ≡ Equal → IsOpenFor txn c.prepared)
    (λ c nothing e. subst (IsOpenFor txn) (sym (nothing (subst (λ (k : List ℕ). is_touched tables ms k ≡ true) (equal_key key c.key e) any))) tt) cs free

pub writes_open : (txn : ℕ) (tables : List Table) (ms : List CheckedMutation) (ws : List Write) (cs : List KeyVersions) → AllByRecursion (λ (w : Write). is_touched tables ms w.key ≡ true) ws → IsFree tables ms cs → AllByRecursion (λ w. IsOpenAt txn w.key cs) ws
writes_open txn tables ms ws cs touched free = all_weaker (λ (w : Write). is_touched tables ms w.key ≡ true) (λ (w : Write). IsOpenAt txn w.key cs) (λ w any. free_open txn tables ms cs w.key any free) ws touched

-- giving up some of the writes leaves what was
pub given_back : (txn : ℕ) (tables : List Table) (ms : List CheckedMutation) (ws : List Write) (cs ds : List KeyVersions) → AllByRecursion IsInUse cs → HasNoneOf txn cs → IsFree tables ms cs
    → AllByRecursion (λ (w : Write). is_touched tables ms w.key ≡ true) ws → HasSomeOf txn ws cs ds → applied txn None ds ≡ cs
given_back txn tables ms ws cs ds used none free touched some =
    let vacant : AllByRecursion (λ w. IsOpenAt txn w.key cs) (some.front ++ some.rest) = subst (AllByRecursion (λ w. IsOpenAt txn w.key cs)) (sym some.whole) (writes_open txn tables ms ws cs touched free) in
    ap (applied txn None) some.put ∙ applied-with_writes txn some.rest cs (all_back_of (λ w. IsOpenAt txn w.key cs) some.front some.rest vacant) ∙ applied-none txn cs used none

-- ---- every key stays in use

used_prepared : (w : PreparedWrite) (c : KeyVersions) → IsInUse (with_prepared w c)
used_prepared w c = or-true (not (is_empty c.versions))

pub used_with_write : (txn : ℕ) (w : Write) (cs : List KeyVersions) → AllByRecursion IsInUse cs → AllByRecursion IsInUse (with_write txn w cs)
used_with_write txn w [] used = (refl, tt)
used_with_write txn w (c ∷ cs) used = elim (byte_order w.key c.key) as (λ o. AllByRecursion IsInUse (by_order o (new_key txn w ∷ c ∷ cs) (with_prepared (prepared_write txn w) c ∷ cs) (c ∷ with_write txn w cs))) [
  | Less ↦ (refl, used)
  | Equal ↦ (used_prepared (prepared_write txn w) c, used.1)
  | Greater ↦ (used.0, used_with_write txn w cs used.1)
]

pub used_with_writes : (txn : ℕ) (ws : List Write) (cs : List KeyVersions) → AllByRecursion IsInUse cs → AllByRecursion IsInUse (with_writes txn ws cs)
used_with_writes txn [] cs used = used
used_with_writes txn (w ∷ ws) cs used = used_with_write txn w (with_writes txn ws cs) (used_with_writes txn ws cs used)

pub used_filtered : (cs : List KeyVersions) → AllByRecursion IsInUse (filter is_used cs)
used_filtered [] = tt
used_filtered (c ∷ cs) = elim (is_used c) as (λ b. is_used c ≡ b → AllByRecursion IsInUse (cond b (c ∷ filter is_used cs) (filter is_used cs))) [
  | true ↦ λ e. (e, used_filtered cs)
  | false ↦ λ e. used_filtered cs
] refl
