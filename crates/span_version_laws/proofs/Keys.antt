use Rattle.std.proofs.Common.{◌≡◌, ℕ, true, false, cond, ◌==◌, List, [], ◌∷◌, Option, Some, None, refl, ap, sym, ◌∙◌, subst}
use Rattle.std.specs.Prelude.{find, filter, map, option_map}
use Rattle.std.specs.List.{AllByRecursion}
use Rattle.std.specs.Ordering.{eq_by_cmp, is_eq}
use Rattle.std.specs.declared.cmp.Ordering.TheVariants.{Less, Equal, Greater}
use Rattle.span_maderows.proofs.Bytes.{bytes_total}
use Rattle.span_store.specs.declared.chain.Version.{Version}
use Rattle.span_store.specs.declared.chain.PreparedWrite.{PreparedWrite}
use Rattle.span_store.specs.declared.write.Write.{Write}
use Rattle.span_shard.specs.KeyVersions.{KeyVersions}
use Rattle.span_shard.specs.Versions.{is_used, with_prepared, with_version, applied_write, applied_to_key, kept_upto}
use Rattle.span_shard.specs.Writes.{is_of}
use Rattle.span_shard.specs.Shard.{AreInOrder, is_key, versions_of, prepared_of, versions_at, prepared_at, by_order, with_write, with_writes, new_key, prepared_write, applied, trimmed_key, trimmed}
use Rattle.span_machine_laws.proofs.Lists.{all_found}
use Rattle.std.specs.Cmp.{eq_by_cmp_equiv}
use Rattle.span_value.proofs.Lists.{all_weaker}
use Rattle.span_keycode.specs.Order.{byte_order}
use Rattle.span_keycode.proofs.Order.{same_bytes}
use Rattle.span_shard.proofs.InOrder.{in_order_with_writes, key_stays}
use Rattle.span_shard.proofs.Undo.{equal_key}
use Rattle.span_keytree.proofs.Rising.{turned}

-- ---- orders of keys

pub key_itself : (key : List ℕ) → eq_by_cmp byte_order key key ≡ true
key_itself key = (eq_by_cmp_equiv bytes_total).refl key

-- a key that comes before is another one
pub less_apart : (a b : List ℕ) → byte_order a b ≡ Less → eq_by_cmp byte_order a b ≡ false
less_apart a b e = ap is_eq e

pub greater_apart : (a b : List ℕ) → byte_order a b ≡ Less → eq_by_cmp byte_order b a ≡ false
greater_apart a b e = ap is_eq (turned a b Less e)

-- the key comes before all of these
abbrev pub IsUnderAll : List ℕ → List KeyVersions → Type 0
IsUnderAll key cs = AllByRecursion (λ d. byte_order key d.key ≡ Less) cs

pub under_all_more : (a b : List ℕ) (cs : List KeyVersions) → byte_order a b ≡ Less → IsUnderAll b cs → IsUnderAll a cs
under_all_more a b cs low all = all_weaker (λ (d : KeyVersions). byte_order b d.key ≡ Less) (λ (d : KeyVersions). byte_order a d.key ≡ Less) (λ d up. bytes_total.trans a b d.key low up) cs all

-- ---- what is found at a key

-- a key before all is not there
pub find_under : (key : List ℕ) (cs : List KeyVersions) → IsUnderAll key cs → find (is_key key) cs ≡ None
find_under key [] all = refl
find_under key (c ∷ cs) all = ap (λ b. cond b (Some c) (find (is_key key) cs)) (less_apart key c.key all.0) ∙ find_under key cs all.1

-- what holds of each that is found at its key holds of all
pub all_by_key : (P : KeyVersions → Type 0) (cs : List KeyVersions) → AreInOrder cs → ((c : KeyVersions) → find (is_key c.key) cs ≡ Some c → P c) → AllByRecursion P cs
all_by_key P [] up each = tt
all_by_key P (c ∷ cs) up each = (
  each c (ap (λ b. cond b (Some c) (find (is_key c.key) cs)) (key_itself c.key)),
  all_by_key P cs up.1 (λ d found. each d (
      ap (λ b. cond b (Some c) (find (is_key d.key) cs)) (greater_apart c.key d.key (all_found (λ (x : KeyVersions). byte_order c.key x.key ≡ Less) (is_key d.key) cs d found up.0)) ∙ found)),
)

-- ---- one write prepared

-- a key with its prepared write, or a fresh one
abbrev pub written_key : ℕ → Write → Option KeyVersions → KeyVersions
written_key txn w None = new_key txn w
written_key txn w (Some c) = with_prepared (prepared_write txn w) c

-- what is found after one write is prepared
pub find-with_write : (txn : ℕ) (w : Write) (cs : List KeyVersions) (key : List ℕ) → AreInOrder cs
    → find (is_key key) (with_write txn w cs) ≡ cond (is_of key w) (Some (written_key txn w (find (is_key key) cs))) (find (is_key key) cs)
find-with_write txn w [] key up = refl
find-with_write txn w (c ∷ cs) key up =
    elim (byte_order w.key c.key) as (λ o. byte_order w.key c.key ≡ o → find (is_key key) (by_order o (new_key txn w ∷ c ∷ cs) (with_prepared (prepared_write txn w) c ∷ cs) (c ∷ with_write txn w cs)) ≡ cond (is_of key w) (Some (written_key txn w (find (is_key key) (c ∷ cs)))) (find (is_key key) (c ∷ cs))) [
      | Less ↦ λ e. elim (is_of key w) as (λ b. is_of key w ≡ b → cond b (Some (new_key txn w)) (find (is_key key) (c ∷ cs)) ≡ cond b (Some (written_key txn w (find (is_key key) (c ∷ cs)))) (find (is_key key) (c ∷ cs))) [
        | false ↦ λ at. refl
        | true ↦ λ at.
            let same : key ≡ w.key = same_bytes key w.key at in
            let low : byte_order key c.key ≡ Less = ap (λ (k : List ℕ). byte_order k c.key) same ∙ e in
            ap (λ o. Some (written_key txn w o)) (sym (find_under key (c ∷ cs) (low, under_all_more key c.key cs low up.0)))
      ] refl
      | Equal ↦ λ e.
          let same : is_of key w ≡ is_key key c = ap (λ (k : List ℕ). eq_by_cmp byte_order key k) (equal_key w.key c.key e) in
          elim (is_key key c) as (λ b. is_of key w ≡ b → cond b (Some (with_prepared (prepared_write txn w) c)) (find (is_key key) cs) ≡ cond (is_of key w) (Some (written_key txn w (cond b (Some c) (find (is_key key) cs)))) (cond b (Some c) (find (is_key key) cs))) [
            | true ↦ λ at. ap (λ b. cond b (Some (with_prepared (prepared_write txn w) c)) (Some c)) (sym at)
            | false ↦ λ at. ap (λ b. cond b (Some (written_key txn w (find (is_key key) cs))) (find (is_key key) cs)) (sym at)
          ] same
      | Greater ↦ λ e. elim (is_key key c) as (λ b. is_key key c ≡ b → cond b (Some c) (find (is_key key) (with_write txn w cs)) ≡ cond (is_of key w) (Some (written_key txn w (cond b (Some c) (find (is_key key) cs)))) (cond b (Some c) (find (is_key key) cs))) [
        | true ↦ λ at.
            let same : key ≡ c.key = same_bytes key c.key at in
            let off : is_of key w ≡ false = ap (λ (k : List ℕ). eq_by_cmp byte_order k w.key) same ∙ less_apart c.key w.key (turned w.key c.key Greater e) in
            ap (λ b. cond b (Some (with_prepared (prepared_write txn w) c)) (Some c)) (sym off)
        | false ↦ λ at. find-with_write txn w cs key up.1
      ] refl
    ] refl

-- no version comes or goes as a write is prepared
pub versions_at-with_write : (txn : ℕ) (w : Write) (cs : List KeyVersions) (key : List ℕ) → AreInOrder cs → versions_at (with_write txn w cs) key ≡ versions_at cs key
versions_at-with_write txn w cs key up = ap versions_of (find-with_write txn w cs key up)
    ∙ elim (find (is_key key) cs) as (λ o. versions_of (cond (is_of key w) (Some (written_key txn w o)) o) ≡ versions_of o) [
      | None ↦ elim (is_of key w) as (λ b. versions_of (cond b (Some (new_key txn w)) None) ≡ []) [ true ↦ refl | false ↦ refl ]
      | Some c ↦ elim (is_of key w) as (λ b. versions_of (cond b (Some (with_prepared (prepared_write txn w) c)) (Some c)) ≡ c.versions) [ true ↦ refl | false ↦ refl ]
    ]

pub prepared_at-with_write : (txn : ℕ) (w : Write) (cs : List KeyVersions) (key : List ℕ) → AreInOrder cs → prepared_at (with_write txn w cs) key ≡ cond (is_of key w) (Some (prepared_write txn w)) (prepared_at cs key)
prepared_at-with_write txn w cs key up = ap prepared_of (find-with_write txn w cs key up)
    ∙ elim (find (is_key key) cs) as (λ o. prepared_of (cond (is_of key w) (Some (written_key txn w o)) o) ≡ cond (is_of key w) (Some (prepared_write txn w)) (prepared_of o)) [
      | None ↦ elim (is_of key w) as (λ b. prepared_of (cond b (Some (new_key txn w)) None) ≡ cond b (Some (prepared_write txn w)) None) [ true ↦ refl | false ↦ refl ]
      | Some c ↦ elim (is_of key w) as (λ b. prepared_of (cond b (Some (with_prepared (prepared_write txn w) c)) (Some c)) ≡ cond b (Some (prepared_write txn w)) c.prepared) [ true ↦ refl | false ↦ refl ]
    ]

-- ---- all the writes prepared

-- the write that was found, and what was prepared otherwise
abbrev pub prepared_by : ℕ → Option Write → Option PreparedWrite → Option PreparedWrite
prepared_by txn None before = before
prepared_by txn (Some w) before = Some (prepared_write txn w)

pub versions_at-with_writes : (txn : ℕ) (ws : List Write) (cs : List KeyVersions) (key : List ℕ) → AreInOrder cs → versions_at (with_writes txn ws cs) key ≡ versions_at cs key
versions_at-with_writes txn [] cs key up = refl
versions_at-with_writes txn (w ∷ ws) cs key up = versions_at-with_write txn w (with_writes txn ws cs) key (in_order_with_writes txn ws cs up) ∙ versions_at-with_writes txn ws cs key up

pub prepared_at-with_writes : (txn : ℕ) (ws : List Write) (cs : List KeyVersions) (key : List ℕ) → AreInOrder cs → prepared_at (with_writes txn ws cs) key ≡ prepared_by txn (find (is_of key) ws) (prepared_at cs key)
prepared_at-with_writes txn [] cs key up = refl
prepared_at-with_writes txn (w ∷ ws) cs key up =
    prepared_at-with_write txn w (with_writes txn ws cs) key (in_order_with_writes txn ws cs up)
    ∙ ap (λ p. cond (is_of key w) (Some (prepared_write txn w)) p) (prepared_at-with_writes txn ws cs key up)
    ∙ elim (is_of key w) as (λ b. cond b (Some (prepared_write txn w)) (prepared_by txn (find (is_of key) ws) (prepared_at cs key)) ≡ prepared_by txn (cond b (Some w) (find (is_of key) ws)) (prepared_at cs key)) [ true ↦ refl | false ↦ refl ]

-- ---- writes applied

-- a change of each key that leaves the key itself
abbrev LeavesKey : (KeyVersions → KeyVersions) → Type 0
LeavesKey change = (c : KeyVersions) → (change c).key ≡ c.key

-- the keys changed, without those that have nothing any more
abbrev changed_keys : (KeyVersions → KeyVersions) → List KeyVersions → List KeyVersions
changed_keys change cs = filter is_used (map change cs)

under_changed : (change : KeyVersions → KeyVersions) → LeavesKey change → (key : List ℕ) (cs : List KeyVersions) → IsUnderAll key cs → IsUnderAll key (changed_keys change cs)
under_changed change same key [] all = tt
under_changed change same key (c ∷ cs) all = elim (is_used (change c)) as (λ b. IsUnderAll key (cond b (change c ∷ changed_keys change cs) (changed_keys change cs))) [
  | true ↦ (ap (λ (k : List ℕ). byte_order key k) (same c) ∙ all.0, under_changed change same key cs all.1)
  | false ↦ under_changed change same key cs all.1
]

-- a view of a key that sees no difference between one that is in no use and none
abbrev IsView : {A : Type 0} → (Option KeyVersions → A) → Type 0
IsView g = (c : KeyVersions) → is_used c ≡ false → g (Some c) ≡ g None

find_changed : {A : Type 0} (g : Option KeyVersions → A) → IsView g → (change : KeyVersions → KeyVersions) → LeavesKey change → (cs : List KeyVersions) (key : List ℕ) → AreInOrder cs
    → g (find (is_key key) (changed_keys change cs)) ≡ g (option_map change (find (is_key key) cs))
find_changed g view change same [] key up = refl
find_changed g view change same (c ∷ cs) key up =
    let at : is_key key (change c) ≡ is_key key c = ap (λ (k : List ℕ). eq_by_cmp byte_order key k) (same c) in
    elim (is_used (change c)) as (λ b. is_used (change c) ≡ b → g (find (is_key key) (cond b (change c ∷ changed_keys change cs) (changed_keys change cs))) ≡ g (option_map change (find (is_key key) (c ∷ cs)))) [
      | true ↦ λ used. ap (λ b. g (cond b (Some (change c)) (find (is_key key) (changed_keys change cs)))) at
          ∙ elim (is_key key c) as (λ b. g (cond b (Some (change c)) (find (is_key key) (changed_keys change cs))) ≡ g (option_map change (cond b (Some c) (find (is_key key) cs)))) [
            | true ↦ refl
            | false ↦ find_changed g view change same cs key up.1
          ]
      | false ↦ λ unused. elim (is_key key c) as (λ b. is_key key c ≡ b → g (find (is_key key) (changed_keys change cs)) ≡ g (option_map change (cond b (Some c) (find (is_key key) cs)))) [
        | true ↦ λ here.
            let alike : key ≡ c.key = same_bytes key c.key here in
            ap g (find_under key (changed_keys change cs) (under_changed change same key cs (subst (λ (k : List ℕ). IsUnderAll k cs) (sym alike) up.0))) ∙ sym (view (change c) unused)
        | false ↦ λ away. find_changed g view change same cs key up.1
      ] refl
    ] refl

-- the versions of a key where this write is applied
abbrev pub applied_versions : ℕ → Option ℕ → Option PreparedWrite → List Version → List Version
applied_versions txn committed None vs = vs
applied_versions txn committed (Some w) vs = cond (w.txn == txn) (with_version committed w.row vs) vs

-- what is left prepared
abbrev pub applied_prepared : ℕ → Option PreparedWrite → Option PreparedWrite
applied_prepared txn None = None
applied_prepared txn (Some w) = cond (w.txn == txn) None (Some w)

unused_versions : (vs : List Version) (p : Option PreparedWrite) (k : List ℕ) → is_used (record { key = k; versions = vs; prepared = p }) ≡ false → (vs ≡ []) × (p ≡ None)
unused_versions [] None k e = (refl, refl)
unused_versions [] (Some w) k e = absurd (cc)
unused_versions (v ∷ vs) p k e = absurd (cc)

unused_has_none : IsView versions_of
unused_has_none c unused = (unused_versions c.versions c.prepared c.key unused).0

unused_is_free : IsView prepared_of
unused_is_free c unused = (unused_versions c.versions c.prepared c.key unused).1

versions_write : (p : Option PreparedWrite) (txn : ℕ) (committed : Option ℕ) (c : KeyVersions) → (applied_write p txn committed c).versions ≡ applied_versions txn committed p c.versions
versions_write None txn committed c = refl
versions_write (Some w) txn committed c = elim (w.txn == txn) as (λ b. (cond b (record c { versions = with_version committed w.row c.versions; prepared = None }) c).versions ≡ cond b (with_version committed w.row c.versions) c.versions) [ true ↦ refl | false ↦ refl ]

prepared_write_left : (p : Option PreparedWrite) (txn : ℕ) (committed : Option ℕ) (c : KeyVersions) → c.prepared ≡ p → (applied_write p txn committed c).prepared ≡ applied_prepared txn p
prepared_write_left None txn committed c e = e
prepared_write_left (Some w) txn committed c e =
    elim (w.txn == txn) as (λ b. (cond b (record c { versions = with_version committed w.row c.versions; prepared = None }) c).prepared ≡ cond b None (Some w)) [ true ↦ refl | false ↦ e ]

pub versions_at-applied : (txn : ℕ) (committed : Option ℕ) (cs : List KeyVersions) (key : List ℕ) → AreInOrder cs → versions_at (applied txn committed cs) key ≡ applied_versions txn committed (prepared_at cs key) (versions_at cs key)
versions_at-applied txn committed cs key up =
    find_changed versions_of unused_has_none (applied_to_key txn committed) (key_stays txn committed) cs key up
    ∙ elim (find (is_key key) cs) as (λ o. versions_of (option_map (applied_to_key txn committed) o) ≡ applied_versions txn committed (prepared_of o) (versions_of o)) [
      | None ↦ refl
      | Some c ↦ versions_write c.prepared txn committed c
    ]

pub prepared_at-applied : (txn : ℕ) (committed : Option ℕ) (cs : List KeyVersions) (key : List ℕ) → AreInOrder cs → prepared_at (applied txn committed cs) key ≡ applied_prepared txn (prepared_at cs key)
prepared_at-applied txn committed cs key up =
    find_changed prepared_of unused_is_free (applied_to_key txn committed) (key_stays txn committed) cs key up
    ∙ elim (find (is_key key) cs) as (λ o. prepared_of (option_map (applied_to_key txn committed) o) ≡ applied_prepared txn (prepared_of o)) [
      | None ↦ refl
      | Some c ↦ prepared_write_left c.prepared txn committed c refl
    ]

-- ---- versions trimmed

pub versions_at-trimmed : (h : ℕ) (cs : List KeyVersions) (key : List ℕ) → AreInOrder cs → versions_at (trimmed h cs) key ≡ kept_upto h (versions_at cs key)
versions_at-trimmed h cs key up =
    find_changed versions_of unused_has_none (trimmed_key h) (λ c. refl) cs key up
    ∙ elim (find (is_key key) cs) as (λ o. versions_of (option_map (trimmed_key h) o) ≡ kept_upto h (versions_of o)) [ None ↦ refl | Some c ↦ refl ]

pub prepared_at-trimmed : (h : ℕ) (cs : List KeyVersions) (key : List ℕ) → AreInOrder cs → prepared_at (trimmed h cs) key ≡ prepared_at cs key
prepared_at-trimmed h cs key up =
    find_changed prepared_of unused_is_free (trimmed_key h) (λ c. refl) cs key up
    ∙ elim (find (is_key key) cs) as (λ o. prepared_of (option_map (trimmed_key h) o) ≡ prepared_of o) [ None ↦ refl | Some c ↦ refl ]
