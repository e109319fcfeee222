-- The order of the versions of keys.
use Rattle.std.proofs.Common.{◌≡◌, ℕ, ◌+◌, ◌<◌, List, [], ◌∷◌, Option, Some, None, get_or, refl, sym, subst, arith, inl, inr, false, nat_eq, map}
use Rattle.std.specs.List.{AllByRecursion}
use Rattle.std.proofs.lemmas.Bool.{cases_eq}
use Rattle.std.proofs.lemmas.Bool.Decides.{nat_tests}
use Rattle.span_arena.specs.declared.version.ArenaVersion.{ArenaVersion}
use Rattle.span_arena.specs.Content.{Content, versions, versions_in}
use Rattle.span_arena.specs.Order.{AreFalling, AreInTimeOrder}
use Rattle.span_arena.proofs.Falling.{first_is_last}
use Rattle.span_keytree.specs.Items.{holders}
use Rattle.span_keytree.specs.Arenas.{IsArenaOf, one_if_chain}
use Rattle.span_keytree.specs.Entries.{KeyEntry}
use Rattle.span_store.specs.declared.chain.Version.{Version}
use Rattle.span_store.specs.declared.chain.PreparedWrite.{PreparedWrite}
use Rattle.span_store.specs.declared.node.PreparedNode.{PreparedNode}
use Rattle.span_store.specs.KeyVersions.{KeyVersions}
use Rattle.span_store.specs.Versions.{IsLaterWrite}
use Rattle.span_store.specs.KeyLists.{HaveFallingVersions, IsLaterCommit, ReadLastVersions}
use Rattle.span_store.specs.Stored.{version_of, chain_versions, write_for, all_kept, AreLaterEnds}
use Rattle.span_store.proofs.Ending.{same_timestamps}

-- where it is so of every key, it is so of the chain of each
of_holder : (txn ts : ℕ) (a : Content) (ps : List PreparedNode) (es : List KeyEntry) (c : ℕ) → AllByRecursion (λ (k : KeyVersions). IsLaterWrite txn ts k.versions k.prepared) (all_kept a ps es) → 0 < holders c es
    → IsLaterWrite txn ts (chain_versions a c) (write_for a ps c)
of_holder txn ts a ps [] c all some = absurd (omega arith)
of_holder txn ts a ps (e ∷ es) c all some = elim (cases_eq e.chain.number c) [
  | inl equal ↦ subst (λ (d : ℕ). IsLaterWrite txn ts (chain_versions a d) (write_for a ps d)) equal all.0
  | inr differs ↦ of_holder txn ts a ps es c all.1 (let t : nat_eq e.chain.number c ≡ false = grind (arith, nat_tests) in let n : 0 < 0 + holders c es = rw t at some in omega arith)
]

-- a number that is no chain has no versions
of_none : (txn ts : ℕ) (p : Option PreparedWrite) → IsLaterWrite txn ts [] p
of_none txn ts None = tt
of_none txn ts (Some w) = λ _. tt

pub later_ends : (txn : ℕ) (committed : Option ℕ) (es : List KeyEntry) (a : Content) (ps : List PreparedNode) → IsArenaOf es a → IsLaterCommit txn committed (all_kept a ps es) → AreLaterEnds txn committed a ps
later_ends txn None es a ps own later c = tt
later_ends txn (Some ts) es a ps own later c = by_chain (get_or a.chains c None) refl
  where
    by_chain : (o : Option (List ArenaVersion)) → get_or a.chains c None ≡ o → IsLaterWrite txn ts (chain_versions a c) (write_for a ps c)
    by_chain None e = subst (λ (o : Option (List ArenaVersion)). IsLaterWrite txn ts (map version_of (versions_in o)) (write_for a ps c)) (sym e) (of_none txn ts (write_for a ps c))
    by_chain (Some vs) e = of_holder txn ts a ps es c later (let n : holders c es ≡ 1 = subst (λ (o : Option (List ArenaVersion)). holders c es ≡ one_if_chain o) e (own.each c) in omega arith)

-- the versions of each key fall as those of its chain do
pub keys_fall : (a : Content) (ps : List PreparedNode) (es : List KeyEntry) → AreInTimeOrder a → HaveFallingVersions (all_kept a ps es)
keys_fall a ps [] falling = tt
keys_fall a ps (e ∷ es) falling = (subst AreFalling (sym (same_timestamps (versions a e.chain.number))) (falling e.chain.number), keys_fall a ps es falling)

pub last_is_read : (cs : List KeyVersions) → HaveFallingVersions cs → ReadLastVersions cs
last_is_read [] falling = tt
last_is_read (c ∷ cs) falling = (λ s. first_is_last Version (λ (v : Version). v.timestamp) s c.versions falling.0, last_is_read cs falling.1)
