-- Free numbers change nothing that is kept.
use Rattle.std.proofs.Common.{◌≡◌, ℕ, List, [], ◌∷◌, Option, Some, None, refl, ◌∙◌, ap, map, if◌then◌else◌}
use Rattle.std.specs.List.{AllByRecursion}
use Rattle.span_arena.specs.declared.version.ArenaVersion.{ArenaVersion}
use Rattle.span_arena.specs.Content.{Content, Prepared, versions, versions_in, prepared_at, prepared_for, one_for, IsChain, with_free_chains, with_free_nodes}
use Rattle.span_arena.proofs.Blanks.{read_more}
use Rattle.span_arena.proofs.FreeLists.{sum_none}
use Rattle.span_keytree.specs.Entries.{KeyEntry}
use Rattle.span_keyindex.specs.declared.index.KeyIndex.{KeyIndex}
use Rattle.span_keyindex.specs.Indexes.{entries_of, IsIndexOf}
use Rattle.span_store.specs.declared.node.PreparedNode.{PreparedNode}
use Rattle.span_store.specs.declared.chain.PreparedWrite.{PreparedWrite}
use Rattle.span_store.specs.KeyVersions.{KeyVersions}
use Rattle.span_store.specs.Stored.{all_kept, chain_versions, image_of, is_for, kept_entry, version_of, write_for, AreOwned, IsKept, IsNodeOf}

-- each chain, with its versions, and each prepared node is as it was
pub record IsReadAlike (a b : Content) : Type 0 where
  pub versions : (c : ℕ) → versions b c ≡ versions a c
  pub prepared : (node : ℕ) → prepared_at b node ≡ prepared_at a node
  pub chains : (c : ℕ) → IsChain a c → IsChain b c
  pub counted : (c : ℕ) → prepared_for c b.prepared ≡ prepared_for c a.prepared
  pub most : b.most ≡ a.most

pub alike_chains : (n : ℕ) (a : Content) → IsReadAlike a (with_free_chains n a)
alike_chains n a = record {
  versions = λ c. ap versions_in (read_more a.chains n c None);
  prepared = λ node. refl;
  chains = λ c is. (is.0, read_more a.chains n c None ∙ is.1);
  counted = λ c. refl;
  most = refl;
}

pub alike_nodes : (n : ℕ) (a : Content) → IsReadAlike a (with_free_nodes n a)
alike_nodes n a = record {
  versions = λ c. refl;
  prepared = λ node. read_more a.prepared n node None;
  chains = λ c is. is;
  counted = λ c. sum_none (one_for c) a.prepared n refl;
  most = refl;
}

pub alike_same : (a b : Content) → b ≡ a → IsReadAlike a b
alike_same a b same = rw same (record {
  versions = λ c. refl;
  prepared = λ node. refl;
  chains = λ c is. is;
  counted = λ c. refl;
  most = refl;
})

module _ (a b : Content) (alike : IsReadAlike a b) where
  write_same : (ps : List PreparedNode) (c : ℕ) → write_for b ps c ≡ write_for a ps c
  write_same [] c = refl
  write_same (p ∷ ps) c =
      ap (λ (w : Option PreparedWrite). if is_for c p then Some (record { txn = p.txn; row = image_of (prepared_at b p.node.number) }) else w) (write_same ps c)
      ∙ ap (λ (o : Option Prepared). if is_for c p then Some (record { txn = p.txn; row = image_of o }) else write_for a ps c) (alike.prepared p.node.number)

  entry_same : (ps : List PreparedNode) (e : KeyEntry) → kept_entry b ps e ≡ kept_entry a ps e
  entry_same ps e =
      ap (λ (vs : List ArenaVersion). record { key = e.key; versions = map version_of vs; prepared = write_for b ps e.chain.number }) (alike.versions e.chain.number)
      ∙ ap (λ (w : Option PreparedWrite). record { key = e.key; versions = chain_versions a e.chain.number; prepared = w }) (write_same ps e.chain.number)

  pub kept_alike : (ps : List PreparedNode) (es : List KeyEntry) → all_kept b ps es ≡ all_kept a ps es
  kept_alike ps [] = refl
  kept_alike ps (e ∷ es) = ap (λ (k : KeyVersions). k ∷ all_kept b ps es) (entry_same ps e) ∙ ap (λ (ks : List KeyVersions). kept_entry a ps e ∷ ks) (kept_alike ps es)

  nodes_alike : (ps : List PreparedNode) → AllByRecursion (IsNodeOf a) ps → AllByRecursion (IsNodeOf b) ps
  nodes_alike [] all = tt
  nodes_alike (p ∷ ps) all = (
    record {
      image = all.0.image;
      prepared = alike.prepared p.node.number ∙ all.0.prepared;
      is_chain = alike.chains p.chain.number all.0.is_chain;
    },
    nodes_alike ps all.1,
  )

  pub owned_alike : (ps : List PreparedNode) → AreOwned a ps → AreOwned b ps
  owned_alike ps owned = record {
    nodes = nodes_alike ps owned.nodes;
    counted = λ c. alike.counted c ∙ owned.counted c;
    once = owned.once;
  }

-- the index is that of the arena with free nodes too
pub index_nodes : (i : KeyIndex) (n : ℕ) (a b : Content) → b ≡ with_free_nodes n a → IsIndexOf i a → IsIndexOf i b
index_nodes i n a b more own = rw more (record { index = own.index; own = record { each = own.own.each } })

pub entries_nodes : (i : KeyIndex) (n : ℕ) (a b : Content) → b ≡ with_free_nodes n a → entries_of i b ≡ entries_of i a
entries_nodes i n a b more = rw more refl

module _ (i j : KeyIndex) (a b c : Content) (ps : List PreparedNode) (first : IsReadAlike a b) (second : IsReadAlike b c) (same : entries_of j c ≡ entries_of i a) where
  pub kept_after : IsIndexOf j c → IsKept i a ps → IsKept j c ps
  kept_after own kept = record {
    index = own;
    owned = owned_alike b c second ps (owned_alike a b first ps kept.owned);
    most = second.most ∙ first.most ∙ kept.most;
  }

  pub view_after : all_kept c ps (entries_of j c) ≡ all_kept a ps (entries_of i a)
  view_after = ap (all_kept c ps) same ∙ kept_alike b c second ps (entries_of i a) ∙ kept_alike a b first ps (entries_of i a)
