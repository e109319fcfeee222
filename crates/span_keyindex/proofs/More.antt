-- Free numbers of chains more in the arena of an index.
use Rattle.std.proofs.Common.{◌≡◌, ℕ, None, sym, ◌∙◌, ap}
use Rattle.span_arena.specs.Content.{Content, with_free_chains}
use Rattle.span_arena.proofs.Blanks.{read_more}
use Rattle.span_keytree.specs.declared.tree.TreeRoot.{TreeRoot}
use Rattle.span_keytree.specs.Arenas.{one_if_chain}
use Rattle.span_keytree.specs.Items.{holders}
use Rattle.span_keytree.specs.Nexts.{with_places}
use Rattle.span_keytree.specs.Roots.{entries_at}
use Rattle.span_keytree.proofs.More.{entries_same, index_more}
use Rattle.span_keyindex.specs.declared.index.KeyIndex.{KeyIndex}
use Rattle.span_keyindex.specs.Indexes.{entries_of, IsIndexOf}

-- the index has places for them, and is that of the arena with them
pub own_more : (i j : KeyIndex) (n : ℕ) (a b : Content) → b ≡ with_free_chains n a → j.nexts ≡ with_places n i.nexts → j.tree ≡ i.tree → IsIndexOf i a → IsIndexOf j b
own_more i j n a b more places tree own = rw more (record {
  index = rw (places, tree) (index_more a.cells n i.tree i.nexts own.index);
  own = record {
    each = λ c.
        ap (λ (t : TreeRoot). holders c (entries_at (with_free_chains n a).cells t)) tree
        ∙ ap (holders c) (entries_same a.cells n i.tree)
        ∙ own.own.each c
        ∙ ap one_if_chain (sym (read_more a.chains n c None));
  };
})

pub entries_more : (i j : KeyIndex) (n : ℕ) (a b : Content) → b ≡ with_free_chains n a → j.tree ≡ i.tree → entries_of j b ≡ entries_of i a
entries_more i j n a b more tree = rw (more, tree) (entries_same a.cells n i.tree)
