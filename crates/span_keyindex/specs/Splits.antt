-- An index of a part of the keys.
use Rattle.std.specs.Prelude.{◌≡◌, ℕ, List, []}
use Rattle.span_arena.specs.Content.{Content, versions}
use Rattle.span_keyindex.specs.declared.index.KeyIndex.{KeyIndex}
use Rattle.span_keytree.specs.Entries.{KeyEntry, entries_from, keys_of}
use Rattle.span_keyindex.specs.Indexes.{IsIndexOf, entries_of}

-- the index has the keys from one on, in an arena of its own: their chains have no version, nothing is prepared, and no
-- node is free
pub record IsPartFrom (key : List ℕ) (es : List KeyEntry) (limit : ℕ) (i : KeyIndex) (a : Content) : Type 0 where
  pub own : IsIndexOf i a
  pub keys : keys_of (entries_of i a) ≡ keys_of (entries_from key es)
  pub none : (c : ℕ) → versions a c ≡ []
  pub prepared : a.prepared ≡ []
  pub free : a.free ≡ 0
  pub most : a.most ≡ limit
