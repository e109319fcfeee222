-- What is read of a store.
use Rattle.std.specs.Prelude.{ℕ, Bool, List, length, filter, Option, None, option_map, nat_le}
use Rattle.std.specs.List.{filter_map}
use Rattle.span_keycode.specs.declared.range.KeyRange.{KeyRange}
pub use Rattle.span_keycode.specs.Parts.{is_within}
use Rattle.span_store.specs.KeyVersions.{KeyVersions}
use Rattle.span_store.specs.Versions.{row_at}
use Rattle.span_arena.specs.Content.{Content}
use Rattle.span_keytree.specs.Entries.{KeyEntry}
use Rattle.span_store.specs.declared.snapshot.Entry.{Entry}
use Rattle.span_store.specs.Stored.{chain_versions}

-- ---- what is read

-- a row by its coded key, packed
pub record KeyRow : Type 0 where
  pub key : List ℕ
  pub row : List ℕ

-- the row that is seen of a key at s, if there is one
abbrev pub seen_at : ℕ → KeyVersions → Option KeyRow
seen_at s c = option_map (λ (row : List ℕ). record { key = c.key; row = row }) (row_at c.versions s)

-- the rows in the range at s: of every key there the newest version at or below s, without deletions, in order of the
-- keys
abbrev pub snapshot : KeyRange → ℕ → List KeyVersions → List KeyRow
snapshot range s cs = filter_map (seen_at s) (filter (λ c. is_within range c.key) cs)

-- the key and row that an entry lends
abbrev pub entry_row : Entry → KeyRow
entry_row e = record { key = e.key.now; row = e.row.now }

-- a key with its versions alone
abbrev pub versions_alone : KeyVersions → KeyVersions
versions_alone c = record { key = c.key; versions = c.versions; prepared = None }

abbrev pub versions_alone_at : Content → KeyEntry → KeyVersions
versions_alone_at a e = record { key = e.key; versions = chain_versions a e.chain.number; prepared = None }

-- the row that is seen of a key at s, if there is one
abbrev pub seen_entry : Content → ℕ → KeyEntry → Option KeyRow
seen_entry a s e = seen_at s (versions_alone_at a e)

-- the row has a key of at most `most` bytes
abbrev pub has_short_key : ℕ → KeyRow → Bool
has_short_key most r = nat_le (length r.key) most
