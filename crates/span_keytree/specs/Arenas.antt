-- The arena of an index: its chains are those of the keys.
use Rattle.std.specs.Prelude.{◌≡◌, ℕ, List, not, filter, length, Option, Some, None, slice_index_or, if◌then◌else◌}
use Rattle.span_arena.specs.Content.{Content, is_unused}
use Rattle.span_arena.specs.declared.version.ArenaVersion.{ArenaVersion}
use Rattle.span_keytree.specs.Entries.{KeyEntry}
use Rattle.span_keytree.specs.Items.{holders}

abbrev pub one_if_chain : Option (List ArenaVersion) → ℕ
one_if_chain None = 0
one_if_chain (Some vs) = 1

-- each chain of the arena is that of one key, and the keys have no others
pub record IsArenaOf (es : List KeyEntry) (a : Content) : Type 0 where
  pub each : (c : ℕ) → holders c es ≡ one_if_chain (slice_index_or a.chains c None)

-- the same numbers are chains
abbrev pub HasSameChains : Content → Content → Type 0
HasSameChains old new =
    (c : ℕ) → one_if_chain (slice_index_or new.chains c None) ≡ one_if_chain (slice_index_or old.chains c None)

-- the entries whose chains have a version, or something prepared for them
abbrev pub in_use : Content → List KeyEntry → List KeyEntry
in_use a es = filter (λ e. not (is_unused a e.chain.number)) es

-- A number whose chain has no version and nothing prepared is no chain any more, and nothing else is changed. Of the
-- keys and links nothing is said.
pub record IsWithoutUnused (old new : Content) : Type 0 where
  pub chains : (c : ℕ) → slice_index_or new.chains c None
      ≡ (if is_unused old c then None else slice_index_or old.chains c None)
  pub numbers : length new.chains ≡ length old.chains
  pub others : new ≡ record old { chains = new.chains; cells = new.cells }
