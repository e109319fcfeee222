-- Keys removed, by marks of their chains.
use Rattle.std.specs.Prelude.{◌≡◌, ℕ, ◌+◌, ◌<◌, ◌≤◌, List, length, Option, Some, Bool, true, false, not, filter}
use Rattle.span_arena.specs.Cells.{cell_at}
use Rattle.span_arena.specs.Content.{Content, without_chain}
use Rattle.span_arena.specs.declared.cell.Cell.{Cell}
use Rattle.span_keyindex.specs.declared.remove.Kept.{Kept}
use Rattle.span_keytree.specs.Items.{holders}
use Rattle.span_keytree.specs.Entries.{KeyEntry}
use Rattle.span_keytree.specs.Nexts.{Nexts, next_of, IsLinked, with_cell}
use Rattle.span_keyindex.specs.Builds.{run_of}

abbrev pub is_kept : (ℕ → Bool) → KeyEntry → Bool
is_kept marks e = not (marks e.chain.number)

-- the entries whose chains are not marked
abbrev pub unmarked : (ℕ → Bool) → List KeyEntry → List KeyEntry
unmarked marks es = filter (λ e. is_kept marks e) es

-- the entries of all chains that are linked
abbrev pub all_of : List Cell → Nexts → List KeyEntry
all_of cs ns = run_of cs ns (length cs) ns.first

-- the links lead over chains, to each of them once
pub record IsSequence (cs : List Cell) (ns : Nexts) : Type 0 where
  pub linked : IsLinked (next_of ns) ns.first (all_of cs ns)
  pub once : (i : ℕ) → holders i (all_of cs ns) ≤ 1
  pub within : (i : ℕ) → 0 < holders i (all_of cs ns) → i < length cs
  pub places : length ns.next ≡ length cs

-- a chain that is kept is linked after the last one that was
abbrev pub passed_links : Bool → Nexts → Option ℕ → ℕ → Nexts
passed_links true n before cell = n
passed_links false n before cell = with_cell n before cell

abbrev pub passed : Bool → Kept → ℕ → Kept
passed true k cell = k
passed false k cell = record { before = Some cell; count = k.count + 1 }

-- a marked chain is freed
abbrev pub passed_arena : Bool → Content → ℕ → Content
passed_arena true a cell = without_chain a cell
passed_arena false a cell = a

-- the keys and links of marked chains alone have changed
pub record KeepsCells (marks : ℕ → Bool) (old new : List Cell) : Type 0 where
  pub others : (i : ℕ) → marks i ≡ false → cell_at new i ≡ cell_at old i
  pub same_length : length new ≡ length old
