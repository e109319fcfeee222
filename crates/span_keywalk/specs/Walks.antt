-- What a walk hands out.
use Rattle.std.specs.Prelude.{◌≡◌, ℕ, zero, suc, ◌+◌, ◌-◌, ◌<◌, ◌≤◌, List, [], ◌∷◌, ◌++◌, length, Option, Some, None, Bool, false, nat_eq, nat_le, filter, map, if◌then◌else◌}
use Rattle.std.specs.List.{AllByRecursion}
use Rattle.span_arena.specs.declared.cell.Cell.{Cell}
use Rattle.span_arena.specs.declared.token.Chain.{Chain}
use Rattle.span_arena.specs.Cells.{cell_at}
use Rattle.span_keytree.specs.Items.{entry}
use Rattle.span_keytree.specs.Entries.{KeyEntry}
use Rattle.span_keytree.specs.Nexts.{Nexts, next_of}

abbrev pub is_stop : ℕ → Option ℕ → Bool
is_stop i None = false
is_stop i (Some j) = nat_eq i j

-- the entries from a cell on and before another, by their links, and at most n of them
abbrev pub walked : (ℕ → Cell) → (ℕ → Option ℕ) → ℕ → Option ℕ → Option ℕ → List KeyEntry
walked f g zero at stop = []
walked f g (suc n) None stop = []
walked f g (suc n) (Some i) stop = (if is_stop i stop then [] else entry (f i).key i ∷ walked f g n (g i) stop)

abbrev pub walked_in : List Cell → Nexts → ℕ → Option ℕ → Option ℕ → List KeyEntry
walked_in cs ns n at stop = walked (cell_at cs) (next_of ns) n at stop

-- those whose keys have at most `most` bytes
abbrev pub short_entries : ℕ → List KeyEntry → List KeyEntry
short_entries most es = filter (λ e. nat_le (length e.key) most) es

-- the entries of cells
abbrev pub cell_entries : List Cell → List ℕ → List KeyEntry
cell_entries cs numbers = map (λ i. entry (cell_at cs i).key i) numbers

-- each entry has a cell below n
abbrev pub AreBelow : ℕ → List KeyEntry → Type 0
AreBelow n es = AllByRecursion (λ e. e.chain.number < n) es

-- the entries of these cells, and then the short ones of at most `left` that are left from a cell on, are the short ones of es
pub record AreShortOf (cs : List Cell) (ns : Nexts) (most : ℕ) (stop : Option ℕ) (es : List KeyEntry) (numbers : List ℕ)
    (left : ℕ) (at : Option ℕ) : Type 0 where
  pub short : cell_entries cs numbers ++ short_entries most (walked_in cs ns left at stop) ≡ short_entries most es
  pub found : AreBelow (length cs) (cell_entries cs numbers)
  pub below : AreBelow (length cs) (walked_in cs ns left at stop)

-- the links of eight cells, from cell i on, lead each to the next number, and the end is none of the eight
pub record IsRun (ns : Nexts) (cells : ℕ) (stop : Option ℕ) (i : ℕ) : Type 0 where
  pub within : i + 8 < cells
  pub next : (k : ℕ) → k < 8 → next_of ns (i + k) ≡ Some (i + k + 1)
  pub goes_on : (k : ℕ) → k < 8 → is_stop (i + k) stop ≡ false

-- where the eight cells from i on are a run, numbers that are right before it and others that are right after it
abbrev pub IsPassed : List Cell → ℕ → ℕ → List ℕ → List ℕ → Type 0
IsPassed cs most i before after =
    (ns : Nexts) (stop : Option ℕ) (left : ℕ) (es : List KeyEntry) → IsRun ns (length cs) stop i → 8 ≤ left
    → AreShortOf cs ns most stop es before left (Some i) → AreShortOf cs ns most stop es after (left - 8) (Some (i + 8))

-- the chains from one on, by the links, and at most n of them
abbrev pub chains_from : (ℕ → Option ℕ) → ℕ → Option ℕ → List Chain
chains_from g zero at = []
chains_from g (suc n) None = []
chains_from g (suc n) (Some i) = record { number = i } ∷ chains_from g n (g i)

abbrev pub chains_in : Nexts → ℕ → Option ℕ → List Chain
chains_in ns n at = chains_from (next_of ns) n at

-- each chain has a number below n
abbrev pub AreNumbersBelow : ℕ → List Chain → Type 0
AreNumbersBelow n cs = AllByRecursion (λ c. c.number < n) cs
