-- The keys of a tree in order, each with its chain, whose number is that of its cell.
use Rattle.std.specs.Prelude.{◌≡◌, ℕ, ◌+◌, List, [], ◌∷◌, ◌++◌, Bool, not, ◌&&◌, filter, Contains}
use Rattle.std.specs.List.{AllByRecursion}
use Rattle.std.specs.Ordering.{is_lt, is_gt}
use Rattle.std.specs.declared.cmp.Ordering.TheVariants.{Less}
use Rattle.span_keycode.specs.Order.{byte_order}
use Rattle.span_arena.specs.Cells.{is_past}
use Rattle.span_keytree.specs.Entries.{KeyEntry}
use Rattle.span_keytree.specs.Trees.{Tree, Leaf, Fork, one_at}

abbrev pub entry : List ℕ → ℕ → KeyEntry
entry k n = record { key = k; chain = record { number = n } }

-- the entries of a tree, from the left
abbrev pub items : Tree → List KeyEntry
items Leaf = []
items (Fork l n k b r) = items l ++ entry k n ∷ items r

-- how many keys have the chain of this number
abbrev pub holders : ℕ → List KeyEntry → ℕ
holders i [] = 0
holders i (e ∷ es) = one_at i e.chain.number + holders i es

-- each key is below all later ones
abbrev pub AreRising : List KeyEntry → Type 0
AreRising [] = Unit {0}
AreRising (e ∷ es) = AllByRecursion (λ f. byte_order e.key f.key ≡ Less) es × AreRising es

-- the key has the chain of this number
abbrev pub HasCell : List KeyEntry → List ℕ → ℕ → Type 0
HasCell es key cell = Contains es (entry key cell)

-- the entries with smaller keys, those with greater ones, and those that are not smaller
abbrev pub below : List ℕ → List KeyEntry → List KeyEntry
below key es = filter (λ e. is_lt (byte_order e.key key)) es

abbrev pub above : List ℕ → List KeyEntry → List KeyEntry
above key es = filter (λ e. is_gt (byte_order e.key key)) es

abbrev pub from : List ℕ → List KeyEntry → List KeyEntry
from key es = filter (λ e. not (is_lt (byte_order e.key key))) es

-- at or above the first bytes of a range, and before the first after it
abbrev pub is_between : List ℕ → List ℕ → List ℕ → Bool
is_between low high key = not (is_lt (byte_order key low)) && is_lt (byte_order key high)

-- the entries whose keys are in the range
abbrev pub entries_between : List ℕ → List ℕ → List KeyEntry → List KeyEntry
entries_between low high es = filter (λ e. is_between low high e.key) es

-- the entries after all keys that begin with these bytes
abbrev pub past : List ℕ → List KeyEntry → List KeyEntry
past front es = filter (λ e. is_past front e.key) es
