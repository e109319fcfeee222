-- The entries of a tree after a key more.
use Rattle.std.proofs.Common.{◌≡◌, ℕ, List, ◌∷◌, ◌++◌, refl, sym, ◌∙◌, ap, Some, None, Bool, true, false, append_assoc}
use Rattle.std.specs.declared.cmp.Ordering.{Ordering}
use Rattle.std.specs.declared.cmp.Ordering.TheVariants.{Less, Equal, Greater}
use Rattle.span_keycode.specs.Order.{byte_order}
use Rattle.span_arena.specs.declared.cell.Balance.{Balance}
use Rattle.span_arena.specs.declared.cell.Balance.TheVariants.{LeftHigh, Even, RightHigh}
use Rattle.span_keytree.specs.Trees.{Tree, Leaf, Fork, Grown, turned_right, turned_left, joined_left, joined_right, placed, inserted, by_side, search_in}
use Rattle.span_keytree.specs.Entries.{with_entry, KeyEntry}
use Rattle.span_keytree.specs.Items.{entry, items, AreRising}
use Rattle.span_keytree.proofs.Rising.{turned, IsAround, around, with_entry_left, with_entry_right}

-- two entries of the left part, or of the right one, change their places in the tree alone
pair_left : (a : List KeyEntry) (e : KeyEntry) (b : List KeyEntry) (f : KeyEntry) (c : List KeyEntry) → (a ++ e ∷ b) ++ f ∷ c ≡ a ++ e ∷ (b ++ f ∷ c)
pair_left a e b f c = append_assoc a (e ∷ b) (f ∷ c)

three_left : (a : List KeyEntry) (e : KeyEntry) (b : List KeyEntry) (f : KeyEntry) (c : List KeyEntry) (g : KeyEntry) (d : List KeyEntry) → (a ++ e ∷ (b ++ f ∷ c)) ++ g ∷ d ≡ (a ++ e ∷ b) ++ f ∷ (c ++ g ∷ d)
three_left a e b f c g d =
    append_assoc a (e ∷ (b ++ f ∷ c)) (g ∷ d)
    ∙ ap (λ (zs : List KeyEntry). a ++ e ∷ zs) (append_assoc b (f ∷ c) (g ∷ d))
    ∙ sym (append_assoc a (e ∷ b) (f ∷ (c ++ g ∷ d)))

items_turned_right : (l : Tree) (n : ℕ) (k : List ℕ) (r : Tree) → items (turned_right l n k r) ≡ items l ++ entry k n ∷ items r
items_turned_right Leaf n k r = refl
items_turned_right (Fork ll m mk LeftHigh lr) n k r = sym (pair_left (items ll) (entry mk m) (items lr) (entry k n) (items r))
items_turned_right (Fork ll m mk Even lr) n k r = refl
items_turned_right (Fork ll m mk RightHigh Leaf) n k r = refl
items_turned_right (Fork ll m mk RightHigh (Fork a p pk pb b)) n k r = sym (three_left (items ll) (entry mk m) (items a) (entry pk p) (items b) (entry k n) (items r))

items_turned_left : (l : Tree) (n : ℕ) (k : List ℕ) (r : Tree) → items (turned_left l n k r) ≡ items l ++ entry k n ∷ items r
items_turned_left l n k Leaf = refl
items_turned_left l n k (Fork rl m mk RightHigh rr) = pair_left (items l) (entry k n) (items rl) (entry mk m) (items rr)
items_turned_left l n k (Fork rl m mk Even rr) = refl
items_turned_left l n k (Fork Leaf m mk LeftHigh rr) = refl
items_turned_left l n k (Fork (Fork a p pk pb b) m mk LeftHigh rr) =
    append_assoc (items l) (entry k n ∷ items a) (entry pk p ∷ (items b ++ entry mk m ∷ items rr))
    ∙ ap (λ (zs : List KeyEntry). items l ++ entry k n ∷ zs) (sym (append_assoc (items a) (entry pk p ∷ items b) (entry mk m ∷ items rr)))

items_joined_left : (grew : Bool) (l : Tree) (n : ℕ) (k : List ℕ) (b : Balance) (r : Tree) → items (joined_left grew l n k b r).tree ≡ items l ++ entry k n ∷ items r
items_joined_left false l n k b r = refl
items_joined_left true l n k LeftHigh r = items_turned_right l n k r
items_joined_left true l n k Even r = refl
items_joined_left true l n k RightHigh r = refl

items_joined_right : (grew : Bool) (l : Tree) (n : ℕ) (k : List ℕ) (b : Balance) (r : Tree) → items (joined_right grew l n k b r).tree ≡ items l ++ entry k n ∷ items r
items_joined_right false l n k b r = refl
items_joined_right true l n k LeftHigh r = refl
items_joined_right true l n k Even r = refl
items_joined_right true l n k RightHigh r = items_turned_left l n k r

placed_items : (o : Ordering) (new : ℕ) (key : List ℕ) (x y : Grown) (l : Tree) (n : ℕ) (k : List ℕ) (b : Balance) (r : Tree) → byte_order key k ≡ o → IsAround (items l) (entry k n) (items r)
    → (search_in key l ≡ None → items x.tree ≡ with_entry (items l) (entry key new)) → (search_in key r ≡ None → items y.tree ≡ with_entry (items r) (entry key new))
    → by_side o (search_in key l) n (search_in key r) ≡ None
    → items (placed o x y l n k b r).tree ≡ with_entry (items (Fork l n k b r)) (entry key new)
placed_items Less new key x y l n k b r is a left right h =
    items_joined_left x.grew x.tree n k b r
    ∙ ap (λ (zs : List KeyEntry). zs ++ entry k n ∷ items r) (left h)
    ∙ with_entry_left (items l) (entry k n) (items r) (entry key new) a is
placed_items Equal new key x y l n k b r is a left right h = absurd (let e : Some n ≡ None = h in cc)
placed_items Greater new key x y l n k b r is a left right h =
    items_joined_right y.grew l n k b y.tree
    ∙ ap (λ (zs : List KeyEntry). items l ++ entry k n ∷ zs) (right h)
    ∙ with_entry_right (items l) (entry k n) (items r) (entry key new) a (turned key k Greater is)

-- the new entry is in its place among the others
pub items_inserted : (new : ℕ) (key : List ℕ) (t : Tree) → AreRising (items t) → search_in key t ≡ None → items (inserted new key t).tree ≡ with_entry (items t) (entry key new)
items_inserted new key Leaf rising h = refl
items_inserted new key (Fork l n k b r) rising h =
    let a : IsAround (items l) (entry k n) (items r) = around (items l) (entry k n) (items r) rising in
    placed_items (byte_order key k) new key (inserted new key l) (inserted new key r) l n k b r refl a (items_inserted new key l a.front) (items_inserted new key r a.back) h
