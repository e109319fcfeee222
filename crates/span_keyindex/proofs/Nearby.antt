-- Where a key is, by a chain near it.
use Rattle.std.proofs.Common.{◌≡◌, ◌≢◌, ℕ, zero, ◌<◌, List, [], ◌∷◌, ◌++◌, refl, sym, ◌∙◌, ap, arith, inl, inr, None, get_or, subst, true}
use Rattle.std.specs.Prelude.{Contains, is_some}
use Rattle.std.specs.List.{AllByRecursion}
use Rattle.std.specs.declared.cmp.Ordering.TheVariants.{Less, Equal, Greater}
use Rattle.std.proofs.lemmas.Bool.{cases_eq}
use Rattle.std.proofs.lemmas.List.Elements.{All-from_recursion, Contains-append_right}
use Rattle.span_keycode.specs.Order.{byte_order}
use Rattle.span_arena.specs.declared.cell.Cell.{Cell}
use Rattle.span_arena.specs.Cells.{cell_at}
use Rattle.span_arena.specs.Content.{Content}
use Rattle.span_keyindex.specs.declared.index.KeyIndex.{KeyIndex}
use Rattle.span_keytree.specs.Entries.{KeyEntry, HasChain, IsAbsent}
use Rattle.span_keytree.specs.Items.{entry, holders, AreRising}
use Rattle.span_keytree.specs.Roots.{tree_of}
use Rattle.span_keyindex.specs.Indexes.{entries_of, IsIndexOf}
use Rattle.span_keyindex.specs.Nears.{ComesBefore}
use Rattle.span_keytree.specs.Nexts.{next_of, IsLinked, head_cell}
use Rattle.std.proofs.lemmas.Map.Lookups.{exact_bytes}
use Rattle.span_value.proofs.Lists.{all_append, all_weaker}
use Rattle.span_keytree.proofs.Counting.{one_other}
use Rattle.span_keytree.proofs.Linking.{linked_back, linked_first}
use Rattle.span_keytree.proofs.Rising.{all_back, IsAround, around, apart, turned, above_more, below_more}
use Rattle.span_keytree.proofs.Keyed.{keys_in_cells}
use Rattle.span_keytree.proofs.Into.{chain_one}

-- an entry of a chain among the others
record IsHolder (b : ℕ) (es : List KeyEntry) : Type 0 where
  front : List KeyEntry
  here : KeyEntry
  back : List KeyEntry
  is : es ≡ front ++ here ∷ back
  number : here.chain.number ≡ b

holder : (b : ℕ) (es : List KeyEntry) → 0 < holders b es → IsHolder b es
holder b [] some = absurd (omega arith)
holder b (e ∷ es) some = elim (cases_eq e.chain.number b) [
  | inl same ↦ record { front = []; here = e; back = es; is = refl; number = same }
  | inr differs ↦ (let rest = holder b es (omega (arith, one_other b e.chain.number (λ q. differs (sym q)))) in
      record { front = e ∷ rest.front; here = rest.here; back = rest.back; is = ap (λ (l : List KeyEntry). e ∷ l) rest.is; number = rest.number })
]

-- a key before the first of some that rise is none of theirs
other_after : (cs : List Cell) (key : List ℕ) (ys : List KeyEntry) → AreRising ys → AllByRecursion (λ (e : KeyEntry). (cell_at cs e.chain.number).key ≡ e.key) ys → ComesBefore cs key (head_cell None ys)
    → AllByRecursion (λ (e : KeyEntry). e.key ≢ key) ys
other_after cs key [] rising keys before = tt
other_after cs key (y ∷ ys) rising keys before =
    let less : byte_order key y.key ≡ Less = ap (byte_order key) (sym keys.0) ∙ before in (
      (λ same. apart key y.key less (sym same)),
      all_weaker (λ (e : KeyEntry). byte_order key e.key ≡ Less) (λ (e : KeyEntry). e.key ≢ key) (λ e x same. apart key e.key x (sym same)) ys (above_more key y.key ys less rising.0),
    )

module _ (i : KeyIndex) (a : Content) (own : IsIndexOf i a) (near : ℕ) (is_chain : is_some (get_or a.chains near None) ≡ true) where
  abbrev es : List KeyEntry
  es = entries_of i a

  one : holders near es ≡ 1
  one = own.own.each near ∙ chain_one (get_or a.chains near None) is_chain

  split : IsHolder near es
  split = holder near es (omega (arith, one))

  rising : AreRising (split.front ++ split.here ∷ split.back)
  rising = subst AreRising split.is own.index.search.rising

  sides : IsAround split.front split.here split.back
  sides = around split.front split.here split.back rising

  keys : AllByRecursion (λ (e : KeyEntry). (cell_at a.cells e.chain.number).key ≡ e.key) (split.front ++ split.here ∷ split.back)
  keys = subst (λ (l : List KeyEntry). AllByRecursion (λ (e : KeyEntry). (cell_at a.cells e.chain.number).key ≡ e.key) l) split.is (keys_in_cells a.cells (tree_of a.cells i.tree) own.index.search.tree.in_cells)

  here_key : (cell_at a.cells near).key ≡ split.here.key
  here_key =
      ap (λ (n : ℕ). (cell_at a.cells n).key) (sym split.number)
      ∙ (all_back (λ (e : KeyEntry). (cell_at a.cells e.chain.number).key ≡ e.key) split.front (split.here ∷ split.back) keys).0

  next : next_of i.nexts near ≡ head_cell None split.back
  next =
      let linked : IsLinked (next_of i.nexts) i.nexts.first (split.front ++ split.here ∷ split.back) = subst (λ (l : List KeyEntry). IsLinked (next_of i.nexts) i.nexts.first l) split.is own.index.linked in
      ap (next_of i.nexts) (sym split.number)
      ∙ linked_first (next_of i.nexts) (next_of i.nexts split.here.chain.number) split.back (linked_back (next_of i.nexts) i.nexts.first split.front (split.here ∷ split.back) linked).1

  -- its key is the one
  pub near_here : (key : List ℕ) → byte_order key (cell_at a.cells near).key ≡ Equal → HasChain (entries_of i a) key (record { number = near })
  near_here key is =
      let same_key : key ≡ split.here.key = exact_bytes key (cell_at a.cells near).key is ∙ here_key in
      let same : split.here ≡ entry key near = ap (λ (k : List ℕ). entry k split.here.chain.number) (sym same_key) ∙ ap (entry key) split.number in
      subst (λ (l : List KeyEntry). Contains l (entry key near)) (sym split.is) (Contains-append_right split.front (split.here ∷ split.back) (entry key near) (zero, omega arith, same))

  -- the key is between its key and the next
  pub near_absent : (key : List ℕ) → byte_order key (cell_at a.cells near).key ≡ Greater → ComesBefore a.cells key (next_of i.nexts near) → IsAbsent (entries_of i a) key
  near_absent key is before =
      let less : byte_order split.here.key key ≡ Less = turned key split.here.key Greater (ap (byte_order key) (sym here_key) ∙ is) in
      let after = other_after a.cells key split.back sides.back (all_back (λ (e : KeyEntry). (cell_at a.cells e.chain.number).key ≡ e.key) split.front (split.here ∷ split.back) keys).1 (subst (ComesBefore a.cells key) next before) in
      let all : AllByRecursion (λ (e : KeyEntry). e.key ≢ key) (split.front ++ split.here ∷ split.back) =
      all_append (λ (e : KeyEntry). e.key ≢ key) split.front (split.here ∷ split.back)
      (all_weaker (λ (e : KeyEntry). byte_order e.key key ≡ Less) (λ (e : KeyEntry). e.key ≢ key) (λ e x same. apart e.key key x same) split.front (below_more split.here.key key split.front less sides.smaller))
      ((λ same. apart split.here.key key less same), after) in
      All-from_recursion (λ (e : KeyEntry). e.key ≢ key) (entries_of i a) (subst (λ (l : List KeyEntry). AllByRecursion (λ (e : KeyEntry). e.key ≢ key) l) (sym split.is) all)
