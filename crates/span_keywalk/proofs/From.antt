-- A walk from a key on.
use Rattle.std.proofs.Common.{◌≡◌, ℕ, ◌≤◌, length, List, [], ◌++◌, refl, sym, ◌∙◌, ap, None, Option, append-nil}
use Rattle.span_arena.specs.declared.cell.Cell.{Cell}
use Rattle.span_keytree.specs.declared.tree.TreeRoot.{TreeRoot}
use Rattle.span_keytree.specs.Entries.{KeyEntry}
use Rattle.span_keytree.specs.Items.{below, from}
use Rattle.span_keytree.specs.Nexts.{Nexts, head_cell}
use Rattle.span_keytree.specs.Roots.{entries_at, IsIndex}
use Rattle.span_keytree.proofs.Rising.{cut_from}
use Rattle.span_keywalk.proofs.Walking.{IsWalked, AreWalked, part_walked, part_handed}

module _ (cs : List Cell) (ns : Nexts) (index : TreeRoot) (own : IsIndex cs ns index) (n : ℕ) (enough : length cs ≤ n) (low : List ℕ) (at : Option ℕ) (first : at ≡ head_cell None (from low (entries_at cs index))) where
  cut : entries_at cs index ≡ below low (entries_at cs index) ++ (from low (entries_at cs index) ++ [])
  cut = cut_from low (entries_at cs index) own.search.rising ∙ ap (λ (xs : List KeyEntry). below low (entries_at cs index) ++ xs) (sym (append-nil (from low (entries_at cs index))))

  -- the entries from a key on
  pub from_walked : IsWalked cs ns n at None (from low (entries_at cs index))
  from_walked = part_walked cs ns index own n enough (below low (entries_at cs index)) (from low (entries_at cs index)) [] at None cut
      (first ∙ ap (λ (xs : List KeyEntry). head_cell None xs) (sym (append-nil (from low (entries_at cs index))))) refl

  -- and their chains
  pub from_handed : AreWalked ns n at (from low (entries_at cs index))
  from_handed = part_handed cs ns n at (from low (entries_at cs index)) own.places from_walked
