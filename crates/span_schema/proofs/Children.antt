-- Children, read off the lines.
use Rattle.std.proofs.Common.{◌≡◌, ℕ, zero, suc, ◌+◌, ◌-◌, List, ◌∷◌, refl, ap, arith, Bool, cond, map}
use Rattle.std.specs.List.{range_with_len, filter}
use Rattle.span_schema.specs.declared.table.Table.{Table}
use Rattle.span_schema.specs.Lineages.{parent_at, is_parent, lineage_at}
use Rattle.span_schema.specs.Layouts.{children_in}

pub children_read : (tables : List Table) (parent a b n : ℕ) → a ≡ b + 1
    → children_in parent a (map (lineage_at tables) (range_with_len b n)) ≡ filter (λ m. is_parent parent (parent_at tables (m - 1))) (range_with_len a n)
children_read tables parent a b zero e = refl
children_read tables parent a b (suc n) e =
    let here : b ≡ a - 1 = omega arith in
    let test : is_parent parent (parent_at tables b) ≡ is_parent parent (parent_at tables (a - 1)) = ap (λ (k : ℕ). is_parent parent (parent_at tables k)) here in
    let again = children_read tables parent (a + 1) (b + 1) n (omega arith) in
    both _ _ a _ _ test again
  where
    both : (p q : Bool) (x : ℕ) (xs ys : List ℕ) → p ≡ q → xs ≡ ys → cond p (x ∷ xs) xs ≡ cond q (x ∷ ys) ys
    both p q x xs ys e f = cc
