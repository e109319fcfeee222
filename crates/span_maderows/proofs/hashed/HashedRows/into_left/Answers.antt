use Rattle.std.proofs.Common.{◌++◌, ◌∙◌, ℕ, List, ap, refl, sym, subst}
use Rattle.span_maderows.specs.Made.{made_at, HaveDistinctKeys}
use Rattle.span_maderows.proofs.Hashing.{permuted_distinct, left_same}
use Rattle.span_maderows.proofs.hashed.HashedRows.into_left.Goals as goal

pub new-requires-2 : goal.new-requires-2
new-requires-2 c =
    let new = c.sort_rows.new.rows.items in
    subst (λ (l : List (List ℕ × List ℕ)). HaveDistinctKeys (l ++ new)) (sym c.new.ensures.empty)
    (permuted_distinct c.self.inside.rows.items new c.in_ok-sort_rows.ensures c.self.invariant.distinct)

pub returns : goal.returns
returns c =
    let rows = c.self.inside.rows.items in
    let new = c.sort_rows.new.rows.items in (λ k.
    ap (λ (l : List (List ℕ × List ℕ)). made_at l k) (c.new-2.ensures ∙ ap (λ (l : List (List ℕ × List ℕ)). l ++ new) c.new.ensures.empty)
    ∙ left_same rows rows new refl c.self.invariant.distinct c.in_ok-sort_rows.ensures k
    ∙ ap (λ (l : List (List ℕ × List ℕ)). made_at l k) c.self.view_is)
