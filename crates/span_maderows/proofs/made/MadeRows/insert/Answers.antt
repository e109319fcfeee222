use Rattle.std.proofs.Common.{rules, ◌≡◌, ℕ, List, None, Option, is_none, ap, sym, ◌∙◌}
use Rattle.span_maderows.specs.Made.{made_at, rows_of}
use Rattle.span_maderows.proofs.MadeRows.{end_absent}
use Rattle.span_maderows.proofs.made.MadeRows.insert.Goals as goal

pub returns-then-is_after_all-clause-absent : goal.returns-then-is_after_all-clause-absent
returns-then-is_after_all-clause-absent c =
    let key = c.args.key in
    let ordered = c.self.inside.ordered in
    let none : c.self.inside.by_hash ≡ None = search rules in
    end_absent ordered key (c.is_after_all.ensures c.if-is_after_all.true)
    ∙ ap (λ (l : List (List ℕ × List ℕ)). is_none (made_at l key)) (sym (ap (λ (h : Option (List (List ℕ × List ℕ))). rows_of h ordered) none) ∙ c.self.view_is)
