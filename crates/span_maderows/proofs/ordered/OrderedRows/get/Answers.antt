use Rattle.std.proofs.Common.{ℕ, List, ap, sym, subst, ◌∙◌}
use Rattle.std.proofs.lemmas.Bool.{MatchBool-at_true, MatchBool-at_false}
use Rattle.span_maderows.specs.Made.{made_at, AreInKeyOrder, IsBeforeAll, IsFromFirst}
use Rattle.span_maderows.proofs.MadeRows.{after_none, get_first, get_second, order_back}
use Rattle.span_maderows.proofs.ordered.OrderedRows.get.Goals as goal

pub returns-then-is_after_all : goal.returns-then-is_after_all
returns-then-is_after_all c = sym (after_none c.args.key.now c.args.self.now (c.is_after_all.ensures c.if-is_after_all.true))

pub is_before_all-requires : goal.is_before_all-requires
is_before_all-requires c = subst AreInKeyOrder (sym c.as_slice.ensures.value) (order_back c.self.inside.map.entries c.self.inside.tail.items c.self.invariant)

pub returns-then-is_before_all : goal.returns-then-is_before_all
returns-then-is_before_all c =
    let key = c.args.key.now in
    let before = subst (IsBeforeAll key) c.as_slice.ensures.value (MatchBool-at_true (IsBeforeAll key c.as_slice.result.now) (IsFromFirst key c.as_slice.result.now) c.if-is_before_all.true c.is_before_all.ensures) in
    c.get.ensures.value ∙ get_first c.self.inside.map.entries c.self.inside.tail.items key before ∙ ap (λ (l : List (List ℕ × List ℕ)). made_at l key) c.self.view_is

pub row_in-requires : goal.row_in-requires
row_in-requires c = subst AreInKeyOrder (sym c.as_slice-2.ensures.value) (order_back c.self.inside.map.entries c.self.inside.tail.items c.self.invariant)

pub returns : goal.returns
returns c =
    let key = c.args.key.now in
    let from = subst (IsFromFirst key) c.as_slice.ensures.value (MatchBool-at_false (IsBeforeAll key c.as_slice.result.now) (IsFromFirst key c.as_slice.result.now) c.if-is_before_all.false c.is_before_all.ensures) in
    c.row_in.ensures ∙ ap (λ (l : List (List ℕ × List ℕ)). made_at l key) c.as_slice-2.ensures.value
    ∙ get_second c.self.inside.map.entries c.self.inside.tail.items key c.self.invariant from ∙ ap (λ (l : List (List ℕ × List ℕ)). made_at l key) c.self.view_is
