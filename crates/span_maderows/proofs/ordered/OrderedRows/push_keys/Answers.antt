use Rattle.std.proofs.Common.{ℕ, List, sym, subst}
use Rattle.span_maderows.specs.Made.{AddsMade, AreInKeyOrder}
use Rattle.span_maderows.proofs.MadeRows.{added_both, order_back}
use Rattle.span_maderows.proofs.ordered.OrderedRows.push_keys.Goals as goal

pub push_keys_of_list-requires : goal.push_keys_of_list-requires
push_keys_of_list-requires c = subst AreInKeyOrder (sym c.as_slice.ensures.value) (order_back c.self.inside.map.entries c.self.inside.tail.items c.self.invariant)

pub returns : goal.returns
returns c =
    let old = c.args.keys.now.items in
    let middle = c.push_keys_of_map.new.keys.items in
    let new = c.push_keys_of_list.new.keys.items in
    subst (λ (l : List (List ℕ × List ℕ)). AddsMade l c.args.front.now old new) c.self.view_is
    (added_both c.self.inside.map.entries c.self.inside.tail.items c.args.front.now old middle new c.self.invariant c.in_ok-push_keys_of_map.ensures
    (subst (λ (l : List (List ℕ × List ℕ)). AddsMade l c.args.front.now middle new) c.as_slice.ensures.value c.in_ok-push_keys_of_list.ensures))
