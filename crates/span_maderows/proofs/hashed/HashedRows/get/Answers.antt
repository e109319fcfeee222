use Rattle.std.proofs.Common.{rules, ◌≡◌, ◌∙◌, ◌<◌, ℕ, List, None, ap, sym, get_or, length, true}
use Rattle.std.specs.Map.{keys_of}
use Rattle.span_keycode.specs.Order.{is_same}
use Rattle.span_maderows.specs.Linked.{key_at}
use Rattle.span_maderows.specs.Made.{made_at}
use Rattle.span_maderows.proofs.Hashing.{order_at}
use Rattle.span_maderows.proofs.Linking.{found_row}
use Rattle.span_maderows.proofs.hashed.HashedRows.get.Goals as goal

pub returns-in-Some : goal.returns-in-Some
returns-in-Some c =
    let rows = c.self.inside.rows.items in
    let key = c.args.key.now in
    let at = c.in-Some.place in
    let e = c.index.result.now in
    let within : at < length rows = search rules in
    let found : is_same key (key_at (keys_of rows) at) ≡ true = search rules in
    let is : e ≡ get_or rows at e = search rules in
    sym (found_row rows key at e c.self.invariant.distinct within is found) ∙ sym (order_at rows key) ∙ ap (λ (l : List (List ℕ × List ℕ)). made_at l key) c.self.view_is

pub returns-in-None : goal.returns-in-None
returns-in-None c =
    let rows = c.self.inside.rows.items in
    let key = c.args.key.now in
    let none : made_at rows key ≡ None = search rules in
    sym none ∙ sym (order_at rows key) ∙ ap (λ (l : List (List ℕ × List ℕ)). made_at l key) c.self.view_is
