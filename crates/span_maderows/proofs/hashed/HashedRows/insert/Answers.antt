use Rattle.std.proofs.Common.{rules, ◌≡◌, ◌∙◌, ◌<◌, ◌++◌, ◌∷◌, [], ℕ, List, Some, None, is_none, ap, sym, cond, get_or, set, length, true}
use Rattle.std.specs.Map.{keys_of}
use Rattle.span_keycode.specs.Order.{is_same}
use Rattle.span_maderows.specs.Linked.{key_at}
use Rattle.span_maderows.specs.Made.{made_at}
use Rattle.span_maderows.proofs.Hashing.{hashed_set, order_at}
use Rattle.span_maderows.proofs.Linking.{found_row, more_hashed, more_set, replaced, replaced_hashed}
use Rattle.span_maderows.proofs.hashed.HashedRows.insert.Goals as goal

pub invariant_of-self : goal.invariant_of-self
invariant_of-self c =
    let rows = c.self.inside.rows.items in
    let at = c.in-Some.place in
    let e = c.index_mut.result.now in
    let within : at < length rows = search rules in
    let is : e ≡ get_or rows at e = search rules in
    replaced_hashed rows c.self.inside.links.lasts.items c.self.inside.links.befores.items at e c.args.row within is c.self.invariant

pub returns-in-Some-clause-absent : goal.returns-in-Some-clause-absent
returns-in-Some-clause-absent c =
    let rows = c.self.inside.rows.items in
    let key = c.args.key in
    let at = c.in-Some.place in
    let e = c.index_mut.result.now in
    let within : at < length rows = search rules in
    let found : is_same key (key_at (keys_of rows) at) ≡ true = search rules in
    let is : e ≡ get_or rows at e = search rules in
    sym (ap (λ o. is_none o) (ap (λ (l : List (List ℕ × List ℕ)). made_at l key) (sym c.self.view_is) ∙ order_at rows key ∙ found_row rows key at e c.self.invariant.distinct within is found))

pub returns-in-Some-clause-set : goal.returns-in-Some-clause-set
returns-in-Some-clause-set c =
    let rows = c.self.inside.rows.items in
    let key = c.args.key in
    let row = c.args.row in
    let at = c.in-Some.place in
    let e = c.index_mut.result.now in
    let within : at < length rows = search rules in
    let found : is_same key (key_at (keys_of rows) at) ≡ true = search rules in
    let is : e ≡ get_or rows at e = search rules in (λ k.
    hashed_set rows (set rows at (e.0, row)) key (Some row) (replaced rows key at e row c.self.invariant.distinct within is found) k
    ∙ ap (λ (l : List (List ℕ × List ℕ)). cond (is_same key k) (Some row) (made_at l k)) c.self.view_is)

pub invariant_of-self-2 : goal.invariant_of-self-2
invariant_of-self-2 c =
    let rows = c.self.inside.rows.items in
    let old = c.self.inside.links in
    let new = c.push.new.self in
    let next = c.push_reserved.new.self.items in
    let none : made_at rows c.args.key ≡ None = search rules in
    let is : next ≡ rows ++ (c.args.key, c.args.row) ∷ [] = search rules in
    more_hashed rows next old.lasts.items old.befores.items new.lasts.items new.befores.items c.args.key c.args.row c.class_of-class.result c.self.invariant none is c.class_of-class.ensures.class c.in_ok-push.ensures.linked

pub returns-clause-absent : goal.returns-clause-absent
returns-clause-absent c =
    let rows = c.self.inside.rows.items in
    let key = c.args.key in
    let none : made_at rows key ≡ None = search rules in
    sym (ap (λ o. is_none o) (ap (λ (l : List (List ℕ × List ℕ)). made_at l key) (sym c.self.view_is) ∙ order_at rows key ∙ none))

pub returns-clause-set : goal.returns-clause-set
returns-clause-set c =
    let rows = c.self.inside.rows.items in
    let key = c.args.key in
    let row = c.args.row in
    let next = c.push_reserved.new.self.items in
    let none : made_at rows key ≡ None = search rules in
    let is : next ≡ rows ++ (key, row) ∷ [] = search rules in (λ k.
    hashed_set rows next key (Some row) (λ l. ap (λ (m : List (List ℕ × List ℕ)). made_at m l) is ∙ more_set rows key row none l) k
    ∙ ap (λ (l : List (List ℕ × List ℕ)). cond (is_same key k) (Some row) (made_at l k)) c.self.view_is)
