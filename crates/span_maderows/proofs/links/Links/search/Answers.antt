use Rattle.std.proofs.Common.{rules, ◌≡◌, ◌∙◌, ◌-◌, ◌<◌, ◌≤◌, ℕ, List, ap, sym, subst, get_or, length, slice_index, false, arith}
use Rattle.std.specs.Map.{keys_of}
use Rattle.std.specs.Ordering.{is_eq}
use Rattle.std.proofs.lemmas.List.{get_or_default}
use Rattle.std.proofs.lemmas.Map.Entries.{length-keys_of}
use Rattle.span_keycode.specs.Order.{is_same}
use Rattle.span_maderows.specs.Linked.{key_at}
use Rattle.span_maderows.proofs.Linking.{IsSearching, found_key, search_first, search_next, search_none}
use Rattle.span_maderows.proofs.links.Links.search.Goals as goal

pub loop-left-init : goal.loop-left-init
loop-left-init c =
    let keys = keys_of c.args.rows.now in
    let lasts = c.args.self.now.lasts.items in
    let n = c.index-left.result.now in
    let read : n ≡ get_or lasts c.args.class n = search rules in
    let is : n ≡ slice_index lasts c.args.class = read ∙ get_or_default lasts c.args.class n 0 c.requires.within in
    subst (λ (n : ℕ). IsSearching keys c.args.key.now (length lasts) c.args.class n) (sym is)
    (search_first keys lasts c.args.self.now.befores.items c.args.key.now c.args.class c.requires.linked c.requires.class c.requires.within)

pub loop-left-preserved : goal.loop-left-preserved
loop-left-preserved c =
    let rows = c.args.rows.now in
    let key = c.args.key.now in
    let lasts = c.args.self.now.lasts.items in
    let befores = c.args.self.now.befores.items in
    let left = c.loop-left.left in
    let at = left - 1 in
    let e = c.index-rows-place.result in
    let up : left ≤ length (keys_of rows) = c.loop-left.invariant.within in
    let some : 0 < left = c.loop-left-test.true in
    let within : at < length rows = omega (arith, length-keys_of rows) in
    let next = c.index-left-in-loop-left.result.now in
    let read : next ≡ get_or befores at next = search rules in
    let counted : length befores ≡ length (keys_of rows) = c.requires.linked.counted in
    let is : next ≡ slice_index befores at = read ∙ get_or_default befores at next 0 (omega arith) in
    let other : is_same key (key_at (keys_of rows) at) ≡ false =
    ap (is_same key) (found_key rows at e within c.index-rows-place.is ∙ ap (λ (p : List ℕ × List ℕ). p.0) c.index-rows-place.is) ∙ sym (c.is_eq.ensures ∙ ap is_eq c.cmp.ensures) ∙ c.if-is_eq.false in
    subst (λ (n : ℕ). IsSearching (keys_of rows) key (length lasts) c.args.class n) (sym is)
    (search_next (keys_of rows) lasts befores key c.args.class left at c.requires.linked c.requires.class c.loop-left.invariant (omega arith) other)

pub returns-clause-none : goal.returns-clause-none
returns-clause-none c =
    let end : c.loop-left.left ≤ 0 = omega arith in
    search_none c.args.rows.now c.args.key.now (length c.args.self.now.lasts.items) c.args.class c.loop-left.left c.loop-left.invariant end
