use Rattle.std.proofs.Common.{rules, ◌≡◌, ◌∙◌, ◌∷◌, [], Some, List, ℕ, ap, drop, get_or, length, set, sym, subst}
use Rattle.std.specs.Prelude.{slice_get}
use Rattle.std.proofs.lemmas.List.{length-set}
use Rattle.span_query.specs.declared.query.SortKey.{SortKey}
use Rattle.span_query.specs.Sorting.{insert_sorted}
use Rattle.span_merging.specs.declared.parts.PartRest.{PartRest}
use Rattle.span_sorting.specs.Orders.{IsOrderBelow, IsStrictlySorted, first_put}
use Rattle.span_merging.specs.PartRests.{IsPartOrder, front_at, part_before, row_before, rows_of_rests}
use Rattle.span_merging.proofs.ItemOrders.{first_is_least, order_moved, others_sorted}
use Rattle.span_merging.proofs.Merging.{IsLeast}
use Rattle.span_merging.proofs.PartRests.{fronts_ranked, next_taken, none_is_left, other_fronts}
use Rattle.span_merging.proofs.parts.take_least.Goals as goal

first_and_others : (order : List ℕ) (k : ℕ) → slice_get order 0 ≡ Some k → order ≡ k ∷ drop 1 order
first_and_others [] k e = cc
first_and_others (x ∷ order) k e = let same : x ≡ k = cc in ap (λ (n : ℕ). n ∷ order) same

module _ (keys : List SortKey) (rests : List PartRest) (order : List ℕ) (k : ℕ) (first : slice_get order 0 ≡ Some k) (is : IsPartOrder keys rests order) where
  split_order : IsPartOrder keys rests (k ∷ drop 1 order)
  split_order = subst (IsPartOrder keys rests) (first_and_others order k first) is

  first_least : IsLeast (row_before keys) (front_at (rows_of_rests rests)) (length rests) k
  first_least = first_is_least (row_before keys) (front_at (rows_of_rests rests)) (fronts_ranked keys) (length rests) k (drop 1 order) split_order

pub returns-in_default-take_first-clause-none : goal.returns-in_default-take_first-clause-none
returns-in_default-take_first-clause-none c =
    let keys = c.args.keys.now in
    let rests : List PartRest = c.args.rests.now.items in
    let order : List ℕ = c.args.order.now.items in
    let k : ℕ = c.in-Some.part.now in
    let r : PartRest = c.index_mut.result.now in
    let first : slice_get order 0 ≡ Some k = search rules in
    let least : IsLeast (row_before keys) (front_at (rows_of_rests rests)) (length rests) k = first_least keys rests order k first c.requires.order in
    let is : r ≡ get_or rests k r = search rules in
    let none : r.places.now ≡ [] = search rules in
    none_is_left keys c.args.are_exact rests k r is least none

pub returns-clause-some : goal.returns-clause-some
returns-clause-some c =
    let keys = c.args.keys.now in
    let rests : List PartRest = c.args.rests.now.items in
    let order : List ℕ = c.args.order.now.items in
    let k : ℕ = c.in-Some.part.now in
    let r : PartRest = c.index_mut.result.now in
    let first : slice_get order 0 ≡ Some k = search rules in
    let least : IsLeast (row_before keys) (front_at (rows_of_rests rests)) (length rests) k = first_least keys rests order k first c.requires.order in
    let is : r ≡ get_or rests k r = search rules in
    next_taken keys c.args.are_exact rests k r is least c.take_first.new.rest c.in-Some-take_first.place c.requires.rests c.in-Some-take_first.ensures.some

pub returns-clause-order : goal.returns-clause-order
returns-clause-order c =
    let keys = c.args.keys.now in
    let rests : List PartRest = c.args.rests.now.items in
    let order : List ℕ = c.args.order.now.items in
    let others : List ℕ = drop 1 order in
    let k : ℕ = c.in-Some.part.now in
    let r : PartRest = c.index_mut.result.now in
    let rest : PartRest = c.take_first.new.rest in
    let now : List PartRest = set rests k rest in
    let first : slice_get order 0 ≡ Some k = search rules in
    let split : order ≡ k ∷ others = first_and_others order k first in
    let least : IsLeast (row_before keys) (front_at (rows_of_rests rests)) (length rests) k = first_least keys rests order k first c.requires.order in
    let is : r ≡ get_or rests k r = search rules in
    let same : c.as_slice-2.result.now ≡ now = search rules in
    let put : c.move_first.new.order.items ≡ insert_sorted (part_before keys now) k others =
    c.in_ok-move_first.ensures ∙ ap (λ (l : List PartRest). first_put (part_before keys l) order) same ∙ ap (first_put (part_before keys now)) split in
    subst (IsPartOrder keys now) (sym put)
    (subst (λ (n : ℕ). IsOrderBelow n (part_before keys now) (insert_sorted (part_before keys now) k others)) (sym (length-set rests k rest))
    (order_moved (row_before keys) (fronts_ranked keys) (front_at (rows_of_rests rests)) (front_at (rows_of_rests now)) k
    (λ i apart. other_fronts keys c.args.are_exact rests k r is least rest i apart) (length rests) others (split_order keys rests order k first c.requires.order)))

pub move_first-requires-clause-sorted : goal.move_first-requires-clause-sorted
move_first-requires-clause-sorted c =
    let keys = c.args.keys.now in
    let rests : List PartRest = c.args.rests.now.items in
    let order : List ℕ = c.args.order.now.items in
    let others : List ℕ = drop 1 order in
    let k : ℕ = c.in-Some.part.now in
    let r : PartRest = c.index_mut.result.now in
    let rest : PartRest = c.take_first.new.rest in
    let now : List PartRest = set rests k rest in
    let first : slice_get order 0 ≡ Some k = search rules in
    let least : IsLeast (row_before keys) (front_at (rows_of_rests rests)) (length rests) k = first_least keys rests order k first c.requires.order in
    let is : r ≡ get_or rests k r = search rules in
    let same : c.as_slice-2.result.now ≡ now = search rules in
    subst (λ (l : List PartRest). IsStrictlySorted (part_before keys l) others) (sym same)
    (others_sorted (row_before keys) (fronts_ranked keys) (front_at (rows_of_rests rests)) (front_at (rows_of_rests now)) k
    (λ i apart. other_fronts keys c.args.are_exact rests k r is least rest i apart) (length rests) others (split_order keys rests order k first c.requires.order))
