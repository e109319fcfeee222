-- A table of a schema is found by its own name.
use Rattle.std.proofs.Common.{◌≡◌, ℕ, zero, suc, ◌+◌, ◌-◌, ◌<◌, Bool, true, false, not, cond, List, [], ◌∷◌, Some, None, length, take, refl, sym, ap, ◌∙◌, arith}
use Rattle.std.specs.Prelude.{nat_lt, position, slice_get}
use Rattle.std.specs.List.{AllByRecursion, position_or_len}
use Rattle.std.proofs.lemmas.Bool.Decides.{nat_tests}
use Rattle.std.proofs.lemmas.Option.{slice_get_within}
use Rattle.span_schema.specs.declared.table.Table.{Table}
use Rattle.span_schema.specs.Tables.{is_same_name}
use Rattle.span_schema.specs.Lineages.{MeetsRules}
use Rattle.span_schema.specs.Numbers.{IsTable, table_at, number_named, number_of}
use Rattle.span_schema.proofs.Judged.{passes_at}
use Rattle.span_schema.proofs.Names.{lower_same}
use Rattle.span_checking.proofs.NamedKinds.{none_placed}

first_place : {X : Type 0} (p : X → Bool) (xs : List X) (i : ℕ) (x : X) → slice_get xs i ≡ Some x → p x ≡ true → AllByRecursion (λ y. p y ≡ false) (take i xs) → position_or_len p xs ≡ i
first_place p [] i x at hit none = absurd (let f : None ≡ Some x = at in cc)
first_place p (y ∷ ys) zero x at hit none =
    let is : y ≡ x = (let f : Some y ≡ Some x = at in cc) in
    ap (λ (b : Bool). cond (not b) (1 + position_or_len p ys) 0) (ap p is ∙ hit)
first_place p (y ∷ ys) (suc i) x at hit none =
    ap (λ (b : Bool). cond (not b) (1 + position_or_len p ys) 0) none.0 ∙ (let more = first_place p ys i x at hit none.1 in omega (arith, more))

placed_first : {X : Type 0} (p : X → Bool) (xs : List X) (i : ℕ) (x : X) → slice_get xs i ≡ Some x → p x ≡ true → AllByRecursion (λ y. p y ≡ false) (take i xs) → position p xs ≡ Some i
placed_first p xs i x at hit none =
    let within : i < length xs = slice_get_within xs i x at in
    let less : nat_lt i (length xs) ≡ true = grind (arith, nat_tests, within) in
    ap (λ (k : ℕ). cond (nat_lt k (length xs)) (Some k) None) (first_place p xs i x at hit none) ∙ ap (λ (b : Bool). cond b (Some i) None) less

-- names of tables are different, so a table's name is that of its number
pub named_itself : (tables : List Table) → MeetsRules tables → (n : ℕ) (t : Table) → IsTable tables n → Some t ≡ table_at tables n → number_named tables t.name ≡ Some n
named_itself tables rules n t is at =
    let here : slice_get tables (n - 1) ≡ Some t = sym at in
    let test : Table → Bool = λ u. is_same_name u.name t.name in
    let none = none_placed test (take (n - 1) tables) (passes_at tables rules (n - 1) t here).new_name in
    let number : n - 1 + 1 ≡ n = omega (arith, is.0) in
    ap number_of (placed_first test tables (n - 1) t here (lower_same t.name t.name refl) none) ∙ ap Some number
