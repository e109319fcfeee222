-- What is checked has a value for each key column of its table.
use Rattle.std.proofs.Common.{◌≡◌, ℕ, ◌+◌, ◌-◌, ◌<◌, true, not, List, [], ◌∷◌, Option, Some, None, Result, Ok, Err, length, refl, sym, subst, arith}
use Rattle.std.specs.Prelude.{nat_lt}
use Rattle.std.specs.Option.{option_or}
use Rattle.std.proofs.lemmas.Option.{slice_get_within}
use Rattle.std.proofs.lemmas.Bool.{not-false}
use Rattle.span_value.specs.declared.value.Value.{Value}
use Rattle.span_value.specs.declared.refusal.Refusal.{Refusal}
use Rattle.span_value.specs.declared.refusal.Refusal.TheVariants.{WrongType, NullNotAllowed, ValueTooLong, KeyTooLong}
use Rattle.span_schema.specs.declared.table.Table.{Table}
use Rattle.span_keycode.specs.Keys.{key_code}
use Rattle.span_keycode.specs.Limits.{longest_key}
use Rattle.span_checking.specs.Columns.{key_breaks, is_null_refused, is_too_long}
use Rattle.span_value.specs.Results.{first_cause, and_then}
use Rattle.span_schema.specs.Tables.{table_place}
use Rattle.span_schema.specs.Numbers.{number_named, table_at, key_columns}
use Rattle.span_keycode.proofs.KindTests.{kinds_length}
use Rattle.span_keycode.specs.Coding.{are_of_kinds}
use Rattle.span_mutate.specs.declared.mutation.Mutation.{Mutation}
use Rattle.span_mutate.specs.declared.mutation.CheckedMutation.{CheckedMutation}
use Rattle.span_checking.specs.Checking.{key_causes, cells_cause, lack_causes, mutation_cause, typed, checked_at, checked_in, checked, checked_all}
use Rattle.span_mutate.specs.Directories.{IsKeyed, AreKeyed}
use Rattle.span_mutate.proofs.Causes.{first_none, or_none, unless_none}
use Rattle.span_mutate.proofs.Families.{number_here}

right_kinds : (tables : List Table) (n : ℕ) (t : Table) (key : List Value) → first_cause (key_causes tables n t key) ≡ None → are_of_kinds (key_columns tables n) key ≡ true
right_kinds tables n t key e = not-false (are_of_kinds (key_columns tables n) key)
    (first_none (not (are_of_kinds (key_columns tables n) key)) WrongType (
    (key_breaks is_null_refused t.columns t.key key, NullNotAllowed)
    ∷ (key_breaks is_too_long t.columns t.key key, ValueTooLong)
    ∷ (nat_lt longest_key (length (key_code tables n key)), KeyTooLong)
    ∷ []
    ) e)

keyed_at : (tables : List Table) (p n : ℕ) (o : Option Table) (m : Mutation) (c : CheckedMutation) → n ≡ p + 1 → table_at tables n ≡ o → checked_at tables n o m ≡ Ok c → IsKeyed tables c.table c.key
keyed_at tables p n None m c number at e = absurd cc
keyed_at tables p n (Some t) m c number at e =
    let parts = unless_none (mutation_cause tables n t m) (typed n t m) c e in
    let cause = or_none (first_cause (key_causes tables n t m.key)) (option_or (cells_cause t m.kind [] m.cells) (first_cause (lack_causes t m))) parts.0 in
    let kinds = right_kinds tables n t m.key cause in
    let within : n - 1 < length tables = slice_get_within tables (n - 1) t at in
    let P : CheckedMutation → Type 0 = λ d. IsKeyed tables d.table d.key in
    subst P parts.1 ((omega arith, omega arith), sym (kinds_length (key_columns tables n) m.key kinds))

keyed_in : (tables : List Table) (o : Option ℕ) (m : Mutation) (c : CheckedMutation) → number_named tables m.table ≡ o → checked_in tables o m ≡ Ok c → IsKeyed tables c.table c.key
keyed_in tables None m c named e = absurd cc
keyed_in tables (Some n) m c named e =
    let number = number_here (table_place tables m.table) n named in
    keyed_at tables number.0 n (table_at tables n) m c number.2 refl e

pub keyed_one : (tables : List Table) (m : Mutation) (c : CheckedMutation) → checked tables m ≡ Ok c → IsKeyed tables c.table c.key
keyed_one tables m c e = keyed_in tables (number_named tables m.table) m c refl e

pub keyed_all : (tables : List Table) (ms : List Mutation) (cs : List CheckedMutation) → checked_all tables ms ≡ Ok cs → AreKeyed tables cs
keyed_all tables [] cs e = subst (AreKeyed tables) (let f : [] ≡ cs = cc in f) tt
keyed_all tables (m ∷ ms) cs e = first (checked tables m) refl e (λ ds f. keyed_all tables ms ds f)
  where
    second : (c : CheckedMutation) → IsKeyed tables c.table c.key → (r : Result (List CheckedMutation) Refusal) → and_then r (λ ds. Ok (c ∷ ds)) ≡ Ok cs → ((ds : List CheckedMutation) → r ≡ Ok ds → AreKeyed tables ds) → AreKeyed tables cs
    second c k (Ok ds) f again = subst (AreKeyed tables) (let g : c ∷ ds ≡ cs = cc in g) (k, again ds refl)
    second c k (Err why) f again = absurd cc

    first : (r : Result CheckedMutation Refusal) → checked tables m ≡ r → and_then r (λ c. and_then (checked_all tables ms) (λ ds. Ok (c ∷ ds))) ≡ Ok cs
        → ((ds : List CheckedMutation) → checked_all tables ms ≡ Ok ds → AreKeyed tables ds) → AreKeyed tables cs
    first (Ok c) h f again = second c (keyed_one tables m c h) (checked_all tables ms) f again
    first (Err why) h f again = absurd cc
