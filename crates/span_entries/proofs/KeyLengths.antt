-- The lengths of coded keys, column by column.
use Rattle.std.proofs.Common.{◌≡◌, ◌⊎◌, inl, inr, ℕ, zero, suc, ◌+◌, ◌-◌, ◌^◌, ◌<◌, ◌≤◌, ◌==◌, Bool, true, false, List, [], ◌∷◌, length, take, get_or, refl, sym, ap, subst, arith}
use Rattle.std.proofs.lemmas.Bool.{eqb-true}
use Rattle.std.proofs.lemmas.List.{take_all}
use Rattle.span_value.specs.declared.value.Value.{Value}
use Rattle.span_value.specs.declared.value.Value.TheVariants as value
use Rattle.span_value.specs.declared.value.Kind.{Kind}
use Rattle.span_value.specs.declared.value.Kind.TheVariants as kind
use Rattle.span_schema.specs.declared.table.Table.{Table}
use Rattle.span_schema.specs.declared.layout.KeyPart.{KeyPart}
use Rattle.span_schema.specs.Lineages.{MeetsRules}
use Rattle.span_schema.specs.Numbers.{path_of, key_columns}
use Rattle.span_keycode.specs.Coding.{Fits, AreFit, plain}
use Rattle.span_keycode.specs.Keys.{IsCodedKey, values_len, key_code}
use Rattle.span_keycode.specs.Limits.{longest_key}
use Rattle.span_keycode.proofs.LevelLaws.{fit_length}
use Rattle.span_keycode.proofs.CodeLengths.{key_len}
use Rattle.span_mutate.specs.declared.row.TableRow.{TableRow}
use Rattle.span_mutate.specs.Typed.{IsTyped}
use Rattle.span_shard.specs.Rows.{code_of}
use Rattle.span_entries.specs.Entries.{IsWhetherOf}
use Rattle.span_entries.specs.Longest.{longest_value, IsLongest}

-- a value of a key is coded in no more bytes than its kind allows
plain_most : (k : Kind) (v : Value) → Fits k v → length (plain v) ≤ longest_key → length (plain v) ≤ longest_value k
plain_most kind.Int value.Null fits len = omega arith
plain_most kind.Int (value.Int i) fits len = omega arith
plain_most kind.Int (value.Str bs) fits len = absurd fits
plain_most kind.Int (value.Bytes bs) fits len = absurd fits
plain_most kind.Int (value.Bool b) fits len = absurd fits
plain_most kind.Str v fits len = len
plain_most kind.Bytes v fits len = len
plain_most kind.Bool value.Null fits len = omega arith
plain_most kind.Bool (value.Bool b) fits len = omega arith
plain_most kind.Bool (value.Int i) fits len = absurd fits
plain_most kind.Bool (value.Str bs) fits len = absurd fits
plain_most kind.Bool (value.Bytes bs) fits len = absurd fits

-- the value at a place, after those before it
next_most : (cs : List KeyPart) (vs : List Value) (i : ℕ) (d : KeyPart) → i < length cs → AreFit cs vs → values_len vs ≤ longest_key → values_len (take (suc i) vs) ≤ values_len (take i vs) + longest_value (get_or cs i d).kind
next_most [] vs i d less fits len = absurd (let l : i < 0 = less in omega arith)
next_most (c ∷ cs) [] i d less fits len = absurd fits
next_most (c ∷ cs) (v ∷ vs) zero d less fits len = omega (arith, plain_most c.kind v fits.0 (omega (arith, len)))
next_most (c ∷ cs) (v ∷ vs) (suc i) d less fits len = omega (arith, next_most cs vs i d (omega (arith, less)) fits.1 (omega (arith, len)))

-- fewer values are coded in no more bytes
front_most : (vs : List Value) (i : ℕ) → values_len (take i vs) ≤ values_len vs
front_most vs zero = omega arith
front_most [] (suc i) = omega arith
front_most (v ∷ vs) (suc i) = omega (arith, front_most vs i)

-- no more bytes code the levels and the values of the columns before a place
abbrev pub BoundedAt : List Table → ℕ → ℕ → ℕ → Type 0
BoundedAt schema n i most = (vs : List Value) → IsCodedKey schema n vs → length (path_of schema n) + values_len (take i vs) ≤ most

key_length : (schema : List Table) → MeetsRules schema → (n : ℕ) (vs : List Value) → IsCodedKey schema n vs → length (key_code schema n vs) ≡ length (path_of schema n) + values_len vs
key_length schema rules n vs is = key_len schema rules (n - 1) (omega (arith, is.0.0.0, is.0.0.1)) vs (fit_length (key_columns schema n) vs is.0.1)

pub bounded_first : (schema : List Table) (n most : ℕ) → most ≡ length (path_of schema n) → BoundedAt schema n 0 most
bounded_first schema n most is vs key = omega (arith, is)

pub bounded_next : (schema : List Table) → MeetsRules schema → (n i most next : ℕ) (d : KeyPart) → i < length (key_columns schema n)
    → (most + longest_value (get_or (key_columns schema n) i d).kind ≤ next) ⊎ (2 ^ 64 - 1 ≤ next) → BoundedAt schema n i most → BoundedAt schema n (i + 1) next
bounded_next schema rules n i most next d less grown so vs is =
    let len = key_length schema rules n vs is in
    let one = next_most (key_columns schema n) vs i d less is.0.1 (omega (arith, len, is.1)) in
    let place : suc i ≡ i + 1 = omega arith in
    let front = front_most vs (i + 1) in
    let before = so vs is in
    let step : values_len (take (i + 1) vs) ≤ values_len (take i vs) + longest_value (get_or (key_columns schema n) i d).kind = subst (λ (j : ℕ). values_len (take j vs) ≤ values_len (take i vs) + longest_value (get_or (key_columns schema n) i d).kind) place one in
    elim grown [
      | inl sum ↦ omega (arith, sum, step, before)
      | inr long ↦ omega (arith, long, front, len, is.1)
    ]

pub bounded_all : (schema : List Table) → MeetsRules schema → (n i most : ℕ) → length (key_columns schema n) ≤ i → BoundedAt schema n i most → IsLongest schema n most
bounded_all schema rules n i most over so = record {
  of = λ r typed is.
      let P : ℕ → Type 0 = λ t. IsCodedKey schema t r.key in
      let key = subst P is typed.0 in
      let len = key_length schema rules n r.key key in
      let whole : take i r.key ≡ r.key = take_all i r.key (omega (arith, over, fit_length (key_columns schema n) r.key key.0.1)) in
      let same : length (code_of schema r) ≡ length (key_code schema n r.key) = ap (λ (t : ℕ). length (key_code schema t r.key)) is in
      omega (arith, same, len, so r.key key, ap values_len whole);
}

-- a longer key is one of another table
pub longer_key : (schema : List Table) (n most : ℕ) (key : List ℕ) → IsLongest schema n most → most < length key → IsWhetherOf schema n key false
longer_key schema n most key longest long = record { of = λ r typed is. by_test r typed is (r.table == n) refl }
  where
    by_test : (r : TableRow) → IsTyped schema r → key ≡ code_of schema r → (b : Bool) → (r.table == n) ≡ b → false ≡ (r.table == n)
    by_test r typed is true test = absurd (let within = longest.of r typed (eqb-true r.table n test) in omega (arith, within, ap (length {A = ℕ}) is))
    by_test r typed is false test = sym test
