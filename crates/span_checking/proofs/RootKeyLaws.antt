-- What a coded root key is, by the name of its table.
use Rattle.std.proofs.Common.{◌≡◌, ◌==◌, ℕ, ◌+◌, ◌-◌, ◌<◌, ◌≤◌, List, [], ◌∷◌, Option, Some, None, is_none, Bool, true, false, not, refl, sym, arith, length, nat_lt, if◌then◌else◌}
use Rattle.std.proofs.lemmas.Bool.{and_parts, not-false, eqb-true, ltb-false}
use Rattle.std.proofs.lemmas.Option.{slice_get_within}
use Rattle.span_value.specs.Results.{first_cause}
use Rattle.span_value.specs.declared.refusal.Refusal.{Refusal}
use Rattle.span_value.specs.declared.value.Value.{Value}
use Rattle.span_schema.specs.declared.table.Table.{Table}
use Rattle.span_schema.specs.Lineages.{MeetsRules}
use Rattle.span_schema.specs.Numbers.{number_of, number_named, root_of, table_at, key_columns}
use Rattle.span_keycode.specs.Coding.{are_of_kinds, AreValues}
use Rattle.span_keycode.specs.Keys.{IsCodedKey, key_code}
use Rattle.span_keycode.specs.Limits.{longest_key}
use Rattle.span_checking.specs.Checking.{key_causes}
use Rattle.span_checking.specs.Columns.{is_null_refused, is_too_long, key_breaks}
use Rattle.span_checking.specs.RootKeys.{is_root_key, root_key_at, root_key_in, root_key}
use Rattle.span_schema.specs.Tables.{table_place}

-- the key of a root table with these values, and its coding
abbrev pub IsRootKey : List Table → List Value → List ℕ → Type 0
IsRootKey schema key k = (n : ℕ) × (root_of schema n ≡ n) × IsCodedKey schema n key × (k ≡ key_code schema n key)

-- nothing of four causes is left
no_cause : (a b c d : Bool) (p q r s : Refusal) → is_none (first_cause ((a, p) ∷ (b, q) ∷ (c, r) ∷ (d, s) ∷ [])) ≡ true → (a ≡ false) × (d ≡ false)
no_cause true b c d p q r s e = absurd (let f : false ≡ true = e in cc)
no_cause false true c d p q r s e = absurd (let f : false ≡ true = e in cc)
no_cause false false true d p q r s e = absurd (let f : false ≡ true = e in cc)
no_cause false false false true p q r s e = absurd (let f : false ≡ true = e in cc)
no_cause false false false false p q r s e = (refl, refl)

numbered : (o : Option ℕ) (n : ℕ) → number_of o ≡ Some n → 1 ≤ n
numbered None n e = absurd (let f : None ≡ Some n = e in cc)
numbered (Some p) n e = let f : p + 1 ≡ n = cc in omega arith

chosen : (b : Bool) (x k : List ℕ) → (if b then Some x else None) ≡ Some k → (b ≡ true) × (k ≡ x)
chosen true x k e = (refl, cc)
chosen false x k e = absurd (let f : None ≡ Some k = e in cc)

at : (schema : List Table) (n : ℕ) (t : Table) (key : List Value) (k : List ℕ) → 1 ≤ n → table_at schema n ≡ Some t → AreValues key
    → root_key_at schema n (Some t) key ≡ Some k → IsRootKey schema key k
at schema n t key k low here values e =
    let found = chosen (is_root_key schema n t key) (key_code schema n key) k e in
    let both = and_parts (root_of schema n == n) (is_none (first_cause (key_causes schema n t key))) found.0 in
    let causes = no_cause (not (are_of_kinds (key_columns schema n) key)) (key_breaks is_null_refused t.columns t.key key) (key_breaks is_too_long t.columns t.key key)
    (nat_lt longest_key (length (key_code schema n key))) _ _ _ _ both.1 in
    let within : n - 1 < length schema = slice_get_within schema (n - 1) t here in
    let short : length (key_code schema n key) ≤ longest_key = ltb-false longest_key (length (key_code schema n key)) causes.1 in
    let fit = values (key_columns schema n) (not-false (are_of_kinds (key_columns schema n) key) causes.0) in
    (n, eqb-true (root_of schema n) n both.0, (((low, omega arith), fit), short), found.1)

by_number : (schema : List Table) (o : Option ℕ) (p : Option ℕ) (key : List Value) (k : List ℕ) → o ≡ number_of p → AreValues key → root_key_in schema o key ≡ Some k → IsRootKey schema key k
by_number schema None p key k same values e = absurd (let f : None ≡ Some k = e in cc)
by_number schema (Some n) p key k same values e = by_table (table_at schema n) refl e
  where
    by_table : (t : Option Table) → table_at schema n ≡ t → root_key_at schema n t key ≡ Some k → IsRootKey schema key k
    by_table None here f = absurd (let g : None ≡ Some k = f in cc)
    by_table (Some t) here f = at schema n t key k (numbered p n (sym same)) here values f

-- the coding of a key with a name is that of a key of a root table
pub root_key_coded : (schema : List Table) → MeetsRules schema → (name : List ℕ) (key : List Value) (k : List ℕ) → AreValues key → root_key schema name key ≡ Some k
    → (n : ℕ) × (root_of schema n ≡ n) × IsCodedKey schema n key × (k ≡ key_code schema n key)
root_key_coded schema rules name key k values e = by_number schema (number_named schema name) (table_place schema name) key k refl values e
