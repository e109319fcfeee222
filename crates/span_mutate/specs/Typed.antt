-- Typed rows and mutations: each value fits its column, and keys and rows have codings.
use Rattle.std.specs.Prelude.{◌≡◌, ◌&&◌, Bool, true, false, List, [], ◌∷◌, Option, Some, None, IfSome, Ok}
use Rattle.std.specs.List.{AllByRecursion}
use Rattle.span_value.specs.declared.value.Value.{Value}
use Rattle.span_value.specs.declared.value.Kind.{Kind}
use Rattle.span_schema.specs.declared.table.Table.{Table}
use Rattle.span_schema.specs.Fitting.{Fits, is_of_kind}
use Rattle.span_schema.specs.Numbers.{other_kinds}
use Rattle.span_keycode.specs.Keys.{IsCodedKey}
use Rattle.span_rowcode.specs.Rows.{IsRow}
use Rattle.span_mutate.specs.declared.mutation.CheckedMutation.{CheckedMutation}
use Rattle.span_mutate.specs.declared.row.TableRow.{TableRow}
use Rattle.span_mutate.specs.Database.{apply}

-- a row whose values fit the columns of its table, and whose key and cells have codings that are not too long
abbrev pub IsTyped : List Table → TableRow → Type 0
IsTyped tables r = IsCodedKey tables r.table r.key × IsRow (other_kinds tables r.table) r.cells

abbrev pub AreTyped : List Table → List TableRow → Type 0
AreTyped tables db = AllByRecursion (IsTyped tables) db

-- for each column a value that fits it, or none
abbrev pub AreNamed : List Kind → List (Option Value) → Type 0
AreNamed [] [] = Unit {0}
AreNamed [] (v ∷ vs) = ⊥
AreNamed (k ∷ ks) [] = ⊥
AreNamed (k ∷ ks) (v ∷ vs) = IfSome v (Fits k) × AreNamed ks vs

-- the same as a test of the kinds alone
abbrev pub is_named_kind : Kind → Option Value → Bool
is_named_kind k None = true
is_named_kind k (Some v) = is_of_kind k v

abbrev pub are_named_kinds : List Kind → List (Option Value) → Bool
are_named_kinds [] [] = true
are_named_kinds [] (v ∷ vs) = false
are_named_kinds (k ∷ ks) [] = false
are_named_kinds (k ∷ ks) (v ∷ vs) = is_named_kind k v && are_named_kinds ks vs

-- a mutation whose key has a coding, and whose cells fit the columns of its table
abbrev pub IsTypedMutation : List Table → CheckedMutation → Type 0
IsTypedMutation tables m = IsCodedKey tables m.table m.key × AreNamed (other_kinds tables m.table) m.cells

abbrev pub AreTypedMutations : List Table → List CheckedMutation → Type 0
AreTypedMutations tables ms = AllByRecursion (IsTypedMutation tables) ms

-- Apply of typed mutations on a typed database leaves a typed database
abbrev pub TypedStay : Type 0
TypedStay =
    (tables : List Table) (db : List TableRow) (ms : List CheckedMutation) (after : List TableRow) → AreTyped tables db
    → AreTypedMutations tables ms
    → apply tables db ms ≡ Ok after → AreTyped tables after
