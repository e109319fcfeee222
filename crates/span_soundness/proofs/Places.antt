-- The types of columns, by their places.
use Rattle.std.proofs.Common.{◌≡◌, ◌∙◌, refl, subst, ℕ, zero, suc, ◌+◌, ◌<◌, ◌==◌, true, false, Bool, List, [], ◌∷◌, ◌++◌, length, map, get_or, drop, Option, Some, None, Result, Ok, Err, arith}
use Rattle.std.specs.Prelude.{slice_get, position}
use Rattle.std.specs.List.{list_any}
use Rattle.std.proofs.lemmas.List.Quantifiers.{position-Some}
use Rattle.std.proofs.lemmas.Bool.{eqb-true}
use Rattle.span_value.specs.declared.value.Kind.{Kind}
use Rattle.span_value.specs.declared.value.Kind.TheVariants as kind
use Rattle.span_value.specs.declared.refusal.Refusal.{Refusal}
use Rattle.span_trees.specs.declared.tree.Column.{Column}
use Rattle.span_expr.specs.declared.expr.Expr.TheVariants as expr
use Rattle.span_query.specs.declared.query.Aggregate.{Aggregate}
use Rattle.span_typing.specs.declared.scope.Scope.{Scope}
use Rattle.span_typing.specs.declared.scope.ScopeColumn.{ScopeColumn}
use Rattle.span_operators.specs.declared.typed.Mode.{Mode}
use Rattle.span_operators.specs.declared.typed.Mode.TheVariants.{Rows, Groups}
use Rattle.span_typing.specs.Scopes.{if_unique, only_place, one_place, fits, item_of, column_place}
use Rattle.span_typing.specs.Typing.{or_number, kind_at, key_typed, column_at, column}
use Rattle.span_soundness.specs.Types.{are_same, is_some, is_of}
use Rattle.span_soundness.specs.Bindings.{column_types, key_types, row_types, AreAggregatesOf, IsTyped}
use Rattle.span_soundness.proofs.Sameness.{is_same}
use Rattle.span_soundness.proofs.Agreeing.{Made, then_made}
use Rattle.span_soundness.proofs.Forms.{column_is}
use Rattle.span_soundness.proofs.Making.{typed_right}

-- ---- the place of a column

abbrev no_column : ScopeColumn
no_column = record { item = 0; name = None; kind = kind.Int }

abbrev pub Within : {A : Type 0} → List A → ℕ → Type 0
Within xs place = place < length xs

alone_within : {A : Type 0} (xs : List A) (b : Bool) (p : ℕ) → Within xs p → Made (Within xs) (if_unique b p)
alone_within xs true p is = tt {0}
alone_within xs false p is = is

pub place_within : {A : Type 0} (default : A) (test : A → Bool) (xs : List A) → Made (Within xs) (one_place test xs)
place_within default test xs = go (position test xs) refl where
  go : (o : Option ℕ) → position test xs ≡ o → Made (Within xs) (only_place test xs o)
  go None is = tt {0}
  go (Some p) is = alone_within xs (list_any test (drop (p + 1) xs)) p (position-Some test xs p default is).0

pub any_made : {A : Type 0} (r : Result A Refusal) → Made (λ (x : A). Unit {0}) r
any_made (Ok x) = tt {0}
any_made (Err why) = tt {0}

pub column_within : (scope : Scope) (c : Column) → Made (Within scope.columns) (column_place scope c)
unfolding column_place
column_within scope c = then_made (λ (item : Option ℕ). Unit {0}) (Within scope.columns) (item_of scope c.table) (λ item. one_place (fits item c.name.text) scope.columns) (any_made (item_of scope c.table)) (λ item t. place_within no_column (fits item c.name.text) scope.columns)

-- ---- its type

abbrev type_of : ScopeColumn → Kind
type_of c = c.kind

pub column_there : (columns : List ScopeColumn) (place : ℕ) → place < length columns → is_some (slice_get (map type_of columns) place) (or_number (slice_get columns place)) ≡ true
column_there [] place within = absurd (omega arith)
column_there (c ∷ columns) zero within = is_same c.kind
column_there (c ∷ columns) (suc n) within = column_there columns n (omega arith)

key_there : (type_at : ℕ → Kind) (keys : List ℕ) (more : List Kind) (q place : ℕ) → q < length keys → get_or keys q 0 ≡ place → is_some (slice_get (map type_at keys ++ more) q) (type_at place) ≡ true
key_there type_at [] more q place within is = absurd (omega arith)
key_there type_at (k ∷ keys) more zero place within is = subst (λ (p : ℕ). are_same (type_at k) (type_at p) ≡ true) is (is_same (type_at k))
key_there type_at (k ∷ keys) more (suc n) place within is = key_there type_at keys more n place (omega arith) is

pub column_at_right : (scope : Scope) (m : Mode) (aggregates : List Kind) (place : ℕ) → place < length scope.columns → Made (IsTyped (row_types scope m aggregates)) (column_at scope m place)
unfolding column_at
column_at_right scope Rows aggregates place within = typed_right (column_types scope) (expr.Column place) (kind_at scope place) (column_is (column_types scope) place (kind_at scope place) ∙ column_there scope.columns place within)
column_at_right scope Groups aggregates place within = go (position (λ (k : ℕ). k == place) scope.keys) refl where
  go : (o : Option ℕ) → position (λ (k : ℕ). k == place) scope.keys ≡ o → Made (IsTyped (key_types scope ++ aggregates)) (key_typed (kind_at scope place) o)
  go None is = tt {0}
  go (Some q) is =
      let found = position-Some (λ (k : ℕ). k == place) scope.keys q 0 is in
      typed_right (key_types scope ++ aggregates) (expr.Column q) (kind_at scope place) (column_is (key_types scope ++ aggregates) q (kind_at scope place) ∙ key_there (kind_at scope) scope.keys aggregates q place found.0 (eqb-true (get_or scope.keys q 0) place found.1))

pub column_right : (scope : Scope) (m : Mode) (aggregates : List Kind) (c : Column) → Made (IsTyped (row_types scope m aggregates)) (column scope m c)
unfolding column
column_right scope m aggregates c = then_made (Within scope.columns) (IsTyped (row_types scope m aggregates)) (column_place scope c) (column_at scope m) (column_within scope c) (column_at_right scope m aggregates)

-- ---- a new aggregate

after_keys : (type_at : ℕ → Kind) (keys : List ℕ) (types : List Kind) (n : ℕ) (k : Kind) → is_some (slice_get types n) k ≡ true → is_some (slice_get (map type_at keys ++ types) (length keys + n)) k ≡ true
after_keys type_at [] types n k is = subst (λ (i : ℕ). is_some (slice_get types i) k ≡ true) {x = n} {y = 0 + n} (omega arith) is
after_keys type_at (p ∷ keys) types n k is =
    subst (λ (i : ℕ). is_some (slice_get (type_at p ∷ (map type_at keys ++ types)) i) k ≡ true) {x = suc (length keys + n)} {y = length (p ∷ keys) + n} (omega arith) (after_keys type_at keys types n k is)

after_aggregates : (types : List Kind) (found : List Aggregate) (kinds : List Kind) (k : Kind) (later : List Kind) → AreAggregatesOf types found kinds → is_some (slice_get ((kinds ++ (k ∷ [])) ++ later) (length found)) k ≡ true
after_aggregates types [] [] k later are = is_same k
after_aggregates types [] (j ∷ js) k later are = absurd are
after_aggregates types (a ∷ found) [] k later are = absurd are
after_aggregates types (a ∷ found) (j ∷ js) k later are = after_aggregates types found js k later are.1

pub aggregate_there : (scope : Scope) (found : List Aggregate) (kinds : List Kind) (k : Kind) (later : List Kind) → AreAggregatesOf (column_types scope) found kinds → is_of (row_types scope Groups ((kinds ++ (k ∷ [])) ++ later)) (expr.Column (length scope.keys + length found)) k ≡ true
aggregate_there scope found kinds k later are =
    column_is (row_types scope Groups ((kinds ++ (k ∷ [])) ++ later)) (length scope.keys + length found) k
    ∙ after_keys (kind_at scope) scope.keys ((kinds ++ (k ∷ [])) ++ later) (length found) k (after_aggregates (column_types scope) found kinds k later are)
