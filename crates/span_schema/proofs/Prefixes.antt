-- The key of a child begins with that of its parent.
use Rattle.std.proofs.Common.{◌≡◌, ℕ, ◌<◌, ◌≤◌, List, [], ◌∷◌, ◌++◌, Option, Some, None, refl, sym, ◌∙◌, ap, arith, Bool, true, false, ◌&&◌, length, take}
use Rattle.std.specs.List.{slice_get, cons_option}
use Rattle.std.specs.Option.{option_map}
use Rattle.std.proofs.lemmas.Option.{cond_some, slice_get_within, slice_get-get_or, get_or_from_slice_get}
use Rattle.std.proofs.lemmas.List.{length-take, get_or-take}
use Rattle.std.proofs.lemmas.List.Folds.{find_at}
use Rattle.std.proofs.lemmas.Bool.{and_parts, not-false}
use Rattle.span_value.specs.declared.value.ColumnType.{ColumnType}
use Rattle.span_value.specs.declared.value.ColumnType.TheVariants.{Int, Str, Bytes, Bool as Truth}
use Rattle.span_schema.specs.declared.table.Table.{Table}
use Rattle.span_schema.specs.declared.table.Column.{Column}
use Rattle.span_schema.specs.declared.table.KeyColumn.{KeyColumn}
use Rattle.span_schema.specs.declared.table.Parent.{Parent}
use Rattle.span_schema.specs.declared.layout.KeyPart.{KeyPart}
use Rattle.span_schema.specs.Tables.{kind_of, is_same_name, is_same_column_type, is_same_type, type_named, table_named, table_place, parent_place, parent_place_of}
use Rattle.span_schema.specs.Rules.{is_same_direction, is_same_key_column, begins_key, extends_key, extends_found, extends_named}
use Rattle.span_schema.specs.Layouts.{key_part, key_parts}
use Rattle.span_schema.specs.Lineages.{parent_in, parent_at, MeetsRules}
use Rattle.span_schema.specs.Numbers.{key_at, columns_in, key_in}
use Rattle.span_schema.proofs.Paths.{parent_before}
use Rattle.span_schema.proofs.Judged.{passes_at}

directions : (a b : Bool) → is_same_direction a b ≡ true → a ≡ b
directions true b h = sym h
directions false true h = absurd (let e : false ≡ true = h in cc)
directions false false h = refl

kinds : (a b : ColumnType) → is_same_column_type a b ≡ true → kind_of a ≡ kind_of b
kinds Int Int h = refl
kinds (Str m) (Str n) h = refl
kinds (Bytes m) (Bytes n) h = refl
kinds Truth Truth h = refl
kinds a b h = absurd (let e : false ≡ true = h in cc)

abbrev part : Bool → ColumnType → KeyPart
part d type = record { kind = kind_of type; desc = d }

same_types : (a b : Option ColumnType) (d e : Bool) → is_same_type a b ≡ true → d ≡ e → option_map (part d) a ≡ option_map (part e) b
same_types None None d e h same = refl
same_types (Some a) (Some b) d e h same = let k : kind_of a ≡ kind_of b = kinds a b h in cc
same_types a b d e h same = absurd (let f : false ≡ true = h in cc)

same_part : (cs ds : List Column) (k l : KeyColumn) → is_same_key_column cs ds k l ≡ true → key_part cs k ≡ key_part ds l
same_part cs ds k l h =
    let a = and_parts (is_same_name k.name l.name && is_same_direction k.desc l.desc) _ h in
    let b = and_parts (is_same_name k.name l.name) _ a.0 in
    same_types (type_named cs k.name) (type_named ds l.name) k.desc l.desc a.1 (directions k.desc l.desc b.1)

cons_append : (o : Option KeyPart) (xs ys : List KeyPart) → cons_option o (xs ++ ys) ≡ cons_option o xs ++ ys
cons_append None xs ys = refl
cons_append (Some x) xs ys = refl

begins_parts : (cs ds : List Column) (ks ls : List KeyColumn) → begins_key cs ds ks ls ≡ true → (rest : List KeyPart) × (key_parts ds ls ≡ key_parts cs ks ++ rest)
begins_parts cs ds [] ls h = (key_parts ds ls, refl)
begins_parts cs ds (k ∷ ks) [] h = absurd (let e : false ≡ true = h in cc)
begins_parts cs ds (k ∷ ks) (l ∷ ls) h =
    let a = and_parts (is_same_key_column cs ds k l) _ h in
    let again = begins_parts cs ds ks ls a.1 in (
      again.0,
      ap (λ (o : Option KeyPart). cons_option o (key_parts ds ls)) (sym (same_part cs ds k l a.0))
          ∙ ap (cons_option (key_part cs k)) again.1
          ∙ cons_append (key_part cs k) (key_parts cs ks) again.0,
    )

-- the parent that is found is the one at its place
found_at : (before : List Table) (name : List ℕ) (p : ℕ) → table_place before name ≡ Some p → table_named before name ≡ slice_get before p
found_at before name p h = find_at _ before ∙ ap (slice_get before) (cond_some _ _ _ h).1

taken : (tables : List Table) (i p : ℕ) (u : Table) → p < i → i ≤ length tables → slice_get tables p ≡ Some u → slice_get (take i tables) p ≡ Some u
taken tables i p u less within at =
    slice_get-get_or (take i tables) p u (omega (arith, length-take i tables))
    ∙ ap (λ (x : Table). Some x) (get_or-take i tables p u less ∙ get_or_from_slice_get tables p u u at)

extends_parent : (before : List Table) (parent : Option Parent) (t u : Table) (p : ℕ) → parent_place_of before parent ≡ Some p → slice_get before p ≡ Some u
    → extends_named before parent t ≡ true → extends_key u t ≡ true
extends_parent before None t u p h at key = absurd (let e : None ≡ Some p = h in cc)
extends_parent before (Some q) t u p h at key =
    sym (ap (λ (o : Option Table). extends_found o t) (found_at before q.name p h ∙ at)) ∙ key

-- the key of a child is that of its parent, and more
pub key_goes_on : (tables : List Table) → MeetsRules tables → (i p : ℕ) (t u : Table) → slice_get tables i ≡ Some t → slice_get tables p ≡ Some u → parent_at tables i ≡ Some p
    → (rest : List KeyPart) × (key_at tables i ≡ key_at tables p ++ rest)
key_goes_on tables rules i p t u at_i at_p parent =
    let less : p < i = parent_before tables i p parent in
    let within : i < length tables = slice_get_within tables i t at_i in
    let named : parent_place (take i tables) t ≡ Some p = sym (ap (parent_in (take i tables)) at_i) ∙ parent in
    let up : slice_get (take i tables) p ≡ Some u = taken tables i p u less (omega arith) at_p in
    let passes = passes_at tables rules i t at_i in
    let key = extends_parent (take i tables) t.parent t u p named up (not-false _ passes.key) in
    let begins = begins_parts u.columns t.columns u.key t.key (and_parts _ _ key).1 in (
      begins.0,
      ap (λ (o : Option Table). key_parts (columns_in o) (key_in o)) at_i
          ∙ begins.1
          ∙ ap (λ (o : Option Table). key_parts (columns_in o) (key_in o) ++ begins.0) (sym at_p),
    )
