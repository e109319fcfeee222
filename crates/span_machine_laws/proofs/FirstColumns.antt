-- The first column of a key is the same in all tables of a family.
use Rattle.std.proofs.Common.{◌≡◌, ℕ, ◌-◌, ◌<◌, List, [], ◌∷◌, ◌++◌, take, length, get_or, Option, refl, ap, sym, subst, ◌∙◌, arith, inl, inr}
use Rattle.std.specs.List.{AllByRecursion}
use Rattle.std.proofs.lemmas.Option.{slice_get_cases}
use Rattle.span_schema.specs.declared.table.Table.{Table}
use Rattle.span_schema.specs.declared.layout.KeyPart.{KeyPart}
use Rattle.span_schema.specs.Layouts.{key_parts}
use Rattle.span_schema.specs.Lineages.{MeetsRules}
use Rattle.span_schema.specs.Numbers.{IsTable, root_of, key_columns, key_places, own_key_columns, columns_in, key_in}
use Rattle.span_leaves.specs.Leaves.{width_of, root_places}
use Rattle.span_entries.proofs.KeyPlaces.{keyed, HasKeyColumns, has_key_columns, root_key_of, root_within}

-- the place of the first column of a table's key
abbrev pub first_place : List Table → ℕ → ℕ
first_place schema t = get_or (key_places schema t) 0 0

-- a table of a family, whose first key column is such
pub record IsOfFamily (schema : List Table) (root : ℕ) (part : KeyPart) (t : ℕ) : Type 0 where
  pub root_is : root_of schema t ≡ root
  pub parts : List KeyPart
  pub columns_are : key_columns schema t ≡ part ∷ parts
  pub places : List ℕ
  pub places_are : key_places schema t ≡ first_place schema t ∷ places
  pub within : first_place schema t < width_of schema t

-- the tables of a family have one first key column
pub record HasFirst (schema : List Table) (root : ℕ) (part : KeyPart) : Type 0 where
  pub parts : List KeyPart
  pub own : own_key_columns schema root ≡ part ∷ parts
  pub key : key_columns schema root ≡ part ∷ parts
  pub each : (t : ℕ) → root_of schema t ≡ root → IsOfFamily schema root part t

pub first_of_family : (schema : List Table) → MeetsRules schema → (t : ℕ) (part : KeyPart) (parts : List KeyPart) → key_columns schema t ≡ part ∷ parts → HasFirst schema (root_of schema t) part
first_of_family schema rules t part parts columns_are =
    let whole = root_key_of schema rules t within in
    let root_has = has_key_columns schema rules (root_of schema t) (omega (arith, whole.root.0, whole.root.1)) in
    by_root whole.root whole.own (key_columns schema (root_of schema t)) refl root_has.some whole.rest (sym columns_are ∙ whole.key)
  where
    within : t - 1 < length schema
    within = elim (slice_get_cases schema (t - 1)).1 [
      | inl here ↦ here.1
      | inr gone ↦ absurd (let none : part ∷ parts ≡ [] = sym columns_are ∙ ap (λ (o : Option Table). key_parts (columns_in o) (key_in o)) gone.1 in cc)
    ]

    by_places : (cs : List KeyPart) (u : ℕ) → root_of schema u ≡ root_of schema t → key_columns schema u ≡ part ∷ cs → HasKeyColumns schema u → (ps : List ℕ) → key_places schema u ≡ ps → AllByRecursion (λ (p : ℕ). p < width_of schema u) ps
        → IsOfFamily schema (root_of schema t) part u
    by_places cs u same columns has [] places are = absurd (let some : 0 < length (key_columns schema u) = has.some in let none : length (key_places schema u) ≡ 0 = ap (λ (l : List ℕ). length l) places in omega (arith, has.placed))
    by_places cs u same columns has (p ∷ ps) places are =
        let first : first_place schema u ≡ p = ap (λ (l : List ℕ). get_or l 0 0) places in
        record {
          root_is = same;
          parts = cs;
          columns_are = columns;
          places = ps;
          places_are = places ∙ ap (λ (n : ℕ). n ∷ ps) (sym first);
          within = subst (λ (n : ℕ). n < width_of schema u) (sym first) are.0;
        }

    by_root : IsTable schema (root_of schema t) → own_key_columns schema (root_of schema t) ≡ key_columns schema (root_of schema t) → (cs : List KeyPart) → key_columns schema (root_of schema t) ≡ cs → 0 < length (key_columns schema (root_of schema t))
        → (rest : List KeyPart) → part ∷ parts ≡ key_columns schema (root_of schema t) ++ rest → HasFirst schema (root_of schema t) part
    by_root root own [] is some rest key = absurd (let none : length (key_columns schema (root_of schema t)) ≡ 0 = ap (λ (l : List KeyPart). length l) is in omega arith)
    by_root root own (c ∷ cs) is some rest key =
        let all : part ∷ parts ≡ c ∷ (cs ++ rest) = key ∙ ap (λ (l : List KeyPart). l ++ rest) is in
        let same : c ≡ part = cc in
        let root_is : key_columns schema (root_of schema t) ≡ part ∷ cs = is ∙ ap (λ (x : KeyPart). x ∷ cs) same in
        record {
          parts = cs;
          own = own ∙ root_is;
          key = root_is;
          each = λ u of.
              let inside : u - 1 < length schema = root_within schema u (subst (IsTable schema) (sym of) root) in
              let begins = root_key_of schema rules u inside in
              by_places (cs ++ begins.rest) u of (begins.key ∙ ap (λ (n : ℕ). key_columns schema n ++ begins.rest) of ∙ ap (λ (l : List KeyPart). l ++ begins.rest) root_is)
              (has_key_columns schema rules u inside) (key_places schema u) refl (keyed schema u);
        }

-- the places of the root key begin with that of the first key column
pub root_places_first : (schema : List Table) (root : ℕ) (part : KeyPart) (has : HasFirst schema root part) (t : ℕ) (is : root_of schema t ≡ root)
    → root_places schema t ≡ first_place schema t ∷ take (length has.parts) (has.each t is).places
root_places_first schema root part has t is =
    ap (λ (n : ℕ). take (length (key_columns schema n)) (key_places schema t)) is ∙ ap (λ (l : List KeyPart). take (length l) (key_places schema t)) has.key
    ∙ ap (take (length (part ∷ has.parts))) (has.each t is).places_are
