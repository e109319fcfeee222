-- The places of columns, found one name after another.
use Rattle.std.proofs.Common.{◌≡◌, ◌∙◌, ◌==◌, inl, inr, ℕ, List, [], ◌∷◌, ◌++◌, Bool, true, false, Option, Some, refl, sym, ap, map, append_assoc}
use Rattle.std.specs.List.{list_any}
use Rattle.std.proofs.lemmas.List.{map-append, append-nil}
use Rattle.std.proofs.lemmas.Bool.{or_parts}
use Rattle.span_schema.specs.declared.table.Column.{Column}
use Rattle.span_schema.specs.Tables.{column_place}
use Rattle.span_records.specs.Record.{pieces}
use Rattle.span_records.specs.Columns.{NoneTwice, AreNamed, IsUnplaced}

-- the places of the first names are found, and the names after them are left
abbrev pub Found : List Column → List ℕ → List ℕ → List ℕ → Type 0
Found columns names places rest =
    (map Some places ++ map (column_place columns) (pieces rest) ≡ map (column_place columns) (pieces names)) × NoneTwice places

pub none_found : (columns : List Column) (names : List ℕ) → Found columns names [] names
none_found columns names = (refl, tt)

any_push : (p : ℕ → Bool) (xs : List ℕ) (y : ℕ) → list_any p xs ≡ false → p y ≡ false → list_any p (xs ++ y ∷ []) ≡ false
any_push p [] y h e = rw e refl
any_push p (x ∷ xs) y h e =
    let off = or_parts (p x) (list_any p xs) h in
    rw off.0 (any_push p xs y off.1 e)

none_twice_push : (places : List ℕ) (place : ℕ) → NoneTwice places → list_any (λ other. other == place) places ≡ false → NoneTwice (places ++ place ∷ [])
none_twice_push [] place h new = (refl, tt)
none_twice_push (first ∷ places) place h new =
    let off = or_parts (first == place) (list_any (λ other. other == place) places) new in
    (any_push (λ other. first == other) places place h.0 off.0, none_twice_push places place h.1 off.1)

push : (columns : List Column) (names places name : List ℕ) (place : ℕ) (rest : List (List ℕ))
    → map Some places ++ map (column_place columns) (name ∷ rest) ≡ map (column_place columns) (pieces names)
    → column_place columns name ≡ Some place
    → map Some (places ++ place ∷ []) ++ map (column_place columns) rest ≡ map (column_place columns) (pieces names)
push columns names places name place rest h is =
    ap (λ (w : List (Option ℕ)). w ++ map (column_place columns) rest) (map-append Some places (place ∷ []))
    ∙ append_assoc (map Some places) (Some place ∷ []) (map (column_place columns) rest)
    ∙ ap (λ (w : Option ℕ). map Some places ++ w ∷ map (column_place columns) rest) (sym is)
    ∙ h

pub one_more : (columns : List Column) (names places rest name following : List ℕ) (place : ℕ)
    → Found columns names places rest → pieces rest ≡ name ∷ pieces following
    → column_place columns name ≡ Some place → list_any (λ other. other == place) places ≡ false
    → Found columns names (places ++ place ∷ []) following
one_more columns names places rest name following place h cut is new = (
  push columns names places name place (pieces following) (ap (λ (w : List (List ℕ)). map Some places ++ map (column_place columns) w) (sym cut) ∙ h.0) is,
  none_twice_push places place h.1 new,
)

pub the_last : (columns : List Column) (names places rest : List ℕ) (place : ℕ)
    → Found columns names places rest → pieces rest ≡ rest ∷ []
    → column_place columns rest ≡ Some place → list_any (λ other. other == place) places ≡ false
    → AreNamed columns (pieces names) (places ++ place ∷ [])
the_last columns names places rest place h cut is new =
    let all = push columns names places rest place [] (ap (λ (w : List (List ℕ)). map Some places ++ map (column_place columns) w) (sym cut) ∙ h.0) is in
    (sym all ∙ append-nil (map Some (places ++ place ∷ [])), none_twice_push places place h.1 new)

-- ---- where a name has no place

-- what follows the places before is a place too
next_place : (before places : List ℕ) (next : Option ℕ) (more : List (Option ℕ)) → map Some before ++ next ∷ more ≡ map Some places
    → (place : ℕ) × (rest : List ℕ) × (next ≡ Some place) × (places ≡ before ++ place ∷ rest)
next_place [] [] next more e = cc e
next_place [] (p ∷ places) next more e = (p, places, cc e, refl)
next_place (b ∷ before) [] next more e = cc e
next_place (b ∷ before) (p ∷ places) next more e =
    let first : b ≡ p = cc e in
    let following : map Some before ++ next ∷ more ≡ map Some places = cc e in
    let found = next_place before places next more following in
    (found.0, found.1, found.2, cc (first, found.3))

any_at : (p : ℕ → Bool) (xs : List ℕ) (y : ℕ) (ys : List ℕ) → p y ≡ true → list_any p (xs ++ y ∷ ys) ≡ true
any_at p [] y ys e = rw e refl
any_at p (x ∷ xs) y ys e = either (p x) refl (any_at p xs y ys e)
  where
    either : (b : Bool) → p x ≡ b → list_any p (xs ++ y ∷ ys) ≡ true → list_any p (x ∷ (xs ++ y ∷ ys)) ≡ true
    either true is h = rw is refl
    either false is h = rw is h

occurs_twice : (before : List ℕ) (place : ℕ) (rest : List ℕ) → list_any (λ other. other == place) before ≡ true → NoneTwice (before ++ place ∷ rest) → ⊥
occurs_twice [] place rest had none = cc had
occurs_twice (first ∷ before) place rest had none = either (first == place) refl (λ h. occurs_twice before place rest h none.1)
  where
    either : (b : Bool) → (first == place) ≡ b → (list_any (λ other. other == place) before ≡ true → ⊥) → ⊥
    either true is later =
        let there = any_at (λ other. first == other) before place rest is in
        let absent = none.0 in
        cc (there, absent)
    either false is later = later (rw is at had)

pub no_place : (columns : List Column) (names before rest name : List ℕ) (others : List (List ℕ))
    → Found columns names before rest → pieces rest ≡ name ∷ others → IsUnplaced columns before name
    → (places : List ℕ) → AreNamed columns (pieces names) places → ⊥
no_place columns names before rest name others h cut none places named = by none
  where
    whole : map Some before ++ column_place columns name ∷ map (column_place columns) others ≡ map Some places
    whole = ap (λ (w : List (List ℕ)). map Some before ++ map (column_place columns) w) (sym cut) ∙ h.0 ∙ named.0

    at : (place : ℕ) × (later : List ℕ) × (column_place columns name ≡ Some place) × (places ≡ before ++ place ∷ later)
    at = next_place before places (column_place columns name) (map (column_place columns) others) whole

    by : IsUnplaced columns before name → ⊥
    by (inl unnamed) = cc (unnamed, at.2)
    by (inr had) =
        let same : had.0 ≡ at.0 = cc (had.1, at.2) in
        occurs_twice before at.0 at.1 (rw same at had.2) (rw at.3 at named.1)
