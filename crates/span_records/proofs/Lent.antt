-- Fields that are lent.
use Rattle.std.proofs.Common.{◌≡◌, ◌∙◌, ◌+◌, ◌<◌, ℕ, suc, List, [], ◌∷◌, ◌++◌, Bor, Option, Some, None, Result, Ok, Err, IfErr, ◌⊎◌, subst, refl, sym, ap, arith, length, drop, slice_get, append_assoc, inl, inr}
use Rattle.std.specs.Option.{option_map}
use Rattle.std.proofs.Math.Seq.{drop-cons}
use Rattle.std.proofs.lemmas.Bool.{cases_lt}
use Rattle.std.proofs.lemmas.List.{map-append}
use Rattle.std.proofs.lemmas.Option.{slice_get-map, slice_get-get_or, slice_get_past}
use Rattle.csv.specs.Records.{field_at}
use Rattle.csv.proofs.RecordFacts.{field-none, field-get, field-there}
use Rattle.span_value.specs.declared.refusal.Refusal.{Refusal}
use Rattle.span_value.specs.declared.refusal.Refusal.TheVariants as refusal
use Rattle.span_value.specs.declared.value.Kind.{Kind}
use Rattle.span_value.specs.declared.value.Value.{Value}
use Rattle.span_value.specs.Cells.{IsCell}
use Rattle.span_records.specs.Record.{texts}
use Rattle.span_records.specs.Layouts.{IsFieldCell}

pub texts_push : (xs : List (Bor (List ℕ))) (x : Bor (List ℕ)) → texts (xs ++ x ∷ []) ≡ texts xs ++ x.now ∷ []
texts_push xs x = map-append (λ (field : Bor (List ℕ)). field.now) xs (x ∷ [])

-- a field joins those before it
pub one_more : (xs : List (Bor (List ℕ))) (x : Bor (List ℕ)) (rest : List (List ℕ)) → texts (xs ++ x ∷ []) ++ rest ≡ texts xs ++ x.now ∷ rest
one_more xs x rest = ap (λ (w : List (List ℕ)). w ++ rest) (texts_push xs x) ∙ append_assoc (texts xs) (x.now ∷ []) rest

-- the fields from a place on
pub fields_from : (fields : List (List ℕ)) (i : ℕ) (x : List ℕ) → i < length fields → field_at fields i ≡ Some x → drop i fields ≡ x ∷ drop (i + 1) fields
fields_from fields i x within is =
    let place : suc i ≡ i + 1 = omega arith in
    drop-cons fields i [] within
    ∙ ap (λ (w : List ℕ). w ∷ drop (suc i) fields) (field-get fields i x is)
    ∙ ap (λ (n : ℕ). x ∷ drop n fields) place

field_is : (fields : List (List ℕ)) (i : ℕ) → field_at fields i ≡ slice_get fields i
field_is fields i =
    elim (cases_lt i (length fields)) [
      | inl within ↦ by (field_at fields i) refl within
      | inr past ↦ field-none fields i past ∙ sym (slice_get_past fields i past)
    ]
  where
    by : (o : Option (List ℕ)) → field_at fields i ≡ o → i < length fields → field_at fields i ≡ slice_get fields i
    by None is within = absurd (field-there fields i within is)
    by (Some x) is within = is ∙ ap (λ (w : List ℕ). Some w) (sym (field-get fields i x is)) ∙ sym (slice_get-get_or fields i [] within)

-- the field at a place is the text that is lent there
pub text_at : (fields : List (Bor (List ℕ))) (i : ℕ) → field_at (texts fields) i ≡ option_map (λ (field : Bor (List ℕ)). field.now) (slice_get fields i)
text_at fields i = field_is (texts fields) i ∙ slice_get-map (λ (field : Bor (List ℕ)). field.now) fields i

some_is : {X : Type 0} (x y : X) → (let o : Option X = Some x in o) ≡ Some y → x ≡ y
some_is x y e = cc

err_is : (x y : Refusal) → (let s : Result Value Refusal = Err x in s) ≡ Err y → x ≡ y
err_is x y e = cc

-- where there is no field, no value is that of its cell
pub no_field : (fields : List (List ℕ)) (at : ℕ) (kind : Kind) → field_at fields at ≡ None → (value : Value) → IsFieldCell fields at kind value → ⊥
no_field fields at kind none value h = absurd (let e : None ≡ Some h.0 = sym none ∙ h.1 in cc)

-- a cell that is refused is that of no value
pub no_other : (fields : List (List ℕ)) (at : ℕ) (text : List ℕ) (kind : Kind) (r : Result Value Refusal) → field_at fields at ≡ Some text
    → ((value : Value) → IsCell kind value text → (r ≡ Ok value) ⊎ (r ≡ Err refusal.OutOfMemory))
    → IfErr r (λ why. (why ≡ refusal.WrongType) ⊎ (why ≡ refusal.OutOfMemory))
    → IfErr r (λ why. (why ≡ refusal.OutOfMemory) ⊎ ((why ≡ refusal.WrongType) × ((value : Value) → IsFieldCell fields at kind value → ⊥)))
no_other fields at text kind (Ok v) is all why = why
no_other fields at text kind (Err refused) is all (inr memory) = inl memory
no_other fields at text kind (Err refused) is all (inl wrong) = inr (wrong, none)
  where
    none : (value : Value) → IsFieldCell fields at kind value → ⊥
    none value h =
        let same : h.0 ≡ text = some_is h.0 text (sym h.1 ∙ is) in
        elim (all value (subst (IsCell kind value) same h.2)) [
          | inl ok ↦ absurd cc
          | inr memory ↦ absurd (let e : refusal.WrongType ≡ refusal.OutOfMemory = sym wrong ∙ err_is refused refusal.OutOfMemory memory in cc)
        ]
