-- A plain text is read as its pieces between commas.
use Rattle.std.proofs.Common.{◌≡◌, ◌∙◌, ◌==◌, ◌||◌, ◌<◌, ℕ, List, [], ◌∷◌, ◌++◌, Bool, true, false, Option, Some, refl, sym, ap, append_assoc, length, arith}
use Rattle.std.specs.List.{onto_first}
use Rattle.std.proofs.lemmas.List.{append-nil}
use Rattle.std.proofs.lemmas.List.Elements.{All-head, All-tail}
use Rattle.std.proofs.lemmas.List.Splits.{slice_split-cons_yes, slice_split-cons_no, length-slice_split}
use Rattle.csv.specs.Machine.{Read, next_record}
use Rattle.csv.specs.Reading.{default_config}
use Rattle.csv.specs.declared.parser.State.TheVariants as state
use Rattle.span_records.specs.Record.{pieces, next, is_mark, record_fields, fields_alone, IsUnmarked, IsPlain}

-- what was read of a field is before the first piece of what is left
abbrev onto : List ℕ → List (List ℕ) → List (List ℕ)
onto field [] = field ∷ []
onto field (piece ∷ others) = (field ++ piece) ∷ others

each : (x y z : Bool) → (x || y || z) ≡ false → (x ≡ false) × (y ≡ false) × (z ≡ false)
each true y z e = cc e
each false true z e = cc e
each false false true e = cc e
each false false false e = (refl, refl, refl)

some_piece : (text : List ℕ) → 0 < length (pieces text)
some_piece text = omega (arith, length-slice_split (λ b. b == 44) text)

onto_none : (parts : List (List ℕ)) → 0 < length parts → onto [] parts ≡ parts
onto_none [] l = absurd (omega arith)
onto_none (part ∷ parts) l = refl

onto_more : (field : List ℕ) (b : ℕ) (parts : List (List ℕ)) → 0 < length parts → onto field (onto_first b parts) ≡ onto (field ++ b ∷ []) parts
onto_more field b [] l = absurd (omega arith)
onto_more field b (part ∷ parts) l = ap (λ (w : List ℕ). w ∷ parts) (sym (append_assoc field (b ∷ []) part))

-- a field begins as it goes on
begins : (fields : List (List ℕ)) (field text : List ℕ) → IsUnmarked text
    → next_record default_config state.StartField fields field text ≡ next_record default_config state.InField fields field text
unfolding next_record
begins fields field [] plain = refl
begins fields field (b ∷ rest) plain =
    let off = each (b == 34) (b == 13) (b == 10) (All-head (λ c. is_mark c ≡ false) b rest plain) in
    rw off.0 refl

record_begins : (fields : List (List ℕ)) (field : List ℕ) (b : ℕ) (rest : List ℕ) → IsUnmarked (b ∷ rest)
    → next_record default_config state.StartRecord fields field (b ∷ rest) ≡ next_record default_config state.InField fields field (b ∷ rest)
unfolding next_record
record_begins fields field b rest plain =
    let off = each (b == 34) (b == 13) (b == 10) (All-head (λ c. is_mark c ≡ false) b rest plain) in
    rw (off.0, off.1, off.2) refl

-- a byte that is no mark joins the field, or ends it where it is a comma
goes_on : (fields : List (List ℕ)) (field : List ℕ) (b : ℕ) (rest : List ℕ) → is_mark b ≡ false → (b == 44) ≡ false
    → next_record default_config state.InField fields field (b ∷ rest) ≡ next_record default_config state.InField fields (field ++ b ∷ []) rest
unfolding next_record
goes_on fields field b rest plain other =
    let off = each (b == 34) (b == 13) (b == 10) plain in
    rw (other, off.1, off.2) refl

ends : (fields : List (List ℕ)) (field : List ℕ) (b : ℕ) (rest : List ℕ) → (b == 44) ≡ true
    → next_record default_config state.InField fields field (b ∷ rest) ≡ next_record default_config state.StartField (fields ++ field ∷ []) [] rest
unfolding next_record
ends fields field b rest comma = rw comma refl

is_cut : (fields : List (List ℕ)) (field text : List ℕ) → IsUnmarked text
    → next_record default_config state.InField fields field text ≡ Some (fields ++ onto field (pieces text), state.StartRecord, [])
unfolding next_record
is_cut fields field [] plain = rw (append-nil field) refl
is_cut fields field (b ∷ rest) plain = by (b == 44) refl (λ f p. is_cut f p rest tail)
  where
    tail : IsUnmarked rest
    tail = All-tail (λ c. is_mark c ≡ false) b rest plain

    read : List (List ℕ) → Option Read
    read found = Some (found, state.StartRecord, [])

    by : (c : Bool) → (b == 44) ≡ c
        → ((f : List (List ℕ)) (p : List ℕ) → next_record default_config state.InField f p rest ≡ Some (f ++ onto p (pieces rest), state.StartRecord, []))
        → next_record default_config state.InField fields field (b ∷ rest) ≡ Some (fields ++ onto field (pieces (b ∷ rest)), state.StartRecord, [])
    by true comma later =
        ends fields field b rest comma
        ∙ begins (fields ++ field ∷ []) [] rest tail
        ∙ later (fields ++ field ∷ []) []
        ∙ ap (λ (w : List (List ℕ)). read ((fields ++ field ∷ []) ++ w)) (onto_none (pieces rest) (some_piece rest))
        ∙ ap read (append_assoc fields (field ∷ []) (pieces rest))
        ∙ ap (λ (w : List ℕ). read (fields ++ w ∷ pieces rest)) (sym (append-nil field))
        ∙ ap (λ (w : List (List ℕ)). read (fields ++ onto field w)) (sym (slice_split-cons_yes (λ c. c == 44) b rest comma))
    by false other later =
        goes_on fields field b rest (All-head (λ c. is_mark c ≡ false) b rest plain) other
        ∙ later fields (field ++ b ∷ [])
        ∙ ap (λ (w : List (List ℕ)). read (fields ++ w)) (sym (onto_more field b (pieces rest) (some_piece rest)))
        ∙ ap (λ (w : List (List ℕ)). read (fields ++ onto field w)) (sym (slice_split-cons_no (λ c. c == 44) b rest other))

alone : (text : List ℕ) → IsUnmarked text → 0 < length text → fields_alone (next state.StartRecord text) ≡ pieces text
unfolding next_record
alone [] plain l = absurd (omega arith)
alone (b ∷ rest) plain l =
    ap fields_alone (record_begins [] [] b rest plain ∙ is_cut [] [] (b ∷ rest) plain)
    ∙ onto_none (pieces (b ∷ rest)) (some_piece (b ∷ rest))

-- the fields of a plain text are its pieces between commas
pub plain_fields : (text : List ℕ) → IsPlain text → 0 < length text → record_fields text ≡ pieces text
plain_fields text plain l = ap (λ (w : List ℕ). fields_alone (next state.StartRecord w)) plain.1 ∙ alone text plain.0 l
