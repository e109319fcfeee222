-- What is read of the coded keys of a table: its columns, each with what is in front of its value and with the value's place in a row.
use Rattle.std.specs.Prelude.{◌≡◌, ℕ, ◌+◌, ◌≤◌, List, [], ◌∷◌, ◌++◌, Bool, true, length, map, take, drop}
use Rattle.span_value.specs.declared.value.Value.{Value}
use Rattle.span_schema.specs.declared.table.Table.{Table}
use Rattle.span_schema.specs.declared.layout.KeyPart.{KeyPart}
use Rattle.span_keycode.specs.Coding.{Fits, column_code}
use Rattle.span_entries.specs.declared.steps.KeyStep.{KeyStep}
use Rattle.span_entries.specs.declared.steps.KeyStep.TheVariants as step
use Rattle.span_rowreader.specs.declared.reads.KeyRead.{KeyRead}
use Rattle.span_rowreader.specs.Placed.{put, placed, wants_none}
use Rattle.span_entries.specs.Steps.{key_steps}

-- ---- the columns of steps

-- a column at the first of the places, and what comes after it; none where no place is left
abbrev pub column_read : KeyPart → ℕ → List ℕ → (ℕ → List ℕ → List KeyRead) → List KeyRead
column_read c above [] later = []
column_read c above (p ∷ ps) later = record { above = above; column = c; place = p } ∷ later 0 ps

abbrev pub step_read : KeyStep → ℕ → List ℕ → (ℕ → List ℕ → List KeyRead) → List KeyRead
step_read (step.Table t) above ps later = later (above + 1) ps
step_read (step.Column c) above ps later = column_read c above ps later

-- the columns of steps, with a place for each; above is how many numbers of tables are in front of the first of them
abbrev pub key_reads : List KeyStep → ℕ → List ℕ → List KeyRead
key_reads [] above ps = []
key_reads (s ∷ ss) above ps = step_read s above ps (key_reads ss)

-- whatever steps come later, their columns and those so far are the same as before a step
pub record IsReadAdded (s : KeyStep) (above : ℕ) (ps : List ℕ) (old new : List KeyRead) (next : ℕ) : Type 0 where
  pub within : next ≤ above + 1
  pub added : (later : List KeyStep)
      → new ++ key_reads later next (drop (length new) ps) ≡ old ++ key_reads (s ∷ later) above (drop (length old) ps)

abbrev pub IsColumnAdded : KeyPart → ℕ → List ℕ → List KeyRead → List KeyRead → ℕ → Type 0
IsColumnAdded c above ps old new next = IsReadAdded (step.Column c) above ps old new next

abbrev pub places_of : List KeyRead → List ℕ
places_of rs = map (λ (r : KeyRead). r.place) rs

-- they are the columns of table n's keys at these places, up to the last that the mask has, or to one after it
pub record AreReadsOf (schema : List Table) (n : ℕ) (ps : List ℕ) (ms : List Bool) (rs : List KeyRead) : Type 0 where
  pub count : ℕ
  pub are : rs ≡ take count (key_reads (key_steps schema n) 0 ps)
  pub left : wants_none ms (drop count ps) ≡ true

-- ---- the values of columns in a coded key

-- a value of the column is coded after the numbers of tables; more is what follows
pub record IsCodedAt (r : KeyRead) (v : Value) (bytes more : List ℕ) : Type 0 where
  pub front : List ℕ
  pub above : length front ≡ r.above
  pub fits : Fits r.column.kind v
  pub code : bytes ≡ front ++ (column_code r.column v ++ more)

-- values of the columns are coded one after another
abbrev pub AreCoded : List KeyRead → List Value → List ℕ → Type 0
AreCoded [] vs bytes = Unit {0}
AreCoded (r ∷ rs) [] bytes = ⊥
AreCoded (r ∷ rs) (v ∷ vs) bytes = (more : List ℕ) × (IsCodedAt r v bytes more × AreCoded rs vs more)

-- whatever value of the column is coded in the first n bytes, with what is in front of it, it was put at its place
pub record IsReadPut (ms : List Bool) (r : KeyRead) (bytes : List ℕ) (old new : List Value) (n : ℕ) : Type 0 where
  pub within : n ≤ length bytes
  pub put : (v : Value) (more : List ℕ) → IsCodedAt r v bytes more
      → (new ≡ put ms r.place v old) × (more ≡ drop n bytes)

-- no value of the column is coded there
pub record IsNoRead (r : KeyRead) (bytes : List ℕ) : Type 0 where
  pub none : (v : Value) (more : List ℕ) → IsCodedAt r v bytes more → ⊥

-- whatever values of the columns the bytes code, they were put at their places, and found is true
pub record AreReadsPut (rs : List KeyRead) (ms : List Bool) (bytes : List ℕ) (old new : List Value)
    (found : Bool) : Type 0 where
  pub put : (vs : List Value) → AreCoded rs vs bytes → (found ≡ true) × (new ≡ placed ms (places_of rs) vs old)
