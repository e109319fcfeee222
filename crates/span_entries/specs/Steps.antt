-- The steps of the coded keys of a table: the number of each table on its path, and after it the columns that this one's key adds.
use Rattle.std.specs.Prelude.{◌≡◌, ℕ, List, [], ◌∷◌, ◌++◌, map, drop}
use Rattle.span_schema.specs.declared.table.Table.{Table}
use Rattle.span_schema.specs.declared.layout.KeyPart.{KeyPart}
use Rattle.span_schema.specs.Numbers.{own_key_columns, path_of}
use Rattle.span_keycode.specs.Roots.{IsSkip}
use Rattle.span_entries.specs.declared.steps.KeyStep.{KeyStep}
use Rattle.span_entries.specs.declared.steps.KeyStep.TheVariants as step

abbrev pub column_steps : List KeyPart → List KeyStep
column_steps cs = map (λ c. step.Column c) cs

abbrev pub level_steps : ℕ → List KeyPart → List KeyStep
level_steps n cs = step.Table n ∷ column_steps cs

abbrev pub path_steps : List Table → List ℕ → List KeyStep
path_steps schema [] = []
path_steps schema (n ∷ ns) = level_steps n (own_key_columns schema n) ++ path_steps schema ns

abbrev pub key_steps : List Table → ℕ → List KeyStep
key_steps schema n = path_steps schema (path_of schema n)

-- bytes begin with the number of a table, which is one of them
pub record IsNumberTaken (table : ℕ) (bytes : List ℕ) (n : ℕ) : Type 0 where
  pub one : n ≡ 1
  pub first : bytes ≡ table ∷ drop 1 bytes

-- bytes do not begin with it
pub record IsOffNumber (table : ℕ) (bytes : List ℕ) : Type 0 where
  pub none : (more : List ℕ) → bytes ≡ table ∷ more → ⊥

-- the step takes n bytes at the front
abbrev pub IsTaken : KeyStep → List ℕ → ℕ → Type 0
IsTaken (step.Table table) bytes n = IsNumberTaken table bytes n
IsTaken (step.Column c) bytes n = IsSkip c bytes n

-- the bytes do not begin with the number of the step's table
abbrev pub IsOff : KeyStep → List ℕ → Type 0
IsOff (step.Table table) bytes = IsOffNumber table bytes
IsOff (step.Column c) bytes = ⊥
