-- What the status of a run says of the schema.
use Rattle.std.specs.Prelude.{◌≡◌, ◌≢◌, ◌⊎◌, ℕ, List, IsUtf8}
use Rattle.span_value.specs.declared.refusal.Refusal.{Refusal}
use Rattle.span_value.specs.declared.refusal.Refusal.TheVariants.{BadToken, OutOfMemory}
use Rattle.span_schema.specs.declared.table.Table.{Table}
use Rattle.span_schematext.specs.SchemaTexts as texts

-- the bytes are the text of the schema
abbrev pub IsSchema : List ℕ → List Table → Type 0
IsSchema bytes schema = IsUtf8 bytes × texts.IsSchemaText bytes schema

-- the bytes are refused: they are not in UTF-8, so that no token begins somewhere, or the text is refused
abbrev pub IsRefused : List ℕ → Refusal → Type 0
IsRefused bytes why = (¬ IsUtf8 bytes × (why ≡ BadToken)) ⊎ (IsUtf8 bytes × texts.IsSchemaRefused bytes why)

-- the status 0: the bytes are the text of a schema
abbrev pub IsAnswered : List ℕ → ℕ → Type 0
IsAnswered bytes status = (status ≡ 0) × ((schema : List Table) × IsSchema bytes schema)

-- the status 3: they are refused, and not for out of memory
abbrev pub IsSchemaRefused : List ℕ → ℕ → Type 0
IsSchemaRefused bytes status = (status ≡ 3) × ((why : Refusal) × (why ≢ OutOfMemory) × IsRefused bytes why)
