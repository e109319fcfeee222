-- Which tables a schema text declares, and how a text is refused.
use Rattle.std.specs.Prelude.{◌≡◌, ◌⊎◌, ℕ, List, Result, Ok, Err}
use Rattle.span_value.specs.declared.refusal.Refusal.{Refusal}
use Rattle.span_value.specs.declared.refusal.Refusal.TheVariants as refusal
use Rattle.span_schema.specs.declared.table.Table.{Table}
use Rattle.span_schema.specs.Lineages.{MeetsRules, IsFirstCause}
use Rattle.span_grammar.specs.declared.judge.Goal.TheVariants as goal
use Rattle.span_grammar.specs.Rules.{most_openings}
use Rattle.span_grammar.specs.Judged.{IsRefused}
use Rattle.span_syntax.specs.Parsed.{ParsesAs}
use Rattle.span_schematext.specs.Declarations.{tables}

-- the text has a tree, and the tables are those of the tree
abbrev pub AreTables : List ℕ → List Table → Type 0
AreTables text found = ParsesAs goal.Schema (tables text most_openings).of text found

-- the text declares the tables, and they meet the rules
abbrev pub IsSchemaText : List ℕ → List Table → Type 0
IsSchemaText text found = AreTables text found × MeetsRules found

-- the refusal of a text that has no tree, or the first rule that its tables break
abbrev pub IsSchemaRefused : List ℕ → Refusal → Type 0
IsSchemaRefused text why =
    IsRefused goal.Schema text why ⊎ ((found : List Table) × AreTables text found × IsFirstCause found why)

-- these tables, unless memory ran out
abbrev pub IsSchemaOrOutOfMemory : Result (List Table) Refusal → List Table → Type 0
IsSchemaOrOutOfMemory (Ok x) y = x ≡ y
IsSchemaOrOutOfMemory (Err e) y = e ≡ refusal.OutOfMemory

-- this refusal, unless memory ran out
abbrev pub RefusesSchema : Result (List Table) Refusal → Refusal → Type 0
RefusesSchema (Ok x) why = ⊥
RefusesSchema (Err e) why = (e ≡ why) ⊎ (e ≡ refusal.OutOfMemory)
