-- What the tables of a text say of its schema.
use Rattle.std.proofs.Common.{◌≡◌, ◌≢◌, ◌⊎◌, inl, inr, ℕ, ◌<◌, length, take, List, Some, Result, Ok, Err, sym, ap, subst, ◌∙◌}
use Rattle.std.specs.Prelude.{IfOk, IfErr, MatchResult}
use Rattle.std.proofs.lemmas.Bool.{cases_order}
use Rattle.std.proofs.lemmas.Option.{slice_get_cases, none-some, same_Some}
use Rattle.span_value.specs.declared.refusal.Refusal.{Refusal}
use Rattle.span_value.specs.declared.refusal.Refusal.TheVariants as refusal
use Rattle.span_schema.specs.declared.table.Table.{Table}
use Rattle.span_schema.specs.Lineages.{path_at, cause_in, cause_at, MeetsRules, IsFirstCause}
use Rattle.span_grammar.specs.declared.judge.Goal.TheVariants as goal
use Rattle.span_grammar.specs.Rules.{most_openings}
use Rattle.span_grammar.specs.Judged.{IsRefused}
use Rattle.span_schematext.specs.SchemaTexts.{AreTables, IsSchemaText, IsSchemaRefused, IsSchemaOrOutOfMemory, RefusesSchema}
use Rattle.span_schematext.specs.Declarations.{tables}
use Rattle.span_schematext.proofs.Declaring.{tables_good}
use Rattle.span_syntax.proofs.Parsing.{one_value, value_not_refused}

-- a rule is broken by a table that is there
within : (tables : List Table) (i : ℕ) (why : Refusal) → cause_at tables i ≡ Some why → i < length tables
within tables i why h = elim (slice_get_cases tables i).1 [
  | inl found ↦ found.1
  | inr past ↦ absurd (none-some why (sym (ap (cause_in (take i tables) (length (path_at tables i))) past.1) ∙ h))
]

pub not_both : (tables : List Table) (why : Refusal) → MeetsRules tables → IsFirstCause tables why → ⊥
not_both tables why m c = none-some why (sym (m.at c.place (within tables c.place why c.here)) ∙ c.here)

pub one_cause : (tables : List Table) (a b : Refusal) → IsFirstCause tables a → IsFirstCause tables b → a ≡ b
one_cause tables a b c d = elim (cases_order c.place d.place) [
  | inl same ↦ same_Some a b (sym c.here ∙ ap (cause_at tables) same ∙ d.here)
  | inr apart ↦ elim apart [
    | inl before ↦ absurd (none-some a (sym (d.before c.place before) ∙ c.here))
    | inr after ↦ absurd (none-some b (sym (c.before d.place after) ∙ d.here))
  ]
]

abbrev pub Answer : Type 0
Answer = Result (List Table) Refusal

abbrev pub Judged : List Table → Answer → Type 0
Judged found r = MatchResult r (λ schema. (schema ≡ found) × MeetsRules found) (λ why. IsFirstCause found why ⊎ (why ≡ refusal.OutOfMemory))

module _ (text : List ℕ) (found : List Table) (are : AreTables text found) (one : (other : List Table) → AreTables text other → other ≡ found) (taken : (why : Refusal) → why ≢ refusal.OutOfMemory → IsRefused goal.Schema text why → ⊥) where
  pub schema_read : (r : Answer) → Judged found r → IfOk r (λ schema. IsSchemaText text schema)
  schema_read (Ok s) h = subst (IsSchemaText text) (sym h.0) (are, h.1)
  schema_read (Err e) h = tt

  pub schema_read_all : (r : Answer) → Judged found r → (other : List Table) → IsSchemaText text other → IsSchemaOrOutOfMemory r other
  schema_read_all (Ok s) h other t = h.0 ∙ sym (one other t.0)
  schema_read_all (Err e) (inl c) other t = absurd (not_both found e (subst MeetsRules (one other t.0) t.1) c)
  schema_read_all (Err e) (inr m) other t = m

  pub schema_refused : (r : Answer) → Judged found r → IfErr r (λ why. IsSchemaRefused text why)
  schema_refused (Ok s) h = tt
  schema_refused (Err e) (inl c) = inr (found, are, c)
  schema_refused (Err e) (inr m) = inl (subst (IsRefused goal.Schema text) (sym m) tt)

  pub schema_refused_all : (r : Answer) → Judged found r → (why : Refusal) → why ≢ refusal.OutOfMemory → IsSchemaRefused text why → RefusesSchema r why
  schema_refused_all r h why n (inl i) = absurd (taken why n i)
  schema_refused_all (Ok s) h why n (inr t) = not_both found why h.1 (subst (λ (v : List Table). IsFirstCause v why) (one t.0 t.1) t.2)
  schema_refused_all (Err e) (inl c) why n (inr t) = inl (one_cause found e why c (subst (λ (v : List Table). IsFirstCause v why) (one t.0 t.1) t.2))
  schema_refused_all (Err e) (inr m) why n (inr t) = inr m

-- a text declares one list of tables at most
pub one_tables : (text : List ℕ) (x y : List Table) → AreTables text x → AreTables text y → x ≡ y
one_tables text x y s t = one_value goal.Schema (tables text most_openings) (tables_good text most_openings) text s.items s.made x y s t

-- a text that declares tables is not refused
pub not_refused : (text : List ℕ) (x : List Table) → AreTables text x → (why : Refusal) → why ≢ refusal.OutOfMemory → IsRefused goal.Schema text why → ⊥
not_refused text x s why n i = value_not_refused goal.Schema (tables text most_openings) (tables_good text most_openings) text s.items s.made x s why n i
