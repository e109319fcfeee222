-- What a table that breaks no rule is known to be.
use Rattle.std.proofs.Common.{◌≡◌, ℕ, zero, suc, ◌<◌, ◌≤◌, arith, inl, inr, List, Option, Some, None, refl, sym, ◌∙◌, ap, Bool, true, false, cond, length, take}
use Rattle.std.specs.Prelude.{is_some, nat_lt, nat_le, slice_get}
use Rattle.std.proofs.lemmas.Bool.Decides.{nat_tests}
use Rattle.std.proofs.lemmas.List.{length-take-le}
use Rattle.std.proofs.lemmas.Option.{slice_get_within, slice_get_cases}
use Rattle.std.proofs.lemmas.Bool.{or_parts}
use Rattle.span_value.specs.declared.refusal.Refusal.{Refusal}
use Rattle.span_value.specs.declared.refusal.Refusal.TheVariants.{TooMany, DuplicateTable, BadColumn, NoParent, KeyNotPrefixed, HierarchyTooDeep}
use Rattle.span_schema.specs.Limits.{most_levels, most_tables}
use Rattle.span_schema.specs.declared.table.Table.{Table}
use Rattle.span_schema.specs.Tables.{table_place}
use Rattle.span_value.specs.Results.{first_cause}
use Rattle.span_schema.specs.Rules.{has_too_many, has_bad_column, has_no_parent, has_other_key, causes_of}
use Rattle.span_schema.specs.Lineages.{path_at, cause_in, cause_at, MeetsRules}

passed : (b : Bool) (x : Refusal) (r : Option Refusal) → cond b (Some x) r ≡ None → (b ≡ false) × (r ≡ None)
passed true x r h = absurd (let e : Some x ≡ None = h in cc)
passed false x r h = (refl, h)

pub record Passes (before : List Table) (t : Table) (level : ℕ) : Type 0 where
  pub few : has_too_many before t ≡ false
  pub new_name : is_some (table_place before t.name) ≡ false
  pub columns : has_bad_column t ≡ false
  pub parent : has_no_parent before t ≡ false
  pub key : has_other_key before t ≡ false
  pub depth : nat_lt most_levels level ≡ false

pub all_passed : (before : List Table) (t : Table) (level : ℕ) → first_cause (causes_of before t level) ≡ None → Passes before t level
all_passed before t level h =
    let a = passed (has_too_many before t) TooMany _ h in
    let b = passed (is_some (table_place before t.name)) DuplicateTable _ a.1 in
    let c = passed (has_bad_column t) BadColumn _ b.1 in
    let d = passed (has_no_parent before t) NoParent _ c.1 in
    let e = passed (has_other_key before t) KeyNotPrefixed _ d.1 in
    let f = passed (nat_lt most_levels level) HierarchyTooDeep _ e.1 in
    record { few = a.0; new_name = b.0; columns = c.0; parent = d.0; key = e.0; depth = f.0 }

pub passes_at : (tables : List Table) → MeetsRules tables → (i : ℕ) (t : Table) → slice_get tables i ≡ Some t → Passes (take i tables) t (length (path_at tables i))
passes_at tables rules i t at =
    let none : cause_at tables i ≡ None = rules.at i (slice_get_within tables i t at) in
    all_passed (take i tables) t (length (path_at tables i)) (sym (ap (cause_in (take i tables) (length (path_at tables i))) at) ∙ none)

-- a schema has no more tables than it may
pub few_tables : (tables : List Table) → MeetsRules tables → length tables ≤ most_tables
few_tables tables rules = by_last (length tables) refl
  where
    by_last : (n : ℕ) → length tables ≡ n → length tables ≤ most_tables
    by_last zero e = omega arith
    by_last (suc n) e = elim (slice_get_cases tables n).1 [
      | inl here ↦ (let few = (passes_at tables rules n here.0 here.2).few in
          let both = or_parts (nat_le most_tables (length (take n tables))) _ few in
          let len : length (take n tables) ≡ n = length-take-le n tables (omega arith) in
          let less : n < most_tables = grind (arith, nat_tests, both.0, len) in omega arith)
      | inr gone ↦ absurd (omega arith)
    ]
