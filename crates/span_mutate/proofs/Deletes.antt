-- A Delete of a row that is there, and that no row below it holds.
use Rattle.std.proofs.Common.{◌≡◌, Bool, true, false, not, ◌&&◌, cond, List, [], ◌∷◌, Option, Some, None, is_some, Ok, refl, ap, ◌∙◌}
use Rattle.std.specs.List.{filter}
use Rattle.span_value.specs.declared.refusal.Refusal.{Refusal}
use Rattle.span_value.specs.declared.refusal.Refusal.TheVariants.{Exists, Missing, ParentMissing, HasChildren, RowTooLong}
use Rattle.span_schema.specs.declared.table.Table.{Table}
use Rattle.span_value.specs.Results.{first_cause}
use Rattle.span_schema.specs.Numbers.{key_columns}
use Rattle.span_mutate.specs.declared.mutation.MutationKind.{MutationKind}
use Rattle.span_mutate.specs.declared.mutation.MutationKind.TheVariants.{Insert, Update, InsertOrUpdate, Delete}
use Rattle.span_mutate.specs.declared.mutation.CheckedMutation.{CheckedMutation}
use Rattle.span_mutate.specs.declared.row.TableRow.{TableRow}
use Rattle.span_mutate.specs.Kinds.{is_delete}
use Rattle.span_mutate.specs.Database.{unless}
use Rattle.span_mutate.specs.Rows.{row_at, with_row}
use Rattle.span_mutate.specs.Database.{is_insert, is_update, is_under, is_delete_blocked, row_after, changed, apply_to, apply_one}

no_cause : (k : MutationKind) (a b c s d e : Bool) → is_delete k ≡ true → d ≡ false → s ≡ true
    → first_cause ((is_insert k && a, Exists) ∷ (is_update k && b, Missing) ∷ (not (is_delete k) && c, ParentMissing) ∷ (is_delete k && s && d, HasChildren) ∷ (not (is_delete k) && e, RowTooLong) ∷ []) ≡ None
no_cause Insert a b c s d e k g h = absurd cc
no_cause Update a b c s d e k g h = absurd cc
no_cause InsertOrUpdate a b c s d e k g h = absurd cc
no_cause Delete a b c true d e k g h = ap (λ (x : Bool). cond x (Some HasChildren) None) g
no_cause Delete a b c false d e k g h = absurd cc

deletes_found : (tables : List Table) (db : List TableRow) (m : CheckedMutation) (before : Option TableRow) → is_delete m.kind ≡ true → is_some before ≡ true → is_delete_blocked tables m.table m.key db ≡ false
    → apply_to tables db m before ≡ Ok (filter (λ (q : TableRow). not (is_under tables m.table m.key q)) db)
deletes_found tables db m None k some held = absurd cc
deletes_found tables db m (Some r) k some held =
    ap (λ (w : Option Refusal). unless w (changed tables db m (Some r))) (no_cause m.kind _ _ _ _ _ _ k held refl)
    ∙ ap (λ (b : Bool). Ok (cond b (filter (λ (q : TableRow). not (is_under tables m.table m.key q)) db) (with_row (key_columns tables m.table) (row_after m (Some r)) db))) k

pub deletes : (tables : List Table) (db : List TableRow) (m : CheckedMutation) → is_delete m.kind ≡ true → is_some (row_at m.table m.key db) ≡ true → is_delete_blocked tables m.table m.key db ≡ false
    → apply_one tables db m ≡ Ok (filter (λ (q : TableRow). not (is_under tables m.table m.key q)) db)
deletes tables db m = deletes_found tables db m (row_at m.table m.key db)
