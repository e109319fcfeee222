-- A row that is put without a look for what mutations made at its key, and a parent row that is known to be there.
use Rattle.std.proofs.Common.{◌≡◌, ◌⊎◌, inl, inr, ℕ, Bool, true, false, not, ◌&&◌, cond, List, [], ◌∷◌, Option, Some, None, is_some, is_none, Ok, take, length, refl, sym, ap, subst, ◌∙◌}
use Rattle.std.proofs.Math.Bool.{and-false}
use Rattle.std.specs.Prelude.{nat_lt, IfSome}
use Rattle.std.specs.List.{list_any}
use Rattle.std.specs.Option.{unwrap_or}
use Rattle.span_value.specs.declared.value.Value.{Value}
use Rattle.span_value.specs.declared.refusal.Refusal.{Refusal}
use Rattle.span_value.specs.declared.refusal.Refusal.TheVariants.{OutOfMemory, Exists, Missing, ParentMissing, RowTooLong}
use Rattle.span_value.specs.Results.{first_cause}
use Rattle.span_schema.specs.declared.table.Table.{Table}
use Rattle.span_schema.specs.Numbers.{key_columns, parent_of}
use Rattle.span_keycode.specs.Keys.{key_code}
use Rattle.span_rowcode.specs.Rows.{row_code}
use Rattle.span_rowcode.specs.Limits.{longest_row}
use Rattle.span_mutate.specs.declared.mutation.CheckedMutation.{CheckedMutation}
use Rattle.span_mutate.specs.declared.mutation.MutationKind.{MutationKind}
use Rattle.span_mutate.specs.declared.mutation.MutationKind.TheVariants.{Insert, Update, InsertOrUpdate, Delete}
use Rattle.span_mutate.specs.Database.{is_insert, is_update, merge_cells}
use Rattle.span_mutate.specs.Faults.{is_mutation_fault}
use Rattle.span_mutate.proofs.Causes.{rest_none, first_none}
use Rattle.span_maderows.specs.Made.{made_at}
use Rattle.span_store.specs.KeyVersions.{KeyVersions}
use Rattle.span_store.specs.KeyLists.{row_now}
use Rattle.span_keycode.specs.Order.{is_same}
use Rattle.span_shard.specs.Overlay.{Changes, change_of, changed_at, row_over, own_code, row_before, lacks_parent_over, AreCellsOf, IsAddedAt, IsPutAt, IsPutRow, IsNoPut, IsRowAlone, HasPutRow, HasParent, HasFront}
use Rattle.span_shard.proofs.RunPuts.{put_answer}

-- ---- a row that is made as if there were none

no_update : (k : MutationKind) → is_insert k ≡ true → (is_update k && true) ≡ false
no_update Insert e = refl
no_update Update e = absurd (let f : false ≡ true = e in cc)
no_update InsertOrUpdate e = refl
no_update Delete e = refl

-- where mutations made no row either, it is the row that is put
pub alone_put : (tables : List Table) (cs : List KeyVersions) (es : Changes) (m : CheckedMutation) (row : List ℕ) → IsRowAlone tables cs es m row → made_at es.made (own_code tables m) ≡ None → IsPutRow tables cs es m row
alone_put tables cs es m row alone none =
    let code = own_code tables m in
    let before : row_before tables cs es m ≡ None = ap (λ (o : Option (List ℕ)). unwrap_or (change_of o (list_any (is_same code) es.removed)) (row_now cs code)) none ∙ alone.under in
    put_answer tables cs es m [] false false (subst (λ (o : Option (List ℕ)). AreCellsOf tables m.table o []) (sym before) refl) (ap (λ (o : Option (List ℕ)). is_some o) before) alone.parent
    (and-false (is_insert m.kind)) (no_update m.kind alone.insert) refl (Ok row) (alone.is, alone.fits)

there_over : (o : Option (List ℕ)) (b : Bool) (now : Option (List ℕ)) → is_some o ≡ true → is_some (unwrap_or (change_of o b) now) ≡ true
there_over None b now e = absurd (let f : false ≡ true = e in cc)
there_over (Some row) b now e = refl

first_exists : (a b : Bool) (rest : List (Bool × Refusal)) → a ≡ true → b ≡ true → first_cause ((a && b, Exists) ∷ rest) ≡ Some Exists
first_exists a b rest e f = ap (λ (x : Bool). first_cause ((x && b, Exists) ∷ rest)) e ∙ ap (λ (x : Bool). first_cause ((x, Exists) ∷ rest)) f

-- where they made one, an insert is refused
pub alone_exists : (tables : List Table) (cs : List KeyVersions) (es : Changes) (m : CheckedMutation) (why : Refusal) → is_insert m.kind ≡ true → is_some (made_at es.made (own_code tables m)) ≡ true → why ≡ Exists → IsNoPut tables cs es m why
alone_exists tables cs es m why insert there e =
    let code = own_code tables m in
    let present : is_some (row_before tables cs es m) ≡ true = there_over (made_at es.made code) (list_any (is_same code) es.removed) (row_now cs code) there in
    inr (inl (
      ap is_mutation_fault e,
      λ old are. first_exists (is_insert m.kind) (is_some (row_before tables cs es m))
          ((is_update m.kind && not (is_some (row_before tables cs es m)), Missing) ∷ (lacks_parent_over tables cs es (parent_of tables m.table) m.key, ParentMissing) ∷ (nat_lt longest_row (length (row_code (merge_cells m.cells old))), RowTooLong) ∷ []) insert present
          ∙ ap Some (sym e),
    ))

-- ---- a parent row that is there

-- a row that was put has one
parent_of_put : (tables : List Table) (cs : List KeyVersions) (es : Changes) (m : CheckedMutation) (row : List ℕ) → IsPutRow tables cs es m row → lacks_parent_over tables cs es (parent_of tables m.table) m.key ≡ false
parent_of_put tables cs es m row p =
    let present = is_some (row_before tables cs es m) in
    let lacking = lacks_parent_over tables cs es (parent_of tables m.table) m.key in
    let t = nat_lt longest_row (length (row_code (merge_cells m.cells p.old))) in
    let e1 = rest_none (is_insert m.kind && present) Exists ((is_update m.kind && not present, Missing) ∷ (lacking, ParentMissing) ∷ (t, RowTooLong) ∷ []) p.cause in
    let e2 = rest_none (is_update m.kind && not present) Missing ((lacking, ParentMissing) ∷ (t, RowTooLong) ∷ []) e1 in
    first_none lacking ParentMissing ((t, RowTooLong) ∷ []) e2

-- it stays there while rows are put
parent_stays : (tables : List Table) (cs : List KeyVersions) (es fs : Changes) (code row : List ℕ) (o : Option ℕ) (key : List Value) → IsPutAt code row es fs → lacks_parent_over tables cs es o key ≡ false → lacks_parent_over tables cs fs o key ≡ false
parent_stays tables cs es fs code row None key put e = refl
parent_stays tables cs es fs code row (Some p) key put e = by_code (is_same code above) refl
  where
    above : List ℕ
    above = key_code tables p (take (length (key_columns tables p)) key)

    now : (b : Bool) → is_same code above ≡ b → row_over cs fs above ≡ unwrap_or (cond b (Some (Some row)) (changed_at es above)) (row_now cs above)
    now b f = ap (λ (c : Option (Option (List ℕ))). unwrap_or c (row_now cs above)) (put above ∙ ap (λ (x : Bool). cond x (Some (Some row)) (changed_at es above)) f)

    by_code : (b : Bool) → is_same code above ≡ b → is_none (row_over cs fs above) ≡ false
    by_code true f = ap (λ (r : Option (List ℕ)). is_none r) (now true f)
    by_code false f = ap (λ (r : Option (List ℕ)). is_none r) (now false f) ∙ e

pub put_known : (tables : List Table) (cs : List KeyVersions) (m : CheckedMutation) (es fs : Changes) → HasPutRow tables cs m es fs → HasParent tables cs fs (Some m)
put_known tables cs m es fs p =
    parent_stays tables cs es fs (own_code tables m) p.row (parent_of tables m.table) m.key p.put (parent_of_put tables cs es m p.row p.made)

-- two mutations of one table, the beginnings of whose keys are equal, have the same parent row
pub front_known : (tables : List Table) (cs : List KeyVersions) (es : Changes) (known : Option CheckedMutation) (n p : ℕ) (key : List Value) → HasParent tables cs es known → parent_of tables n ≡ Some p
    → HasFront n (length (key_columns tables p)) (take (length (key_columns tables p)) key) known → lacks_parent_over tables cs es (Some p) key ≡ false
front_known tables cs es None n p key has e front = absurd front
front_known tables cs es (Some k) n p key has e front =
    let above : parent_of tables k.table ≡ Some p = ap (parent_of tables) front.0 ∙ e in
    let lacks : lacks_parent_over tables cs es (Some p) k.key ≡ false = ap (λ (o : Option ℕ). lacks_parent_over tables cs es o k.key) (sym above) ∙ has in
    ap (λ (vs : List Value). is_none (row_over cs es (key_code tables p vs))) (sym front.1) ∙ lacks

-- ---- of the code

pub alone_added : (tables : List Table) (cs : List KeyVersions) (m : CheckedMutation) (es fs : Changes) (key row : List ℕ) → key ≡ own_code tables m → IsRowAlone tables cs es m row → IsAddedAt key row es fs → HasPutRow tables cs m es fs
alone_added tables cs m es fs key row e alone added = record {
  row = row;
  made = alone_put tables cs es m row alone (ap (made_at es.made) (sym e) ∙ added.none);
  put = subst (λ (k : List ℕ). IsPutAt k row es fs) e added.put;
}

pub alone_refused : (tables : List Table) (cs : List KeyVersions) (m : CheckedMutation) (es : Changes) (key row : List ℕ) (why : Refusal) → key ≡ own_code tables m → IsRowAlone tables cs es m row
    → (why ≡ OutOfMemory) ⊎ ((why ≡ Exists) × (is_some (made_at es.made key) ≡ true)) → IsNoPut tables cs es m why
alone_refused tables cs m es key row why e alone h = elim h [
  | inl f ↦ inl f
  | inr f ↦ alone_exists tables cs es m why alone.insert (ap (λ (k : List ℕ). is_some (made_at es.made k)) (sym e) ∙ f.1) f.0
]

pub put_added : (tables : List Table) (cs : List KeyVersions) (m : CheckedMutation) (es fs : Changes) (key row : List ℕ) → key ≡ own_code tables m → IsPutRow tables cs es m row → IsPutAt key row es fs → HasPutRow tables cs m es fs
put_added tables cs m es fs key row e made put = record {
  row = row;
  made = made;
  put = subst (λ (k : List ℕ). IsPutAt k row es fs) e put;
}

pub alone_at : (tables : List Table) (cs : List KeyVersions) (es : Changes) (m : CheckedMutation) (o : Option (List ℕ)) (row : List ℕ) → o ≡ Some row → IfSome o (IsRowAlone tables cs es m) → IsRowAlone tables cs es m row
alone_at tables cs es m o row e h = subst (λ (v : Option (List ℕ)). IfSome v (IsRowAlone tables cs es m)) {x = o} {y = Some row} e h
