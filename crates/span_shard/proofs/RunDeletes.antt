-- A mutation that deletes rows, on the rows over those that are there now.
use Rattle.std.proofs.Common.{◌≡◌, inl, inr, ℕ, Bool, true, false, not, ◌||◌, ◌&&◌, cond, List, [], ◌∷◌, Option, Some, None, is_some, Ok, Err, refl, sym, ap, subst, ◌∙◌}
use Rattle.std.specs.List.{filter, list_any, AllByRecursion}
use Rattle.std.specs.Option.{unwrap_or}
use Rattle.std.proofs.lemmas.Bool.{or_right, or_left}
use Rattle.span_value.specs.declared.refusal.Refusal.{Refusal}
use Rattle.span_value.specs.declared.refusal.Refusal.TheVariants.{Exists, Missing, ParentMissing, HasChildren, RowTooLong}
use Rattle.span_value.specs.Results.{first_cause}
use Rattle.span_schema.specs.declared.table.Table.{Table}
use Rattle.span_schema.specs.Lineages.{MeetsRules}
use Rattle.span_schema.specs.Numbers.{key_columns}
use Rattle.span_mutate.specs.declared.mutation.CheckedMutation.{CheckedMutation}
use Rattle.span_mutate.specs.declared.mutation.MutationKind.{MutationKind}
use Rattle.span_mutate.specs.declared.mutation.MutationKind.TheVariants.{Insert, Update, InsertOrUpdate, Delete}
use Rattle.span_mutate.specs.declared.row.TableRow.{TableRow}
use Rattle.span_mutate.specs.Kinds.{is_delete}
use Rattle.span_mutate.specs.Database.{unless}
use Rattle.span_mutate.specs.Rows.{with_row}
use Rattle.span_mutate.specs.Database.{is_insert, is_update, is_under, is_delete_blocked, row_after, changed, apply_to, apply_one}
use Rattle.span_mutate.specs.Directories.{IsDatabase}
use Rattle.span_mutate.specs.Typed.{IsTyped, AreTyped, IsTypedMutation}
use Rattle.span_mutate.proofs.Deletes.{deletes}
use Rattle.span_maderows.specs.Made.{begins_with}
use Rattle.span_store.specs.KeyVersions.{KeyVersions}
use Rattle.span_shard.specs.Rows.{code_of, row_coded, root_code}
use Rattle.span_store.specs.KeyLists.{row_now}
use Rattle.span_keycode.specs.Order.{is_same}
use Rattle.span_keycode.proofs.Order.{same_bytes}
use Rattle.span_shard.specs.Overlay.{Changes, changed_at, row_over, without_if, own_code, row_before, AreUnder, BlocksDelete, AreRemoved, AreDeleted, HasDeleted, IsHeld, IsStray, IsOver, HasDirectory, IsTableRow, AreTableRows, IsRunOf}
use Rattle.span_store.proofs.Lists.{any_all}
use Rattle.span_shard.proofs.Databases.{row_there}
use Rattle.span_shard.proofs.OverRows.{cells, deleted_there, deleted_elsewhere, held_by, held_not}
use Rattle.span_shard.proofs.RunPuts.{own_begins, begins_on, before_in, before_code}

-- ---- the causes of a deletion

abbrev cause_of : MutationKind → Bool → Bool → Bool → Bool → Bool → Option Refusal
cause_of k s n l b t = first_cause ((is_insert k && s, Exists) ∷ (is_update k && n, Missing) ∷ (not (is_delete k) && l, ParentMissing) ∷ (is_delete k && s && b, HasChildren) ∷ (not (is_delete k) && t, RowTooLong) ∷ [])

-- an absent row is no fault
absent_cause : (k : MutationKind) (n l b t : Bool) → is_delete k ≡ true → cause_of k false n l b t ≡ None
absent_cause Insert n l b t e = absurd (let f : false ≡ true = e in cc)
absent_cause Update n l b t e = absurd (let f : false ≡ true = e in cc)
absent_cause InsertOrUpdate n l b t e = absurd (let f : false ≡ true = e in cc)
absent_cause Delete n l b t e = refl

held_cause : (k : MutationKind) (s n l b t : Bool) → is_delete k ≡ true → s ≡ true → b ≡ true → cause_of k s n l b t ≡ Some HasChildren
held_cause Insert s n l b t e f g = absurd (let h : false ≡ true = e in cc)
held_cause Update s n l b t e f g = absurd (let h : false ≡ true = e in cc)
held_cause InsertOrUpdate s n l b t e f g = absurd (let h : false ≡ true = e in cc)
held_cause Delete true n l true t e f g = refl
held_cause Delete false n l b t e f g = absurd (let h : false ≡ true = f in cc)
held_cause Delete true n l false t e f g = absurd (let h : false ≡ true = g in cc)

no_row : (o : Option TableRow) → cells o ≡ None → o ≡ None
no_row None e = refl
no_row (Some r) e = absurd (cc)

some_row : (o : Option TableRow) → is_some (cells o) ≡ true → is_some o ≡ true
some_row None e = e
some_row (Some r) e = refl

absent_applied : (tables : List Table) (m : CheckedMutation) (db : List TableRow) → is_delete m.kind ≡ true → before_in m db ≡ None → apply_one tables db m ≡ Ok db
absent_applied tables m db kind none =
    ap (λ (o : Option TableRow). apply_to tables db m o) none
    ∙ ap (λ (w : Option Refusal). unless w (changed tables db m None)) (absent_cause m.kind _ _ _ _ kind)
    ∙ ap (λ (b : Bool). Ok (cond b db (with_row (key_columns tables m.table) (row_after m None) db))) kind

held_applied : (tables : List Table) (m : CheckedMutation) (db : List TableRow) → is_delete m.kind ≡ true → is_some (before_in m db) ≡ true → is_delete_blocked tables m.table m.key db ≡ true → apply_one tables db m ≡ Err HasChildren
held_applied tables m db kind some held =
    ap (λ (w : Option Refusal). unless w (changed tables db m (before_in m db))) (held_cause m.kind (is_some (before_in m db)) _ _ (is_delete_blocked tables m.table m.key db) _ kind some held)

-- ---- keys below

some_is : {X : Type 0} (o : Option X) → is_some o ≡ true → (x : X) × (o ≡ Some x)
some_is None e = absurd (let f : false ≡ true = e in cc)
some_is (Some x) e = (x, refl)

none_is : {X : Type 0} (o : Option X) → is_some o ≡ false → o ≡ None
none_is None e = refl
none_is (Some x) e = absurd (let f : true ≡ false = e in cc)

-- of keys below, one that is found there
abbrev pub IsBelow : List KeyVersions → Changes → List ℕ → List ℕ → Type 0
IsBelow cs es front k = (begins_with k front ≡ true) × (is_some (row_over cs es k) ≡ true)

pub found_below : (cs : List KeyVersions) (es : Changes) (front : List ℕ) (ks : List (List ℕ)) → AreUnder cs es front ks → (k : List ℕ) → list_any (is_same k) ks ≡ true → IsBelow cs es front k
found_below cs es front ks under k e =
    let at = any_all (IsBelow cs es front) (is_same k) ks under.sound e in
    subst (IsBelow cs es front) (sym (same_bytes k at.0 at.2)) at.1

-- where the row is absent nothing is deleted
pub none_deleted : (tables : List Table) (cs : List KeyVersions) (es : Changes) (m : CheckedMutation) (key : List ℕ) → key ≡ own_code tables m → is_some (row_over cs es key) ≡ false → HasDeleted tables cs m es es
none_deleted tables cs es m key is none = record {
  keys = [];
  are = inl (none_is (row_over cs es (own_code tables m)) (ap (λ (l : List ℕ). is_some (row_over cs es l)) (sym is) ∙ none), refl);
  removed = λ k. refl;
}

-- a key below is one of the directory
pub below_in : (tables : List Table) → MeetsRules tables → (m : CheckedMutation) → IsTypedMutation tables m → (k : List ℕ) → begins_with k (own_code tables m) ≡ true → begins_with k (root_code tables m) ≡ true
below_in tables rules m typed k e = begins_on k (own_code tables m) (root_code tables m) e (own_begins tables rules m typed.0.0)

-- ---- the rows after

pub delete_run : (tables : List Table) → MeetsRules tables → (cs : List KeyVersions) (es fs : Changes) (m : CheckedMutation) (ks : List (List ℕ)) → IsTypedMutation tables m → is_delete m.kind ≡ true → AreTableRows tables es
    → AreDeleted tables cs es m ks → AreRemoved es ks fs → IsRunOf tables cs m es fs
delete_run tables rules cs es fs m ks typed kind made deleted removed = record { rows = rows; here = here; applied = applied }
  where
    code : List ℕ
    code = own_code tables m

    -- where a key is removed, it is one below
    removed_below : (k : List ℕ) → list_any (is_same k) ks ≡ true → begins_with k code ≡ true
    removed_below k e = elim deleted [
      | inl none ↦ absurd (let f : false ≡ true = ap (list_any (is_same k)) (sym none.1) ∙ e in cc)
      | inr some ↦ (found_below cs es code ks some.1 k e).0
    ]

    rows : (k row : List ℕ) → changed_at fs k ≡ Some (Some row) → IsTableRow tables k row
    rows k row e = by_key (list_any (is_same k) ks) (removed k)
      where
        by_key : (b : Bool) → changed_at fs k ≡ without_if b (changed_at es k) → IsTableRow tables k row
        by_key true f = absurd (let g : Some None ≡ Some (Some row) = sym f ∙ e in cc)
        by_key false f = made k row (sym f ∙ e)

    here : (k : List ℕ) → is_some (changed_at fs k) ≡ true → (is_some (changed_at es k) || begins_with k (root_code tables m)) ≡ true
    here k e = by_key (list_any (is_same k) ks) refl
      where
        by_key : (b : Bool) → list_any (is_same k) ks ≡ b → (is_some (changed_at es k) || begins_with k (root_code tables m)) ≡ true
        by_key true f = or_right (is_some (changed_at es k)) (begins_with k (root_code tables m)) (below_in tables rules m typed k (removed_below k f))
        by_key false f =
            or_left (is_some (changed_at es k)) (begins_with k (root_code tables m))
            (ap (λ (o : Option (Option (List ℕ))). is_some o) (sym (removed k ∙ ap (λ (b : Bool). without_if b (changed_at es k)) f)) ∙ e)

    applied : (dir : List ℕ → Bool) → HasDirectory tables dir m → (db : List TableRow) → IsDatabase tables db → AreTyped tables db → IsOver tables dir cs es db
        → (next : List TableRow) × (apply_one tables db m ≡ Ok next) × IsOver tables dir cs fs next
    applied dir has db is tdb over = elim deleted [
      | inl none ↦ (
        db,
        absent_applied tables m db kind (no_row (before_in m db) (sym before ∙ none.0)),
        λ k g. ap (λ (o : Option (Option (List ℕ))). unwrap_or o (row_now cs k)) (removed k ∙ ap (λ (l : List (List ℕ)). without_if (list_any (is_same k) l) (changed_at es k)) none.1) ∙ over k g,
      )
      | inr some ↦ (
        filter (λ (q : TableRow). not (is_under tables m.table m.key q)) db,
        deletes tables db m kind (some_row (before_in m db) (ap (λ (o : Option (List ℕ)). is_some o) (sym before) ∙ some.0)) (free some.1 some.2),
        λ k g. by_key k g some.1 (begins_with k code) (list_any (is_same k) ks) refl refl,
      )
    ]
      where
        before : row_before tables cs es m ≡ cells (before_in m db)
        before = before_code tables rules dir cs es m typed has db tdb over

        in_dir : (k : List ℕ) → begins_with k code ≡ true → dir k ≡ true
        in_dir k e = has k (below_in tables rules m typed k e)

        free : AreUnder cs es code ks → AllByRecursion (BlocksDelete tables m.table false) ks → is_delete_blocked tables m.table m.key db ≡ false
        free under none = held_not tables rules m.table m.key typed.0.0 db is.0 tdb (λ r tr e f.
            let there : is_some (row_over cs es (code_of tables r)) ≡ true = ap (λ (o : Option (List ℕ)). is_some o) (over (code_of tables r) (in_dir (code_of tables r) e) ∙ f) in
            let at = any_all (BlocksDelete tables m.table false) (is_same (code_of tables r)) ks none (under.complete (code_of tables r) e there) in
            at.1 r.table r.key tr.0 (sym (same_bytes (code_of tables r) at.0 at.2)))

        by_key : (k : List ℕ) → dir k ≡ true → AreUnder cs es code ks → (b c : Bool) → begins_with k code ≡ b → list_any (is_same k) ks ≡ c
            → row_over cs fs k ≡ row_coded tables (filter (λ (q : TableRow). not (is_under tables m.table m.key q)) db) k
        by_key k g under true true e f =
            ap (λ (o : Option (Option (List ℕ))). unwrap_or o (row_now cs k)) (removed k ∙ ap (λ (b : Bool). without_if b (changed_at es k)) f)
            ∙ sym (deleted_there tables rules m.table m.key typed.0.0 db tdb k e)
        by_key k g under true false e f =
            ap (λ (o : Option (Option (List ℕ))). unwrap_or o (row_now cs k)) (removed k ∙ ap (λ (b : Bool). without_if b (changed_at es k)) f)
            ∙ none_is (row_over cs es k) (nothing (is_some (row_over cs es k)) refl)
            ∙ sym (deleted_there tables rules m.table m.key typed.0.0 db tdb k e)
          where
            nothing : (b : Bool) → is_some (row_over cs es k) ≡ b → b ≡ false
            nothing false h = refl
            nothing true h = absurd (let i : true ≡ false = sym (under.complete k e h) ∙ f in cc)
        by_key k g under false true e f = absurd (let h : false ≡ true = sym e ∙ removed_below k f in cc)
        by_key k g under false false e f =
            ap (λ (o : Option (Option (List ℕ))). unwrap_or o (row_now cs k)) (removed k ∙ ap (λ (b : Bool). without_if b (changed_at es k)) f)
            ∙ over k g
            ∙ sym (deleted_elsewhere tables rules m.table m.key typed.0.0 db tdb k e)

-- ---- the faults

pub held_fault : (tables : List Table) → MeetsRules tables → (dir : List ℕ → Bool) (cs : List KeyVersions) (es : Changes) (m : CheckedMutation) → IsTypedMutation tables m → is_delete m.kind ≡ true → IsHeld tables cs es m → HasDirectory tables dir m
    → (db : List TableRow) → AreTyped tables db → IsOver tables dir cs es db → apply_one tables db m ≡ Err HasChildren
held_fault tables rules dir cs es m typed kind held has db tdb over =
    let before = before_code tables rules dir cs es m typed has db tdb over in
    let at = held.blocked in
    let below = found_below cs es (own_code tables m) held.keys held.under at.0 at.1 in
    let row = some_is (row_over cs es at.0) below.1 in
    let there : row_coded tables db at.0 ≡ Some row.0 = sym (over at.0 (has at.0 (below_in tables rules m typed at.0 below.0))) ∙ row.1 in
    held_applied tables m db kind (some_row (before_in m db) (ap (λ (o : Option (List ℕ)). is_some o) (sym before) ∙ held.there))
    (held_by tables rules m.table m.key typed.0.0 db tdb at.0 row.0 below.0 there at.2)

-- bytes that are no key are on no database
pub stray_nowhere : (tables : List Table) → MeetsRules tables → (dir : List ℕ → Bool) (cs : List KeyVersions) (es : Changes) (m : CheckedMutation) → IsTypedMutation tables m → IsStray tables cs es m → HasDirectory tables dir m
    → (db : List TableRow) → AreTyped tables db → IsOver tables dir cs es db → ⊥
stray_nowhere tables rules dir cs es m typed s has db tdb over =
    let below = found_below cs es (own_code tables m) s.keys s.under s.stray.key s.stray.among in
    let row = some_is (row_over cs es s.stray.key) below.1 in
    let there : row_coded tables db s.stray.key ≡ Some row.0 = sym (over s.stray.key (has s.stray.key (below_in tables rules m typed s.stray.key below.0))) ∙ row.1 in
    let found = row_there tables (IsTyped tables) db s.stray.key row.0 tdb there in
    s.stray.none.none found.0.table found.0.key found.1.0 (sym found.2)
