-- Mutations one after another, and what is written after them.
use Rattle.std.proofs.Common.{◌≡◌, ◌≢◌, inl, inr, ℕ, ◌+◌, ◌<◌, ◌≤◌, zero, suc, Bool, true, false, not, ◌||◌, ◌&&◌, cond, List, [], ◌∷◌, ◌++◌, Option, Some, None, is_some, Result, Ok, Err, length, take, drop, get_or, refl, sym, ap, subst, ◌∙◌, arith}
use Rattle.std.specs.List.{find, list_any}
use Rattle.std.specs.Option.{unwrap_or}
use Rattle.std.specs.Str.{bytes_eq}
use Rattle.std.proofs.lemmas.List.{drop_all}
use Rattle.std.proofs.lemmas.Slice.Eq.{bytes_eq-Decides}
use Rattle.std.proofs.lemmas.Bool.{not-false, and_parts, or_left, or_right, not-true}
use Rattle.span_value.specs.declared.value.Value.{Value}
use Rattle.span_value.specs.declared.refusal.Refusal.{Refusal}
use Rattle.span_value.specs.declared.refusal.Refusal.TheVariants.{OutOfMemory, BadKey, BadRow}
use Rattle.span_value.proofs.Lists.{all_append, all_weaker, drop_read, all_at}
use Rattle.span_schema.specs.declared.table.Table.{Table}
use Rattle.span_schema.specs.Lineages.{MeetsRules}
use Rattle.span_schema.specs.Numbers.{other_kinds}
use Rattle.span_keycode.specs.Keys.{key_code, IsCodedKey}
use Rattle.span_keycode.proofs.KeyLaws.{one_key}
use Rattle.span_rowcode.specs.Rows.{IsRow, IsNoRow}
use Rattle.span_mutate.specs.declared.mutation.CheckedMutation.{CheckedMutation}
use Rattle.span_mutate.specs.declared.row.TableRow.{TableRow}
use Rattle.span_mutate.specs.Kinds.{is_delete}
use Rattle.span_mutate.specs.Database.{blocks_delete, apply}
use Rattle.span_mutate.specs.Directories.{IsDatabase}
use Rattle.span_mutate.specs.Touched as rows
use Rattle.span_mutate.specs.Touched.{IsSameOutcome}
use Rattle.span_mutate.specs.Typed.{AreTyped, IsTypedMutation, AreTypedMutations}
use Rattle.span_mutate.proofs.Local.{step_database}
use Rattle.span_mutate.proofs.Runs.{run_on, run_faults}
use Rattle.span_mutate.proofs.TouchedRows.{touched_alone}
use Rattle.span_mutate.proofs.TypedRows.{step_typed, typed_stay}
use Rattle.span_maderows.specs.Made.{begins_with, made_at}
use Rattle.span_store.specs.declared.write.Write.{Write}
use Rattle.span_store.specs.KeyVersions.{KeyVersions}
use Rattle.span_shard.specs.Writes.{IsWrite, is_of}
use Rattle.span_shard.specs.Rows.{row_coded, root_code, is_touched}
use Rattle.span_store.specs.KeyLists.{row_now}
use Rattle.span_shard.specs.Shard.{IsNow}
use Rattle.span_shard.specs.Reading.{is_same_row, is_prepare_refusal, AreUnreadable, IsPrepareRefusal, IsFault, AreWrites}
use Rattle.span_keycode.specs.Order.{is_same}
use Rattle.span_keycode.proofs.Order.{same_bytes, bytes_same}
use Rattle.span_shard.specs.Overlay.{Changes, changed_at, own_code, row_before, IsUnpacked, IsStray, IsOver, HasDirectory, IsTableRow, AreTableRows, IsNoPut, IsNoDelete, BlocksDelete, IsRunOf, IsRunFault, AreRunsOf, AreCleared, change_of, changes_of, write_new, write_if, write_at, IsWrittenAt, AreWrittenFrom, AreWritesAt}
use Rattle.span_shard.proofs.Touching.{typed_keyed}
use Rattle.span_shard.proofs.Databases.{untouched_there}
use Rattle.span_shard.proofs.Refused.{fault_number}
use Rattle.span_shard.proofs.RunPuts.{own_begins, put_fault, unpacked_nowhere}
use Rattle.span_shard.proofs.RunDeletes.{IsBelow, found_below, below_in, held_fault, stray_nowhere}

or_false : (b : Bool) → (b || false) ≡ true → b ≡ true
or_false true e = refl
or_false false e = e

-- ---- bytes that are no row

pub unpacked_number : (tables : List Table) → MeetsRules tables → (cs : List KeyVersions) (es : Changes) (m : CheckedMutation) → IsTypedMutation tables m → AreTableRows tables es → IsUnpacked tables m.table (row_before tables cs es m)
    → AreUnreadable tables (m ∷ []) cs BadRow
unpacked_number tables rules cs es m typed made = of_change (changed_at es code) refl
  where
    code : List ℕ
    code = own_code tables m

    no_row : (row : List ℕ) → IsNoRow (other_kinds tables m.table) row → IsTableRow tables code row → ⊥
    no_row row none t =
        let same = one_key tables rules m.table t.of.table m.key t.of.key typed.0.0 t.typed.0.0 t.key_is in
        none.none t.of.cells (subst (λ (n : ℕ). IsRow (other_kinds tables n) t.of.cells) (sym same.0) t.typed.1) t.row_is

    of_now : (o : Option (List ℕ)) → row_now cs code ≡ o → IsUnpacked tables m.table o → AreUnreadable tables (m ∷ []) cs BadRow
    of_now None e u = absurd u
    of_now (Some row) e u = record {
      key = code;
      row = row;
      touched = ap (λ (b : Bool). b || false) (own_begins tables rules m typed.0.0);
      now = e;
      unread = record { none = λ r tr f g. no_row row u (record { of = r; typed = tr; key_is = f; row_is = g }) };
      number = inr refl;
    }

    of_change : (o : Option (Option (List ℕ))) → changed_at es code ≡ o → IsUnpacked tables m.table (unwrap_or o (row_now cs code)) → AreUnreadable tables (m ∷ []) cs BadRow
    of_change None e u = of_now (row_now cs code) refl u
    of_change (Some None) e u = absurd u
    of_change (Some (Some row)) e u = absurd (no_row row u (made code row e))

pub stray_number : (tables : List Table) → MeetsRules tables → (cs : List KeyVersions) (es : Changes) (m : CheckedMutation) → IsTypedMutation tables m → AreTableRows tables es → IsStray tables cs es m → AreUnreadable tables (m ∷ []) cs BadKey
stray_number tables rules cs es m typed made s = of_change (changed_at es k) refl below.1
  where
    k : List ℕ
    k = s.stray.key

    below : IsBelow cs es (own_code tables m) s.stray.key
    below = found_below cs es (own_code tables m) s.keys s.under s.stray.key s.stray.among

    of_now : (o : Option (List ℕ)) → row_now cs k ≡ o → is_some o ≡ true → AreUnreadable tables (m ∷ []) cs BadKey
    of_now None e u = absurd (let f : false ≡ true = u in cc)
    of_now (Some row) e u = record {
      key = k;
      row = row;
      touched = ap (λ (b : Bool). b || false) (below_in tables rules m typed k below.0);
      now = e;
      unread = record { none = λ r tr f g. s.stray.none.none r.table r.key tr.0 f };
      number = inl refl;
    }

    of_change : (o : Option (Option (List ℕ))) → changed_at es k ≡ o → is_some (unwrap_or o (row_now cs k)) ≡ true → AreUnreadable tables (m ∷ []) cs BadKey
    of_change None e u = of_now (row_now cs k) refl u
    of_change (Some None) e u = absurd (let f : false ≡ true = u in cc)
    of_change (Some (Some row)) e u = let t = made k row e in absurd (s.stray.none.none t.of.table t.of.key t.typed.0 t.key_is)

-- ---- why a mutation is refused

pub memory_refused : (tables : List Table) (cs : List KeyVersions) (m : CheckedMutation) (es : Changes) (why : Refusal) → why ≡ OutOfMemory → IsRunFault tables cs m es why
memory_refused tables cs m es why e = record { fault = λ dir has db is tdb over. inl e; number = inl (ap is_prepare_refusal e) }

pub put_refused : (tables : List Table) → MeetsRules tables → (cs : List KeyVersions) (es : Changes) (m : CheckedMutation) (why : Refusal) → IsTypedMutation tables m → is_delete m.kind ≡ false → AreTableRows tables es → IsNoPut tables cs es m why
    → IsRunFault tables cs m es why
put_refused tables rules cs es m why typed kind made h = elim h [
  | inl e ↦ memory_refused tables cs m es why e
  | inr other ↦ elim other [
    | inl g ↦ record { fault = λ dir has db is tdb over. inr (put_fault tables rules dir cs es m why typed kind g.1 has db tdb over); number = inl (fault_number why g.0) }
    | inr g ↦ record {
      fault = λ dir has db is tdb over. absurd (unpacked_nowhere tables rules dir cs es m typed has db tdb over g.1);
      number = inr (subst (AreUnreadable tables (m ∷ []) cs) (sym g.0) (unpacked_number tables rules cs es m typed made g.1));
    }
  ]
]

pub delete_refused : (tables : List Table) → MeetsRules tables → (cs : List KeyVersions) (es : Changes) (m : CheckedMutation) (why : Refusal) → IsTypedMutation tables m → is_delete m.kind ≡ true → AreTableRows tables es → IsNoDelete tables cs es m why
    → IsRunFault tables cs m es why
delete_refused tables rules cs es m why typed kind made h = elim h [
  | inl e ↦ memory_refused tables cs m es why e
  | inr other ↦ elim other [
    | inl g ↦ record { fault = λ dir has db is tdb over. inr (held_fault tables rules dir cs es m typed kind g.1 has db tdb over ∙ ap Err (sym g.0)); number = inl (ap is_prepare_refusal g.0) }
    | inr g ↦ record {
      fault = λ dir has db is tdb over. absurd (stray_nowhere tables rules dir cs es m typed g.1 has db tdb over);
      number = inr (subst (AreUnreadable tables (m ∷ []) cs) (sym g.0) (stray_number tables rules cs es m typed made g.1));
    }
  ]
]

-- whether a key is of a blocking table follows from the key that it codes
pub blocks_by : (tables : List Table) → MeetsRules tables → (n : ℕ) (b : Bool) (k : List ℕ) (t : ℕ) (vs : List Value) → IsCodedKey tables t vs → k ≡ key_code tables t vs → blocks_delete tables n t ≡ b → BlocksDelete tables n b k
blocks_by tables rules n b k t vs coded is blocks m ws other at =
    let same = one_key tables rules t m vs ws coded.0 other.0 (sym is ∙ at) in
    ap (blocks_delete tables n) (sym same.0) ∙ blocks

pub taken_next : {X : Type 0} (xs : List X) (i : ℕ) (x : X) → i < length xs → x ≡ get_or xs i x → take (i + 1) xs ≡ take i xs ++ x ∷ []
taken_next [] i x h e = absurd (omega arith)
taken_next {X} (y ∷ ys) zero x h e = ap (λ (z : X). z ∷ []) (sym e)
taken_next {X} (y ∷ ys) (suc i) x h e =
    let number : suc i + 1 ≡ suc (i + 1) = omega arith in
    ap (λ (j : ℕ). take j (y ∷ ys)) number ∙ ap (λ (l : List X). y ∷ l) (taken_next ys i x (omega arith) e)

-- ---- one after another

-- the first mutations have run
pub record HaveRun (tables : List Table) (ms : List CheckedMutation) (cs : List KeyVersions) (i : ℕ) (es : Changes) : Type 0 where
  pub rows : AreTableRows tables es
  pub cleared : AreCleared cs es
  pub touched : (k : List ℕ) → is_some (changed_at es k) ≡ true → is_touched tables ms k ≡ true
  pub applied : (db : List TableRow) → IsDatabase tables db → AreTyped tables db → IsNow tables ms db cs
      → (now : List TableRow) × (apply tables now (drop i ms) ≡ apply tables db ms) × (IsDatabase tables now × AreTyped tables now) × IsOver tables (is_touched tables ms) cs es now

pub any_at : {X : Type 0} (p : X → Bool) (xs : List X) (i : ℕ) (x : X) → i < length xs → x ≡ get_or xs i x → p x ≡ true → list_any p xs ≡ true
any_at p [] i x h e f = absurd (omega arith)
any_at p (y ∷ ys) zero x h e f = or_left (p y) (list_any p ys) (ap p (sym e) ∙ f)
any_at p (y ∷ ys) (suc i) x h e f = or_right (p y) (list_any p ys) (any_at p ys i x (omega arith) e f)

-- a mutation's directory is among the touched ones
pub has_own : (tables : List Table) (ms : List CheckedMutation) (i : ℕ) (m : CheckedMutation) → i < length ms → m ≡ get_or ms i m → HasDirectory tables (is_touched tables ms) m
has_own tables ms i m h e k f = any_at (λ (n : CheckedMutation). begins_with k (root_code tables n)) ms i m h e f

pub typed_at : (tables : List Table) (ms : List CheckedMutation) (i : ℕ) (m : CheckedMutation) → i < length ms → m ≡ get_or ms i m → AreTypedMutations tables ms → IsTypedMutation tables m
typed_at tables ms i m h e all = subst (IsTypedMutation tables) (sym e) (all_at (IsTypedMutation tables) ms i m h all)

pub one_more : (tables : List Table) (ms : List CheckedMutation) → AreTypedMutations tables ms → (cs : List KeyVersions) (i : ℕ) (m : CheckedMutation) (es fs : Changes) → i < length ms → m ≡ get_or ms i m → HaveRun tables ms cs i es → IsRunOf tables cs m es fs
    → AreCleared cs fs → HaveRun tables ms cs (i + 1) fs
one_more tables ms typed cs i m es fs h e so_far run cleared = record { rows = run.rows; cleared = cleared; touched = touched; applied = applied }
  where
    typed_m : IsTypedMutation tables m
    typed_m = typed_at tables ms i m h e typed

    touched : (k : List ℕ) → is_some (changed_at fs k) ≡ true → is_touched tables ms k ≡ true
    touched k f = either (is_some (changed_at es k)) (begins_with k (root_code tables m)) refl refl (run.here k f)
      where
        either : (a b : Bool) → is_some (changed_at es k) ≡ a → begins_with k (root_code tables m) ≡ b → (a || b) ≡ true → is_touched tables ms k ≡ true
        either true b g j l = so_far.touched k g
        either false b g j l = has_own tables ms i m h e k (j ∙ l)

    applied : (db : List TableRow) → IsDatabase tables db → AreTyped tables db → IsNow tables ms db cs
        → (now : List TableRow) × (apply tables now (drop (i + 1) ms) ≡ apply tables db ms) × (IsDatabase tables now × AreTyped tables now) × IsOver tables (is_touched tables ms) cs fs now
    applied db is tdb now =
        let at = so_far.applied db is tdb now in
        let next = run.applied (is_touched tables ms) (has_own tables ms i m h e) at.0 at.2.0 at.2.1 at.3 in
        let keyed = (typed_keyed tables (m ∷ []) (typed_m, tt)).0 in (
          next.0,
          sym (run_on tables at.0 m (drop (i + 1) ms) next.0 next.1) ∙ ap (apply tables at.0) (sym (drop_read ms i m h e)) ∙ at.1,
          (step_database tables m keyed at.0 at.2.0 next.0 next.1, step_typed tables at.0 m next.0 at.2.1 typed_m next.1),
          next.2,
        )

-- after the last mutation
pub all_run : (tables : List Table) (ms : List CheckedMutation) (cs : List KeyVersions) (i : ℕ) (es : Changes) → length ms ≤ i → HaveRun tables ms cs i es → AreRunsOf tables ms cs es
all_run tables ms cs i es h run = record {
  touched = run.touched;
  applied = λ db is tdb now.
      let at = run.applied db is tdb now in (at.0, sym at.1 ∙ ap (apply tables at.0) (drop_all i ms h), at.3);
}

pub run_fault : (tables : List Table) (ms : List CheckedMutation) (cs : List KeyVersions) (i : ℕ) (m : CheckedMutation) (es : Changes) (why : Refusal) → i < length ms → m ≡ get_or ms i m → HaveRun tables ms cs i es → IsRunFault tables cs m es why
    → IsFault tables ms cs why
run_fault tables ms cs i m es why h e so_far f db is tdb now =
    let at = so_far.applied db is tdb now in
    elim (f.fault (is_touched tables ms) (has_own tables ms i m h e) at.0 at.2.0 at.2.1 at.3) [
      | inl g ↦ inl g
      | inr g ↦ inr (sym at.1 ∙ ap (apply tables at.0) (drop_read ms i m h e) ∙ run_faults tables at.0 m (drop (i + 1) ms) why g)
    ]

pub run_number : (tables : List Table) (ms : List CheckedMutation) (cs : List KeyVersions) (i : ℕ) (m : CheckedMutation) (es : Changes) (why : Refusal) → i < length ms → m ≡ get_or ms i m → IsRunFault tables cs m es why → IsPrepareRefusal tables ms cs why
run_number tables ms cs i m es why h e f = elim f.number [
  | inl g ↦ inl g
  | inr g ↦ inr (record {
    key = g.key;
    row = g.row;
    touched = has_own tables ms i m h e g.key (or_false (begins_with g.key (root_code tables m)) g.touched);
    now = g.now;
    unread = g.unread;
    number = g.number;
  })
]

-- ---- rows that differ

differ : (a b : Option (List ℕ)) → not (is_same_row a b) ≡ true → b ≢ a
differ None None e f = let g : false ≡ true = e in absurd (cc)
differ None (Some b) e f = let g : Some b ≡ None = f in absurd (cc)
differ (Some a) None e f = let g : None ≡ Some a = f in absurd (cc)
differ (Some a) (Some b) e f =
    let same : a ≡ b = (let g : Some b ≡ Some a = f in cc) in
    let yes : bytes_eq a b ≡ true = (bytes_eq-Decides a b).1 same in
    let g : false ≡ true = ap not (sym yes) ∙ e in
    absurd (cc)

equal_rows : (a b : Option (List ℕ)) → not (is_same_row a b) ≡ false → a ≡ b
equal_rows None None e = refl
equal_rows None (Some b) e = absurd (let f : true ≡ false = e in cc)
equal_rows (Some a) None e = absurd (let f : true ≡ false = e in cc)
equal_rows (Some a) (Some b) e = ap Some ((bytes_eq-Decides a b).0 (not-false (bytes_eq a b) e))

-- ---- what is written

found_more : (p : Write → Bool) (ws : List Write) (w : Write) → p w ≡ false → find p (ws ++ w ∷ []) ≡ find p ws
found_more p [] w e = ap (λ (b : Bool). cond b (Some w) None) e
found_more p (v ∷ ws) w e = ap (λ (o : Option Write). cond (p v) (Some v) o) (found_more p ws w e)

found_last : (p : Write → Bool) (ws : List Write) (w : Write) → find p ws ≡ None → p w ≡ true → find p (ws ++ w ∷ []) ≡ Some w
found_last p [] w e f = ap (λ (b : Bool). cond b (Some w) None) f
found_last p (v ∷ ws) w e f = cases (p v) refl e (λ h. found_last p ws w h f)
  where
    cases : (b : Bool) → p v ≡ b → cond b (Some v) (find p ws) ≡ None → (find p ws ≡ None → find p (ws ++ w ∷ []) ≡ Some w) → cond (p v) (Some v) (find p (ws ++ w ∷ [])) ≡ Some w
    cases true g h again = absurd (cc)
    cases false g h again = ap (λ (b : Bool). cond b (Some v) (find p (ws ++ w ∷ []))) g ∙ again h

-- what is left once the last key is taken out
abbrev pub TakesOut : List ℕ → Option (List ℕ) → Changes → Changes → Type 0
TakesOut key row left rest = (changed_at left key ≡ Some row) × ((k : List ℕ) → changed_at rest k ≡ cond (is_same key k) None (changed_at left k))

-- at its key a change was not looked at before
fresh : (cs : List KeyVersions) (es left : Changes) (ws : List Write) (k : List ℕ) (row : Option (List ℕ)) → changed_at left k ≡ Some row → IsWrittenAt cs es left ws k → (changed_at es k ≡ Some row) × (find (is_of k) ws ≡ None)
fresh cs es left ws k row e h = elim h [
  | inl g ↦ (sym g.0 ∙ e, g.1)
  | inr g ↦ absurd (let f : Some row ≡ None = sym e ∙ g.0 in cc)
]

pub written_more : (cs : List KeyVersions) (es left rest : Changes) (ws : List Write) (w : Write) → AreWrittenFrom cs es left ws → TakesOut w.key w.row left rest → not (is_same_row (row_now cs w.key) w.row) ≡ true → AreWrittenFrom cs es rest (ws ++ w ∷ [])
written_more cs es left rest ws w so_far out new = record {
  changed = all_append (λ (v : Write). is_some (changed_at es v.key) ≡ true) ws (w ∷ []) so_far.changed (ap (λ (o : Option (Option (List ℕ))). is_some o) here.0, tt);
  at = λ k. by_key k (is_same w.key k) refl;
}
  where
    here : (changed_at es w.key ≡ Some w.row) × (find (is_of w.key) ws ≡ None)
    here = fresh cs es left ws w.key w.row out.0 (so_far.at w.key)

    differs : is_same_row (row_now cs w.key) w.row ≡ false
    differs = not-true (is_same_row (row_now cs w.key) w.row) new

    by_key : (k : List ℕ) (b : Bool) → is_same w.key k ≡ b → IsWrittenAt cs es rest (ws ++ w ∷ []) k
    by_key k true e =
        let same : w.key ≡ k = same_bytes w.key k e in
        inr (
          out.1 k ∙ ap (λ (b : Bool). cond b None (changed_at left k)) e,
          subst (λ (l : List ℕ). find (is_of l) (ws ++ w ∷ []) ≡ write_at cs es l) same
              (found_last (is_of w.key) ws w here.1 (bytes_same w.key w.key refl)
              ∙ sym (ap (write_if w.key (row_now cs w.key)) here.0 ∙ ap (write_new w.key w.row) differs)),
        )
    by_key k false e = elim (so_far.at k) [
      | inl g ↦ inl (out.1 k ∙ ap (λ (b : Bool). cond b None (changed_at left k)) e ∙ g.0, found_more (is_of k) ws w (other k e) ∙ g.1)
      | inr g ↦ inr (out.1 k ∙ ap (λ (b : Bool). cond b None (changed_at left k)) e ∙ g.0, found_more (is_of k) ws w (other k e) ∙ g.1)
    ]
      where
        other : (k : List ℕ) → is_same w.key k ≡ false → is_of k w ≡ false
        other k f = not-true (is_of k w) refl
          where
            not-true : (b : Bool) → is_of k w ≡ b → is_of k w ≡ false
            not-true true g = absurd (let i : true ≡ false = sym (bytes_same w.key k (sym (same_bytes k w.key g))) ∙ f in cc)
            not-true false g = g

pub written_same : (cs : List KeyVersions) (es left rest : Changes) (ws : List Write) (key : List ℕ) (row : Option (List ℕ)) → AreWrittenFrom cs es left ws → TakesOut key row left rest → not (is_same_row (row_now cs key) row) ≡ false → AreWrittenFrom cs es rest ws
written_same cs es left rest ws key row so_far out old = record { changed = so_far.changed; at = λ k. by_key k (is_same key k) refl }
  where
    here : (changed_at es key ≡ Some row) × (find (is_of key) ws ≡ None)
    here = fresh cs es left ws key row out.0 (so_far.at key)

    same : is_same_row (row_now cs key) row ≡ true
    same = not-false (is_same_row (row_now cs key) row) old

    by_key : (k : List ℕ) (b : Bool) → is_same key k ≡ b → IsWrittenAt cs es rest ws k
    by_key k true e =
        let is : key ≡ k = same_bytes key k e in
        inr (
          out.1 k ∙ ap (λ (b : Bool). cond b None (changed_at left k)) e,
          subst (λ (l : List ℕ). find (is_of l) ws ≡ write_at cs es l) is (here.1 ∙ sym (ap (write_if key (row_now cs key)) here.0 ∙ ap (write_new key row) same)),
        )
    by_key k false e = elim (so_far.at k) [
      | inl g ↦ inl (out.1 k ∙ ap (λ (b : Bool). cond b None (changed_at left k)) e ∙ g.0, g.1)
      | inr g ↦ inr (out.1 k ∙ ap (λ (b : Bool). cond b None (changed_at left k)) e ∙ g.0, g.1)
    ]

-- what is left is the same at every key
written_alike : (cs : List KeyVersions) (es left rest : Changes) (ws : List Write) → AreWrittenFrom cs es left ws → ((k : List ℕ) → changed_at rest k ≡ changed_at left k) → AreWrittenFrom cs es rest ws
written_alike cs es left rest ws so_far alike = record {
  changed = so_far.changed;
  at = λ k. elim (so_far.at k) [
    | inl g ↦ inl (alike k ∙ g.0, g.1)
    | inr g ↦ inr (alike k ∙ g.0, g.1)
  ];
}

-- ---- the rows that were removed

-- one is looked at, where none was made since
removed_taken : (made : List (List ℕ × List ℕ)) (left rest : List (List ℕ)) (key : List ℕ) → list_any (is_same key) left ≡ true → ((k : List ℕ) → list_any (is_same k) rest ≡ cond (is_same key k) false (list_any (is_same k) left)) → made_at made key ≡ None
    → TakesOut key None (changes_of made left) (changes_of made rest)
removed_taken made left rest key among out none = (
  ap (λ (o : Option (List ℕ)). change_of o (list_any (is_same key) left)) none ∙ ap (change_of None) among,
  λ k. ap (change_of (made_at made k)) (out k) ∙ by_key k (is_same key k) refl,
)
  where
    by_key : (k : List ℕ) (b : Bool) → is_same key k ≡ b → change_of (made_at made k) (cond b false (list_any (is_same k) left)) ≡ cond b None (changed_at (changes_of made left) k)
    by_key k true e = ap (λ (o : Option (List ℕ)). change_of o false) (ap (made_at made) (sym (same_bytes key k e)) ∙ none)
    by_key k false e = refl

-- where one was made since, all is left as it was
removed_passed : (made : List (List ℕ × List ℕ)) (left rest : List (List ℕ)) (key row : List ℕ) → ((k : List ℕ) → list_any (is_same k) rest ≡ cond (is_same key k) false (list_any (is_same k) left)) → made_at made key ≡ Some row
    → (k : List ℕ) → changed_at (changes_of made rest) k ≡ changed_at (changes_of made left) k
removed_passed made left rest key row out here k = ap (change_of (made_at made k)) (out k) ∙ by_key (is_same key k) refl
  where
    by_key : (b : Bool) → is_same key k ≡ b → change_of (made_at made k) (cond b false (list_any (is_same k) left)) ≡ change_of (made_at made k) (list_any (is_same k) left)
    by_key true e =
        let there : made_at made k ≡ Some row = ap (made_at made) (sym (same_bytes key k e)) ∙ here in
        ap (λ (o : Option (List ℕ)). change_of o false) there ∙ sym (ap (λ (o : Option (List ℕ)). change_of o (list_any (is_same k) left)) there)
    by_key false e = refl

not_some : (o : Option (List ℕ)) → not (is_some o) ≡ true → o ≡ None
not_some None e = refl
not_some (Some x) e = absurd (let f : false ≡ true = e in cc)

-- it is written
pub removal_more : (cs : List KeyVersions) (es : Changes) (made : List (List ℕ × List ℕ)) (left rest : List (List ℕ)) (ws next : List Write) (w : Write) → w.row ≡ None → next ≡ ws ++ w ∷ [] → list_any (is_same w.key) left ≡ true
    → ((k : List ℕ) → list_any (is_same k) rest ≡ cond (is_same w.key k) false (list_any (is_same k) left)) → (not (is_some (made_at made w.key)) && not (is_same_row (row_now cs w.key) w.row)) ≡ true → AreWrittenFrom cs es (changes_of made left) ws
    → AreWrittenFrom cs es (changes_of made rest) next
removal_more cs es made left rest ws next w gone is among out new so_far =
    let both = and_parts (not (is_some (made_at made w.key))) (not (is_same_row (row_now cs w.key) w.row)) new in
    let taken = removed_taken made left rest w.key among out (not_some (made_at made w.key) both.0) in
    subst (AreWrittenFrom cs es (changes_of made rest)) (sym is)
    (written_more cs es (changes_of made left) (changes_of made rest) ws w so_far (subst (λ (o : Option (List ℕ)). TakesOut w.key o (changes_of made left) (changes_of made rest)) (sym gone) taken) both.1)

-- it is not, since one was made or none is there now
pub removal_none : (cs : List KeyVersions) (es : Changes) (made : List (List ℕ × List ℕ)) (left rest : List (List ℕ)) (ws : List Write) (key : List ℕ) → list_any (is_same key) left ≡ true
    → ((k : List ℕ) → list_any (is_same k) rest ≡ cond (is_same key k) false (list_any (is_same k) left)) → (not (is_some (made_at made key)) && not (is_same_row (row_now cs key) None)) ≡ false → AreWrittenFrom cs es (changes_of made left) ws
    → AreWrittenFrom cs es (changes_of made rest) ws
removal_none cs es made left rest ws key among out old so_far = of_made (made_at made key) refl
  where
    of_made : (o : Option (List ℕ)) → made_at made key ≡ o → AreWrittenFrom cs es (changes_of made rest) ws
    of_made (Some row) e = written_alike cs es (changes_of made left) (changes_of made rest) ws so_far (removed_passed made left rest key row out e)
    of_made None e =
        written_same cs es (changes_of made left) (changes_of made rest) ws key None so_far (removed_taken made left rest key among out e)
        (sym (ap (λ (o : Option (List ℕ)). not (is_some o) && not (is_same_row (row_now cs key) None)) e) ∙ old)

-- ---- the rows that were made

-- the keys from which on down all was removed are no part of what is written
pub written_of : (cs : List KeyVersions) (es left : Changes) (ws : List Write) → AreWrittenFrom cs (changes_of es.made es.removed) left ws → AreWrittenFrom cs es left ws
written_of cs es left ws so_far = record { changed = so_far.changed; at = so_far.at }

-- the rows that are left are those that were made, in another order
pub written_left : (cs : List KeyVersions) (es : Changes) (made left : List (List ℕ × List ℕ)) (ws : List Write) → ((k : List ℕ) → made_at left k ≡ made_at made k) → AreWrittenFrom cs es (changes_of made []) ws → AreWrittenFrom cs es (changes_of left []) ws
written_left cs es made left ws same so_far = written_alike cs es (changes_of made []) (changes_of left []) ws so_far (λ k. ap (λ (o : Option (List ℕ)). change_of o false) (same k))

-- a row that was made is looked at
pub made_taken : (made rest : List (List ℕ × List ℕ)) (key row : List ℕ) → made_at made key ≡ Some row → ((k : List ℕ) → made_at rest k ≡ cond (is_same key k) None (made_at made k)) → TakesOut key (Some row) (changes_of made []) (changes_of rest [])
made_taken made rest key row here out = (
  ap (λ (o : Option (List ℕ)). change_of o false) here,
  λ k. ap (λ (o : Option (List ℕ)). change_of o false) (out k) ∙ cases k (is_same key k),
)
  where
    cases : (k : List ℕ) (b : Bool) → change_of (cond b None (made_at made k)) false ≡ cond b None (change_of (made_at made k) false)
    cases k true = refl
    cases k false = refl

-- ---- on each database

-- the rows of the other directories are as they were
same_rest : (tables : List Table) (ms : List CheckedMutation) (a b : List TableRow) (r s : Result (List TableRow) Refusal) → IsSameOutcome tables ms a b r s → (y : List TableRow) → s ≡ Ok y → rows.untouched tables ms y ≡ rows.untouched tables ms b
same_rest tables ms a b (Ok x) (Ok z) h y e = ap (rows.untouched tables ms) (let f : y ≡ z = cc in f) ∙ h.2
same_rest tables ms a b (Ok x) (Err w) h y e = absurd h
same_rest tables ms a b (Err v) (Ok z) h y e = absurd h
same_rest tables ms a b (Err v) (Err w) h y e = absurd (cc)

pub writes_made : (tables : List Table) → MeetsRules tables → (ms : List CheckedMutation) → AreTypedMutations tables ms → (cs : List KeyVersions) (es : Changes) (ws : List Write) → AreRunsOf tables ms cs es → AreWritesAt cs es ws → AreWrites tables ms cs ws
writes_made tables rules ms typed cs es ws run written = record {
  touched = all_weaker (λ (w : Write). is_some (changed_at es w.key) ≡ true) (λ (w : Write). is_touched tables ms w.key ≡ true) (λ w h. run.touched w.key h) ws written.changed;
  changes = λ db is tdb now. let at = run.applied db is tdb now in (at.0, at.1, λ k. by_touched db is tdb now at.0 at.1 at.2 k (is_touched tables ms k) refl);
}
  where
    by_touched : (db : List TableRow) → IsDatabase tables db → AreTyped tables db → IsNow tables ms db cs → (after : List TableRow) → apply tables db ms ≡ Ok after → IsOver tables (is_touched tables ms) cs es after
        → (k : List ℕ) (t : Bool) → is_touched tables ms k ≡ t → IsWrite k (row_coded tables db k) (row_coded tables after k) (find (is_of k) ws)
    by_touched db is tdb now after e over k true g =
        subst (IsWrite k (row_coded tables db k) (row_coded tables after k)) (sym (written.at k)) (of_change (changed_at es k) refl)
      where
        of_change : (o : Option (Option (List ℕ))) → changed_at es k ≡ o → IsWrite k (row_coded tables db k) (row_coded tables after k) (write_if k (row_now cs k) o)
        of_change None f = sym (over k g) ∙ ap (λ (o : Option (Option (List ℕ))). unwrap_or o (row_now cs k)) f ∙ now k g
        of_change (Some row) f = by_row (is_same_row (row_now cs k) row) refl
          where
            left : row ≡ row_coded tables after k
            left = sym (ap (λ (o : Option (Option (List ℕ))). unwrap_or o (row_now cs k)) f) ∙ over k g

            by_row : (b : Bool) → is_same_row (row_now cs k) row ≡ b → IsWrite k (row_coded tables db k) (row_coded tables after k) (write_new k row b)
            by_row true h = sym left ∙ sym (equal_rows (row_now cs k) row (ap not h)) ∙ now k g
            by_row false h = (refl, left, λ j. differ (row_now cs k) row (ap not h) (left ∙ j ∙ sym (now k g)))
    by_touched db is tdb now after e over k false g =
        subst (IsWrite k (row_coded tables db k) (row_coded tables after k)) (sym (written.at k ∙ ap (write_if k (row_now cs k)) unchanged))
        (sym (untouched_there tables rules ms typed after tafter k g) ∙ ap (λ (l : List TableRow). row_coded tables l k) outside ∙ untouched_there tables rules ms typed db tdb k g)
      where
        unchanged : changed_at es k ≡ None
        unchanged = cases (changed_at es k) refl
          where
            cases : (o : Option (Option (List ℕ))) → changed_at es k ≡ o → changed_at es k ≡ None
            cases None f = f
            cases (Some row) f = absurd (let h : true ≡ false = sym (run.touched k (ap (λ (o : Option (Option (List ℕ))). is_some o) f)) ∙ g in cc)

        tafter : AreTyped tables after
        tafter = typed_stay tables db ms after tdb typed e

        outside : rows.untouched tables ms after ≡ rows.untouched tables ms db
        outside = same_rest tables ms db db (apply tables db ms) (apply tables db ms) (touched_alone tables rules db db ms is is (typed_keyed tables ms typed) refl) after e
