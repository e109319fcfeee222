-- A mutation that makes a row, on the rows over those that are there now.
use Rattle.std.proofs.Common.{◌≡◌, ◌⊎◌, inl, inr, ℕ, ◌≤◌, ◌<◌, ◌^◌, Bool, true, false, not, ◌||◌, ◌&&◌, cond, List, [], ◌∷◌, ◌++◌, Option, Some, None, is_some, is_none, Result, Ok, Err, length, take, drop, refl, sym, ap, subst, ◌∙◌, arith, append_assoc, zero, suc, Bor}
use Rattle.std.specs.Prelude.{nat_lt, IfSome, MatchResult}
use Rattle.std.specs.Option.{option_copied, unwrap_or}
use Rattle.span_value.specs.declared.value.Value.{Value}
use Rattle.span_value.specs.declared.refusal.Refusal.{Refusal}
use Rattle.span_value.specs.declared.refusal.Refusal.TheVariants.{OutOfMemory, Exists, Missing, ParentMissing, HasChildren, RowTooLong}
use Rattle.span_value.specs.Results.{first_cause}
use Rattle.span_schema.specs.declared.table.Table.{Table}
use Rattle.span_schema.specs.Lineages.{MeetsRules}
use Rattle.span_schema.specs.Numbers.{key_columns, other_kinds, parent_of, root_of}
use Rattle.span_keycode.specs.Keys.{key_code, IsKey}
use Rattle.span_rowcode.specs.Rows.{AreCells, IsRow, row_code}
use Rattle.span_rowcode.specs.Limits.{longest_row}
use Rattle.span_rowcode.proofs.RowReads.{one_row}
use Rattle.span_mutate.specs.declared.mutation.CheckedMutation.{CheckedMutation}
use Rattle.span_mutate.specs.declared.mutation.MutationKind.{MutationKind}
use Rattle.span_mutate.specs.declared.mutation.MutationKind.TheVariants.{Insert, Update, InsertOrUpdate, Delete}
use Rattle.span_mutate.specs.declared.row.TableRow.{TableRow}
use Rattle.span_mutate.specs.Kinds.{is_delete}
use Rattle.span_mutate.specs.Database.{unless}
use Rattle.span_mutate.specs.Rows.{row_at, with_row}
use Rattle.span_mutate.specs.Database.{is_insert, is_update, lacks_parent, is_delete_blocked, merge_cells, cells_of, cells_after, row_after, changed, without_rows, apply_one}
use Rattle.span_mutate.specs.Directories.{IsDatabase, key_len}
use Rattle.span_mutate.specs.Faults.{is_mutation_fault}
use Rattle.span_mutate.specs.Typed.{IsTyped, AreTyped, IsTypedMutation}
use Rattle.span_mutate.proofs.TypedRows.{IsTypedOf, found_typed, over_none, over_typed}
use Rattle.span_maderows.specs.Made.{begins_with}
use Rattle.span_maderows.proofs.Bytes.{begins_front, front_begins}
use Rattle.span_store.specs.KeyVersions.{KeyVersions}
use Rattle.span_shard.specs.Rows.{row_coded, root_code}
use Rattle.span_store.specs.KeyLists.{row_now}
use Rattle.span_keycode.specs.Order.{is_same}
use Rattle.span_shard.specs.Overlay.{Changes, changed_at, row_over, own_code, row_before, lacks_parent_over, put_cause, cause_over, AreCellsOf, IsUnpacked, IsPutRow, IsPutFault, IsNoPut, IsOver, HasDirectory, IsTableRow, AreTableRows, IsRunOf}
use Rattle.span_mutate.proofs.Begins.{front_of_taken, taken_begins}
use Rattle.std.proofs.lemmas.Bool.{and_from, eq-eqb, ltb-false, le-ltb, lt-ltb, or_right, or_left}
use Rattle.span_keycode.proofs.Order.{same_bytes, bytes_same}
use Rattle.span_mutate.proofs.ByRoots.{in_own}
use Rattle.span_mutate.proofs.Families.{parent_family, root_short}
use Rattle.span_mutate.proofs.Causes.{rest_none, first_none}
use Rattle.span_shard.proofs.Touching.{touched_by}
use Rattle.span_shard.proofs.OverRows.{cells, row_at_code, put_there, put_elsewhere, parent_key}

-- ---- keys of a directory

-- a mutation's own key is in its directory
pub own_begins : (tables : List Table) → MeetsRules tables → (m : CheckedMutation) → IsKey tables m.table m.key → begins_with (own_code tables m) (root_code tables m) ≡ true
own_begins tables rules m k = touched_by tables rules m k m.table m.key k ∙ in_own tables m.table m.key

-- what begins with bytes that begin with others begins with those
pub begins_on : (k p q : List ℕ) → begins_with k p ≡ true → begins_with p q ≡ true → begins_with k q ≡ true
begins_on k p q e f =
    let one = begins_front k p e in
    let two = begins_front p q f in
    ap (λ (l : List ℕ). begins_with l q) (sym one ∙ ap (λ (l : List ℕ). l ++ drop (length p) k) (sym two) ∙ append_assoc q (drop (length q) p) (drop (length p) k)) ∙ front_begins q (drop (length q) p ++ drop (length p) k)

-- so is the key of its parent row
parent_begins : (tables : List Table) → MeetsRules tables → (m : CheckedMutation) → IsTypedMutation tables m → (p : ℕ) → parent_of tables m.table ≡ Some p
    → begins_with (key_code tables p (take (length (key_columns tables p)) m.key)) (root_code tables m) ≡ true
parent_begins tables rules m typed p e =
    let at = parent_key tables rules m.table m.key typed.0 p e in
    let family = parent_family tables m.table p typed.0.0.0 e in
    touched_by tables rules m typed.0.0 p (take (length (key_columns tables p)) m.key) at.is.0
    ∙ and_from _ _ (eq-eqb (root_of tables p) (root_of tables m.table) family.1)
    (front_of_taken (take (key_len tables (root_of tables m.table)) m.key) m.key (length (key_columns tables p)) (taken_begins m.key (key_len tables (root_of tables m.table))) short)
  where
    short : length (take (key_len tables (root_of tables m.table)) m.key) ≤ length (key_columns tables p)
    short =
        let family = parent_family tables m.table p typed.0.0.0 e in
        let root = root_short tables rules p family.0 in
        let named : key_len tables (root_of tables p) ≡ key_len tables (root_of tables m.table) = ap (key_len tables) family.1 in
        let most = length-take_most (key_len tables (root_of tables m.table)) m.key in
        omega (arith, root, named, most)
      where
        length-take_most : (n : ℕ) (vs : List Value) → length (take n vs) ≤ n
        length-take_most zero vs = omega arith
        length-take_most (suc n) [] = omega arith
        length-take_most (suc n) (v ∷ vs) = let again = length-take_most n vs in omega (arith, again)

-- ---- the cells that were there

-- the row of a database at a mutation's key
abbrev pub before_in : CheckedMutation → List TableRow → Option TableRow
before_in m db = row_at m.table m.key db

pub before_code : (tables : List Table) → MeetsRules tables → (dir : List ℕ → Bool) (cs : List KeyVersions) (es : Changes) (m : CheckedMutation) → IsTypedMutation tables m → HasDirectory tables dir m → (db : List TableRow) → AreTyped tables db
    → IsOver tables dir cs es db → row_before tables cs es m ≡ cells (before_in m db)
before_code tables rules dir cs es m typed has db tdb over =
    over (own_code tables m) (has (own_code tables m) (own_begins tables rules m typed.0.0)) ∙ sym (row_at_code tables rules m.table m.key typed.0.0 db tdb)

short : (n : ℕ) → n ≤ longest_row → n < 2 ^ 32
short n h = omega arith

-- cells of one packed row are the same
pub one_cells : (tables : List Table) (n : ℕ) (o : Option (List ℕ)) (vs ws : List Value) → AreCellsOf tables n o vs → AreCellsOf tables n o ws → vs ≡ ws
one_cells tables n None vs ws h g = h ∙ sym g
one_cells tables n (Some row) vs ws h g = one_row (other_kinds tables n) vs ws h.0.0 g.0.0 (short (length (row_code vs)) h.0.1) (sym h.1 ∙ g.1)

-- the cells of a database's row are those of the bytes
pub own_cells : (tables : List Table) (m : CheckedMutation) (db : List TableRow) → AreTyped tables db → AreCellsOf tables m.table (cells (before_in m db)) (cells_of (before_in m db))
own_cells tables m db tdb = of_row (before_in m db) (found_typed tables m.table m.key db tdb)
  where
    of_row : (o : Option TableRow) → IfSome o (IsTypedOf tables m.table) → AreCellsOf tables m.table (cells o) (cells_of o)
    of_row None h = refl
    of_row (Some r) h = (subst (λ (n : ℕ). IsRow (other_kinds tables n) r.cells) h.0 h.1.1, refl)

some_cells : (o : Option TableRow) → is_some (cells o) ≡ is_some o
some_cells None = refl
some_cells (Some r) = refl

-- ---- the causes

same_lacking : (tables : List Table) → MeetsRules tables → (dir : List ℕ → Bool) (cs : List KeyVersions) (es : Changes) (m : CheckedMutation) → IsTypedMutation tables m → HasDirectory tables dir m → (db : List TableRow) → AreTyped tables db
    → IsOver tables dir cs es db → lacks_parent_over tables cs es (parent_of tables m.table) m.key ≡ lacks_parent tables (parent_of tables m.table) m.key db
same_lacking tables rules dir cs es m typed has db tdb over = of_parent (parent_of tables m.table) refl
  where
    nones : (o : Option TableRow) → is_none (cells o) ≡ is_none o
    nones None = refl
    nones (Some r) = refl

    of_parent : (o : Option ℕ) → parent_of tables m.table ≡ o → lacks_parent_over tables cs es o m.key ≡ lacks_parent tables o m.key db
    of_parent None e = refl
    of_parent (Some p) e =
        let us = take (length (key_columns tables p)) m.key in
        let at = parent_key tables rules m.table m.key typed.0 p e in
        ap (λ (o : Option (List ℕ)). is_none o)
        (over (key_code tables p us) (has (key_code tables p us) (parent_begins tables rules m typed p e)) ∙ sym (row_at_code tables rules p us at.is.0 db tdb))
        ∙ nones (row_at p us db)

-- of a mutation that makes a row, the causes that hold for others don't count
put_causes : (k : MutationKind) (s n l b t : Bool) → n ≡ not s → is_delete k ≡ false
    → first_cause ((is_insert k && s, Exists) ∷ (is_update k && n, Missing) ∷ (not (is_delete k) && l, ParentMissing) ∷ (is_delete k && s && b, HasChildren) ∷ (not (is_delete k) && t, RowTooLong) ∷ [])
    ≡ first_cause ((is_insert k && s, Exists) ∷ (is_update k && not s, Missing) ∷ (l, ParentMissing) ∷ (t, RowTooLong) ∷ [])
put_causes Insert s n l b t e f = refl
put_causes Update s n l b t e f = ap (λ (x : Bool). first_cause ((x, Missing) ∷ (l, ParentMissing) ∷ (t, RowTooLong) ∷ [])) e
put_causes InsertOrUpdate s n l b t e f = refl
put_causes Delete s n l b t e f = absurd (let g : true ≡ false = f in cc)

pub none_not : {X : Type 0} (o : Option X) → is_none o ≡ not (is_some o)
none_not None = refl
none_not (Some x) = refl

-- what the mutation does to a database follows from the rows over those that are there now
pub put_applied : (tables : List Table) → MeetsRules tables → (dir : List ℕ → Bool) (cs : List KeyVersions) (es : Changes) (m : CheckedMutation) → IsTypedMutation tables m → is_delete m.kind ≡ false → HasDirectory tables dir m
    → (db : List TableRow) → AreTyped tables db → IsOver tables dir cs es db
    → apply_one tables db m ≡ unless (cause_over tables cs es m (cells_of (before_in m db))) (with_row (key_columns tables m.table) (row_after m (before_in m db)) db)
put_applied tables rules dir cs es m typed kind has db tdb over =
    let b = before_in m db in
    let lacking = lacks_parent tables (parent_of tables m.table) m.key db in
    let long = nat_lt longest_row (length (row_code (cells_after m b))) in
    let put_db = with_row (key_columns tables m.table) (row_after m b) db in
    ap (λ (w : Option Refusal). unless w (changed tables db m b)) (put_causes m.kind (is_some b) (is_none b) lacking (is_delete_blocked tables m.table m.key db) long (none_not b) kind)
    ∙ ap (λ (d : Bool). unless (put_cause m (is_some b) lacking (cells_of b)) (cond d (without_rows tables m.table m.key b db) put_db)) kind
    ∙ ap (λ (s : Bool). unless (put_cause m s lacking (cells_of b)) put_db) (sym (some_cells b) ∙ ap (λ (o : Option (List ℕ)). is_some o) (sym (before_code tables rules dir cs es m typed has db tdb over)))
    ∙ ap (λ (l : Bool). unless (put_cause m (is_some (row_before tables cs es m)) l (cells_of b)) put_db) (sym (same_lacking tables rules dir cs es m typed has db tdb over))

-- the cells that were there are those of a database's row
cells_there : (tables : List Table) → MeetsRules tables → (dir : List ℕ → Bool) (cs : List KeyVersions) (es : Changes) (m : CheckedMutation) → IsTypedMutation tables m → HasDirectory tables dir m → (db : List TableRow) → AreTyped tables db
    → IsOver tables dir cs es db → AreCellsOf tables m.table (row_before tables cs es m) (cells_of (before_in m db))
cells_there tables rules dir cs es m typed has db tdb over =
    subst (λ (o : Option (List ℕ)). AreCellsOf tables m.table o (cells_of (before_in m db))) (sym (before_code tables rules dir cs es m typed has db tdb over)) (own_cells tables m db tdb)

pub put_fault : (tables : List Table) → MeetsRules tables → (dir : List ℕ → Bool) (cs : List KeyVersions) (es : Changes) (m : CheckedMutation) (why : Refusal) → IsTypedMutation tables m → is_delete m.kind ≡ false → IsPutFault tables cs es m why → HasDirectory tables dir m
    → (db : List TableRow) → AreTyped tables db → IsOver tables dir cs es db → apply_one tables db m ≡ Err why
put_fault tables rules dir cs es m why typed kind fault has db tdb over =
    put_applied tables rules dir cs es m typed kind has db tdb over
    ∙ ap (λ (w : Option Refusal). unless w (with_row (key_columns tables m.table) (row_after m (before_in m db)) db)) (fault (cells_of (before_in m db)) (cells_there tables rules dir cs es m typed has db tdb over))

-- bytes that are no row are on no database
pub unpacked_nowhere : (tables : List Table) → MeetsRules tables → (dir : List ℕ → Bool) (cs : List KeyVersions) (es : Changes) (m : CheckedMutation) → IsTypedMutation tables m → HasDirectory tables dir m
    → (db : List TableRow) → AreTyped tables db → IsOver tables dir cs es db → IsUnpacked tables m.table (row_before tables cs es m) → ⊥
unpacked_nowhere tables rules dir cs es m typed has db tdb over = cases (row_before tables cs es m) (cells_there tables rules dir cs es m typed has db tdb over)
  where
    cases : (o : Option (List ℕ)) → AreCellsOf tables m.table o (cells_of (before_in m db)) → IsUnpacked tables m.table o → ⊥
    cases None h u = u
    cases (Some row) h u = u.none (cells_of (before_in m db)) h.0 h.1

-- ---- the row that is made

not_long : (m : CheckedMutation) (present lacking : Bool) (old : List Value) → put_cause m present lacking old ≡ None → length (row_code (merge_cells m.cells old)) ≤ longest_row
not_long m present lacking old e =
    let t = nat_lt longest_row (length (row_code (merge_cells m.cells old))) in
    let e1 = rest_none (is_insert m.kind && present) Exists ((is_update m.kind && not present, Missing) ∷ (lacking, ParentMissing) ∷ (t, RowTooLong) ∷ []) e in
    let e2 = rest_none (is_update m.kind && not present) Missing ((lacking, ParentMissing) ∷ (t, RowTooLong) ∷ []) e1 in
    let e3 = rest_none lacking ParentMissing ((t, RowTooLong) ∷ []) e2 in
    ltb-false longest_row (length (row_code (merge_cells m.cells old))) (first_none t RowTooLong [] e3)

-- the row that the mutation makes
abbrev pub made_row : CheckedMutation → List Value → TableRow
made_row m old = record { table = m.table; key = m.key; cells = merge_cells m.cells old }

pub made_typed : (tables : List Table) (cs : List KeyVersions) (es : Changes) (m : CheckedMutation) (row : List ℕ) → IsTypedMutation tables m → (p : IsPutRow tables cs es m row) → IsTyped tables (made_row m p.old)
made_typed tables cs es m row typed p = (typed.0, (of_before (row_before tables cs es m) p.cells, not_long m _ _ p.old p.cause))
  where
    of_before : (o : Option (List ℕ)) → AreCellsOf tables m.table o p.old → AreCells (other_kinds tables m.table) (merge_cells m.cells p.old)
    of_before None h = subst (λ (vs : List Value). AreCells (other_kinds tables m.table) (merge_cells m.cells vs)) (sym h) (over_none (other_kinds tables m.table) m.cells typed.1)
    of_before (Some r) h = over_typed (other_kinds tables m.table) m.cells p.old typed.1 h.0.0

-- the changes with the row at the mutation's key
abbrev pub HasPut : List Table → CheckedMutation → List ℕ → Changes → Changes → Type 0
HasPut tables m row es fs = (k : List ℕ) → changed_at fs k ≡ cond (is_same (own_code tables m) k) (Some (Some row)) (changed_at es k)

pub put_run : (tables : List Table) → MeetsRules tables → (cs : List KeyVersions) (es fs : Changes) (m : CheckedMutation) (row : List ℕ) → IsTypedMutation tables m → is_delete m.kind ≡ false → AreTableRows tables es → IsPutRow tables cs es m row
    → HasPut tables m row es fs → IsRunOf tables cs m es fs
put_run tables rules cs es fs m row typed kind made p has_put = record { rows = rows; here = here; applied = applied }
  where
    code : List ℕ
    code = own_code tables m

    made_is : IsTyped tables (made_row m p.old)
    made_is = made_typed tables cs es m row typed p

    rows : AreTableRows tables fs
    rows k bytes e = by_code (is_same code k) refl
      where
        by_code : (b : Bool) → is_same code k ≡ b → IsTableRow tables k bytes
        by_code true f =
            let same : Some (Some row) ≡ Some (Some bytes) = sym (ap (λ (b : Bool). cond b (Some (Some row)) (changed_at es k)) f) ∙ sym (has_put k) ∙ e in
            record { of = made_row m p.old; typed = made_is; key_is = sym (same_bytes code k f); row_is = (let g : bytes ≡ row = cc in g) ∙ p.is }
        by_code false f = made k bytes (sym (has_put k ∙ ap (λ (b : Bool). cond b (Some (Some row)) (changed_at es k)) f) ∙ e)

    here : (k : List ℕ) → is_some (changed_at fs k) ≡ true → (is_some (changed_at es k) || begins_with k (root_code tables m)) ≡ true
    here k e = by_code (is_same code k) refl
      where
        by_code : (b : Bool) → is_same code k ≡ b → (is_some (changed_at es k) || begins_with k (root_code tables m)) ≡ true
        by_code true f = or_right (is_some (changed_at es k)) (begins_with k (root_code tables m)) (ap (λ (l : List ℕ). begins_with l (root_code tables m)) (sym (same_bytes code k f)) ∙ own_begins tables rules m typed.0.0)
        by_code false f =
            or_left (is_some (changed_at es k)) (begins_with k (root_code tables m))
            (ap (λ (o : Option (Option (List ℕ))). is_some o) (sym (has_put k ∙ ap (λ (b : Bool). cond b (Some (Some row)) (changed_at es k)) f)) ∙ e)

    applied : (dir : List ℕ → Bool) → HasDirectory tables dir m → (db : List TableRow) → IsDatabase tables db → AreTyped tables db → IsOver tables dir cs es db
        → (next : List TableRow) × (apply_one tables db m ≡ Ok next) × IsOver tables dir cs fs next
    applied dir has db is tdb over = (
      with_row (key_columns tables m.table) (row_after m (before_in m db)) db,
      put_applied tables rules dir cs es m typed kind has db tdb over
          ∙ ap (λ (vs : List Value). unless (cause_over tables cs es m vs) (with_row (key_columns tables m.table) (row_after m (before_in m db)) db)) (sym old)
          ∙ ap (λ (w : Option Refusal). unless w (with_row (key_columns tables m.table) (row_after m (before_in m db)) db)) p.cause,
      λ k g. by_code k g (is_same code k) refl,
    )
      where
        old : p.old ≡ cells_of (before_in m db)
        old = one_cells tables m.table (row_before tables cs es m) p.old (cells_of (before_in m db)) p.cells (cells_there tables rules dir cs es m typed has db tdb over)

        after : made_row m p.old ≡ row_after m (before_in m db)
        after = ap (made_row m) old

        typed_after : IsTyped tables (row_after m (before_in m db))
        typed_after = subst (IsTyped tables) after made_is

        packed : row ≡ row_code (row_after m (before_in m db)).cells
        packed = p.is ∙ ap (λ (vs : List Value). row_code (merge_cells m.cells vs)) old

        turned : (k l : List ℕ) (b : Bool) → is_same k l ≡ b → is_same l k ≡ b
        turned k l true f = bytes_same l k (sym (same_bytes k l f))
        turned k l false f = no (is_same l k) refl
          where
            no : (b : Bool) → is_same l k ≡ b → is_same l k ≡ false
            no true g = absurd (let i : true ≡ false = sym (bytes_same k l (sym (same_bytes l k g))) ∙ f in cc)
            no false g = g

        by_code : (k : List ℕ) → dir k ≡ true → (b : Bool) → is_same code k ≡ b → row_over cs fs k ≡ row_coded tables (with_row (key_columns tables m.table) (row_after m (before_in m db)) db) k
        by_code k g true f =
            ap (λ (o : Option (Option (List ℕ))). unwrap_or o (row_now cs k)) (has_put k ∙ ap (λ (b : Bool). cond b (Some (Some row)) (changed_at es k)) f)
            ∙ ap Some packed
            ∙ sym (put_there tables rules (row_after m (before_in m db)) typed_after db tdb k (turned code k true f))
        by_code k g false f =
            ap (λ (o : Option (Option (List ℕ))). unwrap_or o (row_now cs k)) (has_put k ∙ ap (λ (b : Bool). cond b (Some (Some row)) (changed_at es k)) f)
            ∙ over k g
            ∙ sym (put_elsewhere tables (row_after m (before_in m db)) db is.0 k (turned code k false f))

-- ---- the answer of what makes the row

causes_none : (a b c d : Bool) → a ≡ false → b ≡ false → c ≡ false → d ≡ false → first_cause ((a, Exists) ∷ (b, Missing) ∷ (c, ParentMissing) ∷ (d, RowTooLong) ∷ []) ≡ None
causes_none a b c d e f g h =
    ap (λ (x : Bool). first_cause ((x, Exists) ∷ (b, Missing) ∷ (c, ParentMissing) ∷ (d, RowTooLong) ∷ [])) e
    ∙ ap (λ (x : Bool). first_cause ((x, Missing) ∷ (c, ParentMissing) ∷ (d, RowTooLong) ∷ [])) f
    ∙ ap (λ (x : Bool). first_cause ((x, ParentMissing) ∷ (d, RowTooLong) ∷ [])) g
    ∙ ap (λ (x : Bool). first_cause ((x, RowTooLong) ∷ [])) h

causes_long : (a b c d : Bool) → a ≡ false → b ≡ false → c ≡ false → d ≡ true → first_cause ((a, Exists) ∷ (b, Missing) ∷ (c, ParentMissing) ∷ (d, RowTooLong) ∷ []) ≡ Some RowTooLong
causes_long a b c d e f g h =
    ap (λ (x : Bool). first_cause ((x, Exists) ∷ (b, Missing) ∷ (c, ParentMissing) ∷ (d, RowTooLong) ∷ [])) e
    ∙ ap (λ (x : Bool). first_cause ((x, Missing) ∷ (c, ParentMissing) ∷ (d, RowTooLong) ∷ [])) f
    ∙ ap (λ (x : Bool). first_cause ((x, ParentMissing) ∷ (d, RowTooLong) ∷ [])) g
    ∙ ap (λ (x : Bool). first_cause ((x, RowTooLong) ∷ [])) h

pub some_copied : {X : Type 0} (o : Option (Bor X)) → is_some (option_copied o) ≡ is_some o
some_copied None = refl
some_copied (Some x) = refl

pub put_answer : (tables : List Table) (cs : List KeyVersions) (es : Changes) (m : CheckedMutation) (old : List Value) (present lacking : Bool) → AreCellsOf tables m.table (row_before tables cs es m) old
    → is_some (row_before tables cs es m) ≡ present → lacks_parent_over tables cs es (parent_of tables m.table) m.key ≡ lacking
    → (is_insert m.kind && present) ≡ false → (is_update m.kind && not present) ≡ false → lacking ≡ false
    → (r : Result (List ℕ) Refusal)
    → MatchResult r
    (λ row. (row ≡ row_code (merge_cells m.cells old)) × (length (row_code (merge_cells m.cells old)) ≤ longest_row))
    (λ why. ((why ≡ RowTooLong) × (longest_row < length (row_code (merge_cells m.cells old)))) ⊎ (why ≡ OutOfMemory))
    → MatchResult r (IsPutRow tables cs es m) (IsNoPut tables cs es m)
put_answer tables cs es m old present lacking are some lacks insert update parent = answer
  where
    same : (vs : List Value) → cause_over tables cs es m vs ≡ put_cause m present lacking vs
    same vs =
        ap (λ (b : Bool). put_cause m b (lacks_parent_over tables cs es (parent_of tables m.table) m.key) vs) some
        ∙ ap (λ (b : Bool). put_cause m present b vs) lacks

    long : Bool
    long = nat_lt longest_row (length (row_code (merge_cells m.cells old)))

    answer : (r : Result (List ℕ) Refusal)
        → MatchResult r
        (λ row. (row ≡ row_code (merge_cells m.cells old)) × (length (row_code (merge_cells m.cells old)) ≤ longest_row))
        (λ why. ((why ≡ RowTooLong) × (longest_row < length (row_code (merge_cells m.cells old)))) ⊎ (why ≡ OutOfMemory))
        → MatchResult r (IsPutRow tables cs es m) (IsNoPut tables cs es m)
    answer (Ok row) h = record {
      old = old;
      cells = are;
      cause = same old ∙ causes_none (is_insert m.kind && present) (is_update m.kind && not present) lacking long insert update parent (le-ltb longest_row (length (row_code (merge_cells m.cells old))) h.1);
      is = h.0;
    }
    answer (Err why) h = elim h [
      | inl g ↦ inr (inl (
        ap is_mutation_fault g.0,
        λ vs other.
            ap (cause_over tables cs es m) (one_cells tables m.table (row_before tables cs es m) vs old other are)
            ∙ same old
            ∙ causes_long (is_insert m.kind && present) (is_update m.kind && not present) lacking long insert update parent (lt-ltb longest_row (length (row_code (merge_cells m.cells old))) g.1)
            ∙ ap Some (sym g.0),
      ))
      | inr g ↦ inl g
    ]
