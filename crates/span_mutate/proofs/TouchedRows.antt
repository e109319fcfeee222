-- Apply looks at the touched directories alone, and leaves all other rows.
use Rattle.std.proofs.Common.{◌≡◌, ℕ, Bool, true, false, ◌==◌, ◌||◌, not, cond, List, [], ◌∷◌, Option, Some, None, Result, Ok, Err, refl, sym, ap, ◌∙◌}
use Rattle.std.specs.List.{filter, list_any, AllByRecursion}
use Rattle.std.specs.declared.cmp.Ordering.TheVariants.{Equal}
use Rattle.span_value.specs.declared.value.Value.{Value}
use Rattle.span_value.specs.declared.refusal.Refusal.{Refusal}
use Rattle.span_schema.specs.declared.table.Table.{Table}
use Rattle.span_schema.specs.Lineages.{MeetsRules}
use Rattle.span_value.specs.Results.{first_cause, and_then}
use Rattle.span_schema.specs.Numbers.{key_columns, root_of}
use Rattle.span_mutate.specs.declared.mutation.CheckedMutation.{CheckedMutation}
use Rattle.span_mutate.specs.declared.row.TableRow.{TableRow}
use Rattle.span_mutate.specs.Kinds.{is_delete}
use Rattle.span_mutate.specs.Rows.{begins, row_at, with_row}
use Rattle.span_mutate.specs.Database.{is_at_or_below, tables_under, all_tables, is_under, causes, row_after, without_rows, changed, apply_one, apply}
use Rattle.span_mutate.specs.Directories.{Root, is_in_directory, directory, IsKeyed, AreKeyed, root_row, rows_cmp, IsInOrder, IsDatabase}
use Rattle.span_mutate.specs.Touched.{is_touched, IsSameOutcome, TouchedAlone}
use Rattle.std.proofs.lemmas.Bool.{and_parts, not_from_true, or_right}
use Rattle.span_value.proofs.Lists.{filter_swap}
use Rattle.span_mutate.proofs.Families.{below_root}
use Rattle.span_mutate.proofs.Filters.{filter_within, found_passes}
use Rattle.span_mutate.proofs.Orders.{rows_equal, rows_total}
use Rattle.span_mutate.proofs.Placing.{put_kept, put_lost}
use Rattle.span_mutate.proofs.Local.{with_rows, step_same, step_database, row_same, under_is_of, unless_ok}
use Rattle.span_mutate.proofs.ByRoots.{root_keyed, in_own}

-- a test that passes all keys of the directory of a mutation
abbrev Covers : List Table → (ℕ → List Value → Bool) → CheckedMutation → Type 0
Covers tables q m = (n : ℕ) (key : List Value) → is_in_directory tables (root_row tables m.table m.key) n key ≡ true → q n key ≡ true

abbrev kept : (ℕ → List Value → Bool) → List TableRow → List TableRow
kept q db = filter (λ (r : TableRow). q r.table r.key) db

abbrev others : (ℕ → List Value → Bool) → List TableRow → List TableRow
others q db = filter (λ (r : TableRow). not (q r.table r.key)) db

-- what a mutation makes of the rows that pass is what passes of what it makes of all rows
changed_kept : (tables : List Table) (q : ℕ → List Value → Bool) (m : CheckedMutation) → q m.table m.key ≡ true → (db : List TableRow) (before : Option TableRow)
    → changed tables (kept q db) m before ≡ kept q (changed tables db m before)
changed_kept tables q m h db before = pick (is_delete m.kind)
  where
    removed : (o : Option TableRow) → without_rows tables m.table m.key o (kept q db) ≡ kept q (without_rows tables m.table m.key o db)
    removed None = refl
    removed (Some r) = filter_swap (λ (p : TableRow). not (is_under tables m.table m.key p)) (λ (p : TableRow). q p.table p.key) db

    pick : (b : Bool) → cond b (without_rows tables m.table m.key before (kept q db)) (with_row (key_columns tables m.table) (row_after m before) (kept q db))
        ≡ kept q (cond b (without_rows tables m.table m.key before db) (with_row (key_columns tables m.table) (row_after m before) db))
    pick true = removed before
    pick false = sym (put_kept (rows_cmp tables) (λ (p : TableRow). q p.table p.key) (row_after m before) db h)

-- the rows that don't pass stay
changed_others : (tables : List Table) (q : ℕ → List Value → Bool) (m : CheckedMutation) → Covers tables q m → (db : List TableRow) → IsInOrder tables db → (before : Option TableRow)
    → others q (changed tables db m before) ≡ others q db
changed_others tables q m covers db sorted before = pick (is_delete m.kind)
  where
    own : q m.table m.key ≡ true
    own = covers m.table m.key (in_own tables m.table m.key)

    inside : (p : TableRow) → is_under tables m.table m.key p ≡ true → q p.table p.key ≡ true
    inside p e =
        let parts = and_parts (list_any (λ (k : ℕ). k == p.table) (tables_under tables m.table)) (begins m.key p.key) e in
        let family : root_of tables p.table ≡ root_of tables m.table = below_root tables m.table p.table (found_passes (is_at_or_below tables m.table) p.table (all_tables tables) parts.0) in
        covers p.table p.key (under_is_of tables (root_row tables m.table m.key) m.table m.key (in_own tables m.table m.key) p family parts.1)

    other : (p : TableRow) → not (q p.table p.key) ≡ true → (b : Bool) → is_under tables m.table m.key p ≡ b → not b ≡ true
    other p t false e = refl
    other p t true e = absurd (let g : false ≡ true = sym (not_from_true (q p.table p.key) (inside p e)) ∙ t in cc)

    removed : (o : Option TableRow) → others q (without_rows tables m.table m.key o db) ≡ others q db
    removed None = refl
    removed (Some r) = filter_within (λ (p : TableRow). not (q p.table p.key)) (λ (p : TableRow). not (is_under tables m.table m.key p)) (λ p t. other p t (is_under tables m.table m.key p) refl) db

    lost : (p : TableRow) → rows_cmp tables p (row_after m before) ≡ Equal → not (q p.table p.key) ≡ false
    lost p e =
        let same = rows_equal tables p (row_after m before) e in
        not_from_true (q p.table p.key) (ap (λ (n : ℕ). q n p.key) same.0 ∙ ap (q m.table) same.1 ∙ own)

    pick : (b : Bool) → others q (cond b (without_rows tables m.table m.key before db) (with_row (key_columns tables m.table) (row_after m before) db)) ≡ others q db
    pick true = removed before
    pick false = put_lost (rows_cmp tables) (rows_total tables) (λ (p : TableRow). not (q p.table p.key)) (row_after m before) (not_from_true (q m.table m.key) own) lost db sorted

-- a directory lies within the rows that pass
directory_kept : (tables : List Table) (q : ℕ → List Value → Bool) (m : CheckedMutation) → Covers tables q m → (db : List TableRow)
    → directory tables (root_row tables m.table m.key) (kept q db) ≡ directory tables (root_row tables m.table m.key) db
directory_kept tables q m covers db =
    filter_within (λ (r : TableRow). is_in_directory tables (root_row tables m.table m.key) r.table r.key) (λ (r : TableRow). q r.table r.key) (λ r e. covers r.table r.key e) db

same_directory : (tables : List Table) (q : ℕ → List Value → Bool) (m : CheckedMutation) → Covers tables q m → (a b : List TableRow) → kept q a ≡ kept q b
    → directory tables (root_row tables m.table m.key) a ≡ directory tables (root_row tables m.table m.key) b
same_directory tables q m covers a b e =
    sym (directory_kept tables q m covers a) ∙ ap (directory tables (root_row tables m.table m.key)) e ∙ directory_kept tables q m covers b

-- the outcomes of one mutation on rows that are the same where they pass
abbrev IsSameStep : (ℕ → List Value → Bool) → List TableRow → List TableRow → Result (List TableRow) Refusal → Result (List TableRow) Refusal → Type 0
IsSameStep q a b (Ok x) (Ok y) = (kept q x ≡ kept q y) × (others q x ≡ others q a) × (others q y ≡ others q b)
IsSameStep q a b (Ok x) (Err w) = ⊥
IsSameStep q a b (Err v) (Ok y) = ⊥
IsSameStep q a b (Err v) (Err w) = v ≡ w

same_step : (tables : List Table) → MeetsRules tables → (q : ℕ → List Value → Bool) (m : CheckedMutation) → IsKeyed tables m.table m.key → Covers tables q m → (a b : List TableRow) → IsInOrder tables a → IsInOrder tables b
    → kept q a ≡ kept q b → IsSameStep q a b (apply_one tables a m) (apply_one tables b m)
same_step tables rules q m keyed covers a b in_a in_b e = cases (apply_one tables a m) (apply_one tables b m) refl refl both
  where
    root : Root
    root = root_row tables m.table m.key

    here : directory tables (root_row tables m.table m.key) a ≡ directory tables (root_row tables m.table m.key) b
    here = same_directory tables q m covers a b e

    both : with_rows (directory tables (root_row tables m.table m.key)) (apply_one tables a m) ≡ with_rows (directory tables (root_row tables m.table m.key)) (apply_one tables b m)
    both =
        sym (step_same tables rules (root_row tables m.table m.key) (root_keyed tables rules m.table m.key keyed) m keyed.0 (in_own tables m.table m.key) a)
        ∙ ap (λ (rows : List TableRow). apply_one tables rows m) here
        ∙ step_same tables rules (root_row tables m.table m.key) (root_keyed tables rules m.table m.key keyed) m keyed.0 (in_own tables m.table m.key) b

    before : row_at m.table m.key a ≡ row_at m.table m.key b
    before =
        sym (row_same tables (root_row tables m.table m.key) m.table m.key (in_own tables m.table m.key) a)
        ∙ ap (row_at m.table m.key) here
        ∙ row_same tables (root_row tables m.table m.key) m.table m.key (in_own tables m.table m.key) b

    made : (db x : List TableRow) → apply_one tables db m ≡ Ok x → changed tables db m (row_at m.table m.key db) ≡ x
    made db x f = unless_ok (first_cause (causes tables db m (row_at m.table m.key db))) (changed tables db m (row_at m.table m.key db)) x f

    passing : (db x : List TableRow) → apply_one tables db m ≡ Ok x → kept q x ≡ changed tables (kept q db) m (row_at m.table m.key db)
    passing db x f = ap (kept q) (sym (made db x f)) ∙ sym (changed_kept tables q m (covers m.table m.key (in_own tables m.table m.key)) db (row_at m.table m.key db))

    staying : (db x : List TableRow) → IsInOrder tables db → apply_one tables db m ≡ Ok x → others q x ≡ others q db
    staying db x sorted f = ap (others q) (sym (made db x f)) ∙ changed_others tables q m covers db sorted (row_at m.table m.key db)

    cases : (r s : Result (List TableRow) Refusal) → apply_one tables a m ≡ r → apply_one tables b m ≡ s
        → with_rows (directory tables (root_row tables m.table m.key)) r ≡ with_rows (directory tables (root_row tables m.table m.key)) s → IsSameStep q a b r s
    cases (Ok x) (Ok y) f g h = (
      passing a x f ∙ ap (λ (rows : List TableRow). changed tables rows m (row_at m.table m.key a)) e ∙ ap (changed tables (kept q b) m) before ∙ sym (passing b y g),
      staying a x in_a f,
      staying b y in_b g,
    )
    cases (Ok x) (Err w) f g h = absurd cc
    cases (Err v) (Ok y) f g h = absurd cc
    cases (Err v) (Err w) f g h = cc

-- the outcomes of the rest, with one mutation more in front
later : (q : ℕ → List Value → Bool) (a b x y : List TableRow) → others q x ≡ others q a → others q y ≡ others q b → (r s : Result (List TableRow) Refusal) → IsSameStep q x y r s → IsSameStep q a b r s
later q a b x y e f (Ok u) (Ok v) h = (h.0, h.1 ∙ e, h.2 ∙ f)
later q a b x y e f (Ok u) (Err w) h = absurd h
later q a b x y e f (Err v) (Ok u) h = absurd h
later q a b x y e f (Err v) (Err w) h = h

same_run : (tables : List Table) → MeetsRules tables → (q : ℕ → List Value → Bool) (ms : List CheckedMutation) → AreKeyed tables ms → AllByRecursion (Covers tables q) ms → (a b : List TableRow) → IsDatabase tables a → IsDatabase tables b
    → kept q a ≡ kept q b → IsSameStep q a b (apply tables a ms) (apply tables b ms)
same_run tables rules q [] keyed covers a b is_a is_b e = (e, refl, refl)
same_run tables rules q (m ∷ ms) keyed covers a b is_a is_b e =
    cases (apply_one tables a m) (apply_one tables b m) refl refl (same_step tables rules q m keyed.0 covers.0 a b is_a.0 is_b.0 e)
    (λ x y is_x is_y f. same_run tables rules q ms keyed.1 covers.1 x y is_x is_y f)
  where
    cases : (r s : Result (List TableRow) Refusal) → apply_one tables a m ≡ r → apply_one tables b m ≡ s → IsSameStep q a b r s
        → ((x y : List TableRow) → IsDatabase tables x → IsDatabase tables y → kept q x ≡ kept q y → IsSameStep q x y (apply tables x ms) (apply tables y ms))
        → IsSameStep q a b (and_then r (λ next. apply tables next ms)) (and_then s (λ next. apply tables next ms))
    cases (Ok x) (Ok y) f g h again =
        later q a b x y h.1 h.2 (apply tables x ms) (apply tables y ms)
        (again x y (step_database tables m keyed.0 a is_a x f) (step_database tables m keyed.0 b is_b y g) h.0)
    cases (Ok x) (Err w) f g h again = absurd h
    cases (Err v) (Ok y) f g h again = absurd h
    cases (Err v) (Err w) f g h again = h

-- the touched keys have the directory of each mutation
more_touched : (tables : List Table) (ms : List CheckedMutation) (m : CheckedMutation) (n : ℕ) (key : List Value) → is_touched tables ms n key ≡ true → is_touched tables (m ∷ ms) n key ≡ true
more_touched tables ms m n key e = or_right (is_in_directory tables (root_row tables m.table m.key) n key) (is_touched tables ms n key) e

widened : (tables : List Table) (p q : ℕ → List Value → Bool) → ((n : ℕ) (key : List Value) → p n key ≡ true → q n key ≡ true) → (ms : List CheckedMutation) → AllByRecursion (Covers tables p) ms → AllByRecursion (Covers tables q) ms
widened tables p q wider [] h = tt
widened tables p q wider (m ∷ ms) h = ((λ n key e. wider n key (h.0 n key e)), widened tables p q wider ms h.1)

pub all_covered : (tables : List Table) (ms : List CheckedMutation) → AllByRecursion (Covers tables (is_touched tables ms)) ms
all_covered tables [] = tt
all_covered tables (m ∷ ms) = (
  (λ n key e. ap (λ (b : Bool). b || is_touched tables ms n key) e),
  widened tables (is_touched tables ms) (is_touched tables (m ∷ ms)) (more_touched tables ms m) ms (all_covered tables ms),
)

pub touched_alone : TouchedAlone
touched_alone tables rules a b ms is_a is_b keyed e =
    outcome (apply tables a ms) (apply tables b ms) (same_run tables rules (is_touched tables ms) ms keyed (all_covered tables ms) a b is_a is_b e)
  where
    outcome : (r s : Result (List TableRow) Refusal) → IsSameStep (is_touched tables ms) a b r s → IsSameOutcome tables ms a b r s
    outcome (Ok x) (Ok y) h = h
    outcome (Ok x) (Err w) h = h
    outcome (Err v) (Ok y) h = h
    outcome (Err v) (Err w) h = h
