-- A row is at or below another where its coded key begins with the other's.
use Rattle.std.proofs.Common.{◌≡◌, ℕ, ◌+◌, ◌-◌, Bool, true, false, ◌==◌, ◌||◌, ◌&&◌, List, [], ◌∷◌, ◌++◌, Option, Some, None, length, drop, refl, sym, ap, ◌∙◌, arith, append_assoc, add-sub_cancel}
use Rattle.std.specs.List.{filter, list_any}
use Rattle.std.proofs.lemmas.List.{append-nil, take-append-drop}
use Rattle.std.proofs.lemmas.List.Folds.{list_any-append}
use Rattle.std.proofs.Math.Seq.{take-append_seam}
use Rattle.span_value.specs.declared.value.Value.{Value}
use Rattle.span_schema.specs.declared.table.Table.{Table}
use Rattle.span_schema.specs.Lineages.{parent_at, path_at, MeetsRules}
use Rattle.span_schema.specs.Numbers.{IsTable, path_of}
use Rattle.span_keycode.specs.Keys.{key_code, IsKey}
use Rattle.span_keycode.specs.Laws.{IsAtOrBelow}
use Rattle.span_keycode.proofs.KeyLaws.{begins_own_rows}
use Rattle.span_keycode.proofs.Levels.{by_parents}
use Rattle.span_keycode.proofs.LevelLaws.{path_child, path_root}
use Rattle.span_mutate.specs.declared.row.TableRow.{TableRow}
use Rattle.span_mutate.specs.Rows.{begins}
use Rattle.span_mutate.specs.Database.{is_at_or_below, all_tables, is_in, is_under, blocks_delete, tables_blocking_delete}
use Rattle.span_mutate.specs.Typed.{IsTyped}
use Rattle.span_mutate.proofs.Begins.{taken_begins, front_taken}
use Rattle.std.proofs.lemmas.Bool.{and_from, or_left, or_right, and_parts, eqb-true, eq-eqb}
use Rattle.span_mutate.proofs.Parents.{in_range}
use Rattle.span_mutate.proofs.Filters.{filter_yes, filter_no}
use Rattle.span_maderows.specs.Made.{begins_with}
use Rattle.span_maderows.proofs.Bytes.{begins_front, front_begins}
use Rattle.span_shard.specs.Rows.{code_of}
use Rattle.span_shard.proofs.Touching.{same_truth}

or_cases : {A : Type 0} (a b : Bool) → (a || b) ≡ true → (a ≡ true → A) → (b ≡ true → A) → A
or_cases true b e f g = f refl
or_cases false b e f g = g e

one_of : (a n : ℕ) → list_any (λ (k : ℕ). k == n) (a ∷ []) ≡ true → a ≡ n
one_of a n e = eqb-true a n (last (a == n) e)
  where
    last : (b : Bool) → (b || false) ≡ true → b ≡ true
    last true f = refl
    last false f = f

-- ---- paths

-- a table on a path begins it with its own path
abbrev IsFront : List Table → ℕ → ℕ → Type 0
IsFront tables n i = (below : List ℕ) × (path_at tables i ≡ path_at tables (n - 1) ++ below)

path_front : (tables : List Table) (n i : ℕ) → list_any (λ (k : ℕ). k == n) (path_at tables i) ≡ true → IsFront tables n i
path_front tables n = by_parents tables (λ i. list_any (λ (k : ℕ). k == n) (path_at tables i) ≡ true → IsFront tables n i) step
  where
    own : (i : ℕ) → list_any (λ (k : ℕ). k == n) ((i + 1) ∷ []) ≡ true → IsFront tables n i
    own i h =
        let at : i + 1 - 1 ≡ n - 1 = ap (λ (m : ℕ). m - 1) (one_of (i + 1) n h) in
        ([], ap (path_at tables) (sym (add-sub_cancel i 1) ∙ at) ∙ sym (append-nil (path_at tables (n - 1))))

    step : (i : ℕ) → ((p : ℕ) → parent_at tables i ≡ Some p → list_any (λ (k : ℕ). k == n) (path_at tables p) ≡ true → IsFront tables n p)
        → list_any (λ (k : ℕ). k == n) (path_at tables i) ≡ true → IsFront tables n i
    step i again h = of_parent (parent_at tables i) refl
      where
        of_parent : (o : Option ℕ) → parent_at tables i ≡ o → IsFront tables n i
        of_parent None e = own i (sym (ap (list_any (λ (k : ℕ). k == n)) (path_root tables i e)) ∙ h)
        of_parent (Some p) e =
            or_cases (list_any (λ (k : ℕ). k == n) (path_at tables p)) (list_any (λ (k : ℕ). k == n) ((i + 1) ∷ []))
            (sym (ap (list_any (λ (k : ℕ). k == n)) (path_child tables i p e) ∙ list_any-append (λ (k : ℕ). k == n) (path_at tables p) ((i + 1) ∷ [])) ∙ h)
            (λ f. let front = again p e f in (
              front.0 ++ (i + 1) ∷ [],
              path_child tables i p e ∙ ap (λ (l : List ℕ). l ++ (i + 1) ∷ []) front.1 ∙ append_assoc (path_at tables (n - 1)) front.0 ((i + 1) ∷ []),
            ))
            (own i)

-- a table is on its own path
own_path : (tables : List Table) (n : ℕ) → IsTable tables n → list_any (λ (k : ℕ). k == n) (path_of tables n) ≡ true
own_path tables n is = of_parent (parent_at tables (n - 1)) refl
  where
    number : n - 1 + 1 ≡ n
    number = omega (arith, is.0)

    here : list_any (λ (k : ℕ). k == n) ((n - 1 + 1) ∷ []) ≡ true
    here = or_left (n - 1 + 1 == n) false (eq-eqb (n - 1 + 1) n number)

    of_parent : (o : Option ℕ) → parent_at tables (n - 1) ≡ o → list_any (λ (k : ℕ). k == n) (path_of tables n) ≡ true
    of_parent None e = ap (list_any (λ (k : ℕ). k == n)) (path_root tables (n - 1) e) ∙ here
    of_parent (Some p) e =
        ap (list_any (λ (k : ℕ). k == n)) (path_child tables (n - 1) p e)
        ∙ list_any-append (λ (k : ℕ). k == n) (path_at tables p) ((n - 1 + 1) ∷ [])
        ∙ or_right (list_any (λ (k : ℕ). k == n) (path_at tables p)) (list_any (λ (k : ℕ). k == n) ((n - 1 + 1) ∷ [])) here

-- ---- codings

pub begins_more : (us vs : List Value) → begins us (us ++ vs) ≡ true
begins_more us vs = ap (λ (ws : List Value). begins ws (us ++ vs)) (sym (take-append_seam us vs)) ∙ taken_begins (us ++ vs) (length us)

-- a coded key begins with another where its table and key are at or below the other's
pub begins_under : (tables : List Table) → MeetsRules tables → (n : ℕ) (key : List Value) → IsKey tables n key → (m : ℕ) (ws : List Value) → IsKey tables m ws
    → begins_with (key_code tables m ws) (key_code tables n key) ≡ (is_at_or_below tables n m && begins key ws)
begins_under tables rules n key kn m ws km = same_truth (begins_with (key_code tables m ws) (key_code tables n key)) (is_at_or_below tables n m && begins key ws) there back_again
  where
    there : begins_with (key_code tables m ws) (key_code tables n key) ≡ true → (is_at_or_below tables n m && begins key ws) ≡ true
    there e =
        let at : IsAtOrBelow tables n key m ws = (begins_own_rows tables rules n m key ws kn km).0 (drop (length (key_code tables n key)) (key_code tables m ws), sym (begins_front (key_code tables m ws) (key_code tables n key) e)) in
        and_from _ _
        (ap (list_any (λ (k : ℕ). k == n)) at.path ∙ list_any-append (λ (k : ℕ). k == n) (path_of tables n) at.tables_below
        ∙ or_left (list_any (λ (k : ℕ). k == n) (path_of tables n)) (list_any (λ (k : ℕ). k == n) at.tables_below) (own_path tables n kn.0))
        (ap (begins key) at.values ∙ begins_more key at.values_below)

    back_again : (is_at_or_below tables n m && begins key ws) ≡ true → begins_with (key_code tables m ws) (key_code tables n key) ≡ true
    back_again e =
        let parts = and_parts (is_at_or_below tables n m) (begins key ws) e in
        let front = path_front tables n (m - 1) parts.0 in
        let values : ws ≡ key ++ drop (length key) ws = sym (take-append-drop (length key) ws) ∙ ap (λ (us : List Value). us ++ drop (length key) ws) (sym (front_taken key ws parts.1)) in
        let at : IsAtOrBelow tables n key m ws = record { tables_below = front.0; path = front.1; values_below = drop (length key) ws; values = values } in
        let more = (begins_own_rows tables rules n m key ws kn km).1 at in
        ap (λ (l : List ℕ). begins_with l (key_code tables n key)) more.1 ∙ front_begins (key_code tables n key) more.0

-- ---- tables of a list

-- a number is among those of a list that pass where it passes
any_passed : (p : ℕ → Bool) (m : ℕ) (xs : List ℕ) → list_any (λ (k : ℕ). k == m) xs ≡ true → list_any (λ (k : ℕ). k == m) (filter p xs) ≡ p m
any_passed p m xs h = cases (p m) refl
  where
    kept : p m ≡ true → (ys : List ℕ) → list_any (λ (k : ℕ). k == m) ys ≡ true → list_any (λ (k : ℕ). k == m) (filter p ys) ≡ true
    kept e [] g = g
    kept e (y ∷ ys) g = one (p y) refl (kept e ys)
      where
        one : (b : Bool) → p y ≡ b → (list_any (λ (k : ℕ). k == m) ys ≡ true → list_any (λ (k : ℕ). k == m) (filter p ys) ≡ true) → list_any (λ (k : ℕ). k == m) (filter p (y ∷ ys)) ≡ true
        one true f again =
            ap (list_any (λ (k : ℕ). k == m)) (filter_yes p y ys f)
            ∙ or_cases (y == m) (list_any (λ (k : ℕ). k == m) ys) g (λ i. or_left (y == m) (list_any (λ (k : ℕ). k == m) (filter p ys)) i) (λ i. or_right (y == m) (list_any (λ (k : ℕ). k == m) (filter p ys)) (again i))
        one false f again =
            ap (list_any (λ (k : ℕ). k == m)) (filter_no p y ys f)
            ∙ or_cases (y == m) (list_any (λ (k : ℕ). k == m) ys) g (λ i. absurd (let j : false ≡ true = sym f ∙ ap p (eqb-true y m i) ∙ e in cc)) again

    lost : p m ≡ false → (ys : List ℕ) → list_any (λ (k : ℕ). k == m) (filter p ys) ≡ false
    lost e [] = refl
    lost e (y ∷ ys) = one (p y) (y == m) refl refl (lost e ys)
      where
        one : (b c : Bool) → p y ≡ b → (y == m) ≡ c → list_any (λ (k : ℕ). k == m) (filter p ys) ≡ false → list_any (λ (k : ℕ). k == m) (filter p (y ∷ ys)) ≡ false
        one false c f i again = ap (list_any (λ (k : ℕ). k == m)) (filter_no p y ys f) ∙ again
        one true true f i again = absurd (let j : true ≡ false = sym f ∙ ap p (eqb-true y m i) ∙ e in cc)
        one true false f i again = ap (list_any (λ (k : ℕ). k == m)) (filter_yes p y ys f) ∙ ap (λ (b : Bool). b || list_any (λ (k : ℕ). k == m) (filter p ys)) i ∙ again

    cases : (b : Bool) → p m ≡ b → list_any (λ (k : ℕ). k == m) (filter p xs) ≡ p m
    cases true e = kept e xs h ∙ sym e
    cases false e = lost e xs ∙ sym e

is_among : (tables : List Table) (m : ℕ) → IsTable tables m → list_any (λ (k : ℕ). k == m) (all_tables tables) ≡ true
is_among tables m is = in_range 1 (length tables) m is.0 (omega (arith, is.1))

-- a row of one of the tables that pass, with a key that begins with this one
in_passed : (tables : List Table) (p : ℕ → Bool) (key : List Value) (r : TableRow) → IsTable tables r.table → is_in (filter p (all_tables tables)) key r ≡ (p r.table && begins key r.key)
in_passed tables p key r is = ap (λ (b : Bool). b && begins key r.key) (any_passed p r.table (all_tables tables) (is_among tables r.table is))

-- a row is at or below a key where its coded key begins with the key's
pub under_code : (tables : List Table) → MeetsRules tables → (n : ℕ) (key : List Value) → IsKey tables n key → (r : TableRow) → IsTyped tables r → is_under tables n key r ≡ begins_with (code_of tables r) (key_code tables n key)
under_code tables rules n key k r typed = in_passed tables (is_at_or_below tables n) key r typed.0.0.0 ∙ sym (begins_under tables rules n key k r.table r.key typed.0.0)

-- the rows that hold it are of tables that block, with keys that begin with the key
pub blocks_code : (tables : List Table) (n : ℕ) (key : List Value) (r : TableRow) → IsTyped tables r → is_in (tables_blocking_delete tables n) key r ≡ (blocks_delete tables n r.table && begins key r.key)
blocks_code tables n key r typed = in_passed tables (blocks_delete tables n) key r typed.0.0.0
