-- Tables of one family have one root table.
use Rattle.std.proofs.Common.{◌≡◌, ℕ, ◌+◌, ◌-◌, ◌<◌, ◌≤◌, Bool, true, false, ◌==◌, ◌||◌, List, [], ◌∷◌, Option, Some, None, length, get_or, refl, sym, ap, ◌∙◌, arith, add-sub_cancel}
use Rattle.std.specs.List.{list_any}
use Rattle.std.proofs.lemmas.List.Folds.{list_any-append}
use Rattle.std.proofs.lemmas.Bool.{eqb-true}
use Rattle.std.proofs.lemmas.List.{get_or_append_left}
use Rattle.span_value.proofs.Lists.{all_at}
use Rattle.span_schema.specs.declared.table.Table.{Table}
use Rattle.span_schema.specs.Lineages.{parent_at, path_at, MeetsRules}
use Rattle.span_schema.specs.Numbers.{IsTable, number_of, parent_of, root_of}
use Rattle.span_schema.proofs.Paths.{parent_before}
use Rattle.span_schema.proofs.Numbered.{path_has, root_number}
use Rattle.span_keycode.proofs.Levels.{by_parents, keys_short, IsShort}
use Rattle.span_keycode.proofs.LevelLaws.{path_child, path_root}
use Rattle.span_mutate.specs.Database.{is_at_or_below}
use Rattle.span_mutate.specs.Directories.{key_len}

-- the root table of the table at a place
abbrev root_at : List Table → ℕ → ℕ
root_at tables i = get_or (path_at tables i) 0 0

pub root_child : (tables : List Table) (i p : ℕ) → parent_at tables i ≡ Some p → root_at tables i ≡ root_at tables p
root_child tables i p e = ap (λ (ns : List ℕ). get_or ns 0 0) (path_child tables i p e) ∙ get_or_append_left (path_at tables p) ((i + 1) ∷ []) 0 0 (path_has tables p)

pub number_here : (o : Option ℕ) (q : ℕ) → number_of o ≡ Some q → (p : ℕ) × (o ≡ Some p) × (q ≡ p + 1)
number_here None q e = absurd (let f : None ≡ Some q = e in cc)
number_here (Some p) q e = (p, refl, (let f : Some (p + 1) ≡ Some q = e in cc))

-- a parent is a table, of the same family
pub parent_family : (tables : List Table) (n q : ℕ) → IsTable tables n → parent_of tables n ≡ Some q → IsTable tables q × (root_of tables q ≡ root_of tables n)
parent_family tables n q is e =
    let found = number_here (parent_at tables (n - 1)) q e in
    let p = found.0 in
    let less : p < n - 1 = parent_before tables (n - 1) p found.1 in (
      (omega (arith, found.2), omega (arith, found.2)),
      ap (λ (k : ℕ). root_at tables (k - 1)) found.2 ∙ ap (root_at tables) (add-sub_cancel p 1) ∙ sym (root_child tables (n - 1) p found.1),
    )

-- a table below another is of its family
pub below_family : (tables : List Table) (n i : ℕ) → list_any (λ (k : ℕ). k == n) (path_at tables i) ≡ true → root_at tables i ≡ root_of tables n
below_family tables n = by_parents tables (λ i. list_any (λ (k : ℕ). k == n) (path_at tables i) ≡ true → root_at tables i ≡ root_of tables n) step
  where
    last : (i : ℕ) → list_any (λ (k : ℕ). k == n) ((i + 1) ∷ []) ≡ true → root_at tables i ≡ root_of tables n
    last i h =
        let or_none : ((i + 1 == n) || false) ≡ true = h in
        let here : i + 1 ≡ n = eqb-true (i + 1) n (or_false (i + 1 == n) or_none) in
        ap (root_at tables) (sym (add-sub_cancel i 1)) ∙ ap (λ (k : ℕ). root_at tables (k - 1)) here
      where
        or_false : (b : Bool) → (b || false) ≡ true → b ≡ true
        or_false true e = refl
        or_false false e = e

    step : (i : ℕ) → ((p : ℕ) → parent_at tables i ≡ Some p → list_any (λ (k : ℕ). k == n) (path_at tables p) ≡ true → root_at tables p ≡ root_of tables n)
        → list_any (λ (k : ℕ). k == n) (path_at tables i) ≡ true → root_at tables i ≡ root_of tables n
    step i again h = of_parent (parent_at tables i) refl
      where
        split : (p : ℕ) → parent_at tables i ≡ Some p → (a b : Bool) → list_any (λ (k : ℕ). k == n) (path_at tables p) ≡ a → list_any (λ (k : ℕ). k == n) ((i + 1) ∷ []) ≡ b → (a || b) ≡ true
            → root_at tables i ≡ root_of tables n
        split p e true b f g t = root_child tables i p e ∙ again p e f
        split p e false b f g t = last i (g ∙ t)

        of_parent : (o : Option ℕ) → parent_at tables i ≡ o → root_at tables i ≡ root_of tables n
        of_parent None e = last i (sym (ap (list_any (λ (k : ℕ). k == n)) (path_root tables i e)) ∙ h)
        of_parent (Some p) e = split p e _ _ refl refl
            (sym (ap (list_any (λ (k : ℕ). k == n)) (path_child tables i p e) ∙ list_any-append (λ (k : ℕ). k == n) (path_at tables p) ((i + 1) ∷ [])) ∙ h)

pub below_root : (tables : List Table) (n m : ℕ) → is_at_or_below tables n m ≡ true → root_of tables m ≡ root_of tables n
below_root tables n m h = below_family tables n (m - 1) h

-- a root table's key is no longer than that of a table of its family
pub root_short : (tables : List Table) → MeetsRules tables → (n : ℕ) → IsTable tables n → key_len tables (root_of tables n) ≤ key_len tables n
root_short tables rules n is =
    let within : n - 1 < length tables = omega arith in
    all_at (IsShort tables (key_len tables n)) (path_at tables (n - 1)) 0 0 (path_has tables (n - 1)) (keys_short tables rules (n - 1) within)

-- a root table is a table
pub root_is_table : (tables : List Table) (n : ℕ) → IsTable tables n → IsTable tables (root_of tables n)
root_is_table tables n is = root_number tables (n - 1) (omega arith)
