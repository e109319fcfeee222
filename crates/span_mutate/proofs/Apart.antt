-- A database is put together of its directories in one way.
use Rattle.std.proofs.Common.{◌≡◌, ◌⊎◌, inl, inr, Bool, true, false, List, [], ◌∷◌, refl, sym, subst, ◌∙◌}
use Rattle.std.specs.List.{AllByRecursion}
use Rattle.std.specs.declared.cmp.Ordering.TheVariants.{Less, Equal}
use Rattle.std.specs.Cmp.{tied_itself}
use Rattle.span_schema.specs.declared.table.Table.{Table}
use Rattle.span_mutate.specs.declared.row.TableRow.{TableRow}
use Rattle.span_mutate.specs.Directories.{Root, is_in_directory, directory, IsKeyed, root_row, rows_cmp, OneDatabase}
use Rattle.span_mutate.proofs.Filters.{filter_yes, filter_no}
use Rattle.span_mutate.proofs.Orders.{rows_total}
use Rattle.span_mutate.proofs.Families.{root_is_table}
use Rattle.span_mutate.proofs.ByRoots.{root_keyed, in_own}
use Rattle.span_value.proofs.Lists.{cons_inj, all_filter}

abbrev of_root : List Table → Root → TableRow → Bool
of_root tables root q = is_in_directory tables root q.table q.key

-- the directory of the first row begins with it
own_first : (tables : List Table) (x : TableRow) (xs : List TableRow) → directory tables (root_row tables x.table x.key) (x ∷ xs) ≡ x ∷ directory tables (root_row tables x.table x.key) xs
own_first tables x xs = filter_yes (of_root tables (root_row tables x.table x.key)) x xs (in_own tables x.table x.key)

-- what is first in a part of the rows after y is after y
rest_first : (tables : List Table) (root : Root) (x y : TableRow) (xs ys : List TableRow) → AllByRecursion (λ q. rows_cmp tables y q ≡ Less) ys → directory tables root ys ≡ x ∷ xs → rows_cmp tables y x ≡ Less
rest_first tables root x y xs ys h e =
    let P : List TableRow → Type 0 = AllByRecursion (λ q. rows_cmp tables y q ≡ Less) in
    let kept : P (x ∷ xs) = subst P e (all_filter (λ q. rows_cmp tables y q ≡ Less) (of_root tables root) ys h) in
    kept.0

tails : (x y : TableRow) (xs ys : List TableRow) → x ∷ xs ≡ y ∷ ys → xs ≡ ys
tails x y xs ys e = cc

-- the first row of one is the first of the other, or after it
first_after : (tables : List Table) (x y : TableRow) (xs ys : List TableRow) → AllByRecursion (λ q. rows_cmp tables y q ≡ Less) ys
    → directory tables (root_row tables x.table x.key) (x ∷ xs) ≡ directory tables (root_row tables x.table x.key) (y ∷ ys)
    → (b : Bool) → of_root tables (root_row tables x.table x.key) y ≡ b → (x ≡ y) ⊎ (rows_cmp tables y x ≡ Less)
first_after tables x y xs ys h e true f =
    inl (cons_inj x y _ _ (sym (own_first tables x xs) ∙ e ∙ filter_yes (of_root tables (root_row tables x.table x.key)) y ys f)).0
first_after tables x y xs ys h e false f =
    inr (rest_first tables (root_row tables x.table x.key) x y _ ys h (sym (filter_no (of_root tables (root_row tables x.table x.key)) y ys f) ∙ sym e ∙ own_first tables x xs))

never : (tables : List Table) (x y : TableRow) → rows_cmp tables x y ≡ Less → rows_cmp tables y x ≡ Less → x ≡ y
never tables x y e f =
    let g = (rows_total tables).trans x y x e f in
    absurd (let k : Less ≡ Equal = sym g ∙ tied_itself (rows_total tables) x in cc)

-- the directories of the rest of the rows
rest_same : (tables : List Table) (root : Root) (x : TableRow) (xs ys : List TableRow) → directory tables root (x ∷ xs) ≡ directory tables root (x ∷ ys) → (b : Bool) → of_root tables root x ≡ b → directory tables root xs ≡ directory tables root ys
rest_same tables root x xs ys e true f = tails x x _ _ (sym (filter_yes (of_root tables root) x xs f) ∙ e ∙ filter_yes (of_root tables root) x ys f)
rest_same tables root x xs ys e false f = sym (filter_no (of_root tables root) x xs f) ∙ e ∙ filter_no (of_root tables root) x ys f

pub one_database : OneDatabase
one_database tables rules [] [] a b same = refl
one_database tables rules [] (y ∷ ys) a b same =
    let e = same (root_row tables y.table y.key) (root_is_table tables y.table b.1.0.0, root_keyed tables rules y.table y.key b.1.0) in
    absurd (let f : [] ≡ y ∷ directory tables (root_row tables y.table y.key) ys = e ∙ own_first tables y ys in cc)
one_database tables rules (x ∷ xs) [] a b same =
    let e = same (root_row tables x.table x.key) (root_is_table tables x.table a.1.0.0, root_keyed tables rules x.table x.key a.1.0) in
    absurd (let f : [] ≡ x ∷ directory tables (root_row tables x.table x.key) xs = sym e ∙ own_first tables x xs in cc)
one_database tables rules (x ∷ xs) (y ∷ ys) a b same =
    let first : x ≡ y = firsts (of_root tables (root_row tables x.table x.key) y) (of_root tables (root_row tables y.table y.key) x) refl refl in
    let P : TableRow → Type 0 = λ q. (root : Root) → IsKeyed tables root.table root.key → directory tables root (x ∷ xs) ≡ directory tables root (q ∷ ys) in
    let again = subst P (sym first) same in
    let rest : xs ≡ ys = one_database tables rules xs ys (a.0.1, a.1.1) (b.0.1, b.1.1) (λ root is. rest_same tables root x xs ys (again root is) (of_root tables root x) refl) in
    cc
  where
    firsts : (c d : Bool) → of_root tables (root_row tables x.table x.key) y ≡ c → of_root tables (root_row tables y.table y.key) x ≡ d → x ≡ y
    firsts c d f g =
        let one = first_after tables x y xs ys b.0.0 (same (root_row tables x.table x.key) (root_is_table tables x.table a.1.0.0, root_keyed tables rules x.table x.key a.1.0)) c f in
        let two = first_after tables y x ys xs a.0.0 (sym (same (root_row tables y.table y.key) (root_is_table tables y.table b.1.0.0, root_keyed tables rules y.table y.key b.1.0))) d g in
        elim one [ inl e ↦ e | inr e ↦ elim two [ inl h ↦ sym h | inr h ↦ never tables x y h e ] ]
