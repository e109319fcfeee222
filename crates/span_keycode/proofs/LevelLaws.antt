-- What follows for keys from the law of one column.
use Rattle.std.proofs.Common.{◌≡◌, ℕ, zero, suc, ◌+◌, ◌-◌, ◌<◌, List, [], ◌∷◌, ◌++◌, Option, Some, None, refl, sym, ◌∙◌, ap, subst, arith, length, map, take, drop, append_assoc, inl, inr, add-sub_cancel}
use Rattle.std.specs.List.{AllByRecursion}
use Rattle.std.specs.Ordering.{ordering_then}
use Rattle.std.specs.declared.cmp.Ordering.{Ordering}
use Rattle.std.proofs.lemmas.List.{map-append, take-take, append-nil}
use Rattle.std.proofs.lemmas.Bool.{cases_order}
use Rattle.span_value.specs.declared.value.Value.{Value}
use Rattle.span_schema.specs.declared.table.Table.{Table}
use Rattle.span_schema.specs.declared.layout.KeyPart.{KeyPart}
use Rattle.span_schema.specs.Lineages.{parent_at, above, path_at, MeetsRules}
use Rattle.span_schema.specs.Numbers.{key_at, key_columns, own_key_at, own_key_columns, columns_above}
use Rattle.span_schema.proofs.Paths.{parent_before, path_goes_on}
use Rattle.span_keycode.specs.Order.{byte_order, Decides}
use Rattle.span_keycode.specs.Coding.{AreFit, column_cmp, tuple_code, tuple_cmp}
use Rattle.span_keycode.specs.Keys.{Level, own_values_at, own_values, level_of, level_code, code_of, level_cmp, levels_cmp}
use Rattle.span_keycode.proofs.Order.{then_assoc, decides-append, decides-less, decides-greater}
use Rattle.span_value.proofs.Comparisons.{number_less, number_greater, number_equal}
use Rattle.span_keycode.proofs.Codes.{decides-cons, decides-tuple}
use Rattle.span_keycode.proofs.Levels.{by_parents, key_split, key_root, levels_at, keys_short, IsShort}

take_all : {X : Type 0} (n : ℕ) (xs : List X) → length xs ≡ n → take n xs ≡ xs
take_all n [] e = none n
  where
    none : {X : Type 0} (n : ℕ) → ◌≡◌ {A = List X} (take n []) []
    none zero = refl
    none (suc n) = refl
take_all zero (x ∷ xs) e = absurd (let f : suc (length xs) ≡ 0 = e in omega arith)
take_all {X} (suc n) (x ∷ xs) e = ap (λ (ys : List X). x ∷ ys) (take_all n xs (let f : suc (length xs) ≡ suc n = e in omega arith))

pub fit_length : (cs : List KeyPart) (vs : List Value) → AreFit cs vs → length cs ≡ length vs
fit_length [] [] f = refl
fit_length [] (v ∷ vs) f = absurd f
fit_length (c ∷ cs) [] f = absurd f
fit_length (c ∷ cs) (v ∷ vs) f = ap suc (fit_length cs vs f.1)

-- the values of the first columns fit, and those of the others
pub fit_split : (cs ds : List KeyPart) (vs : List Value) → AreFit (cs ++ ds) vs → AreFit cs (take (length cs) vs) × AreFit ds (drop (length cs) vs)
fit_split [] ds vs f = (tt, f)
fit_split (c ∷ cs) ds [] f = absurd f
fit_split (c ∷ cs) ds (v ∷ vs) f = let rest = fit_split cs ds vs f.1 in ((f.0, rest.0), rest.1)

pub fit_join : (cs ds : List KeyPart) (vs ws : List Value) → AreFit cs vs → AreFit ds ws → AreFit (cs ++ ds) (vs ++ ws)
fit_join [] ds [] ws f g = g
fit_join [] ds (v ∷ vs) ws f g = absurd f
fit_join (c ∷ cs) ds [] ws f g = absurd f
fit_join (c ∷ cs) ds (v ∷ vs) ws f g = (f.0, fit_join cs ds vs ws f.1 g)

cmp_split : (cs ds : List KeyPart) (vs ws : List Value) → AreFit (cs ++ ds) vs → AreFit (cs ++ ds) ws
    → ordering_then (tuple_cmp cs (take (length cs) vs) (take (length cs) ws)) (tuple_cmp ds (drop (length cs) vs) (drop (length cs) ws)) ≡ tuple_cmp (cs ++ ds) vs ws
cmp_split [] ds vs ws f g = refl
cmp_split (c ∷ cs) ds [] ws f g = absurd f
cmp_split (c ∷ cs) ds (v ∷ vs) [] f g = absurd g
cmp_split (c ∷ cs) ds (v ∷ vs) (w ∷ ws) f g =
    sym (then_assoc (column_cmp c v w) (tuple_cmp cs (take (length cs) vs) (take (length cs) ws)) (tuple_cmp ds (drop (length cs) vs) (drop (length cs) ws)))
    ∙ ap (ordering_then (column_cmp c v w)) (cmp_split cs ds vs ws f.1 g.1)

pub code_append : (tables : List Table) (ls ms : List Level) → code_of tables (ls ++ ms) ≡ code_of tables ls ++ code_of tables ms
code_append tables [] ms = refl
code_append tables (l ∷ ls) ms = ap (λ (bs : List ℕ). level_code tables l ++ bs) (code_append tables ls ms) ∙ sym (append_assoc (level_code tables l) (code_of tables ls) (code_of tables ms))

-- levels see no more values than their tables have key columns
pub map_short : (tables : List Table) (ns : List ℕ) (most : ℕ) (vs : List Value) → AllByRecursion (IsShort tables most) ns → map (level_of tables vs) ns ≡ map (level_of tables (take most vs)) ns
map_short tables [] most vs f = refl
map_short tables (n ∷ ns) most vs f =
    let here : take (length (key_columns tables n)) vs ≡ take (length (key_columns tables n)) (take most vs) = sym (take-take (length (key_columns tables n)) most vs f.0) in
    let l : level_of tables vs n ≡ level_of tables (take most vs) n =
    ap (λ (ws : List Value). let level : Level = record { table = n; values = drop (columns_above tables (parent_at tables (n - 1))) ws } in level) here in
    joined (level_of tables vs n) (level_of tables (take most vs) n) (map (level_of tables vs) ns) (map (level_of tables (take most vs)) ns) l (map_short tables ns most vs f.1)
  where
    joined : (a b : Level) (xs ys : List Level) → a ≡ b → xs ≡ ys → a ∷ xs ≡ b ∷ ys
    joined a b xs ys e f = cc

pub path_child : (tables : List Table) (i p : ℕ) → parent_at tables i ≡ Some p → path_at tables i ≡ path_at tables p ++ (i + 1) ∷ []
path_child tables i p e = path_goes_on tables i ∙ ap (λ (o : Option ℕ). above (path_at tables) o ++ (i + 1) ∷ []) e

pub path_root : (tables : List Table) (i : ℕ) → parent_at tables i ≡ None → path_at tables i ≡ (i + 1) ∷ []
path_root tables i e = path_goes_on tables i ∙ ap (λ (o : Option ℕ). above (path_at tables) o ++ (i + 1) ∷ []) e

-- the levels of a child are those of its parent, and its own
pub levels_child : (tables : List Table) → MeetsRules tables → (i p : ℕ) → i < length tables → parent_at tables i ≡ Some p → (vs : List Value)
    → levels_at tables i vs ≡ levels_at tables p (take (length (key_at tables p)) vs) ++ level_of tables vs (i + 1) ∷ []
levels_child tables rules i p h e vs =
    let less : p < i = parent_before tables i p e in
    ap (map (level_of tables vs)) (path_child tables i p e)
    ∙ map-append (level_of tables vs) (path_at tables p) ((i + 1) ∷ [])
    ∙ ap (λ (ls : List Level). ls ++ level_of tables vs (i + 1) ∷ []) (map_short tables (path_at tables p) (length (key_at tables p)) vs (keys_short tables rules p (omega arith)))

pub levels_root : (tables : List Table) (i : ℕ) → parent_at tables i ≡ None → (vs : List Value) → levels_at tables i vs ≡ level_of tables vs (i + 1) ∷ []
levels_root tables i e vs = ap (map (level_of tables vs)) (path_root tables i e)

pub own_child : (tables : List Table) (i p : ℕ) → parent_at tables i ≡ Some p → (vs : List Value) → length vs ≡ length (key_at tables i) → own_values_at tables i vs ≡ drop (length (key_at tables p)) vs
own_child tables i p e vs len =
    ap (λ (o : Option ℕ). drop (columns_above tables o) (take (length (key_at tables i)) vs)) e ∙ ap (drop (length (key_at tables p))) (take_all (length (key_at tables i)) vs len)

pub own_root : (tables : List Table) (i : ℕ) → parent_at tables i ≡ None → (vs : List Value) → length vs ≡ length (key_at tables i) → own_values_at tables i vs ≡ vs
own_root tables i e vs len =
    ap (λ (o : Option ℕ). drop (columns_above tables o) (take (length (key_at tables i)) vs)) e ∙ take_all (length (key_at tables i)) vs len

-- the level of a table's own key columns, by its place
pub level_here : (tables : List Table) (i : ℕ) (vs : List Value) → level_code tables (level_of tables vs (i + 1)) ≡ (i + 1) ∷ tuple_code (own_key_at tables i) (own_values_at tables i vs)
level_here tables i vs = ap (λ (k : ℕ). (i + 1) ∷ tuple_code (own_key_at tables k) (own_values_at tables k vs)) (add-sub_cancel i 1)

abbrev pub AreLevels : List Table → List Level → Type 0
AreLevels tables [] = Unit {0}
AreLevels tables (l ∷ ls) = AreFit (own_key_columns tables l.table) l.values × AreLevels tables ls

levels_push : (tables : List Table) (ls : List Level) (l : Level) → AreLevels tables ls → AreFit (own_key_columns tables l.table) l.values → AreLevels tables (ls ++ l ∷ [])
levels_push tables [] l f g = (g, tt)
levels_push tables (k ∷ ls) l f g = (f.0, levels_push tables ls l f.1 g)

-- the values of a key fit level by level
pub levels_fit : (tables : List Table) → MeetsRules tables → (i : ℕ) → i < length tables → (vs : List Value) → AreFit (key_at tables i) vs → AreLevels tables (levels_at tables i vs)
levels_fit tables rules = by_parents tables (λ i. i < length tables → (vs : List Value) → AreFit (key_at tables i) vs → AreLevels tables (levels_at tables i vs)) step
  where
    own : (i : ℕ) (vs : List Value) → AreFit (own_key_at tables i) (own_values_at tables i vs) → AreFit (own_key_columns tables (i + 1)) (own_values tables (i + 1) vs)
    own i vs f = let P : ℕ → Type 0 = λ k. AreFit (own_key_at tables k) (own_values_at tables k vs) in subst P (sym (add-sub_cancel i 1)) f

    step : (i : ℕ) → ((p : ℕ) → parent_at tables i ≡ Some p → p < length tables → (vs : List Value) → AreFit (key_at tables p) vs → AreLevels tables (levels_at tables p vs))
        → i < length tables → (vs : List Value) → AreFit (key_at tables i) vs → AreLevels tables (levels_at tables i vs)
    step i again h vs f = by_case (parent_at tables i) refl
      where
        len : length vs ≡ length (key_at tables i)
        len = sym (fit_length (key_at tables i) vs f)

        by_case : (o : Option ℕ) → parent_at tables i ≡ o → AreLevels tables (levels_at tables i vs)
        by_case None e =
            let P : List Value → Type 0 = λ ws. AreFit (own_key_at tables i) ws in
            let R : List KeyPart → Type 0 = λ cs. AreFit cs vs in
            let here = own i vs (subst P (sym (own_root tables i e vs len)) (subst R (sym (key_root tables i e)) f)) in
            let A : List Level → Type 0 = AreLevels tables in
            subst A (sym (levels_root tables i e vs)) (here, tt)
        by_case (Some p) e =
            let less : p < i = parent_before tables i p e in
            let R : List KeyPart → Type 0 = λ cs. AreFit cs vs in
            let both = fit_split (key_at tables p) (own_key_at tables i) vs (subst R (key_split tables rules i p h e) f) in
            let P : List Value → Type 0 = λ ws. AreFit (own_key_at tables i) ws in
            let here = own i vs (subst P (sym (own_child tables i p e vs len)) both.1) in
            let A : List Level → Type 0 = AreLevels tables in
            subst A (sym (levels_child tables rules i p h e vs))
            (levels_push tables (levels_at tables p (take (length (key_at tables p)) vs)) (level_of tables vs (i + 1)) (again p e (omega arith) (take (length (key_at tables p)) vs) both.0) here)

-- two keys of one table: the codings decide as the key values do
pub decides-key : (tables : List Table) → MeetsRules tables → (i : ℕ) → i < length tables → (vs ws : List Value) → AreFit (key_at tables i) vs → AreFit (key_at tables i) ws
    → Decides (code_of tables (levels_at tables i vs)) (code_of tables (levels_at tables i ws)) (tuple_cmp (key_at tables i) vs ws)
decides-key tables rules = by_parents tables
    (λ i. i < length tables → (vs ws : List Value) → AreFit (key_at tables i) vs → AreFit (key_at tables i) ws
    → Decides (code_of tables (levels_at tables i vs)) (code_of tables (levels_at tables i ws)) (tuple_cmp (key_at tables i) vs ws)) step
  where
    one : (i : ℕ) (vs : List Value) → code_of tables (level_of tables vs (i + 1) ∷ []) ≡ (i + 1) ∷ tuple_code (own_key_at tables i) (own_values_at tables i vs)
    one i vs = append-nil (level_code tables (level_of tables vs (i + 1))) ∙ level_here tables i vs

    same_number : (n : ℕ) (p q : List ℕ) (o : Ordering) → Decides p q o → Decides (n ∷ p) (n ∷ q) o
    same_number n p q o d = rw (number_equal n n refl) at (decides-cons n n p q o d)

    step : (i : ℕ) → ((p : ℕ) → parent_at tables i ≡ Some p → p < length tables → (vs ws : List Value) → AreFit (key_at tables p) vs → AreFit (key_at tables p) ws
        → Decides (code_of tables (levels_at tables p vs)) (code_of tables (levels_at tables p ws)) (tuple_cmp (key_at tables p) vs ws))
        → i < length tables → (vs ws : List Value) → AreFit (key_at tables i) vs → AreFit (key_at tables i) ws
        → Decides (code_of tables (levels_at tables i vs)) (code_of tables (levels_at tables i ws)) (tuple_cmp (key_at tables i) vs ws)
    step i again h vs ws f g = by_case (parent_at tables i) refl
      where
        len : (us : List Value) → AreFit (key_at tables i) us → length us ≡ length (key_at tables i)
        len us u = sym (fit_length (key_at tables i) us u)

        by_case : (o : Option ℕ) → parent_at tables i ≡ o → Decides (code_of tables (levels_at tables i vs)) (code_of tables (levels_at tables i ws)) (tuple_cmp (key_at tables i) vs ws)
        by_case None e =
            let code : (us : List Value) → AreFit (key_at tables i) us → code_of tables (levels_at tables i us) ≡ (i + 1) ∷ tuple_code (key_at tables i) us =
            λ us u. ap (code_of tables) (levels_root tables i e us) ∙ one i us
            ∙ ap (λ (xs : List Value). (i + 1) ∷ tuple_code (own_key_at tables i) xs) (own_root tables i e us (len us u))
            ∙ ap (λ (cs : List KeyPart). (i + 1) ∷ tuple_code cs us) (key_root tables i e) in
            rw (code vs f, code ws g) (same_number (i + 1) _ _ _ (decides-tuple (key_at tables i) vs ws f g))
        by_case (Some p) e =
            let less : p < i = parent_before tables i p e in
            let K = length (key_at tables p) in
            let R : List Value → List KeyPart → Type 0 = λ us cs. AreFit cs us in
            let split = key_split tables rules i p h e in
            let both_v = fit_split (key_at tables p) (own_key_at tables i) vs (subst (R vs) split f) in
            let both_w = fit_split (key_at tables p) (own_key_at tables i) ws (subst (R ws) split g) in
            let code : (us : List Value) → AreFit (key_at tables i) us
            → code_of tables (levels_at tables i us) ≡ code_of tables (levels_at tables p (take K us)) ++ ((i + 1) ∷ tuple_code (own_key_at tables i) (drop K us)) =
            λ us u. ap (code_of tables) (levels_child tables rules i p h e us)
            ∙ code_append tables (levels_at tables p (take K us)) (level_of tables us (i + 1) ∷ [])
            ∙ ap (λ (xs : List ℕ). code_of tables (levels_at tables p (take K us)) ++ xs) (one i us ∙ ap (λ (xs : List Value). (i + 1) ∷ tuple_code (own_key_at tables i) xs) (own_child tables i p e us (len us u))) in
            let order : ordering_then (tuple_cmp (key_at tables p) (take K vs) (take K ws)) (tuple_cmp (own_key_at tables i) (drop K vs) (drop K ws)) ≡ tuple_cmp (key_at tables i) vs ws =
            cmp_split (key_at tables p) (own_key_at tables i) vs ws (subst (R vs) split f) (subst (R ws) split g) ∙ ap (λ (cs : List KeyPart). tuple_cmp cs vs ws) (sym split) in
            let d = decides-append _ _ _ _ _ _ (again p e (omega arith) (take K vs) (take K ws) both_v.0 both_w.0)
            (same_number (i + 1) _ _ _ (decides-tuple (own_key_at tables i) (drop K vs) (drop K ws) both_v.1 both_w.1)) in
            rw (code vs f, code ws g, ← order) d

-- two levels
pub decides-level : (tables : List Table) (l m : Level) → AreFit (own_key_columns tables l.table) l.values → AreFit (own_key_columns tables m.table) m.values
    → Decides (level_code tables l) (level_code tables m) (level_cmp tables l m)
decides-level tables l m f g = elim (cases_order l.table m.table) [
  | inl same ↦ (let R : ℕ → Type 0 = λ t. AreFit (own_key_columns tables t) m.values in
      let g2 = subst R (sym same) g in
      let d : Decides (l.table ∷ tuple_code (own_key_columns tables l.table) l.values) (m.table ∷ tuple_code (own_key_columns tables l.table) m.values) (level_cmp tables l m) =
      decides-cons l.table m.table (tuple_code (own_key_columns tables l.table) l.values) (tuple_code (own_key_columns tables l.table) m.values) (tuple_cmp (own_key_columns tables l.table) l.values m.values)
      (decides-tuple (own_key_columns tables l.table) l.values m.values f g2) in
      let e : m.table ∷ tuple_code (own_key_columns tables l.table) m.values ≡ level_code tables m = ap (λ (t : ℕ). m.table ∷ tuple_code (own_key_columns tables t) m.values) same in
      let Q : List ℕ → Type 0 = λ bs. Decides (level_code tables l) bs (level_cmp tables l m) in
      subst Q e d)
  | inr (inl lt) ↦ (let e = number_less l.table m.table lt in rw e (decides-less l.table m.table (tuple_code (own_key_columns tables l.table) l.values) (tuple_code (own_key_columns tables m.table) m.values) e))
  | inr (inr gt) ↦ (let e = number_greater l.table m.table gt in rw e (decides-greater l.table m.table (tuple_code (own_key_columns tables l.table) l.values) (tuple_code (own_key_columns tables m.table) m.values) e))
]

-- byte order is the order of levels
pub levels_in_order : (tables : List Table) (ls ms : List Level) → AreLevels tables ls → AreLevels tables ms → byte_order (code_of tables ls) (code_of tables ms) ≡ levels_cmp tables ls ms
levels_in_order tables [] [] f g = refl
levels_in_order tables [] (m ∷ ms) f g = refl
levels_in_order tables (l ∷ ls) [] f g = refl
levels_in_order tables (l ∷ ls) (m ∷ ms) f g =
    (decides-level tables l m f.0 g.0).at (code_of tables ls) (code_of tables ms) ∙ ap (ordering_then (level_cmp tables l m)) (levels_in_order tables ls ms f.1 g.1)

pub own_level : (tables : List Table) (i : ℕ) (vs : List Value) → code_of tables (level_of tables vs (i + 1) ∷ []) ≡ (i + 1) ∷ tuple_code (own_key_at tables i) (own_values_at tables i vs)
own_level tables i vs = append-nil (level_code tables (level_of tables vs (i + 1))) ∙ level_here tables i vs

-- the coding of a root row's key
pub code_root : (tables : List Table) (i : ℕ) → parent_at tables i ≡ None → (vs : List Value) → AreFit (key_at tables i) vs → code_of tables (levels_at tables i vs) ≡ (i + 1) ∷ tuple_code (own_key_at tables i) vs
code_root tables i e vs f =
    ap (code_of tables) (levels_root tables i e vs) ∙ own_level tables i vs
    ∙ ap (λ (xs : List Value). (i + 1) ∷ tuple_code (own_key_at tables i) xs) (own_root tables i e vs (sym (fit_length (key_at tables i) vs f)))

-- the coding of a child's key: that of its parent's key, and its own level
pub code_child : (tables : List Table) → MeetsRules tables → (i p : ℕ) → i < length tables → parent_at tables i ≡ Some p → (vs : List Value) → AreFit (key_at tables i) vs
    → code_of tables (levels_at tables i vs) ≡ code_of tables (levels_at tables p (take (length (key_at tables p)) vs)) ++ ((i + 1) ∷ tuple_code (own_key_at tables i) (drop (length (key_at tables p)) vs))
code_child tables rules i p h e vs f =
    ap (code_of tables) (levels_child tables rules i p h e vs)
    ∙ code_append tables (levels_at tables p (take (length (key_at tables p)) vs)) (level_of tables vs (i + 1) ∷ [])
    ∙ ap (λ (xs : List ℕ). code_of tables (levels_at tables p (take (length (key_at tables p)) vs)) ++ xs)
    (own_level tables i vs ∙ ap (λ (xs : List Value). (i + 1) ∷ tuple_code (own_key_at tables i) xs) (own_child tables i p e vs (sym (fit_length (key_at tables i) vs f))))
