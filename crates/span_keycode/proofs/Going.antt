-- How a coding goes on after the key of a table.
use Rattle.std.proofs.Common.{◌≡◌, ℕ, ◌+◌, ◌-◌, ◌<◌, List, [], ◌∷◌, ◌++◌, Option, Some, None, refl, sym, ◌∙◌, ap, subst, arith, length, length-append, map, inl, inr, ◌⊎◌, add-sub_cancel}
use Rattle.span_value.specs.declared.value.Value.{Value}
use Rattle.span_schema.specs.declared.table.Table.{Table}
use Rattle.span_schema.specs.Lineages.{parent_at, above, path_at, MeetsRules}
use Rattle.span_schema.specs.Numbers.{IsTable, number_of, parent_of, own_key_columns}
use Rattle.span_schema.proofs.Paths.{parent_before, path_goes_on}
use Rattle.span_keycode.specs.Coding.{AreFit, tuple_code}
use Rattle.span_keycode.specs.Keys.{Level, level_of, code_of, key_code, IsKey}
use Rattle.span_keycode.proofs.Levels.{by_parents, levels_at}
use Rattle.span_keycode.proofs.LevelLaws.{AreLevels, levels_fit, path_child, path_root}
use Rattle.span_keycode.proofs.Exact.{levels_begin}

-- a table each of which is a child of the one before
abbrev pub Continues : List Table → Option ℕ → List ℕ → Type 0
Continues tables o [] = Unit {0}
Continues tables o (n ∷ ns) = IsTable tables n × (parent_of tables n ≡ o) × Continues tables (Some n) ns

abbrev pub last_or : Option ℕ → List ℕ → Option ℕ
last_or o [] = o
last_or o (n ∷ ns) = last_or (Some n) ns

last_push : (o : Option ℕ) (ns : List ℕ) (n : ℕ) → last_or o (ns ++ n ∷ []) ≡ Some n
last_push o [] n = refl
last_push o (m ∷ ns) n = last_push (Some m) ns n

continues_push : (tables : List Table) (o : Option ℕ) (ns : List ℕ) (n : ℕ) → Continues tables o ns → IsTable tables n → parent_of tables n ≡ last_or o ns → Continues tables o (ns ++ n ∷ [])
continues_push tables o [] n f t p = (t, p, tt)
continues_push tables o (m ∷ ns) n f t p = (f.0, f.1, continues_push tables (Some m) ns n f.2 t p)

continues_split : (tables : List Table) (o : Option ℕ) (ns ms : List ℕ) → Continues tables o (ns ++ ms) → Continues tables (last_or o ns) ms
continues_split tables o [] ms f = f
continues_split tables o (n ∷ ns) ms f = continues_split tables (Some n) ns ms f.2

pub last_path : (tables : List Table) (i : ℕ) → last_or None (path_at tables i) ≡ Some (i + 1)
last_path tables i = ap (last_or None) (path_goes_on tables i) ∙ last_push None (above (path_at tables) (parent_at tables i)) (i + 1)

parent_here : (tables : List Table) (i : ℕ) (o : Option ℕ) → parent_at tables i ≡ o → parent_of tables (i + 1) ≡ number_of o
parent_here tables i o e = ap (λ (k : ℕ). number_of (parent_at tables k)) (add-sub_cancel i 1) ∙ ap number_of e

path_continues : (tables : List Table) (i : ℕ) → i < length tables → Continues tables None (path_at tables i)
path_continues tables = by_parents tables (λ i. i < length tables → Continues tables None (path_at tables i)) step
  where
    step : (i : ℕ) → ((p : ℕ) → parent_at tables i ≡ Some p → p < length tables → Continues tables None (path_at tables p)) → i < length tables → Continues tables None (path_at tables i)
    step i again h = by_case (parent_at tables i) refl
      where
        by_case : (o : Option ℕ) → parent_at tables i ≡ o → Continues tables None (path_at tables i)
        by_case None e =
            let P : List ℕ → Type 0 = λ ns. Continues tables None ns in
            subst P (sym (path_root tables i e)) ((omega arith, omega arith), parent_here tables i None e, tt)
        by_case (Some p) e =
            let P : List ℕ → Type 0 = λ ns. Continues tables None ns in
            let less : p < i = parent_before tables i p e in
            subst P (sym (path_child tables i p e))
            (continues_push tables None (path_at tables p) (i + 1) (again p e (omega arith)) (omega arith, omega arith) (parent_here tables i (Some p) e ∙ sym (last_path tables p)))

abbrev pub tables_of : List Level → List ℕ
tables_of [] = []
tables_of (l ∷ ls) = l.table ∷ tables_of ls

pub tables_back : (tables : List Table) (vs : List Value) (ns : List ℕ) → tables_of (map (level_of tables vs) ns) ≡ ns
tables_back tables vs [] = refl
tables_back tables vs (n ∷ ns) = ap (λ (ms : List ℕ). n ∷ ms) (tables_back tables vs ns)

pub tables_append : (ls ms : List Level) → tables_of (ls ++ ms) ≡ tables_of ls ++ tables_of ms
tables_append [] ms = refl
tables_append (l ∷ ls) ms = ap (λ (ns : List ℕ). l.table ∷ ns) (tables_append ls ms)

fit_part : (tables : List Table) (ls ms : List Level) → AreLevels tables (ls ++ ms) → AreLevels tables ms
fit_part tables [] ms f = f
fit_part tables (l ∷ ls) ms f = fit_part tables ls ms f.1

-- the coding of what is read so far: nothing, or a key
abbrev pub code_above : List Table → Option ℕ → List Value → List ℕ
code_above tables None vs = []
code_above tables (Some n) vs = key_code tables n vs

abbrev pub IsAbove : List Table → Option ℕ → List Value → Type 0
IsAbove tables None vs = vs ≡ []
IsAbove tables (Some n) vs = IsKey tables n vs

-- a level of a child
pub record Next (tables : List Table) (o : Option ℕ) (rest : List ℕ) : Type 0 where
  pub table : ℕ
  pub values : List Value
  pub more : List ℕ
  pub is : IsTable tables table
  pub parent : parent_of tables table ≡ o
  pub fits : AreFit (own_key_columns tables table) values
  pub code : rest ≡ table ∷ (tuple_code (own_key_columns tables table) values ++ more)

place_is : (tables : List Table) (n : ℕ) → IsTable tables n → (n - 1 < length tables) × (n - 1 + 1 ≡ n)
place_is tables n t = (omega (arith, t.0, t.1), omega (arith, t.0))

-- what follows the levels of o is nothing, or a level of a child
later : (tables : List Table) (o : Option ℕ) (ls more : List Level) (rest : List ℕ) → last_or None (tables_of ls) ≡ o → Continues tables None (tables_of (ls ++ more)) → AreLevels tables more → rest ≡ code_of tables more
    → (rest ≡ []) ⊎ Next tables o rest
later tables o ls [] rest last f g e = inl e
later tables o ls (m ∷ more) rest last f g e =
    let P : List ℕ → Type 0 = λ ns. Continues tables None ns in
    let Q : Option ℕ → Type 0 = λ p. Continues tables p (m.table ∷ tables_of more) in
    let next = subst Q last (continues_split tables None (tables_of ls) (m.table ∷ tables_of more) (subst P (tables_append ls (m ∷ more)) f)) in
    inr (record { table = m.table; values = m.values; more = code_of tables more; is = next.0; parent = next.1; fits = g.0; code = e })

levels_known : (tables : List Table) → MeetsRules tables → (m : ℕ) (ws : List Value) → IsKey tables m ws → AreLevels tables (levels_at tables (m - 1) ws) × Continues tables None (tables_of (levels_at tables (m - 1) ws))
levels_known tables rules m ws k =
    let within = (place_is tables m k.0).0 in
    let P : List ℕ → Type 0 = λ ns. Continues tables None ns in
    (levels_fit tables rules (m - 1) within ws k.1, subst P (sym (tables_back tables ws (path_at tables (m - 1)))) (path_continues tables (m - 1) within))

-- a key's coding goes on after what is read of it by nothing, or by a level of a child
pub goes_on : (tables : List Table) → MeetsRules tables → (o : Option ℕ) (vs : List Value) (rest : List ℕ) → IsAbove tables o vs → (m : ℕ) (ws : List Value) → IsKey tables m ws
    → code_above tables o vs ++ rest ≡ key_code tables m ws → (rest ≡ []) ⊎ Next tables o rest
goes_on tables rules None vs rest a m ws k e =
    let known = levels_known tables rules m ws k in
    later tables None [] (levels_at tables (m - 1) ws) rest refl known.1 known.0 e
goes_on tables rules (Some n) vs rest a m ws k e =
    let known = levels_known tables rules m ws k in
    let own = levels_known tables rules n vs a in
    let begins = levels_begin tables (levels_at tables (n - 1) vs) (levels_at tables (m - 1) ws) rest own.0 known.0 e in
    let P : List Level → Type 0 = λ ls. Continues tables None (tables_of ls) in
    let Q : List Level → Type 0 = λ ls. AreLevels tables ls in
    let last : last_or None (tables_of (levels_at tables (n - 1) vs)) ≡ Some n =
    ap (last_or None) (tables_back tables vs (path_at tables (n - 1))) ∙ last_path tables (n - 1) ∙ ap (λ (k : ℕ). Some k) (place_is tables n a.0).1 in
    later tables (Some n) (levels_at tables (n - 1) vs) begins.0 rest last (subst P begins.1 known.1)
    (fit_part tables (levels_at tables (n - 1) vs) begins.0 (subst Q begins.1 known.0)) begins.2

-- a coding is not empty
pub code_some : (tables : List Table) (m : ℕ) (ws : List Value) → [] ≡ key_code tables m ws → ⊥
code_some tables m ws e = elim (nonempty (path_at tables (m - 1)) refl) [ inl none ↦ no_path none | inr some ↦ some ]
  where
    no_path : path_at tables (m - 1) ≡ [] → ⊥
    no_path e = let l : length (path_at tables (m - 1)) ≡ 0 = ap length e in omega (arith, ap (length {A = ℕ}) (path_goes_on tables (m - 1)), length-append (above (path_at tables) (parent_at tables (m - 1))) ((m - 1 + 1) ∷ []))

    nonempty : (ns : List ℕ) → path_at tables (m - 1) ≡ ns → (path_at tables (m - 1) ≡ []) ⊎ ⊥
    nonempty [] f = inl f
    nonempty (n ∷ ns) f = inr (let g : [] ≡ n ∷ (tuple_code (own_key_columns tables n) (level_of tables ws n).values ++ code_of tables (map (level_of tables ws) ns)) = e ∙ ap (λ (xs : List ℕ). code_of tables (map (level_of tables ws) xs)) f in absurd cc)

-- what is known about the levels of a key along its path
pub levels_on : (tables : List Table) → MeetsRules tables → (n : ℕ) (vs : List Value) → IsKey tables n vs → (ns : List ℕ) → path_at tables (n - 1) ≡ ns → AreLevels tables (map (level_of tables vs) ns) × Continues tables None ns
levels_on tables rules n vs k ns e =
    let within = (place_is tables n k.0).0 in
    let P : List ℕ → Type 0 = λ ms. AreLevels tables (map (level_of tables vs) ms) in
    let Q : List ℕ → Type 0 = λ ms. Continues tables None ms in
    (subst P e (levels_fit tables rules (n - 1) within vs k.1), subst Q e (path_continues tables (n - 1) within))
