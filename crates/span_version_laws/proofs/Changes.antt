-- What commits change at one key.
use Rattle.std.proofs.Common.{◌≡◌, ℕ, ◌-◌, ◌<◌, Bool, true, false, cond, not, ◌||◌, nat_le, List, [], ◌∷◌, ◌++◌, map, Option, Some, None, Result, Ok, refl, ap, sym, ◌∙◌, subst, append_assoc}
use Rattle.std.specs.Prelude.{find, filter, is_some, option_map}
use Rattle.std.specs.List.{AllByRecursion, list_any}
use Rattle.std.specs.Option.{option_to_list}
use Rattle.std.specs.Ordering.{eq_by_cmp}
use Rattle.std.specs.Str.{bytes_eq}
use Rattle.std.specs.Cmp.{tied_itself}
use Rattle.std.specs.declared.cmp.Ordering.TheVariants.{Less, Equal}
use Rattle.std.proofs.lemmas.List.Elements.{filter-append, filter_agree}
use Rattle.std.proofs.lemmas.List.{append-nil}
use Rattle.std.proofs.lemmas.Map.Text.{is_eq-slice_cmp}
use Rattle.std.proofs.lemmas.Slice.Eq.{bytes_eq-Decides}
use Rattle.std.proofs.Math.Bool.{or-false}
use Rattle.span_value.specs.declared.value.Value.{Value}
use Rattle.span_value.specs.declared.refusal.Refusal.{Refusal}
use Rattle.span_value.proofs.Lists.{all_append, all_weaker, filter_none, all_whole, filter-map, filter_swap, list_any-filter, all_both}
use Rattle.span_schema.specs.declared.table.Table.{Table}
use Rattle.span_schema.specs.Lineages.{MeetsRules}
use Rattle.span_keycode.specs.Order.{byte_order}
use Rattle.span_rowcode.specs.Rows.{row_code}
use Rattle.span_truetime.specs.Limits.{timestamp_end}
use Rattle.span_keycode.proofs.Order.{same_bytes}
use Rattle.span_mutate.specs.declared.mutation.CheckedMutation.{CheckedMutation}
use Rattle.span_mutate.specs.declared.row.TableRow.{TableRow}
use Rattle.span_mutate.specs.Database.{apply}
use Rattle.span_mutate.specs.Directories.{Root, directory, rows_cmp, IsInOrder, IsDatabase}
use Rattle.span_mutate.specs.Typed.{IsTyped, AreTyped, AreTypedMutations}
use Rattle.span_mutate.proofs.Orders.{rows_total}
use Rattle.span_mutate.proofs.TypedRows.{typed_stay}
use Rattle.span_store.specs.declared.chain.Version.{Version}
use Rattle.span_shard.specs.Rows.{code_of, is_coded, row_coded}
use Rattle.span_shard.specs.Reading.{is_same_row}
use Rattle.span_shard.proofs.Databases.{one_code}
use Rattle.span_shard.proofs.Touching.{typed_keyed}
use Rattle.span_machine.specs.declared.transaction.Commit.{Commit}
use Rattle.span_machine.specs.Sorting.{in_order}
use Rattle.span_machine.specs.Tables.{is_before, mutations_of}
use Rattle.span_machine.specs.Machine.{Machine, is_at}
use Rattle.span_machine.specs.Kept.{Change, has_same_key, is_same, put_at, deletion_at, changes_between, ok_or, after_mutations, changes_from, database_after, changes_of, database_of}
use Rattle.span_machine_laws.proofs.Lists.{found_passes}
use Rattle.span_machine_laws.proofs.Locality.{apply-directory, apply-database, empty_database, ok_same}
use Rattle.span_machine_laws.proofs.Ordered.{all_in_order, filter-in_order}
use Rattle.span_machine_laws.proofs.Stability.{is_before-order, touches, none_of}
use Rattle.span_machine_laws.proofs.InPlace.{IsRising, commits_at, front_through, in_order_rising}
use Rattle.span_machine_laws.proofs.Claims.{all_kept}
use Rattle.span_machine_laws.proofs.Schemas.{IsCommitBy, typed_upto}
use Rattle.span_machine_laws.proofs.Reached.{IsReached, reached_tables}
use Rattle.span_version_laws.specs.Kept.{IsCodedRoot, is_under, with_change, directory_after, made_from, made}
use Rattle.span_version_laws.proofs.Roots.{coded_root, coded_in_directory}
use Rattle.span_version_laws.proofs.Counting.{any_alike, is_at_key, newest_first, newest_joined, AreRising}

-- ---- rows, and the same

-- a row is the same as itself
pub same_row_itself : (row : Option (List ℕ)) → is_same_row row row ≡ true
same_row_itself None = refl
same_row_itself (Some bytes) = (bytes_eq-Decides bytes bytes).1 refl

-- rows that are the same are equal
pub same_row_is : (a b : Option (List ℕ)) → is_same_row a b ≡ true → a ≡ b
same_row_is None None e = refl
same_row_is None (Some b) e = absurd (let bad : false ≡ true = e in cc)
same_row_is (Some a) None e = absurd (let bad : false ≡ true = e in cc)
same_row_is (Some a) (Some b) e = ap Some ((bytes_eq-Decides a b).0 e)

-- equality of bytes is symmetric
turned_bytes : (a b : List ℕ) → bytes_eq a b ≡ bytes_eq b a
turned_bytes a b = cases (bytes_eq a b) (bytes_eq b a) refl refl
  where
    cases : (p q : Bool) → bytes_eq a b ≡ p → bytes_eq b a ≡ q → p ≡ q
    cases true true e f = refl
    cases true false e f = sym ((bytes_eq-Decides b a).1 (sym ((bytes_eq-Decides a b).0 e))) ∙ f
    cases false true e f = sym e ∙ (bytes_eq-Decides a b).1 (sym ((bytes_eq-Decides b a).0 f))
    cases false false e f = refl

-- ---- the change at a key

-- the change of a key where one row takes the place of another there
abbrev pub change_at : List ℕ → ℕ → Option (List ℕ) → Option (List ℕ) → List Change
change_at k ts before after = cond (is_same_row before after) [] ((record { key = k; timestamp = ts; row = after }) ∷ [])

-- a row that stays is no change
pub change_none : (k : List ℕ) (ts : ℕ) (row : Option (List ℕ)) → change_at k ts row row ≡ []
change_none k ts row = ap (λ (b : Bool). cond b [] ((record { key = k; timestamp = ts; row = row }) ∷ [])) (same_row_itself row)

-- rows whose keys have codings that differ
abbrev pub AreCodedApart : List Table → List TableRow → Type 0
AreCodedApart schema [] = Unit {0}
AreCodedApart schema (r ∷ rs) = AllByRecursion (λ (q : TableRow). is_coded schema (code_of schema r) q ≡ false) rs × AreCodedApart schema rs

-- typed rows in order have codings that differ
pub coded_apart : (schema : List Table) → MeetsRules schema → (db : List TableRow) → IsInOrder schema db → AreTyped schema db → AreCodedApart schema db
coded_apart schema rules [] up typed = tt
coded_apart schema rules (r ∷ rs) up typed = (
  all_weaker (λ (q : TableRow). IsTyped schema q × (rows_cmp schema r q ≡ Less)) (λ (q : TableRow). is_coded schema (code_of schema r) q ≡ false) (λ q h. other q h.0 h.1) rs
      (all_both (IsTyped schema) (λ (q : TableRow). rows_cmp schema r q ≡ Less) rs typed.1 up.0),
  coded_apart schema rules rs up.1 typed.1,
)
  where
    tied : (q : TableRow) → r.table ≡ q.table → r.key ≡ q.key → rows_cmp schema r q ≡ Equal
    tied q e f =
        let P : ℕ → List Value → Type 0 = λ n vs. rows_cmp schema (record { table = n; key = vs; cells = r.cells }) q ≡ Equal in
        let itself : P q.table q.key = tied_itself (rows_total schema) q in
        subst (λ (n : ℕ). P n r.key) (sym e) (subst (λ (vs : List Value). P q.table vs) (sym f) itself)

    other : (q : TableRow) → IsTyped schema q → rows_cmp schema r q ≡ Less → is_coded schema (code_of schema r) q ≡ false
    other q is less = cases (is_coded schema (code_of schema r) q) refl
      where
        cases : (b : Bool) → is_coded schema (code_of schema r) q ≡ b → b ≡ false
        cases false e = refl
        cases true e =
            let same = one_code schema rules r q typed.0 is (same_bytes (code_of schema r) (code_of schema q) e) in
            let equal : rows_cmp schema r q ≡ Equal = tied q same.0 same.1 in
            absurd (cc)

-- at a key there is then one row at most
pub coded_alone : (schema : List Table) (k : List ℕ) (db : List TableRow) → AreCodedApart schema db → filter (is_coded schema k) db ≡ option_to_list (find (is_coded schema k) db)
coded_alone schema k [] apart = refl
coded_alone schema k (r ∷ rs) apart = cases (is_coded schema k r) refl (coded_alone schema k rs apart.1)
  where
    cases : (b : Bool) → is_coded schema k r ≡ b → filter (is_coded schema k) rs ≡ option_to_list (find (is_coded schema k) rs)
        → cond b (r ∷ filter (is_coded schema k) rs) (filter (is_coded schema k) rs) ≡ option_to_list (cond b (Some r) (find (is_coded schema k) rs))
    cases true e again =
        let same : k ≡ code_of schema r = same_bytes k (code_of schema r) e in
        ap (λ (l : List TableRow). r ∷ l) (filter_none (is_coded schema k) rs (subst (λ (l : List ℕ). AllByRecursion (λ (q : TableRow). is_coded schema l q ≡ false) rs) (sym same) apart.0))
    cases false e again = again

-- one passes where one is found
any_found : {X : Type 0} (p : X → Bool) (xs : List X) → list_any p xs ≡ is_some (find p xs)
any_found p [] = refl
any_found {X} p (x ∷ xs) = cases (p x) (any_found p xs)
  where
    cases : (b : Bool) → list_any p xs ≡ is_some (find p xs) → (b || list_any p xs) ≡ is_some (cond b (Some x) (find p xs))
    cases true again = refl
    cases false again = again

module _ (schema : List Table) (k : List ℕ) (ts : ℕ) (before after : List TableRow) (before_apart : AreCodedApart schema before) (after_apart : AreCodedApart schema after) where
  -- the same key by either test
  same_test : (r q : TableRow) → code_of schema r ≡ k → has_same_key schema r q ≡ is_coded schema k q
  same_test r q e = sym (is_eq-slice_cmp (code_of schema r) (code_of schema q)) ∙ ap (λ (l : List ℕ). eq_by_cmp byte_order l (code_of schema q)) e

  -- a row after that was not the same before
  abbrev is_new : TableRow → Bool
  is_new r = not (list_any (is_same schema r) before)

  -- a row before whose key has none after
  abbrev is_gone : TableRow → Bool
  is_gone r = not (list_any (has_same_key schema r) after)

  -- a row at the key is new where another one or none was there
  new_is : (r : TableRow) → code_of schema r ≡ k → is_new r ≡ not (list_any (λ (q : TableRow). bytes_eq (row_code r.cells) (row_code q.cells)) (option_to_list (find (is_coded schema k) before)))
  new_is r e = ap not (
      list_any-filter (has_same_key schema r) (λ (q : TableRow). bytes_eq (row_code r.cells) (row_code q.cells)) before
      ∙ ap (list_any (λ (q : TableRow). bytes_eq (row_code r.cells) (row_code q.cells))) (filter_agree (has_same_key schema r) (is_coded schema k) (λ q. same_test r q e) before ∙ coded_alone schema k before before_apart)
      )

  -- and gone where none is there after
  gone_is : (r : TableRow) → code_of schema r ≡ k → is_gone r ≡ not (is_some (find (is_coded schema k) after))
  gone_is r e = ap not (any_alike (has_same_key schema r) (is_coded schema k) after (all_whole (λ q. has_same_key schema r q ≡ is_coded schema k q) (λ q. same_test r q e) after) ∙ any_found (is_coded schema k) after)

  -- a row that is found at the key has its coding
  coded_found : (db : List TableRow) (r : TableRow) → find (is_coded schema k) db ≡ Some r → code_of schema r ≡ k
  coded_found db r e = sym (same_bytes k (code_of schema r) (found_passes (is_coded schema k) db r e))

  put_if : (c : Bool) (x : Change) (r : TableRow) → put_at schema ts r ≡ x → map (put_at schema ts) (cond (not c) (r ∷ []) []) ++ [] ≡ cond c [] (x ∷ [])
  put_if true x r e = refl
  put_if false x r e = ap (λ (y : Change). y ∷ []) e

  -- the change at the key, by the rows that are found there
  changes_here : (a b : Option TableRow) → find (is_coded schema k) after ≡ a → find (is_coded schema k) before ≡ b
      → map (put_at schema ts) (filter is_new (option_to_list a)) ++ map (deletion_at schema ts) (filter is_gone (option_to_list b))
      ≡ change_at k ts (option_map (λ (r : TableRow). row_code r.cells) b) (option_map (λ (r : TableRow). row_code r.cells) a)
  changes_here None None e f = refl
  changes_here (Some r) None e f =
      let at : code_of schema r ≡ k = coded_found after r e in
      let new : is_new r ≡ true = new_is r at ∙ ap (λ (o : Option TableRow). not (list_any (λ (q : TableRow). bytes_eq (row_code r.cells) (row_code q.cells)) (option_to_list o))) f in
      ap (λ (c : Bool). map (put_at schema ts) (cond c (r ∷ []) []) ++ []) new
      ∙ ap (λ (l : List ℕ). (record { key = l; timestamp = ts; row = Some (row_code r.cells) }) ∷ []) at
  changes_here None (Some q) e f =
      let at : code_of schema q ≡ k = coded_found before q f in
      let gone : is_gone q ≡ true = gone_is q at ∙ ap (λ (o : Option TableRow). not (is_some o)) e in
      ap (λ (c : Bool). map (deletion_at schema ts) (cond c (q ∷ []) [])) gone
      ∙ ap (λ (l : List ℕ). (record { key = l; timestamp = ts; row = None }) ∷ []) at
  changes_here (Some r) (Some q) e f =
      let at : code_of schema r ≡ k = coded_found after r e in
      let stays : is_gone q ≡ false = gone_is q (coded_found before q f) ∙ ap (λ (o : Option TableRow). not (is_some o)) e in
      let new : is_new r ≡ not (bytes_eq (row_code q.cells) (row_code r.cells)) =
      new_is r at ∙ ap (λ (o : Option TableRow). not (list_any (λ (p : TableRow). bytes_eq (row_code r.cells) (row_code p.cells)) (option_to_list o))) f
      ∙ ap not (or-false (bytes_eq (row_code r.cells) (row_code q.cells)) ∙ turned_bytes (row_code r.cells) (row_code q.cells)) in
      ap (λ (c : Bool). map (put_at schema ts) (cond c (r ∷ []) []) ++ map (deletion_at schema ts) (cond (is_gone q) (q ∷ []) [])) new
      ∙ ap (λ (c : Bool). map (put_at schema ts) (cond (not (bytes_eq (row_code q.cells) (row_code r.cells))) (r ∷ []) []) ++ map (deletion_at schema ts) (cond c (q ∷ []) [])) stays
      ∙ put_if (bytes_eq (row_code q.cells) (row_code r.cells)) (record { key = k; timestamp = ts; row = Some (row_code r.cells) }) r (ap (λ (l : List ℕ). record { key = l; timestamp = ts; row = Some (row_code r.cells) }) at)

  -- between two databases a key changes where its rows differ, and once
  pub changes_at_key : filter (is_at_key k) (changes_between schema ts before after) ≡ change_at k ts (row_coded schema before k) (row_coded schema after k)
  changes_at_key =
      filter-append (is_at_key k) (map (put_at schema ts) (filter is_new after)) (map (deletion_at schema ts) (filter is_gone before))
      ∙ ap (λ (l : List Change). l ++ filter (is_at_key k) (map (deletion_at schema ts) (filter is_gone before)))
      (filter-map (is_at_key k) (put_at schema ts) (filter is_new after) ∙ ap (map (put_at schema ts)) (filter_swap (is_coded schema k) is_new after ∙ ap (filter is_new) (coded_alone schema k after after_apart)))
      ∙ ap (λ (l : List Change). map (put_at schema ts) (filter is_new (option_to_list (find (is_coded schema k) after))) ++ l)
      (filter-map (is_at_key k) (deletion_at schema ts) (filter is_gone before) ∙ ap (map (deletion_at schema ts)) (filter_swap (is_coded schema k) is_gone before ∙ ap (filter is_gone) (coded_alone schema k before before_apart)))
      ∙ changes_here (find (is_coded schema k) after) (find (is_coded schema k) before) refl refl

-- ---- the changes of a directory's commits at a key

-- the changes that a directory's commits make at a key, after a directory that is there
abbrev pub changes_made_from : List Table → Root → List ℕ → List TableRow → List Commit → List Change
changes_made_from schema root k db [] = []
changes_made_from schema root k db (c ∷ cs) =
    change_at k c.timestamp (row_coded schema db k) (row_coded schema (directory_after schema root db c) k) ++ changes_made_from schema root k (directory_after schema root db c) cs

-- and from no row on
abbrev pub changes_made : List Table → Root → List ℕ → List Commit → List Change
changes_made schema root k commits = changes_made_from schema root k [] commits

-- one change more is one version more
version_more : (k : List ℕ) (ts : ℕ) (before after : Option (List ℕ)) (vs : List Version) → with_change ts before after vs ≡ newest_first (change_at k ts before after) ++ vs
version_more k ts before after vs = elim (is_same_row before after) as (λ b. cond b vs ((record { timestamp = ts; row = after }) ∷ vs) ≡ newest_first (cond b [] ((record { key = k; timestamp = ts; row = after }) ∷ [])) ++ vs) [
  | true ↦ refl
  | false ↦ refl
]

-- what commits make in front of other versions is what their changes leave
made_from_changes : (schema : List Table) (root : Root) (k : List ℕ) (db : List TableRow) (cs : List Commit) (vs : List Version) → made_from schema root k db cs vs ≡ newest_first (changes_made_from schema root k db cs) ++ vs
made_from_changes schema root k db [] vs = refl
made_from_changes schema root k db (c ∷ cs) vs =
    let after : List TableRow = directory_after schema root db c in
    let here : List Change = change_at k c.timestamp (row_coded schema db k) (row_coded schema after k) in
    let rest : List Change = changes_made_from schema root k after cs in
    made_from_changes schema root k after cs (with_change c.timestamp (row_coded schema db k) (row_coded schema after k) vs)
    ∙ ap (λ (ws : List Version). newest_first rest ++ ws) (version_more k c.timestamp (row_coded schema db k) (row_coded schema after k) vs)
    ∙ sym (append_assoc {A = Version} (newest_first rest) (newest_first here) vs)
    ∙ ap (λ (ws : List Version). ws ++ vs) (sym (newest_joined here rest))

-- the versions that commits make are those of their changes
pub made_is : (schema : List Table) (root : Root) (k : List ℕ) (cs : List Commit) → made schema root k cs ≡ newest_first (changes_made schema root k cs)
made_is schema root k cs = made_from_changes schema root k [] cs [] ∙ append-nil (newest_first (changes_made schema root k cs))

-- a later change of the key
abbrev IsLater : List ℕ → ℕ → Change → Type 0
IsLater k ts d = (d.key ≡ k) × (ts < d.timestamp)

-- the change of a later commit is later
change_later : (k : List ℕ) (ts n : ℕ) (before after : Option (List ℕ)) → n < ts → AllByRecursion (IsLater k n) (change_at k ts before after)
change_later k ts n before after low = elim (is_same_row before after) as (λ b. AllByRecursion (IsLater k n) (cond b [] ((record { key = k; timestamp = ts; row = after }) ∷ []))) [
  | true ↦ tt
  | false ↦ ((refl, low), tt)
]

-- and so are those of all later commits
all_later : (schema : List Table) (root : Root) (k : List ℕ) (n : ℕ) (db : List TableRow) (cs : List Commit) → AllByRecursion (λ (c : Commit). n < c.timestamp) cs → AllByRecursion (IsLater k n) (changes_made_from schema root k db cs)
all_later schema root k n db [] low = tt
all_later schema root k n db (c ∷ cs) low =
    let after : List TableRow = directory_after schema root db c in
    all_append (IsLater k n) (change_at k c.timestamp (row_coded schema db k) (row_coded schema after k)) (changes_made_from schema root k after cs)
    (change_later k c.timestamp n (row_coded schema db k) (row_coded schema after k) low.0) (all_later schema root k n after cs low.1)

-- the changes of commits that rise, rise
pub changes_rise : (schema : List Table) (root : Root) (k : List ℕ) (db : List TableRow) (cs : List Commit) → IsRising cs → AreRising (changes_made_from schema root k db cs)
changes_rise schema root k db [] up = tt
changes_rise schema root k db (c ∷ cs) up =
    let after : List TableRow = directory_after schema root db c in
    elim (is_same_row (row_coded schema db k) (row_coded schema after k)) as (λ b. AreRising (cond b [] ((record { key = k; timestamp = c.timestamp; row = row_coded schema after k }) ∷ []) ++ changes_made_from schema root k after cs)) [
      | true ↦ changes_rise schema root k after cs up.1
      | false ↦ (all_later schema root k c.timestamp after cs up.0, changes_rise schema root k after cs up.1)
    ]

-- ---- the changes of all commits at a key

-- a database of typed rows
pub record IsTypedDatabase (schema : List Table) (db : List TableRow) : Type 0 where
  pub database : IsDatabase schema db
  pub typed : AreTyped schema db

-- its rows have codings that differ
pub apart_of : (schema : List Table) → MeetsRules schema → (db : List TableRow) → IsTypedDatabase schema db → AreCodedApart schema db
apart_of schema rules db is = coded_apart schema rules db is.database.0 is.typed

-- mutations without a fault leave one
pub typed_after : (schema : List Table) → MeetsRules schema → (db out : List TableRow) (ms : List CheckedMutation) → IsTypedDatabase schema db → AreTypedMutations schema ms → apply schema db ms ≡ Ok out → IsTypedDatabase schema out
typed_after schema rules db out ms is typed e = record {
  database = apply-database schema rules ms db out is.database (typed_keyed schema ms typed) e;
  typed = typed_stay schema db ms out is.typed typed e;
}

-- what mutations without a fault leave
pub after_is : (schema : List Table) (db out : List TableRow) (ms : List CheckedMutation) → apply schema db ms ≡ Ok out → after_mutations schema db ms ≡ out
after_is schema db out ms e = ap (λ (r : Result (List TableRow) Refusal). ok_or r db) e

module _ (schema : List Table) (rules : MeetsRules schema) (root : Root) (is_root : IsCodedRoot schema root) (k : List ℕ) (under : is_under schema root k ≡ true) where
  -- what mutations make of a directory
  pub in_directory : (db out : List TableRow) (ms : List CheckedMutation) → IsTypedDatabase schema db → AreTypedMutations schema ms → apply schema db ms ≡ Ok out
      → apply schema (directory schema root db) (filter (is_at schema root) ms) ≡ Ok (directory schema root out)
  in_directory db out ms is typed e = apply-directory schema rules ms db out root (coded_root schema root is_root) is.database (typed_keyed schema ms typed) e

  -- mutations that do not touch the directory leave the row of the key
  pub row_untouched : (db out : List TableRow) (ms : List CheckedMutation) → IsTypedDatabase schema db → AreTypedMutations schema ms → apply schema db ms ≡ Ok out → filter (is_at schema root) ms ≡ []
      → (directory schema root db ≡ directory schema root out) × (row_coded schema db k ≡ row_coded schema out k)
  row_untouched db out ms is typed e none =
      let same : directory schema root db ≡ directory schema root out = ok_same (sym (ap (apply schema (directory schema root db)) none) ∙ in_directory db out ms is typed e) in (
        same,
        sym (coded_in_directory schema rules root is_root k under db is.typed)
            ∙ ap (λ (rows : List TableRow). row_coded schema rows k) same
            ∙ coded_in_directory schema rules root is_root k under out (typed_after schema rules db out ms is typed e).typed,
      )

  -- at a key of a directory the commits that touch it change what they change in it, and no other commit changes anything
  pub changes_from_key : (db out : List TableRow) (cs : List Commit) → IsTypedDatabase schema db → AllByRecursion (IsCommitBy schema) cs → apply schema db (mutations_of cs) ≡ Ok out
      → filter (is_at_key k) (changes_from schema db cs) ≡ changes_made_from schema root k (directory schema root db) (filter (touches schema root) cs)
  changes_from_key db out [] is typed e = refl
  changes_from_key db out (c ∷ cs) is typed e =
      let parts = front_through schema c.mutations (mutations_of cs) db out e in
      let mid : List TableRow = parts.0 in
      let is_mid : IsTypedDatabase schema mid = typed_after schema rules db mid c.mutations is typed.0 parts.1 in
      filter-append (is_at_key k) (changes_between schema c.timestamp db (after_mutations schema db c.mutations)) (changes_from schema (after_mutations schema db c.mutations) cs)
      ∙ ap (λ (next : List TableRow). filter (is_at_key k) (changes_between schema c.timestamp db next) ++ filter (is_at_key k) (changes_from schema next cs)) (after_is schema db mid c.mutations parts.1)
      ∙ ap (λ (l : List Change). l ++ filter (is_at_key k) (changes_from schema mid cs)) (changes_at_key schema k c.timestamp db mid (apart_of schema rules db is) (apart_of schema rules mid is_mid))
      ∙ ap (λ (l : List Change). change_at k c.timestamp (row_coded schema db k) (row_coded schema mid k) ++ l) (changes_from_key mid out cs is_mid typed.1 parts.2)
      ∙ by_touch db mid c cs is is_mid typed.0 parts.1 (touches schema root c) refl
    where
      by_touch : (db mid : List TableRow) (c : Commit) (cs : List Commit) → IsTypedDatabase schema db → IsTypedDatabase schema mid → IsCommitBy schema c → apply schema db c.mutations ≡ Ok mid → (b : Bool) → touches schema root c ≡ b
          → change_at k c.timestamp (row_coded schema db k) (row_coded schema mid k) ++ changes_made_from schema root k (directory schema root mid) (filter (touches schema root) cs)
          ≡ changes_made_from schema root k (directory schema root db) (cond b (c ∷ filter (touches schema root) cs) (filter (touches schema root) cs))
      by_touch db mid c cs is is_mid typed e true at =
          let made : directory_after schema root (directory schema root db) c ≡ directory schema root mid = after_is schema (directory schema root db) (directory schema root mid) (filter (is_at schema root) c.mutations) (in_directory db mid c.mutations is typed e) in
          sym (
          ap (λ (next : List TableRow). change_at k c.timestamp (row_coded schema (directory schema root db) k) (row_coded schema next k) ++ changes_made_from schema root k next (filter (touches schema root) cs)) made
          ∙ ap (λ (row : Option (List ℕ)). change_at k c.timestamp row (row_coded schema (directory schema root mid) k) ++ changes_made_from schema root k (directory schema root mid) (filter (touches schema root) cs)) (coded_in_directory schema rules root is_root k under db is.typed)
          ∙ ap (λ (row : Option (List ℕ)). change_at k c.timestamp (row_coded schema db k) row ++ changes_made_from schema root k (directory schema root mid) (filter (touches schema root) cs)) (coded_in_directory schema rules root is_root k under mid is_mid.typed)
          )
      by_touch db mid c cs is is_mid typed e false at =
          let same = row_untouched db mid c.mutations is typed e (none_of (filter (is_at schema root) c.mutations) at) in
          ap (λ (row : Option (List ℕ)). change_at k c.timestamp row (row_coded schema mid k) ++ changes_made_from schema root k (directory schema root mid) (filter (touches schema root) cs)) same.1
          ∙ ap (λ (l : List Change). l ++ changes_made_from schema root k (directory schema root mid) (filter (touches schema root) cs)) (change_none k c.timestamp (row_coded schema mid k))
          ∙ ap (λ (rows : List TableRow). changes_made_from schema root k rows (filter (touches schema root) cs)) (sym same.0)

-- the database after commits that have no fault
pub database_after_is : (schema : List Table) (db out : List TableRow) (cs : List Commit) → apply schema db (mutations_of cs) ≡ Ok out → database_after schema db cs ≡ out
database_after_is schema db out [] e = ok_same e
database_after_is schema db out (c ∷ cs) e =
    let parts = front_through schema c.mutations (mutations_of cs) db out e in
    ap (λ (next : List TableRow). database_after schema next cs) (after_is schema db parts.0 c.mutations parts.1) ∙ database_after_is schema parts.0 out cs parts.2

-- ---- the log of a machine

-- what all the commits of the log make
pub record IsLogMade (schema : List Table) (m : Machine) (db : List TableRow) : Type 0 where
  pub made : apply schema [] (mutations_of (in_order is_before m.log)) ≡ Ok db
  pub is : IsTypedDatabase schema db

module _ (schema : List Table) (rules : MeetsRules schema) (m : Machine) (reached : IsReached schema m) (root : Root) (is_root : IsCodedRoot schema root) where
  -- no rows are one
  empty_is : IsTypedDatabase schema []
  empty_is = record { database = empty_database schema; typed = tt }

  -- no commit of the log has a fault
  pub log_made : IsLogMade schema m (database_of schema m.log)
  log_made =
      let tables_now = reached_tables schema rules m (timestamp_end - 1) reached in
      let all : filter (λ (c : Commit). nat_le c.timestamp (timestamp_end - 1)) m.log ≡ m.log = all_kept (timestamp_end - 1) m.log (reached.placed root (coded_root schema root is_root)).1.in_range refl in
      let made : apply schema [] (mutations_of (in_order is_before m.log)) ≡ Ok tables_now.0 = ap (λ (l : List Commit). apply schema [] (mutations_of (in_order is_before l))) (sym all) ∙ tables_now.1 in
      let typed : AreTypedMutations schema (mutations_of (in_order is_before m.log)) = subst (λ (l : List Commit). AreTypedMutations schema (mutations_of (in_order is_before l))) all (typed_upto schema m.log (timestamp_end - 1) reached.by_schema.log) in
      subst (IsLogMade schema m) (sym (database_after_is schema [] tables_now.0 (in_order is_before m.log) made)) (record { made = made; is = typed_after schema rules [] tables_now.0 (mutations_of (in_order is_before m.log)) empty_is typed made })

  -- the changes of the log at a key are those of its directory's commits
  pub changes_of_key : (k : List ℕ) → is_under schema root k ≡ true → filter (is_at_key k) (changes_of schema m.log) ≡ changes_made schema root k (commits_at schema root m.log)
  changes_of_key k under =
      changes_from_key schema rules root is_root k under [] (database_of schema m.log) (in_order is_before m.log) empty_is (all_in_order (IsCommitBy schema) is_before m.log reached.by_schema.log) log_made.made
      ∙ ap (changes_made schema root k) (filter-in_order is_before is_before-order (touches schema root) m.log ∙ in_order_rising (commits_at schema root m.log) (reached.placed root (coded_root schema root is_root)).1.rising)
