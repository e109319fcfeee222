-- Trimmed versions, and the versions that commits make at a key.
use Rattle.std.proofs.Common.{◌≡◌, ◌≢◌, ℕ, ◌<◌, ◌≤◌, Bool, true, false, cond, nat_le, List, [], ◌∷◌, ◌++◌, Option, Some, None, Ok, refl, ap, sym, ◌∙◌, subst, arith}
use Rattle.std.specs.Prelude.{find, filter, option_and_then}
use Rattle.std.specs.List.{AllByRecursion}
use Rattle.std.proofs.lemmas.Bool.Decides.{nat_tests}
use Rattle.std.proofs.lemmas.Slice.Eq.{bytes_eq-Decides}
use Rattle.std.proofs.lemmas.Bool.{lt-leb, false_from_ne_true}
use Rattle.span_schema.specs.declared.table.Table.{Table}
use Rattle.span_mutate.specs.declared.row.TableRow.{TableRow}
use Rattle.span_mutate.specs.Database.{apply}
use Rattle.span_mutate.specs.Directories.{Root}
use Rattle.span_store.specs.declared.chain.Version.{Version}
use Rattle.span_shard.specs.Reading.{is_same_row}
use Rattle.span_shard.specs.Rows.{row_coded}
use Rattle.span_shard.specs.Versions.{row_at, kept_version, kept_upto}
use Rattle.span_machine.specs.declared.transaction.Commit.{Commit}
use Rattle.span_machine.specs.Machine.{is_at}
use Rattle.span_machine.specs.Kept.{ok_or}
use Rattle.span_machine_laws.proofs.Stability.{changes_at, changes_at-cons}
use Rattle.span_machine_laws.proofs.Locality.{ok_same}
use Rattle.span_machine_laws.proofs.InPlace.{IsUnder, front_through}
use Rattle.span_version_laws.specs.Kept.{with_change, directory_after, made_from, made}
use Rattle.span_version_laws.proofs.Changes.{same_row_is}

-- ---- trimming

-- where all that is at or below the horizon is at or below s, what is kept has the same row at s
pub row_kept : (h s : ℕ) (vs : List Version) → AllByRecursion (λ (v : Version). v.timestamp ≤ h → v.timestamp ≤ s) vs → row_at (kept_upto h vs) s ≡ row_at vs s
row_kept h s [] all = refl
row_kept h s (v ∷ vs) all = by_test (nat_le v.timestamp h) refl (row_kept h s vs all.1)
  where
    low : nat_le v.timestamp h ≡ true → nat_le v.timestamp s ≡ true
    low e = let is : v.timestamp ≤ s = all.0 (grind (arith, nat_tests)) in grind (arith, nat_tests)

    one : (row : Option (List ℕ)) → v.row ≡ row → nat_le v.timestamp s ≡ true → row_at (kept_version v row) s ≡ row_at (v ∷ vs) s
    one None e is = sym (ap (λ (b : Bool). option_and_then (λ (w : Version). w.row) (cond b (Some v) (find (λ (w : Version). nat_le w.timestamp s) vs))) is ∙ e)
    one (Some row) e is = ap (λ (b : Bool). option_and_then (λ (w : Version). w.row) (cond b (Some v) None)) is
        ∙ sym (ap (λ (b : Bool). option_and_then (λ (w : Version). w.row) (cond b (Some v) (find (λ (w : Version). nat_le w.timestamp s) vs))) is)

    by_test : (b : Bool) → nat_le v.timestamp h ≡ b → row_at (kept_upto h vs) s ≡ row_at vs s → row_at (cond b (kept_version v v.row) (v ∷ kept_upto h vs)) s ≡ row_at (v ∷ vs) s
    by_test true e again = one v.row refl (low e)
    by_test false e again = elim (nat_le v.timestamp s) as (λ b. option_and_then (λ (w : Version). w.row) (cond b (Some v) (find (λ (w : Version). nat_le w.timestamp s) (kept_upto h vs)))
        ≡ option_and_then (λ (w : Version). w.row) (cond b (Some v) (find (λ (w : Version). nat_le w.timestamp s) vs))) [
          | true ↦ refl
          | false ↦ again
        ]

all_below : (h s : ℕ) (vs : List Version) → AllByRecursion (λ (v : Version). v.timestamp ≤ s) vs → AllByRecursion (λ (v : Version). v.timestamp ≤ h → v.timestamp ≤ s) vs
all_below h s [] all = tt
all_below h s (v ∷ vs) all = (λ low. all.0, all_below h s vs all.1)

-- above all versions
pub row_kept_all : (h s : ℕ) (vs : List Version) → AllByRecursion (λ (v : Version). v.timestamp ≤ s) vs → row_at (kept_upto h vs) s ≡ row_at vs s
row_kept_all h s vs all = row_kept h s vs (all_below h s vs all)

-- trimmed again at a later horizon
pub kept_again : (h n : ℕ) → h ≤ n → (vs : List Version) → kept_upto n (kept_upto h vs) ≡ kept_upto n vs
kept_again h n high [] = refl
kept_again h n high (v ∷ vs) = by_test (nat_le v.timestamp h) refl (kept_again h n high vs)
  where
    later : nat_le v.timestamp h ≡ true → nat_le v.timestamp n ≡ true
    later e = grind (arith, nat_tests)

    one : (row : Option (List ℕ)) → v.row ≡ row → nat_le v.timestamp n ≡ true → kept_upto n (kept_version v row) ≡ kept_upto n (v ∷ vs)
    one None e is = sym (ap (λ (b : Bool). cond b (kept_version v v.row) (v ∷ kept_upto n vs)) is ∙ ap (kept_version v) e)
    one (Some row) e is = ap (λ (b : Bool). cond b (kept_version v v.row) (v ∷ [])) is ∙ sym (ap (λ (b : Bool). cond b (kept_version v v.row) (v ∷ kept_upto n vs)) is)

    by_test : (b : Bool) → nat_le v.timestamp h ≡ b → kept_upto n (kept_upto h vs) ≡ kept_upto n vs → kept_upto n (cond b (kept_version v v.row) (v ∷ kept_upto h vs)) ≡ kept_upto n (v ∷ vs)
    by_test true e again = one v.row refl (later e)
    by_test false e again = ap (λ (ws : List Version). cond (nat_le v.timestamp n) (kept_version v v.row) (v ∷ ws)) again

-- a version above the horizon stays, in front of what is kept
pub kept_newest : (h : ℕ) (v : Version) (vs : List Version) → h < v.timestamp → kept_upto h (v ∷ vs) ≡ v ∷ kept_upto h vs
kept_newest h v vs high = ap (λ (b : Bool). cond b (kept_version v v.row) (v ∷ kept_upto h vs)) (lt-leb v.timestamp h high)

-- ---- rows that are the same

pub is_same_of : (a b : Option (List ℕ)) → a ≡ b → is_same_row a b ≡ true
is_same_of None b e = subst (λ (o : Option (List ℕ)). is_same_row None o ≡ true) e refl
is_same_of (Some a) b e = subst (λ (o : Option (List ℕ)). is_same_row (Some a) o ≡ true) e ((bytes_eq-Decides a a).1 refl)

pub not_same_of : (a b : Option (List ℕ)) → b ≢ a → is_same_row a b ≡ false
not_same_of a b off = false_from_ne_true (is_same_row a b) (λ e. off (sym (same_row_is a b e)))

-- ---- the versions that commits make

module _ (schema : List Table) (root : Root) (k : List ℕ) where
  -- with one commit more
  made_push-from : (db before : List TableRow) (front : List Commit) (c : Commit) (vs : List Version) → apply schema db (changes_at schema root front) ≡ Ok before
      → made_from schema root k db (front ++ c ∷ []) vs ≡ with_change c.timestamp (row_coded schema before k) (row_coded schema (directory_after schema root before c) k) (made_from schema root k db front vs)
  made_push-from db before [] c vs now =
      ap (λ (d : List TableRow). with_change c.timestamp (row_coded schema d k) (row_coded schema (directory_after schema root d c) k) vs) (ok_same now)
  made_push-from db before (d ∷ front) c vs now =
      let parts = front_through schema (filter (is_at schema root) d.mutations) (changes_at schema root front) db before (sym (ap (apply schema db) (changes_at-cons schema root d front)) ∙ now) in
      let next : directory_after schema root db d ≡ parts.0 = ap (λ r. ok_or r db) parts.1 in
      made_push-from (directory_after schema root db d) before front c _ (subst (λ (l : List TableRow). apply schema l (changes_at schema root front) ≡ Ok before) (sym next) parts.2)

  pub made_push : (before : List TableRow) (front : List Commit) (c : Commit) → apply schema [] (changes_at schema root front) ≡ Ok before
      → made schema root k (front ++ c ∷ []) ≡ with_change c.timestamp (row_coded schema before k) (row_coded schema (directory_after schema root before c) k) (made schema root k front)
  made_push before front c now = made_push-from [] before front c [] now

  changed_upto : (s ts : ℕ) (before after : Option (List ℕ)) (vs : List Version) → ts ≤ s → AllByRecursion (λ (v : Version). v.timestamp ≤ s) vs → AllByRecursion (λ (v : Version). v.timestamp ≤ s) (with_change ts before after vs)
  changed_upto s ts before after vs low all = elim (is_same_row before after) as (λ b. AllByRecursion (λ (v : Version). v.timestamp ≤ s) (cond b vs ((record { timestamp = ts; row = after }) ∷ vs))) [ true ↦ all | false ↦ (low, all) ]

  made_upto-from : (s n : ℕ) → n ≤ s → (db : List TableRow) (cs : List Commit) (vs : List Version) → IsUnder n cs → AllByRecursion (λ (v : Version). v.timestamp ≤ s) vs → AllByRecursion (λ (v : Version). v.timestamp ≤ s) (made_from schema root k db cs vs)
  made_upto-from s n high db [] vs under all = all
  made_upto-from s n high db (c ∷ cs) vs under all = made_upto-from s n high (directory_after schema root db c) cs _ under.1
      (changed_upto s c.timestamp (row_coded schema db k) (row_coded schema (directory_after schema root db c) k) vs (let low = under.0 in omega arith) all)

  -- no version is above all commits
  pub made_upto : (cs : List Commit) (s n : ℕ) → n ≤ s → IsUnder n cs → AllByRecursion (λ (v : Version). v.timestamp ≤ s) (made schema root k cs)
  made_upto cs s n high under = made_upto-from s n high [] cs [] under tt
