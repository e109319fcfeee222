use Rattle.std.proofs.Common.{◌≡◌, ℕ, ◌<◌, ◌≤◌, Bool, true, false, cond, ◌&&◌, ◌||◌, ◌==◌, nat_lt, nat_le, List, [], ◌∷◌, ◌++◌, refl, ap, sym, ◌∙◌, inl, inr, ◌⊎◌, arith}
use Rattle.std.proofs.lemmas.List.{append-nil}
use Rattle.std.proofs.lemmas.Bool.Decides.{nat_tests}
use Rattle.std.proofs.lemmas.List.Elements.{filter-append}
use Rattle.std.specs.List.{filter}
use Rattle.span_schema.specs.declared.table.Table.{Table}
use Rattle.span_mutate.specs.declared.mutation.CheckedMutation.{CheckedMutation}
use Rattle.span_machine.specs.declared.transaction.Commit.{Commit}
use Rattle.span_machine.specs.Sorting.{in_order}
use Rattle.span_mutate.specs.Directories.{Root}
use Rattle.span_machine.specs.Machine.{is_at}
use Rattle.span_machine.specs.Tables.{is_before, upto, mutations_of}
use Rattle.span_machine_laws.proofs.Ordered.{IsOrder, filter-in_order}

pub before_by : (t u n k : ℕ) → (nat_lt t u || (t == u && nat_lt n k)) ≡ true → (t < u) ⊎ ((t ≡ u) × (n < k))
before_by t u n k h = grind (arith, nat_tests)

pub after_by : (t u n k : ℕ) → (nat_lt t u || (t == u && nat_lt n k)) ≡ false → (u < t) ⊎ ((t ≡ u) × (k ≤ n))
after_by t u n k h = grind (arith, nat_tests)

by_before : (t u n k : ℕ) → (t < u) ⊎ ((t ≡ u) × (n < k)) → (nat_lt t u || (t == u && nat_lt n k)) ≡ true
by_before t u n k h = grind (arith, nat_tests)

by_rest : (t u n k : ℕ) → (u < t) ⊎ ((t ≡ u) × (k ≤ n)) → (nat_lt t u || (t == u && nat_lt n k)) ≡ false
by_rest t u n k h = grind (arith, nat_tests)

pub across_by : (t u v n k l : ℕ) → (t < u) ⊎ ((t ≡ u) × (n < k)) → (u < v) ⊎ ((v ≡ u) × (k ≤ l)) → (t < v) ⊎ ((t ≡ v) × (n < l))
across_by t u v n k l p q = grind arith

pub apart_by : (t u n k : ℕ) → (t < u) ⊎ ((t ≡ u) × (n < k)) → (t < u) ⊎ ((u ≡ t) × (n ≤ k))
apart_by t u n k h = grind arith

pub is_before-order : IsOrder is_before
is_before-order = record {
  across = λ x y z p q. by_before _ _ _ _ (across_by _ y.timestamp _ _ y.number _ (before_by _ _ _ _ p) (after_by z.timestamp _ z.number _ q));
  apart = λ x y p. by_rest _ _ _ _ (apart_by x.timestamp y.timestamp x.number y.number (before_by x.timestamp _ x.number _ p));
}

-- the mutations of the directory in these commits
abbrev pub changes_at : List Table → Root → List Commit → List CheckedMutation
changes_at schema root cs = filter (is_at schema root) (mutations_of cs)

abbrev pub is_some_of : List CheckedMutation → Bool
is_some_of [] = false
is_some_of (m ∷ ms) = true

-- the commit changes the directory
abbrev pub touches : List Table → Root → Commit → Bool
touches schema root c = is_some_of (filter (is_at schema root) c.mutations)

pub changes_at-cons : (schema : List Table) (root : Root) (c : Commit) (cs : List Commit) → changes_at schema root (c ∷ cs) ≡ filter (is_at schema root) c.mutations ++ changes_at schema root cs
changes_at-cons schema root c cs = filter-append (is_at schema root) c.mutations (mutations_of cs)

pub none_of : (ms : List CheckedMutation) → is_some_of ms ≡ false → ms ≡ []
none_of [] e = refl
none_of (m ∷ ms) e = cc

pub changes_at-filter : (schema : List Table) (root : Root) (cs : List Commit) → changes_at schema root (filter (touches schema root) cs) ≡ changes_at schema root cs
changes_at-filter schema root [] = refl
changes_at-filter schema root (c ∷ cs) = elim (touches schema root c) as (λ b. touches schema root c ≡ b → changes_at schema root (cond b (c ∷ filter (touches schema root) cs) (filter (touches schema root) cs)) ≡ changes_at schema root (c ∷ cs)) [
  | true ↦ λ e. changes_at-cons schema root c (filter (touches schema root) cs) ∙ ap (λ l. filter (is_at schema root) c.mutations ++ l) (changes_at-filter schema root cs) ∙ sym (changes_at-cons schema root c cs)
  | false ↦ λ e. changes_at-filter schema root cs ∙ sym (changes_at-cons schema root c cs ∙ ap (λ l. l ++ changes_at schema root cs) (none_of _ e))
] refl

pub not_kept : (schema : List Table) (root : Root) (c : Commit) (s : ℕ) → (touches schema root c ≡ false) ⊎ (s < c.timestamp) → filter (touches schema root) (filter (λ d. nat_le d.timestamp s) (c ∷ [])) ≡ []
not_kept schema root c s (inl e) = elim (nat_le c.timestamp s) as (λ b. filter (touches schema root) (cond b (c ∷ []) []) ≡ []) [ true ↦ rw e refl | false ↦ refl ]
not_kept schema root c s (inr l) = let e : nat_le c.timestamp s ≡ false = grind (arith, nat_tests) in rw e refl

-- what is kept of the log at s for the directory
pub kept_at : List Table → Root → List Commit → ℕ → List Commit
kept_at schema root log s = filter (touches schema root) (filter (λ d. nat_le d.timestamp s) log)

-- the changes are those of the commits that touch the directory
pub changes_at-kept : (schema : List Table) (root : Root) (log : List Commit) (s : ℕ) → changes_at schema root (in_order is_before (kept_at schema root log s)) ≡ changes_at schema root (upto log s)
unfolding kept_at
changes_at-kept schema root log s =
    ap (changes_at schema root) (sym (filter-in_order is_before is_before-order (touches schema root) (filter (λ d. nat_le d.timestamp s) log)))
    ∙ changes_at-filter schema root (upto log s)

-- a new commit changes a directory's rows at s only where it changes the directory, at s or earlier
pub changes_at-more : (schema : List Table) (root : Root) (log : List Commit) (c : Commit) (s : ℕ) → (touches schema root c ≡ false) ⊎ (s < c.timestamp) → changes_at schema root (upto (log ++ c ∷ []) s) ≡ changes_at schema root (upto log s)
unfolding kept_at
changes_at-more schema root log c s apart =
    let q : Commit → Bool = λ d. nat_le d.timestamp s in
    let same : kept_at schema root (log ++ c ∷ []) s ≡ kept_at schema root log s =
    ap (filter (touches schema root)) (filter-append q log (c ∷ [])) ∙ filter-append (touches schema root) (filter q log) (filter q (c ∷ []))
    ∙ ap (λ l. filter (touches schema root) (filter q log) ++ l) (not_kept schema root c s apart) ∙ append-nil _ in
    sym (changes_at-kept schema root (log ++ c ∷ []) s) ∙ ap (λ l. changes_at schema root (in_order is_before l)) same ∙ changes_at-kept schema root log s
