use Rattle.std.proofs.Common.{◌≡◌, ℕ, ◌<◌, ◌≤◌, max, Bool, true, false, cond, ◌&&◌, ◌||◌, ◌==◌, nat_lt, nat_le, List, [], ◌∷◌, ◌++◌, Some, Ok, Err, refl, ap, sym, ◌∙◌, subst, arith}
use Rattle.std.specs.Prelude.{slice_get, filter}
use Rattle.std.proofs.lemmas.Bool.Decides.{nat_tests}
use Rattle.std.proofs.lemmas.List.{append-nil}
use Rattle.std.specs.List.{AllByRecursion}
use Rattle.span_machine.specs.declared.slot.SlotState.{SlotState}
use Rattle.span_machine.specs.declared.transaction.Commit.{Commit}
use Rattle.span_schema.specs.declared.table.Table.{Table}
use Rattle.span_mutate.specs.declared.mutation.CheckedMutation.{CheckedMutation}
use Rattle.span_machine.specs.declared.transaction.Prepared.{Prepared}
use Rattle.span_machine.specs.declared.transaction.OpenTransaction.{OpenTransaction}
use Rattle.span_machine.specs.declared.transaction.Decision.{Decision}
use Rattle.span_machine.specs.declared.transaction.Decision.TheVariants as decision
use Rattle.span_value.specs.Results.{and_then}
use Rattle.span_mutate.specs.Database.{apply_one, apply}
use Rattle.span_mutate.specs.declared.row.TableRow.{TableRow}
use Rattle.span_mutate.specs.Directories.{Root, AreKeyed}
use Rattle.span_machine.specs.Machine.{is_at}
use Rattle.span_machine.specs.Sorting.{placed, in_order}
use Rattle.span_machine.specs.Tables.{is_before, upto, mutations_of, tables}
use Rattle.span_machine.specs.Machine.{Machine, holds, is_prepared_at, greatest}
use Rattle.span_truetime.specs.Limits.{timestamp_end}
use Rattle.std.proofs.Common.{append_assoc}
use Rattle.span_value.proofs.Lists.{all_filter, all_push, filter_swap}
use Rattle.span_machine_laws.proofs.Ordered.{filter-in_order}
use Rattle.span_machine_laws.proofs.Locality.{IsRoot, apply-succeeds, empty_database}
use Rattle.span_machine_laws.proofs.Stability.{changes_at, touches, is_some_of, changes_at-filter, is_before-order, changes_at-cons}
use Rattle.span_schema.specs.Lineages.{MeetsRules}

-- ---- the invariant

-- no timestamp above this
abbrev pub IsBelow : ℕ → List Commit → Type 0
IsBelow top cs = AllByRecursion (λ c. c.timestamp ≤ top) cs

-- every timestamp under this
abbrev pub IsUnder : ℕ → List Commit → Type 0
IsUnder end cs = AllByRecursion (λ c. c.timestamp < end) cs

-- the timestamps rise
abbrev pub IsRising : List Commit → Type 0
IsRising [] = Unit {0}
IsRising (c ∷ cs) = AllByRecursion (λ d. c.timestamp < d.timestamp) cs × IsRising cs

-- mutations of the directory go through, from no row
pub record Succeeds (schema : List Table) (ms : List CheckedMutation) : Type 0 where
  pub rows : List TableRow
  pub made : apply schema [] ms ≡ Ok rows

-- the log's commits that change the directory
abbrev pub commits_at : List Table → Root → List Commit → List Commit
commits_at schema root log = filter (touches schema root) log

-- the transaction is prepared at the slot and changes the directory
abbrev pub claims : List Table → Root → ℕ → OpenTransaction → Bool
claims schema root slot t = is_prepared_at slot t && is_some_of (filter (is_at schema root) t.mutations)

-- an undecided transaction may commit: above the directory's commits, and its changes succeed after theirs
pub record IsPromised (schema : List Table) (root : Root) (last : ℕ) (cs : List Commit) (t : OpenTransaction) : Type 0 where
  pub below : IsBelow last cs
  pub under : IsUnder (greatest t.prepared) cs
  pub through : Succeeds schema (changes_at schema root cs ++ filter (is_at schema root) t.mutations)

-- what the one transaction that claims the directory says of its commits, by its decision
abbrev pub IsClaimed : List Table → Root → ℕ → List Commit → OpenTransaction → Decision → Type 0
IsClaimed schema root last cs t decision.Undecided = IsPromised schema root last cs t
IsClaimed schema root last cs t (decision.Committed ts) = IsBelow (max last ts) cs
IsClaimed schema root last cs t decision.Aborted = IsBelow last cs

-- at most one transaction claims the directory
abbrev pub IsClaim : List Table → Root → ℕ → List Commit → List OpenTransaction → Type 0
IsClaim schema root last cs [] = IsBelow last cs
IsClaim schema root last cs (t ∷ ts) = (ts ≡ []) × IsClaimed schema root last cs t t.decision

-- the directory's commits are in the log in the order of their timestamps, and succeed
pub record IsInPlace (schema : List Table) (root : Root) (slot : ℕ) (m : Machine) : Type 0 where
  pub only : (i : ℕ) (b : SlotState) → slice_get m.slots i ≡ Some b → holds schema b root ≡ true → i ≡ slot
  pub held : (b : SlotState) → slice_get m.slots slot ≡ Some b → holds schema b root ≡ true
  pub in_range : IsUnder timestamp_end m.log
  pub rising : IsRising (commits_at schema root m.log)
  pub through : Succeeds schema (changes_at schema root (commits_at schema root m.log))
  pub claim : (b : SlotState) → slice_get m.slots slot ≡ Some b → IsClaim schema root b.last (commits_at schema root m.log) (filter (claims schema root slot) m.transactions)

-- a directory is in place in the slot that has it
abbrev pub IsPlaced : List Table → Root → Machine → Type 0
IsPlaced schema root m = (slot : ℕ) × IsInPlace schema root slot m

-- ---- lists

pub later : (s n t : ℕ) → nat_le n s ≡ false → n < t → nat_le t s ≡ false
later s n t late up = grind (arith, nat_tests)

pub earlier : (t u n k : ℕ) → t < u → (nat_lt t u || (t == u && nat_lt n k)) ≡ true
earlier t u n k low = grind (arith, nat_tests)

pub all_under : (n k : ℕ) (cs : List Commit) → n < k → IsBelow n cs → IsUnder k cs
all_under n k [] low all = tt
all_under n k (c ∷ cs) low all = (let h = all.0 in omega arith, all_under n k cs low all.1)

pub below_up : (n k : ℕ) (cs : List Commit) → n ≤ k → IsBelow n cs → IsBelow k cs
below_up n k [] low all = tt
below_up n k (c ∷ cs) low all = (let h = all.0 in omega arith, below_up n k cs low all.1)

pub under_up : (n k : ℕ) (cs : List Commit) → n ≤ k → IsUnder n cs → IsUnder k cs
under_up n k [] low all = tt
under_up n k (c ∷ cs) low all = (let h = all.0 in omega arith, under_up n k cs low all.1)

pub under_below : (n k : ℕ) (cs : List Commit) → n ≤ k → IsUnder n cs → IsBelow k cs
under_below n k [] low all = tt
under_below n k (c ∷ cs) low all = (let h = all.0 in omega arith, under_below n k cs low all.1)

pub greatest_push : (ps : List Prepared) (p : Prepared) → p.timestamp ≤ greatest (ps ++ p ∷ [])
greatest_push [] p = omega arith
greatest_push (q ∷ ps) p = let h = greatest_push ps p in omega arith

pub greatest_more : (ps : List Prepared) (p : Prepared) → greatest ps ≤ greatest (ps ++ p ∷ [])
greatest_more [] p = omega arith
greatest_more (q ∷ ps) p = let h = greatest_more ps p in omega arith

pub rising_push : (cs : List Commit) (c : Commit) → IsRising cs → IsUnder c.timestamp cs → IsRising (cs ++ c ∷ [])
rising_push [] c up under = (tt, tt)
rising_push (d ∷ ds) c up under = (all_push (λ e. d.timestamp < e.timestamp) ds c up.0 under.0, rising_push ds c up.1 under.1)

-- ---- commits of one directory

pub apply-append : (schema : List Table) (ms ns : List CheckedMutation) (rows mid : List TableRow) → apply schema rows ms ≡ Ok mid → apply schema rows (ms ++ ns) ≡ apply schema mid ns
apply-append schema [] ns rows mid = λ e. let same : rows ≡ mid = cc in ap (λ l. apply schema l ns) same
apply-append schema (m ∷ ms) ns rows mid = elim (apply_one schema rows m) as (λ r. and_then r (λ next. apply schema next ms) ≡ Ok mid → and_then r (λ next. apply schema next (ms ++ ns)) ≡ apply schema mid ns) [
  | Ok next ↦ λ e. apply-append schema ms ns next mid e
  | Err why ↦ λ e. cc
]

-- where all goes through, the front does
pub front_through : (schema : List Table) (ms ns : List CheckedMutation) (rows out : List TableRow) → apply schema rows (ms ++ ns) ≡ Ok out → (mid : List TableRow) × (apply schema rows ms ≡ Ok mid) × (apply schema mid ns ≡ Ok out)
front_through schema [] ns rows out = λ e. (rows, refl, e)
front_through schema (m ∷ ms) ns rows out = elim (apply_one schema rows m) as (λ r. and_then r (λ next. apply schema next (ms ++ ns)) ≡ Ok out → (mid : List TableRow) × (and_then r (λ next. apply schema next ms) ≡ Ok mid) × (apply schema mid ns ≡ Ok out)) [
  | Ok next ↦ λ e. front_through schema ms ns next out e
  | Err why ↦ λ e. absurd (cc)
]

pub changes_at-push : (schema : List Table) (root : Root) (cs : List Commit) (c : Commit) → changes_at schema root (cs ++ c ∷ []) ≡ changes_at schema root cs ++ filter (is_at schema root) c.mutations
changes_at-push schema root [] c = changes_at-cons schema root c [] ∙ append-nil _
changes_at-push schema root (d ∷ ds) c = changes_at-cons schema root d (ds ++ c ∷ []) ∙ ap (λ l. filter (is_at schema root) d.mutations ++ l) (changes_at-push schema root ds c)
    ∙ sym (append_assoc {A = CheckedMutation} (filter (is_at schema root) d.mutations) (changes_at schema root ds) (filter (is_at schema root) c.mutations)) ∙ ap (λ l. l ++ filter (is_at schema root) c.mutations) (sym (changes_at-cons schema root d ds))

pub none_later : (s n : ℕ) (cs : List Commit) → nat_le n s ≡ false → AllByRecursion (λ d. n < d.timestamp) cs → filter (λ d. nat_le d.timestamp s) cs ≡ []
none_later s n [] late all = refl
none_later s n (d ∷ ds) late all =
    let up = all.0 in
    let e : nat_le d.timestamp s ≡ false = later s n d.timestamp late up in
    rw e (none_later s n ds late all.1)

-- of commits that rise and go through, those up to s go through
pub upto_through : (schema : List Table) (root : Root) (s : ℕ) (cs : List Commit) (rows out : List TableRow) → IsRising cs → apply schema rows (changes_at schema root cs) ≡ Ok out
    → (some : List TableRow) × (apply schema rows (changes_at schema root (filter (λ d. nat_le d.timestamp s) cs)) ≡ Ok some)
upto_through schema root s [] rows out up h = (rows, refl)
upto_through schema root s (c ∷ cs) rows out up h =
    let own : List CheckedMutation = filter (is_at schema root) c.mutations in
    let parts = front_through schema own (changes_at schema root cs) rows out (subst (λ l. apply schema rows l ≡ Ok out) (changes_at-cons schema root c cs) h) in
    elim (nat_le c.timestamp s) as (λ b. nat_le c.timestamp s ≡ b
    → (some : List TableRow) × (apply schema rows (changes_at schema root (cond b (c ∷ filter (λ d. nat_le d.timestamp s) cs) (filter (λ d. nat_le d.timestamp s) cs))) ≡ Ok some)) [
      | true ↦ λ e. let rest = upto_through schema root s cs parts.0 out up.1 parts.2 in (
        rest.0,
        ap (apply schema rows) (changes_at-cons schema root c (filter (λ d. nat_le d.timestamp s) cs))
            ∙ apply-append schema own (changes_at schema root (filter (λ d. nat_le d.timestamp s) cs)) rows parts.0 parts.1 ∙ rest.1,
      )
      | false ↦ λ e. (rows, ap (λ l. apply schema rows (changes_at schema root l)) (none_later s c.timestamp cs e up.0))
    ] refl

-- commits that rise are in order
pub placed_under : (c : Commit) (cs : List Commit) → AllByRecursion (λ d. c.timestamp < d.timestamp) cs → placed is_before c cs ≡ c ∷ cs
placed_under c [] all = refl
placed_under c (d ∷ ds) all = let low = all.0 in let e : is_before c d ≡ true = earlier c.timestamp d.timestamp c.number d.number low in rw e refl

pub in_order_rising : (cs : List Commit) → IsRising cs → in_order is_before cs ≡ cs
in_order_rising [] up = refl
in_order_rising (c ∷ cs) up = ap (placed is_before c) (in_order_rising cs up.1) ∙ placed_under c cs up.0

pub rising_filter : (s : ℕ) (cs : List Commit) → IsRising cs → IsRising (filter (λ d. nat_le d.timestamp s) cs)
rising_filter s [] up = tt
rising_filter s (c ∷ cs) up = elim (nat_le c.timestamp s) as (λ b. IsRising (cond b (c ∷ filter (λ d. nat_le d.timestamp s) cs) (filter (λ d. nat_le d.timestamp s) cs))) [
  | true ↦ (all_filter (λ d. c.timestamp < d.timestamp) (λ d. nat_le d.timestamp s) cs up.0, rising_filter s cs up.1)
  | false ↦ rising_filter s cs up.1
]

-- what the tables at s do with the directory is what the directory's commits up to s do, in the order of the log
pub changes_at-upto : (schema : List Table) (root : Root) (log : List Commit) (s : ℕ) → IsRising (commits_at schema root log) → changes_at schema root (upto log s) ≡ changes_at schema root (filter (λ d. nat_le d.timestamp s) (commits_at schema root log))
changes_at-upto schema root log s up =
    sym (changes_at-filter schema root (upto log s))
    ∙ ap (changes_at schema root) (filter-in_order is_before is_before-order (touches schema root) (filter (λ d. nat_le d.timestamp s) log)
    ∙ ap (in_order is_before) (filter_swap (touches schema root) (λ d. nat_le d.timestamp s) log)
    ∙ in_order_rising (filter (λ d. nat_le d.timestamp s) (commits_at schema root log)) (rising_filter s (commits_at schema root log) up))

-- ---- the tables

-- where each directory is in place, the tables at any s are made
pub tables_made : (schema : List Table) → MeetsRules schema → (m : Machine) (s : ℕ) → AreKeyed schema (mutations_of (upto m.log s)) → ((root : Root) → IsRoot schema root → (slot : ℕ) × IsInPlace schema root slot m)
    → (db : List TableRow) × (tables schema m.log s ≡ Ok db)
tables_made schema rules m s keyed place = apply-succeeds schema rules (mutations_of (upto m.log s)) [] (empty_database schema) keyed (λ root is.
    let o = (place root is).1 in
    let made = upto_through schema root s (commits_at schema root m.log) [] o.through.rows o.rising o.through.made in
    (made.0, ap (apply schema []) (changes_at-upto schema root m.log s o.rising) ∙ made.1))
