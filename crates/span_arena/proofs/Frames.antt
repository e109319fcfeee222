-- What a change of one node leaves.
use Rattle.std.proofs.Common.{◌≡◌, ◌≢◌, ℕ, zero, suc, ◌<◌, ◌≤◌, List, [], ◌∷◌, ◌++◌, refl, sym, ◌∙◌, ap, arith, length, set, inl, inr, length-append}
use Rattle.std.proofs.Math.ListN.{get_or-eq_default}
use Rattle.std.proofs.lemmas.List.{get_or-set_other, get_or_append_left}
use Rattle.std.proofs.lemmas.Bool.{cases_lt}
use Rattle.span_arena.specs.declared.record.NodeRecord.{NodeRecord}
use Rattle.span_arena.specs.declared.record.NodeUse.{NodeUse}
use Rattle.span_arena.specs.declared.record.NodeUse.TheVariants.{Free, Reserved, Linked}
use Rattle.span_arena.specs.Runs.{walk, IsRun, IsFreeList, node_at, blank, version_of}

-- g is f but for node j
pub record IsChanged (f g : ℕ → NodeRecord) (j : ℕ) : Type 0 where
  pub others : (i : ℕ) → i ≢ j → g i ≡ f i

module _ (f g : ℕ → NodeRecord) (j : ℕ) (changed : IsChanged f g j) where
  -- a run in which j does not lie stays
  pub run_stays : (rank : ℕ → ℕ) (c bound k h : ℕ) → (f j).used ≢ Linked c → IsRun f rank c bound k h → IsRun g rank c bound k h
  run_stays rank c bound zero h apart run = tt
  run_stays rank c bound (suc k) h apart run =
      let e : g h ≡ f h = changed.others h (λ same. apart (rw same at run.0)) in
      rw e (run.0, run.1, run_stays rank c (rank h) k (f h).next apart run.2)

  pub walk_stays : (rank : ℕ → ℕ) (c bound k h : ℕ) → (f j).used ≢ Linked c → IsRun f rank c bound k h → walk g k h ≡ walk f k h
  walk_stays rank c bound zero h apart run = refl
  walk_stays rank c bound (suc k) h apart run =
      let e : g h ≡ f h = changed.others h (λ same. apart (rw same at run.0)) in
      rw e (ap (λ vs. (version_of (f h)) ∷ vs) (walk_stays rank c (rank h) k (f h).next apart run.2))

  -- a free list in which j does not lie stays
  pub free_stays : (k h : ℕ) → ((m : ℕ) → (f j).used ≡ Free m → k < m) → IsFreeList f k h → IsFreeList g k h
  free_stays zero h apart free = tt
  free_stays (suc k) h apart free =
      let e : g h ≡ f h = changed.others h (λ same.
      let p : (f j).used ≡ Free (suc k) = rw same at free.0 in
      let lt : suc k < suc k = apart (suc k) p in omega arith) in
      rw e (free.0, free_stays k (f h).next (λ m p. let lt : suc k < m = apart m p in omega arith) free.1)

-- a run in which j does not lie does not depend on its rank
pub ranks_stay : (f : ℕ → NodeRecord) (j : ℕ) (rank other : ℕ → ℕ) → ((i : ℕ) → i ≢ j → other i ≡ rank i) → (c bound k h : ℕ) → (f j).used ≢ Linked c → IsRun f rank c bound k h → IsRun f other c bound k h
ranks_stay f j rank other same c bound zero h apart run = tt
ranks_stay f j rank other same c bound (suc k) h apart run =
    let e : other h ≡ rank h = same h (λ here. apart (rw here at run.0)) in
    rw e (run.0, run.1, ranks_stay f j rank other same c (rank h) k (f h).next apart run.2)

-- a run below a bound is one below a higher bound
pub run_wider : (f : ℕ → NodeRecord) (rank : ℕ → ℕ) (c low high k h : ℕ) → low ≤ high → IsRun f rank c low k h → IsRun f rank c high k h
run_wider f rank c low high zero h le run = tt
run_wider f rank c low high (suc k) h le run = (run.0, (let lt : rank h < low = run.1 in omega arith), run.2)

pub changed-set : (nodes : List NodeRecord) (j : ℕ) (x : NodeRecord) → IsChanged (node_at nodes) (node_at (set nodes j x)) j
changed-set nodes j x = record { others = λ i differs. get_or-set_other nodes j i x blank differs }

pub changed-push : (nodes : List NodeRecord) (x : NodeRecord) → IsChanged (node_at nodes) (node_at (nodes ++ x ∷ [])) (length nodes)
changed-push nodes x = record {
  others = λ i differs. elim (cases_lt i (length nodes)) [
    | inl lt ↦ get_or_append_left nodes (x ∷ []) blank i lt
    | inr ge ↦ let far : length (nodes ++ x ∷ []) ≤ i = omega (arith, length-append nodes (x ∷ [])) in
        get_or-eq_default (nodes ++ x ∷ []) blank far ∙ sym (get_or-eq_default nodes blank ge)
  ];
}

pub reserved_apart : (p : NodeUse) (c d : ℕ) → p ≡ Reserved c → p ≢ Linked d
reserved_apart p c d e f = cc

pub free_apart : (p : NodeUse) (k d : ℕ) → p ≡ Free k → p ≢ Linked d
free_apart p k d e f = cc

pub linked_apart : (p : NodeUse) (c d : ℕ) → p ≡ Linked c → c ≢ d → p ≢ Linked d
linked_apart p c d e differs f = differs (let q : Linked c ≡ Linked d = sym e ∙ f in cc)
