-- Steps that are taken one after another.
use Rattle.std.proofs.Common.{◌≡◌, ◌∙◌, ℕ, ◌+◌, ◌<◌, ◌-◌, zero, suc, List, [], ◌∷◌, ◌++◌, false, refl, sym, ap, subst, append_assoc, arith, map}
use Rattle.std.proofs.lemmas.List.{append-nil, map-append}
use Rattle.std.proofs.lemmas.Grind.{flat_map-append}
use Rattle.std.specs.List.{flat_map, range_with_len}
use Rattle.span_value.specs.declared.refusal.Refusal.{Refusal}
use Rattle.span_truetime.specs.declared.interval.Interval.{Interval}
use Rattle.span_schema.specs.declared.table.Table.{Table}
use Rattle.span_machine.specs.declared.step.Step.{Step}
use Rattle.span_machine.specs.declared.step.Step.TheVariants as step
use Rattle.span_machine.specs.declared.step.Reply.{Reply}
use Rattle.span_machine.specs.declared.step.Reply.TheVariants.{Refused}
use Rattle.span_machine.specs.Machine.{Machine}
use Rattle.span_steps.specs.Steps.{Takes, AreTaken, AreRefused, is_refused, scans, scans_of_leaf}

-- ---- numbers in order

range_parts : (a n k : ℕ) → range_with_len a (n + k) ≡ range_with_len a n ++ range_with_len (a + n) k
range_parts a zero k = let e : 0 + k ≡ k = omega arith in let f : a + 0 ≡ a = omega arith in rw (e, f) refl
range_parts a (suc n) k =
    let e : suc n + k ≡ suc (n + k) = omega arith in
    let f : a + suc n ≡ a + 1 + n = omega arith in
    ap (λ l. range_with_len a l) e ∙ ap (λ (w : List ℕ). a ∷ w) (range_parts (a + 1) n k ∙ ap (λ b. range_with_len (a + 1) n ++ range_with_len b k) (sym f))

-- one more
range_more : (n : ℕ) → range_with_len 0 (n + 1) ≡ range_with_len 0 n ++ n ∷ []
range_more n = range_parts 0 n 1 ∙ (let e : 0 + n ≡ n = omega arith in ap (λ b. range_with_len 0 n ++ b ∷ []) e)

-- those before one, it, and those after it
range_cut : (i n : ℕ) → i < n → (after : List ℕ) × (range_with_len 0 n ≡ range_with_len 0 i ++ i ∷ after)
range_cut i n below =
    let k : ℕ = n - (i + 1) in
    let e : i + suc k ≡ n = omega arith in
    let f : 0 + i ≡ i = omega arith in
    (range_with_len (i + 1) k, ap (λ l. range_with_len 0 l) (sym e) ∙ range_parts 0 i (suc k) ∙ ap (λ b. range_with_len 0 i ++ b ∷ range_with_len (b + 1) k) f)

-- ---- steps

module _ (schema : List Table) where
  pub taken_on : (m : Machine) (xs ys : List Step) (mid last : Machine) → AreTaken schema m xs mid → AreTaken schema mid ys last → AreTaken schema m (xs ++ ys) last
  taken_on m [] ys mid last first second = subst (λ n. AreTaken schema n ys last) first second
  taken_on m (x ∷ xs) ys mid last first second = (first.0, first.1, first.2, first.3, taken_on first.1 xs ys mid last first.4 second)

  pub taken_one : (m : Machine) (xs : List Step) (s : Step) (answered : Reply) (mid last : Machine) → AreTaken schema m xs mid → Takes schema mid s answered last
      → is_refused answered ≡ false → AreTaken schema m (xs ++ s ∷ []) last
  taken_one m xs s answered mid last first second not = taken_on m xs (s ∷ []) mid last first (answered, last, second, not, refl)

  -- after steps that were taken, a step is refused
  pub refused_here : (m : Machine) (xs : List Step) (s : Step) (ys all : List Step) (why : Refusal) (mid last : Machine) → AreTaken schema m xs mid
      → Takes schema mid s (Refused why) last → all ≡ xs ++ s ∷ ys → AreRefused schema m all why last
  refused_here m xs s ys all why mid last taken refused is =
      record { before = xs; first = s; after = ys; in_order = is; mid = mid; taken = taken; refused = refused }

  -- after steps that were taken, steps are refused, and others would follow
  pub refused_on : (m : Machine) (xs ys zs all : List Step) (why : Refusal) (mid last : Machine) → AreTaken schema m xs mid
      → AreRefused schema mid ys why last → all ≡ xs ++ (ys ++ zs) → AreRefused schema m all why last
  refused_on m xs ys zs all why mid last taken refused is = record {
    before = xs ++ refused.before;
    first = refused.first;
    after = refused.after ++ zs;
    in_order = is ∙ ap (λ (w : List Step). xs ++ (w ++ zs)) refused.in_order
        ∙ ap (λ (w : List Step). xs ++ w) (append_assoc refused.before (refused.first ∷ refused.after) zs)
        ∙ sym (append_assoc xs refused.before (refused.first ∷ (refused.after ++ zs)));
    mid = refused.mid;
    taken = taken_on m xs refused.before mid refused.mid taken refused.taken;
    refused = refused.refused;
  }

  -- ---- the scans of a leaf

  pub leaf_more : (clock : Interval) (query leaf slot : ℕ) (m : Machine) (answered : Reply) (mid last : Machine) → AreTaken schema m (scans_of_leaf clock query slot leaf) mid
      → Takes schema mid (step.Scan query leaf slot clock) answered last → is_refused answered ≡ false → AreTaken schema m (scans_of_leaf clock query (slot + 1) leaf) last
  leaf_more clock query leaf slot m answered mid last taken here not =
      let scan : ℕ → Step = λ slot. step.Scan query leaf slot clock in
      let is : scans_of_leaf clock query (slot + 1) leaf ≡ scans_of_leaf clock query slot leaf ++ scan slot ∷ [] = ap (map scan) (range_more slot) ∙ map-append scan (range_with_len 0 slot) (slot ∷ []) in
      subst (λ (l : List Step). AreTaken schema m l last) (sym is) (taken_one m (scans_of_leaf clock query slot leaf) (scan slot) answered mid last taken here not)

  pub leaf_refused : (clock : Interval) (query leaf slot slots : ℕ) (m : Machine) (why : Refusal) (mid last : Machine) → slot < slots
      → AreTaken schema m (scans_of_leaf clock query slot leaf) mid → Takes schema mid (step.Scan query leaf slot clock) (Refused why) last
      → AreRefused schema m (scans_of_leaf clock query slots leaf) why last
  leaf_refused clock query leaf slot slots m why mid last below taken here =
      let scan : ℕ → Step = λ slot. step.Scan query leaf slot clock in
      let cut = range_cut slot slots below in
      refused_here m (scans_of_leaf clock query slot leaf) (scan slot) (map scan cut.0) (scans_of_leaf clock query slots leaf) why mid last taken here
      (ap (map scan) cut.1 ∙ map-append scan (range_with_len 0 slot) (slot ∷ cut.0))

  -- ---- the scans of leaves

  pub leaves_more : (clock : Interval) (query slots leaf : ℕ) (m mid last : Machine) → AreTaken schema m (scans clock query slots leaf) mid
      → AreTaken schema mid (scans_of_leaf clock query slots leaf) last → AreTaken schema m (scans clock query slots (leaf + 1)) last
  leaves_more clock query slots leaf m mid last taken here =
      let of_leaf : ℕ → List Step = scans_of_leaf clock query slots in
      let is : scans clock query slots (leaf + 1) ≡ scans clock query slots leaf ++ of_leaf leaf
      = ap (flat_map of_leaf) (range_more leaf) ∙ flat_map-append of_leaf (range_with_len 0 leaf) (leaf ∷ [])
      ∙ ap (λ (w : List Step). scans clock query slots leaf ++ w) (append-nil (of_leaf leaf)) in
      subst (λ (l : List Step). AreTaken schema m l last) (sym is) (taken_on m (scans clock query slots leaf) (of_leaf leaf) mid last taken here)

  pub leaves_refused : (clock : Interval) (query slots leaf leaves : ℕ) (m : Machine) (why : Refusal) (mid last : Machine) → leaf < leaves
      → AreTaken schema m (scans clock query slots leaf) mid → AreRefused schema mid (scans_of_leaf clock query slots leaf) why last
      → AreRefused schema m (scans clock query slots leaves) why last
  leaves_refused clock query slots leaf leaves m why mid last below taken here =
      let of_leaf : ℕ → List Step = scans_of_leaf clock query slots in
      let cut = range_cut leaf leaves below in
      refused_on m (scans clock query slots leaf) (of_leaf leaf) (flat_map of_leaf cut.0) (scans clock query slots leaves) why mid last taken here
      (ap (flat_map of_leaf) cut.1 ∙ flat_map-append of_leaf (range_with_len 0 leaf) (leaf ∷ cut.0))
