-- The nodes in use are those of the keys' versions and prepared writes.
use Rattle.std.proofs.Common.{◌≡◌, ◌≢◌, ℕ, zero, suc, ◌+◌, ◌<◌, ◌≤◌, nat_eq, Bool, true, false, cond, List, [], ◌∷◌, Option, Some, None, length, get_or, refl, sym, ap, subst, ◌∙◌, arith, inl, inr}
use Rattle.std.specs.Prelude.{is_some}
use Rattle.std.specs.List.{AllByRecursion}
use Rattle.std.proofs.Math.ListN.{get_or-eq_default}
use Rattle.std.proofs.lemmas.Bool.{cases_lt, cases_eq}
use Rattle.std.proofs.lemmas.Bool.Decides.{nat_tests}
use Rattle.std.proofs.lemmas.List.{length-map}
use Rattle.std.proofs.lemmas.List.Sums.{sum_by-cons}
use Rattle.span_arena.specs.declared.version.ArenaVersion.{ArenaVersion}
use Rattle.span_arena.specs.Content.{Content, Prepared, versions_in, prepared_for, one_for, one_if, count_versions, count_prepared, IsInOrder}
use Rattle.span_arena.specs.Content as content
use Rattle.span_arena.proofs.Keeping.{chain_in_range}
use Rattle.span_keytree.specs.Items.{holders}
use Rattle.span_keytree.specs.Arenas.{one_if_chain, IsArenaOf}
use Rattle.span_keytree.specs.Entries.{KeyEntry}
use Rattle.span_store.specs.declared.node.PreparedNode.{PreparedNode}
use Rattle.span_store.specs.KeyLists.{kept_of, live}
use Rattle.span_store.specs.Stored.{version_of, chain_versions, is_for, write_of, write_for, kept_entry, all_kept, count_for, IsNodeOf, IsStored}

-- ---- sums over the numbers below one

sum_below : (ℕ → ℕ) → ℕ → ℕ
sum_below g zero = 0
sum_below g (suc n) = sum_below g n + g n

sum-add : (f g : ℕ → ℕ) (n : ℕ) → sum_below (λ c. f c + g c) n ≡ sum_below f n + sum_below g n
unfolding sum_below
sum-add f g zero = omega arith
sum-add f g (suc n) = omega (arith, sum-add f g n)

sum-same : (f g : ℕ → ℕ) → ((c : ℕ) → f c ≡ g c) → (n : ℕ) → sum_below f n ≡ sum_below g n
unfolding sum_below
sum-same f g same zero = refl
sum-same f g same (suc n) = omega (arith, sum-same f g same n, same n)

sum-none : (n : ℕ) → sum_below (λ c. 0) n ≡ 0
unfolding sum_below
sum-none zero = refl
sum-none (suc n) = omega (arith, sum-none n)

sum-first : (g : ℕ → ℕ) (n : ℕ) → sum_below g (suc n) ≡ g 0 + sum_below (λ c. g (suc c)) n
unfolding sum_below
sum-first g zero = omega arith
sum-first g (suc n) = omega (arith, sum-first g n)

-- what is counted at one number alone
pick : (ℕ → ℕ) → ℕ → ℕ → ℕ
pick g k c = cond (nat_eq k c) (g c) 0

pick_here : (g : ℕ → ℕ) (k c : ℕ) → k ≡ c → pick g k c ≡ g c
unfolding pick
pick_here g k c same = let t : nat_eq k c ≡ true = grind (arith, nat_tests) in ap (λ b. cond b (g c) 0) t

pick_elsewhere : (g : ℕ → ℕ) (k c : ℕ) → k ≢ c → pick g k c ≡ 0
unfolding pick
pick_elsewhere g k c differs = let t : nat_eq k c ≡ false = grind (arith, nat_tests) in ap (λ b. cond b (g c) 0) t

pick_past : (g : ℕ → ℕ) (k n : ℕ) → n ≤ k → sum_below (pick g k) n ≡ 0
unfolding sum_below
pick_past g k zero le = refl
pick_past g k (suc n) le = omega (arith, pick_past g k n (omega arith), pick_elsewhere g k n (λ e. (let f : k ≡ n = e in absurd (omega arith))))

pick_below : (g : ℕ → ℕ) (k n : ℕ) → k < n → sum_below (pick g k) n ≡ g k
unfolding sum_below
pick_below g k zero lt = absurd (omega arith)
pick_below g k (suc n) lt = elim (cases_eq k n) [
  | inl same ↦ (let e : g n ≡ g k = ap g (sym same) in let le : n ≤ k = omega arith in omega (arith, pick_past g k n le, pick_here g k n same, e))
  | inr differs ↦ (let below : k < n = omega arith in omega (arith, pick_below g k n below, pick_elsewhere g k n differs))
]

-- ---- a sum over entries is one over their chains

sum_entries : (ℕ → ℕ) → List KeyEntry → ℕ
sum_entries g [] = 0
sum_entries g (e ∷ es) = g e.chain.number + sum_entries g es

picked : (ℕ → ℕ) → List KeyEntry → ℕ → ℕ
picked g [] c = 0
picked g (e ∷ es) c = pick g e.chain.number c + picked g es c

entries_picked : (g : ℕ → ℕ) (n : ℕ) → ((c : ℕ) → n ≤ c → g c ≡ 0) → (es : List KeyEntry) → sum_entries g es ≡ sum_below (picked g es) n
unfolding sum_entries picked
entries_picked g n past [] = sym (sum-none n)
entries_picked g n past (e ∷ es) = elim (cases_lt e.chain.number n) [
  | inl lt ↦ omega (arith, entries_picked g n past es, pick_below g e.chain.number n lt, sum-add (pick g e.chain.number) (picked g es) n)
  | inr ge ↦ omega (arith, entries_picked g n past es, pick_past g e.chain.number n ge, past e.chain.number ge, sum-add (pick g e.chain.number) (picked g es) n)
]

picked_none : (g : ℕ → ℕ) (c : ℕ) (es : List KeyEntry) → holders c es ≡ 0 → picked g es c ≡ 0
unfolding picked
picked_none g c [] h = refl
picked_none g c (e ∷ es) h = elim (cases_eq e.chain.number c) [
  | inl same ↦ (let t : nat_eq e.chain.number c ≡ true = grind (arith, nat_tests) in
      let one : cond (nat_eq e.chain.number c) 1 0 + holders c es ≡ 1 + holders c es = ap (λ b. cond b 1 0 + holders c es) t in
      absurd (omega (arith, one, h)))
  | inr differs ↦ (let t : nat_eq e.chain.number c ≡ false = grind (arith, nat_tests) in
      let none : cond (nat_eq e.chain.number c) 1 0 + holders c es ≡ 0 + holders c es = ap (λ b. cond b 1 0 + holders c es) t in
      let rest : holders c es ≡ 0 = omega (arith, none, h) in
      omega (arith, picked_none g c es rest, pick_elsewhere g e.chain.number c differs))
]

picked_once : (g : ℕ → ℕ) (c : ℕ) (es : List KeyEntry) → holders c es ≡ 1 → picked g es c ≡ g c
unfolding picked
picked_once g c [] h = absurd (let f : ◌≡◌ {A = ℕ} 0 1 = h in omega arith)
picked_once g c (e ∷ es) h = elim (cases_eq e.chain.number c) [
  | inl same ↦ (let t : nat_eq e.chain.number c ≡ true = grind (arith, nat_tests) in
      let one : cond (nat_eq e.chain.number c) 1 0 + holders c es ≡ 1 + holders c es = ap (λ b. cond b 1 0 + holders c es) t in
      let rest : holders c es ≡ 0 = omega (arith, one, h) in
      omega (arith, picked_none g c es rest, pick_here g e.chain.number c same))
  | inr differs ↦ (let t : nat_eq e.chain.number c ≡ false = grind (arith, nat_tests) in
      let none : cond (nat_eq e.chain.number c) 1 0 + holders c es ≡ 0 + holders c es = ap (λ b. cond b 1 0 + holders c es) t in
      let rest : holders c es ≡ 1 = omega (arith, none, h) in
      omega (arith, picked_once g c es rest, pick_elsewhere g e.chain.number c differs))
]

-- each chain is that of one key
entries_sum : (es : List KeyEntry) (a : Content) (g : ℕ → ℕ) → IsArenaOf es a → ((c : ℕ) → get_or a.chains c None ≡ None → g c ≡ 0) → sum_entries g es ≡ sum_below g (length a.chains)
entries_sum es a g own none =
    entries_picked g (length a.chains) (λ c ge. none c (get_or-eq_default a.chains None ge)) es
    ∙ sum-same (picked g es) g (λ c. each c (get_or a.chains c None) refl (own.each c)) (length a.chains)
  where
    each : (c : ℕ) (o : Option (List ArenaVersion)) → get_or a.chains c None ≡ o → holders c es ≡ one_if_chain (get_or a.chains c None) → picked g es c ≡ g c
    each c None is held = picked_none g c es (held ∙ ap one_if_chain is) ∙ sym (none c is)
    each c (Some vs) is held = picked_once g c es (held ∙ ap one_if_chain is)

-- ---- versions

versions_sum : (cs : List (Option (List ArenaVersion))) → sum_below (λ c. length (versions_in (get_or cs c None))) (length cs) ≡ count_versions cs
unfolding sum_below
versions_sum [] = refl
versions_sum (x ∷ xs) = sum-first (λ c. length (versions_in (get_or (x ∷ xs) c None))) (length xs) ∙ ap (λ n. length (versions_in x) + n) (versions_sum xs)

-- ---- prepared writes

pick_one : (q : Prepared) (c : ℕ) → one_for c (Some q) ≡ pick (λ _. 1) q.chain c
unfolding pick
pick_one q c = refl

prepared_sum : (n : ℕ) (ps : List (Option Prepared)) → ((node : ℕ) (p : Prepared) → get_or ps node None ≡ Some p → p.chain < n) → sum_below (λ c. prepared_for c ps) n ≡ count_prepared ps
prepared_sum n [] h = sum-none n
prepared_sum n (p ∷ ps) h =
    sum-add (λ c. one_for c p) (λ c. prepared_for c ps) n ∙ ap (λ m. sum_below (λ c. one_for c p) n + m) (prepared_sum n ps (λ node q e. h (suc node) q e)) ∙ ap (λ m. m + count_prepared ps) (one p (h zero))
  where
    one : (p : Option Prepared) → ((q : Prepared) → p ≡ Some q → q.chain < n) → sum_below (λ c. one_for c p) n ≡ one_if p
    one None h = sum-none n
    one (Some q) h = sum-same (λ c. one_for c (Some q)) (pick (λ _. 1) q.chain) (λ c. picks c) n ∙ pick_below (λ _. 1) q.chain n (h q refl)
      where
        picks : (c : ℕ) → one_for c (Some q) ≡ pick (λ _. 1) q.chain c
        picks c = pick_one q c

-- ---- a key

once_counted : (a : Content) (c : ℕ) (ps : List PreparedNode) → count_for c ps ≤ 1 → cond (is_some (write_for a ps c)) 1 0 ≡ count_for c ps
once_counted a c [] le = refl
once_counted a c (p ∷ ps) le = cases (is_for c p) (once_counted a c ps) le
  where
    cases : (b : Bool) → (count_for c ps ≤ 1 → cond (is_some (write_for a ps c)) 1 0 ≡ count_for c ps) → cond b 1 0 + count_for c ps ≤ 1 → cond (is_some (cond b (Some (write_of a p)) (write_for a ps c))) 1 0 ≡ cond b 1 0 + count_for c ps
    cases true again h = omega arith
    cases false again h = (let e : cond (is_some (write_for a ps c)) 1 0 ≡ count_for c ps = again (omega arith) in omega (arith, e))

no_chain : (a : Content) (c : ℕ) (ps : List PreparedNode) → get_or a.chains c None ≡ None → AllByRecursion (IsNodeOf a) ps → count_for c ps ≡ 0
no_chain a c [] none h = refl
no_chain a c (p ∷ ps) none h = elim (cases_eq p.chain.number c) [
  | inl same ↦ (
      let some : get_or a.chains c None ≡ Some h.0.is_chain.0 = subst (λ d. get_or a.chains d None ≡ Some h.0.is_chain.0) same h.0.is_chain.1 in
      let f : None ≡ Some h.0.is_chain.0 = sym none ∙ some in absurd cc)
  | inr differs ↦ (
      let t : is_for c p ≡ false = grind (arith, nat_tests) in
      let zero_here : cond (is_for c p) 1 0 + count_for c ps ≡ 0 + count_for c ps = ap (λ b. cond b 1 0 + count_for c ps) t in
      omega (arith, zero_here, no_chain a c ps none h.1))
]

module _ (es : List KeyEntry) (a : Content) (ps : List PreparedNode) (stored : IsStored es a ps) (order : IsInOrder a) where
  weight : ℕ → ℕ
  weight c = length (versions_in (get_or a.chains c None)) + prepared_for c a.prepared

  keys_sum : (xs : List KeyEntry) → live (all_kept a ps xs) ≡ sum_entries weight xs
  unfolding sum_entries weight
  keys_sum [] = refl
  keys_sum (e ∷ xs) =
      let c = e.chain.number in
      let long : length (chain_versions a c) ≡ length (versions_in (get_or a.chains c None)) = length-map (versions_in (get_or a.chains c None)) version_of in
      let one : cond (is_some (write_for a ps c)) 1 0 ≡ count_for c ps = once_counted a c ps (stored.owned.once c) in
      sum_by-cons kept_of (kept_entry a ps e) (all_kept a ps xs) ∙ omega (arith, long, one, stored.owned.counted c, keys_sum xs)

  nothing : (c : ℕ) → get_or a.chains c None ≡ None → weight c ≡ 0
  unfolding weight
  nothing c none =
      let v : length (versions_in (get_or a.chains c None)) ≡ 0 = ap (λ (o : Option (List ArenaVersion)). length (versions_in o)) none in
      omega (arith, v, stored.owned.counted c, no_chain a c ps none stored.owned.nodes)

  weights : sum_below weight (length a.chains) ≡ content.live a
  unfolding weight
  weights =
      sum-add (λ c. length (versions_in (get_or a.chains c None))) (λ c. prepared_for c a.prepared) (length a.chains)
      ∙ ap (λ m. m + sum_below (λ c. prepared_for c a.prepared) (length a.chains)) (versions_sum a.chains)
      ∙ ap (λ m. count_versions a.chains + m) (prepared_sum (length a.chains) a.prepared (λ node p e. chain_in_range a p.chain (order.for_chains node p e)))

  pub live_is : content.live a ≡ live (all_kept a ps es)
  live_is = sym (keys_sum es ∙ entries_sum es a weight stored.own nothing ∙ weights)
