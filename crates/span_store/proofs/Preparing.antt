-- A row is prepared in one node more.
use Rattle.std.proofs.Common.{◌≡◌, ◌≢◌, ℕ, zero, suc, ◌+◌, ◌<◌, ◌≤◌, nat_eq, true, false, cond, List, [], ◌∷◌, ◌++◌, Option, Some, None, length, get_or, set, take, drop, refl, sym, ap, subst, ◌∙◌, arith, inl, inr}
use Rattle.std.specs.Prelude.{nat_lt}
use Rattle.std.specs.List.{AllByRecursion}
use Rattle.std.proofs.lemmas.Bool.{cases_lt, cases_eq}
use Rattle.std.proofs.lemmas.Bool.Decides.{nat_tests}
use Rattle.std.proofs.lemmas.List.{append-nil, take-append-drop, take_more, take_all, get_or_default}
use Rattle.span_value.specs.declared.refusal.Refusal.{Refusal}
use Rattle.span_value.proofs.Lists.{all_append, all_weaker, drop_read}
use Rattle.span_arena.specs.Content.{Content, Prepared, prepared_at, prepared_for, one_for, sum_for, with_at, IsChain, IsInOrder, IsReserved, IsRefusedNode, given_back}
use Rattle.span_arena.proofs.Counts.{sum-set, sum-push}
use Rattle.span_arena.proofs.Keeping.{with_at-other, chain_stays, prepared_now}
use Rattle.span_keytree.proofs.Rising.{all_front}
use Rattle.span_keyindex.proofs.Keeping.{same-equal, chain_same}
use Rattle.span_store.specs.declared.chain.PreparedWrite.{PreparedWrite}
use Rattle.span_store.specs.declared.node.PreparedNode.{PreparedNode}
use Rattle.span_store.specs.Stored.{is_for, image_of, write_for, count_for, IsNodeOf, AreOwned, HasPrepared, IsPlaceFor}
use Rattle.span_store.proofs.Owned.{all_back_of, count-append, one_of, count-middle, in_range-some, write-skip, write-here, write-same, owned_without, write_elsewhere}

-- a sum with a node where nothing was prepared
sum-with_at : (c : ℕ) (ps : List (Option Prepared)) (i : ℕ) (p : Option Prepared) → i ≤ length ps → get_or ps i None ≡ None → sum_for (one_for c) (with_at ps i p) ≡ sum_for (one_for c) ps + one_for c p
sum-with_at c ps i p le none = elim (cases_lt i (length ps)) [
  | inl lt ↦ (let t : nat_lt i (length ps) ≡ true = grind (arith, nat_tests) in
      let z : one_for c (get_or ps i None) ≡ 0 = ap (one_for c) none in
      rw t (omega (arith, sum-set (one_for c) ps i p lt)))
  | inr ge ↦ (let t : nat_lt i (length ps) ≡ false = grind (arith, nat_tests) in rw t (sum-push (one_for c) ps p))
]

module _ (a b : Content) (xs ys : List PreparedNode) (p : PreparedNode) (image : Option (List ℕ)) (owned : AreOwned a (xs ++ ys)) (vacant : count_for p.chain.number (xs ++ ys) ≡ 0)
    (chain : IsChain a p.chain.number) (reserved : IsReserved a b p.chain.number image p.node.number) where
  one : one_of p.chain.number p ≡ 1
  one = let t : nat_eq p.chain.number p.chain.number ≡ true = grind (arith, nat_tests) in ap (λ b. cond b 1 0) t

  other_node : (q : PreparedNode) → IsNodeOf a q → prepared_at b q.node.number ≡ prepared_at a q.node.number
  other_node q h =
      let apart : q.node.number ≢ p.node.number = λ e. (
      let f : ◌≡◌ {A = Option Prepared} None (Some (record { chain = q.chain.number; image = h.image })) = sym reserved.was_none ∙ ap (prepared_at a) (sym e) ∙ h.prepared in absurd cc) in
      ap (λ (x : Content). prepared_at x q.node.number) reserved.now
      ∙ with_at-other a.prepared p.node.number q.node.number (Some (record { chain = p.chain.number; image = image })) None apart (in_range-some a.prepared q.node.number _ h.prepared)

  node_stays : (q : PreparedNode) → IsNodeOf a q → IsNodeOf b q
  node_stays q h = record { image = h.image; prepared = other_node q h ∙ h.prepared; is_chain = chain_stays a b p.chain.number p.node.number q.chain.number image reserved h.is_chain }

  new_node : IsNodeOf b p
  new_node = record { image = image; prepared = prepared_now a b p.chain.number p.node.number image reserved; is_chain = chain_stays a b p.chain.number p.node.number p.chain.number image reserved chain }

  stay : AllByRecursion (λ (q : PreparedNode). prepared_at b q.node.number ≡ prepared_at a q.node.number) (xs ++ ys)
  stay = all_weaker (IsNodeOf a) (λ (q : PreparedNode). prepared_at b q.node.number ≡ prepared_at a q.node.number) other_node (xs ++ ys) owned.nodes

  owned_with : AreOwned b (xs ++ p ∷ ys)
  owned_with = record {
    nodes =
        let all = all_weaker (IsNodeOf a) (IsNodeOf b) node_stays (xs ++ ys) owned.nodes in
        all_append (IsNodeOf b) xs (p ∷ ys) (all_front (IsNodeOf b) xs ys all) (new_node, all_back_of (IsNodeOf b) xs ys all);
    counted = λ c. (
        let s : prepared_for c (with_at a.prepared p.node.number (Some (record { chain = p.chain.number; image = image }))) ≡ prepared_for c a.prepared + one_of c p = sum-with_at c a.prepared p.node.number _ reserved.number reserved.was_none in
        let now : prepared_for c b.prepared ≡ prepared_for c (with_at a.prepared p.node.number (Some (record { chain = p.chain.number; image = image }))) = ap (λ (x : Content). prepared_for c x.prepared) reserved.now in
        omega (arith, count-middle c xs ys p, owned.counted c));
    once = λ c. elim (cases_eq p.chain.number c) [
      | inl same ↦ (let n : count_for p.chain.number (xs ++ p ∷ ys) ≤ 1 = omega (arith, count-middle p.chain.number xs ys p, vacant, one) in rw (← same) n)
      | inr differs ↦ (let t : nat_eq p.chain.number c ≡ false = grind (arith, nat_tests) in
          let none : one_of c p ≡ 0 = ap (λ b. cond b 1 0) t in
          omega (arith, count-middle c xs ys p, owned.once c))
    ];
  }

  write_with : (d : ℕ) → write_for b (xs ++ p ∷ ys) d ≡ cond (nat_eq p.chain.number d) (Some (record { txn = p.txn; row = image })) (write_for a (xs ++ ys) d)
  write_with d = elim (cases_eq p.chain.number d) [
    | inl same ↦ (let t : nat_eq p.chain.number d ≡ true = grind (arith, nat_tests) in
        let none : count_for d xs ≡ 0 = (let n : count_for p.chain.number xs ≡ 0 = omega (arith, count-append p.chain.number xs ys, vacant) in rw (← same) n) in
        write-here b d xs ys p none t ∙ ap (λ (o : Option Prepared). Some (record { txn = p.txn; row = image_of o })) (prepared_now a b p.chain.number p.node.number image reserved)
        ∙ sym (ap (λ v. cond v (Some (record { txn = p.txn; row = image })) (write_for a (xs ++ ys) d)) t))
    | inr differs ↦ (let t : nat_eq p.chain.number d ≡ false = grind (arith, nat_tests) in
        write-skip b d xs ys p t ∙ write-same a b d (xs ++ ys) stay ∙ sym (ap (λ v. cond v (Some (record { txn = p.txn; row = image })) (write_for a (xs ++ ys) d)) t))
  ]

  pub prepared_with : HasPrepared a b (xs ++ ys) (xs ++ p ∷ ys) p.chain.number (record { txn = p.txn; row = image })
  prepared_with = record { owned = owned_with; most = ap (λ (x : Content). x.most) reserved.now; chains = ap (λ (x : Content). x.chains) reserved.now; cells = ap (λ (x : Content). x.cells) reserved.now; writes = write_with }

-- a node after the others
pub prepared_push : (a b : Content) (ps qs : List PreparedNode) (p : PreparedNode) (image : Option (List ℕ)) → AreOwned a ps → nat_lt 0 (prepared_for p.chain.number a.prepared) ≡ false → IsChain a p.chain.number
    → IsReserved a b p.chain.number image p.node.number → qs ≡ ps ++ p ∷ [] → HasPrepared a b ps qs p.chain.number (record { txn = p.txn; row = image })
prepared_push a b ps qs p image owned vacant chain reserved is =
    let whole : ps ++ [] ≡ ps = append-nil ps in
    let none : count_for p.chain.number ps ≡ 0 = (let n : prepared_for p.chain.number a.prepared ≡ 0 = grind (arith, nat_tests) in omega (arith, owned.counted p.chain.number)) in
    let made : HasPrepared a b (ps ++ []) (ps ++ p ∷ []) p.chain.number (record { txn = p.txn; row = image }) =
    prepared_with a b ps [] p image (subst (AreOwned a) (sym whole) owned) (ap (count_for p.chain.number) whole ∙ none) chain reserved in
    subst (λ (l : List PreparedNode). HasPrepared a b l qs p.chain.number (record { txn = p.txn; row = image })) whole
    (subst (λ (l : List PreparedNode). HasPrepared a b (ps ++ []) l p.chain.number (record { txn = p.txn; row = image })) (sym is) made)

pub some_for : (a : Content) (ps : List PreparedNode) (c : ℕ) → AreOwned a ps → nat_lt 0 (prepared_for c a.prepared) ≡ true → 0 < count_for c ps
some_for a ps c owned some = let n : 0 < prepared_for c a.prepared = grind (arith, nat_tests) in omega (arith, owned.counted c)

-- ---- a node in the place of another

set_in_parts : (ps : List PreparedNode) (i : ℕ) (p : PreparedNode) → i < length ps → set ps i p ≡ take i ps ++ p ∷ drop (i + 1) ps
set_in_parts [] i p lt = absurd (let l : i < 0 = lt in omega arith)
set_in_parts (x ∷ xs) zero p lt = refl
set_in_parts (x ∷ xs) (suc i) p lt =
    let n : suc i + 1 ≡ suc (i + 1) = omega arith in
    ap (λ (l : List PreparedNode). x ∷ l) (set_in_parts xs i p (omega arith)) ∙ ap (λ k. x ∷ (take i xs ++ p ∷ drop k (x ∷ xs))) (sym n)

-- after a node was given back one is free
pub never_refused : (a : Content) (n : ℕ) (b : Content) (P : Type 0) (why : Refusal) → b ≡ given_back a n → IsInOrder b → IsRefusedNode b why → P
never_refused a n b P why is order refused =
    let free : b.free ≡ a.free + 1 = ap (λ (x : Content). x.free) is in
    elim refused [
      | inl full ↦ absurd (omega (arith, free, order.placed, order.bounded, full.1))
      | inr wanted ↦ absurd (omega (arith, free, wanted.2))
    ]

module _ (a b d : Content) (ps qs : List PreparedNode) (i : ℕ) (q p : PreparedNode) (image : Option (List ℕ)) (owned : AreOwned a ps) (place : IsPlaceFor p.chain.number ps i) (read : q ≡ get_or ps i q) where
  split : ps ≡ take i ps ++ q ∷ drop (i + 1) ps
  split = sym (take-append-drop i ps) ∙ ap (λ (l : List PreparedNode). take i ps ++ l) (drop_read ps i q place.in_range read)

  owned_here : AreOwned a (take i ps ++ q ∷ drop (i + 1) ps)
  owned_here = subst (AreOwned a) split owned

  chain_is : q.chain.number ≡ p.chain.number
  chain_is = ap (λ (x : PreparedNode). x.chain.number) read ∙ place.is_for q

  pub node_of : IsNodeOf a q
  node_of = (all_back_of (IsNodeOf a) (take i ps) (q ∷ drop (i + 1) ps) owned_here.nodes).0

  module _ (back : b ≡ given_back a q.node.number) where
    prepared_is : b.prepared ≡ set a.prepared q.node.number None
    prepared_is = ap (λ (x : Content). x.prepared) back

    chains_are : b.chains ≡ a.chains
    chains_are = ap (λ (x : Content). x.chains) back

    pub chain_here : IsChain b p.chain.number
    chain_here = subst (IsChain b) chain_is (chain_same a b q.chain.number (same-equal a b chains_are) node_of.is_chain)

    pub owned_back : AreOwned b (take i ps ++ drop (i + 1) ps)
    owned_back = owned_without a b (take i ps) (drop (i + 1) ps) q owned_here prepared_is (same-equal a b chains_are)

    vacant_back : count_for p.chain.number (take i ps ++ drop (i + 1) ps) ≡ 0
    vacant_back =
        let t : nat_eq q.chain.number q.chain.number ≡ true = grind (arith, nat_tests) in
        let one : one_of q.chain.number q ≡ 1 = ap (λ b. cond b 1 0) t in
        subst (λ c. count_for c (take i ps ++ drop (i + 1) ps) ≡ 0) chain_is (omega (arith, count-middle q.chain.number (take i ps) (drop (i + 1) ps) q, owned_here.once q.chain.number))

    module _ (reserved : IsReserved b d p.chain.number image p.node.number) (is : qs ≡ set ps i p) where
      whole : qs ≡ take i ps ++ p ∷ drop (i + 1) ps
      whole = is ∙ set_in_parts ps i p place.in_range

      instead : HasPrepared b d (take i ps ++ drop (i + 1) ps) (take i ps ++ p ∷ drop (i + 1) ps) p.chain.number (record { txn = p.txn; row = image })
      instead = prepared_with b d (take i ps) (drop (i + 1) ps) p image owned_back vacant_back chain_here reserved

      pub prepared_there : HasPrepared a d ps qs p.chain.number (record { txn = p.txn; row = image })
      prepared_there = record {
        owned = subst (AreOwned d) (sym whole) instead.owned;
        most = instead.most ∙ ap (λ (x : Content). x.most) back;
        chains = instead.chains ∙ chains_are;
        cells = instead.cells ∙ ap (λ (x : Content). x.cells) back;
        writes = λ e. ap (λ (l : List PreparedNode). write_for d l e) whole ∙ instead.writes e ∙ elim (cases_eq p.chain.number e) [
          | inl same ↦ (let t : nat_eq p.chain.number e ≡ true = grind (arith, nat_tests) in
              ap (λ v. cond v (Some (record { txn = p.txn; row = image })) (write_for b (take i ps ++ drop (i + 1) ps) e)) t ∙ sym (ap (λ v. cond v (Some (record { txn = p.txn; row = image })) (write_for a ps e)) t))
          | inr differs ↦ (
              let apart : q.chain.number ≢ e = λ f. differs (sym chain_is ∙ f) in
              ap (λ (o : Option PreparedWrite). cond (nat_eq p.chain.number e) (Some (record { txn = p.txn; row = image })) o)
              (write_elsewhere a b (take i ps) (drop (i + 1) ps) q owned_here prepared_is (same-equal a b chains_are) e apart ∙ ap (λ (l : List PreparedNode). write_for a l e) (sym split)))
        ];
      }

-- ---- where a chain's node is

pub none_more : (ps : List PreparedNode) (i c : ℕ) (p : PreparedNode) → i < length ps → p ≡ get_or ps i p → is_for c p ≡ false → count_for c (take i ps) ≡ 0 → count_for c (take (i + 1) ps) ≡ 0
none_more ps i c p lt read other none =
    let more : take (i + 1) ps ≡ take i ps ++ p ∷ [] = take_more ps i p lt ∙ ap (λ (q : PreparedNode). take i ps ++ q ∷ []) (sym read) in
    let zero_here : one_of c p ≡ 0 = ap (λ b. cond b 1 0) other in
    ap (count_for c) more ∙ omega (arith, count-append c (take i ps) (p ∷ []))

pub place_found : (ps : List PreparedNode) (i c : ℕ) (p : PreparedNode) → i < length ps → p ≡ get_or ps i p → is_for c p ≡ true → IsPlaceFor c ps i
place_found ps i c p lt read its = record {
  in_range = lt;
  is_for = λ d. (let n : p.chain.number ≡ c = grind (arith, nat_tests) in ap (λ (q : PreparedNode). q.chain.number) (get_or_default ps i d p lt ∙ sym read) ∙ n);
}

pub none_at_all : (ps : List PreparedNode) (i c : ℕ) (P : Type 0) → length ps ≤ i → count_for c (take i ps) ≡ 0 → 0 < count_for c ps → P
none_at_all ps i c P le none some = let e : count_for c (take i ps) ≡ count_for c ps = ap (count_for c) (take_all i ps le) in absurd (omega arith)
