-- The nodes in which writes are prepared: what is seen through them, and what one node more or less changes.
use Rattle.std.proofs.Common.{◌≡◌, ◌≢◌, ℕ, ◌+◌, ◌<◌, nat_eq, Bool, true, false, cond, List, [], ◌∷◌, ◌++◌, Option, Some, None, length, get_or, set, refl, sym, ap, ◌∙◌, arith, inl, inr}
use Rattle.std.specs.List.{AllByRecursion}
use Rattle.std.proofs.Math.ListN.{get_or-eq_default}
use Rattle.std.proofs.lemmas.Bool.{cases_lt}
use Rattle.std.proofs.lemmas.Bool.Decides.{nat_tests}
use Rattle.std.proofs.lemmas.List.{get_or-set_other}
use Rattle.span_value.proofs.Lists.{all_append, all_weaker, all_both}
use Rattle.span_arena.specs.Content.{Content, Prepared, prepared_at, prepared_for, one_for}
use Rattle.span_arena.proofs.Counts.{sum-set}
use Rattle.span_keytree.specs.Arenas.{HasSameChains}
use Rattle.span_keytree.proofs.Rising.{all_front}
use Rattle.span_keyindex.specs.Indexes.{entries_of}
use Rattle.span_keyindex.specs.declared.index.KeyIndex.{KeyIndex}
use Rattle.span_keyindex.proofs.Keeping.{chain_same}
use Rattle.span_store.specs.declared.chain.Version.{Version}
use Rattle.span_store.specs.declared.chain.PreparedWrite.{PreparedWrite}
use Rattle.span_store.specs.declared.node.PreparedNode.{PreparedNode}
use Rattle.span_store.specs.KeyVersions.{KeyVersions}
use Rattle.span_store.specs.Stored.{is_for, image_of, write_of, write_for, count_for, IsNodeOf, AreOwned, IsStored, IsKept}

pub all_back_of : {X : Type 0} (P : X → Type 0) (xs ys : List X) → AllByRecursion P (xs ++ ys) → AllByRecursion P ys
all_back_of P [] ys h = h
all_back_of P (x ∷ xs) ys h = all_back_of P xs ys h.1

-- ---- how many are prepared for a chain

pub count-append : (c : ℕ) (xs ys : List PreparedNode) → count_for c (xs ++ ys) ≡ count_for c xs + count_for c ys
count-append c [] ys = omega arith
count-append c (x ∷ xs) ys = omega (arith, count-append c xs ys)

abbrev pub one_of : ℕ → PreparedNode → ℕ
one_of c p = cond (is_for c p) 1 0

pub count-middle : (c : ℕ) (xs ys : List PreparedNode) (p : PreparedNode) → count_for c (xs ++ p ∷ ys) ≡ count_for c (xs ++ ys) + one_of c p
count-middle c xs ys p = omega (arith, count-append c xs (p ∷ ys), count-append c xs ys)

pub zero_for : (b : Bool) → ◌≡◌ {A = ℕ} (cond b 1 0) 0 → b ≡ false
zero_for true h = absurd (let f : ◌≡◌ {A = ℕ} 1 0 = h in omega arith)
zero_for false h = refl

pub none_for : (c : ℕ) (ps : List PreparedNode) → count_for c ps ≡ 0 → AllByRecursion (λ (p : PreparedNode). is_for c p ≡ false) ps
none_for c [] e = tt
none_for c (p ∷ ps) e = (zero_for (is_for c p) (let f : cond (is_for c p) 1 0 + count_for c ps ≡ 0 = e in omega arith), none_for c ps (let f : cond (is_for c p) 1 0 + count_for c ps ≡ 0 = e in omega arith))

-- ---- what is prepared for a chain

pub write-none : (a : Content) (c : ℕ) (ps : List PreparedNode) → count_for c ps ≡ 0 → write_for a ps c ≡ None
write-none a c ps e = go ps (none_for c ps e)
  where
    go : (ps : List PreparedNode) → AllByRecursion (λ (p : PreparedNode). is_for c p ≡ false) ps → write_for a ps c ≡ None
    go [] h = refl
    go (p ∷ ps) h = ap (λ b. cond b (Some (write_of a p)) (write_for a ps c)) h.0 ∙ go ps h.1

pub write-skip : (a : Content) (c : ℕ) (xs ys : List PreparedNode) (p : PreparedNode) → is_for c p ≡ false → write_for a (xs ++ p ∷ ys) c ≡ write_for a (xs ++ ys) c
write-skip a c [] ys p e = ap (λ b. cond b (Some (write_of a p)) (write_for a ys c)) e
write-skip a c (x ∷ xs) ys p e = ap (λ (o : Option PreparedWrite). cond (is_for c x) (Some (write_of a x)) o) (write-skip a c xs ys p e)

pub write-here : (a : Content) (c : ℕ) (xs ys : List PreparedNode) (p : PreparedNode) → count_for c xs ≡ 0 → is_for c p ≡ true → write_for a (xs ++ p ∷ ys) c ≡ Some (write_of a p)
write-here a c xs ys p e its = go xs (none_for c xs e)
  where
    go : (xs : List PreparedNode) → AllByRecursion (λ (q : PreparedNode). is_for c q ≡ false) xs → write_for a (xs ++ p ∷ ys) c ≡ Some (write_of a p)
    go [] h = ap (λ b. cond b (Some (write_of a p)) (write_for a ys c)) its
    go (x ∷ xs) h = ap (λ b. cond b (Some (write_of a x)) (write_for a (xs ++ p ∷ ys) c)) h.0 ∙ go xs h.1

pub write-same : (a b : Content) (c : ℕ) (ps : List PreparedNode) → AllByRecursion (λ (q : PreparedNode). prepared_at b q.node.number ≡ prepared_at a q.node.number) ps → write_for b ps c ≡ write_for a ps c
write-same a b c [] h = refl
write-same a b c (p ∷ ps) h =
    ap (λ (o : Option PreparedWrite). cond (is_for c p) (Some (write_of b p)) o) (write-same a b c ps h.1)
    ∙ ap (λ (o : Option Prepared). cond (is_for c p) (Some (record { txn = p.txn; row = image_of o })) (write_for a ps c)) h.0

-- ---- one node

pub in_range-some : (ps : List (Option Prepared)) (i : ℕ) (q : Prepared) → get_or ps i None ≡ Some q → i < length ps
in_range-some ps i q e = elim (cases_lt i (length ps)) [
  | inl lt ↦ lt
  | inr ge ↦ (let f : None ≡ Some q = sym (get_or-eq_default ps None ge) ∙ e in absurd cc)
]

abbrev chain_of : Option Prepared → ℕ
chain_of None = 0
chain_of (Some p) = p.chain

-- nodes for two chains are two nodes
node_apart : (a : Content) (p q : PreparedNode) → IsNodeOf a p → IsNodeOf a q → is_for p.chain.number q ≡ false → q.node.number ≢ p.node.number
node_apart a p q at_p at_q other e =
    let s : ◌≡◌ {A = Option Prepared} (Some (record { chain = q.chain.number; image = at_q.image })) (Some (record { chain = p.chain.number; image = at_p.image })) = sym at_q.prepared ∙ ap (prepared_at a) e ∙ at_p.prepared in
    let n : q.chain.number ≡ p.chain.number = ap chain_of s in
    let t : nat_eq q.chain.number p.chain.number ≡ true = grind (arith, nat_tests) in
    let f : true ≡ false = sym t ∙ other in absurd cc

stays : (a b : Content) (p q : PreparedNode) → IsNodeOf a p → b.prepared ≡ set a.prepared p.node.number None → IsNodeOf a q → is_for p.chain.number q ≡ false → prepared_at b q.node.number ≡ prepared_at a q.node.number
stays a b p q at_p is at_q other =
    ap (λ (ps : List (Option Prepared)). get_or ps q.node.number None) is ∙ get_or-set_other a.prepared p.node.number q.node.number None None (node_apart a p q at_p at_q other)

abbrev pub made : List ℕ → List Version → Option PreparedWrite → KeyVersions
made key vs p = record { key = key; versions = vs; prepared = p }

pub kept_equal : (key : List ℕ) (vs ws : List Version) (p q : Option PreparedWrite) → vs ≡ ws → p ≡ q → made key vs p ≡ made key ws q
kept_equal key vs ws p q e f = ap (λ (l : List Version). made key l p) e ∙ ap (λ (o : Option PreparedWrite). made key ws o) f

-- ---- a node is ended

module _ (a b : Content) (xs ys : List PreparedNode) (p : PreparedNode) (owned : AreOwned a (xs ++ p ∷ ys)) (is : b.prepared ≡ set a.prepared p.node.number None) (same : HasSameChains a b) where
  pub at_p : IsNodeOf a p
  at_p = (all_back_of (IsNodeOf a) xs (p ∷ ys) owned.nodes).0

  pub others_for : AllByRecursion (λ (q : PreparedNode). IsNodeOf a q × (is_for p.chain.number q ≡ false)) (xs ++ ys)
  others_for =
      let t : nat_eq p.chain.number p.chain.number ≡ true = grind (arith, nat_tests) in
      let one : one_of p.chain.number p ≡ 1 = ap (λ b. cond b 1 0) t in
      let none : count_for p.chain.number (xs ++ ys) ≡ 0 = omega (arith, count-middle p.chain.number xs ys p, owned.once p.chain.number) in
      all_both (IsNodeOf a) (λ (q : PreparedNode). is_for p.chain.number q ≡ false) (xs ++ ys)
      (all_append (IsNodeOf a) xs ys (all_front (IsNodeOf a) xs (p ∷ ys) owned.nodes) (all_back_of (IsNodeOf a) xs (p ∷ ys) owned.nodes).1)
      (none_for p.chain.number (xs ++ ys) none)

  pub others_stay : AllByRecursion (λ (q : PreparedNode). prepared_at b q.node.number ≡ prepared_at a q.node.number) (xs ++ ys)
  others_stay = all_weaker (λ (q : PreparedNode). IsNodeOf a q × (is_for p.chain.number q ≡ false)) (λ (q : PreparedNode). prepared_at b q.node.number ≡ prepared_at a q.node.number)
      (λ q h. stays a b p q at_p is h.0 h.1) (xs ++ ys) others_for

  node_stays : (q : PreparedNode) → IsNodeOf a q → is_for p.chain.number q ≡ false → IsNodeOf b q
  node_stays q h other = record { image = h.image; prepared = stays a b p q at_p is h other ∙ h.prepared; is_chain = chain_same a b q.chain.number same h.is_chain }

  pub owned_without : AreOwned b (xs ++ ys)
  owned_without = record {
    nodes = all_weaker (λ (q : PreparedNode). IsNodeOf a q × (is_for p.chain.number q ≡ false)) (IsNodeOf b) (λ q h. node_stays q h.0 h.1) (xs ++ ys) others_for;
    counted = λ c. (
        let lt : p.node.number < length a.prepared = in_range-some a.prepared p.node.number _ at_p.prepared in
        let s : prepared_for c (set a.prepared p.node.number None) + one_for c (get_or a.prepared p.node.number None) ≡ prepared_for c a.prepared + 0 = sum-set (one_for c) a.prepared p.node.number None lt in
        let one : one_for c (get_or a.prepared p.node.number None) ≡ one_of c p = ap (one_for c) at_p.prepared in
        let now : prepared_for c b.prepared ≡ prepared_for c (set a.prepared p.node.number None) = ap (prepared_for c) is in
        omega (arith, count-middle c xs ys p, owned.counted c));
    once = λ c. omega (arith, count-middle c xs ys p, owned.once c);
  }

  -- what is seen for other chains
  pub write_elsewhere : (c : ℕ) → p.chain.number ≢ c → write_for b (xs ++ ys) c ≡ write_for a (xs ++ p ∷ ys) c
  write_elsewhere c differs =
      let t : nat_eq p.chain.number c ≡ false = grind (arith, nat_tests) in
      write-same a b c (xs ++ ys) others_stay ∙ sym (write-skip a c xs ys p t)

  pub write_gone : write_for b (xs ++ ys) p.chain.number ≡ None
  write_gone =
      let t : nat_eq p.chain.number p.chain.number ≡ true = grind (arith, nat_tests) in
      let one : one_of p.chain.number p ≡ 1 = ap (λ b. cond b 1 0) t in
      write-none b p.chain.number (xs ++ ys) (omega (arith, count-middle p.chain.number xs ys p, owned.once p.chain.number))

  pub write_was : (image : Option (List ℕ)) → prepared_at a p.node.number ≡ Some (record { chain = p.chain.number; image = image }) → write_for a (xs ++ p ∷ ys) p.chain.number ≡ Some (record { txn = p.txn; row = image })
  write_was image prepared =
      let t : nat_eq p.chain.number p.chain.number ≡ true = grind (arith, nat_tests) in
      let one : one_of p.chain.number p ≡ 1 = ap (λ b. cond b 1 0) t in
      write-here a p.chain.number xs ys p (omega (arith, count-middle p.chain.number xs ys p, count-append p.chain.number xs ys, owned.once p.chain.number)) t
      ∙ ap (λ (o : Option Prepared). Some (record { txn = p.txn; row = image_of o })) prepared

-- a store's keys
pub stored : (i : KeyIndex) (a : Content) (ps : List PreparedNode) → IsKept i a ps → IsStored (entries_of i a) a ps
stored i a ps kept = record { own = kept.index.own; owned = kept.owned; most = kept.most }
