-- The keys that have nothing any more go.
use Rattle.std.proofs.Common.{◌≡◌, ℕ, suc, ◌+◌, ◌≤◌, nat_eq, Bool, true, false, cond, not, ◌&&◌, ◌||◌, List, [], ◌∷◌, Option, Some, None, length, get_or, map, refl, sym, ap, ◌∙◌, arith}
use Rattle.std.specs.Prelude.{filter, is_some}
use Rattle.std.specs.List.{AllByRecursion}
use Rattle.std.proofs.lemmas.Bool.Decides.{nat_tests}
use Rattle.span_arena.specs.declared.version.ArenaVersion.{ArenaVersion}
use Rattle.span_arena.specs.Content.{Content, Prepared, versions, versions_in, prepared_at, prepared_for, one_for, is_unused}
use Rattle.span_arena.proofs.Counts.{one_for-at, one_for-same}
use Rattle.span_keytree.specs.Arenas.{in_use, IsWithoutUnused}
use Rattle.span_keytree.specs.Entries.{KeyEntry}
use Rattle.span_maderows.proofs.Lists.{all_filter_itself}
use Rattle.span_store.specs.declared.node.PreparedNode.{PreparedNode}
use Rattle.span_store.specs.Versions.{is_empty, is_used}
use Rattle.span_store.specs.Stored.{version_of, chain_versions, is_for, write_of, write_for, kept, kept_entry, all_kept, count_for, IsNodeOf, AreOwned}
use Rattle.span_store.proofs.Owned.{write-same, kept_equal}
use Rattle.std.proofs.Math.Bool.{and-false}
use Rattle.std.proofs.lemmas.List.Elements.{filter_agree}
use Rattle.std.proofs.lemmas.Bool.{not-true}
use Rattle.span_value.proofs.Lists.{all_weaker, filter-map, all_whole}

-- lists with equal results of a function
pub map_alike : {X Y : Type 0} (f g : X → Y) (xs : List X) → AllByRecursion (λ x. f x ≡ g x) xs → map f xs ≡ map g xs
map_alike f g [] h = refl
map_alike {X} {Y} f g (x ∷ xs) h = ap (λ (y : Y). y ∷ map f xs) h.0 ∙ ap (λ (l : List Y). g x ∷ l) (map_alike f g xs h.1)

nothing_for : (a : Content) (c : ℕ) (ps : List PreparedNode) → nat_eq (count_for c ps) 0 ≡ not (is_some (write_for a ps c))
nothing_for a c [] = refl
nothing_for a c (p ∷ ps) = cases (is_for c p) (nothing_for a c ps)
  where
    cases : (b : Bool) → nat_eq (count_for c ps) 0 ≡ not (is_some (write_for a ps c)) → nat_eq (cond b 1 0 + count_for c ps) 0 ≡ not (is_some (cond b (Some (write_of a p)) (write_for a ps c)))
    cases true again = some (count_for c ps)
      where
        some : (n : ℕ) → nat_eq (1 + n) 0 ≡ false
        some n = grind (arith, nat_tests)
    cases false again = zero_more (count_for c ps) ∙ again
      where
        zero_more : (n : ℕ) → nat_eq (0 + n) 0 ≡ nat_eq n 0
        zero_more n = ap (λ m. nat_eq m 0) (let e : 0 + n ≡ n = omega arith in e)

empty_is : (vs : List ArenaVersion) → nat_eq (length vs) 0 ≡ is_empty (map version_of vs)
empty_is [] = refl
empty_is (v ∷ vs) = some (length vs)
  where
    some : (n : ℕ) → nat_eq (suc n) 0 ≡ false
    some n = grind (arith, nat_tests)

unused_is : (x y z w : Bool) → x ≡ y → z ≡ not w → not (x && z) ≡ (not y || w)
unused_is true true true w e f = turn w f
  where
    turn : (w : Bool) → true ≡ not w → not (true && true) ≡ (not true || w)
    turn true f = absurd cc
    turn false f = refl
unused_is true true false w e f = turn w f
  where
    turn : (w : Bool) → false ≡ not w → not (true && false) ≡ (not true || w)
    turn true f = refl
    turn false f = absurd cc
unused_is true false z w e f = absurd cc
unused_is false true z w e f = absurd cc
unused_is false false z w e f = refl

-- a chain is in use where its key is
pub used_is : (a : Content) (ps : List PreparedNode) (key : List ℕ) (c : ℕ) → AreOwned a ps → not (is_unused a c) ≡ is_used (kept a ps key c)
used_is a ps key c owned =
    unused_is (nat_eq (length (versions a c)) 0) (is_empty (chain_versions a c)) (nat_eq (prepared_for c a.prepared) 0) (is_some (write_for a ps c)) (empty_is (versions a c))
    (ap (λ n. nat_eq n 0) (owned.counted c) ∙ nothing_for a c ps)

module _ (es : List KeyEntry) (a b : Content) (ps : List PreparedNode) (owned : AreOwned a ps) (without : IsWithoutUnused a b) where
  prepared_is : b.prepared ≡ a.prepared
  prepared_is = ap (λ (x : Content). x.prepared) without.others

  stay : AllByRecursion (λ (q : PreparedNode). prepared_at b q.node.number ≡ prepared_at a q.node.number) ps
  stay = all_whole (λ (q : PreparedNode). prepared_at b q.node.number ≡ prepared_at a q.node.number) (λ q. ap (λ (l : List (Option Prepared)). get_or l q.node.number None) prepared_is) ps

  chain_is : (c : ℕ) → is_unused a c ≡ false → get_or b.chains c None ≡ get_or a.chains c None
  chain_is c used = without.chains c ∙ ap (λ t. cond t None (get_or a.chains c None)) used

  key_is : (e : KeyEntry) → not (is_unused a e.chain.number) ≡ true → kept_entry b ps e ≡ kept_entry a ps e
  key_is e used =
      let f : is_unused a e.chain.number ≡ false = not-true (is_unused a e.chain.number) used in
      kept_equal e.key (chain_versions b e.chain.number) (chain_versions a e.chain.number) (write_for b ps e.chain.number) (write_for a ps e.chain.number)
      (ap (λ (o : Option (List ArenaVersion)). map version_of (versions_in o)) (chain_is e.chain.number f))
      (write-same a b e.chain.number ps stay)

  pub keys_used : all_kept b ps (in_use a es) ≡ filter is_used (all_kept a ps es)
  keys_used =
      map_alike (kept_entry b ps) (kept_entry a ps) (in_use a es)
      (all_weaker (λ (e : KeyEntry). not (is_unused a e.chain.number) ≡ true) (λ (e : KeyEntry). kept_entry b ps e ≡ kept_entry a ps e) key_is (in_use a es) (all_filter_itself (λ (e : KeyEntry). not (is_unused a e.chain.number)) es))
      ∙ ap (map (kept_entry a ps)) (filter_agree (λ (e : KeyEntry). not (is_unused a e.chain.number)) (λ (e : KeyEntry). is_used (kept_entry a ps e)) (λ e. used_is a ps e.key e.chain.number owned) es)
      ∙ sym (filter-map is_used (kept_entry a ps) es)

  node_stays : (p : PreparedNode) → IsNodeOf a p → IsNodeOf b p
  node_stays p h = record {
    image = h.image;
    prepared = ap (λ (l : List (Option Prepared)). get_or l p.node.number None) prepared_is ∙ h.prepared;
    is_chain =
        let one : one_for p.chain.number (get_or a.prepared p.node.number None) ≡ 1 = ap (one_for p.chain.number) h.prepared ∙ one_for-same p.chain.number h.image in
        let some : 1 ≤ prepared_for p.chain.number a.prepared = omega (arith, one_for-at p.chain.number a.prepared p.node.number) in
        let t : nat_eq (prepared_for p.chain.number a.prepared) 0 ≡ false = grind (arith, nat_tests) in
        let used : is_unused a p.chain.number ≡ false = ap (λ z. nat_eq (length (versions a p.chain.number)) 0 && z) t ∙ and-false (nat_eq (length (versions a p.chain.number)) 0) in
        (h.is_chain.0, chain_is p.chain.number used ∙ h.is_chain.1);
  }

  pub owned_used : AreOwned b ps
  owned_used = record {
    nodes = all_weaker (IsNodeOf a) (IsNodeOf b) node_stays ps owned.nodes;
    counted = λ c. ap (prepared_for c) prepared_is ∙ owned.counted c;
    once = owned.once;
  }
