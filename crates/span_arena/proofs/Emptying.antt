-- The versions of a chain taken out, from the newest to the oldest.
use Rattle.std.proofs.Common.{◌≡◌, ℕ, ◌+◌, ◌-◌, ◌≤◌, List, [], ◌∷◌, ◌++◌, refl, sym, ◌∙◌, ap, arith, length, Option, Some, None, get_or, set, append_assoc, append-nil}
use Rattle.std.proofs.lemmas.List.{get_or-set_same, set-set, set-get_or}
use Rattle.span_arena.specs.declared.version.ArenaVersion.{ArenaVersion}
use Rattle.span_arena.specs.Content.{Content, versions, versions_in, IsChain, IsTakenFrom, with_kept}
use Rattle.span_arena.proofs.Keeping.{chain_in_range, kept_chain}

abbrev with_parts : Content → List (Option (List ArenaVersion)) → ℕ → Content
with_parts a cs free = record a { chains = cs; free = free }

parts_are : (a : Content) (cs ds : List (Option (List ArenaVersion))) (m n : ℕ) → cs ≡ ds → m ≡ n → with_parts a cs m ≡ with_parts a ds n
parts_are a cs ds m n e f = ap (λ (x : List (Option (List ArenaVersion))). with_parts a x m) e ∙ ap (λ (k : ℕ). with_parts a ds k) f

pub kept_versions : (a : Content) (c : ℕ) (vs : List ArenaVersion) → IsChain a c → versions (with_kept a c vs) c ≡ vs
kept_versions a c vs chain = ap versions_in (get_or-set_same a.chains c (Some vs) None (chain_in_range a c chain))

-- all versions are kept
kept_all : (a : Content) (c : ℕ) → IsChain a c → a ≡ with_kept a c (versions a c)
kept_all a c chain =
    let same : Some (versions a c) ≡ get_or a.chains c None = ap (λ (o : Option (List ArenaVersion)). Some (versions_in o)) chain.1 ∙ sym chain.1 in
    let chains : a.chains ≡ set a.chains c (Some (versions a c)) = sym (ap (λ (o : Option (List ArenaVersion)). set a.chains c o) same ∙ set-get_or a.chains c None) in
    parts_are a a.chains (set a.chains c (Some (versions a c))) a.free (a.free + (length (versions a c) - length (versions a c))) chains (omega arith)

-- some are kept, and then some of these
kept_twice : (a : Content) (c : ℕ) (xs ys : List ArenaVersion) → IsChain a c → length xs ≤ length (versions a c) → length ys ≤ length xs → with_kept (with_kept a c xs) c ys ≡ with_kept a c ys
kept_twice a c xs ys chain first next =
    let long : length (versions (with_kept a c xs) c) ≡ length xs = ap length (kept_versions a c xs chain) in
    parts_are a (set (set a.chains c (Some xs)) c (Some ys)) (set a.chains c (Some ys)) (a.free + (length (versions a c) - length xs) + (length (versions (with_kept a c xs) c) - length ys)) (a.free + (length (versions a c) - length ys))
    (set-set a.chains c (Some xs) (Some ys)) (omega (arith, long, first, next))

-- some versions of a chain were taken, from the newest on
pub record IsEmptied (old now : Content) (c : ℕ) (done : List ArenaVersion) : Type 0 where
  pub was_chain : IsChain old c
  pub chain : IsChain now c
  pub whole : done ++ versions now c ≡ versions old c
  pub fewer : length (versions now c) ≤ length (versions old c)
  pub kept : now ≡ with_kept old c (versions now c)

pub emptying_starts : (a : Content) (c : ℕ) → IsChain a c → IsEmptied a a c []
emptying_starts a c chain = record { was_chain = chain; chain = chain; whole = refl; fewer = omega arith; kept = kept_all a c chain }

module _ (old now next : Content) (c : ℕ) (done : List ArenaVersion) (v : ArenaVersion) (emptied : IsEmptied old now c done) (taken : IsTakenFrom now next c v) where
  left_is : versions next c ≡ taken.rest
  left_is = ap (λ (x : Content). versions x c) taken.now ∙ kept_versions now c taken.rest emptied.chain

  count_is : length (versions now c) ≡ length taken.rest + 1
  count_is = (let e : length (versions now c) ≡ length (v ∷ taken.rest) = ap length taken.was in omega (arith, e))

  pub emptying_less : length (versions next c) + 1 ≡ length (versions now c)
  emptying_less = (let e : length (versions next c) ≡ length taken.rest = ap length left_is in omega (arith, count_is))

  pub emptying_more : IsEmptied old next c (done ++ v ∷ [])
  emptying_more = record {
    was_chain = emptied.was_chain;
    chain = kept_chain now next c taken.rest emptied.chain taken.now;
    whole = ap (λ (l : List ArenaVersion). (done ++ v ∷ []) ++ l) left_is ∙ append_assoc done (v ∷ []) taken.rest ∙ ap (λ (l : List ArenaVersion). done ++ l) (sym taken.was) ∙ emptied.whole;
    fewer = omega (arith, emptying_less, emptied.fewer);
    kept = taken.now
        ∙ ap (λ (x : Content). with_kept x c taken.rest) emptied.kept
        ∙ kept_twice old c (versions now c) taken.rest emptied.was_chain emptied.fewer (omega (arith, count_is))
        ∙ ap (with_kept old c) (sym left_is);
  }

-- all were taken
pub emptying_ends : (old now : Content) (c : ℕ) (done : List ArenaVersion) → IsEmptied old now c done → versions now c ≡ [] → (done ≡ versions old c) × (now ≡ with_kept old c [])
emptying_ends old now c done emptied none =
    (sym (append-nil done) ∙ ap (λ (l : List ArenaVersion). done ++ l) (sym none) ∙ emptied.whole, emptied.kept ∙ ap (with_kept old c) none)
