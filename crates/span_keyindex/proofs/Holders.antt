-- How many keys have a chain.
use Rattle.std.proofs.Common.{◌≡◌, ◌≢◌, ℕ, ◌+◌, ◌≤◌, List, [], ◌∷◌, refl, ◌∙◌, ap, arith, get_or, inl, inr, true, false, Option, Some, None, cond}
use Rattle.std.specs.Prelude.{filter, Bool, nat_eq}
use Rattle.std.proofs.lemmas.Bool.{cases_eq}
use Rattle.std.proofs.lemmas.Bool.Decides.{nat_tests}
use Rattle.span_arena.specs.declared.version.ArenaVersion.{ArenaVersion}
use Rattle.span_arena.specs.Content.{Content, IsNewChain}
use Rattle.span_keytree.specs.Entries.{KeyEntry}
use Rattle.span_keytree.specs.Items.{holders}
use Rattle.span_keytree.specs.Arenas.{one_if_chain}
use Rattle.span_keytree.proofs.Puts.{elsewhere}

abbrev pub one_of : ℕ → KeyEntry → ℕ
one_of c e = cond (nat_eq e.chain.number c) 1 0

pub one_here : (c : ℕ) (e : KeyEntry) → e.chain.number ≡ c → one_of c e ≡ 1
one_here c e same = let t : nat_eq e.chain.number c ≡ true = grind (arith, nat_tests) in rw t refl

pub one_elsewhere : (c : ℕ) (e : KeyEntry) → e.chain.number ≢ c → one_of c e ≡ 0
one_elsewhere c e differs = let t : nat_eq e.chain.number c ≡ false = grind (arith, nat_tests) in rw t refl

none_held : (c : ℕ) (b : Bool) → holders c [] ≡ cond b (holders c []) 0
none_held c true = refl
none_held c false = refl

pub at_most_one : (o : Option (List ArenaVersion)) → one_if_chain o ≤ 1
at_most_one None = omega arith
at_most_one (Some vs) = omega arith

-- a filter by the chain's number keeps all keys of a chain or none
pub holders-filter : (q : ℕ → Bool) (c : ℕ) (es : List KeyEntry) → holders c (filter (λ (e : KeyEntry). q e.chain.number) es) ≡ cond (q c) (holders c es) 0
holders-filter q c [] = none_held c (q c)
holders-filter q c (e ∷ es) =
    let rest = holders-filter q c es in
    elim (cases_eq e.chain.number c) [
      | inl same ↦ (let here : one_of c e ≡ 1 = one_here c e same in
          let passes : q e.chain.number ≡ q c = ap q same in
          rw passes (own (q c) (filter (λ (x : KeyEntry). q x.chain.number) es) rest))
      | inr differs ↦ (let none : one_of c e ≡ 0 = one_elsewhere c e differs in
          other (q e.chain.number) (q c) (filter (λ (x : KeyEntry). q x.chain.number) es) none rest)
    ]
  where
    own : (b : Bool) (fs : List KeyEntry) → holders c fs ≡ cond b (holders c es) 0 → holders c (cond b (e ∷ fs) fs) ≡ cond b (one_of c e + holders c es) 0
    own true fs rest = omega (arith, rest)
    own false fs rest = rest

    other : (a b : Bool) (fs : List KeyEntry) → one_of c e ≡ 0 → holders c fs ≡ cond b (holders c es) 0 → holders c (cond a (e ∷ fs) fs) ≡ cond b (one_of c e + holders c es) 0
    other true true fs none rest = omega (arith, none, rest)
    other true false fs none rest = omega (arith, none, rest)
    other false true fs none rest = omega (arith, none, rest)
    other false false fs none rest = rest

-- ---- a new chain

pub chains_elsewhere : (a b : Content) (i c : ℕ) → IsNewChain a b i → c ≢ i → get_or b.chains c None ≡ get_or a.chains c None
chains_elsewhere a b i c fresh differs = ap (λ (x : Content). get_or x.chains c None) fresh.now ∙ elsewhere a.chains i c (Some []) None differs fresh.number
