-- What the arena's calls leave of its chains: those that were ones are, and no others.
use Rattle.std.proofs.Common.{◌≡◌, ℕ, ◌<◌, List, ◌∷◌, refl, sym, ◌∙◌, ap, length, arith, Option, Some, None, get_or, set, inl, inr}
use Rattle.std.proofs.lemmas.List.{get_or-set_same, get_or-set_other}
use Rattle.std.proofs.lemmas.Bool.{cases_eq}
use Rattle.span_arena.specs.declared.version.ArenaVersion.{ArenaVersion}
use Rattle.span_arena.specs.Content.{Content, IsChain, prepared_at, versions, linked, linked_as, with_kept}
use Rattle.span_arena.proofs.Keeping.{chain_in_range}
use Rattle.span_keytree.specs.Entries.{KeyEntry}
use Rattle.span_keytree.specs.Arenas.{IsArenaOf, HasSameChains, one_if_chain}

-- an index keeps an arena of which the same numbers are chains
pub own_stays : (es : List KeyEntry) (a b : Content) → IsArenaOf es a → HasSameChains a b → IsArenaOf es b
own_stays es a b own same = record { each = λ c. own.each c ∙ sym (same c) }

pub same_after : (a b d : Content) → HasSameChains a b → HasSameChains b d → HasSameChains a d
same_after a b d first next c = next c ∙ first c

pub same-equal : (a b : Content) → b.chains ≡ a.chains → HasSameChains a b
same-equal a b e c = ap (λ (cs : List (Option (List ArenaVersion))). one_if_chain (get_or cs c None)) e

-- a chain is one still
pub chain_same : (a b : Content) (c : ℕ) → HasSameChains a b → IsChain a c → IsChain b c
chain_same a b c same h = of (get_or b.chains c None) (same c ∙ ap one_if_chain h.1)
  where
    of : (o : Option (List ArenaVersion)) → one_if_chain o ≡ 1 → (vs : List ArenaVersion) × (o ≡ Some vs)
    of None e = absurd (let f : 0 ≡ 1 = e in omega arith)
    of (Some vs) e = (vs, refl)

-- other versions of a chain
same-set : (a : Content) (chain : ℕ) (vs : List ArenaVersion) → IsChain a chain → (c : ℕ) → one_if_chain (get_or (set a.chains chain (Some vs)) c None) ≡ one_if_chain (get_or a.chains c None)
same-set a chain vs is_chain c = elim (cases_eq c chain) [
  | inl here ↦ (let lt : chain < length a.chains = chain_in_range a chain is_chain in
      rw here (ap one_if_chain (get_or-set_same a.chains chain (Some vs) None lt) ∙ sym (ap one_if_chain is_chain.1)))
  | inr differs ↦ ap one_if_chain (get_or-set_other a.chains chain c (Some vs) None differs)
]

pub same-kept : (a b : Content) (chain : ℕ) (vs : List ArenaVersion) → IsChain a chain → b ≡ with_kept a chain vs → HasSameChains a b
same-kept a b chain vs is_chain is c = rw is (same-set a chain vs is_chain c)

pub same-linked : (a b : Content) (node timestamp chain : ℕ) (image : Option (List ℕ)) → IsChain a chain → prepared_at a node ≡ Some (record { chain = chain; image = image }) → b ≡ linked a node timestamp → HasSameChains a b
same-linked a b node timestamp chain image is_chain prepared is c =
    let now : b ≡ linked_as a node timestamp (Some (record { chain = chain; image = image })) = is ∙ ap (linked_as a node timestamp) prepared in
    rw now (same-set a chain (record { timestamp = timestamp; image = image } ∷ versions a chain) is_chain c)
