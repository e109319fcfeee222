-- An index with its arena.
use Rattle.std.proofs.Common.{◌≡◌, ◌≢◌, ℕ, suc, ◌+◌, ◌<◌, List, [], ◌∷◌, sym, ◌∙◌, ap, arith, get_or, inl, inr, None, subst}
use Rattle.std.specs.Prelude.{All}
use Rattle.std.specs.List.{AllByRecursion}
use Rattle.std.proofs.lemmas.List.Elements.{All-from_recursion}
use Rattle.std.proofs.lemmas.Bool.{cases_eq}
use Rattle.span_arena.specs.declared.token.Chain.{Chain}
use Rattle.span_arena.specs.Content.{Content, IsChain, IsNewChain}
use Rattle.span_arena.proofs.Keeping.{is_new_chain}
use Rattle.span_keytree.proofs.Held.{held_chain}
use Rattle.span_keyindex.specs.declared.index.KeyIndex.{KeyIndex}
use Rattle.span_keytree.specs.declared.tree.TreeRoot.{TreeRoot}
use Rattle.span_keytree.specs.Arenas.{one_if_chain, IsArenaOf, HasSameChains}
use Rattle.span_keytree.specs.Entries.{KeyEntry, HasChain, IsSlotFor, with_entry}
use Rattle.span_keytree.specs.Items.{entry, holders, AreRising, below, above}
use Rattle.span_keytree.specs.Nexts.{Nexts}
use Rattle.span_keytree.specs.Roots.{entries_at, IsIndex, IsSlot}
use Rattle.span_keyindex.specs.Indexes.{entries_of, IsIndexOf}
use Rattle.span_keytree.proofs.Counting.{one_here}
use Rattle.span_keyindex.proofs.Holders.{one_of, one_elsewhere, chains_elsewhere}
use Rattle.span_keyindex.proofs.Keeping.{own_stays}
use Rattle.span_keytree.proofs.Rising.{cut_at}
use Rattle.span_keytree.proofs.Searching.{AllOther}
use Rattle.span_keytree.proofs.Linking.{held_append}

chains_each : (es : List KeyEntry) (a : Content) → ((c : ℕ) → 0 < holders c es → IsChain a c) → AllByRecursion (λ (e : KeyEntry). IsChain a e.chain.number) es
chains_each [] a held = tt
chains_each (e ∷ es) a held = (held e.chain.number (omega (arith, one_here e.chain.number)), chains_each es a (λ c some. held c (omega arith)))

pub all_chains : (es : List KeyEntry) (a : Content) → IsArenaOf es a → All (λ (e : KeyEntry). IsChain a e.chain.number) es
all_chains es a own = All-from_recursion (λ (e : KeyEntry). IsChain a e.chain.number) es (chains_each es a (λ c some. held_chain es a c own some))

-- the chain of a key
pub chain_found : (es : List KeyEntry) (a : Content) (key : List ℕ) (chain : Chain) → IsArenaOf es a → HasChain es key chain → IsChain a chain.number
chain_found es a key chain own has = subst (λ (e : KeyEntry). IsChain a e.chain.number) has.2 (all_chains es a own has.0 (record { key = key; chain = chain }) has.1)

-- ---- calls that leave the keys and the chains

pub entries_stay : (i : KeyIndex) (a b : Content) → b.cells ≡ a.cells → entries_of i b ≡ entries_of i a
entries_stay i a b same = ap (λ cs. entries_at cs i.tree) same

pub index_stays : (i : KeyIndex) (a b : Content) → IsIndexOf i a → b.cells ≡ a.cells → HasSameChains a b → IsIndexOf i b
index_stays i a b own same chains = record {
  index = subst (λ cs. IsIndex cs i.nexts i.tree) {x = a.cells} {y = b.cells} (sym same) own.index;
  own = subst (λ (es : List KeyEntry). IsArenaOf es b) {x = entries_of i a} {y = entries_of i b} (sym (entries_stay i a b same)) (own_stays (entries_of i a) a b own.own chains);
}

-- ---- a key more

pub own_more : (es : List KeyEntry) (a b : Content) (key : List ℕ) (c : ℕ) → IsArenaOf es a → AreRising es → AllOther key es → IsNewChain a b c → IsArenaOf (with_entry es (entry key c)) b
own_more es a b key c own rising other fresh = record {
  each = λ d. (
      let new : KeyEntry = entry key c in
      let cut : holders d es ≡ holders d (below key es) + holders d (above key es) = ap (holders d) (cut_at key es rising other) ∙ held_append d (below key es) (above key es) in
      let now : holders d (with_entry es new) ≡ holders d (below key es) + (one_of d new + holders d (above key es)) = held_append d (below key es) (new ∷ above key es) in
      elim (cases_eq c d) [
        | inl here ↦ (let one : one_of d new ≡ 1 = ap (λ (n : ℕ). one_of n new) (sym here) ∙ one_here c in
            let was : one_if_chain (get_or a.chains d None) ≡ 0 = ap (λ (n : ℕ). one_if_chain (get_or a.chains n None)) (sym here) ∙ ap one_if_chain fresh.was_none in
            let is : one_if_chain (get_or b.chains d None) ≡ 1 = ap (λ (n : ℕ). one_if_chain (get_or b.chains n None)) (sym here) ∙ ap one_if_chain (is_new_chain a b c fresh) in
            omega (arith, own.each d))
        | inr differs ↦ (let none : one_of d new ≡ 0 = one_elsewhere d new differs in
            let stays : one_if_chain (get_or b.chains d None) ≡ one_if_chain (get_or a.chains d None) = ap one_if_chain (chains_elsewhere a b c d fresh (λ e. differs (sym e))) in
            omega (arith, own.each d))
      ]);
}

by_recursion : (P : KeyEntry → Type 0) (es : List KeyEntry) → All P es → AllByRecursion P es
by_recursion P [] all = tt
by_recursion P (e ∷ es) all = (all 0 e (omega arith), by_recursion P es (λ k d lt. all (suc k) d (omega arith)))

-- what `slot_for` gave
pub slot_chain : (a b : Content) (ns ms : Nexts) (before after : TreeRoot) (key : List ℕ) (n : ℕ) → IsArenaOf (entries_at a.cells before) a → IsSlot a b ns ms before after key n → IsChain b n
slot_chain a b ns ms before after key n own (inl same) =
    let was : IsChain a n = chain_found (entries_at a.cells before) a key (record { number = n }) own same.here in
    subst (λ (x : Content). IsChain x n) {x = a} {y = b} (sym same.arena) was
slot_chain a b ns ms before after key n own (inr more) = ([], is_new_chain a b n more.fresh)

pub slot_own : (a b : Content) (ns ms : Nexts) (before after : TreeRoot) (key : List ℕ) (n : ℕ) → IsIndex a.cells ns before → IsArenaOf (entries_at a.cells before) a → IsSlot a b ns ms before after key n → IsArenaOf (entries_at b.cells after) b
slot_own a b ns ms before after key n index own (inl same) =
    let first : IsArenaOf (entries_at b.cells before) b = subst (λ (x : Content). IsArenaOf (entries_at x.cells before) x) {x = a} {y = b} (sym same.arena) own in
    subst (λ (x : TreeRoot). IsArenaOf (entries_at b.cells x) b) {x = before} {y = after} (sym same.index) first
slot_own a b ns ms before after key n index own (inr more) =
    let other : AllOther key (entries_at a.cells before) = by_recursion (λ (e : KeyEntry). e.key ≢ key) (entries_at a.cells before) more.absent in
    subst (λ (es : List KeyEntry). IsArenaOf es b) {x = with_entry (entries_at a.cells before) (entry key n)} {y = entries_at b.cells after} (sym more.now)
    (own_more (entries_at a.cells before) a b key n own index.search.rising other more.fresh)

pub slot_is : (a b : Content) (ns ms : Nexts) (before after : TreeRoot) (key : List ℕ) (n : ℕ) → IsSlot a b ns ms before after key n → IsSlotFor (entries_at a.cells before) (entries_at b.cells after) a b key (record { number = n })
slot_is a b ns ms before after key n (inl same) =
    let cells : entries_at b.cells after ≡ entries_at a.cells before = ap (λ (x : Content). entries_at x.cells after) same.arena ∙ ap (λ (x : TreeRoot). entries_at a.cells x) same.index in
    inl (same.here, cells, same.arena)
slot_is a b ns ms before after key n (inr more) = inr (more.absent, more.fresh, more.now)
