-- The keys from one on, in an index of their own.
use Rattle.std.proofs.Common.{◌≡◌, ℕ, zero, suc, ◌<◌, length, List, [], ◌∷◌, ◌++◌, refl, sym, ◌∙◌, ap, arith, get_or, inl, inr, subst, append-nil, append_assoc}
use Rattle.std.specs.declared.cmp.Ordering.TheVariants.{Less}
use Rattle.std.proofs.lemmas.List.{map-append}
use Rattle.std.proofs.lemmas.Bool.{cases_eq}
use Rattle.span_keycode.specs.Order.{byte_order}
use Rattle.span_arena.specs.declared.token.Chain.{Chain}
use Rattle.span_arena.specs.Content.{Content, versions, versions_in, IsNewChain}
use Rattle.span_arena.proofs.Keeping.{is_new_chain}
use Rattle.span_keyindex.specs.declared.index.KeyIndex.{KeyIndex}
use Rattle.span_keytree.specs.Entries.{KeyEntry, HasChain, IsSlotFor, keys_of}
use Rattle.span_keytree.specs.Items.{AreRising, below, above, from}
use Rattle.span_keyindex.specs.Indexes.{entries_of, IsIndexOf}
use Rattle.span_keyindex.specs.Splits.{IsPartFrom}
use Rattle.span_keyindex.proofs.Holders.{chains_elsewhere}
use Rattle.span_keytree.proofs.Rising.{AllBelow, IsAround, around, apart, cut_from, rising_back, keeps_below, drops_above}

pub rising_from : (key : List ℕ) (es : List KeyEntry) → AreRising es → AreRising (from key es)
rising_from key es rising = rising_back (below key es) (from key es) (subst AreRising {x = es} {y = below key es ++ from key es} (cut_from key es rising) rising)

-- ---- one key after the other

-- the content of a new arena
abbrev pub no_chain : ℕ → Content
no_chain most = record { chains = []; cells = []; prepared = []; free = 0; most = most }

-- the first keys of a part are copied, and these are left
pub record IsCopying (part left : List KeyEntry) (limit : ℕ) (i : KeyIndex) (a : Content) : Type 0 where
  pub gone : List KeyEntry
  pub whole : part ≡ gone ++ left
  pub own : IsIndexOf i a
  pub keys : keys_of (entries_of i a) ≡ keys_of gone
  pub none : (c : ℕ) → versions a c ≡ []
  pub prepared : a.prepared ≡ []
  pub free : a.free ≡ 0
  pub most : a.most ≡ limit

pub copying_starts : (part : List KeyEntry) (most : ℕ) (i : KeyIndex) (a : Content) → IsIndexOf i a × (entries_of i a ≡ []) → a ≡ no_chain most → IsCopying part part most i a
copying_starts part most i a empty is = record {
  gone = [];
  whole = refl;
  own = empty.0;
  keys = ap keys_of empty.1;
  none = λ c. ap (λ (x : Content). versions x c) is;
  prepared = ap (λ (x : Content). x.prepared) is;
  free = ap (λ (x : Content). x.free) is;
  most = ap (λ (x : Content). x.most) is;
}

pub copying_ends : (key : List ℕ) (es left : List KeyEntry) (most : ℕ) (i : KeyIndex) (a : Content) → IsCopying (from key es) left most i a → left ≡ [] → IsPartFrom key es most i a
copying_ends key es left most i a copying nothing = record {
  own = copying.own;
  keys = copying.keys ∙ ap keys_of (sym (copying.whole ∙ ap (λ (xs : List KeyEntry). copying.gone ++ xs) nothing ∙ append-nil copying.gone));
  none = copying.none;
  prepared = copying.prepared;
  free = copying.free;
  most = copying.most;
}

-- what is below a key is so by the keys alone
below_keys : (key : List ℕ) (xs ys : List KeyEntry) → keys_of xs ≡ keys_of ys → AllBelow key ys → AllBelow key xs
below_keys key [] ys same h = tt
below_keys key (x ∷ xs) [] same h = absurd (let q : x.key ∷ keys_of xs ≡ [] = same in cc)
below_keys key (x ∷ xs) (y ∷ ys) same h =
    let q : x.key ∷ keys_of xs ≡ y.key ∷ keys_of ys = same in
    let here : y.key ≡ x.key = cc in
    let rest : keys_of xs ≡ keys_of ys = cc in
    (subst (λ (k : List ℕ). byte_order k key ≡ Less) here h.0, below_keys key xs ys rest h.1)

not_there : (key : List ℕ) (chain : Chain) (es : List KeyEntry) → AllBelow key es → HasChain es key chain → ⊥
not_there key chain es below_it has = at es has.0 has.1 has.2 below_it
  where
    at : (xs : List KeyEntry) (k : ℕ) → k < length xs → get_or xs k (record { key = key; chain = chain }) ≡ record { key = key; chain = chain } → AllBelow key xs → ⊥
    at [] k lt is h = absurd (omega arith)
    at (x ∷ xs) zero lt is h = (let same : x.key ≡ key = ap (λ (e : KeyEntry). e.key) is in apart x.key key h.0 same)
    at (x ∷ xs) (suc k) lt is h = at xs k (omega arith) is h.1

none_after : (a b : Content) (i : ℕ) → IsNewChain a b i → ((c : ℕ) → versions a c ≡ []) → (c : ℕ) → versions b c ≡ []
none_after a b i fresh none c = elim (cases_eq c i) [
  | inl same ↦ ap (λ (d : ℕ). versions b d) same ∙ ap versions_in (is_new_chain a b i fresh)
  | inr differs ↦ ap versions_in (chains_elsewhere a b i c fresh differs) ∙ none c
]

pub copying_more : (part left rest : List KeyEntry) (e : KeyEntry) (most : ℕ) (i j : KeyIndex) (a b : Content) (chain : Chain) → AreRising part → IsCopying part left most i a → left ≡ e ∷ rest
    → IsSlotFor (entries_of i a) (entries_of j b) a b e.key chain → IsIndexOf j b → IsCopying part rest most j b
copying_more part left rest e most i j a b chain rising copying is slot own =
    let parts : part ≡ copying.gone ++ e ∷ rest = copying.whole ∙ ap (λ (xs : List KeyEntry). copying.gone ++ xs) is in
    let around_it : IsAround copying.gone e rest = around copying.gone e rest (subst AreRising {x = part} {y = copying.gone ++ e ∷ rest} parts rising) in
    let lower : AllBelow e.key (entries_of i a) = below_keys e.key (entries_of i a) copying.gone copying.keys around_it.smaller in
    elim slot [
      | inl same ↦ absurd (not_there e.key chain (entries_of i a) lower same.0)
      | inr more ↦ (
          let fresh : IsNewChain a b chain.number = more.1 in
          let new : KeyEntry = record { key = e.key; chain = chain } in
          let last : entries_of j b ≡ entries_of i a ++ new ∷ [] =
          more.2
          ∙ ap (λ (xs : List KeyEntry). xs ++ new ∷ above e.key (entries_of i a)) (keeps_below e.key (entries_of i a) lower)
          ∙ ap (λ (xs : List KeyEntry). entries_of i a ++ new ∷ xs) (drops_above e.key (entries_of i a) lower) in
          record {
            gone = copying.gone ++ e ∷ [];
            whole = parts ∙ sym (append_assoc copying.gone (e ∷ []) rest);
            own = own;
            keys = ap keys_of last ∙ map-append (λ (x : KeyEntry). x.key) (entries_of i a) (new ∷ []) ∙ ap (λ (ks : List (List ℕ)). ks ++ e.key ∷ []) copying.keys ∙ sym (map-append (λ (x : KeyEntry). x.key) copying.gone (e ∷ []));
            none = none_after a b chain.number fresh copying.none;
            prepared = ap (λ (x : Content). x.prepared) fresh.now ∙ copying.prepared;
            free = ap (λ (x : Content). x.free) fresh.now ∙ copying.free;
            most = ap (λ (x : Content). x.most) fresh.now ∙ copying.most;
          })
    ]
