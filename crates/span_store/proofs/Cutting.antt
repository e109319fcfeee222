-- The chains are trimmed, one after the other.
use Rattle.std.proofs.Common.{◌≡◌, ◌≢◌, ℕ, Bool, true, false, cond, List, [], ◌∷◌, ◌++◌, Option, Some, None, get_or, map, refl, sym, ap, subst, ◌∙◌, inl, inr, append_assoc}
use Rattle.std.specs.Prelude.{nat_le, All}
use Rattle.std.specs.List.{AllByRecursion}
use Rattle.std.proofs.lemmas.Bool.{cases_eq}
use Rattle.std.proofs.lemmas.List.{get_or-set_same, get_or-set_other, append-nil}
use Rattle.span_value.proofs.Lists.{all_append, all_weaker, all_whole}
use Rattle.span_arena.specs.declared.token.Chain.{Chain}
use Rattle.span_arena.specs.declared.version.ArenaVersion.{ArenaVersion}
use Rattle.span_arena.specs.Content.{Content, Prepared, versions, versions_in, prepared_at, prepared_for, IsChain, kept_at, kept_upto, trimmed}
use Rattle.span_arena.proofs.Keeping.{chain_in_range}
use Rattle.span_keytree.specs.Arenas.{HasSameChains}
use Rattle.span_keytree.specs.Entries.{KeyEntry}
use Rattle.span_keyindex.proofs.Keeping.{own_stays, chain_same, same_after, same-kept}
use Rattle.span_store.specs.declared.chain.Version.{Version}
use Rattle.span_store.specs.declared.node.PreparedNode.{PreparedNode}
use Rattle.span_store.specs.KeyVersions.{KeyVersions}
use Rattle.span_store.specs.Versions.{kept_version}
use Rattle.span_store.specs.Versions as seen
use Rattle.span_store.specs.KeyLists.{trimmed_key}
use Rattle.span_store.specs.Stored.{version_of, chain_versions, write_for, kept_entry, all_kept, IsNodeOf, IsStored, HasTrimmed, IsTrimmed, AreTrimmed}
use Rattle.span_store.proofs.Owned.{write-same, kept_equal}
use Rattle.span_store.proofs.Seeing.{chains_left, first_chain}

-- what was kept is kept
kept_again : (h : ℕ) (vs : List ArenaVersion) → kept_upto h (kept_upto h vs) ≡ kept_upto h vs
kept_again h [] = refl
kept_again h (v ∷ vs) = cases (nat_le v.timestamp h) refl (kept_again h vs)
  where
    one : (image : Option (List ℕ)) → v.image ≡ image → nat_le v.timestamp h ≡ true → kept_upto h (kept_at v image) ≡ kept_at v image
    one None is at = refl
    one (Some row) is at = ap (λ b. cond b (kept_at v v.image) (v ∷ [])) at ∙ ap (kept_at v) is

    cases : (b : Bool) → nat_le v.timestamp h ≡ b → kept_upto h (kept_upto h vs) ≡ kept_upto h vs → kept_upto h (cond b (kept_at v v.image) (v ∷ kept_upto h vs)) ≡ cond b (kept_at v v.image) (v ∷ kept_upto h vs)
    cases true is again = one v.image refl is
    cases false is again = ap (λ b. cond b (kept_at v v.image) (v ∷ kept_upto h (kept_upto h vs))) is ∙ ap (λ (l : List ArenaVersion). v ∷ l) again

-- what is kept of the arena's versions, as the shard has them
kept_mapped : (h : ℕ) (vs : List ArenaVersion) → map version_of (kept_upto h vs) ≡ seen.kept_upto h (map version_of vs)
kept_mapped h [] = refl
kept_mapped h (v ∷ vs) = cases (nat_le v.timestamp h) (kept_mapped h vs)
  where
    one : (image : Option (List ℕ)) → map version_of (kept_at v image) ≡ kept_version (version_of v) image
    one None = refl
    one (Some row) = refl

    cases : (b : Bool) → map version_of (kept_upto h vs) ≡ seen.kept_upto h (map version_of vs)
        → map version_of (cond b (kept_at v v.image) (v ∷ kept_upto h vs)) ≡ cond b (kept_version (version_of v) v.image) (version_of v ∷ seen.kept_upto h (map version_of vs))
    cases true again = one v.image
    cases false again = ap (λ (l : List Version). version_of v ∷ l) again

-- ---- one chain

module _ (h : ℕ) (a b d : Content) (c : ℕ) (so_far : HasTrimmed h a b) (chain : IsChain b c) (is : d ≡ trimmed b c h) where
  here : versions d c ≡ kept_upto h (versions b c)
  here = ap (λ (x : Content). versions x c) is ∙ ap versions_in (get_or-set_same b.chains c (Some (kept_upto h (versions b c))) None (chain_in_range b c chain))

  elsewhere : (x : ℕ) → x ≢ c → versions d x ≡ versions b x
  elsewhere x differs = ap (λ (w : Content). versions w x) is ∙ ap versions_in (get_or-set_other b.chains c x (Some (kept_upto h (versions b c))) None differs)

  same_now : HasSameChains b d
  same_now = same-kept b d c (kept_upto h (versions b c)) chain is

  trimmed_now : HasTrimmed h a d
  trimmed_now = record {
    same = same_after a b d so_far.same same_now;
    cells = ap (λ (x : Content). x.cells) is ∙ so_far.cells;
    most = ap (λ (x : Content). x.most) is ∙ so_far.most;
    prepared = ap (λ (x : Content). x.prepared) is ∙ so_far.prepared;
    chains = λ x. elim (cases_eq x c) [
      | inl equal ↦ subst (λ y. kept_upto h (versions d y) ≡ kept_upto h (versions a y)) (sym equal) (ap (kept_upto h) here ∙ kept_again h (versions b c) ∙ so_far.chains c)
      | inr differs ↦ ap (kept_upto h) (elsewhere x differs) ∙ so_far.chains x
    ];
  }

  still : (e : KeyEntry) → IsTrimmed h a b e → IsTrimmed h a d e
  still e was = elim (cases_eq e.chain.number c) [
    | inl equal ↦ subst (λ y. versions d y ≡ kept_upto h (versions a y)) (sym equal) (here ∙ so_far.chains c)
    | inr differs ↦ elsewhere e.chain.number differs ∙ was
  ]

  now : (e : KeyEntry) → e.chain.number ≡ c → IsTrimmed h a d e
  now e equal = subst (λ y. versions d y ≡ kept_upto h (versions a y)) (sym equal) (here ∙ so_far.chains c)

pub trim_start : (h : ℕ) (es : List KeyEntry) (a : Content) → AreTrimmed h es es a a
trim_start h es a = record { done = []; whole = refl; each = tt; so_far = record { same = λ c. refl; cells = refl; most = refl; prepared = refl; chains = λ c. refl } }

pub trim_step : (h : ℕ) (es left rest : List KeyEntry) (e : KeyEntry) (a b d : Content) → AreTrimmed h es left a b → left ≡ e ∷ rest → IsChain b e.chain.number → d ≡ trimmed b e.chain.number h → AreTrimmed h es rest a d
trim_step h es left rest e a b d old is chain now_is = record {
  done = old.done ++ e ∷ [];
  whole = append_assoc old.done (e ∷ []) rest ∙ ap (λ (l : List KeyEntry). old.done ++ l) (sym is) ∙ old.whole;
  each = all_append (IsTrimmed h a d) old.done (e ∷ []) (all_weaker (IsTrimmed h a b) (IsTrimmed h a d) (λ x was. still h a b d e.chain.number old.so_far chain now_is x was) old.done old.each) (now h a b d e.chain.number old.so_far chain now_is e refl, tt);
  so_far = trimmed_now h a b d e.chain.number old.so_far chain now_is;
}

-- the chains that are left are chains still
pub trim_chains : (h : ℕ) (rest : List KeyEntry) (c : ℕ) (b d : Content) → IsChain b c → d ≡ trimmed b c h → All (λ (x : KeyEntry). IsChain b x.chain.number) rest → All (λ (x : KeyEntry). IsChain d x.chain.number) rest
trim_chains h rest c b d chain is all k e lt = chain_same b d _ (same-kept b d c (kept_upto h (versions b c)) chain is) (all k e lt)

-- the first of the chains that are left is that of the first key
pub record IsNextKey (left : List KeyEntry) (chain : Chain) (rest : List Chain) : Type 0 where
  pub first : KeyEntry
  pub others : List KeyEntry
  pub is : left ≡ first ∷ others
  pub chain_is : first.chain ≡ chain
  pub rest_is : rest ≡ map (λ (e : KeyEntry). e.chain) others

pub next_key : (left : List KeyEntry) (chain : Chain) (chains rest : List Chain) → chains ≡ map (λ (e : KeyEntry). e.chain) left → chains ≡ chain ∷ rest → IsNextKey left chain rest
next_key [] chain chains rest is first = absurd (let q : [] ≡ chain ∷ rest = sym is ∙ first in cc)
next_key (e ∷ es) chain chains rest is first =
    let q : e.chain ∷ map (λ (x : KeyEntry). x.chain) es ≡ chain ∷ rest = sym is ∙ first in
    record { first = e; others = es; is = refl; chain_is = (let c : e.chain ≡ chain = cc in c); rest_is = (let r : rest ≡ map (λ (x : KeyEntry). x.chain) es = cc in r) }

-- the keys whose chains are left
pub record IsLeft (h : ℕ) (es : List KeyEntry) (chains : List Chain) (a b : Content) : Type 0 where
  pub left : List KeyEntry
  pub is : chains ≡ map (λ (e : KeyEntry). e.chain) left
  pub are_chains : All (λ (e : KeyEntry). IsChain b e.chain.number) left
  pub so_far : AreTrimmed h es left a b

pub left_start : (h : ℕ) (es : List KeyEntry) (chains : List Chain) (a : Content) → All (λ (e : KeyEntry). IsChain a e.chain.number) es → chains ≡ map (λ (e : KeyEntry). e.chain) es → IsLeft h es chains a a
left_start h es chains a all is = record { left = es; is = is; are_chains = all; so_far = trim_start h es a }

module _ (h : ℕ) (es : List KeyEntry) (chains rest : List Chain) (chain : Chain) (a b : Content) (now_left : IsLeft h es chains a b) (first : chains ≡ chain ∷ rest) where
  next : IsNextKey now_left.left chain rest
  next = next_key now_left.left chain chains rest now_left.is first

  pub left_chain : IsChain b chain.number
  left_chain = subst (λ (c : Chain). IsChain b c.number) {x = next.first.chain} {y = chain} next.chain_is (first_chain b now_left.left next.others next.first next.is now_left.are_chains)

  pub left_step : (d : Content) → d ≡ trimmed b chain.number h → IsLeft h es rest a d
  left_step d is =
      let there : IsChain b next.first.chain.number = first_chain b now_left.left next.others next.first next.is now_left.are_chains in
      let now_is : d ≡ trimmed b next.first.chain.number h = subst (λ (c : Chain). d ≡ trimmed b c.number h) {x = chain} {y = next.first.chain} (sym next.chain_is) is in
      record {
        left = next.others;
        is = next.rest_is;
        are_chains = trim_chains h next.others chain.number b d left_chain is (chains_left b now_left.left next.others next.first next.is now_left.are_chains);
        so_far = trim_step h es now_left.left next.others next.first a b d now_left.so_far next.is there now_is;
      }

pub left_none : (h : ℕ) (es : List KeyEntry) (chains : List Chain) (a b : Content) → IsLeft h es chains a b → chains ≡ [] → AreTrimmed h es [] a b
left_none h es chains a b now_left none = subst (λ (l : List KeyEntry). AreTrimmed h es l a b) (nothing now_left.left (sym now_left.is ∙ none)) now_left.so_far
  where
    nothing : (l : List KeyEntry) → map (λ (e : KeyEntry). e.chain) l ≡ [] → l ≡ []
    nothing [] h = refl
    nothing (e ∷ l) h = absurd cc

-- ---- all chains

module _ (h : ℕ) (es : List KeyEntry) (a b : Content) (ps : List PreparedNode) (stored : IsStored es a ps) (all : AreTrimmed h es [] a b) where
  every : AllByRecursion (IsTrimmed h a b) es
  every = subst (AllByRecursion (IsTrimmed h a b)) (sym (append-nil all.done) ∙ all.whole) all.each

  stay : (q : PreparedNode) → prepared_at b q.node.number ≡ prepared_at a q.node.number
  stay q = ap (λ (l : List (Option Prepared)). get_or l q.node.number None) all.so_far.prepared

  pub stored_after : IsStored es b ps
  stored_after = record {
    own = own_stays es a b stored.own all.so_far.same;
    most = all.so_far.most ∙ stored.most;
    owned = record {
      nodes = all_weaker (IsNodeOf a) (IsNodeOf b) (λ p n. record { image = n.image; prepared = stay p ∙ n.prepared; is_chain = chain_same a b p.chain.number all.so_far.same n.is_chain }) ps stored.owned.nodes;
      counted = λ c. ap (prepared_for c) all.so_far.prepared ∙ stored.owned.counted c;
      once = stored.owned.once;
    };
  }

  key_is : (e : KeyEntry) → IsTrimmed h a b e → kept_entry b ps e ≡ trimmed_key h (kept_entry a ps e)
  key_is e is = kept_equal e.key (chain_versions b e.chain.number) (seen.kept_upto h (chain_versions a e.chain.number)) (write_for b ps e.chain.number) (write_for a ps e.chain.number)
      (ap (map version_of) is ∙ kept_mapped h (versions a e.chain.number))
      (write-same a b e.chain.number ps (all_whole (λ (q : PreparedNode). prepared_at b q.node.number ≡ prepared_at a q.node.number) stay ps))

  pub keys_after : all_kept b ps es ≡ map (trimmed_key h) (all_kept a ps es)
  keys_after = go es every
    where
      go : (xs : List KeyEntry) → AllByRecursion (IsTrimmed h a b) xs → all_kept b ps xs ≡ map (trimmed_key h) (all_kept a ps xs)
      go [] t = refl
      go (e ∷ xs) t = ap (λ (k : KeyVersions). k ∷ all_kept b ps xs) (key_is e t.0) ∙ ap (λ (l : List KeyVersions). trimmed_key h (kept_entry a ps e) ∷ l) (go xs t.1)
