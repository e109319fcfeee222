-- The versions of a part of the keys are moved to another arena, chain by chain.
use Rattle.std.proofs.Common.{◌≡◌, ◌≢◌, ℕ, suc, ◌+◌, ◌-◌, ◌≤◌, List, [], ◌∷◌, ◌++◌, Some, None, get_or, length, map, refl, sym, ap, subst, ◌∙◌, arith, inl, inr, append_assoc, append-nil}
use Rattle.std.specs.Prelude.{All}
use Rattle.std.specs.List.{AllByRecursion}
use Rattle.std.proofs.lemmas.Bool.{cases_eq}
use Rattle.std.proofs.lemmas.List.{get_or-set_same, get_or-set_other, nil_from_length}
use Rattle.span_value.proofs.Lists.{all_append, all_weaker}
use Rattle.span_arena.specs.declared.token.Chain.{Chain}
use Rattle.span_arena.specs.Content.{Content, versions, versions_in, prepared_for, one_for, IsChain, cleared, with_kept, with_free_node, with_versions}
use Rattle.span_arena.proofs.Counts.{sum-push}
use Rattle.span_arena.proofs.Keeping.{chain_in_range}
use Rattle.span_keytree.specs.Arenas.{one_if_chain, HasSameChains}
use Rattle.span_keytree.specs.Entries.{KeyEntry, keys_of}
use Rattle.span_keytree.specs.Items.{holders}
use Rattle.span_keytree.proofs.Counting.{one_same}
use Rattle.span_keyindex.proofs.Keeping.{chain_same, same_after, same-kept}
use Rattle.span_keytree.proofs.Linking.{held_append}
use Rattle.span_store.specs.Stored.{versions_count, AreReserved, HaveVersions, HasSameKeys, AreMoved}
use Rattle.span_store.proofs.Seeing.{chains_left, first_chain}
use Rattle.span_store.proofs.Cutting.{IsNextKey, next_key}

-- ---- versions reserved

pub none_reserved : (a : Content) → AreReserved 0 a a
none_reserved a = record { chains = refl; cells = refl; most = refl; free = omega arith; prepared = λ c. refl }

pub one_reserved : (n : ℕ) (a b d : Content) → AreReserved n a b → d ≡ with_free_node b → AreReserved (n + 1) a d
one_reserved n a b d reserved is = record {
  chains = ap (λ (x : Content). x.chains) is ∙ reserved.chains;
  cells = ap (λ (x : Content). x.cells) is ∙ reserved.cells;
  most = ap (λ (x : Content). x.most) is ∙ reserved.most;
  free = (let f : d.free ≡ b.free + 1 = ap (λ (x : Content). x.free) is in omega (arith, reserved.free));
  prepared = λ c. (let p : prepared_for c d.prepared ≡ prepared_for c b.prepared + 0 = ap (λ (x : Content). prepared_for c x.prepared) is ∙ sum-push (one_for c) b.prepared None in
      omega (arith, reserved.prepared c));
}

pub more_reserved : (n m k : ℕ) (a b d : Content) → AreReserved n a b → AreReserved m b d → n + m ≡ k → AreReserved k a d
more_reserved n m k a b d first next sum = record {
  chains = next.chains ∙ first.chains;
  cells = next.cells ∙ first.cells;
  most = next.most ∙ first.most;
  free = omega (arith, first.free, next.free);
  prepared = λ c. next.prepared c ∙ first.prepared c;
}

count_append : (a : Content) (xs ys : List KeyEntry) → versions_count a (xs ++ ys) ≡ versions_count a xs + versions_count a ys
count_append a [] ys = omega arith
count_append a (x ∷ xs) ys = omega (arith, count_append a xs ys)

-- there is capacity for the versions of the first keys, and these chains are left
pub record IsReservedSoFar (es : List KeyEntry) (chains : List Chain) (a : Content) (old new : Content) : Type 0 where
  pub done : List KeyEntry
  pub left : List KeyEntry
  pub whole : es ≡ done ++ left
  pub is : chains ≡ map (λ (e : KeyEntry). e.chain) left
  pub are_chains : All (λ (e : KeyEntry). IsChain a e.chain.number) left
  pub reserved : AreReserved (versions_count a done) old new

pub reserving_starts : (es : List KeyEntry) (chains : List Chain) (a old : Content) → All (λ (e : KeyEntry). IsChain a e.chain.number) es → chains ≡ map (λ (e : KeyEntry). e.chain) es → IsReservedSoFar es chains a old old
reserving_starts es chains a old all is = record { done = []; left = es; whole = refl; is = is; are_chains = all; reserved = none_reserved old }

module _ (es : List KeyEntry) (chains rest : List Chain) (chain : Chain) (a old b : Content) (so_far : IsReservedSoFar es chains a old b) (first : chains ≡ chain ∷ rest) where
  next_reserved : IsNextKey so_far.left chain rest
  next_reserved = next_key so_far.left chain chains rest so_far.is first

  pub reserved_chain : IsChain a chain.number
  reserved_chain = subst (λ (c : Chain). IsChain a c.number) {x = next_reserved.first.chain} {y = chain} next_reserved.chain_is (first_chain a so_far.left next_reserved.others next_reserved.first next_reserved.is so_far.are_chains)

  pub reserving_step : (n : ℕ) (d : Content) → n ≡ length (versions a chain.number) → AreReserved n b d → IsReservedSoFar es rest a old d
  reserving_step n d count more = record {
    done = so_far.done ++ next_reserved.first ∷ [];
    left = next_reserved.others;
    whole = so_far.whole ∙ ap (λ (l : List KeyEntry). so_far.done ++ l) next_reserved.is ∙ sym (append_assoc so_far.done (next_reserved.first ∷ []) next_reserved.others);
    is = next_reserved.rest_is;
    are_chains = chains_left a so_far.left next_reserved.others next_reserved.first next_reserved.is so_far.are_chains;
    reserved = more_reserved (versions_count a so_far.done) n (versions_count a (so_far.done ++ next_reserved.first ∷ [])) old b d so_far.reserved more
        (let e : n ≡ length (versions a next_reserved.first.chain.number) = count ∙ ap (λ (c : Chain). length (versions a c.number)) (sym next_reserved.chain_is) in
        omega (arith, count_append a so_far.done (next_reserved.first ∷ [])));
  }

none_left : (l : List KeyEntry) → map (λ (e : KeyEntry). e.chain) l ≡ [] → l ≡ []
none_left [] h = refl
none_left (e ∷ l) h = absurd cc

pub reserving_ends : (es : List KeyEntry) (chains : List Chain) (a old b : Content) → IsReservedSoFar es chains a old b → chains ≡ [] → AreReserved (versions_count a es) old b
reserving_ends es chains a old b so_far none =
    let whole : es ≡ so_far.done = so_far.whole ∙ ap (λ (l : List KeyEntry). so_far.done ++ l) (none_left so_far.left (sym so_far.is ∙ none)) ∙ append-nil so_far.done in
    subst (λ (l : List KeyEntry). AreReserved (versions_count a l) old b) (sym whole) so_far.reserved

-- ---- the move

-- the versions of the first keys are moved, and these chains are left
pub record IsMoving (es fs : List KeyEntry) (sources chains : List Chain) (a b c d : Content) : Type 0 where
  pub done : List KeyEntry
  pub left : List KeyEntry
  pub filled : List KeyEntry
  pub open_ones : List KeyEntry
  pub whole : es ≡ done ++ left
  pub parts : fs ≡ filled ++ open_ones
  pub sources_are : sources ≡ map (λ (e : KeyEntry). e.chain) left
  pub chains_are : chains ≡ map (λ (e : KeyEntry). e.chain) open_ones
  pub equal : length left ≡ length open_ones
  pub are_sources : All (λ (e : KeyEntry). IsChain b e.chain.number) left
  pub are_chains : All (λ (e : KeyEntry). IsChain d e.chain.number) open_ones
  pub from : HasSameKeys a b
  pub gone : AllByRecursion (λ (e : KeyEntry). versions b e.chain.number ≡ []) done
  pub stay : (x : ℕ) → holders x done ≡ 0 → versions b x ≡ versions a x
  pub to : HasSameKeys c d
  pub there : HaveVersions a d done filled
  pub none : (x : ℕ) → holders x filled ≡ 0 → versions d x ≡ []
  pub enough : versions_count a left ≤ d.free

length_keys : (es fs : List KeyEntry) → keys_of es ≡ keys_of fs → length fs ≡ length es
length_keys [] [] same = refl
length_keys [] (f ∷ fs) same = absurd (let q : [] ≡ f.key ∷ keys_of fs = same in cc)
length_keys (e ∷ es) [] same = absurd (let q : e.key ∷ keys_of es ≡ [] = same in cc)
length_keys (e ∷ es) (f ∷ fs) same =
    let q : e.key ∷ keys_of es ≡ f.key ∷ keys_of fs = same in
    let rest : keys_of es ≡ keys_of fs = cc in
    ap suc (length_keys es fs rest)

same_keys : (a : Content) → HasSameKeys a a
same_keys a = record { same = λ c. refl; cells = refl; most = refl; prepared = refl }

pub moving_starts : (es fs : List KeyEntry) (sources chains : List Chain) (a c : Content) → sources ≡ map (λ (e : KeyEntry). e.chain) es → chains ≡ map (λ (e : KeyEntry). e.chain) fs → keys_of fs ≡ keys_of es
    → All (λ (e : KeyEntry). IsChain a e.chain.number) es → All (λ (e : KeyEntry). IsChain c e.chain.number) fs → ((x : ℕ) → versions c x ≡ []) → versions_count a es ≤ c.free → IsMoving es fs sources chains a a c c
moving_starts es fs sources chains a c sources_are chains_are keys all_sources all_chains none enough = record {
  done = [];
  left = es;
  filled = [];
  open_ones = fs;
  whole = refl;
  parts = refl;
  sources_are = sources_are;
  chains_are = chains_are;
  equal = length_keys fs es keys;
  are_sources = all_sources;
  are_chains = all_chains;
  from = same_keys a;
  gone = tt;
  stay = λ x _. refl;
  to = same_keys c;
  there = tt;
  none = λ x _. none x;
  enough = enough;
}

-- another chain of the new arena leaves what is there
there_stays : (a d e : Content) (es fs : List KeyEntry) (c : ℕ) → holders c fs ≡ 0 → ((x : ℕ) → x ≢ c → versions e x ≡ versions d x) → HaveVersions a d es fs → HaveVersions a e es fs
there_stays a d e [] [] c other stay there = tt
there_stays a d e [] (f ∷ fs) c other stay there = there
there_stays a d e (x ∷ es) [] c other stay there = there
there_stays a d e (x ∷ es) (f ∷ fs) c other stay there =
    let differs : f.chain.number ≢ c = λ same. (let one : 1 ≤ holders c (f ∷ fs) = held_one f fs c same in omega arith) in
    (stay f.chain.number differs ∙ there.0, there_stays a d e es fs c (omega arith) stay there.1)
  where
    held_one : (f : KeyEntry) (fs : List KeyEntry) (c : ℕ) → f.chain.number ≡ c → 1 ≤ holders c (f ∷ fs)
    held_one f fs c same = omega (arith, one_same c f.chain.number (sym same))

there_more : (a d : Content) (es fs : List KeyEntry) (e f : KeyEntry) → HaveVersions a d es fs → versions d f.chain.number ≡ versions a e.chain.number → HaveVersions a d (es ++ e ∷ []) (fs ++ f ∷ [])
there_more a d [] [] e f there here = (here, tt)
there_more a d [] (g ∷ fs) e f there here = absurd there
there_more a d (x ∷ es) [] e f there here = absurd there
there_more a d (x ∷ es) (g ∷ fs) e f there here = (there.0, there_more a d es fs e f there.1 here)

all_chains_stay : (b d : Content) (es : List KeyEntry) → HasSameChains b d → All (λ (e : KeyEntry). IsChain b e.chain.number) es → All (λ (e : KeyEntry). IsChain d e.chain.number) es
all_chains_stay b d es same all k e lt = chain_same b d _ same (all k e lt)

same_keys_after : (a b d : Content) → HasSameKeys a b → HasSameKeys b d → HasSameKeys a d
same_keys_after a b d first next = record {
  same = same_after a b d first.same next.same;
  cells = next.cells ∙ first.cells;
  most = next.most ∙ first.most;
  prepared = next.prepared ∙ first.prepared;
}

module _ (es fs : List KeyEntry) (sources left_sources chains left_chains : List Chain) (source chain : Chain) (a b c d : Content) (once : (x : ℕ) → holders x es ≤ 1) (once_there : (x : ℕ) → holders x fs ≤ 1)
    (moving : IsMoving es fs sources chains a b c d) (first : sources ≡ source ∷ left_sources) (first_there : chains ≡ chain ∷ left_chains) where
  from_next : IsNextKey moving.left source left_sources
  from_next = next_key moving.left source sources left_sources moving.sources_are first

  to_next : IsNextKey moving.open_ones chain left_chains
  to_next = next_key moving.open_ones chain chains left_chains moving.chains_are first_there

  pub source_chain : IsChain b source.number
  source_chain = subst (λ (x : Chain). IsChain b x.number) {x = from_next.first.chain} {y = source} from_next.chain_is (first_chain b moving.left from_next.others from_next.first from_next.is moving.are_sources)

  pub to_chain : IsChain d chain.number
  to_chain = subst (λ (x : Chain). IsChain d x.number) {x = to_next.first.chain} {y = chain} to_next.chain_is (first_chain d moving.open_ones to_next.others to_next.first to_next.is moving.are_chains)

  held_from : (x : ℕ) → holders x es ≡ holders x moving.done + holders x (from_next.first ∷ from_next.others)
  held_from x = ap (holders x) moving.whole ∙ held_append x moving.done moving.left ∙ ap (λ (l : List KeyEntry). holders x moving.done + holders x l) from_next.is

  held_to : (x : ℕ) → holders x fs ≡ holders x moving.filled + holders x (to_next.first ∷ to_next.others)
  held_to x = ap (holders x) moving.parts ∙ held_append x moving.filled moving.open_ones ∙ ap (λ (l : List KeyEntry). holders x moving.filled + holders x l) to_next.is

  source_number : from_next.first.chain.number ≡ source.number
  source_number = ap (λ (x : Chain). x.number) from_next.chain_is

  chain_number : to_next.first.chain.number ≡ chain.number
  chain_number = ap (λ (x : Chain). x.number) to_next.chain_is

  not_done : holders source.number moving.done ≡ 0
  not_done = omega (arith, held_from source.number, once source.number, one_same source.number from_next.first.chain.number (sym source_number))

  not_filled : holders chain.number moving.filled ≡ 0
  not_filled = omega (arith, held_to chain.number, once_there chain.number, one_same chain.number to_next.first.chain.number (sym chain_number))

  pub to_none : versions d chain.number ≡ []
  to_none = moving.none chain.number not_filled

  source_same : versions b source.number ≡ versions a source.number
  source_same = moving.stay source.number not_done

  count_is : versions_count a moving.left ≡ length (versions a source.number) + versions_count a from_next.others
  count_is = ap (versions_count a) from_next.is ∙ ap (λ (x : ℕ). length (versions a x) + versions_count a from_next.others) source_number

  pub enough_free : length (versions b source.number) ≤ d.free
  enough_free = (let e : length (versions b source.number) ≡ length (versions a source.number) = ap length source_same in omega (arith, count_is, moving.enough))

  module _ (g h : Content) (here : h ≡ with_versions d chain.number (versions b source.number)) (there : g ≡ cleared b source.number) where
    from_here : versions g source.number ≡ []
    from_here = ap (λ (x : Content). versions x source.number) there ∙ ap versions_in (get_or-set_same b.chains source.number (Some []) None (chain_in_range b source.number source_chain))

    from_elsewhere : (x : ℕ) → x ≢ source.number → versions g x ≡ versions b x
    from_elsewhere x differs = ap (λ (w : Content). versions w x) there ∙ ap versions_in (get_or-set_other b.chains source.number x (Some []) None differs)

    to_here : versions h chain.number ≡ versions a source.number
    to_here = ap (λ (x : Content). versions x chain.number) here ∙ ap versions_in (get_or-set_same d.chains chain.number (Some (versions b source.number)) None (chain_in_range d chain.number to_chain)) ∙ source_same

    to_elsewhere : (x : ℕ) → x ≢ chain.number → versions h x ≡ versions d x
    to_elsewhere x differs = ap (λ (w : Content). versions w x) here ∙ ap versions_in (get_or-set_other d.chains chain.number x (Some (versions b source.number)) None differs)

    from_same : HasSameChains b g
    from_same = same-kept b g source.number [] source_chain there

    to_same : HasSameChains d h
    to_same x = ap (λ (w : Content). one_if_chain (get_or w.chains x None)) here ∙ same-kept d (with_kept d chain.number (versions b source.number)) chain.number (versions b source.number) to_chain refl x

    still_gone : (e : KeyEntry) → versions b e.chain.number ≡ [] → versions g e.chain.number ≡ []
    still_gone e was = elim (cases_eq e.chain.number source.number) [
      | inl equal ↦ ap (versions g) equal ∙ from_here
      | inr differs ↦ from_elsewhere e.chain.number differs ∙ was
    ]

    pub moving_step : IsMoving es fs left_sources left_chains a g c h
    moving_step = record {
      done = moving.done ++ from_next.first ∷ [];
      left = from_next.others;
      filled = moving.filled ++ to_next.first ∷ [];
      open_ones = to_next.others;
      whole = moving.whole ∙ ap (λ (l : List KeyEntry). moving.done ++ l) from_next.is ∙ sym (append_assoc moving.done (from_next.first ∷ []) from_next.others);
      parts = moving.parts ∙ ap (λ (l : List KeyEntry). moving.filled ++ l) to_next.is ∙ sym (append_assoc moving.filled (to_next.first ∷ []) to_next.others);
      sources_are = from_next.rest_is;
      chains_are = to_next.rest_is;
      equal = (let x : length moving.left ≡ suc (length from_next.others) = ap length from_next.is in
          let y : length moving.open_ones ≡ suc (length to_next.others) = ap length to_next.is in omega (arith, moving.equal));
      are_sources = all_chains_stay b g from_next.others from_same (chains_left b moving.left from_next.others from_next.first from_next.is moving.are_sources);
      are_chains = all_chains_stay d h to_next.others to_same (chains_left d moving.open_ones to_next.others to_next.first to_next.is moving.are_chains);
      from = same_keys_after a b g moving.from (record {
        same = from_same;
        cells = ap (λ (x : Content). x.cells) there;
        most = ap (λ (x : Content). x.most) there;
        prepared = ap (λ (x : Content). x.prepared) there;
      });
      gone = all_append (λ (e : KeyEntry). versions g e.chain.number ≡ []) moving.done (from_next.first ∷ [])
          (all_weaker (λ (e : KeyEntry). versions b e.chain.number ≡ []) (λ (e : KeyEntry). versions g e.chain.number ≡ []) still_gone moving.done moving.gone) (ap (versions g) source_number ∙ from_here, tt);
      stay = λ x other. (
          let split : holders x (moving.done ++ from_next.first ∷ []) ≡ holders x moving.done + holders x (from_next.first ∷ []) = held_append x moving.done (from_next.first ∷ []) in
          let differs : x ≢ source.number = λ same. (let one = one_same x from_next.first.chain.number (same ∙ sym source_number) in absurd (omega (arith, split, one))) in
          from_elsewhere x differs ∙ moving.stay x (omega (arith, split)));
      to = same_keys_after c d h moving.to (record {
        same = to_same;
        cells = ap (λ (x : Content). x.cells) here;
        most = ap (λ (x : Content). x.most) here;
        prepared = ap (λ (x : Content). x.prepared) here;
      });
      there = there_more a h moving.done moving.filled from_next.first to_next.first (there_stays a d h moving.done moving.filled chain.number not_filled to_elsewhere moving.there)
          (ap (versions h) chain_number ∙ to_here ∙ ap (versions a) (sym source_number));
      none = λ x other. (
          let split : holders x (moving.filled ++ to_next.first ∷ []) ≡ holders x moving.filled + holders x (to_next.first ∷ []) = held_append x moving.filled (to_next.first ∷ []) in
          let differs : x ≢ chain.number = λ same. (let one = one_same x to_next.first.chain.number (same ∙ sym chain_number) in absurd (omega (arith, split, one))) in
          to_elsewhere x differs ∙ moving.none x (omega (arith, split)));
      enough = (let f : h.free ≡ d.free - length (versions b source.number) = ap (λ (x : Content). x.free) here in
          let e : length (versions b source.number) ≡ length (versions a source.number) = ap length source_same in omega (arith, count_is, moving.enough));
    }

pub moving_ends : (es fs : List KeyEntry) (sources chains : List Chain) (a b c d : Content) → IsMoving es fs sources chains a b c d → sources ≡ [] → AreMoved es fs a b c d
moving_ends es fs sources chains a b c d moving none =
    let nothing : moving.left ≡ [] = none_left moving.left (sym moving.sources_are ∙ none) in
    let open_none : moving.open_ones ≡ [] = nil_from_length moving.open_ones (let z : length moving.left ≡ 0 = ap length nothing in omega (arith, moving.equal)) in
    let whole : moving.done ≡ es = sym (moving.whole ∙ ap (λ (l : List KeyEntry). moving.done ++ l) nothing ∙ append-nil moving.done) in
    let parts : moving.filled ≡ fs = sym (moving.parts ∙ ap (λ (l : List KeyEntry). moving.filled ++ l) open_none ∙ append-nil moving.filled) in
    record {
      from = moving.from;
      gone = subst (λ (l : List KeyEntry). AllByRecursion (λ (e : KeyEntry). versions b e.chain.number ≡ []) l) whole moving.gone;
      stay = λ x other. moving.stay x (ap (holders x) whole ∙ other);
      to = moving.to;
      there = subst (λ (l : List KeyEntry). HaveVersions a d l fs) whole (subst (λ (l : List KeyEntry). HaveVersions a d moving.done l) parts moving.there);
    }
