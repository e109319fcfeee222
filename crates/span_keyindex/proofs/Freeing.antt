-- How the chains are freed that are not in use.
use Rattle.std.proofs.Common.{◌≡◌, ◌≢◌, ℕ, ◌+◌, ◌<◌, ◌≤◌, List, [], ◌∷◌, ◌++◌, refl, sym, ◌∙◌, ap, arith, length, get_or, set, inl, inr, true, false, Option, None, cond}
use Rattle.std.proofs.Math.Bool.{and-false}
use Rattle.std.specs.Prelude.{not, ◌&&◌, Bool, nat_lt}
use Rattle.std.proofs.Math.ListN.{get_or-eq_default}
use Rattle.std.proofs.lemmas.List.{get_or-set_same, get_or-set_other, length-set}
use Rattle.std.proofs.lemmas.Bool.{cases_lt, cases_eq}
use Rattle.std.proofs.lemmas.Bool.Decides.{nat_tests}
use Rattle.span_arena.specs.declared.version.ArenaVersion.{ArenaVersion}
use Rattle.span_arena.specs.Cells.{blank}
use Rattle.span_arena.specs.Content.{Content, IsChain, is_unused, without_chain}
use Rattle.span_keytree.specs.Entries.{KeyEntry}
use Rattle.span_keytree.specs.Items.{holders}
use Rattle.span_keytree.specs.Arenas.{one_if_chain, IsArenaOf, in_use, IsWithoutUnused}
use Rattle.span_keyindex.specs.Removals.{KeepsCells}
use Rattle.span_keyindex.proofs.Holders.{one_of, one_here, one_elsewhere, at_most_one, holders-filter}
use Rattle.span_keytree.proofs.Held.{is_some_chain}
use Rattle.span_keytree.proofs.Linking.{held_append}

-- the number is that of a chain with no version and nothing prepared, of one of these keys
abbrev pub is_gone : Content → List KeyEntry → ℕ → Bool
is_gone a es c = is_unused a c && nat_lt 0 (holders c es)

abbrev pub unless : {A : Type 0} → Bool → Option A → Option A
unless true o = None
unless false o = o

-- the chains of these keys that were not in use are none any more
pub record IsFreed (old new : Content) (done : List KeyEntry) : Type 0 where
  pub chains : (c : ℕ) → get_or new.chains c None ≡ unless (is_gone old done c) (get_or old.chains c None)
  pub numbers : length new.chains ≡ length old.chains
  pub others : new ≡ record old { chains = new.chains; cells = new.cells }

-- a chain that is freed is none
none_there : (xs : List (Option (List ArenaVersion))) (c : ℕ) → get_or (set xs c None) c None ≡ None
none_there xs c = elim (cases_lt c (length xs)) [
  | inl below ↦ get_or-set_same xs c None None below
  | inr past ↦ (let long : length (set xs c None) ≤ c = omega (arith, length-set xs c None) in get_or-eq_default (set xs c None) None long)
]

module _ (es gone rest : List KeyEntry) (e : KeyEntry) (a b : Content) (own : IsArenaOf es a) (parts : es ≡ gone ++ e ∷ rest) (freed : IsFreed a b gone) where
  held_is : (c : ℕ) → holders c es ≡ holders c gone + (one_of c e + holders c rest)
  held_is c = ap (holders c) parts ∙ held_append c gone (e ∷ rest)

  held_now : (c : ℕ) → holders c (gone ++ e ∷ []) ≡ holders c gone + one_of c e
  held_now c = held_append c gone (e ∷ []) ∙ (omega arith)

  -- the next key's chain is as it was
  same_chain : get_or b.chains e.chain.number None ≡ get_or a.chains e.chain.number None
  same_chain =
      let here : one_of e.chain.number e ≡ 1 = one_here e.chain.number e refl in
      let zero_held : holders e.chain.number gone ≡ 0 = omega (arith, held_is e.chain.number, own.each e.chain.number, at_most_one (get_or a.chains e.chain.number None)) in
      let none : nat_lt 0 (holders e.chain.number gone) ≡ false = rw zero_held refl in
      freed.chains e.chain.number ∙ (rw (none, and-false (is_unused a e.chain.number)) refl)

  pub is_chain_next : IsChain b e.chain.number
  is_chain_next =
      let here : one_of e.chain.number e ≡ 1 = one_here e.chain.number e refl in
      rw same_chain (is_some_chain (get_or a.chains e.chain.number None) (omega (arith, held_is e.chain.number, own.each e.chain.number)))

  pub is_unused_next : is_unused b e.chain.number ≡ is_unused a e.chain.number
  is_unused_next =
      let prepared : b.prepared ≡ a.prepared = ap (λ (x : Content). x.prepared) freed.others in
      rw (same_chain, prepared) refl

  gone_same : (c : ℕ) → e.chain.number ≢ c → is_gone a (gone ++ e ∷ []) c ≡ is_gone a gone c
  gone_same c differs =
      let n : holders c (gone ++ e ∷ []) ≡ holders c gone = omega (arith, held_now c, one_elsewhere c e differs) in
      rw n refl

  -- what is in use stays
  pub freed_used : is_unused a e.chain.number ≡ false → IsFreed a b (gone ++ e ∷ [])
  freed_used used = record {
    chains = λ c. freed.chains c ∙ ap (λ (g : Bool). unless g (get_or a.chains c None)) (elim (cases_eq e.chain.number c) [
      | inl same ↦ (let f : is_unused a c ≡ false = rw same at used in rw f refl)
      | inr differs ↦ sym (gone_same c differs)
    ]);
    numbers = freed.numbers;
    others = freed.others;
  }

  -- what is not is freed
  pub freed_more : is_unused a e.chain.number ≡ true → (d : Content) → d ≡ without_chain b e.chain.number → IsFreed a d (gone ++ e ∷ [])
  freed_more unused d is = rw is (record {
    chains = λ c. elim (cases_eq e.chain.number c) [
      | inl same ↦ (let t : is_unused a c ≡ true = rw same at unused in
          let one : one_of c e ≡ 1 = one_here c e same in
          let some : nat_lt 0 (holders c (gone ++ e ∷ [])) ≡ true = (let n : 0 < holders c (gone ++ e ∷ []) = omega (arith, held_now c) in grind (arith, nat_tests)) in
          rw (t, some) (rw same (none_there b.chains c)))
      | inr differs ↦ (let apart : c ≢ e.chain.number = λ q. differs (sym q) in
          get_or-set_other b.chains e.chain.number c None None apart ∙ freed.chains c ∙ ap (λ (g : Bool). unless g (get_or a.chains c None)) (sym (gone_same c differs)))
    ];
    numbers = length-set b.chains e.chain.number None ∙ freed.numbers;
    others = ap (λ (x : Content). record x { chains = set b.chains e.chain.number None; cells = set b.cells e.chain.number blank }) freed.others;
  })

-- nothing was freed yet
pub freed_none : (a : Content) → IsFreed a a []
freed_none a = record {
  chains = λ c. (rw (and-false (is_unused a c)) refl);
  numbers = refl;
  others = refl;
}

pub freed_cells : (a b : Content) (cell : ℕ) → is_unused a cell ≡ true → KeepsCells (is_unused a) a.cells b.cells → KeepsCells (is_unused a) a.cells (without_chain b cell).cells
freed_cells a b cell unused keeps = record {
  others = λ i used. (let differs : i ≢ cell = λ same. (let q : true ≡ false = sym unused ∙ ap (is_unused a) (sym same) ∙ used in absurd cc) in
      get_or-set_other b.cells cell i blank blank differs ∙ keeps.others i used);
  same_length = length-set b.cells cell blank ∙ keeps.same_length;
}

pub arena_of_used : (es : List KeyEntry) (a b : Content) → IsArenaOf es a → IsWithoutUnused a b → IsArenaOf (in_use a es) b
arena_of_used es a b own without = record { each = λ c. holders-filter (λ n. not (is_unused a n)) c es ∙ left (is_unused a c) (holders c es) (get_or a.chains c None) (own.each c) ∙ ap one_if_chain (sym (without.chains c)) }
  where
    left : (b : Bool) (n : ℕ) (o : Option (List ArenaVersion)) → n ≡ one_if_chain o → cond (not b) n 0 ≡ one_if_chain (cond b None o)
    left false n o is = is
    left true n o is = refl
