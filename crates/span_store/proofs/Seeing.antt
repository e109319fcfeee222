-- What is read of an arena is what is seen of the keys.
use Rattle.std.proofs.Common.{◌≡◌, ◌<◌, ℕ, zero, suc, arith, Bool, true, false, cond, List, [], ◌∷◌, ◌++◌, Option, Some, None, map, refl, sym, ap, subst, ◌∙◌, append_assoc}
use Rattle.std.specs.Prelude.{filter, length, nat_le, option_and_then, option_map, All}
use Rattle.std.specs.List.{filter_map, cons_option}
use Rattle.std.proofs.lemmas.List.Elements.{All-nil, All-cons, All-head, All-tail}
use Rattle.span_value.proofs.Lists.{filter-map}
use Rattle.span_keycode.specs.declared.range.KeyRange.{KeyRange}
use Rattle.span_arena.specs.declared.version.ArenaVersion.{ArenaVersion}
use Rattle.span_arena.specs.Content.{Content, newest_upto, IsChain}
use Rattle.span_keytree.specs.Entries.{entries_in, entries_under, KeyEntry}
use Rattle.span_keywalk.specs.Walks.{short_entries}
use Rattle.span_maderows.specs.Made.{begins_with}
use Rattle.span_store.specs.declared.chain.Version.{Version}
use Rattle.span_store.specs.declared.node.PreparedNode.{PreparedNode}
use Rattle.span_store.specs.KeyVersions.{KeyVersions}
use Rattle.span_store.specs.Versions.{newest_at, row_at}
use Rattle.span_store.specs.Reads.{KeyRow, is_within, seen_at, snapshot, versions_alone, versions_alone_at, seen_entry, has_short_key}
use Rattle.span_store.specs.Stored.{version_of, chain_versions, kept_entry, all_kept}

pub row_found : (vs : List ArenaVersion) (s : ℕ) (v : ArenaVersion) → newest_upto s vs ≡ Some v → row_at (map version_of vs) s ≡ v.image
row_found [] s v e = absurd (let f : None ≡ Some v = e in cc)
row_found (x ∷ xs) s v e = cases (nat_le x.timestamp s) (row_found xs s v) e
  where
    cases : (b : Bool) → (newest_upto s xs ≡ Some v → row_at (map version_of xs) s ≡ v.image) → cond b (Some x) (newest_upto s xs) ≡ Some v → option_and_then (λ (y : Version). y.row) (cond b (Some (version_of x)) (newest_at (map version_of xs) s)) ≡ v.image
    cases true again f = let same : x ≡ v = cc in ap (λ (y : ArenaVersion). y.image) same
    cases false again f = again f

pub row_missing : (vs : List ArenaVersion) (s : ℕ) → newest_upto s vs ≡ None → row_at (map version_of vs) s ≡ None
row_missing [] s e = refl
row_missing (x ∷ xs) s e = cases (nat_le x.timestamp s) (row_missing xs s) e
  where
    cases : (b : Bool) → (newest_upto s xs ≡ None → row_at (map version_of xs) s ≡ None) → cond b (Some x) (newest_upto s xs) ≡ None → option_and_then (λ (y : Version). y.row) (cond b (Some (version_of x)) (newest_at (map version_of xs) s)) ≡ None
    cases true again f = absurd (let g : Some x ≡ None = f in cc)
    cases false again f = again f

bare_map : (a : Content) (ps : List PreparedNode) (es : List KeyEntry) → map versions_alone (all_kept a ps es) ≡ map (versions_alone_at a) es
bare_map a ps [] = refl
bare_map a ps (e ∷ es) = ap (λ (l : List KeyVersions). versions_alone_at a e ∷ l) (bare_map a ps es)

pub under_is : (a : Content) (ps : List PreparedNode) (es fs : List KeyEntry) (front : List ℕ) → fs ≡ entries_under front es → map (versions_alone_at a) fs ≡ map versions_alone (filter (λ (c : KeyVersions). begins_with c.key front) (all_kept a ps es))
under_is a ps es fs front is =
    ap (map (versions_alone_at a)) is ∙ sym (ap (map versions_alone) (filter-map (λ (c : KeyVersions). begins_with c.key front) (kept_entry a ps) es) ∙ bare_map a ps (entries_under front es))

seen_map : (a : Content) (ps : List PreparedNode) (s : ℕ) (es : List KeyEntry) → filter_map (seen_at s) (all_kept a ps es) ≡ filter_map (seen_entry a s) es
seen_map a ps s [] = refl
seen_map a ps s (e ∷ es) = ap (cons_option (seen_entry a s e)) (seen_map a ps s es)

pub within_is : (a : Content) (ps : List PreparedNode) (es fs : List KeyEntry) (range : KeyRange) (s : ℕ) → fs ≡ entries_in range es → filter_map (seen_entry a s) fs ≡ snapshot range s (all_kept a ps es)
within_is a ps es fs range s is =
    ap (filter_map (seen_entry a s)) is ∙ sym (ap (filter_map (seen_at s)) (filter-map (λ (c : KeyVersions). is_within range c.key) (kept_entry a ps) es) ∙ seen_map a ps s (entries_in range es))

-- ---- a walk, step by step

pub chains_left : (a : Content) (es fs : List KeyEntry) (e : KeyEntry) → es ≡ e ∷ fs → All (λ (x : KeyEntry). IsChain a x.chain.number) es → All (λ (x : KeyEntry). IsChain a x.chain.number) fs
chains_left a es fs e is all k d lt =
    let whole : All (λ (x : KeyEntry). IsChain a x.chain.number) (e ∷ fs) = subst (λ (l : List KeyEntry). All (λ (x : KeyEntry). IsChain a x.chain.number) l) is all in
    whole (suc k) d (omega arith)

pub first_chain : (a : Content) (es fs : List KeyEntry) (e : KeyEntry) → es ≡ e ∷ fs → All (λ (x : KeyEntry). IsChain a x.chain.number) es → IsChain a e.chain.number
first_chain a es fs e is all =
    let whole : All (λ (x : KeyEntry). IsChain a x.chain.number) (e ∷ fs) = subst (λ (l : List KeyEntry). All (λ (x : KeyEntry). IsChain a x.chain.number) l) is all in
    whole zero e (omega arith)

pub pushed_step : {X Y : Type 0} (f : X → Y) (found more : List Y) (es fs : List X) (e : X) (all : List Y) → es ≡ e ∷ fs → more ≡ found ++ f e ∷ [] → found ++ map f es ≡ all → more ++ map f fs ≡ all
pushed_step {X} {Y} f found more es fs e all is pushed so_far =
    ap (λ (l : List Y). l ++ map f fs) pushed ∙ append_assoc found (f e ∷ []) (map f fs) ∙ ap (λ (l : List X). found ++ map f l) (sym is) ∙ so_far

-- ---- the keys that were found together

pub chains_found : (a : Content) (es fs : List KeyEntry) → All (λ (x : KeyEntry). IsChain a x.chain.number) (es ++ fs) → All (λ (x : KeyEntry). IsChain a x.chain.number) es
chains_found a [] fs all = All-nil (λ (x : KeyEntry). IsChain a x.chain.number)
chains_found a (e ∷ es) fs all =
    let P : KeyEntry → Type 0 = λ x. IsChain a x.chain.number in
    All-cons P e es (All-head P e (es ++ fs) all) (chains_found a es fs (All-tail P e (es ++ fs) all))

pub chains_after : (a : Content) (es fs : List KeyEntry) → All (λ (x : KeyEntry). IsChain a x.chain.number) (es ++ fs) → All (λ (x : KeyEntry). IsChain a x.chain.number) fs
chains_after a [] fs all = all
chains_after a (e ∷ es) fs all = chains_after a es fs (All-tail (λ (x : KeyEntry). IsChain a x.chain.number) e (es ++ fs) all)

-- ---- rows with short keys

abbrev the_row : List ℕ → List ℕ → KeyRow
the_row key row = record { key = key; row = row }

abbrev first_short : ℕ → List KeyRow → Option KeyRow → List KeyRow
first_short most rest o = filter (has_short_key most) (cons_option o rest)

long_row : (most : ℕ) (key : List ℕ) (o : Option (List ℕ)) (rest : List KeyRow) → nat_le (length key) most ≡ false → first_short most rest (option_map (the_row key) o) ≡ filter (has_short_key most) rest
long_row most key None rest long = refl
long_row most key (Some row) rest long = ap (λ (b : Bool). cond b (the_row key row ∷ filter (has_short_key most) rest) (filter (has_short_key most) rest)) long

short_row : (most : ℕ) (key : List ℕ) (o : Option (List ℕ)) (rest rows : List KeyRow) → nat_le (length key) most ≡ true → rest ≡ filter (has_short_key most) rows
    → cons_option (option_map (the_row key) o) rest ≡ first_short most rows (option_map (the_row key) o)
short_row most key None rest rows short is = is
short_row most key (Some row) rest rows short is =
    ap (λ (l : List KeyRow). the_row key row ∷ l) is ∙ sym (ap (λ (b : Bool). cond b (the_row key row ∷ filter (has_short_key most) rows) (filter (has_short_key most) rows)) short)

-- the rows of the short keys are the rows with short keys
pub short_seen : (a : Content) (s most : ℕ) (es : List KeyEntry) → filter_map (seen_entry a s) (short_entries most es) ≡ filter (has_short_key most) (filter_map (seen_entry a s) es)
short_seen a s most [] = refl
short_seen a s most (e ∷ es) = cases (nat_le (length e.key) most) refl (short_seen a s most es)
  where
    cases : (b : Bool) → nat_le (length e.key) most ≡ b → filter_map (seen_entry a s) (short_entries most es) ≡ filter (has_short_key most) (filter_map (seen_entry a s) es)
        → filter_map (seen_entry a s) (cond b (e ∷ short_entries most es) (short_entries most es)) ≡ filter (has_short_key most) (filter_map (seen_entry a s) (e ∷ es))
    cases true is rest = short_row most e.key (row_at (chain_versions a e.chain.number) s) (filter_map (seen_entry a s) (short_entries most es)) (filter_map (seen_entry a s) es) is rest
    cases false is rest = rest ∙ sym (long_row most e.key (row_at (chain_versions a e.chain.number) s) (filter_map (seen_entry a s) es) is)

-- a key that has no row at s has none among the rows
pub unseen_skipped : (a : Content) (s : ℕ) (es fs : List KeyEntry) (e : KeyEntry) → es ≡ e ∷ fs → seen_entry a s e ≡ None → filter_map (seen_entry a s) es ≡ filter_map (seen_entry a s) fs
unseen_skipped a s es fs e is none = ap (filter_map (seen_entry a s)) is ∙ ap (λ (o : Option KeyRow). cons_option o (filter_map (seen_entry a s) fs)) none

-- any other has its row first
pub seen_first : (a : Content) (s : ℕ) (es fs : List KeyEntry) (e : KeyEntry) (row : KeyRow) → es ≡ e ∷ fs → seen_entry a s e ≡ Some row → filter_map (seen_entry a s) es ≡ row ∷ filter_map (seen_entry a s) fs
seen_first a s es fs e row is some = ap (filter_map (seen_entry a s)) is ∙ ap (λ (o : Option KeyRow). cons_option o (filter_map (seen_entry a s) fs)) some

-- one key fewer is left
pub fewer_left : (es fs : List KeyEntry) (e : KeyEntry) → es ≡ e ∷ fs → length fs < length es
fewer_left es fs e is = subst (λ (l : List KeyEntry). length fs < length l) (sym is) (omega arith)
