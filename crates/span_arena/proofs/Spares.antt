-- The free chains.
use Rattle.std.proofs.Common.{◌≡◌, ◌≢◌, ℕ, zero, suc, ◌+◌, ◌-◌, ◌<◌, ◌≤◌, List, [], ◌∷◌, ◌++◌, refl, sym, ◌∙◌, ap, arith, length, map, None, get_or, set, inl, inr, true, false, add-one, length-append}
use Rattle.std.specs.Prelude.{nat_lt, nat_eq, ◌&&◌}
use Rattle.std.proofs.Math.ListN.{get_or-eq_default}
use Rattle.std.proofs.Math.Seq.{get_or-append_seam}
use Rattle.std.proofs.lemmas.List.{get_or-set_same, get_or-set_other, get_or_default, get_or-map, get_or_append_left, length-map, length-set, map-set, map-append}
use Rattle.std.proofs.lemmas.Bool.{cases_lt, cases_eq}
use Rattle.std.proofs.lemmas.Bool.Decides.{nat_tests}
use Rattle.span_arena.specs.declared.record.NodeRecord.{NodeRecord}
use Rattle.span_arena.specs.declared.record.ChainRecord.{ChainRecord}
use Rattle.span_arena.specs.declared.record.ChainRecord.TheVariants as chain
use Rattle.span_arena.specs.Limits.{most_chains}
use Rattle.span_arena.specs.Cells.{blank}
use Rattle.span_arena.specs.declared.cell.Cell.{Cell}
use Rattle.span_arena.specs.declared.record.VersionLinks.{VersionLinks}
use Rattle.span_arena.specs.Content.{IsNewChain, AreAllChains, with_at, without_chain, is_unused}
use Rattle.span_arena.specs.Runs.{AreCellsOf, walk, IsRun, IsSound, IsSpare, AreSpare, one_used, used_count, node_at, chain_of, record_at, links_at, links_of, no_record, no_links, content, total}
use Rattle.span_arena.proofs.Counts.{total-set, total-push}
use Rattle.span_arena.proofs.Chains.{used_in_range, links_were, chain_at}
use Rattle.span_arena.proofs.Contents.{parts_equal, unused_is}

-- the list of free chains stays where the record that is written is not in it
pub spare_stays : (rs ss : List ChainRecord) (c : ℕ) → ((d : ℕ) → d ≢ c → record_at ss d ≡ record_at rs d) → (k h : ℕ)
    → ((next m : ℕ) → record_at rs c ≡ chain.Free next m → k < m) → IsSpare rs h k → IsSpare ss h k
spare_stays rs ss c others zero h apart spare = tt
spare_stays rs ss c others (suc k) h apart spare =
    let e : record_at ss h ≡ record_at rs h = others h (λ same.
    let p : record_at rs c ≡ chain.Free spare.0 (suc k) = rw same at spare.1 in
    let lt : suc k < suc k = apart spare.0 (suc k) p in omega arith) in
    (spare.0, e ∙ spare.1, spare_stays rs ss c others k spare.0 (λ next m p. let lt : suc k < m = apart next m p in omega arith) spare.2)

others-set : (rs : List ChainRecord) (c : ℕ) (r : ChainRecord) (d : ℕ) → d ≢ c → record_at (set rs c r) d ≡ record_at rs d
others-set rs c r d differs = get_or-set_other rs c d r no_record differs

-- a chain in use is written
pub spare-used : (rs : List ChainRecord) (h k c : ℕ) (l : VersionLinks) (r : ChainRecord) → record_at rs c ≡ chain.Used l → IsSpare rs h k → IsSpare (set rs c r) h k
spare-used rs h k c l r used spare = spare_stays rs (set rs c r) c (others-set rs c r) k h (λ next m p. absurd (let q : chain.Used l ≡ chain.Free next m = sym used ∙ p in cc)) spare

-- a chain in use becomes the first of the free ones
pub spare-free : (rs : List ChainRecord) (h k c : ℕ) (l : VersionLinks) → record_at rs c ≡ chain.Used l → IsSpare rs h k → IsSpare (set rs c (chain.Free h (k + 1))) c (k + 1)
spare-free rs h k c l used spare = rw add-one (h, get_or-set_same rs c (chain.Free h (suc k)) no_record (used_in_range rs c l used), spare-used rs h k c l (chain.Free h (suc k)) used spare)

pub in_range-free : (rs : List ChainRecord) (c next k : ℕ) → record_at rs c ≡ chain.Free next (suc k) → c < length rs
in_range-free [] c next k h = absurd (let q : chain.Free 0 0 ≡ chain.Free next (suc k) = h in let e : 0 ≡ suc k = cc in omega arith)
in_range-free (r ∷ rs) zero next k h = omega arith
in_range-free (r ∷ rs) (suc c) next k h = omega (arith, in_range-free rs c next k h)

-- the first of the free chains
module _ (rs : List ChainRecord) (h k : ℕ) (spare : IsSpare rs h k) (some : 0 < k) where
  pub first : IsSpare rs h (suc (k - 1))
  first = let e : k ≡ suc (k - 1) = omega arith in rw e at spare

  pub spare_in_range : h < length rs
  spare_in_range = in_range-free rs h first.0 (k - 1) first.1

  -- what the code read there
  pub read_spare : (r : ChainRecord) → r ≡ get_or rs h r → r ≡ chain.Free first.0 (suc (k - 1))
  read_spare r read = read ∙ get_or_default rs h r no_record spare_in_range ∙ first.1

  pub spare_not_used : (r : ChainRecord) (l : VersionLinks) → r ≡ get_or rs h r → r ≡ chain.Used l → ⊥
  spare_not_used r l read is = (let q : chain.Used l ≡ chain.Free first.0 (suc (k - 1)) = sym is ∙ read_spare r read in cc)

  pub spare_was : (r : ChainRecord) (next m : ℕ) → r ≡ get_or rs h r → r ≡ chain.Free next m → (record_at rs h ≡ chain.Free next k) × IsSpare rs next (k - 1)
  spare_was r next m read is =
      let q : chain.Free next m ≡ chain.Free first.0 (suc (k - 1)) = sym is ∙ read_spare r read in
      let e : next ≡ first.0 = cc in
      let n : suc (k - 1) ≡ k = omega arith in
      (first.1 ∙ (rw (e, n) refl), rw e first.2)

  pub spare-taken : (r x : ChainRecord) (next m : ℕ) → r ≡ get_or rs h r → r ≡ chain.Free next m → IsSpare (set rs h x) next (k - 1)
  spare-taken r x next m read is =
      let was = spare_was r next m read is in
      spare_stays rs (set rs h x) h (others-set rs h x) (k - 1) next (λ n j p. let q : chain.Free next k ≡ chain.Free n j = sym was.0 ∙ p in let e : k ≡ j = cc in omega arith) was.1

-- a list of chains that is longer
others-push : (rs : List ChainRecord) (r : ChainRecord) (d : ℕ) → d ≢ length rs → record_at (rs ++ r ∷ []) d ≡ record_at rs d
others-push rs r d differs = elim (cases_lt d (length rs)) [
  | inl lt ↦ get_or_append_left rs (r ∷ []) no_record d lt
  | inr ge ↦ let far : length (rs ++ r ∷ []) ≤ d = omega (arith, length-append rs (r ∷ [])) in
      get_or-eq_default (rs ++ r ∷ []) no_record far ∙ sym (get_or-eq_default rs no_record ge)
]

end_is : (rs : List ChainRecord) → record_at rs (length rs) ≡ no_record
end_is rs = let le : length rs ≤ length rs = omega arith in get_or-eq_default rs no_record le

pub spare-push : (rs : List ChainRecord) (r : ChainRecord) (h k : ℕ) → k ≡ 0 → IsSpare (rs ++ r ∷ []) h k
spare-push rs r h k none = rw none tt

-- ---- how many chains are in use

used-set : (rs : List ChainRecord) (c : ℕ) (r : ChainRecord) → c < length rs → used_count (set rs c r) + one_used (record_at rs c) ≡ used_count rs + one_used r
used-set [] c r lt = absurd (omega arith)
used-set (s ∷ rs) zero r lt = omega arith
used-set (s ∷ rs) (suc c) r lt = omega (arith, used-set rs c r (omega arith))

used-push : (rs : List ChainRecord) (r : ChainRecord) → used_count (rs ++ r ∷ []) ≡ used_count rs + one_used r
used-push [] r = omega arith
used-push (s ∷ rs) r = omega (arith, used-push rs r)

at_most_one : (r : ChainRecord) → one_used r ≤ 1
at_most_one (chain.Free next k) = omega arith
at_most_one (chain.Used l) = omega arith

at_most_all : (rs : List ChainRecord) → used_count rs ≤ length rs
at_most_all [] = omega arith
at_most_all (r ∷ rs) = omega (arith, at_most_all rs, at_most_one r)

if_one : (r : ChainRecord) → one_used r ≡ 1 → (l : VersionLinks) × (r ≡ chain.Used l)
if_one (chain.Free next k) h = absurd (omega arith)
if_one (chain.Used l) h = (l, refl)

all_used : (rs : List ChainRecord) → used_count rs ≡ length rs → (d : ℕ) → d < length rs → (l : VersionLinks) × (record_at rs d ≡ chain.Used l)
all_used [] all d lt = absurd (omega arith)
all_used (r ∷ rs) all zero lt = if_one r (omega (arith, all, at_most_all rs, at_most_one r))
all_used (r ∷ rs) all (suc d) lt = all_used rs (omega (arith, all, at_most_all rs, at_most_one r)) d (omega arith)

-- a chain in use is written, and stays in use
pub are_spare-used : (rs : List ChainRecord) (h k c : ℕ) (l m : VersionLinks) → record_at rs c ≡ chain.Used l → AreSpare rs h k → AreSpare (set rs c (chain.Used m)) h k
are_spare-used rs h k c l m used spare =
    let n : used_count (set rs c (chain.Used m)) + one_used (record_at rs c) ≡ used_count rs + 1 = used-set rs c (chain.Used m) (used_in_range rs c l used) in
    let e : one_used (record_at rs c) ≡ 1 = ap one_used used in
    record { list = spare-used rs h k c l (chain.Used m) used spare.list; counted = rw length-set (omega (arith, spare.counted)) }

pub are_spare-free : (rs : List ChainRecord) (h k c : ℕ) (l : VersionLinks) → record_at rs c ≡ chain.Used l → AreSpare rs h k → AreSpare (set rs c (chain.Free h (k + 1))) c (k + 1)
are_spare-free rs h k c l used spare =
    let n : used_count (set rs c (chain.Free h (k + 1))) + one_used (record_at rs c) ≡ used_count rs + 0 = used-set rs c (chain.Free h (k + 1)) (used_in_range rs c l used) in
    let e : one_used (record_at rs c) ≡ 1 = ap one_used used in
    record { list = spare-free rs h k c l used spare.list; counted = rw length-set (omega (arith, spare.counted)) }

-- there is capacity for one more free chain
pub spare_count_below : (rs : List ChainRecord) (h k c : ℕ) (l : VersionLinks) → record_at rs c ≡ chain.Used l → AreSpare rs h k → k < length rs
spare_count_below rs h k c l used spare =
    let n : used_count (set rs c (chain.Free h k)) + one_used (record_at rs c) ≡ used_count rs + 0 = used-set rs c (chain.Free h k) (used_in_range rs c l used) in
    let e : one_used (record_at rs c) ≡ 1 = ap one_used used in
    omega (arith, spare.counted)

pub are_spare-taken : (rs : List ChainRecord) (h k : ℕ) → AreSpare rs h k → 0 < k → (r : ChainRecord) (m : VersionLinks) (next j : ℕ) → r ≡ get_or rs h r → r ≡ chain.Free next j → AreSpare (set rs h (chain.Used m)) next (k - 1)
are_spare-taken rs h k spare some r m next j read is =
    let was = spare_was rs h k spare.list some r next j read is in
    let n : used_count (set rs h (chain.Used m)) + one_used (record_at rs h) ≡ used_count rs + 1 = used-set rs h (chain.Used m) (spare_in_range rs h k spare.list some) in
    let e : one_used (record_at rs h) ≡ 0 = ap one_used was.0 in
    record { list = spare-taken rs h k spare.list some r (chain.Used m) next j read is; counted = rw length-set (omega (arith, spare.counted)) }

pub are_spare-push : (rs : List ChainRecord) (m : VersionLinks) (h k : ℕ) → k ≡ 0 → AreSpare rs h k → AreSpare (rs ++ chain.Used m ∷ []) h k
are_spare-push rs m h k none spare = record {
  list = spare-push rs (chain.Used m) h k none;
  counted = omega (arith, spare.counted, used-push rs (chain.Used m), length-append rs (chain.Used m ∷ []));
}

-- ---- the cell of a new chain

pub cells_set : (cs : List Cell) (i : ℕ) (x y : Cell) → i < length cs → x ≡ y → set cs i x ≡ with_at cs i y
cells_set cs i x y lt same = let t : nat_lt i (length cs) ≡ true = grind (arith, nat_tests) in rw (t, same) refl

-- the cells are few enough still: where one was written, and where one was added to few enough
pub few-set : (cs : List Cell) (i : ℕ) (x : Cell) → length cs ≤ most_chains → length (set cs i x) ≤ most_chains
few-set cs i x few = rw (length-set cs i x) few

pub few-push : (cs ds : List Cell) (x : Cell) → ds ≡ cs ++ x ∷ [] → length cs + 1 ≤ most_chains → length ds ≤ most_chains
few-push cs ds x e few = rw (e, length-append cs (x ∷ [])) few

pub cells_more : (cs ds : List Cell) (x : Cell) (rs ss : List ChainRecord) (r : ChainRecord) → AreCellsOf rs cs → ds ≡ cs ++ x ∷ [] → ss ≡ rs ++ r ∷ [] → AreCellsOf ss ds
cells_more cs ds x rs ss r were more_cells more_records = rw (more_cells, more_records) (omega (arith, were, length-append cs (x ∷ []), length-append rs (r ∷ [])))

-- ---- the layout, where chains begin and end

module _ (nodes : List NodeRecord) (rs : List ChainRecord) (free count most : ℕ) (cells : List Cell) (sound : IsSound nodes rs free count most) where
  -- chains' records that have the same versions and the same prepared nodes
  pub sound_chains : (ss : List ChainRecord) → ((d : ℕ) → IsRun (node_at nodes) sound.rank d sound.top (links_at ss d).count (links_at ss d).newest) → ((d : ℕ) → (links_at ss d).prepared ≡ (links_at rs d).prepared)
      → total ss ≡ total rs → IsSound nodes ss free count most
  sound_chains ss runs same total_same = record {
    rank = sound.rank;
    top = sound.top;
    runs = runs;
    free_list = sound.free_list;
    prepared = λ d. sound.prepared d ∙ sym (same d);
    counted = rw total_same sound.counted;
    bounded = sound.bounded;
  }

  module _ (ss : List ChainRecord) (c : ℕ) (others : (d : ℕ) → d ≢ c → record_at ss d ≡ record_at rs d) (none : links_at ss c ≡ no_links) where
    runs_none : (d : ℕ) → IsRun (node_at nodes) sound.rank d sound.top (links_at ss d).count (links_at ss d).newest
    runs_none d = elim (cases_eq d c) [
      | inl same ↦ rw (same, none) tt
      | inr differs ↦ rw (others d differs) (sound.runs d)
    ]

    prepared_none : (links_at rs c).prepared ≡ 0 → (d : ℕ) → (links_at ss d).prepared ≡ (links_at rs d).prepared
    prepared_none was d = elim (cases_eq d c) [
      | inl same ↦ rw (same, none) (sym was)
      | inr differs ↦ rw (others d differs) refl
    ]

    pub sound_none : (links_at rs c).prepared ≡ 0 → total ss ≡ total rs → IsSound nodes ss free count most
    sound_none was total_same = sound_chains ss runs_none (prepared_none was) total_same

  pub sound-free_chain : (c : ℕ) (l : VersionLinks) (h k : ℕ) → record_at rs c ≡ chain.Used l → is_unused (content nodes rs count most cells) c ≡ true → IsSound nodes (set rs c (chain.Free h k)) free count most
  sound-free_chain c l h k used unused =
      let b : (nat_eq l.count 0 && nat_eq l.prepared 0) ≡ true = sym (unused_is nodes rs free count most cells sound c l used) ∙ unused in
      let n : l.count ≡ 0 = grind (arith, nat_tests) in
      let p : l.prepared ≡ 0 = grind (arith, nat_tests) in
      let lt : c < length rs = used_in_range rs c l used in
      let was : links_at rs c ≡ l = links_were rs c l l used in
      let here : links_at (set rs c (chain.Free h k)) c ≡ no_links = ap links_of (get_or-set_same rs c (chain.Free h k) no_record lt) in
      let t : total (set rs c (chain.Free h k)) + (links_at rs c).count ≡ total rs + 0 = total-set rs c (chain.Free h k) lt in
      let m : (links_at rs c).count ≡ 0 = rw (was, n) refl in
      sound_none (set rs c (chain.Free h k)) c (others-set rs c (chain.Free h k)) here (rw (was, p) refl) (omega arith)

  pub content-free_chain : (c h k : ℕ) → content nodes (set rs c (chain.Free h k)) count most (set cells c blank) ≡ without_chain (content nodes rs count most cells) c
  content-free_chain c h k = parts_equal _ _ _ _ count most (set cells c blank) (map-set (chain_of (node_at nodes)) rs c (chain.Free h k)) refl

  -- a chain that was free, or one more
  pub sound-new_chain : (c next k : ℕ) → c < length rs → record_at rs c ≡ chain.Free next k → IsSound nodes (set rs c (chain.Used no_links)) free count most
  sound-new_chain c next k lt was =
      let w : links_at rs c ≡ no_links = ap links_of was in
      let here : links_at (set rs c (chain.Used no_links)) c ≡ no_links = ap links_of (get_or-set_same rs c (chain.Used no_links) no_record lt) in
      let t : total (set rs c (chain.Used no_links)) + (links_at rs c).count ≡ total rs + 0 = total-set rs c (chain.Used no_links) lt in
      let m : (links_at rs c).count ≡ 0 = rw w refl in
      sound_none (set rs c (chain.Used no_links)) c (others-set rs c (chain.Used no_links)) here (rw w refl) (omega arith)

  pub content-new_chain : (others : List Cell) (c next k : ℕ) → c < length rs → record_at rs c ≡ chain.Free next k → IsNewChain (content nodes rs count most cells) (content nodes (set rs c (chain.Used no_links)) count most others) c
  content-new_chain others c next k lt was =
      let f = node_at nodes in
      let w : links_at rs c ≡ no_links = ap links_of was in
      let in_map : c < length (map (chain_of f) rs) = rw length-map lt in
      let t : nat_lt c (length (map (chain_of f) rs)) ≡ true = grind (arith, nat_tests) in
      record {
        number = omega (arith, length-map rs (chain_of f));
        was_none = get_or-map (chain_of f) rs c no_record None lt ∙ ap (chain_of f) was;
        none_prepared = sound.prepared c ∙ ap (λ (l : VersionLinks). l.prepared) w;
        grows = λ ge. absurd (omega (arith, length-map rs (chain_of f)));
        now = parts_equal _ _ _ _ count most others (rw t (map-set (chain_of f) rs c (chain.Used no_links))) refl;
      }

  pub sound-more_chains : IsSound nodes (rs ++ chain.Used no_links ∷ []) free count most
  sound-more_chains =
      let here : links_at (rs ++ chain.Used no_links ∷ []) (length rs) ≡ no_links = ap links_of (get_or-append_seam rs (chain.Used no_links) [] no_record) in
      let t : total (rs ++ chain.Used no_links ∷ []) ≡ total rs + 0 = total-push rs (chain.Used no_links) in
      sound_none (rs ++ chain.Used no_links ∷ []) (length rs) (others-push rs (chain.Used no_links)) here (ap (λ (r : ChainRecord). (links_of r).prepared) (end_is rs)) (omega arith)

  pub all_chains : (h : ℕ) → AreSpare rs h 0 → AreAllChains (content nodes rs count most cells)
  all_chains h spare d lt =
      let below : d < length rs = rw length-map at lt in
      let found = all_used rs (omega (arith, spare.counted)) d below in
      (walk (node_at nodes) found.0.count found.0.newest, chain_at (node_at nodes) rs d found.0 found.1)

  pub content-more_chains : (others : List Cell) (h : ℕ) → AreSpare rs h 0 → IsNewChain (content nodes rs count most cells) (content nodes (rs ++ chain.Used no_links ∷ []) count most others) (length rs)
  content-more_chains others h spare =
      let f = node_at nodes in
      let ge : length (map (chain_of f) rs) ≤ length rs = omega (arith, length-map rs (chain_of f)) in
      let t : nat_lt (length rs) (length (map (chain_of f) rs)) ≡ false = grind (arith, nat_tests) in
      record {
        number = omega (arith, length-map rs (chain_of f));
        was_none = get_or-eq_default (map (chain_of f) rs) None ge;
        none_prepared = sound.prepared (length rs) ∙ ap (λ (r : ChainRecord). (links_of r).prepared) (end_is rs);
        grows = λ _. all_chains h spare;
        now = parts_equal _ _ _ _ count most others (rw t (map-append (chain_of f) rs (chain.Used no_links ∷ []))) refl;
      }
