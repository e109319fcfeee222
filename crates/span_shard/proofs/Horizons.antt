-- A trim changes nothing that is seen at or above its horizon.
use Rattle.std.proofs.Common.{◌≡◌, ℕ, ◌≤◌, Bool, true, false, cond, not, ◌||◌, List, [], ◌∷◌, Option, Some, None, refl, sym, ap, ◌∙◌, arith}
use Rattle.std.specs.Prelude.{filter, nat_le, option_and_then, option_map, is_some}
use Rattle.std.specs.List.{filter_map, cons_option}
use Rattle.std.proofs.lemmas.Bool.Decides.{nat_tests}
use Rattle.span_keycode.specs.declared.range.KeyRange.{KeyRange}
use Rattle.span_store.specs.declared.chain.Version.{Version}
use Rattle.span_store.specs.KeyVersions.{KeyVersions}
use Rattle.span_store.specs.Versions.{newest_at, row_at, is_empty, is_used, kept_version, kept_upto}
use Rattle.span_store.specs.Reads.{KeyRow, is_within, seen_at, snapshot}
use Rattle.span_store.specs.KeyLists.{trimmed_key}
use Rattle.span_shard.specs.Shard.{trimmed}

-- the row of a key at or above the horizon
pub row_kept_above : (h s : ℕ) (vs : List Version) → h ≤ s → row_at (kept_upto h vs) s ≡ row_at vs s
row_kept_above h s [] le = refl
row_kept_above h s (v ∷ vs) le = cases (nat_le v.timestamp h) refl (row_kept_above h s vs le)
  where
    one : (row : Option (List ℕ)) → v.row ≡ row → nat_le v.timestamp s ≡ true → row_at (kept_version v row) s ≡ row
    one None is at = refl
    one (Some r) is at = ap (λ b. option_and_then (λ (w : Version). w.row) (cond b (Some v) None)) at ∙ is

    cases : (b : Bool) → nat_le v.timestamp h ≡ b → row_at (kept_upto h vs) s ≡ row_at vs s → row_at (cond b (kept_version v v.row) (v ∷ kept_upto h vs)) s ≡ row_at (v ∷ vs) s
    cases true is again =
        let at : nat_le v.timestamp s ≡ true = grind (arith, nat_tests) in
        one v.row refl at ∙ sym (ap (λ b. option_and_then (λ (w : Version). w.row) (cond b (Some v) (newest_at vs s))) at)
    cases false is again = by_test (nat_le v.timestamp s)
      where
        by_test : (t : Bool) → option_and_then (λ (w : Version). w.row) (cond t (Some v) (newest_at (kept_upto h vs) s)) ≡ option_and_then (λ (w : Version). w.row) (cond t (Some v) (newest_at vs s))
        by_test true = refl
        by_test false = again

seen_kept : (h s : ℕ) (c : KeyVersions) → h ≤ s → seen_at s (trimmed_key h c) ≡ seen_at s c
seen_kept h s c le = ap (option_map (λ (row : List ℕ). the_row c.key row)) (row_kept_above h s c.versions le)
  where
    the_row : List ℕ → List ℕ → KeyRow
    the_row key row = record { key = key; row = row }

-- a key with nothing is not seen
unused_seen : (s : ℕ) (c : KeyVersions) → is_used c ≡ false → seen_at s c ≡ None
unused_seen s c e = by c.versions refl e
  where
    by : (vs : List Version) → c.versions ≡ vs → (not (is_empty vs) || is_some c.prepared) ≡ false → seen_at s c ≡ None
    by [] is f = ap (λ (l : List Version). option_map (λ (row : List ℕ). the_row c.key row) (row_at l s)) is
      where
        the_row : List ℕ → List ℕ → KeyRow
        the_row key row = record { key = key; row = row }
    by (v ∷ vs) is f = absurd (let g : true ≡ false = f in cc)

snapshot-cons : (range : KeyRange) (s : ℕ) (c : KeyVersions) (cs : List KeyVersions) → snapshot range s (c ∷ cs) ≡ cond (is_within range c.key) (cons_option (seen_at s c) (snapshot range s cs)) (snapshot range s cs)
snapshot-cons range s c cs = cases (is_within range c.key)
  where
    cases : (b : Bool) → filter_map (seen_at s) (cond b (c ∷ filter (λ (d : KeyVersions). is_within range d.key) cs) (filter (λ (d : KeyVersions). is_within range d.key) cs)) ≡ cond b (cons_option (seen_at s c) (snapshot range s cs)) (snapshot range s cs)
    cases true = refl
    cases false = refl

-- what is read at or above the horizon
pub snapshot_trimmed : (range : KeyRange) (h s : ℕ) (cs : List KeyVersions) → h ≤ s → snapshot range s (trimmed h cs) ≡ snapshot range s cs
snapshot_trimmed range h s [] le = refl
snapshot_trimmed range h s (c ∷ cs) le = cases (is_used (trimmed_key h c)) refl (snapshot_trimmed range h s cs le)
  where
    same : (b : Bool) → cond b (snapshot range s cs) (snapshot range s cs) ≡ snapshot range s cs
    same true = refl
    same false = refl

    cases : (b : Bool) → is_used (trimmed_key h c) ≡ b → snapshot range s (trimmed h cs) ≡ snapshot range s cs → snapshot range s (cond b (trimmed_key h c ∷ trimmed h cs) (trimmed h cs)) ≡ snapshot range s (c ∷ cs)
    cases true is again =
        snapshot-cons range s (trimmed_key h c) (trimmed h cs)
        ∙ ap (λ (o : Option KeyRow). cond (is_within range c.key) (cons_option o (snapshot range s (trimmed h cs))) (snapshot range s (trimmed h cs))) (seen_kept h s c le)
        ∙ ap (λ (l : List KeyRow). cond (is_within range c.key) (cons_option (seen_at s c) l) l) again
        ∙ sym (snapshot-cons range s c cs)
    cases false is again =
        let none : seen_at s c ≡ None = sym (seen_kept h s c le) ∙ unused_seen s (trimmed_key h c) is in
        again ∙ sym (snapshot-cons range s c cs ∙ ap (λ (o : Option KeyRow). cond (is_within range c.key) (cons_option o (snapshot range s cs)) (snapshot range s cs)) none ∙ same (is_within range c.key))
