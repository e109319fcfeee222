-- The pieces of open queries: what is read of them stays right, and together they are the tables.
use Rattle.std.proofs.Common.{◌≡◌, ◌≤◌, ℕ, zero, suc, Bool, true, false, cond, List, [], ◌∷◌, ◌++◌, Option, Some, Result, Ok, refl, ap, sym, ◌∙◌, subst}
use Rattle.std.specs.Prelude.{find, filter, map, insert, option_map, slice_get, slice_set}
use Rattle.std.specs.List.{AllByRecursion, list_all}
use Rattle.std.proofs.lemmas.Bool.{and_parts}
use Rattle.span_value.specs.declared.refusal.Refusal.{Refusal}
use Rattle.span_schema.specs.declared.table.Table.{Table}
use Rattle.span_schema.specs.Lineages.{MeetsRules}
use Rattle.span_schema.specs.Numbers.{IsTable}
use Rattle.span_value.specs.declared.value.Value.{Value}
use Rattle.span_value.proofs.Lists.{all_push}
use Rattle.span_keycode.specs.declared.range.KeyRange.{KeyRange}
use Rattle.span_keycode.specs.Parts.{place_among, part_between}
use Rattle.span_keycode.proofs.PartLaws.{part_within, gap_within}
use Rattle.span_mutate.specs.declared.row.TableRow.{TableRow}
use Rattle.span_mutate.specs.Database.{rows_of}
use Rattle.span_mutate.specs.Directories.{IsDatabase}
use Rattle.span_mutate.specs.Typed.{AreTyped}
use Rattle.span_mutate.proofs.Filters.{filter_within}
use Rattle.span_mutate.proofs.TypedRows.{typed_stay}
use Rattle.span_params.specs.declared.params.Parameter.{Parameter}
use Rattle.span_query.specs.declared.query.BoundQuery.{BoundQuery}
use Rattle.span_query.specs.declared.query.Statement.{Statement}
use Rattle.span_query.specs.Rows.{Row, Rows, append_results, concat_map}
use Rattle.span_query.specs.Meaning.{meaning_over, given}
use Rattle.span_algebra.specs.SameMeaning.{MeanTheSame}
use Rattle.span_algebra.proofs.SameMeaning.{AreRelated, same_rows, same_parts, same_tables}
use Rattle.span_columns.specs.declared.leaf.Leaf.{Leaf}
use Rattle.span_leaves.specs.Maskable.{IsMaskable}
use Rattle.span_planner.specs.Plannable.{IsPlannable}
use Rattle.span_columns.specs.Picks.{pick_rows}
use Rattle.span_leaves.specs.Results.{leaf_rows}
use Rattle.span_planner.proofs.MaskableLeaves.{leaves_maskable}
use Rattle.span_planner.proofs.Planned.{IsPlanned}
use Rattle.span_planner.proofs.Tabled.{leaves_tabled}
use Rattle.span_fragment.specs.declared.piece.Piece.{Piece}
use Rattle.span_fragment.specs.Pieces.{IsPieceOf}
use Rattle.span_entries.proofs.KeyPlaces.{keyed}
use Rattle.span_gather.specs.Gathered.{joined_pieces, gathered}
use Rattle.span_shard.specs.KeyVersions.{KeyVersions}
use Rattle.span_shard.specs.Rows.{code_of}
use Rattle.span_shard.specs.Shard.{snapshot}
use Rattle.span_machine.specs.declared.query.OpenQuery.{OpenQuery}
use Rattle.span_machine.specs.declared.query.ScanLeaf.{ScanLeaf}
use Rattle.span_machine.specs.declared.slot.SlotState.{SlotState}
use Rattle.span_machine.specs.declared.step.Step.{Step}
use Rattle.span_machine.specs.declared.step.Step.TheVariants.{Finish}
use Rattle.span_machine.specs.declared.transaction.Commit.{Commit}
use Rattle.span_machine.specs.Meaning.{declared_row, whole_table, means, leaf_within}
use Rattle.span_machine.specs.Run.{IsOfSchema}
use Rattle.span_machine.specs.Tables.{tables, upto, mutations_of}
use Rattle.span_machine.specs.Machine.{Machine, answer, answer_on, rows_or_refusal, if_some, is_query, is_safe, is_covered, uncovered, statement_plan, add_piece, with_piece, gap_in, cover, changed_first, without_first}
use Rattle.span_machine.specs.Pieces.{Pieced, no_pieces as unread_pieces, unread, insert_piece, insert_piece_at, covered_by, queries_of}
use Rattle.span_machine_laws.proofs.Lists.{all_without, all_changed_found, all_found, all_both}
use Rattle.span_machine_laws.proofs.Locality.{apply-database, empty_database, ok_same}
use Rattle.span_machine_laws.proofs.PlanLaws.{leaf_tiled, plan_leaves, planned_meaning}
use Rattle.span_machine_laws.proofs.Pieces.{AllCovered, AreEnds, IsOpenLeaf, HasLeaves, leaves_of, opened_query, piece_at, leaves_covered}
use Rattle.span_machine_laws.proofs.Reached.{IsReached, reached_tables, answer_reached, finish_meant}
use Rattle.span_machine_laws.proofs.Schemas.{keyed_upto, typed_upto}
use Rattle.span_machine_laws.proofs.Sealed.{answer_keeps}
use Rattle.span_machine_laws.proofs.Sound.{IsPartSealed, IsCoveredSealed}
use Rattle.span_version_laws.specs.Kept.{AreKept, HasRowsIn, AreRead, AreLeafPieces, IsPieced, ArePieced, has_row, row_within, rows_within, tables_within}
use Rattle.span_machine_laws.proofs.RangeRows.{rows_alike_within}
use Rattle.span_version_laws.proofs.Snapshots.{snapshot_when_safe}

-- ---- the queries of pieces

pub find-queries : (test : OpenQuery → Bool) (ps : List Pieced) → find test (queries_of ps) ≡ option_map (λ p. p.query) (find (λ p. test p.query) ps)
find-queries test [] = refl
find-queries test (p ∷ ps) = elim (test p.query) as (λ b. cond b (Some p.query) (find test (queries_of ps)) ≡ option_map (λ (p : Pieced). p.query) (cond b (Some p) (find (λ p. test p.query) ps))) [
  | true ↦ refl
  | false ↦ find-queries test ps
]

-- a change of the pieces that does this to their queries
pub changed_first-queries : (test : OpenQuery → Bool) (change : OpenQuery → OpenQuery) (alter : Pieced → Pieced) → ((p : Pieced) → (alter p).query ≡ change p.query) → (ps : List Pieced)
    → changed_first test change (queries_of ps) ≡ queries_of (changed_first (λ p. test p.query) alter ps)
changed_first-queries test change alter same [] = refl
changed_first-queries test change alter same (p ∷ ps) =
    elim (test p.query) as (λ b. cond b (change p.query ∷ queries_of ps) (p.query ∷ changed_first test change (queries_of ps)) ≡ queries_of (cond b (alter p ∷ ps) (p ∷ changed_first (λ p. test p.query) alter ps))) [
      | true ↦ ap (λ q. q ∷ queries_of ps) (sym (same p))
      | false ↦ ap (λ l. p.query ∷ l) (changed_first-queries test change alter same ps)
    ]

-- the query of the piece that is found
pub found_query : (number : ℕ) (ps : List Pieced) (p : Pieced) → find (λ x. is_query number x.query) ps ≡ Some p → find (is_query number) (queries_of ps) ≡ Some p.query
found_query number ps p found = find-queries (is_query number) ps ∙ ap (option_map (λ (x : Pieced). x.query)) found

-- ---- the pieces of a leaf

module _ (schema : List Table) (log : List Commit) (s : ℕ) where
  -- a piece more, at its place
  read_insert : (R : Rows → Rows → Type 0) (leaf : Leaf) (cs : List KeyRange) (ps : List Piece) (n : ℕ) (part : KeyRange) (piece : Piece) → HasRowsIn R schema log s leaf part piece → AreRead R schema log s leaf cs ps → AreRead R schema log s leaf (insert cs n part) (insert ps n piece)
  read_insert R leaf [] [] zero part piece has read = (has, tt)
  read_insert R leaf [] [] (suc n) part piece has read = (has, tt)
  read_insert R leaf [] (p ∷ ps) n part piece has read = absurd read
  read_insert R leaf (c ∷ cs) [] n part piece has read = absurd read
  read_insert R leaf (c ∷ cs) (p ∷ ps) zero part piece has read = (has, read)
  read_insert R leaf (c ∷ cs) (p ∷ ps) (suc n) part piece has read = (read.0, read_insert R leaf cs ps n part piece has read.1)

  -- no leaf has a piece yet
  leaves_unread : (R : ℕ → Rows → Rows → Type 0) (leaves : List Leaf) → AreLeafPieces R schema log s (map uncovered leaves) (map unread_pieces leaves)
  leaves_unread R [] = tt
  leaves_unread R (l ∷ ls) = (tt, leaves_unread (λ (i : ℕ). R (suc i)) ls)

  -- the pieces of a leaf at a place
  leaf_at : (R : ℕ → Rows → Rows → Type 0) (ls : List ScanLeaf) (ps : List (List Piece)) (leaf : ℕ) (l : ScanLeaf) → slice_get ls leaf ≡ Some l → AreLeafPieces R schema log s ls ps → (own : List Piece) × (slice_get ps leaf ≡ Some own) × AreRead (R leaf) schema log s l.leaf l.covered own
  leaf_at R [] [] leaf l here all = absurd (cc)
  leaf_at R [] (p ∷ ps) leaf l here all = absurd all
  leaf_at R (k ∷ ks) [] leaf l here all = absurd all
  leaf_at R (k ∷ ks) (p ∷ ps) zero l here all = let same : k ≡ l = cc in (p, refl, subst (λ (m : ScanLeaf). AreRead (R 0) schema log s m.leaf m.covered p) same all.0)
  leaf_at R (k ∷ ks) (p ∷ ps) (suc leaf) l here all = leaf_at (λ (i : ℕ). R (suc i)) ks ps leaf l here all.1

  leaf_set : (R : ℕ → Rows → Rows → Type 0) (ls : List ScanLeaf) (ps : List (List Piece)) (leaf : ℕ) (l : ScanLeaf) (own : List Piece) → AreRead (R leaf) schema log s l.leaf l.covered own → AreLeafPieces R schema log s ls ps → AreLeafPieces R schema log s (slice_set ls leaf l) (slice_set ps leaf own)
  leaf_set R [] [] leaf l own is all = tt
  leaf_set R [] (p ∷ ps) leaf l own is all = absurd all
  leaf_set R (k ∷ ks) [] leaf l own is all = absurd all
  leaf_set R (k ∷ ks) (p ∷ ps) zero l own is all = (is, all.1)
  leaf_set R (k ∷ ks) (p ∷ ps) (suc leaf) l own is all = (all.0, leaf_set (λ (i : ℕ). R (suc i)) ks ps leaf l own is all.1)

  -- a leaf of which a piece is read
  leaf_read : (R : ℕ → Rows → Rows → Type 0) (ls : List ScanLeaf) (ps : List (List Piece)) (leaf : ℕ) (l : ScanLeaf) (part : KeyRange) (piece : Piece) → slice_get ls leaf ≡ Some l → HasRowsIn (R leaf) schema log s l.leaf part piece → AreLeafPieces R schema log s ls ps
      → AreLeafPieces R schema log s (with_piece ls leaf part) (insert_piece_at ls leaf part piece ps)
  leaf_read R ls ps leaf l part piece here has all =
      let there = leaf_at R ls ps leaf l here all in
      let pieces : insert_piece_at ls leaf part piece ps ≡ slice_set ps leaf (insert_piece l part piece there.0) =
      ap (λ (o : Option ScanLeaf). if_some o ps (λ (k : ScanLeaf). if_some (slice_get ps leaf) ps (λ (own : List Piece). slice_set ps leaf (insert_piece k part piece own)))) here
      ∙ ap (λ (o : Option (List Piece)). if_some o ps (λ (own : List Piece). slice_set ps leaf (insert_piece l part piece own))) there.1 in
      subst (λ (ks : List ScanLeaf). AreLeafPieces R schema log s ks (insert_piece_at ls leaf part piece ps)) (sym (piece_at ls leaf l part here))
      (subst (AreLeafPieces R schema log s (slice_set ls leaf (add_piece part l))) (sym pieces)
      (leaf_set R ls ps leaf (add_piece part l) (insert_piece l part piece there.0) (read_insert (R leaf) l.leaf l.covered there.0 (place_among l.covered part) part piece has there.2) all))

  some_tables : (a b : List TableRow) → tables schema log s ≡ Ok a → tables schema log s ≡ Ok b → a ≡ b
  some_tables a b e f = ok_same (sym e ∙ f)

  -- rows as good as those that the leaf gives on the tables of the log
  has_made : (R : Rows → Rows → Type 0) (leaf : Leaf) (c : KeyRange) (piece : Piece) (db : List TableRow) → tables schema log s ≡ Ok db → HasRowsIn R schema log s leaf c piece → R piece.rows (leaf_within schema db leaf c)
  has_made R leaf c piece db made has = subst (λ (d : List TableRow). R piece.rows (leaf_within schema d leaf c)) (some_tables has.db db has.made made) has.good

  -- ---- another log

  -- what leaves give on the range is the same by another log
  record Stays (after : List Commit) (c : KeyRange) : Type 0 where
    before_db : List TableRow
    after_db : List TableRow
    before_made : tables schema log s ≡ Ok before_db
    after_made : tables schema after s ≡ Ok after_db
    same : (leaf : Leaf) → leaf_within schema before_db leaf c ≡ leaf_within schema after_db leaf c

  has_still : (R : Rows → Rows → Type 0) (after : List Commit) (leaf : Leaf) (c : KeyRange) (piece : Piece) → Stays after c → HasRowsIn R schema log s leaf c piece → HasRowsIn R schema after s leaf c piece
  has_still R after leaf c piece stays has = record {
    db = stays.after_db;
    made = stays.after_made;
    good = subst (R piece.rows) (stays.same leaf) (has_made R leaf c piece stays.before_db stays.before_made has);
  }

  read_still : (R : Rows → Rows → Type 0) (after : List Commit) (leaf : Leaf) (cs : List KeyRange) (ps : List Piece) → AllByRecursion (Stays after) cs → AreRead R schema log s leaf cs ps → AreRead R schema after s leaf cs ps
  read_still R after leaf [] [] stays read = tt
  read_still R after leaf [] (p ∷ ps) stays read = read
  read_still R after leaf (c ∷ cs) [] stays read = read
  read_still R after leaf (c ∷ cs) (p ∷ ps) stays read = (has_still R after leaf c p stays.0 read.0, read_still R after leaf cs ps stays.1 read.1)

  leaves_still : (R : ℕ → Rows → Rows → Type 0) (after : List Commit) (ls : List ScanLeaf) (ps : List (List Piece)) → AllByRecursion (AllCovered (Stays after)) ls → AreLeafPieces R schema log s ls ps → AreLeafPieces R schema after s ls ps
  leaves_still R after [] [] stays all = tt
  leaves_still R after [] (p ∷ ps) stays all = all
  leaves_still R after (l ∷ ls) [] stays all = all
  leaves_still R after (l ∷ ls) (p ∷ ps) stays all = (read_still (R 0) after l.leaf l.covered p stays.0 all.0, leaves_still (λ (i : ℕ). R (suc i)) after ls ps stays.1 all.1)

-- ---- pieces that tile a range

-- rows are as good as themselves, and parts that are as good make rows that are
record HoldsOfParts (R : Rows → Rows → Type 0) : Type 0 where
  itself : (rows : Rows) → R rows rows
  parts : (a b c d : Rows) → R a b → R c d → R (append_results a c) (append_results b d)

means_of_parts : (query : BoundQuery) (place : ℕ) → HoldsOfParts (MeanTheSame query place)
means_of_parts query place = record {
  itself = λ rows. same_rows query place rows rows refl;
  parts = same_parts query place;
}

module _ (schema : List Table) (rules : MeetsRules schema) (log : List Commit) (s : ℕ) (db : List TableRow) (is_db : IsDatabase schema db) (typed : AreTyped schema db) (made : tables schema log s ≡ Ok db) where
  -- the pieces of a leaf, one after another, are as good as what it gives on their ranges
  pieces_joined : (R : Rows → Rows → Type 0) → HoldsOfParts R → (leaf : Leaf) (cs : List KeyRange) (ps : List Piece) → AreRead R schema log s leaf cs ps → R (joined_pieces ps) (concat_map (leaf_within schema db leaf) cs)
  pieces_joined R holds leaf [] [] read = holds.itself (Some [])
  pieces_joined R holds leaf [] (p ∷ ps) read = absurd read
  pieces_joined R holds leaf (c ∷ cs) [] read = absurd read
  pieces_joined R holds leaf (c ∷ cs) (p ∷ ps) read =
      holds.parts p.rows (leaf_within schema db leaf c) (joined_pieces ps) (concat_map (leaf_within schema db leaf) cs)
      (has_made schema log s R leaf c p db made read.0) (pieces_joined R holds leaf cs ps read.1)

  -- where pieces tile the range of each leaf, they are as good as what the leaves give on their ranges
  all_read : (R : ℕ → Rows → Rows → Type 0) → ((place : ℕ) → HoldsOfParts (R place)) → (ls : List ScanLeaf) (ps : List (List Piece)) → list_all is_covered ls ≡ true → AllByRecursion (IsOpenLeaf schema) ls → AllByRecursion (IsPlanned schema) (leaves_of ls) → AreLeafPieces R schema log s ls ps
      → AreRelated R (map joined_pieces ps) (map (λ (l : Leaf). leaf_within schema db l l.range) (leaves_of ls))
  all_read R holds [] [] covered are planned all = tt
  all_read R holds [] (p ∷ ps) covered are planned all = absurd all
  all_read R holds (l ∷ ls) [] covered are planned all = absurd all
  all_read R holds (l ∷ ls) (p ∷ ps) covered are planned all =
      let both = and_parts (is_covered l) (list_all is_covered ls) covered in
      let tiled = leaf_tiled schema rules db is_db typed l.leaf planned.0 l.leaf.range l.covered both.0 are.0.ends are.0.range in (
        subst (R 0 (joined_pieces p)) (sym tiled) (pieces_joined (R 0) (holds 0) l.leaf l.covered p all.0),
        all_read (λ (i : ℕ). R (suc i)) (λ (i : ℕ). holds (suc i)) ls ps both.1 are.1 planned.1 all.1,
      )

-- ---- the pieces of an empty journal, and those that come, are changed and go

pub no_pieces : (schema : List Table) (m : Machine) → ArePieced schema m []
no_pieces schema m = tt

-- a query that is just opened
pub pieced_push : (schema : List Table) (m : Machine) (ps : List Pieced) (number s : ℕ) (text : List ℕ) (params : List Parameter) (q : Statement) → IsPlannable schema q → ArePieced schema m ps → ArePieced schema m (ps ++ unread schema number s text params q ∷ [])
pieced_push schema m ps number s text params q plannable pieced =
    let there = opened_query schema number s text params q in
    all_push (IsPieced schema m.log) ps (unread schema number s text params q) pieced
    (record { plannable = plannable; of_plan = there.of_plan; top = refl; leaves = leaves_unread schema m.log s (MeanTheSame (statement_plan schema q).top) (statement_plan schema q).leaves })

pub covered-queries : (test : OpenQuery → Bool) (leaf : ℕ) (part : KeyRange) (piece : Piece) (ps : List Pieced) → changed_first test (cover leaf part) (queries_of ps) ≡ queries_of (changed_first (λ p. test p.query) (covered_by leaf part piece) ps)
covered-queries test leaf part piece ps = changed_first-queries test (cover leaf part) (covered_by leaf part piece) (λ p. refl) ps

pub pieced_without : (schema : List Table) (m : Machine) (ps : List Pieced) (test : Pieced → Bool) → ArePieced schema m ps → ArePieced schema m (without_first test ps)
pieced_without schema m ps test pieced = all_without (IsPieced schema m.log) test ps pieced

-- what holds of all leaves holds of one
leaf_among : (P : Leaf → Type 0) (ls : List ScanLeaf) (leaf : ℕ) (l : ScanLeaf) → AllByRecursion P (leaves_of ls) → slice_get ls leaf ≡ Some l → P l.leaf
leaf_among P [] leaf l all here = absurd (cc)
leaf_among P (k ∷ ks) zero l all here = let same : k ≡ l = cc in subst (λ (m : ScanLeaf). P m.leaf) same all.0
leaf_among P (k ∷ ks) (suc leaf) l all here = leaf_among P ks leaf l all.1 here

-- the tables of a leaf of an open query are tables of the schema
pub pieced_tables : (schema : List Table) (m : Machine) (ps : List Pieced) (query : ℕ) (p : Pieced) (leaf : ℕ) (l : ScanLeaf) → ArePieced schema m ps → find (λ x. is_query query x.query) ps ≡ Some p → slice_get p.query.leaves leaf ≡ Some l → AllByRecursion (IsTable schema) l.leaf.tables
pieced_tables schema m ps query p leaf l pieced found here =
    let is = all_found (IsPieced schema m.log) (λ x. is_query query x.query) ps p found pieced in
    let all = leaves_tabled schema p.query.statement.leaves is.plannable.tables p.query.statement.query is.plannable.sized in
    leaf_among (λ (k : Leaf). AllByRecursion (IsTable schema) k.tables) p.query.leaves leaf l (subst (AllByRecursion (λ (k : Leaf). AllByRecursion (IsTable schema) k.tables)) (sym is.of_plan) all) here

-- a leaf of an open query is maskable
pub pieced_maskable : (schema : List Table) (m : Machine) (ps : List Pieced) (query : ℕ) (p : Pieced) (leaf : ℕ) (l : ScanLeaf) → ArePieced schema m ps → find (λ x. is_query query x.query) ps ≡ Some p → slice_get p.query.leaves leaf ≡ Some l → IsMaskable schema l.leaf
pieced_maskable schema m ps query p leaf l pieced found here =
    let is = all_found (IsPieced schema m.log) (λ x. is_query query x.query) ps p found pieced in
    let all = leaves_maskable schema p.query.statement.leaves (keyed schema) p.query.statement.query is.plannable.sized in
    leaf_among (IsMaskable schema) p.query.leaves leaf l (subst (AllByRecursion (IsMaskable schema)) (sym is.of_plan) all) here

-- the rows that a leaf reads of a part of a slot's range are those of its tables there
tables_read : (schema : List Table) (db rows : List TableRow) (part : KeyRange) (ns : List ℕ) → ((n : ℕ) → rows_of n rows ≡ filter (row_within schema part) (rows_of n db)) → map (whole_table schema rows) ns ≡ tables_within schema db ns part
tables_read schema db rows part [] same = refl
tables_read schema db rows part (n ∷ ns) same =
    ap (λ (rs : List TableRow). map (declared_row schema) rs ∷ map (whole_table schema rows) ns) (same n)
    ∙ ap (λ (l : List (List (List Value))). rows_within schema db n part ∷ l) (tables_read schema db rows part ns same)

-- a scan that finds a slot safe covers the lowest uncovered part of the leaf in the slot with what it reads of that part
pub pieced_scanned : (schema : List Table) → MeetsRules schema → (m : Machine) {slot : ℕ} (cs : List KeyVersions) (ps : List Pieced) → IsReached schema m → AreKept schema m slot cs → ArePieced schema m ps → (query : ℕ) (p : Pieced) (slot_state risen : SlotState)
    → find (λ x. is_query query x.query) ps ≡ Some p → slice_get m.slots slot ≡ Some slot_state → is_safe m slot risen p.query.s ≡ true → slot_state.horizon ≤ p.query.s → (leaf : ℕ) (l : ScanLeaf) (part : KeyRange) → slice_get p.query.leaves leaf ≡ Some l → gap_in slot_state l ≡ Some part
    → (piece : Piece) → IsPieceOf schema l.leaf p.query.top leaf (snapshot part p.query.s cs) piece → ArePieced schema m (changed_first (λ x. is_query query x.query) (covered_by leaf part piece) ps)
pieced_scanned schema rules m {slot} cs ps reached kept pieced query p slot_state risen found at safe high leaf l part here gap piece reading =
    let made = reached_tables schema rules m p.query.s reached in
    let seen = snapshot_when_safe schema rules m slot slot_state risen cs p.query.s reached kept at safe high made.0 made.1 part in
    let inside : (r : TableRow) → row_within schema part r ≡ true → has_row schema slot_state r ≡ true =
    λ r within. (part_within slot_state.lo slot_state.hi l.leaf.range (code_of schema r) (gap_within (part_between slot_state.lo slot_state.hi l.leaf.range) l.covered part (code_of schema r) gap within)).0 in
    let rows : (n : ℕ) → rows_of n seen.rows ≡ filter (row_within schema part) (rows_of n made.0) = λ n. seen.of_table n ∙ filter_within (row_within schema part) (has_row schema slot_state) inside (rows_of n made.0) in
    let has : HasRowsIn (MeanTheSame p.query.top leaf) schema m.log p.query.s l.leaf part piece = record {
      db = made.0;
      made = made.1;
      good = subst (λ (ts : List (List Row)). MeanTheSame p.query.top leaf piece.rows (pick_rows l.leaf.kept (leaf_rows l.leaf ts))) (tables_read schema made.0 seen.rows part l.leaf.tables rows)
          (reading seen.rows seen.typed seen.entries_are);
    } in
    let old = all_found (IsPieced schema m.log) (λ x. is_query query x.query) ps p found pieced in
    all_changed_found (IsPieced schema m.log) (λ x. is_query query x.query) (covered_by leaf part piece) ps p found
    (record {
      plannable = old.plannable;
      of_plan = ap leaves_of (piece_at p.query.leaves leaf l part here) ∙ leaves_covered p.query.leaves leaf l part here ∙ old.of_plan;
      top = old.top;
      leaves = leaf_read schema m.log p.query.s (MeanTheSame p.query.top) p.query.leaves p.pieces leaf l part piece here has old.leaves;
    }) pieced

-- ---- steps

module _ (schema : List Table) (rules : MeetsRules schema) (m : Machine) (reached : IsReached schema m) (u : Result Statement Refusal) (step : Step) (of : IsOfSchema schema step) where
  -- the rows of tables in a part that is sealed stay
  tables_sealed : (s : ℕ) (c : KeyRange) → IsPartSealed schema m s c → AreEnds schema c → (db out : List TableRow) → tables schema m.log s ≡ Ok db → tables schema (answer schema m u step).1.log s ≡ Ok out → (ns : List ℕ) → tables_within schema db ns c ≡ tables_within schema out ns c
  tables_sealed s c seal ends db out made made_after [] = refl
  tables_sealed s c seal ends db out made made_after (n ∷ ns) =
      let after : Machine = (answer schema m u step).1 in
      let reached_after : IsReached schema after = answer_reached schema rules m reached u step of in
      let keyed = keyed_upto schema m.log s reached.by_schema.log in
      let keyed_after = keyed_upto schema after.log s reached_after.by_schema.log in
      let typed = typed_stay schema [] (mutations_of (upto m.log s)) db tt (typed_upto schema m.log s reached.by_schema.log) made in
      let typed_after = typed_stay schema [] (mutations_of (upto after.log s)) out tt (typed_upto schema after.log s reached_after.by_schema.log) made_after in
      ap (λ (rs : List TableRow). map (declared_row schema) rs ∷ tables_within schema db ns c)
      (rows_alike_within schema rules c ends n (mutations_of (upto m.log s)) (mutations_of (upto after.log s)) db out keyed keyed_after typed typed_after made made_after
      (λ root is within. (answer_keeps schema root is s m reached.holding (seal root is within) u step).same))
      ∙ ap (λ (l : List (List (List Value))). rows_within schema out n c ∷ l) (tables_sealed s c seal ends db out made made_after ns)

  -- and so does what a leaf gives there
  stays_sealed : (s : ℕ) (c : KeyRange) → IsPartSealed schema m s c → AreEnds schema c → Stays schema m.log s (answer schema m u step).1.log c
  stays_sealed s c seal ends =
      let made = reached_tables schema rules m s reached in
      let made_after = reached_tables schema rules (answer schema m u step).1 s (answer_reached schema rules m reached u step of) in
      record {
        before_db = made.0;
        after_db = made_after.0;
        before_made = made.1;
        after_made = made_after.1;
        same = λ leaf. ap (λ (ts : List (List Row)). pick_rows leaf.kept (leaf_rows leaf ts)) (tables_sealed s c seal ends made.0 made_after.0 made.1 made_after.1 leaf.tables);
      }

  pieced_still : (ps : List Pieced) → AllByRecursion (IsCoveredSealed schema m) (queries_of ps) → AllByRecursion (HasLeaves schema) (queries_of ps) → ArePieced schema m ps → ArePieced schema (answer schema m u step).1 ps
  pieced_still [] sealed leaves pieced = tt
  pieced_still (p ∷ ps) sealed leaves pieced = (
    record {
      plannable = pieced.0.plannable;
      of_plan = pieced.0.of_plan;
      top = pieced.0.top;
      leaves = leaves_still schema m.log p.query.s (MeanTheSame p.query.top) (answer schema m u step).1.log p.query.leaves p.pieces
          (all_both (AllCovered (IsPartSealed schema m p.query.s)) (IsOpenLeaf schema) (AllCovered (Stays schema m.log p.query.s (answer schema m u step).1.log))
          (λ l seals is. all_both (IsPartSealed schema m p.query.s) (AreEnds schema) (Stays schema m.log p.query.s (answer schema m u step).1.log) (stays_sealed p.query.s) l.covered seals is.ends)
          p.query.leaves sealed.0 leaves.0.leaves)
          pieced.0.leaves;
    },
    pieced_still ps sealed.1 leaves.1 pieced.1,
  )

-- no step changes the rows of the pieces of a query
pub pieced_by_step : (schema : List Table) → MeetsRules schema → (m : Machine) → IsReached schema m → (ps : List Pieced) → m.queries ≡ queries_of ps → ArePieced schema m ps → (u : Result Statement Refusal) (step : Step) → IsOfSchema schema step → ArePieced schema (answer schema m u step).1 ps
pieced_by_step schema rules m reached ps same pieced u step of =
    pieced_still schema rules m reached u step of ps (subst (AllByRecursion (IsCoveredSealed schema m)) same reached.sound.queries) (subst (AllByRecursion (HasLeaves schema)) same reached.leaves) pieced

-- what the query above the leaves means on their pieces is the answer, where they tile the range of each leaf
pub pieced_finish : (schema : List Table) → MeetsRules schema → (m : Machine) → IsReached schema m → (ps : List Pieced) → m.queries ≡ queries_of ps → ArePieced schema m ps → (u : Result Statement Refusal) (number : ℕ) (p : Pieced) → find (λ x. is_query number x.query) ps ≡ Some p → list_all is_covered p.query.leaves ≡ true
    → answer schema m u (Finish number) ≡ (answer_on p.query.s (rows_or_refusal (gathered p.pieces p.query.top)), m)
pieced_finish schema rules m reached ps same pieced u number p found covered =
    let there : find (is_query number) m.queries ≡ Some p.query = ap (find (is_query number)) same ∙ found_query number ps p found in
    let made = reached_tables schema rules m p.query.s reached in
    let is_db : IsDatabase schema made.0 = apply-database schema rules (mutations_of (upto m.log p.query.s)) [] made.0 (empty_database schema) (keyed_upto schema m.log p.query.s reached.by_schema.log) made.1 in
    let typed : AreTyped schema made.0 = typed_stay schema [] (mutations_of (upto m.log p.query.s)) made.0 tt (typed_upto schema m.log p.query.s reached.by_schema.log) made.1 in
    let is = all_found (IsPieced schema m.log) (λ x. is_query number x.query) ps p found pieced in
    let has : HasLeaves schema p.query = all_found (HasLeaves schema) (is_query number) m.queries p.query there reached.leaves in
    let planned : AllByRecursion (IsPlanned schema) (leaves_of p.query.leaves) = subst (AllByRecursion (IsPlanned schema)) (sym is.of_plan) (plan_leaves schema rules p.query.statement is.plannable) in
    let meant : gathered p.pieces p.query.top ≡ means schema p.query.statement.query p.query.statement.leaves made.0 =
    same_tables p.query.top (map joined_pieces p.pieces) (map (λ (l : Leaf). leaf_within schema made.0 l l.range) (leaves_of p.query.leaves))
    (all_read schema rules m.log p.query.s made.0 is_db typed made.1 (MeanTheSame p.query.top) (means_of_parts p.query.top) p.query.leaves p.pieces covered has.leaves planned is.leaves)
    ∙ ap (λ (ls : List Leaf). meaning_over (given (map (λ (l : Leaf). leaf_within schema made.0 l l.range) ls)) p.query.top) is.of_plan
    ∙ ap (meaning_over (given (map (λ (l : Leaf). leaf_within schema made.0 l l.range) (statement_plan schema p.query.statement).leaves))) is.top
    ∙ planned_meaning schema rules p.query.statement is.plannable made.0 is_db typed in
    finish_meant schema m u number p.query made.0 there covered made.1
    ∙ ap (λ (o : Rows). (answer_on p.query.s (rows_or_refusal o), m)) (sym meant)
