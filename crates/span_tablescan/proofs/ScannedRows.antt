-- A leaf of one table gives the rows that pass its condition, one after another.
use Rattle.std.proofs.Common.{◌≡◌, ◌⊎◌, inl, inr, ◌∙◌, ℕ, ◌+◌, ◌≤◌, ◌==◌, Bool, true, false, ◌||◌, cond, List, [], ◌∷◌, ◌++◌, length, take, map, Option, Some, None, Result, Ok, Err, refl, sym, ap, subst, arith, if◌then◌else◌, append_assoc}
use Rattle.std.specs.Prelude.{filter, IfOk}
use Rattle.std.specs.List.{range_with_len, list_all}
use Rattle.std.proofs.lemmas.Bool.{and_parts, eqb-true, eq-eqb}
use Rattle.std.proofs.lemmas.List.{append-nil, replicate_more, take_all}
use Rattle.std.specs.Prelude.{replicate}
use mir.Val.{bool_byte}
use Rattle.std.proofs.lemmas.List.FromFn.{length-map-range_with_len}
use Rattle.span_value.specs.declared.refusal.Refusal.{Refusal}
use Rattle.span_value.specs.declared.truth.Outcome.{Outcome}
use Rattle.span_schema.specs.declared.table.Table.{Table}
use Rattle.span_schema.specs.Numbers.{other_kinds}
use Rattle.span_rowcode.specs.Rows.{IsRow, row_code}
use Rattle.span_mutate.specs.declared.row.TableRow.{TableRow}
use Rattle.span_mutate.specs.Database.{rows_of}
use Rattle.span_mutate.specs.Typed.{IsTyped, AreTyped}
use Rattle.span_shard.specs.Rows.{code_of}
use Rattle.span_shard.specs.Shard.{KeyRow}
use Rattle.span_shard.specs.Reading.{has_short_key, IsNoTableRow}
use Rattle.span_expr.specs.declared.cell.Failure.{Failure}
use Rattle.span_expr.specs.declared.cell.Failure.TheVariants.{Fault, OutOfMemory}
use Rattle.span_expr.specs.declared.expr.Expr.{Expr}
use Rattle.span_expr.specs.Places.{is_in, reads_only, moved, rank}
use Rattle.span_expr.proofs.Places.{reads_only-wider}
use Rattle.span_query.specs.Rows.{Row, OrFault, Rows, ◌>>=◌, value_of, is_true, append_results, keep_if, holds, filter_rows, filter_where}
use Rattle.span_query.proofs.Results.{append_results-assoc, append_results-nil, nil-append_results}
use Rattle.span_conditions.specs.Answers.{Gives, Adds}
use Rattle.span_rows.proofs.Gathering.{one_adds, one_fails, adding-fails}
use Rattle.span_collected.specs.declared.reduction.Reduction.{Reduction}
use Rattle.span_collected.specs.Reductions.{AreEnough, HasEnough, GivesEnough}
use Rattle.span_collected.proofs.Reductions.{enough_same, enough_more, enough_again, gives_all, gives_fault}
use Rattle.span_columns.specs.declared.leaf.Leaf.{Leaf}
use Rattle.span_columns.specs.declared.leaf.LeafJoin.{LeafJoin}
use Rattle.span_leaves.specs.Leaves.{width_of}
use Rattle.span_leaves.specs.Maskable.{IsMaskable}
use Rattle.span_leaves.proofs.Parts.{part_length}
use Rattle.span_columns.specs.Picks.{picked, picked_width, pick_rows}
use Rattle.span_columns.specs.Reads.{has_place, reads_within, condition_reads, leaf_on_reads, leaf_widths}
use Rattle.span_leaves.specs.Results.{join_tables, leaf_rows}
use Rattle.span_leaves.proofs.Picked.{Agrees, agrees, val-picked, pick_rows-append}
use Rattle.span_leaves.proofs.Reading.{has_place-range}
use Rattle.span_entries.specs.Meaning.{declared_row, whole_table}
use Rattle.span_entries.specs.Entries.{key_row, AreNoRows, IsWhetherOf, OfRows}
use Rattle.span_tablescan.specs.Given.{kept_given, IsKeptOn, IsEnoughOn}
use Rattle.span_entries.specs.Longest.{IsLongest, AreLongest, HaveShortKeys}
use Rattle.span_celltests.specs.declared.cell_test.CellTest.{CellTest}
use Rattle.span_celltests.specs.CellTests.{meets, IsWhetherPass}
use Rattle.span_rowreader.specs.Readers.{ArePickedOf}
use Rattle.span_entries.specs.WholeKeys.{IsWhetherOfLength}
use Rattle.span_tablescan.specs.Scans.{passes, kept_row, AreTestsWhere, IsMaskOf, IsConditionAt, IsAdded, IsAddedWhere, IsTaken}
use Rattle.span_entries.proofs.DeclaredRows.{row_width}
use Rattle.span_rowreader.proofs.TargetRows.{none_picked}
use Rattle.span_tablescan.proofs.ShortKeys.{given_on_all, holds_on_all, refused_of_all}

-- ---- the mask of a condition

pub mask_between : (low high width : ℕ) (e : Expr) (ms : List Bool) → reads_only (is_in low high) e ≡ true → ms ≡ map (is_in low high) (range_with_len 0 width) → IsMaskOf width e ms
mask_between low high width e ms reads is = record {
  long = ap (length {A = Bool}) is ∙ length-map-range_with_len (is_in low high) 0 width;
  reads = ap (λ (l : List Bool). reads_within l e) is ∙ reads_only-wider (is_in low high) (has_place (map (is_in low high) (range_with_len 0 width))) e (λ k in_it. let same : 0 + k ≡ k = omega arith in has_place-range (is_in low high) 0 width k (ap (is_in low high) same ∙ in_it)) reads;
}

-- ---- one entry

module _ (schema : List Table) (n : ℕ) (ms : List Bool) (w : Option Expr) where
  kept_own : (t : TableRow) (b : Bool) → (t.table == n) ≡ b → kept_row schema n ms w t
      ≡ ((if b then passes w (declared_row schema t) else Some false) >>= (λ b. Some (keep_if (picked ms (declared_row schema t)) b)))
  kept_own t b test = ap (λ (b : Bool). (if b then passes w (declared_row schema t) else Some false) >>= (λ b. Some (keep_if (picked ms (declared_row schema t)) b))) test

  own_test : (t : TableRow) → t.table ≡ n → (t.table == n) ≡ true
  own_test t own = eq-eqb t.table n own

  -- an entry of another table
  pub other_taken : (key row : List ℕ) (rows : List Row) → IsWhetherOf schema n key false → IsTaken schema n ms w key row (Ok tt) rows rows
  other_taken key row rows whether = record {
    of = λ t typed is cells. subst (λ (o : Rows). Adds (Ok tt) o rows rows) (sym (kept_own t false (sym (whether.of t typed is)))) (adds_none rows);
  }
    where
      adds_none : (rows : List Row) → Adds (Ok tt) (Some []) rows rows
      adds_none rows = ap (λ (l : List Row). Some l) (append-nil rows)

  -- an entry of the table, which is added where it passes
  pub own_taken : (key row : List ℕ) (found : Result (Unit {0}) Failure) (old new : List Row) → IsWhetherOf schema n key true → IsAddedWhere schema n ms w key row found old new → IsTaken schema n ms w key row found old new
  own_taken key row found old new whether added = record { of = λ t typed is cells. added.of t typed (eqb-true t.table n (sym (whether.of t typed is))) is cells }

  -- an entry that was added where its row passes
  adds_one : (p : Row) (old new : List Row) → new ≡ old ++ p ∷ [] → Adds (Ok tt) (Some (p ∷ [])) old new
  adds_one p old new pushed = ap (λ (l : List Row). Some l) (sym pushed)

  pub passed : (key row : List ℕ) (old new : List Row) → ((t : TableRow) → IsTyped schema t → t.table ≡ n → key ≡ code_of schema t → row ≡ row_code t.cells → passes w (declared_row schema t) ≡ Some true)
      → IsAdded schema n ms key row old new → IsAddedWhere schema n ms w key row (Ok tt) old new
  passed key row old new does added = record {
    of = λ t typed own is cells.
        let p : Row = picked ms (declared_row schema t) in
        let one : kept_row schema n ms w t ≡ Some (p ∷ []) = kept_own t true (own_test t own) ∙ ap (λ (o : OrFault Bool). o >>= (λ b. Some (keep_if p b))) (does t typed own is cells) in
        subst (λ (o : Rows). Adds (Ok tt) o old new) (sym one) (adds_one p old new (added.of t typed own is cells));
  }

  pub not_passed : (key row : List ℕ) (rows : List Row) → ((t : TableRow) → IsTyped schema t → t.table ≡ n → key ≡ code_of schema t → row ≡ row_code t.cells → passes w (declared_row schema t) ≡ Some false)
      → IsAddedWhere schema n ms w key row (Ok tt) rows rows
  not_passed key row rows does_not = record {
    of = λ t typed own is cells.
        let p : Row = picked ms (declared_row schema t) in
        let none : kept_row schema n ms w t ≡ Some [] = kept_own t true (own_test t own) ∙ ap (λ (o : OrFault Bool). o >>= (λ b. Some (keep_if p b))) (does_not t typed own is cells) in
        subst (λ (o : Rows). Adds (Ok tt) o rows rows) (sym none) (ap (λ (l : List Row). Some l) (append-nil rows));
  }

  pub failed : (key row : List ℕ) (why : Failure) (old new : List Row) → ((t : TableRow) → IsTyped schema t → t.table ≡ n → key ≡ code_of schema t → row ≡ row_code t.cells → Gives (Err why) (passes w (declared_row schema t)))
      → IsAddedWhere schema n ms w key row (Err why) old new
  failed key row why old new fails = record {
    of = λ t typed own is cells.
        subst (λ (o : Rows). Adds (Err why) o old new) (sym (kept_own t true (own_test t own))) (fails_on why (passes w (declared_row schema t)) (picked ms (declared_row schema t)) (fails t typed own is cells));
  }
    where
      fails_on : (why : Failure) (o : OrFault Bool) (p : Row) → Gives (Err why) o → Adds (Err why) (o >>= (λ b. Some (keep_if p b))) old new
      fails_on Fault o p gives = ap (λ (x : OrFault Bool). x >>= (λ b. Some (keep_if p b))) gives
      fails_on OutOfMemory o p gives = tt {0}

-- ---- the condition at the columns that are read

agrees_own : (ms : List Bool) → Agrees ms ms
agrees_own ms = subst (λ (all : List Bool). Agrees all ms) (append-nil ms) (agrees ms [])

-- what the condition comes to at the columns that were read is whether the row passes
pub condition_gives : (schema : List Table) (n : ℕ) (ms : List Bool) (w : Option Expr) (at : Expr) (key row : List ℕ) (values : Row) (found : Result Bool Failure) → IsConditionAt schema n ms w at
    → ArePickedOf schema n ms key row values → Gives found (holds at values) → (t : TableRow) → IsTyped schema t → t.table ≡ n → key ≡ code_of schema t → row ≡ row_code t.cells
    → Gives found (passes w (declared_row schema t))
condition_gives schema n ms w at key row values found of read gives t typed own is cells =
    let whole : Row = declared_row schema t in
    let wide : length whole ≡ length ms = row_width schema t ∙ ap (width_of schema) own ∙ sym of.mask.long in
    let same : holds at values ≡ passes w whole =
    ap (λ (e : Expr). holds e values) of.moved
    ∙ ap (holds (moved (rank ms) of.condition)) (read.are t typed own is cells)
    ∙ ap (λ (o : Outcome). value_of o >>= (λ v. Some (is_true v))) (val-picked ms ms (agrees_own ms) whole of.condition wide of.mask.reads)
    ∙ ap (λ (o : Option Expr). passes o whole) (sym of.is) in
    subst (λ (o : OrFault Bool). Gives found o) same gives

cells_fit : (schema : List Table) (n : ℕ) (t : TableRow) → IsTyped schema t → t.table ≡ n → IsRow (other_kinds schema n) t.cells
cells_fit schema n t typed own = let P : ℕ → Type 0 = λ m. IsRow (other_kinds schema m) t.cells in subst P own typed.1

-- a row of the table that meets them is kept, where they tell whether it passes
pub met_added : (schema : List Table) (n : ℕ) (ms : List Bool) (w : Option Expr) (key row : List ℕ) (tests : List CellTest) (old new : List Row) → AreTestsWhere schema n w tests
    → IsWhetherPass (other_kinds schema n) row (λ cells. list_all (meets cells) tests) true → IsAdded schema n ms key row old new → IsAddedWhere schema n ms w key row (Ok tt) old new
met_added schema n ms w key row tests old new of whether added =
    passed schema n ms w key row old new (λ t typed own is cells. of.judged t typed own ∙ ap (λ (b : Bool). Some b) (sym (whether.of t.cells (cells_fit schema n t typed own) cells))) added

-- a row of no values is added where it is one of the table that meets them, where they tell whether it passes
-- a key of a length that decides
pub own_by_length : (schema : List Table) (n len : ℕ) (key : List ℕ) (b : Bool) → len ≡ length key → IsWhetherOfLength schema n len b → IsWhetherOf schema n key b
own_by_length schema n len key b is found = found.of key (sym is)

pub counted_taken : (schema : List Table) (n : ℕ) (ms : List Bool) (w : Option Expr) (key row : List ℕ) (tests : List CellTest) (rows : List Row) (b : Bool) → picked_width ms ≡ 0 → AreTestsWhere schema n w tests
    → IsWhetherPass (other_kinds schema n) row (λ cells. list_all (meets cells) tests) true → IsWhetherOf schema n key b → IsTaken schema n ms w key row (Ok tt) rows (if b then rows ++ [] ∷ [] else rows)
counted_taken schema n ms w key row tests rows true none of met own =
    let more : List Row = rows ++ [] ∷ [] in
    let added : IsAdded schema n ms key row rows more = record { of = λ t typed its is cells. ap (λ (p : Row). rows ++ p ∷ []) (sym (none_picked ms (declared_row schema t) none)) } in
    own_taken schema n ms w key row (Ok tt) rows more own (met_added schema n ms w key row tests rows more of met added)
counted_taken schema n ms w key row tests rows false none of met own = other_taken schema n ms w key row rows own

-- the same where there is no test
pub counted_own : (schema : List Table) (n : ℕ) (ms : List Bool) (w : Option Expr) (key row : List ℕ) (tests : List CellTest) (rows : List Row) (b : Bool) → tests ≡ [] → picked_width ms ≡ 0 → AreTestsWhere schema n w tests
    → IsWhetherOf schema n key b → IsTaken schema n ms w key row (Ok tt) rows (if b then rows ++ [] ∷ [] else rows)
counted_own schema n ms w key row tests rows b none width of own =
    let met : IsWhetherPass (other_kinds schema n) row (λ cells. list_all (meets cells) tests) true = record { of = λ cells fits is. sym (ap (list_all (meets cells)) none) } in
    counted_taken schema n ms w key row tests rows b width of met own

pub no_tests : (tests : List CellTest) → length tests ≤ 0 → tests ≡ []
no_tests [] le = refl
no_tests (t ∷ ts) le = absurd (omega (arith, le))

pub both_false : (b c : Bool) → (b || c) ≡ false → (b ≡ false) × (c ≡ false)
both_false true c e = absurd (let f : true ≡ false = e in cc)
both_false false c e = (refl, e)

-- one row more, or none
pub one_counted : (b : Bool) (count : ℕ) → (if b then replicate {A = Row} count [] ++ [] ∷ [] else replicate count []) ≡ replicate (count + bool_byte b) []
one_counted true count = replicate_more count []
one_counted false count = let same : count ≡ count + 0 = omega arith in ap (λ (k : ℕ). replicate {A = Row} k []) same

-- ---- the entries one after another

module _ (schema : List Table) (n : ℕ) (ms : List Bool) (w : Option Expr) where
  -- what is kept of rows
  abbrev pub kept_rows : List TableRow → Rows
  kept_rows rows = pick_rows ms (filter_where w (whole_table schema rows n))

  kept_cons : (t : TableRow) (rows : List TableRow) → kept_rows (t ∷ rows) ≡ append_results (kept_row schema n ms w t) (kept_rows rows)
  kept_cons t rows = by_test w (t.table == n)
    where
      x : Row
      x = declared_row schema t

      whole : List Row
      whole = whole_table schema rows n

      picked_keep : (o : OrFault Bool) → pick_rows ms (o >>= (λ b. Some (keep_if x b))) ≡ (o >>= (λ b. Some (keep_if (picked ms x) b)))
      picked_keep None = refl
      picked_keep (Some true) = refl
      picked_keep (Some false) = refl

      by_test : (v : Option Expr) (b : Bool) → pick_rows ms (filter_where v (map (declared_row schema) (cond b (t ∷ rows_of n rows) (rows_of n rows))))
          ≡ append_results ((if b then passes v x else Some false) >>= (λ b. Some (keep_if (picked ms x) b))) (pick_rows ms (filter_where v whole))
      by_test None true = refl
      by_test None false = refl
      by_test (Some e) true =
          pick_rows-append ms (holds e x >>= (λ b. Some (keep_if x b))) (filter_rows e whole)
          ∙ ap (λ (o : Rows). append_results o (pick_rows ms (filter_rows e whole))) (picked_keep (holds e x))
      by_test (Some e) false = sym (nil-append_results (pick_rows ms (filter_rows e whole)))

  -- the rows that are left, where these values are kept of the others
  pub record LeftRows (rows : List TableRow) (rest : List KeyRow) (values : List Row) : Type 0 where
    pub left : List TableRow
    pub typed : AreTyped schema left
    pub are : rest ≡ map (key_row schema) left
    pub kept : kept_rows rows ≡ append_results (Some values) (kept_rows left)

  -- of whatever rows the entries are, these values are kept of those before the rest
  abbrev pub KeptBefore : List KeyRow → List KeyRow → List Row → Type 0
  KeptBefore entries rest values = (rows : List TableRow) → AreTyped schema rows → entries ≡ map (key_row schema) rows → LeftRows rows rest values

  pub kept_first : (entries : List KeyRow) → KeptBefore entries entries []
  kept_first entries rows typed is = record { left = rows; typed = typed; are = is; kept = sym (nil-append_results (kept_rows rows)) }

  -- the first of the rows that are left
  pub record FirstLeft (x : KeyRow) (rest : List KeyRow) (left : List TableRow) : Type 0 where
    pub row : TableRow
    pub later : List TableRow
    pub is : left ≡ row ∷ later
    pub key : x.key ≡ code_of schema row
    pub cells : x.row ≡ row_code row.cells
    pub rest_is : rest ≡ map (key_row schema) later
    pub typed : IsTyped schema row × AreTyped schema later

  pub first_left : (x : KeyRow) (rest : List KeyRow) (left : List TableRow) → AreTyped schema left → x ∷ rest ≡ map (key_row schema) left → FirstLeft x rest left
  first_left x rest [] typed is = absurd cc
  first_left x rest (t ∷ ts) typed is =
      let heads : (x ≡ key_row schema t) × (rest ≡ map (key_row schema) ts) = both x (key_row schema t) rest (map (key_row schema) ts) is in
      record {
        row = t;
        later = ts;
        is = refl;
        key = ap (λ (y : KeyRow). y.key) heads.0;
        cells = ap (λ (y : KeyRow). y.row) heads.0;
        rest_is = heads.1;
        typed = (typed.0, typed.1);
      }
    where
      both : (x y : KeyRow) (xs ys : List KeyRow) → x ∷ xs ≡ y ∷ ys → (x ≡ y) × (xs ≡ ys)
      both x y xs ys e = (cc, cc)

  -- one entry more, where the rows that are left are known
  module _ (rest later : List KeyRow) (x : KeyRow) (is : rest ≡ x ∷ later) (rows : List TableRow) (all : List Row) (before : LeftRows rows rest all) where
    abbrev pub first : FirstLeft x later before.left
    first = first_left x later before.left before.typed (sym is ∙ before.are)

    next : kept_rows before.left ≡ append_results (kept_row schema n ms w first.row) (kept_rows first.later)
    next = ap kept_rows first.is ∙ kept_cons first.row first.later

    pub left_more : (new : List Row) → Adds (Ok tt) (kept_row schema n ms w first.row) all new → LeftRows rows later new
    left_more new adds = record {
      left = first.later;
      typed = first.typed.1;
      are = first.rest_is;
      kept = one_adds (kept_rows rows) (kept_rows before.left) (kept_row schema n ms w first.row) (kept_rows first.later) all new before.kept next adds;
    }

    pub left_fails : (why : Failure) (old new : List Row) → Adds (Err why) (kept_row schema n ms w first.row) old new → Gives (Err why) (kept_rows rows)
    left_fails why old new adds =
        one_fails why (kept_rows rows) (kept_rows before.left) (kept_row schema n ms w first.row) (kept_rows first.later) all before.kept next
        (adding-fails why (kept_row schema n ms w first.row) old new adds)

  pub kept_more : (entries rest later : List KeyRow) (x : KeyRow) (old new : List Row) → rest ≡ x ∷ later → KeptBefore entries rest old
      → IsTaken schema n ms w x.key x.row (Ok tt) old new → KeptBefore entries later new
  kept_more entries rest later x old new is so taken rows typed whole =
      let before = so rows typed whole in
      let t = first rest later x is rows old before in
      left_more rest later x is rows old before new (taken.of t.row t.typed.0 t.key t.cells)

  -- the rows that are left, as those that some entries are and those after them
  record PartedRows (xs later : List KeyRow) (left : List TableRow) : Type 0 where
    pub first : List TableRow
    pub second : List TableRow
    pub is : left ≡ first ++ second
    pub are : xs ≡ map (key_row schema) first
    pub later_are : later ≡ map (key_row schema) second
    pub typed : AreTyped schema first × AreTyped schema second

  same_heads : (x y : KeyRow) (xs ys : List KeyRow) → x ∷ xs ≡ y ∷ ys → (x ≡ y) × (xs ≡ ys)
  same_heads x y xs ys e = (cc, cc)

  parted : (xs later : List KeyRow) (left : List TableRow) → AreTyped schema left → xs ++ later ≡ map (key_row schema) left → PartedRows xs later left
  parted [] later left typed is = record { first = []; second = left; is = refl; are = refl; later_are = is; typed = (tt {0}, typed) }
  parted (x ∷ xs) later [] typed is = absurd cc
  parted (x ∷ xs) later (t ∷ ts) typed is =
      let heads = same_heads x (key_row schema t) (xs ++ later) (map (key_row schema) ts) is in
      let more = parted xs later ts typed.1 heads.1 in
      record {
        first = t ∷ more.first;
        second = more.second;
        is = ap (λ (l : List TableRow). t ∷ l) more.is;
        are = ap (λ (y : KeyRow). y ∷ xs) heads.0 ∙ ap (λ (l : List KeyRow). key_row schema t ∷ l) more.are;
        later_are = more.later_are;
        typed = ((typed.0, more.typed.0), more.typed.1);
      }

  kept_none : (v : Option Expr) → Some [] ≡ pick_rows ms (filter_where v [])
  kept_none None = refl
  kept_none (Some e) = refl

  kept_append : (xs ys : List TableRow) → kept_rows (xs ++ ys) ≡ append_results (kept_rows xs) (kept_rows ys)
  kept_append [] ys = sym (nil-append_results (kept_rows ys)) ∙ ap (λ (o : Rows). append_results o (kept_rows ys)) (kept_none w)
  kept_append (t ∷ xs) ys =
      kept_cons t (xs ++ ys)
      ∙ ap (append_results (kept_row schema n ms w t)) (kept_append xs ys)
      ∙ sym (append_results-assoc (kept_row schema n ms w t) (kept_rows xs) (kept_rows ys))
      ∙ ap (λ (o : Rows). append_results o (kept_rows ys)) (sym (kept_cons t xs))

  -- some entries more, of which these values are kept
  pub kept_part : (entries rest later xs : List KeyRow) (old new : List Row) → rest ≡ xs ++ later → KeptBefore entries rest old
      → OfRows schema xs (λ rows. Gives (Ok new) (kept_rows rows)) → KeptBefore entries later (old ++ new)
  kept_part entries rest later xs old new is so part rows typed whole =
      let before = so rows typed whole in
      let these = parted xs later before.left before.typed (sym is ∙ before.are) in
      let some : kept_rows these.first ≡ Some new = part.of these.first these.typed.0 these.are in
      record {
        left = these.second;
        typed = these.typed.1;
        are = these.later_are;
        kept = before.kept
            ∙ ap (append_results (Some old)) (ap kept_rows these.is ∙ kept_append these.first these.second ∙ ap (λ (o : Rows). append_results o (kept_rows these.second)) some)
            ∙ sym (append_results-assoc (Some old) (Some new) (kept_rows these.second));
      }

  -- the rows that are left, where these values are enough in the place of those that are kept of the others
  pub record EnoughLeft (r : Reduction) (rows : List TableRow) (rest : List KeyRow) (values : List Row) : Type 0 where
    pub all : List Row
    pub left : LeftRows rows rest all
    pub enough : AreEnough r values all

  -- of whatever rows the entries are, these values are enough in the place of those that are kept before the rest
  abbrev pub EnoughBefore : Reduction → List KeyRow → List KeyRow → List Row → Type 0
  EnoughBefore r entries rest values = (rows : List TableRow) → AreTyped schema rows → entries ≡ map (key_row schema) rows → EnoughLeft r rows rest values

  pub enough_first : (r : Reduction) (entries : List KeyRow) → EnoughBefore r entries entries []
  enough_first r entries rows typed is = record { all = []; left = kept_first entries rows typed is; enough = enough_same r [] }

  -- what was added
  added : (o : Rows) (old new : List Row) → append_results (Some old) o ≡ Some new → (more : List Row) × (o ≡ Some more) × (new ≡ old ++ more)
  added None old new e = absurd (let f : None ≡ Some new = e in cc)
  added (Some more) old new e = (more, refl, (let f : Some (old ++ more) ≡ Some new = e in cc))

  -- after rows that stay as they are
  module _ (r : Reduction) (entries rest later : List KeyRow) (x : KeyRow) (front old new : List Row) (is : rest ≡ x ∷ later) (so : EnoughBefore r entries rest (front ++ old)) where
    pub enough_after : IsTaken schema n ms w x.key x.row (Ok tt) old new → EnoughBefore r entries later (front ++ new)
    enough_after taken rows typed whole =
        let before = so rows typed whole in
        let t = first rest later x is rows before.all before.left in
        let put = added (kept_row schema n ms w t.row) old new (taken.of t.row t.typed.0 t.key t.cells) in
        let adds : Adds (Ok tt) (kept_row schema n ms w t.row) before.all (before.all ++ put.0) = ap (append_results (Some before.all)) put.1 in
        record {
          all = before.all ++ put.0;
          left = left_more rest later x is rows before.all before.left (before.all ++ put.0) adds;
          enough =
              subst (λ (l : List Row). AreEnough r l (before.all ++ put.0)) (sym (ap (λ (l : List Row). front ++ l) put.2 ∙ sym (append_assoc front old put.0)))
              (enough_more r (front ++ old) before.all put.0 before.enough);
        }

    pub enough_fails : (why : Failure) → IsTaken schema n ms w x.key x.row (Err why) old new → (rows : List TableRow) → AreTyped schema rows → entries ≡ map (key_row schema) rows → Gives (Err why) (kept_rows rows)
    enough_fails why taken rows typed whole =
        let before = so rows typed whole in
        let t = first rest later x is rows before.all before.left in
        left_fails rest later x is rows before.all before.left why old new (taken.of t.row t.typed.0 t.key t.cells)

    pub not_rows_left : IsNoTableRow schema x.key x.row → AreNoRows schema entries
    not_rows_left none rows typed whole =
        let before = so rows typed whole in
        let t = first rest later x is rows before.all before.left in
        none.none t.row t.typed.0 t.key t.cells

  -- those that are enough in their place
  pub enough_kept : (r : Reduction) (entries rest : List KeyRow) (old new : List Row) → EnoughBefore r entries rest old → AreEnough r new old → EnoughBefore r entries rest new
  enough_kept r entries rest old new so enough rows typed whole =
      let before = so rows typed whole in
      record { all = before.all; left = before.left; enough = enough_again r new old before.all enough before.enough }

  -- at the end
  left_end : (rest : List KeyRow) (all : List Row) (rows : List TableRow) → rest ≡ [] → LeftRows rows rest all → kept_rows rows ≡ Some all
  left_end rest all rows end before =
      before.kept ∙ ap (λ (l : List TableRow). append_results (Some all) (kept_rows l)) (none_left before.left (sym end ∙ before.are)) ∙ ap (append_results (Some all)) (of_no_rows w) ∙ append_results-nil (Some all)
    where
      of_no_rows : (v : Option Expr) → pick_rows ms (filter_where v []) ≡ Some []
      of_no_rows None = refl
      of_no_rows (Some e) = refl

      none_left : (left : List TableRow) → [] ≡ map (key_row schema) left → left ≡ []
      none_left [] e = refl
      none_left (t ∷ ts) e = absurd cc

  pub kept_end : (entries rest : List KeyRow) (values : List Row) → rest ≡ [] → KeptBefore entries rest values → (rows : List TableRow) → AreTyped schema rows → entries ≡ map (key_row schema) rows → kept_rows rows ≡ Some values
  kept_end entries rest values end so rows typed whole = left_end rest values rows end (so rows typed whole)

  pub enough_end : (r : Reduction) (entries rest : List KeyRow) (values : List Row) → rest ≡ [] → EnoughBefore r entries rest values
      → (rows : List TableRow) → AreTyped schema rows → entries ≡ map (key_row schema) rows → HasEnough r (Some values) (kept_rows rows)
  enough_end r entries rest values end so rows typed whole =
      let before = so rows typed whole in
      (before.all, left_end rest before.all rows end before.left, before.enough)

-- ---- the leaf

-- the masks of a leaf of one table have its columns
reads_long : (schema : List Table) (leaf : Leaf) (n : ℕ) → IsMaskable schema leaf → leaf.tables ≡ n ∷ [] → leaf.joins ≡ [] → length leaf.reads ≡ width_of schema n
reads_long schema leaf n is tables joins =
    let named : is.first ∷ is.rest ≡ n ∷ [] = sym is.tables ∙ tables in
    let same : is.first ≡ n = cc in
    let none : leaf_widths leaf.joins ≡ 0 = ap leaf_widths joins in
    let long : length leaf.reads ≡ width_of schema is.first = is.reads_len ∙ omega arith in
    long ∙ ap (width_of schema) same

pub kept_whole : (schema : List Table) (leaf : Leaf) (n : ℕ) → IsMaskable schema leaf → leaf.tables ≡ n ∷ [] → leaf.joins ≡ [] → take (width_of schema n) leaf.kept ≡ leaf.kept
kept_whole schema leaf n is tables joins =
    let long : length leaf.kept ≡ width_of schema n = part_length leaf.kept leaf.reads is.part ∙ reads_long schema leaf n is tables joins in
    take_all (width_of schema n) leaf.kept (omega arith)

-- what is read of its columns has those that its condition reads
pub reads_whole : (schema : List Table) (leaf : Leaf) (n : ℕ) (e : Expr) → IsMaskable schema leaf → leaf.tables ≡ n ∷ [] → leaf.joins ≡ [] → leaf.filter ≡ Some e → IsMaskOf (width_of schema n) e leaf.reads
reads_whole schema leaf n e is tables joins filter = record {
  long = reads_long schema leaf n is tables joins;
  reads =
      let test : ℕ → Bool = has_place leaf.reads in
      let own = and_parts (list_all (leaf_on_reads test) leaf.joins) (condition_reads test leaf.filter) is.own in
      ap (condition_reads test) (sym filter) ∙ own.1;
}

-- a leaf of one table
leaf_kept : (schema : List Table) (leaf : Leaf) (n : ℕ) → leaf.tables ≡ n ∷ [] → leaf.joins ≡ [] → (rows : List TableRow) → kept_given schema leaf rows ≡ kept_rows schema n leaf.kept leaf.filter rows
leaf_kept schema leaf n tables joins rows =
    let W : List Row = whole_table schema rows n in
    ap (λ (ts : List ℕ). pick_rows leaf.kept (leaf_rows leaf (map (whole_table schema rows) ts))) tables
    ∙ ap (λ (js : List LeafJoin). pick_rows leaf.kept (join_tables js [] W >>= filter_where leaf.filter)) joins

module _ (schema : List Table) (leaf : Leaf) (n : ℕ) (tables : leaf.tables ≡ n ∷ []) (joins : leaf.joins ≡ []) where
  -- what is kept of some entries, where none of them is left
  pub found_given : (entries rest : List KeyRow) (values : List Row) → rest ≡ [] → KeptBefore schema n leaf.kept leaf.filter entries rest values → IsKeptOn schema leaf entries (Ok values)
  found_given entries rest values end so = record {
    of = λ rows typed is. leaf_kept schema leaf n tables joins rows ∙ kept_end schema n leaf.kept leaf.filter entries rest values end so rows typed is;
  }

  -- some entries more, of which the leaf keeps these
  pub part_more : (entries rest later xs : List KeyRow) (old new : List Row) → rest ≡ xs ++ later → KeptBefore schema n leaf.kept leaf.filter entries rest old → IsKeptOn schema leaf xs (Ok new)
      → KeptBefore schema n leaf.kept leaf.filter entries later (old ++ new)
  part_more entries rest later xs old new is so part = kept_part schema n leaf.kept leaf.filter entries rest later xs old new is so (record {
    of = λ rows typed are. sym (leaf_kept schema leaf n tables joins rows) ∙ part.of rows typed are;
  })

module _ (schema : List Table) (leaf : Leaf) (n most : ℕ) (tables : leaf.tables ≡ n ∷ []) (joins : leaf.joins ≡ []) (longest : IsLongest schema n most) (entries : List KeyRow) where
  abbrev short : List KeyRow
  short = filter (has_short_key most) entries

  have_short : HaveShortKeys schema leaf.tables entries short
  have_short = record { most = most; longest = subst (λ (ts : List ℕ). AreLongest schema ts most) (sym tables) (longest, tt {0}); are = refl }

  pub scan_given : (rest : List KeyRow) (values : List Row) → rest ≡ [] → KeptBefore schema n leaf.kept leaf.filter (filter (has_short_key most) entries) rest values → IsKeptOn schema leaf entries (Ok values)
  scan_given rest values end so = given_on_all schema leaf entries short (Ok values) have_short (found_given schema leaf n tables joins short rest values end so)

  abbrev SoFar : Reduction → List KeyRow → List Row → Type 0
  SoFar r rest values = EnoughBefore schema n leaf.kept leaf.filter r (filter (has_short_key most) entries) rest values

  pub scan_enough : (r : Reduction) (rest : List KeyRow) (values : List Row) → rest ≡ [] → SoFar r rest values → IsEnoughOn schema leaf r entries (Ok values)
  scan_enough r rest values end so = holds_on_all schema leaf entries short (GivesEnough r (Ok values)) have_short (record {
    of = λ rows typed is. subst (HasEnough r (Some values)) (sym (leaf_kept schema leaf n tables joins rows)) (enough_end schema n leaf.kept leaf.filter r short rest values end so rows typed is);
  })

  pub scan_fails : (r : Reduction) (rest later : List KeyRow) (x : KeyRow) (front old new : List Row) (why : Failure) → rest ≡ x ∷ later → SoFar r rest (front ++ old)
      → IsTaken schema n leaf.kept leaf.filter x.key x.row (Err why) old new → IsEnoughOn schema leaf r entries (Err why)
  scan_fails r rest later x front old new why is so taken = holds_on_all schema leaf entries short (GivesEnough r (Err why)) have_short (record {
    of = λ rows typed whole.
        subst (GivesEnough r (Err why)) (sym (leaf_kept schema leaf n tables joins rows))
        (gives_fault r why (kept_rows schema n leaf.kept leaf.filter rows) (enough_fails schema n leaf.kept leaf.filter r short rest later x front old new is so why taken rows typed whole));
  })

  pub scan_refused : {A : Type 0} (r : Reduction) (rest later : List KeyRow) (x : KeyRow) (front old : List Row) → rest ≡ x ∷ later → SoFar r rest (front ++ old)
      → A ⊎ IsNoTableRow schema x.key x.row → A ⊎ AreNoRows schema entries
  scan_refused r rest later x front old is so (inl why) = inl why
  scan_refused r rest later x front old is so (inr none) = refused_of_all schema leaf.tables entries short have_short (inr (not_rows_left schema n leaf.kept leaf.filter r short rest later x front old old is so none))

-- ---- where all rows are there

-- they are enough
pub given_enough : (schema : List Table) (leaf : Leaf) (r : Reduction) (entries : List KeyRow) (found : Result (List Row) Failure) → IsKeptOn schema leaf entries found → IsEnoughOn schema leaf r entries found
given_enough schema leaf r entries found kept = record { of = λ rows typed is. gives_all r found (kept_given schema leaf rows) (kept.of rows typed is) }

pub found_enough : (schema : List Table) (leaf : Leaf) (r : Reduction) (entries : List KeyRow) (found : Result (Result (List Row) Failure) Refusal)
    → IfOk found (λ rows. IsKeptOn schema leaf entries rows) → IfOk found (λ rows. IsEnoughOn schema leaf r entries rows)
found_enough schema leaf r entries (Ok rows) kept = given_enough schema leaf r entries rows kept
found_enough schema leaf r entries (Err why) kept = tt
