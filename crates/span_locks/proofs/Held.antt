-- What lies under the journal's lock stays so.
use Rattle.std.proofs.Common.{◌≡◌, ℕ, zero, suc, ◌<◌, ◌==◌, Some, None, Ok, Err, Option, Result, List, [], ◌∷◌, ◌++◌, length, refl, sym, ap, ◌∙◌, subst, arith}
use Rattle.std.specs.Prelude.{IfOk, find, map, option_map, slice_get, slice_index_or, slice_set}
use Rattle.std.specs.List.{AllByRecursion}
use Rattle.std.proofs.lemmas.List.{length-set}
use Rattle.atomic_table.specs.Seated.{TableId}
use Rattle.std.proofs.lemmas.Bool.{eqb-true, and_parts}
use Rattle.std.proofs.lemmas.Option.{slice_get-map, same_Some}
use Rattle.span_value.specs.declared.refusal.Refusal.{Refusal}
use Rattle.span_value.proofs.Lists.{all_found_at}
use Rattle.span_value.proofs.Results.{ok_same}
use Rattle.span_schema.specs.declared.table.Table.{Table}
use Rattle.span_schema.specs.Lineages.{MeetsRules}
use Rattle.span_schema.specs.Numbers.{IsTable}
use Rattle.span_mutate.specs.declared.mutation.CheckedMutation.{CheckedMutation}
use Rattle.span_keycode.specs.declared.range.KeyRange.{KeyRange}
use Rattle.span_params.specs.declared.params.Parameter.{Parameter}
use Rattle.span_query.specs.declared.query.BoundQuery.{BoundQuery}
use Rattle.span_query.specs.declared.query.Statement.{Statement}
use Rattle.span_query.specs.Rows.{Row}
use Rattle.span_columns.specs.declared.leaf.Leaf.{Leaf}
use Rattle.span_columns.specs.declared.leaf.Plan.{Plan}
use Rattle.span_leaves.specs.Maskable.{IsMaskable}
use Rattle.span_fragment.specs.declared.piece.Piece.{Piece}
use Rattle.span_gather.specs.declared.rows.Rows.{Rows as Found}
use Rattle.span_planner.proofs.MaskableLeaves.{leaves_maskable}
use Rattle.span_planner.proofs.Tabled.{leaves_tabled}
use Rattle.span_entries.proofs.KeyPlaces.{keyed}
use Rattle.span_shard.specs.KeyVersions.{KeyVersions}
use Rattle.span_binder.specs.Understands.{Understands}
use Rattle.span_gather.specs.Gathered.{gathered}
use Rattle.span_machine.specs.declared.query.OpenQuery.{OpenQuery}
use Rattle.span_machine.specs.declared.query.ScanLeaf.{ScanLeaf}
use Rattle.span_machine.specs.declared.transaction.Commit.{Commit}
use Rattle.span_machine.specs.declared.transaction.OpenTransaction.{OpenTransaction}
use Rattle.span_machine.specs.Machine.{Machine, start, if_some, is_query, is_transaction, commit_of, statement_plan}
use Rattle.span_machine.specs.Pieces.{Pieced, Journaled, machine_of, queries_of}
use Rattle.span_machine_laws.proofs.Lists.{all_found, found_passes}
use Rattle.span_version_laws.specs.Kept.{IsPieced}
use Rattle.span_openqueries.specs.declared.taken.Taken.{Taken}
use Rattle.span_journal.specs.Judged.{leaf_of}
use Rattle.span_parts.specs.Asked.{AreAsked, IsQuestionOf}
use Rattle.span_parts.specs.Whole.{Shards, IsWhole, BelongsAt, GoesWith, GoesAt, StaysAt, IsCutAt, IsCommitted, IsRead, IsReadFor, AreMeant, IsFaulty}
use Rattle.span_parts.proofs.Passing.{IsPassed}
use Rattle.span_parts.proofs.Scanning.{piece_of}
use Rattle.span_parts.proofs.Wholes.{start_whole}
use Rattle.span_board.specs.declared.begun.Begun.{Begun}
use Rattle.span_board.specs.declared.board.Role.{Role}
use Rattle.span_board.specs.declared.board.Role.TheVariants.{Keeper}
use Rattle.span_board.specs.Known.{kept, grown, restated}
use Rattle.span_board.specs.Rule.{known_at, nothing_known}
use Rattle.span_locks.specs.Answers.{IsAnswered, IsPlanOf, IsLeafOf}
use Rattle.span_locks.specs.Refusing.{IsFault}
use Rattle.span_locks.specs.Held.{IsUnderstoodAs, IsKeeper}

-- ---- lists

-- what is at a place within a list is there in a longer one
there_front : {A : Type 0} (xs ys : List A) (i : ℕ) (d : A) → i < length xs → slice_get xs i ≡ Some (slice_index_or (xs ++ ys) i d)
there_front [] ys i d within = absurd (omega (arith, within))
there_front (x ∷ xs) ys zero d within = refl
there_front (x ∷ xs) ys (suc i) d within = there_front xs ys i d (omega (arith, within))

set_front : {A : Type 0} (xs ys : List A) (i : ℕ) (y : A) → i < length xs → slice_set (xs ++ ys) i y ≡ slice_set xs i y ++ ys
set_front [] ys i y within = absurd (omega (arith, within))
set_front (x ∷ xs) ys zero y within = refl
set_front (x ∷ xs) ys (suc i) y within = ap (λ l. x ∷ l) (set_front xs ys i y (omega (arith, within)))

-- what is set right after the items of a list takes the place of the first item there
abbrev pub rest_of : {A : Type 0} → List A → List A
rest_of [] = []
rest_of (x ∷ xs) = xs

set_end : {A : Type 0} (xs ys : List A) (n : ℕ) (y : A) → n ≡ length xs → n < length (xs ++ ys) → slice_set (xs ++ ys) n y ≡ (xs ++ y ∷ []) ++ rest_of ys
set_end [] [] n y e lt = absurd (omega (arith, lt))
set_end [] (z ∷ ys) zero y e lt = refl
set_end [] (z ∷ ys) (suc n) y e lt = absurd (omega (arith, e))
set_end (x ∷ xs) ys zero y e lt = absurd (omega (arith, e))
set_end (x ∷ xs) ys (suc n) y e lt = ap (λ l. x ∷ l) (set_end xs ys n y (omega (arith, e)) (omega (arith, lt)))

-- ---- the keeper

module _ (schema other : List Table) (table here : TableId) (views : List (List Role)) (j : Journaled) (same : other ≡ schema) (keeper : IsKeeper schema table here views j) where
  whole_of : IsWhole other j keeper.used
  whole_of = subst (λ (s : List Table). IsWhole s j keeper.used) (sym same) keeper.whole

  -- a step of the journal alone, which leaves the log
  pub keeper_goes : (k : Journaled) → IsPassed (IsUnderstoodAs schema) (machine_of j) (machine_of k) → GoesWith other j k → IsKeeper schema table here views k
  keeper_goes k passed goes = record {
    at = keeper.at;
    knows = keeper.knows;
    log = keeper.log ∙ sym passed.log;
    used = keeper.used;
    spare = keeper.spare;
    slots = keeper.slots;
    whole = subst (λ (s : List Table). IsWhole s k keeper.used) same (goes keeper.used whole_of);
    asked = passed.asked;
  }

  -- the same seat again, after a look
  pub keeper_still : (there : TableId) (looked : List (List Role)) → there ≡ table → looked ≡ views → IsKeeper schema table there looked j
  keeper_still there looked at is = subst (λ (v : List (List Role)). IsKeeper schema table there v j) (sym is)
      (record { at = at; knows = keeper.knows; log = keeper.log; used = keeper.used; spare = keeper.spare; slots = keeper.slots; whole = keeper.whole; asked = keeper.asked })

  -- the log has grown by a commit
  pub keeper_grown : (there : TableId) (after : List (List Role)) (k : Journaled) (c : Commit) → there ≡ table → after ≡ (Keeper (grown (known_at views) c) ∷ []) ∷ []
      → k.log ≡ j.log ++ c ∷ [] → (machine_of k).queries ≡ (machine_of j).queries → GoesWith other j k → IsKeeper schema table there after k
  keeper_grown there after k c at is log queries goes = subst (λ (v : List (List Role)). IsKeeper schema table there v k) (sym is)
      (record {
        at = at;
        knows = refl;
        log = ap (λ (l : List Commit). l ++ c ∷ []) keeper.log ∙ sym log;
        used = keeper.used;
        spare = keeper.spare;
        slots = keeper.slots;
        whole = subst (λ (s : List Table). IsWhole s k keeper.used) same (goes keeper.used whole_of);
        asked = subst (AreAsked (IsUnderstoodAs schema)) (sym queries) keeper.asked;
      })

  -- ---- one slot

  module _ (i : ℕ) (vs : List KeyVersions) (within : i < length j.slots) (is : vs ≡ kept (known_at views) i) where
    low : i < length keeper.used
    low = subst (λ (n : ℕ). i < n) (sym keeper.whole.kept.count) within

    -- the slot is in use, and has what it is to have
    slot_there : slice_get keeper.used i ≡ Some vs
    slot_there =
        there_front keeper.used keeper.spare i [] low
        ∙ ap (λ (l : Shards). Some (slice_index_or l i [])) (sym keeper.slots)
        ∙ ap (λ (cs : List KeyVersions). Some cs) (sym is)

    pub slot_belongs : BelongsAt other j i vs
    slot_belongs = (keeper.used, whole_of, slot_there)

    -- the slot has changed, and the journal with it
    pub keeper_restated : (there : TableId) (after : List (List Role)) (k : Journaled) (ws : List KeyVersions) → there ≡ table → after ≡ (Keeper (restated (known_at views) i ws) ∷ []) ∷ []
        → IsPassed (IsUnderstoodAs schema) (machine_of j) (machine_of k) → GoesAt other i j k vs ws → IsKeeper schema table there after k
    keeper_restated there after k ws at restated_is passed goes = subst (λ (v : List (List Role)). IsKeeper schema table there v k) (sym restated_is)
        (record {
          at = at;
          knows = refl;
          log = keeper.log ∙ sym passed.log;
          used = slice_set keeper.used i ws;
          spare = keeper.spare;
          slots = ap (λ (l : Shards). slice_set l i ws) keeper.slots ∙ set_front keeper.used keeper.spare i ws low;
          whole = subst (λ (s : List Table). IsWhole s k (slice_set keeper.used i ws)) same (goes keeper.used whole_of slot_there);
          asked = passed.asked;
        })

    -- the slot was cut in two: it has changed, and the first of the spare slots is in use with the rest
    pub keeper_cut : (there : TableId) (after : List (List Role)) (k : Journaled) (ws part : List KeyVersions) (n : ℕ) → there ≡ table
        → after ≡ (Keeper (restated (restated (known_at views) i ws) n part) ∷ []) ∷ [] → n ≡ length j.slots → n < length (restated (known_at views) i ws).slots
        → IsCutAt other i j k vs ws part → IsKeeper schema table there after k
    keeper_cut there after k ws part n at cut_is last enough cut =
        let changed : Shards = slice_set keeper.used i ws in
        let front : slice_set (known_at views).slots i ws ≡ changed ++ keeper.spare = ap (λ (l : Shards). slice_set l i ws) keeper.slots ∙ set_front keeper.used keeper.spare i ws low in
        let number : n ≡ length changed = last ∙ sym keeper.whole.kept.count ∙ sym (length-set keeper.used i ws) in
        let within_all : n < length (changed ++ keeper.spare) = subst (λ (l : Shards). n < length l) front enough in
        subst (λ (v : List (List Role)). IsKeeper schema table there v k) (sym cut_is)
        (record {
          at = at;
          knows = refl;
          log = keeper.log ∙ sym cut.log;
          used = changed ++ part ∷ [];
          spare = rest_of keeper.spare;
          slots = ap (λ (l : Shards). slice_set l n part) front ∙ set_end changed keeper.spare n part number within_all;
          whole = subst (λ (s : List Table). IsWhole s k (changed ++ part ∷ [])) same (cut.whole keeper.used whole_of slot_there);
          asked = subst (AreAsked (IsUnderstoodAs schema)) (sym cut.queries) keeper.asked;
        })

    -- a step of the journal that goes with what the slot has
    pub keeper_stays : (there : TableId) (after : List (List Role)) (k : Journaled) → there ≡ table → after ≡ views
        → IsPassed (IsUnderstoodAs schema) (machine_of j) (machine_of k) → StaysAt other i j k vs → IsKeeper schema table there after k
    keeper_stays there after k at same_views passed stays = subst (λ (v : List (List Role)). IsKeeper schema table there v k) (sym same_views)
        (record {
          at = at;
          knows = keeper.knows;
          log = keeper.log ∙ sym passed.log;
          used = keeper.used;
          spare = keeper.spare;
          slots = keeper.slots;
          whole = subst (λ (s : List Table). IsWhole s k keeper.used) same (stays keeper.used whole_of slot_there);
          asked = passed.asked;
        })

  -- ---- queries

  -- where an open query was asked with this query text and these parameters, its leaves, and the query above them, are those of the plan of
  -- what they are understood as
  own_leaf : (text : List ℕ) (params : List Parameter) (query place : ℕ) (leaf : Leaf) (top : BoundQuery)
      → (asked : (q : OpenQuery) × (find (is_query query) (machine_of j).queries ≡ Some q) × (q.text ≡ text) × (q.params ≡ params)) → IsLeafOf schema text params place leaf top
      → ((t : List ℕ) (ps : List Parameter) (u v : Result Statement Refusal) → Understands schema t ps u → Understands schema t ps v → u ≡ v)
      → (leaf_of (machine_of j) query place ≡ Some leaf) × (asked.0.top ≡ top)
  own_leaf text params query place leaf top asked own unique =
      let q = asked.0 in
      let p = piece_of j.queries query q asked.1 in
      let is : IsPieced schema j.log p.0 = all_found (IsPieced schema j.log) (λ (x : Pieced). is_query query x.query) j.queries p.0 p.1 keeper.whole.pieced in
      let understood : Understands schema q.text q.params (Ok q.statement) = all_found (λ (x : OpenQuery). IsUnderstoodAs schema x.text x.params x.statement) (is_query query) (machine_of j).queries q asked.1 keeper.asked in
      let understood_here : Understands schema text params (Ok q.statement) = subst (λ (t : List ℕ). Understands schema t params (Ok q.statement)) asked.2 (subst (λ (ps : List Parameter). Understands schema q.text ps (Ok q.statement)) asked.3 understood) in
      let statement : q.statement ≡ own.statement = ok_same (Ok own.statement) q.statement own.statement (sym (unique text params (Ok q.statement) (Ok own.statement) understood_here own.understood)) refl in
      let planned : map (λ (l : ScanLeaf). l.leaf) q.leaves ≡ (statement_plan schema own.statement).leaves =
      subst (λ (x : OpenQuery). map (λ (l : ScanLeaf). l.leaf) x.leaves ≡ (statement_plan schema x.statement).leaves) p.2 is.of_plan
      ∙ ap (λ (st : Statement). (statement_plan schema st).leaves) statement in
      let above : q.top ≡ (statement_plan schema own.statement).top =
      subst (λ (x : OpenQuery). x.top ≡ (statement_plan schema x.statement).top) p.2 is.top
      ∙ ap (λ (st : Statement). (statement_plan schema st).top) statement in
      let there : leaf_of (machine_of j) query place ≡ Some leaf =
      ap (λ (o : Option OpenQuery). if_some o None (λ (x : OpenQuery). option_map (λ (l : ScanLeaf). l.leaf) (slice_get x.leaves place))) asked.1
      ∙ sym (slice_get-map (λ (l : ScanLeaf). l.leaf) q.leaves place)
      ∙ ap (λ (ls : List Leaf). slice_get ls place) planned
      ∙ own.there in
      (there, above ∙ sym own.below)

  -- what is read of a leaf of the plan of a query text is read for the open query that was asked with it
  pub own_read : (text : List ℕ) (params : List Parameter) (query place : ℕ) (leaf : Leaf) (top : BoundQuery)
      → ((q : OpenQuery) × (find (is_query query) (machine_of j).queries ≡ Some q) × (q.text ≡ text) × (q.params ≡ params)) → IsLeafOf schema text params place leaf top
      → ((t : List ℕ) (ps : List Parameter) (u v : Result Statement Refusal) → Understands schema t ps u → Understands schema t ps v → u ≡ v)
      → (cs : List KeyVersions) (range : KeyRange) (s : ℕ) (piece : Piece) → IsRead schema cs range s leaf top place piece → IsReadFor schema (machine_of j) query place cs range s piece
  own_read text params query place leaf top asked own unique cs range s piece read = λ question found_leaf found there.
      let is = own_leaf text params query place leaf top asked own unique in
      subst (λ (x : Leaf). IsRead schema cs range s x question.top place piece) (same_Some leaf found_leaf (sym is.0 ∙ there))
      (subst (λ (x : OpenQuery). IsRead schema cs range s leaf x.top place piece) (same_Some asked.0 question (sym asked.1 ∙ found))
      (subst (λ (t : BoundQuery). IsRead schema cs range s leaf t place piece) (sym is.1) read))

  -- what was taken of an open query is what its text is understood as
  taken_understood : (query : ℕ) (taken : Taken) → IsQuestionOf (machine_of j) query taken → Understands schema taken.text taken.params (Ok taken.statement)
  taken_understood query taken asked =
      let q = asked.question in
      let understood : Understands schema q.text q.params (Ok q.statement) = all_found (λ (x : OpenQuery). IsUnderstoodAs schema x.text x.params x.statement) (is_query query) (machine_of j).queries q asked.found keeper.asked in
      subst (λ (t : List ℕ). Understands schema t taken.params (Ok taken.statement)) (sym asked.text)
      (subst (λ (ps : List Parameter). Understands schema q.text ps (Ok taken.statement)) (sym asked.params)
      (subst (λ (st : Statement). Understands schema q.text q.params (Ok st)) (sym asked.statement) understood))

  -- what answers a query, where the query above its leaves gives rows on its pieces
  pub taken_answers : (query : ℕ) (taken : Taken) → IsQuestionOf (machine_of j) query taken
      → ((shards : Shards) → IsWhole other j shards → (rows : List Row) → gathered taken.pieces taken.top ≡ Some rows → AreMeant other j.log taken rows)
      → (rows : List Row) → gathered taken.pieces taken.top ≡ Some rows → IsAnswered schema taken.text taken.params (known_at views).commits taken.s rows
  taken_answers query taken asked meant rows is =
      let are : AreMeant schema (known_at views).commits taken rows = subst (λ (l : List Commit). AreMeant schema l taken rows) (sym keeper.log) (subst (λ (s : List Table). AreMeant s j.log taken rows) same (meant keeper.used whole_of rows is)) in
      record { statement = taken.statement; understood = taken_understood query taken asked; db = are.db; made = are.made; meant = are.are }

  -- where it gives a fault there, that is its meaning
  taken_faults : (query : ℕ) (taken : Taken) → IsQuestionOf (machine_of j) query taken
      → ((shards : Shards) → IsWhole other j shards → gathered taken.pieces taken.top ≡ None → IsFaulty other j.log taken)
      → gathered taken.pieces taken.top ≡ None → IsFault schema taken.text taken.params (known_at views).commits taken.s
  taken_faults query taken asked faulty is =
      let are : IsFaulty schema (known_at views).commits taken = subst (λ (l : List Commit). IsFaulty schema l taken) (sym keeper.log) (subst (λ (s : List Table). IsFaulty s j.log taken) same (faulty keeper.used whole_of is)) in
      record { statement = taken.statement; understood = taken_understood query taken asked; db = are.db; made = are.made; meant = are.is }

  -- the same of a session that has seen the log, where a query was taken
  pub result_answers : (query : ℕ) (seen : List Commit) → seen ≡ (known_at views).commits → (r : Result Taken Refusal) → IfOk r (IsQuestionOf (machine_of j) query)
      → IfOk r (λ taken. (shards : Shards) → IsWhole other j shards → (rows : List Row) → gathered taken.pieces taken.top ≡ Some rows → AreMeant other j.log taken rows)
      → IfOk r (λ taken. (rows : List Row) → gathered taken.pieces taken.top ≡ Some rows → IsAnswered schema taken.text taken.params seen taken.s rows)
  result_answers query seen whole (Ok taken) asked meant = λ rows is. subst (λ (l : List Commit). IsAnswered schema taken.text taken.params l taken.s rows) (sym whole) (taken_answers query taken asked meant rows is)
  result_answers query seen whole (Err why) asked meant = tt

  pub result_faults : (query : ℕ) (seen : List Commit) → seen ≡ (known_at views).commits → (r : Result Taken Refusal) → IfOk r (IsQuestionOf (machine_of j) query)
      → IfOk r (λ taken. (shards : Shards) → IsWhole other j shards → gathered taken.pieces taken.top ≡ None → IsFaulty other j.log taken)
      → IfOk r (λ taken. gathered taken.pieces taken.top ≡ None → IsFault schema taken.text taken.params seen taken.s)
  result_faults query seen whole (Ok taken) asked faulty = λ is. subst (λ (l : List Commit). IsFault schema taken.text taken.params l taken.s) (sym whole) (taken_faults query taken asked faulty is)
  result_faults query seen whole (Err why) asked faulty = tt

-- an empty journal, and sixteen slots that have nothing, of which the first is in use
pub keeper_first : (schema other : List Table) (table here : TableId) (views : List (List Role)) (j : Journaled) → other ≡ schema → MeetsRules other → here ≡ table → views ≡ (Keeper (nothing_known 16) ∷ []) ∷ []
    → machine_of j ≡ start → j.queries ≡ [] → IsKeeper schema table here views j
keeper_first schema other table here views j same rules at is begun none = subst (λ (v : List (List Role)). IsKeeper schema table here v j) (sym is)
    (record {
      at = at;
      knows = refl;
      log = sym (ap (λ (m : Machine). m.log) begun);
      used = [] ∷ [];
      spare = (nothing_known 15).slots;
      slots = refl;
      whole = subst (λ (s : List Table). IsWhole s j ([] ∷ [])) same (start_whole other rules j ([] ∷ []) begun none refl);
      asked = subst (λ (ps : List Pieced). AreAsked (IsUnderstoodAs schema) (queries_of ps)) (sym none) tt;
    })

-- the tables of a leaf of a plan are tables of the schema
pub leaf_tables : (schema : List Table) (text : List ℕ) (params : List Parameter) (place : ℕ) (leaf : Leaf) (top : BoundQuery) → IsLeafOf schema text params place leaf top → AllByRecursion (IsTable schema) leaf.tables
leaf_tables schema text params place leaf top own =
    all_found_at (λ (l : Leaf). AllByRecursion (IsTable schema) l.tables) (statement_plan schema own.statement).leaves place leaf own.there
    (leaves_tabled schema own.statement.leaves own.plannable.tables own.statement.query own.plannable.sized)

-- it is maskable
pub leaf_maskable : (schema : List Table) (text : List ℕ) (params : List Parameter) (place : ℕ) (leaf : Leaf) (top : BoundQuery) → IsLeafOf schema text params place leaf top → IsMaskable schema leaf
leaf_maskable schema text params place leaf top own =
    all_found_at (IsMaskable schema) (statement_plan schema own.statement).leaves place leaf own.there
    (leaves_maskable schema own.statement.leaves (keyed schema) own.statement.query own.plannable.sized)

-- a leaf of the plan of what a query text is understood as
pub plan_leaf : (schema : List Table) (text : List ℕ) (params : List Parameter) (plan : Plan) (place : ℕ) (leaf : Leaf) → IsPlanOf schema text params plan → slice_get plan.leaves place ≡ Some leaf → IsLeafOf schema text params place leaf plan.top
plan_leaf schema text params plan place leaf own there = record {
  statement = own.statement;
  understood = own.understood;
  plannable = own.plannable;
  there = ap (λ (p : Plan). slice_get p.leaves place) (sym own.is) ∙ there;
  below = ap (λ (p : Plan). p.top) own.is;
}

-- rows that are made of what was taken answer the query text that was asked, where it is the one that was taken
pub rows_answer : (schema : List Table) (text : List ℕ) (params : List Parameter) (s : ℕ) (seen : List Commit) (taken : Taken) (r : Result Found Refusal)
    → IfOk r (λ _. (taken.text ≡ text) × (taken.params ≡ params) × (taken.s ≡ s)) → IfOk r (λ rows. gathered taken.pieces taken.top ≡ Some rows.rows)
    → ((rows : List Row) → gathered taken.pieces taken.top ≡ Some rows → IsAnswered schema taken.text taken.params seen taken.s rows) → IfOk r (λ rows. IsAnswered schema text params seen s rows.rows)
rows_answer schema text params s seen taken (Err why) same is meant = tt
rows_answer schema text params s seen taken (Ok rows) same is meant =
    subst (λ (t : List ℕ). IsAnswered schema t params seen s rows.rows) same.0
    (subst (λ (ps : List Parameter). IsAnswered schema taken.text ps seen s rows.rows) same.1
    (subst (λ (i : ℕ). IsAnswered schema taken.text taken.params seen i rows.rows) same.2 (meant rows.rows is)))

-- the commit of a transaction that is as it was begun
pub commit_is : (j : Journaled) (owner number ts : ℕ) (k : Journaled) (ms : List CheckedMutation) → ((t : OpenTransaction) × (find (is_transaction owner number) (machine_of j).transactions ≡ Some t) × (t.mutations ≡ ms)) → IsCommitted (machine_of j) owner number ts (machine_of k)
    → k.log ≡ j.log ++ (record { timestamp = ts; number = number; owner = owner; mutations = ms }) ∷ []
commit_is j owner number ts k ms begun done =
    let t = begun.0 in
    let same : done.transaction ≡ t = same_Some done.transaction t (sym done.found ∙ begun.1) in
    let passes = found_passes (is_transaction owner number) (machine_of j).transactions t begun.1 in
    let by : t.owner ≡ owner = eqb-true t.owner owner (and_parts (t.owner == owner) (t.number == number) passes).0 in
    let named : t.number ≡ number = eqb-true t.number number (and_parts (t.owner == owner) (t.number == number) passes).1 in
    let is : commit_of ts t ≡ record { timestamp = ts; number = number; owner = owner; mutations = ms } = λ i. record { timestamp = ts; number = named i; owner = by i; mutations = begun.2 i } in
    done.log ∙ ap (λ (x : OpenTransaction). j.log ++ commit_of ts x ∷ []) same ∙ ap (λ (c : Commit). j.log ++ c ∷ []) is

-- the same of what a session keeps of it, which the commit takes over
pub kept_commit_is : (j : Journaled) (owner ts : ℕ) (k : Journaled) (b r : Begun) (d : Commit) → b ≡ r
    → ((t : OpenTransaction) × (find (is_transaction owner b.number) (machine_of j).transactions ≡ Some t) × (t.mutations ≡ b.mutations)) → IsCommitted (machine_of j) owner b.number ts (machine_of k)
    → d ≡ record { timestamp = ts; number = r.number; owner = owner; mutations = r.mutations } → k.log ≡ j.log ++ d ∷ []
kept_commit_is j owner ts k b r d same begun done is =
    commit_is j owner b.number ts k b.mutations begun done
    ∙ ap (λ (x : Begun). j.log ++ (record { timestamp = ts; number = x.number; owner = owner; mutations = x.mutations }) ∷ []) same
    ∙ ap (λ (x : Commit). j.log ++ x ∷ []) (sym is)
