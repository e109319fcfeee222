use Rattle.std.proofs.Common.{◌≡◌, ℕ, List, [], ◌∷◌, ◌++◌, map, Ok, refl, ap, sym, ◌∙◌, subst, append_assoc}
use Rattle.std.proofs.lemmas.List.{append-nil}
use Rattle.span_query.specs.Rows as rows
use Rattle.span_mutate.specs.declared.row.TableRow.{TableRow}
use Rattle.span_machine.specs.declared.step.Step.{Step}
use Rattle.span_machine.specs.declared.step.Step.TheVariants.{Finish}
use Rattle.span_machine.specs.declared.step.Reply.{Reply}
use Rattle.span_machine.specs.declared.step.Reply.TheVariants.{Rows, Refused}
use Rattle.span_machine.specs.declared.transaction.Commit.{Commit}
use Rattle.span_machine.specs.Tables.{tables, upto, mutations_of}
use Rattle.span_machine.specs.Commits.{BegunTransaction, begun_by, committed_by, commits_after, commits_of, OpenedQuery, opened_by}
use Rattle.span_machine.specs.Run.{Run, AreOfSchema, CanPlan, IsMeant, IsRight, AreRight, IsHistory}
use Rattle.span_machine.specs.Meaning.{declared_row, rows_within, tables_within, leaf_within, plan_means, means}
use Rattle.span_machine.specs.Machine.{Machine, Understanding, start, statement_plan}
use Rattle.std.specs.List.{AllByRecursion}
use Rattle.span_value.specs.declared.value.Value.{Value}
use Rattle.span_keycode.specs.declared.range.KeyRange.{KeyRange}
use Rattle.span_mutate.proofs.TypedRows.{typed_stay}
use Rattle.span_query.specs.declared.query.Statement.{Statement}
use Rattle.span_query.specs.Meaning.{meaning_over, given}
use Rattle.span_columns.specs.declared.leaf.Leaf.{Leaf}
use Rattle.span_columns.specs.declared.leaf.Plan.{Plan}
use Rattle.span_planner.specs.Plannable.{IsPlannable}
use Rattle.span_columns.specs.Picks.{pick_rows}
use Rattle.span_leaves.specs.Results.{leaf_rows}
use Rattle.span_planner.proofs.Ranged.{IsRanged, leaves_ranged}
use Rattle.span_machine_laws.proofs.Locality.{apply-database, empty_database}
use Rattle.span_machine_laws.proofs.PlanLaws.{planned_meaning}
use Rattle.span_machine_laws.proofs.Pieces.{AreEnds, ranged_ends}
use Rattle.span_machine_laws.proofs.RangeRows.{rows_alike_within}
use Rattle.span_machine_laws.proofs.Schemas.{keyed_upto, typed_upto}
use Rattle.span_machine_laws.proofs.Reached.{IsReached, reached_tables, step_reached, run_reached, start_reached}
use Rattle.span_machine_laws.proofs.Sound.{IsPartSealed, run_keeps}
use Rattle.span_machine_laws.proofs.Known.{IsKnown, IsLeafSealed, IsMeantNow, IsRightNow, step_tells, start_known}
use Rattle.span_schema.specs.declared.table.Table.{Table}
use Rattle.span_schema.specs.Lineages.{MeetsRules}

module _ (understands : Understanding) (schema : List Table) (rules : MeetsRules schema) (plans : CanPlan understands schema) where
  -- the log grows by just what the replies commit
  pub run_log : (begun : List BegunTransaction) (asked : List OpenedQuery) (m : Machine) (steps : List Step) (replies : List Reply) (last : Machine) → Run understands schema m steps replies last → AreOfSchema schema steps → IsReached schema m → IsKnown understands begun asked m
      → last.log ≡ m.log ++ commits_after begun steps replies
  run_log begun asked m [] [] last run of reached known = ap (λ (n : Machine). n.log) run ∙ sym (append-nil m.log)
  run_log begun asked m [] (r ∷ rs) last run of reached known = absurd run
  run_log begun asked m (x ∷ xs) [] last run of reached known = absurd run
  run_log begun asked m (x ∷ xs) (r ∷ rs) last run of reached known =
      let one = step_tells understands schema begun asked m x r run.0 run.1 reached.sound reached.leaves known (λ s. reached_tables schema rules m s reached) in
      run_log (begun_by x r ++ begun) (opened_by x r ++ asked) run.0 xs rs last run.2 of.1 (step_reached schema rules understands m x r run.0 run.1 of.0 reached) one.known
      ∙ ap (λ l. l ++ commits_after (begun_by x r ++ begun) xs rs) one.log
      ∙ append_assoc {A = Commit} m.log (committed_by begun x r) (commits_after (begun_by x r ++ begun) xs rs)

  -- the rows of tables in a range that is sealed are the same by all that the run commits
  tables_at_end : (m : Machine) (steps : List Step) (replies : List Reply) (last : Machine) (s : ℕ) → Run understands schema m steps replies last → IsReached schema m → IsReached schema last
      → (range : KeyRange) → IsPartSealed schema m s range → AreEnds schema range → (a b : List TableRow) → tables schema m.log s ≡ Ok a → tables schema last.log s ≡ Ok b → (ns : List ℕ) → tables_within schema a ns range ≡ tables_within schema b ns range
  tables_at_end m steps replies last s run reached reached_last range sealed ends a b e f [] = refl
  tables_at_end m steps replies last s run reached reached_last range sealed ends a b e f (n ∷ ns) =
      let typed_a = typed_stay schema [] (mutations_of (upto m.log s)) a tt (typed_upto schema m.log s reached.by_schema.log) e in
      let typed_b = typed_stay schema [] (mutations_of (upto last.log s)) b tt (typed_upto schema last.log s reached_last.by_schema.log) f in
      ap (λ (rs : List TableRow). map (declared_row schema) rs ∷ tables_within schema a ns range)
      (rows_alike_within schema rules range ends n (mutations_of (upto m.log s)) (mutations_of (upto last.log s)) a b (keyed_upto schema m.log s reached.by_schema.log) (keyed_upto schema last.log s reached_last.by_schema.log) typed_a typed_b e f
      (λ root is within. run_keeps understands schema root is s m steps replies last run reached.holding (sealed root is within)))
      ∙ ap (λ (l : List (List (List Value))). rows_within schema b n range ∷ l) (tables_at_end m steps replies last s run reached reached_last range sealed ends a b e f ns)

  -- and so is what leaves give on their ranges
  leaves_at_end : (m : Machine) (steps : List Step) (replies : List Reply) (last : Machine) (s : ℕ) → Run understands schema m steps replies last → IsReached schema m → IsReached schema last
      → (a b : List TableRow) → tables schema m.log s ≡ Ok a → tables schema last.log s ≡ Ok b → (leaves : List Leaf) → AllByRecursion (IsRanged schema) leaves → AllByRecursion (IsLeafSealed schema m s) leaves
      → map (λ (l : Leaf). leaf_within schema a l l.range) leaves ≡ map (λ (l : Leaf). leaf_within schema b l l.range) leaves
  leaves_at_end m steps replies last s run reached reached_last a b e f [] ranged sealed = refl
  leaves_at_end m steps replies last s run reached reached_last a b e f (l ∷ ls) ranged sealed =
      ap (λ (ts : List (List (List Value))). pick_rows l.kept (leaf_rows l ts) ∷ map (λ (k : Leaf). leaf_within schema a k k.range) ls)
      (tables_at_end m steps replies last s run reached reached_last l.range sealed.0 (ranged_ends schema l ranged.0) a b e f l.tables)
      ∙ ap (λ (os : List rows.Rows). leaf_within schema b l l.range ∷ os) (leaves_at_end m steps replies last s run reached reached_last a b e f ls ranged.1 sealed.1)

  -- the tables of a reached machine's log are a database of typed rows
  plan_at : (m : Machine) (s : ℕ) → IsReached schema m → (db : List TableRow) → tables schema m.log s ≡ Ok db → (q : Statement) → IsPlannable schema q → plan_means schema (statement_plan schema q) db ≡ means schema q.query q.leaves db
  plan_at m s reached db made q plannable =
      planned_meaning schema rules q plannable db
      (apply-database schema rules (mutations_of (upto m.log s)) [] db (empty_database schema) (keyed_upto schema m.log s reached.by_schema.log) made)
      (typed_stay schema [] (mutations_of (upto m.log s)) db tt (typed_upto schema m.log s reached.by_schema.log) made)

  -- what is meant by the log so far, where the ranges of the leaves are sealed, is meant by all that the run commits
  meant_at_end : (asked : List OpenedQuery) (m : Machine) (steps : List Step) (replies : List Reply) (last : Machine) (query s : ℕ) (meant : rows.Rows) → Run understands schema m steps replies last
      → IsReached schema m → IsReached schema last → IsMeantNow understands schema m asked query s meant → IsMeant understands schema last.log asked query s meant
  meant_at_end asked m steps replies last query s meant run reached reached_last is =
      let now = is.now in
      let there = reached_tables schema rules last s reached_last in
      let plan : Plan = statement_plan schema now.statement in
      let plannable : IsPlannable schema now.statement = plans now.question.text now.question.params now.statement now.understood in
      let same : plan_means schema plan now.db ≡ plan_means schema plan there.0 =
      ap (λ (os : List rows.Rows). meaning_over (given os) plan.top)
      (leaves_at_end m steps replies last s run reached reached_last now.db there.0 now.made there.1 plan.leaves (leaves_ranged schema now.statement.leaves now.statement.query) is.stays) in
      record {
        question = now.question;
        opened = now.opened;
        at = now.at;
        statement = now.statement;
        understood = now.understood;
        db = there.0;
        made = there.1;
        is = now.is ∙ sym (plan_at m s reached now.db now.made now.statement plannable) ∙ same ∙ plan_at last s reached_last there.0 there.1 now.statement plannable;
      }

  -- an answer that is right now is right by all that the run commits
  right_at_end : (asked : List OpenedQuery) (m : Machine) (steps : List Step) (replies : List Reply) (last : Machine) (x : Step) (r : Reply) → Run understands schema m steps replies last
      → IsReached schema m → IsReached schema last → IsRightNow understands schema m asked x r → IsRight understands schema last.log asked x r
  right_at_end asked m steps replies last (Finish query) (Rows s found) run reached reached_last right = meant_at_end asked m steps replies last query s _ run reached reached_last right
  right_at_end asked m steps replies last (Finish query) (Refused why) run reached reached_last right = λ e. let fault = right e in (fault.0, meant_at_end asked m steps replies last query fault.0 _ run reached reached_last fault.1)
  right_at_end asked m steps replies last _ _ run reached reached_last right = tt

  -- every answer of a run is right by all that it commits
  pub run_right : (begun : List BegunTransaction) (asked : List OpenedQuery) (m : Machine) (steps : List Step) (replies : List Reply) (last : Machine) → Run understands schema m steps replies last → AreOfSchema schema steps
      → IsReached schema m → IsKnown understands begun asked m → AreRight understands schema last.log asked steps replies
  run_right begun asked m [] [] last run of reached known = tt
  run_right begun asked m [] (r ∷ rs) last run of reached known = absurd run
  run_right begun asked m (x ∷ xs) [] last run of reached known = absurd run
  run_right begun asked m (x ∷ xs) (r ∷ rs) last run of reached known =
      let one = step_tells understands schema begun asked m x r run.0 run.1 reached.sound reached.leaves known (λ s. reached_tables schema rules m s reached) in (
        right_at_end asked m (x ∷ xs) (r ∷ rs) last x r run reached (run_reached schema rules understands m (x ∷ xs) (r ∷ rs) last run of reached) one.right,
        run_right (begun_by x r ++ begun) (opened_by x r ++ asked) run.0 xs rs last run.2 of.1 (step_reached schema rules understands m x r run.0 run.1 of.0 reached) one.known,
      )

-- the headline
pub run_history : (understands : Understanding) (schema : List Table) → MeetsRules schema → CanPlan understands schema → (steps : List Step) (replies : List Reply) (last : Machine) → AreOfSchema schema steps → Run understands schema start steps replies last → IsHistory understands schema steps replies
run_history understands schema rules plans steps replies last of run =
    let log : last.log ≡ commits_of steps replies = run_log understands schema rules plans [] [] start steps replies last run of (start_reached schema) (start_known understands) in
    record {
      last = last;
      run = run;
      log = log;
      applies = λ s. subst (λ l. (db : List TableRow) × (tables schema l s ≡ Ok db)) log (reached_tables schema rules last s (run_reached schema rules understands start steps replies last run of (start_reached schema)));
      right = subst (λ l. AreRight understands schema l [] steps replies) log (run_right understands schema rules plans [] [] start steps replies last run of (start_reached schema) (start_known understands));
    }
