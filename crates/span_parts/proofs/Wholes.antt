-- Journals and shards that belong together, before a step and after it.
use Rattle.std.proofs.Common.{◌≡◌, ℕ, List, [], ◌∷◌, ◌++◌, Result, Ok, Err, refl, sym, subst, inl, inr}
use Rattle.std.specs.Prelude.{IfOk, OnOk, OnErr}
use Rattle.span_value.specs.declared.refusal.Refusal.{Refusal}
use Rattle.span_value.specs.declared.refusal.Refusal.TheVariants as refusal
use Rattle.span_schema.specs.declared.table.Table.{Table}
use Rattle.span_schema.specs.Lineages.{MeetsRules}
use Rattle.span_planner.specs.Plannable.{IsPlannable}
use Rattle.span_params.specs.declared.params.Parameter.{Parameter}
use Rattle.span_query.specs.declared.query.Statement.{Statement}
use Rattle.span_machine.specs.declared.step.Step.{Step}
use Rattle.span_machine.specs.declared.step.Reply.{Reply}
use Rattle.span_machine.specs.Run.{IsOfSchema}
use Rattle.span_machine.specs.Machine.{Machine, Answers, answer, start, is_query, without_first}
use Rattle.span_machine.specs.Pieces.{Pieced, Journaled, unread, machine_of}
use Rattle.span_machine_laws.proofs.Reached.{IsReached, start_reached, answer_reached}
use Rattle.span_version_laws.specs.Kept.{AreAllKept, ArePieced}
use Rattle.span_version_laws.proofs.AllKept.{LeavesShards, start_all_kept, all_kept_by_step}
use Rattle.span_version_laws.proofs.Covers.{no_pieces, pieced_push, pieced_without, pieced_by_step}
use Rattle.span_journal.specs.declared.journal.Opened.{Opened}
use Rattle.span_parts.specs.Whole.{Shards, IsWhole, GoesWith}

-- what is understood of a query text where a step has none
abbrev pub no_text : Result Statement Refusal
no_text = Err refusal.Syntax

-- ---- an empty database

pub start_whole : (schema : List Table) → MeetsRules schema → (j : Journaled) (shards : Shards) → machine_of j ≡ start → j.queries ≡ [] → shards ≡ [] ∷ [] → IsWhole schema j shards
start_whole schema rules j shards is none same = record {
  rules = rules;
  reached = subst (IsReached schema) (sym is) (start_reached schema);
  kept = subst (λ (m : Machine). AreAllKept schema m shards) (sym is) (subst (AreAllKept schema start) (sym same) (start_all_kept schema));
  pieced = subst (ArePieced schema (machine_of j)) (sym none) (no_pieces schema (machine_of j));
}

-- ---- steps that leave the shards

module _ (schema : List Table) (j k : Journaled) where
  -- nothing has changed
  pub goes_same : machine_of k ≡ machine_of j → k.queries ≡ j.queries → GoesWith schema j k
  goes_same is queries = λ shards w. record {
    rules = w.rules;
    reached = subst (IsReached schema) (sym is) w.reached;
    kept = subst (λ (m : Machine). AreAllKept schema m shards) (sym is) w.kept;
    pieced = subst (ArePieced schema (machine_of k)) (sym queries) (subst (λ (m : Machine). ArePieced schema m j.queries) (sym is) w.pieced);
  }

  module _ (u : Result Statement Refusal) (s : Step) (of : IsOfSchema schema s) where
    -- the machine after the step, with these shards
    pub goes_to : machine_of k ≡ (answer schema (machine_of j) u s).1 → ((n : Machine) → ArePieced schema n j.queries → ArePieced schema n k.queries) → (shards after : Shards) → IsWhole schema j shards
        → AreAllKept schema (answer schema (machine_of j) u s).1 after → IsWhole schema k after
    goes_to is pieces shards after w kept = record {
      rules = w.rules;
      reached = subst (IsReached schema) (sym is) (answer_reached schema w.rules (machine_of j) w.reached u s of);
      kept = subst (λ (m : Machine). AreAllKept schema m after) (sym is) kept;
      pieced = pieces (machine_of k) (subst (λ (m : Machine). ArePieced schema m j.queries) (sym is) (pieced_by_step schema w.rules (machine_of j) w.reached j.queries refl w.pieced u s of));
    }

    -- a step that leaves all shards
    pub goes_by : (r : Reply) → Answers (machine_of j) (answer schema (machine_of j) u s) r (machine_of k) → LeavesShards s → ((n : Machine) → ArePieced schema n j.queries → ArePieced schema n k.queries) → GoesWith schema j k
    goes_by r (inl e) leaves pieces = λ shards w. goes_to e.1 pieces shards shards w (all_kept_by_step schema (machine_of j) w.reached shards u s leaves w.kept)
    goes_by r (inr e) leaves pieces = λ shards w. record {
      rules = w.rules;
      reached = subst (IsReached schema) (sym e.1) w.reached;
      kept = subst (λ (m : Machine). AreAllKept schema m shards) (sym e.1) w.kept;
      pieced = pieces (machine_of k) (subst (λ (m : Machine). ArePieced schema m j.queries) (sym e.1) w.pieced);
    }

-- the queries are the same
pub pieces_same : (schema : List Table) (ps qs : List Pieced) → qs ≡ ps → (n : Machine) → ArePieced schema n ps → ArePieced schema n qs
pieces_same schema ps qs same n all = subst (ArePieced schema n) (sym same) all

-- a query is opened
pub pieces_opened : (schema : List Table) (r : Result Opened Refusal) (text : List ℕ) (params : List Parameter) (q : Statement) (ps qs : List Pieced) → IsPlannable schema q
    → IfOk r (λ o. qs ≡ ps ++ unread schema o.query o.s text params q ∷ []) → OnErr r (qs ≡ ps) → (n : Machine) → ArePieced schema n ps → ArePieced schema n qs
pieces_opened schema (Ok x) text params q ps qs plannable ok err n all = subst (ArePieced schema n) (sym ok) (pieced_push schema n ps x.query x.s text params q plannable all)
pieces_opened schema (Err why) text params q ps qs plannable ok err n all = subst (ArePieced schema n) (sym err) all

-- a query is closed
pub pieces_closed : (schema : List Table) → {A : Type 0} (r : Result A Refusal) (query : ℕ) (ps qs : List Pieced) → OnOk r (qs ≡ without_first (λ p. is_query query p.query) ps) → OnErr r (qs ≡ ps)
    → (n : Machine) → ArePieced schema n ps → ArePieced schema n qs
pieces_closed schema (Ok x) query ps qs ok err n all = subst (ArePieced schema n) (sym ok) (pieced_without schema n ps (λ (p : Pieced). is_query query p.query) all)
pieces_closed schema (Err why) query ps qs ok err n all = subst (ArePieced schema n) (sym err) all
