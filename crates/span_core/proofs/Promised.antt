-- Every step from a machine that a run reaches is as promised.
use Rattle.std.proofs.Common.{◌≡◌, ℕ, List, [], ◌∷◌, ◌++◌, Option, Some, None, refl, ap, sym, ◌∙◌, inl, inr}
use Rattle.std.specs.Prelude.{slice_get}
use Rattle.span_value.specs.declared.refusal.Refusal.{Refusal}
use Rattle.span_value.specs.declared.refusal.Refusal.TheVariants as refusal
use Rattle.span_schema.specs.declared.table.Table.{Table}
use Rattle.span_schema.specs.Lineages.{MeetsRules}
use Rattle.span_machine.specs.declared.slot.SlotState.{SlotState}
use Rattle.span_machine.specs.declared.step.Step.{Step}
use Rattle.span_machine.specs.declared.step.Step.TheVariants.{Trim}
use Rattle.span_machine.specs.declared.step.Reply.{Reply}
use Rattle.span_machine.specs.declared.step.Reply.TheVariants.{Trimmed}
use Rattle.span_machine.specs.declared.transaction.Commit.{Commit}
use Rattle.span_machine.specs.Commits.{OpenedQuery, opened_by}
use Rattle.span_machine.specs.Kept.{live}
use Rattle.span_machine.specs.Machine.{Machine, start, refused, unless_refused, if_some, trim_slot, trimmed, trim_refusal, with_horizon}
use Rattle.span_machine.specs.Run.{IsOfSchema, AreOfSchema, IsRight, AreRight}
use Rattle.span_machine_laws.proofs.Reached.{reached_tables, run_reached, start_reached}
use Rattle.span_machine_laws.proofs.History.{run_right}
use Rattle.span_machine_laws.proofs.Known.{start_known}
use Rattle.span_parts.proofs.Changes.{set_there}
use Rattle.span_binder.specs.Understands.{Understands}
use Rattle.span_core.specs.Histories.{IsStep, Run}
use Rattle.span_core.specs.Promises.{IsRunTo, IsCounted, Promises, IsConsistent, asked_after}
use Rattle.span_core.proofs.Runs.{run_more, understood_plans, whole_consistent}

-- ---- the run goes on

pub of_schema_more : (schema : List Table) (steps : List Step) (step : Step) → AreOfSchema schema steps → IsOfSchema schema step → AreOfSchema schema (steps ++ step ∷ [])
of_schema_more schema [] step all one = (one, tt)
of_schema_more schema (s ∷ ss) step all one = (all.0, of_schema_more schema ss step all.1 one)

pub no_steps : (schema : List Table) → IsRunTo schema start
no_steps schema = record { steps = []; replies = []; of_schema = tt; run = refl }

pub one_more : (schema : List Table) (m next : Machine) (step : Step) (reply : Reply) → IsRunTo schema m → IsOfSchema schema step → IsStep schema m step reply next → IsRunTo schema next
one_more schema m next step reply past of one = record {
  steps = past.steps ++ step ∷ [];
  replies = past.replies ++ reply ∷ [];
  of_schema = of_schema_more schema past.steps step past.of_schema of;
  run = run_more schema start past.steps past.replies m next step reply past.run one;
}

-- ---- the promises

-- the last answer of a run is right by the queries that were opened before
last_right : (schema : List Table) (commits : List Commit) (asked : List OpenedQuery) (m : Machine) (steps : List Step) (replies : List Reply) (last : Machine) (step : Step) (reply : Reply) → Run schema m steps replies last
    → AreRight (Understands schema) schema commits asked (steps ++ step ∷ []) (replies ++ reply ∷ []) → IsRight (Understands schema) schema commits (asked_after asked steps replies) step reply
last_right schema commits asked m [] [] last step reply run right = right.0
last_right schema commits asked m [] (r ∷ rs) last step reply run right = absurd run
last_right schema commits asked m (s ∷ ss) [] last step reply run right = absurd run
last_right schema commits asked m (s ∷ ss) (r ∷ rs) last step reply run right = last_right schema commits (opened_by s r ++ asked) run.0 ss rs last step reply run.2 right.1

-- a Trim that is not refused is answered how many versions are kept
module _ (schema : List Table) (m : Machine) (slot h kept : ℕ) (next : Machine) where
  number : (x y : ℕ) → Trimmed x ≡ Trimmed y → x ≡ y
  number x y e = cc e

  counts_by : (b : SlotState) → slice_get m.slots slot ≡ Some b → (why : Option Refusal) → Trimmed kept ≡ (unless_refused m why (trimmed schema m slot h b)).0 → next ≡ (unless_refused m why (trimmed schema m slot h b)).1
      → IsCounted schema next (Trim slot h) (Trimmed kept)
  counts_by b here None r n = (
    with_horizon h b,
    ap (λ (k : Machine). slice_get k.slots slot) n ∙ set_there m.slots slot b (with_horizon h b) here,
    refl,
    number kept (live schema m.log m.transactions slot (with_horizon h b)) r ∙ sym (ap (λ (k : Machine). live schema k.log k.transactions slot (with_horizon h b)) n),
  )
  counts_by b here (Some why) r n = absurd (cc r)

  counts_at : (o : Option SlotState) → slice_get m.slots slot ≡ o → Trimmed kept ≡ (if_some o (refused m refusal.NoSlot) (trim_slot schema m slot h)).0 → next ≡ (if_some o (refused m refusal.NoSlot) (trim_slot schema m slot h)).1
      → IsCounted schema next (Trim slot h) (Trimmed kept)
  counts_at None here r n = absurd (cc r)
  counts_at (Some b) here r n = counts_by b here (trim_refusal m slot h b) r n

counts : (schema : List Table) (m : Machine) (step : Step) (reply : Reply) (next : Machine) → IsStep schema m step reply next → IsCounted schema next step reply
counts schema m (Trim slot h) (Trimmed kept) next (inl e) = counts_at schema m slot h kept next (slice_get m.slots slot) refl e.2.0 e.2.1
counts schema m (Trim slot h) (Trimmed kept) next (inr e) = absurd (cc e.0)
counts schema m _ _ next one = tt

-- every step from there is as promised
pub promised : (schema : List Table) → MeetsRules schema → (m : Machine) → Promises schema m
unfolding one_more
promised schema rules m past step reply next of one =
    let more = one_more schema m next step reply past of one in
    let right = run_right (Understands schema) schema rules (understood_plans schema) [] [] start more.steps more.replies next more.run more.of_schema (start_reached schema) (start_known (Understands schema)) in
    record {
      right = last_right schema next.log [] start past.steps past.replies m step reply past.run right;
      applies = λ s. reached_tables schema rules next s (run_reached schema rules (Understands schema) start more.steps more.replies next more.run more.of_schema (start_reached schema));
      counted = counts schema m step reply next one;
    }

-- every run is externally consistent under an honest clock
pub runs_consistent : (schema : List Table) → MeetsRules schema → (m : Machine) → IsConsistent schema m
runs_consistent schema rules m past honest = whole_consistent schema rules past.steps past.replies m past.of_schema past.run honest
