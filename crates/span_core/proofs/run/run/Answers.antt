use Rattle.std.proofs.Common.{◌≡◌, List, [], ◌∷◌, ◌++◌, length, sym, ◌∙◌, ap, subst, append_assoc, arith}
use Rattle.std.specs.Vec.Iter.{into_iter_items}
use Rattle.std.proofs.lemmas.List.{append-nil, nil_from_length}
use Rattle.span_machine.specs.declared.step.Reply.{Reply}
use Rattle.span_machine.specs.Machine.{start}
use Rattle.span_core.specs.Histories.{IsStep, Run}
use Rattle.span_machine.specs.Run.{AreChecked, AreOfSchema, IsChecked, IsOfSchema}
use Rattle.span_core.proofs.Promised.{of_schema_more}
use Rattle.span_core.proofs.Runs.{run_more, whole_history, whole_consistent}
use Rattle.span_core.proofs.run.run.Goals as goal

pub step-reply-requires : goal.step-reply-requires
step-reply-requires c =
    let next = c.in-Some.ensures.steps in
    let checked : AreChecked c.args.schema (c.in-Some.step ∷ into_iter_items c.next.new.self) = subst (AreChecked c.args.schema) next.0 c.loop-step.invariant.checked in
    subst (λ schema. IsChecked schema c.in-Some.step) (sym c.loop-step.invariant.schema) checked.0

pub loop-step-preserved : goal.loop-step-preserved
loop-step-preserved c =
    let next = c.in-Some.ensures.steps in
    let checked : AreChecked c.args.schema (c.in-Some.step ∷ into_iter_items c.next.new.self) = subst (AreChecked c.args.schema) next.0 c.loop-step.invariant.checked in
    let one : IsStep c.args.schema c.loop-step.core.machine c.in-Some.step c.step-reply.result c.step-reply.new.self.machine = subst (λ schema. IsStep schema c.loop-step.core.machine c.in-Some.step c.step-reply.result c.step-reply.new.self.machine) c.loop-step.invariant.schema c.step-reply.ensures.steps in
    record {
      schema = c.step-reply.ensures.schema ∙ c.loop-step.invariant.schema;
      ran = subst (λ l. Run c.args.schema start (c.loop-step.yielded ++ c.in-Some.step ∷ []) l c.step-reply.new.self.machine) (sym {A = List Reply} c.push_reserved.ensures.items) (run_more c.args.schema start c.loop-step.yielded c.loop-step.replies.items _ _ c.in-Some.step c.step-reply.result c.loop-step.invariant.ran one);
      of_schema = of_schema_more c.args.schema c.loop-step.yielded c.in-Some.step c.loop-step.invariant.of_schema (subst (λ schema. IsOfSchema schema c.in-Some.step) c.loop-step.invariant.schema c.step-reply.ensures.of_schema);
      checked = checked.1;
      rest = append_assoc c.loop-step.yielded (c.in-Some.step ∷ []) (into_iter_items c.next.new.self) ∙ ap (λ l. c.loop-step.yielded ++ l) (sym next.0) ∙ c.loop-step.invariant.rest;
      count = omega (arith, ap length next.0, next.1, c.loop-step.invariant.count);
      capacity = omega (arith, c.loop-step.invariant.capacity, c.push_reserved.ensures.len, c.push_reserved.ensures.capacity, next.1);
    }

pub returns-clause-history : goal.returns-clause-history
returns-clause-history c =
    let done : into_iter_items c.loop-step.step-iterator ≡ [] = nil_from_length _ (sym c.loop-step.invariant.count ∙ c.in-None.ensures.steps.0) in
    let all : c.loop-step.yielded ≡ c.args.steps.items = sym (append-nil c.loop-step.yielded) ∙ ap (λ l. c.loop-step.yielded ++ l) (sym done) ∙ c.loop-step.invariant.rest in
    whole_history c.args.schema c.meets_rules.ensures c.args.steps.items c.loop-step.replies.items _ (subst (AreOfSchema c.args.schema) all c.loop-step.invariant.of_schema) (subst (λ l. Run c.args.schema start l c.loop-step.replies.items c.loop-step.core.machine) all c.loop-step.invariant.ran)

pub returns-clause-consistent : goal.returns-clause-consistent
returns-clause-consistent c =
    let done : into_iter_items c.loop-step.step-iterator ≡ [] = nil_from_length _ (sym c.loop-step.invariant.count ∙ c.in-None.ensures.steps.0) in
    let all : c.loop-step.yielded ≡ c.args.steps.items = sym (append-nil c.loop-step.yielded) ∙ ap (λ l. c.loop-step.yielded ++ l) (sym done) ∙ c.loop-step.invariant.rest in
    whole_consistent c.args.schema c.meets_rules.ensures c.args.steps.items c.loop-step.replies.items _ (subst (AreOfSchema c.args.schema) all c.loop-step.invariant.of_schema) (subst (λ l. Run c.args.schema start l c.loop-step.replies.items c.loop-step.core.machine) all c.loop-step.invariant.ran)
