use Rattle.std.proofs.Common.{◌≡◌, List, [], length, Ok, sym, ◌∙◌, ap, inl, inr, subst, arith}
use Rattle.std.specs.Prelude.{All}
use Rattle.std.proofs.lemmas.List.Elements.{All-push}
use Rattle.span_schema.specs.Numbers.{IsTable}
use Rattle.std.specs.Vec.Iter.{into_iter_items}
use Rattle.std.proofs.lemmas.List.{append-nil, nil_from_length}
use Rattle.std.proofs.lemmas.Result.{err_from_is_err_and}
use Rattle.span_value.proofs.Lists.{all_push}
use Rattle.span_mutate.specs.declared.mutation.Mutation.{Mutation}
use Rattle.span_mutate.specs.declared.mutation.CheckedMutation.{CheckedMutation}
use Rattle.span_mutate.specs.Typed.{IsTypedMutation, AreTypedMutations}
use Rattle.span_checking.specs.Checking.{checked_all, with_front}
use Rattle.span_checking.proofs.Keyed.{keyed_all}
use Rattle.span_checking.proofs.Fronts.{front_more, front_refused}
use Rattle.span_checking.proofs.transaction.check_all.Goals as goal

pub returns-in_err-check-clause-checked : goal.returns-in_err-check-clause-checked
returns-in_err-check-clause-checked c =
    let next = c.in-Some.ensures.steps in
    let front = c.loop-mutation.checked.items in
    let p = err_from_is_err_and c.from_residual-in_err-check.result c.from_residual-in_err-check.ensures.1 in
    rw (p.1, p.2) (elim c.in_err-check.ensures.checked [
      | inl e ↦ inr (sym c.loop-mutation.invariant.so_far ∙ ap (λ (l : List Mutation). with_front front (checked_all c.args.schema.now l)) next.0
          ∙ front_refused c.args.schema.now front c.in-Some.mutation (into_iter_items c.next.new.self) c.in_err-check.field-0.0 e)
      | inr e ↦ inl e
    ])

pub loop-mutation-preserved : goal.loop-mutation-preserved
loop-mutation-preserved c =
    let next = c.in-Some.ensures.steps in
    let front = c.loop-mutation.checked.items in
    let rest = into_iter_items c.next.new.self in
    record {
      so_far = ap (λ (l : List CheckedMutation). with_front l (checked_all c.args.schema.now rest)) c.push_reserved.ensures.items
          ∙ front_more c.args.schema.now front c.in-Some.mutation rest c.in_ok-check.field-0 c.in_ok-check.ensures.checked
          ∙ ap (λ (l : List Mutation). with_front front (checked_all c.args.schema.now l)) (sym next.0) ∙ c.loop-mutation.invariant.so_far;
      tables = let P : CheckedMutation → Type 0 = λ m. IsTable c.args.schema.now m.table in
          let Q : List CheckedMutation → Type 0 = All P in
          subst Q (sym c.push_reserved.ensures.items) (All-push P front c.in_ok-check.field-0 c.loop-mutation.invariant.tables c.in_ok-check.ensures.table);
      typed = subst (AreTypedMutations c.args.schema.now) (sym c.push_reserved.ensures.items) (all_push (IsTypedMutation c.args.schema.now) front c.in_ok-check.field-0 c.loop-mutation.invariant.typed c.in_ok-check.ensures.typed);
      capacity = omega (arith, next.1, c.push_reserved.ensures.len, c.push_reserved.ensures.capacity, c.loop-mutation.invariant.capacity);
      count = omega (arith, ap length next.0, next.1, c.loop-mutation.invariant.count);
    }

pub returns-clause-checked : goal.returns-clause-checked
returns-clause-checked c =
    let front = c.loop-mutation.checked.items in
    let done : into_iter_items c.loop-mutation.mutation-iterator ≡ [] = nil_from_length _ (sym c.loop-mutation.invariant.count ∙ c.in-None.ensures.steps.0) in
    sym c.loop-mutation.invariant.so_far ∙ ap (λ (l : List Mutation). with_front front (checked_all c.args.schema.now l)) done ∙ ap Ok (append-nil front)

pub returns-clause-keyed : goal.returns-clause-keyed
returns-clause-keyed c = keyed_all c.args.schema.now c.args.mutations.items _ (returns-clause-checked c)
