use Rattle.std.proofs.Common.{◌≡◌, ◌∙◌, List, Some, inl, inr, sym, subst}
use Rattle.std.proofs.lemmas.Result.{err_from_is_err_and}
use Rattle.span_value.specs.declared.value.Value.{Value}
use Rattle.span_keycode.specs.Keys.{encode_cause}
use Rattle.span_shard.proofs.Codes.{never_refused}
use Rattle.span_shard.proofs.Alone.{put_known}
use Rattle.span_shard.proofs.RunPuts.{put_run}
use Rattle.span_shard.proofs.RunDeletes.{delete_run}
use Rattle.span_shard.proofs.RunAll.{memory_refused, put_refused, delete_refused}
use Rattle.span_shard.proofs.run.run_one.Goals as goal

pub returns-in_err-key-clause-refused : goal.returns-in_err-key-clause-refused
returns-in_err-key-clause-refused c =
    let p = err_from_is_err_and c.from_residual.result c.from_residual.ensures.1 in
    let tables = c.args.schema.now in
    let m = c.args.mutation.now in
    rw (p.1, p.2) (memory_refused tables c.args.store.now m c.args.changes.now c.in_err-key.field-0.0 (elim c.in_err-key.ensures.coded [
      | inl e ↦ absurd (never_refused tables m.table m.key c.in_err-key.field-0.0 c.requires.typed.0 (subst (λ (vs : List Value). encode_cause tables m.table vs ≡ Some c.in_err-key.field-0.0) c.as_slice.ensures e))
      | inr e ↦ e
    ]))

pub returns-in_err-run_delete-clause-refused : goal.returns-in_err-run_delete-clause-refused
returns-in_err-run_delete-clause-refused c =
    let p = err_from_is_err_and c.from_residual-in_err-run_delete.result c.from_residual-in_err-run_delete.ensures.1 in
    rw (p.1, p.2) (delete_refused c.args.schema.now c.meets_rules.ensures c.args.store.now c.args.changes.now c.args.mutation.now c.in_err-run_delete.field-0.0 c.requires.typed (sym c.is_delete.ensures ∙ c.if-is_delete.true) c.requires.rows c.in_err-run_delete.ensures.refused)

pub returns-then-is_delete-clause-ok : goal.returns-then-is_delete-clause-ok
returns-then-is_delete-clause-ok c =
    let d = c.in_ok-run_delete.ensures.ok in
    delete_run c.args.schema.now c.meets_rules.ensures c.args.store.now c.args.changes.now c.run_delete.new.changes c.args.mutation.now d.keys c.requires.typed (sym c.is_delete.ensures ∙ c.if-is_delete.true) c.requires.rows d.are d.removed

pub returns-in_err-run_put-clause-refused : goal.returns-in_err-run_put-clause-refused
returns-in_err-run_put-clause-refused c =
    let p = err_from_is_err_and c.from_residual-in_err-run_put.result c.from_residual-in_err-run_put.ensures.1 in
    rw (p.1, p.2) (put_refused c.args.schema.now c.meets_rules.ensures c.args.store.now c.args.changes.now c.args.mutation.now c.in_err-run_put.field-0.0 c.requires.typed (sym c.is_delete.ensures ∙ c.if-is_delete.false) c.requires.rows c.in_err-run_put.ensures.refused)

pub returns-clause-ok : goal.returns-clause-ok
returns-clause-ok c =
    let p = c.in_ok-run_put.ensures.ok in
    put_run c.args.schema.now c.meets_rules.ensures c.args.store.now c.args.changes.now c.run_put.new.changes c.args.mutation.now p.row c.requires.typed (sym c.is_delete.ensures ∙ c.if-is_delete.false) c.requires.rows p.made p.put

pub returns-clause-known : goal.returns-clause-known
returns-clause-known c = put_known c.args.schema.now c.args.store.now c.args.mutation.now c.args.changes.now c.run_put.new.changes c.in_ok-run_put.ensures.ok
