use Rattle.std.proofs.Common.{◌∙◌, ◌∷◌, [], ℕ, List, false, true, take, inl, inr, refl, sym, subst}
use Rattle.std.specs.List.{AllByRecursion}
use Rattle.std.proofs.lemmas.Result.{err_from_is_err_and}
use Rattle.span_value.proofs.Lists.{all_append}
use Rattle.span_keycode.specs.Reads.{IsNoKey}
use Rattle.span_keycode.specs.Order.{is_same}
use Rattle.span_keycode.proofs.Order.{bytes_same}
use Rattle.span_shard.specs.Overlay.{BlocksDelete}
use Rattle.span_shard.proofs.RunAll.{any_at, blocks_by, taken_next}
use Rattle.span_shard.proofs.run.is_blocked.Goals as goal

pub returns-in_err-found : goal.returns-in_err-found
returns-in_err-found c =
    let p = err_from_is_err_and c.from_residual.result c.from_residual.ensures.1 in
    let key = c.key-item.result in
    rw (p.1, p.2) (elim c.in_err-found.ensures [
      | inl e ↦ inr (
        e.0,
        record {
          key = key;
          among = any_at (is_same key) c.args.keys.now c.loop-key.key-index key c.loop-key-test.true c.key-item.is (bytes_same key key refl);
          none = subst (IsNoKey c.args.schema.now) c.as_slice.ensures e.1;
        },
      )
      | inr e ↦ inl e
    ])

pub returns-then-blocks_delete : goal.returns-then-blocks_delete
returns-then-blocks_delete c =
    let key = c.key-item.result in
    let found = c.in_ok-found.found in (
      key,
      any_at (is_same key) c.args.keys.now c.loop-key.key-index key c.loop-key-test.true c.key-item.is (bytes_same key key refl),
      blocks_by c.args.schema.now c.meets_rules.ensures c.args.table true key found.table found.values c.in_ok-found.ensures.0 (sym c.as_slice.ensures ∙ c.in_ok-found.ensures.1) (sym c.blocks_delete.ensures ∙ c.if-blocks_delete.true),
    )

pub loop-key-preserved : goal.loop-key-preserved
loop-key-preserved c =
    let key = c.key-item.result in
    let found = c.in_ok-found.found in
    let P : List (List ℕ) → Type 0 = λ ks. AllByRecursion (BlocksDelete c.args.schema.now c.args.table false) ks in
    subst P (sym (taken_next c.args.keys.now c.loop-key.key-index key c.loop-key-test.true c.key-item.is))
    (all_append (BlocksDelete c.args.schema.now c.args.table false) (take c.loop-key.key-index c.args.keys.now) (key ∷ []) c.loop-key.invariant
    (blocks_by c.args.schema.now c.meets_rules.ensures c.args.table false key found.table found.values c.in_ok-found.ensures.0 (sym c.as_slice.ensures ∙ c.in_ok-found.ensures.1) (sym c.blocks_delete.ensures ∙ c.if-blocks_delete.false), tt))
