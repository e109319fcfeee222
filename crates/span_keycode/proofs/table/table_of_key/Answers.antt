use Rattle.std.proofs.Common.{◌≡◌, ℕ, List, ◌+◌, ◌≤◌, true, false, refl, sym, ◌∙◌, subst, arith, ap, get_or, drop, length, length-drop}
use Rattle.span_schema.specs.declared.layout.KeyPart.{KeyPart}
use Rattle.span_schema.specs.Numbers.{own_key_columns}
use Rattle.span_keycode.specs.Roots.{IsTupleSkip}
use Rattle.span_keycode.proofs.KeyTables.{all_left, left_after, no_table, table_found}
use Rattle.span_keycode.proofs.table.table_of_key.Goals as goal

pub loop-at-init : goal.loop-at-init
loop-at-init c = record {
  within = omega arith;
  table = tt;
  left = λ n vs k e. all_left c.args.schema.now c.meets_rules.ensures n vs k c.args.key.now e;
}

pub returns-then-not-is_table-clause-found : goal.returns-then-not-is_table-clause-found
returns-then-not-is_table-clause-found c =
    no_table c.args.schema.now c.args.key.now c.loop-at.above c.loop-at.at c.loop-at-test.true
    (λ t. let f : false ≡ true = sym c.if-not-is_table.true ∙ c.is_table.ensures.1 t in cc) c.loop-at.invariant.left

pub loop-at-preserved : goal.loop-at-preserved
loop-at-preserved c =
    let tables = c.args.schema.now in
    let bs = c.args.key.now in
    let at = c.loop-at.at in
    let n = get_or bs at 0 in
    let w = c.skip_tuple-width.result in
    let P : List KeyPart → Type 0 = λ cs. IsTupleSkip cs c.after.result.now w in
    let Q : List ℕ → Type 0 = λ xs. IsTupleSkip (own_key_columns tables n) xs w in
    let skip = subst Q c.after.ensures (subst P c.own_key_columns.ensures c.skip_tuple-width.ensures) in
    record {
      within = omega (arith, skip.within, length-drop (at + 1) bs, c.loop-at-test.true);
      table = c.is_table.ensures.0 c.if-not-is_table.false;
      left = left_after tables bs c.loop-at.above at w c.loop-at-test.true skip c.loop-at.invariant.left;
    }

pub returns-clause-found : goal.returns-clause-found
returns-clause-found c = table_found c.args.schema.now c.args.key.now c.loop-at.above c.loop-at.at (let stop = c.loop-at-test.false in omega arith) c.loop-at.invariant.left
