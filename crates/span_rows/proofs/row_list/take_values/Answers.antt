use Rattle.std.proofs.Common.{rules, ◌≡◌, ◌<◌, ◌∙◌, List, ℕ, arith, length, length-set, get_or}
use Rattle.span_value.specs.declared.value.Value.{Value}
use Rattle.span_rows.proofs.TakenValues.{null_next, value_next}
use Rattle.span_rows.proofs.row_list.take_values.Goals as goal

pub loop-at-preserved : goal.loop-at-preserved
loop-at-preserved c =
    let old : List Value = c.args.row.now.items in
    let row : List Value = c.loop-at.row.items in
    let at : ℕ = c.loop-at.at in
    let v : Value = c.index_mut.result.now in
    let inside = c.loop-at-test.true in
    let less : at < length old = omega (arith, c.loop-at.invariant.long) in
    let is : v ≡ get_or row at v = search rules in
    record {
      long = length-set row at c.replace.new.dest ∙ c.loop-at.invariant.long;
      capacity = omega (arith, less, c.push_reserved.ensures.len, c.push_reserved.ensures.capacity, c.loop-at.invariant.capacity);
      values = value_next old row c.loop-at.values.items c.args.values.now.items c.push_reserved.new.self.items at v c.replace.result less c.loop-at.invariant.row is c.replace.ensures.value c.loop-at.invariant.values c.push_reserved.ensures.items;
      row = null_next old row at c.replace.new.dest less c.replace.ensures.after c.loop-at.invariant.row;
    }
