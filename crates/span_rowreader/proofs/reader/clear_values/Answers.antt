use Rattle.std.proofs.Common.{rules, ◌≡◌, ◌∙◌, ◌<◌, ◌≤◌, List, ℕ, arith, ap, length, length-set, sym}
use Rattle.span_value.specs.declared.value.Value.{Value}
use Rattle.span_value.specs.declared.value.Value.TheVariants.{Null}
use Rattle.span_rowreader.proofs.NullRows.{all_nulls, next_null}
use Rattle.span_rowreader.proofs.reader.clear_values.Goals as goal

pub loop-at-preserved : goal.loop-at-preserved
loop-at-preserved c =
    let row : List Value = c.loop-at.row.items in
    let at : ℕ = c.loop-at.at in
    let inside : at < length row = search rules in
    record {
      long = ap length c.clear_value.ensures ∙ length-set row at Null ∙ c.loop-at.invariant.long;
      nulls = next_null Null row c.clear_value.new.row.items at inside c.clear_value.ensures c.loop-at.invariant.nulls;
    }

pub returns : goal.returns
returns c =
    let past : length c.args.row.now.items ≤ c.loop-at.at = search rules in
    let within : c.loop-at.at ≤ length c.args.row.now.items = search rules in
    all_nulls Null c.loop-at.row.items (length c.args.row.now.items) c.loop-at.at c.loop-at.invariant.long past within c.loop-at.invariant.nulls
