use Rattle.std.proofs.Common.{rules, ◌≡◌, false, Some}
use Rattle.span_value.specs.declared.value.Value.{Value}
use Rattle.span_expr.specs.Cells.{owned_value}
use Rattle.span_expr.specs.Meaning.{val}
use Rattle.span_expr.specs.Outcomes.{is_null}
use Rattle.span_query.specs.Rows.{value_of}
use Rattle.span_groups.proofs.Taking.{takes_value}
use Rattle.span_groups.proofs.aggregate.AggregateState.take_any.Goals as goal

pub returns-in_ok-take_value : goal.returns-in_ok-take_value
returns-in_ok-take_value c =
    let v : Value = owned_value c.in_ok-value.value in
    let gives : value_of (val c.args.row.now c.args.operand.now) ≡ Some v = search rules in
    let some : is_null v ≡ false = search rules in
    record {
      ok = (v, gives, takes_value v c.args.self.now c.take_value.new.self some c.in_ok-take_value.ensures);
      fault = λ is. absurd cc;
    }
