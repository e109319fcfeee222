use Rattle.std.proofs.Common.{rules, ◌≡◌, [], ℕ, List, Option, Some, ap, sym, subst}
use Rattle.span_query.specs.Rows.{Row}
use Rattle.span_query.specs.Meaning as spec
use Rattle.span_query.specs.Sorting.{sorted}
use Rattle.span_sorting.specs.Codes.{coded_rows}
use Rattle.span_sorting.specs.Orders.{take_first}
use Rattle.span_algebra.specs.Sources.{SortsAs}
use Rattle.span_algebra.proofs.source.Tables.lend_in_order.Goals as goal

pub returns-in-None : goal.returns-in-None
returns-in-None c =
    let keys = c.args.keys.now in
    let count : Option ℕ = c.args.count in
    let given : spec.given c.args.self.now c.args.number ≡ Some [] = search rules in (
      c.new.ensures.coded keys,
      subst (SortsAs keys count (coded_rows c.new.result)) (sym given)
          (ap (λ (l : List Row). take_first count (sorted keys l)) c.new.ensures.rows),
    )
