use Rattle.std.proofs.Common.{rules, ◌≡◌, ◌++◌, ◌∙◌, [], List, length}
use Rattle.std.proofs.lemmas.List.{nil_from_length, length-append}
use Rattle.span_query.specs.Rows.{Row}
use Rattle.span_groups.specs.States.{AreStatesOf}
use Rattle.span_collected.proofs.KeptGroups.{counted_all}
use Rattle.span_collected.proofs.kept_groups.take_or_count.Goals as goal

pub returns-clause-ok : goal.returns-clause-ok
returns-clause-ok c before counted are =
    let g = c.args.grouping.now in
    let rows : List Row = c.args.rows.now in
    let none : g.keys ≡ [] = nil_from_length g.keys (search rules) in
    let states : (all : List Row) → length all ≡ c.args.count → AreStatesOf g.aggregates all c.in-Some.counted.items = search (rules, c.in_ok-counted.ensures) in
    counted_all g before rows c.args.groups.now.firsts c.args.groups.now.states.items c.in-Some.counted.items none are (states (before ++ rows) (length-append before rows ∙ counted))
