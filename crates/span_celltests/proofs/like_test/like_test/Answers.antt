use Rattle.std.proofs.Common.{◌≡◌, ◌∙◌, List, rules, subst}
use Rattle.span_pattern.specs.declared.pattern.PatternPart.{PatternPart}
use Rattle.span_celltests.specs.CellTests.{IsLikeTestOf, like_at}
use Rattle.span_celltests.proofs.CellTests.{like_tested}
use Rattle.span_celltests.proofs.like_test.like_test.Goals as goal

pub returns : goal.returns
returns c =
    let schema = c.args.schema.now in
    let operand = c.args.operand.now in
    let items : c.in_ok-parts.parts.items ≡ c.args.pattern.now = search rules in
    let parts : c.from_vec.result ≡ c.args.pattern.now = c.from_vec.ensures ∙ items in
    subst (λ (ps : List PatternPart). IsLikeTestOf schema c.args.table (like_at schema operand ps) (record { cell = c.in-Some.cell; pattern = c.from_vec.result })) parts
    (like_tested schema c.args.table c.in-Column.place operand (record { cell = c.in-Some.cell; pattern = c.from_vec.result }) c.in-Column.is c.in-Some.ensures)
