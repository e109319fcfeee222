use Rattle.std.proofs.Common.{◌≡◌, ◌-◌, ◌<◌, ℕ, List, length, arith, sym, ◌∙◌, ap, subst}
use Rattle.std.specs.List.{All}
use Rattle.span_schema.specs.declared.lineage.Lineage.{Lineage}
use Rattle.span_schema.specs.Numbers.{IsTable}
use Rattle.span_schema.specs.Lineages.{path_at}
use Rattle.span_schema.proofs.Numbered.{path_numbers}
use Rattle.span_schema.proofs.schema.Schema.path_of.Goals as goal

pub returns-clause-tables : goal.returns-clause-tables
returns-clause-tables c =
    let P : List ℕ → Type 0 = λ ns. All (λ n. IsTable c.args.self.now n) ns in
    let within : c.args.table - 1 < length c.args.self.now = omega arith in
    let same : path_at c.args.self.now (c.args.table - 1) ≡ c.as_slice.result.now = sym (c.as_slice.ensures ∙ ap (λ (l : Lineage). l.path) c.line.ensures.line) in
    subst P same (path_numbers c.args.self.now (c.args.table - 1) within)
