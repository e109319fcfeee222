use Rattle.std.proofs.Common.{◌≡◌, ◌-◌, ◌<◌, ℕ, List, length, arith, sym, ◌∙◌, ap, subst, slice_index}
use Rattle.span_schema.specs.declared.lineage.Lineage.{Lineage}
use Rattle.span_schema.specs.Numbers.{IsTable}
use Rattle.span_schema.specs.Lineages.{path_at}
use Rattle.span_schema.proofs.Numbered.{root_number}
use Rattle.span_schema.proofs.schema.Schema.root_of.Goals as goal

pub returns-clause-table : goal.returns-clause-table
returns-clause-table c =
    let P : List ℕ → Type 0 = λ ns. IsTable c.args.self.now (slice_index ns 0) in
    let within : c.args.table - 1 < length c.args.self.now = omega arith in
    let same : path_at c.args.self.now (c.args.table - 1) ≡ c.as_slice.result.now = sym (c.as_slice.ensures ∙ ap (λ (l : Lineage). l.path) c.line.ensures.line) in
    subst P same (root_number c.args.self.now (c.args.table - 1) within)
