use Rattle.std.proofs.Common.{◌≡◌, ◌∙◌, ℕ, List, ap, subst}
use Rattle.std.specs.Prelude.{IfOk}
use Rattle.csv.specs.Records.{fields_of}
use Rattle.span_records.specs.Record.{texts}
use Rattle.span_records.specs.Layouts.{IsRowOf}
use Rattle.span_records.proofs.layout.RecordLayout.row.Goals as goal

pub returns-clause-read : goal.returns-clause-read
returns-clause-read c =
    let same : texts c.as_slice.result.now ≡ fields_of c.args.fields.now = ap texts c.as_slice.ensures ∙ c.in_ok-fields.ensures in
    subst (λ (w : List (List ℕ)). IfOk c.row_of.result (IsRowOf c.args.self.now w)) same c.row_of.ensures.read
