use Rattle.std.proofs.Common.{◌≡◌, ◌∙◌, ◌⊎◌, ap, sym, subst, List, Some, None}
use Rattle.span_value.specs.declared.refusal.Refusal.TheVariants.{ArithmeticFault, OutOfMemory}
use Rattle.span_query.specs.Rows.{Row, Rows}
use Rattle.span_query.specs.Meaning.{given, meaning_over}
use Rattle.span_gather.proofs.finish.finish.Goals as goal

pub returns-in-Ok : goal.returns-in-Ok
returns-in-Ok c =
    ap (λ (tables : List Rows). meaning_over (given tables) c.args.top.now) (sym c.in_ok-tables.ensures) ∙ c.in-Ok.ensures
    ∙ ap (λ (rows : List Row). Some rows) (sym (c.new.ensures ∙ c.of_list.ensures))

pub returns : goal.returns
returns c =
    subst (λ (tables : List Rows). ((c.in-Err.why ≡ ArithmeticFault) × (meaning_over (given tables) c.args.top.now ≡ None)) ⊎ (c.in-Err.why ≡ OutOfMemory)) c.in_ok-tables.ensures c.in-Err.ensures
