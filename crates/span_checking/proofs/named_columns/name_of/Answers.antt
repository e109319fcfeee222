use Rattle.std.proofs.Common.{◌∙◌, ℕ, List, sym, ap}
use Rattle.std.specs.Prelude.{position}
use Rattle.std.specs.Option.{option_copied}
use Rattle.span_schema.specs.Tables.{is_same_name}
use Rattle.span_checking.specs.NamedBatches.{name_of}
use Rattle.span_checking.proofs.named_columns.name_of.Goals as goal

pub returns-in-Some : goal.returns-in-Some
returns-in-Some c =
    c.name_place.ensures
    ∙ ap (λ (s : List ℕ). position (λ (n : List ℕ). is_same_name n s) c.args.names.now) c.as_str.ensures
    ∙ ap (λ o. name_of c.args.names.now (option_copied o)) (sym c.in-Some.is)
