-- The command line: what clap knows of it, and the order that words are.
use Rattle.std.specs.Prelude.{◌≡◌, List, [], Bool, true, false, Some, IsSomeAnd, codes, unwrap_or}
use Rattle.std.specs.Option.{option_map_or}
use Rattle.std.specs.Str.{bytes_eq}
use Rattle.clap.specs.Walk.{Row, Rule, Text, first_of}
use Rattle.clap.specs.Simple.{App, new_app, new_rule, on_top, subcommand_of, with_rule, with_subcommand}
use Rattle.clap.specs.declared.builder.action.ArgAction.TheVariants.{SetTrue}
use Rattle.span_program.specs.declared.words.Order.{Order}
use Rattle.span_program.specs.declared.words.Order.TheVariants.{Run}

-- an argument that is a file, and must be there
abbrev pub file : Text → Rule
file id = record (new_rule id) { value_names = 1; required = true }

-- an option without a value
abbrev pub flag : Text → Rule
flag name = record (new_rule name) { long = Some name; action = Some SetTrue }

-- `run`, its two files and its options
abbrev pub run : App
run =
    let files = with_rule (with_rule (new_app (codes "run")) (file (codes "schema"))) (file (codes "script")) in
    with_rule (with_rule files (flag (codes "explain-refusals"))) (flag (codes "progress"))

-- the program, which wants a subcommand and has `run`
abbrev pub program : App
program =
    let top =
    on_top (λ s. record s { subcommand_required = true; arg_required_else_help = true }) (new_app (codes "spansql"))
    in
    with_subcommand top run.top

-- the value of an argument that must be there
abbrev pub value_of : Text → List Row → Text
value_of id rows = unwrap_or (first_of id rows) []

-- whether an option was given
abbrev pub is_set : Text → List Row → Bool
is_set id rows = option_map_or (λ text. bytes_eq text (codes "true")) (first_of id rows) false

-- the order is what was found for the arguments of `run`
abbrev pub IsRun : List Row → Order → Type 0
IsRun rows (Run schema script explains shows_progress) =
    (schema.now ≡ value_of (codes "schema") rows) × (script.now ≡ value_of (codes "script") rows)
    × (explains ≡ is_set (codes "explain-refusals") rows) × (shows_progress ≡ is_set (codes "progress") rows)

-- the order is what clap's meaning of the command finds in the words, of which the first is the program's name
abbrev pub IsOrder : List Text → Order → Type 0
IsOrder words order = IsSomeAnd (subcommand_of program words) (λ run. IsRun run.1 order)
