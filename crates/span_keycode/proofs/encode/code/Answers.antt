use Rattle.std.proofs.Common.{◌≤◌, ◌<◌, ◌-◌, ℕ, List, arith, length, sym, ap, subst, get_or}
use Rattle.span_value.proofs.Lists.{all_at}
use Rattle.span_schema.specs.Numbers.{key_at, key_columns}
use Rattle.span_schema.specs.Lineages.{path_at}
use Rattle.span_keycode.proofs.Levels.{keys_short, IsShort}
use Rattle.span_keycode.proofs.encode.code.Goals as goal

pub push_level-requires-clause-values : goal.push_level-requires-clause-values
push_level-requires-clause-values c =
    let tables = c.args.schema.now in
    let i = c.args.table - 1 in
    let within : i < length tables = omega arith in
    let here : c.loop-i.i < length (path_at tables i) = omega (arith, ap (length {A = ℕ}) c.path_of-path.ensures.path) in
    let short = all_at (IsShort tables (length (key_at tables i))) (path_at tables i) c.loop-i.i 0 here (keys_short tables c.path_of-path.ensures.rules i within) in
    let P : List ℕ → Type 0 = λ ns. length (key_columns tables (get_or ns c.loop-i.i 0)) ≤ length (key_at tables i) in
    let now = subst P (sym c.path_of-path.ensures.path) short in
    omega (arith, now, c.requires.values)
