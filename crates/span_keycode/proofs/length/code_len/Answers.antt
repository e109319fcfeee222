use Rattle.std.proofs.Common.{rules, ◌≡◌, ◌+◌, ◌-◌, ◌<◌, ℕ, List, arith, length, ap, sym}
use Rattle.span_schema.specs.Numbers.{path_of}
use Rattle.span_keycode.specs.Keys.{key_code, values_len}
use Rattle.span_keycode.proofs.CodeLengths.{key_len}
use Rattle.span_keycode.proofs.length.code_len.Goals as goal

pub returns-in_err-left-2 : goal.returns-in_err-left-2
returns-in_err-left-2 c =
    let tables = c.args.schema.now in
    let vs = c.args.values.now in
    let within : c.args.table - 1 < length tables = omega arith in
    let len : length (key_code tables c.args.table vs) ≡ length (path_of tables c.args.table) + values_len vs = key_len tables c.path_of.ensures.rules (c.args.table - 1) within vs c.requires.values in
    let levels = ap (length {A = ℕ}) c.path_of.ensures.path in
    search (rules, len, levels)

pub returns : goal.returns
returns c =
    let tables = c.args.schema.now in
    let vs = c.args.values.now in
    let within : c.args.table - 1 < length tables = omega arith in
    let len : length (key_code tables c.args.table vs) ≡ length (path_of tables c.args.table) + values_len vs = key_len tables c.path_of.ensures.rules (c.args.table - 1) within vs c.requires.values in
    let levels = ap (length {A = ℕ}) c.path_of.ensures.path in
    (omega (arith, len, levels, c.in_ok-left.ensures, c.in_ok-left-2.ensures), omega arith)
