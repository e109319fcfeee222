use Rattle.std.proofs.Common.{◌≡◌, ◌∙◌, ◌+◌, ◌-◌, ◌^◌, ◌<◌, ◌≤◌, ℕ, false, List, length, get_or, ap, arith, min}
use Rattle.span_value.specs.declared.value.Kind.TheVariants as kind
use Rattle.span_schema.specs.declared.layout.KeyPart.{KeyPart}
use Rattle.span_schema.specs.Numbers.{key_columns}
use Rattle.span_keycode.proofs.Words.{least}
use Rattle.span_entries.specs.Longest.{longest_value}
use Rattle.span_entries.proofs.KeyLengths.{bounded_first, bounded_next, bounded_all}
use Rattle.span_entries.proofs.longest.longest_key.Goals as goal

abbrev nothing : KeyPart
nothing = record { kind = kind.Int; desc = false }

pub loop-column-init : goal.loop-column-init
loop-column-init c = bounded_first c.args.schema.now c.args.table _ (ap (length {A = ℕ}) c.path_of-most.ensures.path)

pub loop-column-preserved : goal.loop-column-preserved
loop-column-preserved c =
    let schema = c.args.schema.now in
    let n = c.args.table in
    let i = c.loop-column.column-index in
    let columns = c.key_columns-column-items.ensures in
    let less : i < length (key_columns schema n) = omega (arith, c.loop-column-test.true, ap (length {A = KeyPart}) columns) in
    let one : c.longest_value.result ≡ longest_value (get_or (key_columns schema n) i nothing).kind = c.longest_value.ensures ∙ ap (λ (cs : List KeyPart). longest_value (get_or cs i nothing).kind) columns in
    let sum : c.saturating_add-most.result ≡ min (c.loop-column.most + longest_value (get_or (key_columns schema n) i nothing).kind) (2 ^ 64 - 1) =
    c.saturating_add-most.ensures ∙ ap (λ (k : ℕ). min (c.loop-column.most + k) (2 ^ 64 - 1)) one in
    bounded_next schema c.meets_rules.ensures n i c.loop-column.most c.saturating_add-most.result nothing less (least c.saturating_add-most.result (c.loop-column.most + longest_value (get_or (key_columns schema n) i nothing).kind) (2 ^ 64 - 1) sum).2 c.loop-column.invariant

pub returns : goal.returns
returns c =
    let over : length (key_columns c.args.schema.now c.args.table) ≤ c.loop-column.column-index = omega (arith, c.loop-column-test.false, ap (length {A = KeyPart}) c.key_columns-column-items.ensures) in
    bounded_all c.args.schema.now c.meets_rules.ensures c.args.table c.loop-column.column-index c.loop-column.most over c.loop-column.invariant
