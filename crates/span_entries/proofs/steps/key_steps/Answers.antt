use Rattle.std.proofs.Common.{◌∙◌, ◌<◌, ◌≤◌, ◌++◌, ℕ, List, arith, sym, ap, length, get_or, append-nil}
use Rattle.std.proofs.lemmas.List.{drop_all}
use Rattle.span_schema.specs.declared.layout.KeyPart.{KeyPart}
use Rattle.span_schema.specs.Numbers.{path_of, own_key_columns}
use Rattle.span_entries.specs.declared.steps.KeyStep.{KeyStep}
use Rattle.span_entries.specs.Steps.{level_steps, path_steps, key_steps}
use Rattle.span_entries.proofs.Along.{one_level}
use Rattle.span_entries.proofs.steps.key_steps.Goals as goal

pub loop-i-preserved : goal.loop-i-preserved
loop-i-preserved c =
    let schema = c.args.schema.now in
    let path : List ℕ = path_of schema c.args.table in
    let i = c.loop-i.i in
    let less : i < length path = omega (arith, ap (length {A = ℕ}) c.path_of-path.ensures.path, c.loop-i-test.true) in
    let number = ap (λ (ns : List ℕ). get_or ns i 0) c.path_of-path.ensures.path in
    let columns = c.own_key_columns.ensures ∙ ap (own_key_columns schema) number in
    let added = c.in_ok-add_level.ensures ∙ ap (λ (m : ℕ). c.loop-i.steps.items ++ level_steps m c.own_key_columns.result.now) number ∙ ap (λ (cs : List KeyPart). c.loop-i.steps.items ++ level_steps (get_or path i 0) cs) columns in
    one_level schema path i c.loop-i.steps.items c.add_level.new.steps.items (key_steps schema c.args.table) less added c.loop-i.invariant

pub returns : goal.returns
returns c =
    let schema = c.args.schema.now in
    let path : List ℕ = path_of schema c.args.table in
    let over : length path ≤ c.loop-i.i = (let stop = c.loop-i-test.false in omega (arith, ap (length {A = ℕ}) c.path_of-path.ensures.path)) in
    let items : List KeyStep = c.loop-i.steps.items in
    c.from_vec.ensures ∙ sym (append-nil items) ∙ ap (λ (ns : List ℕ). items ++ path_steps schema ns) (sym (drop_all c.loop-i.i path over)) ∙ c.loop-i.invariant
