use Rattle.std.proofs.Common.{◌≡◌, ◌<◌, ◌≤◌, ◌+◌, ℕ, List, true, false, refl, sym, ◌∙◌, ap, subst, arith, get_or, length, take}
use Rattle.span_schema.specs.declared.layout.KeyPart.{KeyPart}
use Rattle.span_schema.specs.Numbers.{own_key_columns}
use Rattle.span_keycode.specs.Roots.{IsRootPrefix, IsTupleSkip}
use Rattle.span_keycode.proofs.KeyTables.{no_root}
use Rattle.span_keycode.proofs.RootRows.{root_taken}
use Rattle.span_keycode.proofs.table.root_front.Goals as goal

pub returns-then-not-is_table : goal.returns-then-not-is_table
returns-then-not-is_table c =
    no_root c.args.schema.now c.meets_rules.ensures c.args.key.now c.args.key.now (λ some t. let f : false ≡ true = sym c.if-not-is_table.true ∙ c.is_table.ensures.1 t in cc)

pub returns : goal.returns
returns c =
    let tables = c.args.schema.now in
    let bs = c.args.key.now in
    let w = c.skip_tuple-width.result in
    let P : List KeyPart → Type 0 = λ cs. IsTupleSkip cs c.after.result.now w in
    let Q : List ℕ → Type 0 = λ xs. IsTupleSkip (own_key_columns tables (get_or bs 0 0)) xs w in
    let front = root_taken tables c.meets_rules.ensures bs (get_or bs 0 0) w refl (subst Q c.after.ensures (subst P c.own_key_columns.ensures c.skip_tuple-width.ensures)) in
    subst (λ (p : List ℕ). IsRootPrefix tables bs p) (sym c.front.ensures) front
