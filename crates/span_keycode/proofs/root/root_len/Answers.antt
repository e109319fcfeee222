use Rattle.std.proofs.Common.{ℕ, List, arith, refl, ap, subst, get_or, length, length-drop}
use Rattle.span_schema.specs.declared.layout.KeyPart.{KeyPart}
use Rattle.span_schema.specs.Numbers.{own_key_columns}
use Rattle.span_keycode.specs.Roots.{IsTupleSkip}
use Rattle.span_keycode.proofs.RootRows.{root_begins, root_taken}
use Rattle.span_keycode.proofs.root.root_len.Goals as goal

pub bounds-bytes-0 : goal.bounds-bytes-0
bounds-bytes-0 c = (root_begins c.args.schema.now c.meets_rules.ensures c.args.bytes.now c.requires).0

pub own_key_columns-requires : goal.own_key_columns-requires
own_key_columns-requires c = (root_begins c.args.schema.now c.meets_rules.ensures c.args.bytes.now c.requires).1

pub after-requires : goal.after-requires
after-requires c = let some = (root_begins c.args.schema.now c.meets_rules.ensures c.args.bytes.now c.requires).0 in omega arith

pub returns-clause-within : goal.returns-clause-within
returns-clause-within c =
    let some = (root_begins c.args.schema.now c.meets_rules.ensures c.args.bytes.now c.requires).0 in
    omega (arith, c.skip_tuple.ensures.within, ap (length {A = ℕ}) c.after.ensures, length-drop 1 c.args.bytes.now)

pub returns-clause-root : goal.returns-clause-root
returns-clause-root c =
    let tables = c.args.schema.now in
    let bs = c.args.bytes.now in
    let w = c.skip_tuple.result in
    let P : List KeyPart → Type 0 = λ cs. IsTupleSkip cs c.after.result.now w in
    let Q : List ℕ → Type 0 = λ xs. IsTupleSkip (own_key_columns tables (get_or bs 0 0)) xs w in
    root_taken tables c.meets_rules.ensures bs (get_or bs 0 0) w refl (subst Q c.after.ensures (subst P c.own_key_columns.ensures c.skip_tuple.ensures))
