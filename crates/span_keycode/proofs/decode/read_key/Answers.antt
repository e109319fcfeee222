use Rattle.std.proofs.Common.{◌≡◌, ℕ, List, Option, true, false, refl, sym, ◌∙◌, subst, get_or}
use Rattle.std.proofs.lemmas.Option.{MatchOption-at_some, MatchOption-at_none}
use Rattle.span_schema.specs.declared.layout.KeyPart.{KeyPart}
use Rattle.span_schema.specs.Numbers.{own_key_columns}
use Rattle.span_keycode.specs.Reads.{IsNoTuple, IsTuple}
use Rattle.span_keycode.proofs.KeyReading.{IsRead, read_more, read_stop, read_none, read_nothing}
use Rattle.span_keycode.proofs.decode.read_key.Goals as goal

pub returns-then-not-is_child : goal.returns-then-not-is_child
returns-then-not-is_child c =
    read_stop c.args.schema.now c.loop-at.invariant.rules c.args.bytes.now c.loop-at.above c.loop-at.values.items c.loop-at.at _ c.loop-at.invariant.read c.loop-at-test.true refl
    (λ t p. let f : false ≡ true = sym c.if-not-is_child.true ∙ c.is_child.ensures.1 (t, p) in cc)

pub returns-in-None : goal.returns-in-None
returns-in-None c =
    let tables = c.args.schema.now in
    let bs = c.args.bytes.now in
    let at = c.loop-at.at in
    let table = get_or bs at 0 in
    let P : List KeyPart → Type 0 = λ cs. IsNoTuple cs c.after.result.now in
    let Q : List ℕ → Type 0 = λ xs. IsNoTuple (own_key_columns tables table) xs in
    let none = subst Q c.after.ensures (subst P c.own_key_columns.ensures (MatchOption-at_none _ _ c.in-None.is c.in_ok-read_tuple.ensures)) in
    read_none tables c.loop-at.invariant.rules bs c.loop-at.above c.loop-at.values.items at table c.loop-at.invariant.read c.loop-at-test.true refl none

pub loop-at-preserved : goal.loop-at-preserved
loop-at-preserved c =
    let tables = c.args.schema.now in
    let bs = c.args.bytes.now in
    let at = c.loop-at.at in
    let table = get_or bs at 0 in
    let w = c.in-Some.width in
    let child = c.is_child.ensures.0 c.if-not-is_child.false in
    let P : List KeyPart → Type 0 = λ cs. IsTuple cs c.after.result.now c.loop-at.values.items c.read_tuple.new.values.items w in
    let Q : List ℕ → Type 0 = λ xs. IsTuple (own_key_columns tables table) xs c.loop-at.values.items c.read_tuple.new.values.items w in
    let tuple = subst Q c.after.ensures (subst P c.own_key_columns.ensures (MatchOption-at_some _ _ _ c.in-Some.is c.in_ok-read_tuple.ensures)) in
    record {
      rules = c.loop-at.invariant.rules;
      read = read_more tables c.loop-at.invariant.rules bs c.loop-at.above c.loop-at.values.items c.read_tuple.new.values.items at w table c.loop-at.invariant.read c.loop-at-test.true refl child.0 child.1 tuple;
    }

pub returns-in-None-above : goal.returns-in-None-above
returns-in-None-above c =
    let P : Option ℕ → Type 0 = λ o. IsRead c.args.schema.now c.args.bytes.now o c.loop-at.values.items c.loop-at.at in
    read_nothing c.args.schema.now c.args.bytes.now c.loop-at.values.items c.loop-at.at (subst P c.in-None-above.is c.loop-at.invariant.read) c.loop-at-test.false
