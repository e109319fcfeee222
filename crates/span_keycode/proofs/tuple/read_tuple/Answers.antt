use Rattle.std.proofs.Common.{ℕ, List, arith, false, subst, drop, get_or, length-drop}
use Rattle.std.proofs.lemmas.Option.{MatchOption-at_some}
use Rattle.span_value.specs.declared.value.Kind.TheVariants as kind
use Rattle.span_schema.specs.declared.layout.KeyPart.{KeyPart}
use Rattle.span_keycode.specs.Reads.{IsColumn}
use Rattle.span_keycode.proofs.Tuples.{tuple_more, tuple_back}
use Rattle.span_keycode.proofs.tuple.read_tuple.Goals as goal

pub loop-i-preserved : goal.loop-i-preserved
loop-i-preserved c =
    let cs = c.args.columns.now in
    let bs = c.args.bytes.now in
    let i = c.loop-i.i in
    let at = c.loop-i.at in
    let d : KeyPart = record { kind = kind.Int; desc = false } in
    let v = c.in-Some.value in
    let w = c.in-Some.width in
    let P : List ℕ → Type 0 = λ xs. IsColumn (get_or cs i d) xs v w in
    let found : IsColumn (get_or cs i d) (drop at bs) v w = subst P c.after.ensures (MatchOption-at_some _ _ _ c.in-Some.is c.in_ok-read_value.ensures) in
    record {
      within = omega (arith, found.within, c.loop-i.invariant.within, length-drop at bs);
      read = tuple_more cs bs c.args.values.now.items c.loop-i.values.items c.push.new.self.items i at w d v c.loop-i-test.true c.loop-i.invariant.read found c.in_ok-push-in-Some.ensures.items;
      back = tuple_back cs bs i at w d v c.loop-i-test.true c.loop-i.invariant.back found;
    }
