use Rattle.std.proofs.Common.{◌≡◌, ◌<◌, ◌&&◌, suc, Bool, true, false, sym, ◌∙◌, ap, arith, length, drop, get_or, add-one}
use Rattle.span_value.specs.declared.value.Kind.TheVariants as kind
use Rattle.span_schema.specs.declared.layout.KeyPart.{KeyPart}
use Rattle.span_keycode.specs.Coding.{are_of_kinds, is_of_kind}
use Rattle.span_keycode.proofs.KindTests.{kinds_differ, kinds_step, fits_step}
use Rattle.span_keycode.proofs.column.have_kinds.Goals as goal

pub returns-then-columns-values-clause-kinds : goal.returns-then-columns-values-clause-kinds
returns-then-columns-values-clause-kinds c = sym (kinds_differ c.args.columns.now c.args.values.now c.if-columns-values.true)

pub loop-i-preserved : goal.loop-i-preserved
loop-i-preserved c =
    let cs = c.args.columns.now in
    let vs = c.args.values.now in
    let i = c.loop-i.i in
    let within : i < length vs = omega arith in
    let d : KeyPart = record { kind = kind.Int; desc = false } in
    let step = kinds_step cs vs i d c.index-values-i.result c.loop-i-test.true within c.index-values-i.is in
    let is : is_of_kind (get_or cs i d).kind c.index-values-i.result ≡ true = sym c.is_of_kind.ensures.kind ∙ c.if-not-is_of_kind.false in
    let fit = c.is_of_kind.ensures.fits c.if-not-is_of_kind.false in
    let below = fits_step cs vs i d c.index-values-i.result c.loop-i-test.true within c.index-values-i.is fit in
    rw (add-one i) (c.loop-i.invariant.0 ∙ step ∙ ap (λ (b : Bool). b && are_of_kinds (drop (suc i) cs) (drop (suc i) vs)) is, λ more. c.loop-i.invariant.1 (below more))
