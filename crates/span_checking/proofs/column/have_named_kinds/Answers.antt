use Rattle.std.proofs.Common.{◌≡◌, ◌<◌, ◌&&◌, suc, Bool, true, sym, ◌∙◌, ap, arith, length, drop, get_or, add-one}
use Rattle.span_value.specs.declared.value.Kind.{Kind}
use Rattle.span_value.specs.declared.value.Kind.TheVariants as kind
use Rattle.span_mutate.specs.Typed.{are_named_kinds, is_named_kind}
use Rattle.span_checking.proofs.NamedKinds.{named_differ, named_step, named_fits_step}
use Rattle.span_checking.proofs.column.have_named_kinds.Goals as goal

pub returns-then-kinds-named-clause-kinds : goal.returns-then-kinds-named-clause-kinds
returns-then-kinds-named-clause-kinds c = sym (named_differ c.args.kinds.now c.args.named.now c.if-kinds-named.true)

pub loop-i-preserved : goal.loop-i-preserved
loop-i-preserved c =
    let ks = c.args.kinds.now in
    let vs = c.args.named.now in
    let i = c.loop-i.i in
    let within : i < length vs = omega arith in
    let d : Kind = kind.Int in
    let step = named_step ks vs i d c.index-named-i.result c.loop-i-test.true within c.index-named-i.is in
    let is : is_named_kind (get_or ks i d) c.index-named-i.result ≡ true = sym c.is_named_kind.ensures.kind ∙ c.if-not-is_named_kind.false in
    let fit = c.is_named_kind.ensures.fits c.if-not-is_named_kind.false in
    let below = named_fits_step ks vs i d c.index-named-i.result c.loop-i-test.true within c.index-named-i.is fit in
    rw (add-one i) (c.loop-i.invariant.0 ∙ step ∙ ap (λ (b : Bool). b && are_named_kinds (drop (suc i) ks) (drop (suc i) vs)) is, λ more. c.loop-i.invariant.1 (below more))
