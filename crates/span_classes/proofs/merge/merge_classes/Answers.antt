use Rattle.std.proofs.Common.{rules, ◌≡◌, ◌≤◌, ℕ, length, sym, subst, arith}
use Rattle.std.proofs.lemmas.List.{length-map}
use Rattle.span_classes.specs.declared.class_groups.ClassGroups.{ClassGroups}
use Rattle.span_classes.specs.Merging.{AreMergedBefore, firsts_of}
use Rattle.span_classes.proofs.ByRows.{rows_all, rows_start}
use Rattle.span_classes.proofs.merge.merge_classes.Goals as goal

pub loop-row-init : goal.loop-row-init
loop-row-init c =
    let many : length c.args.classes.now ≡ length (firsts_of c.args.classes.now) = sym (length-map c.args.classes.now (λ (x : ClassGroups). x.firsts.items)) in
    rows_start c.args.numbers.now (firsts_of c.args.classes.now) (length c.args.classes.now) c.in_ok-taken.taken.items c.in_ok-places.places.items many (search rules) (search rules)

pub returns : goal.returns
returns c =
    let ended : c.loop-row.row ≡ length c.args.numbers.now = omega arith in
    rows_all c.args.numbers.now (firsts_of c.args.classes.now) c.loop-row.taken.items c.loop-row.places.items c.requires
    (subst (λ (n : ℕ). AreMergedBefore c.args.numbers.now (firsts_of c.args.classes.now) c.loop-row.taken.items c.loop-row.places.items n) ended c.loop-row.invariant)
