use Rattle.std.proofs.Common.{rules, ◌≡◌, ◌∙◌, ℕ, ◌+◌, ◌++◌, length, get_or, ap, sym, subst, arith}
use Rattle.std.proofs.lemmas.List.{get_or-append-add, length-append}
use Rattle.span_threads.specs.Parts.{ChangesFrom}
use Rattle.span_threads.proofs.Parts.{changes_both}
use Rattle.span_threads.proofs.changes.+parts.Goals as goal

pub parts_from-both_parts-requires-clause-others :
    goal.parts_from-both_parts-requires-clause-others
parts_from-both_parts-requires-clause-others g t c κs within k d less p is =
    let cut = c.split_at_mut-first in
    let first = cut.result.0.now in
    let others = cut.result.1.now in
    let size : ℕ = c.args.size in
    let long : length first ≡ size = search rules in
    let whole : c.args.items.now ≡ first ++ others = search rules in
    let item : get_or c.args.items.now (size + k) d ≡ get_or others k d =
    ap (λ l. get_or l (size + k) d) whole ∙ ap (λ (n : ℕ). get_or (first ++ others) (n + k) d) (sym long) ∙ get_or-append-add first others k d in
    subst (λ (n : ℕ). g.F.Fn.pre c.args.f.now (n, (p, tt {0}))) (omega arith)
    (c.requires.accepts (size + k) d (omega (arith, less, long, ap length whole, length-append first others)) p (is ∙ sym item))

pub parts_from-returns : goal.parts_from-returns
parts_from-returns g t c =
    let cut = c.split_at_mut-first in
    let first = cut.result.0.now in
    let others = cut.result.1.now in
    let long : length first ≡ c.args.size = search rules in
    let whole : c.args.items.now ≡ first ++ others = search rules in
    subst (λ l. ChangesFrom g.F.Fn c.args.f.now c.args.base l (c.both_parts.new.first ++ c.both_parts.new.others)) (sym whole)
    (changes_both g.F.Fn c.args.f.now c.args.base first others c.both_parts.new.first c.both_parts.new.others c.args.size long c.both_parts.ensures.first c.both_parts.ensures.others)
