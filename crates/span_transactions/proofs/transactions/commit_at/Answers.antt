use Rattle.std.proofs.Common.{refl, sym, ap, ◌∙◌, ◌≡◌, ◌+◌, arith, subst, cond, Some, true, false}
use Rattle.std.specs.Prelude.{slice_get, slice_set, count_by, IfSome}
use Rattle.std.proofs.lemmas.Option.{slice_get_read}
use Rattle.span_machine.specs.Machine.{is_undecided}
use Rattle.span_machine.proofs.Places.{count_by-set}
use Rattle.span_transactions.proofs.transactions.commit_at.Goals as goal

pub returns-clause-fewer : goal.returns-clause-fewer
returns-clause-fewer c =
    let items = c.args.transactions.now.items in
    let x = c.index_mut.result.now in
    let here : slice_get items c.args.at ≡ Some x = slice_get_read items _ c.args.at x refl c.requires.within c.index_mut.ensures.value in
    let was : is_undecided x ≡ true = subst (λ o. IfSome o (λ t. is_undecided t ≡ true)) here c.requires.open in
    let now : is_undecided c.commit.new.self ≡ false = ap is_undecided c.commit.ensures.after in
    let count = count_by-set is_undecided items c.args.at x c.commit.new.self here in
    let counted : count_by is_undecided (slice_set items c.args.at c.commit.new.self) + 1 ≡ count_by is_undecided items + 0 =
    ap (λ b. count_by is_undecided (slice_set items c.args.at c.commit.new.self) + cond b 1 0) (sym was) ∙ count ∙ ap (λ b. count_by is_undecided items + cond b 1 0) now in
    omega (arith, counted)
