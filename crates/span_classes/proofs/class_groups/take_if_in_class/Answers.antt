use Rattle.std.proofs.Common.{rules, ◌≡◌, ◌∙◌, ◌++◌, [], ◌∷◌, ℕ, List, true, ap, sym}
use Rattle.std.proofs.lemmas.Bool.{eq-eqb}
use denote.Ref.{Bor}
use Rattle.span_query.specs.Rows.{Row}
use Rattle.span_query.specs.Groups.{columns_at}
use Rattle.span_rows.specs.LentRows.{lent_rows}
use Rattle.span_collected.specs.declared.lent.LentGroups.{LentGroups}
use Rattle.span_groups.proofs.GroupSteps.{lent-push}
use Rattle.span_classes.specs.Classes.{is_in_class}
use Rattle.span_classes.proofs.Taking.{taken_own}
use Rattle.span_classes.proofs.class_groups.take_if_in_class.Goals as goal

pub returns-in_ok-push_if-2-clause-ok : goal.returns-in_ok-push_if-2-clause-ok
returns-in_ok-push_if-2-clause-ok c taken rest count h =
    let g = c.args.grouping.now in
    let old : LentGroups = c.args.groups.now in
    let now : LentGroups = record { firsts = c.push_if.new.items; states = c.take_row.new.states } in
    let firsts : List ℕ = c.args.firsts.now.items in
    let same : c.args.number ≡ c.args.class.number = search rules in
    let its : is_in_class c.args.class (columns_at g.keys c.args.row.now) ≡ true = eq-eqb _ _ (sym c.requires.number ∙ same) in
    taken_own g c.args.class c.requires.keyed taken rest c.args.row.now its c.args.index.now.keys c.take_row.new.index.keys c.in_ok-is_new.ensures.keys c.in_ok-is_new.is_new old now firsts
    c.push_if-then-number-class.new.items.items c.in_ok-is_new.ensures.added
    c.in_ok-is_new.ensures.ok
    (λ new. ap lent_rows (c.in_ok-push_if.ensures.added new) ∙ lent-push old.firsts.items c.args.row)
    (λ known. ap lent_rows (c.in_ok-push_if.ensures.same known))
    (λ new. c.in_ok-push_if-2.ensures.added new ∙ ap (λ (n : ℕ). firsts ++ n ∷ []) (sym count))
    c.in_ok-push_if-2.ensures.same h
