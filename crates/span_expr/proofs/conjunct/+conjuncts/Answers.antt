use Rattle.std.proofs.Common.{◌≡◌, ◌∙◌, sym, ap, ◌++◌, ◌∷◌, [], List, map, flat_map, Result, Ok, Err, OnOk, Bor, append_assoc}
use Rattle.std.proofs.lemmas.List.{map-append}
use Rattle.span_expr.specs.declared.expr.Expr.{Expr}
use Rattle.span_expr.specs.Conjuncts.{conjuncts}
use Rattle.span_expr.proofs.Conjuncts.{conjuncts-alone, conjuncts_of_and}
use Rattle.span_expr.proofs.conjunct.+conjuncts.Goals as goal

abbrev lent : List (Bor Expr) → List Expr
lent es = map (λ (e : Bor Expr). e.now) es

one_added : (old new : List (Bor Expr)) (e : Bor Expr) → new ≡ old ++ e ∷ [] → conjuncts e.now ≡ e.now ∷ [] → lent new ≡ lent old ++ conjuncts e.now
one_added old new e pushed alone = ap lent pushed ∙ map-append (λ (x : Bor Expr). x.now) old (e ∷ []) ∙ ap (λ (es : List Expr). lent old ++ es) (sym alone)

both_added : {A E : Type 0} (result : Result A E) (old middle new first rest all : List Expr) → middle ≡ old ++ first → OnOk result (new ≡ middle ++ rest) → first ++ rest ≡ all → OnOk result (new ≡ old ++ all)
both_added (Ok x) old middle new first rest all begun is whole = is ∙ ap (λ (es : List Expr). es ++ rest) begun ∙ append_assoc old first rest ∙ ap (λ (es : List Expr). old ++ es) whole
both_added (Err why) old middle new first rest all begun is whole = is

pub add_conjuncts-returns-in_ok-push-in_default : goal.add_conjuncts-returns-in_ok-push-in_default
add_conjuncts-returns-in_ok-push-in_default t c =
    one_added c.args.found.now.items c.push.new.self.items c.args.expr c.in_ok-push-in_default.ensures.items (conjuncts-alone c.args.expr.now c.in_default.not-And)

pub add_conjuncts-returns-in_ok-add_conjuncts-in-And : goal.add_conjuncts-returns-in_ok-add_conjuncts-in-And
add_conjuncts-returns-in_ok-add_conjuncts-in-And t c =
    both_added c.add_all_conjuncts.result (lent c.args.found.now.items) (lent c.add_conjuncts.new.found.items) (lent c.add_all_conjuncts.new.found.items)
    (conjuncts c.get.result.now) (flat_map conjuncts c.as_slice.result.now) (conjuncts c.args.expr.now)
    c.in_ok-add_conjuncts-in-And.ensures c.add_all_conjuncts.ensures
    (conjuncts_of_and c.args.expr.now c.in-And.first c.get.result.now c.in-And.more c.as_slice.result.now c.in-And.is c.get.ensures c.as_slice.ensures)
