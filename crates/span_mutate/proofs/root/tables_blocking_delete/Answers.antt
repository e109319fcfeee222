use Rattle.std.proofs.Common.{◌≡◌, ◌<◌, ◌+◌, ◌-◌, ◌++◌, ◌∷◌, [], ℕ, List, true, false, length, ap, ◌∙◌, arith}
use Rattle.std.specs.List.{filter, range_with_len}
use Rattle.span_mutate.specs.Database.{blocks_delete}
use Rattle.span_mutate.proofs.Runs.{number_kept, number_passed}
use Rattle.span_mutate.proofs.root.tables_blocking_delete.Goals as goal
use Rattle.span_mutate.proofs.root.tables_blocking_delete.Goals.{then-blocks_delete+in_ok-push, else-blocks_delete}

pub loop-i-preserved : goal.loop-i-preserved
loop-i-preserved c =
    let p = blocks_delete c.args.schema.now c.args.table in
    let n = length c.args.schema.now in
    let i = c.loop-i.i in
    let found = c.loop-i.found.items in
    let inside : i < n = omega arith in
    elim c.if-blocks_delete.branch [
      | then-blocks_delete+in_ok-push w ↦
          let now : c.if-blocks_delete.found.items ≡ found ++ (i + 1) ∷ [] = cc (w.found-is, w.in_ok-push.ensures.items) in
          let holds : p (i + 1) ≡ true = cc in
          ap (λ (ns : List ℕ). ns ++ filter p (range_with_len (i + 1 + 1) (n - (i + 1)))) now ∙ number_kept p n i found inside holds ∙ c.loop-i.invariant
      | else-blocks_delete w ↦
          let now : c.if-blocks_delete.found.items ≡ found = cc (w.found-is) in
          let fails : p (i + 1) ≡ false = cc in
          ap (λ (ns : List ℕ). ns ++ filter p (range_with_len (i + 1 + 1) (n - (i + 1)))) now ∙ number_passed p n i found inside fails ∙ c.loop-i.invariant
    ]
