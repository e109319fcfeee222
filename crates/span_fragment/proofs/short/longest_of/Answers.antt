use Rattle.std.proofs.Common.{◌≤◌, ◌+◌, ℕ, take, subst, sym, arith}
use Rattle.span_entries.specs.Longest.{AreLongest}
use Rattle.span_rowreader.proofs.Entries.{all_next}
use Rattle.span_tablescan.proofs.ShortKeys.{longest_next, longest_raised}
use Rattle.span_fragment.proofs.short.longest_of.Goals.{then-most-longest, else-most-longest}
use Rattle.span_fragment.proofs.short.longest_of.Goals as goal

pub loop-table-preserved : goal.loop-table-preserved
loop-table-preserved c =
    let schema = c.args.schema.now in let tables = c.args.tables.now in
    let at = c.loop-table.table-index in let here = c.longest_key-longest.result in
    let raised : (next : ℕ) → c.loop-table.most ≤ next → here ≤ next → AreLongest schema (take (at + 1) tables) next =
    λ next most longest. longest_next schema tables at c.loop-table.most next c.loop-table-test.true most c.loop-table.invariant.longest (longest_raised schema _ here next longest c.longest_key-longest.ensures) in
    record {
      tables = all_next schema tables at c.loop-table-test.true c.loop-table.invariant.tables;
      longest = elim c.if-most-longest.branch [
        | then-most-longest w ↦ subst (AreLongest schema (take (at + 1) tables)) (sym w.most-is) (raised here (let lt = w.if-most-longest.true in omega arith) (omega arith))
        | else-most-longest w ↦ subst (AreLongest schema (take (at + 1) tables)) (sym w.most-is) (raised c.loop-table.most (omega arith) (let le = w.if-most-longest.false in omega arith))
      ];
    }
