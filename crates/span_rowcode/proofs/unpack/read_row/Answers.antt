use Rattle.std.proofs.Common.{ℕ, List, arith, subst, drop, get_or}
use Rattle.std.proofs.lemmas.Option.{MatchOption-at_some, MatchOption-at_none}
use Rattle.span_value.specs.declared.value.Kind.{Kind}
use Rattle.span_value.specs.declared.value.Kind.TheVariants as kind
use Rattle.span_rowcode.specs.Rows.{IsCell, IsNoCell, IsNoRow}
use Rattle.span_rowcode.proofs.RowReads.{IsNoCells, cells_more, cells_none, cells_back, cells_left}
use Rattle.span_rowcode.proofs.unpack.read_row.Goals as goal

no_row : (ks : List Kind) (bs : List ℕ) → IsNoCells ks bs → IsNoRow ks bs
no_row ks bs n = record { none = λ vs k e. n.none vs k.0 e }

pub returns-in-None : goal.returns-in-None
returns-in-None c =
    let ks = c.args.kinds.now in
    let bs = c.args.bytes.now in
    let i = c.loop-i.i in
    let P : List ℕ → Type 0 = IsNoCell (get_or ks i kind.Int) in
    let none : IsNoCell (get_or ks i kind.Int) (drop c.loop-i.at bs) = subst P c.after.ensures (MatchOption-at_none _ _ c.in-None.is c.in_ok-read_cell.ensures) in
    no_row ks bs (cells_none ks bs i c.loop-i.at kind.Int c.loop-i-test.true c.loop-i.invariant.back none)

pub loop-i-preserved : goal.loop-i-preserved
loop-i-preserved c =
    let ks = c.args.kinds.now in
    let bs = c.args.bytes.now in
    let i = c.loop-i.i in
    let at = c.loop-i.at in
    let v = c.in-Some.value in
    let w = c.in-Some.width in
    let P : List ℕ → Type 0 = λ xs. IsCell (get_or ks i kind.Int) xs v w in
    let found : IsCell (get_or ks i kind.Int) (drop at bs) v w = subst P c.after.ensures (MatchOption-at_some _ _ _ c.in-Some.is c.in_ok-read_cell.ensures) in
    record {
      read = cells_more ks bs c.loop-i.cells.items c.push.new.self.items i at w kind.Int v c.loop-i-test.true c.loop-i.invariant.read found c.in_ok-push-in-Some.ensures.items;
      back = cells_back ks bs i at w kind.Int v c.loop-i-test.true (omega (arith, c.requires)) c.loop-i.invariant.back found;
    }

pub returns-then-at-bytes : goal.returns-then-at-bytes
returns-then-at-bytes c =
    no_row c.args.kinds.now c.args.bytes.now (cells_left c.args.kinds.now c.args.bytes.now c.loop-i.i c.loop-i.at c.loop-i-test.false c.if-at-bytes.true c.loop-i.invariant.back)
