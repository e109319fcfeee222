use Rattle.std.proofs.Common.{ℕ, List, false, arith, subst, length-drop, get_or}
use Rattle.std.proofs.lemmas.Option.{MatchOption-at_some, MatchOption-at_none}
use Rattle.span_value.specs.declared.value.Kind.TheVariants as kind
use Rattle.span_rowreader.specs.declared.reads.KeyRead.{KeyRead}
use Rattle.span_rowreader.specs.Reads.{IsReadPut, IsNoRead}
use Rattle.span_rowreader.proofs.KeyReads.{all_reads_left, read_at, no_read_at, reads_end}
use Rattle.span_rowreader.proofs.reads.put_key.Goals as goal

abbrev nothing : KeyRead
nothing = record { above = 0; column = record { kind = kind.Int; desc = false }; place = 0 }

pub loop-i-init : goal.loop-i-init
loop-i-init c = record { within = omega arith; left = all_reads_left c.args.wanted.now c.args.reads.now c.args.key.now c.args.row.now.items }

pub returns-in-None : goal.returns-in-None
returns-in-None c =
    let rs = c.args.reads.now in
    let i = c.loop-i.i in
    let P : List ℕ → Type 0 = IsNoRead (get_or rs i nothing) in
    no_read_at c.args.wanted.now rs c.args.key.now c.args.row.now.items c.loop-i.row.items c.put_read.new.row.items i c.loop-i.at nothing c.loop-i-test.true
    (subst P c.after.ensures (MatchOption-at_none _ _ c.in-None.is c.in_ok-put_read.ensures)) c.loop-i.invariant.left

pub loop-i-preserved : goal.loop-i-preserved
loop-i-preserved c =
    let ms = c.args.wanted.now in
    let rs = c.args.reads.now in
    let bs = c.args.key.now in
    let i = c.loop-i.i in
    let at = c.loop-i.at in
    let row = c.loop-i.row.items in
    let new = c.put_read.new.row.items in
    let w = c.in-Some.width in
    let P : List ℕ → Type 0 = λ xs. IsReadPut ms (get_or rs i nothing) xs row new w in
    let one = subst P c.after.ensures (MatchOption-at_some _ _ _ c.in-Some.is c.in_ok-put_read.ensures) in
    record {
      within = omega (arith, one.within, c.loop-i.invariant.within, length-drop at bs);
      left = read_at ms rs bs c.args.row.now.items row new i at w nothing c.loop-i-test.true one c.loop-i.invariant.left;
    }

pub returns : goal.returns
returns c =
    reads_end c.args.wanted.now c.args.reads.now c.args.key.now c.args.row.now.items c.loop-i.row.items c.loop-i.i c.loop-i.at (let stop = c.loop-i-test.false in omega arith) c.loop-i.invariant.left
