use Rattle.std.proofs.Common.{ℕ, ◌≤◌, List, arith, subst, length}
use Rattle.std.proofs.lemmas.Option.{MatchOption-at_some, MatchOption-at_none}
use Rattle.span_keycode.specs.Reads.{IsNoColumn}
use Rattle.span_rowreader.specs.Placed.{IsColumnPut}
use Rattle.span_rowreader.proofs.KeyReads.{read_put, no_read}
use Rattle.span_rowreader.proofs.reads.put_read.Goals as goal

pub returns-in-None : goal.returns-in-None
returns-in-None c =
    let P : List ℕ → Type 0 = IsNoColumn c.args.read.column in
    no_read c.args.read c.args.bytes.now (subst P c.after.ensures (MatchOption-at_none _ _ c.in-None.is c.in_ok-put_column.ensures))

pub returns-in-Some : goal.returns-in-Some
returns-in-Some c =
    let P : List ℕ → Type 0 = λ xs. IsColumnPut c.args.wanted.now c.args.read.column c.args.read.place xs c.args.row.now.items c.put_column.new.row.items c.in-Some.width in
    let long : c.args.read.above ≤ length c.args.bytes.now = (let short = c.if-bytes-read.false in omega arith) in
    read_put c.args.wanted.now c.args.read c.args.bytes.now c.args.row.now.items c.put_column.new.row.items c.in-Some.width long
    (subst P c.after.ensures (MatchOption-at_some _ _ _ c.in-Some.is c.in_ok-put_column.ensures))
