use Rattle.std.proofs.Common.{rules, ◌≡◌, ◌<◌, ◌^◌, length, arith, subst, sym}
use Rattle.std.proofs.lemmas.Option.{MatchOption-at_some}
use Rattle.span_value.specs.declared.value.Kind.{Kind}
use Rattle.span_value.specs.declared.value.Kind.TheVariants as kind
use Rattle.span_value.specs.declared.value.Value.TheVariants as value
use Rattle.span_rowcode.specs.Rows.{IsCell}
use Rattle.span_rowreader.proofs.AddedCells.{last_cell_put}
use Rattle.span_rowreader.proofs.added.put_last_cell.Goals as goal

-- a text, which is copied to its place
pub returns-in-Some : goal.returns-in-Some
returns-in-Some c =
    let small : length c.args.bytes.now < 2 ^ 32 = omega (arith, c.requires.bytes) in
    let is : c.args.kind ≡ kind.Str = search rules in
    last_cell_put c.args.wanted.now c.args.kind c.args.place c.args.bytes.now c.args.rows.now c.put_text.new.self (value.Str c.in-Some.text.now) c.in-Some.width small c.requires.wanted
    (subst (λ (k : Kind). IsCell k c.args.bytes.now (value.Str c.in-Some.text.now) c.in-Some.width) (sym is) c.in-Some.ensures) c.in_ok-put_text.ensures

pub returns-in-Some-2 : goal.returns-in-Some-2
returns-in-Some-2 c =
    let small : length c.args.bytes.now < 2 ^ 32 = omega (arith, c.requires.bytes) in
    last_cell_put c.args.wanted.now c.args.kind c.args.place c.args.bytes.now c.args.rows.now c.put_value.new.self c.in-Some-2.value c.in-Some-2.width small c.requires.wanted
    (MatchOption-at_some _ _ _ c.in-Some-2.is c.in_ok-read_cell.ensures) c.put_value.ensures
