use Rattle.std.proofs.Common.{◌∙◌, sym}
use Rattle.span_arena.specs.Content.{versions}
use Rattle.span_store.proofs.Seeing.{row_found, row_missing}
use Rattle.span_store.proofs.place.row_in.Goals as goal

pub returns-in-Some : goal.returns-in-Some
returns-in-Some c = c.image.ensures ∙ sym (row_found (versions c.args.arena.now c.args.chain.number) c.args.s c.in-Some.version (sym c.in-Some.ensures.first))

pub returns-in-None : goal.returns-in-None
returns-in-None c = sym (row_missing (versions c.args.arena.now c.args.chain.number) c.args.s (sym c.in-None.ensures.first))
