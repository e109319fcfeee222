use Rattle.std.proofs.Common.{◌∙◌, ℕ, List, ap, set, sym}
use Rattle.std.proofs.lemmas.List.{map-set}
use Rattle.span_arena.specs.Cells.{kept_length}
use Rattle.span_arena.proofs.cells.Cells.replace.Goals as goal

pub invariant_of-self : goal.invariant_of-self
invariant_of-self c =
    ap (set c.self.inside.lengths.items c.args.number) c.length_of.ensures
    ∙ ap (λ (ls : List ℕ). set ls c.args.number (kept_length c.args.cell)) c.self.invariant
    ∙ sym (map-set kept_length c.self.inside.cells.items c.args.number c.args.cell)
