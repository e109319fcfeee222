use Rattle.std.proofs.Common.{List, sym, ap, ◌∙◌}
use Rattle.span_store.specs.KeyVersions.{KeyVersions}
use Rattle.span_store.specs.KeyLists.{row_now}
use Rattle.span_shard.proofs.NoRows.{in_empty}
use Rattle.span_shard.proofs.lookups.Lookups.row_now.Goals as goal

pub returns-then-is_in_empty : goal.returns-then-is_in_empty
returns-then-is_in_empty c =
    sym (in_empty c.self.inside.store.now c.self.inside.empty c.args.key.now c.self.invariant (sym c.is_in_empty.ensures ∙ c.if-is_in_empty.true))
    ∙ ap (λ (cs : List KeyVersions). row_now cs c.args.key.now) c.self.view_is
