use Rattle.std.proofs.Common.{◌≡◌, List, subst}
use Rattle.span_store.specs.KeyVersions.{KeyVersions}
use Rattle.span_shard.specs.Overlay.{AreRunsOf, AreWritesAt}
use Rattle.span_shard.proofs.RunAll.{writes_made}
use Rattle.span_shard.proofs.change.writes_of.Goals as goal

pub returns-clause-ok : goal.returns-clause-ok
returns-clause-ok c =
    let same : c.in_ok-lookups.lookups ≡ c.args.store.now = c.in_ok-lookups.ensures in
    let ws = c.in_ok-writes_of_changes.field-0.items in
    writes_made c.args.schema.now c.meets_rules.ensures c.args.mutations.now c.requires.typed c.args.store.now c.in_ok-changes.changes ws
    (subst (λ (cs : List KeyVersions). AreRunsOf c.args.schema.now c.args.mutations.now cs c.in_ok-changes.changes) same c.in_ok-changes.ensures.ok)
    (subst (λ (cs : List KeyVersions). AreWritesAt cs c.in_ok-changes.changes ws) same c.in_ok-writes_of_changes.ensures)
