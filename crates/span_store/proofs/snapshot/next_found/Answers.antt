use Rattle.std.proofs.Common.{◌∙◌, ap, refl}
use Rattle.std.specs.List.{filter_map}
use Rattle.span_store.specs.Reads.{seen_entry}
use Rattle.span_store.proofs.Seeing.{chains_left, fewer_left, first_chain, seen_first, unseen_skipped}
use Rattle.span_store.proofs.snapshot.next_found.Goals as goal

pub loop-key-init : goal.loop-key-init
loop-key-init c = record { chains = c.requires; left = refl }

pub seen_row-requires : goal.seen_row-requires
seen_row-requires c = first_chain c.args.arena.now c.loop-key.keys c.next_late.new.self _ c.in-Some.ensures c.loop-key.invariant.chains

pub returns-in-Some-seen_row-clause-chains : goal.returns-in-Some-seen_row-clause-chains
returns-in-Some-seen_row-clause-chains c = chains_left c.args.arena.now c.loop-key.keys c.next_late.new.self _ c.in-Some.ensures c.loop-key.invariant.chains

pub returns-in-Some-seen_row-clause-row : goal.returns-in-Some-seen_row-clause-row
returns-in-Some-seen_row-clause-row c =
    c.loop-key.invariant.left ∙ seen_first c.args.arena.now c.args.s c.loop-key.keys c.next_late.new.self _ _ c.in-Some.ensures c.in-Some-seen_row.ensures

pub loop-key-preserved : goal.loop-key-preserved
loop-key-preserved c = record {
  chains = chains_left c.args.arena.now c.loop-key.keys c.next_late.new.self _ c.in-Some.ensures c.loop-key.invariant.chains;
  left = c.loop-key.invariant.left ∙ unseen_skipped c.args.arena.now c.args.s c.loop-key.keys c.next_late.new.self _ c.in-Some.ensures c.in_default-seen_row.ensures;
}

pub loop-key-smaller : goal.loop-key-smaller
loop-key-smaller c = fewer_left c.loop-key.keys c.next_late.new.self _ c.in-Some.ensures

pub returns-clause-row : goal.returns-clause-row
returns-clause-row c =
    let seen = filter_map (seen_entry c.args.arena.now c.args.s) in
    (c.loop-key.invariant.left ∙ ap seen c.in_default.ensures.0, ap seen c.in_default.ensures.1)
