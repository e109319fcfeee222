use Rattle.std.proofs.Common.{ℕ, List, sym, ap, ◌∙◌, subst}
use Rattle.span_arena.specs.Content.{Content}
use Rattle.span_keytree.specs.Entries.{KeyEntry, IsSlotFor, entries_from}
use Rattle.span_keyindex.specs.Indexes.{entries_of}
use Rattle.span_keyindex.proofs.Splitting.{IsCopying, no_chain, rising_from, copying_starts, copying_more, copying_ends}
use Rattle.span_keyindex.proofs.split.copy_keys.Goals as goal

pub loop-bytes-init : goal.loop-bytes-init
loop-bytes-init g c = record {
  can_next = tt;
  is_finite = tt;
  so_far =
      let part = entries_from c.args.low.now (entries_of c.args.index.now c.args.arena.now) in
      let empty = c.with_most-chains.ensures ∙ ap no_chain c.most.ensures in
      subst (λ (left : List KeyEntry). IsCopying part left c.args.arena.now.most c.new-part.result c.with_most-chains.result) {x = entries_from c.args.low.now (entries_of c.args.index.now c.args.arena.now)} {y = c.walk_from-left.result} (sym {b = entries_from c.args.low.now (entries_of c.args.index.now c.args.arena.now)} c.walk_from-left.ensures.entries)
      (copying_starts part c.args.arena.now.most c.new-part.result c.with_most-chains.result
      (c.new-part.ensures c.with_most-chains.result (ap (λ (a : Content). a.chains) empty) (ap (λ (a : Content). a.cells) empty)) empty);
}

pub loop-bytes-preserved : goal.loop-bytes-preserved
loop-bytes-preserved g c = record {
  can_next = tt;
  is_finite = tt;
  so_far =
      let part = entries_from c.args.low.now (entries_of c.args.index.now c.args.arena.now) in
      let rising = rising_from c.args.low.now (entries_of c.args.index.now c.args.arena.now) c.requires.index.search.rising in
      copying_more part c.loop-bytes.left c.next.new.self _ c.args.arena.now.most c.loop-bytes.part c.slot_for.new.self c.loop-bytes.chains c.slot_for.new.arena c.in_ok-_chain._chain rising c.loop-bytes.invariant.so_far c.in-Some.ensures.steps
      (subst (λ (key : List ℕ). IsSlotFor (entries_of c.loop-bytes.part c.loop-bytes.chains) (entries_of c.slot_for.new.self c.slot_for.new.arena) c.loop-bytes.chains c.slot_for.new.arena key c.in_ok-_chain._chain) c.in-Ok.ensures.bytes c.in_ok-_chain.ensures.ok)
      c.slot_for.ensures.own;
}

pub returns-clause-ok : goal.returns-clause-ok
returns-clause-ok g c = copying_ends c.args.low.now (entries_of c.args.index.now c.args.arena.now) c.loop-bytes.left c.args.arena.now.most c.loop-bytes.part c.loop-bytes.chains c.loop-bytes.invariant.so_far c.in_default.ensures.steps.0
