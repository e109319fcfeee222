use Rattle.std.proofs.Common.{◌≡◌, ◌∙◌, ap, refl}
use Rattle.span_keytree.specs.Nexts.{with_places, without_places}
use Rattle.span_keytree.proofs.More.{places_dropped}
use Rattle.span_keyindex.proofs.More.{entries_more, own_more}
use Rattle.span_keyindex.proofs.index.KeyIndex.add_free_chains.Goals as goal

pub returns-in-Ok-clause-own : goal.returns-in-Ok-clause-own
returns-in-Ok-clause-own c =
    let i = c.args.self.now in
    let places = c.in_ok-add_places.ensures.ok ∙ ap (λ n. with_places n i.nexts) c.len-count.ensures in
    own_more i (record { tree = i.tree; nexts = c.add_places.new.self }) _ c.args.arena.now c.add_free_chains.new.self c.in-Ok.ensures.ok places refl c.requires

pub returns-in-Ok-clause-entries : goal.returns-in-Ok-clause-entries
returns-in-Ok-clause-entries c =
    let i = c.args.self.now in
    entries_more i (record { tree = i.tree; nexts = c.add_places.new.self }) _ c.args.arena.now c.add_free_chains.new.self c.in-Ok.ensures.ok refl

pub returns-in-Err-clause-own : goal.returns-in-Err-clause-own
returns-in-Err-clause-own c =
    let i = c.args.self.now in
    let nexts : c.drop_places.new.self ≡ i.nexts = c.drop_places.ensures ∙ ap (λ n. without_places c.len-count.result n) c.in_ok-add_places.ensures.ok ∙ places_dropped i.nexts c.len-count.result in
    rw (nexts, c.in-Err.ensures.err) c.requires
