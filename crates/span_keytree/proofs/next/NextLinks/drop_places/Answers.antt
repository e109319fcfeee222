use Rattle.std.proofs.Common.{◌∙◌}
use Rattle.span_keytree.proofs.Stored.{lasts_dropped}
use Rattle.span_keytree.proofs.next.NextLinks.drop_places.Goals as goal

pub returns : goal.returns
returns c = let i = c.self.inside in lasts_dropped i.first i.next.items c.truncate.new.self.items c.args.self.now c.len.result c.args.count c.self.view_is (c.len.ensures ∙ i.next.ok.0) c.truncate.ensures.items
