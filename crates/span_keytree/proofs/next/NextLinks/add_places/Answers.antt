use Rattle.std.proofs.Common.{◌∙◌, List, Option, ℕ, ap, map}
use Rattle.span_keytree.specs.Nexts.{Nexts, link_to}
use Rattle.span_keytree.proofs.More.{places_kept}
use Rattle.span_keytree.proofs.next.NextLinks.add_places.Goals as goal

pub returns-clause-ok : goal.returns-clause-ok
returns-clause-ok c =
    let i = c.self.inside in
    let links : List (Option ℕ) → Nexts = λ l. record { first = link_to i.first; next = l } in
    rw (← c.self.view_is) (ap links (ap (map link_to) c.in-Ok.ensures.items ∙ places_kept i.next.items c.args.count c.len-len.result _ (c.len-len.ensures ∙ i.next.ok.0) i.next.ok.0))
