use Rattle.span_keytree.proofs.Stored.{first_put, next_put}
use Rattle.span_keytree.proofs.next.NextLinks.put_after.Goals as goal

pub returns-in-None : goal.returns-in-None
returns-in-None c = let i = c.self.inside in first_put i.first i.next.items c.args.self.now c.args.before c.args.cell c.self.view_is c.self.invariant c.requires.cell c.in-None.is

pub returns-in-Some : goal.returns-in-Some
returns-in-Some c = let i = c.self.inside in
    next_put i.first i.next.items c.args.self.now c.args.before c.in-Some.before c.args.cell c.index.result.now c.self.view_is c.self.invariant c.requires.cell c.requires.before c.in-Some.is c.index.ensures
