use Rattle.std.proofs.lemmas.Option.{slice_get_within}
use Rattle.span_machine.specs.declared.step.Reply.TheVariants as reply
use Rattle.span_parts.specs.Replies.{as_reply}
use Rattle.span_locks.proofs.Replying.{begun_replies}
use Rattle.span_board.proofs.Stories.{decides_begun}
use Rattle.span_session.proofs.db.Db.commit_begun.Goals as goal

pub publish_begun-requires : goal.publish_begun-requires
publish_begun-requires g c = slice_get_within c.args.me.now.begun c.args.place c.requires.begun c.requires.there

pub returns-clause-decided : goal.returns-clause-decided
returns-clause-decided g c = decides_begun c.args.me.now c.publish_begun.new.me c.args.number c.args.place c.requires c.publish_begun.result c.publish_begun.ensures.ok c.publish_begun.ensures.err

pub returns-clause-reply : goal.returns-clause-reply
returns-clause-reply g c =
    let a = c.args in
    begun_replies g.J.Naming.schema _ a.me.now a.number a.place c.requires a.interval (as_reply reply.Decided c.publish_begun.result) c.publish_begun.ensures.reply
