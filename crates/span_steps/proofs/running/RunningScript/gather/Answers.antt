use Rattle.std.proofs.Common.{◌∙◌, ◌++◌, [], ◌∷◌, List, ap}
use Rattle.span_mutate.specs.declared.mutation.Mutation.{Mutation}
use Rattle.span_mutate.specs.declared.batch.Heading.{Heading}
use Rattle.span_mutate.specs.Batches.{row_mutations}
use Rattle.span_records.specs.Layouts.{heading_of}
use Rattle.span_steps.proofs.Loads.{more_gathered}
use Rattle.span_steps.proofs.running.RunningScript.gather.Goals as goal

pub returns : goal.returns
returns c =
    let self = c.args.self.now in
    let rows = c.args.rows.items in
    let is = c.in_ok-push.ensures.items ∙ ap (λ (batch : List Mutation). self.gathered.items ++ batch ∷ []) (c.new.ensures ∙ ap (λ (h : Heading). row_mutations h rows) c.in_ok-heading.ensures) in
    more_gathered self.clock self.params self.gathered.items c.push.new.self.items (row_mutations (heading_of c.args.layout c.args.kind) rows) self.load c.requires is
