use Rattle.std.proofs.Common.{◌==◌, List, ap, ◌∙◌}
use Rattle.std.specs.Prelude.{position}
use Rattle.span_board.specs.declared.begun.Begun.{Begun}
use Rattle.span_board.specs.Rule.{SessionHistory}
use Rattle.span_board.proofs.Stories.{begun_there}
use Rattle.span_board.proofs.session.Session.begun_at.Goals as goal

pub returns : goal.returns
returns g c = begun_there c.args.self.now c.args.number c.place_of.result (c.place_of.ensures ∙ ap (λ (l : List Begun). position (λ (b : Begun). b.number == c.args.number) l) (c.as_slice.ensures.value ∙ ap (λ (v : SessionHistory). v.begun) c.self.view_is))
