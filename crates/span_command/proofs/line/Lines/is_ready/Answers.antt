use Rattle.std.proofs.Common.{refl, inl, inr, ⊎_elim}
use Rattle.span_command.specs.Unread.{HoldsSame}
use Rattle.span_command.proofs.Steps.{lf_held, no_lf_held}
use Rattle.span_command.proofs.line.Lines.is_ready.Goals as goal

pub returns-then-self-clause-ready : goal.returns-then-self-clause-ready
returns-then-self-clause-ready c =
    let lines = c.search.new.self in
    let same : HoldsSame lines lines = record { held = refl; is_cut = refl; has_ended = refl } in
    ((λ t. inl (lf_held lines lines same c.if-self.true (c.search.ensures.found c.if-self.true))), (λ r. refl))

pub returns-clause-ready : goal.returns-clause-ready
returns-clause-ready c =
    let lines = c.search.new.self in
    let same : HoldsSame lines lines = record { held = refl; is_cut = refl; has_ended = refl } in
    ((λ t. inr t), (λ r. ⊎_elim (λ some. absurd (no_lf_held lines lines same c.if-self.false some)) (λ ended. ended) r))
