use Rattle.std.proofs.Common.{subst}
use Rattle.span_schema.specs.Lineages.{MeetsRules}
use Rattle.span_machine.specs.Pieces.{machine_of}
use Rattle.span_core.specs.Promises.{IsRunTo, Promises, IsConsistent}
use Rattle.span_core.specs.Whole.{State}
use Rattle.span_core.proofs.Promised.{promised, runs_consistent}
use Rattle.span_core.proofs.database.Core.is_reached.Goals as goal

pub returns-clause-rules : goal.returns-clause-rules
returns-clause-rules c = subst (λ (st : State). MeetsRules st.schema) c.self.view_is c.self.invariant.whole.rules

pub returns-clause-reached : goal.returns-clause-reached
returns-clause-reached c = subst (λ (st : State). IsRunTo st.schema st.machine) c.self.view_is c.self.invariant.past

pub returns-clause-promises : goal.returns-clause-promises
returns-clause-promises c = subst (λ (st : State). Promises st.schema st.machine) c.self.view_is (promised c.self.inside.schema c.self.invariant.whole.rules (machine_of c.self.inside.journal))

pub returns-clause-consistent : goal.returns-clause-consistent
returns-clause-consistent c = subst (λ (st : State). IsConsistent st.schema st.machine) c.self.view_is (runs_consistent c.self.inside.schema c.self.invariant.whole.rules (machine_of c.self.inside.journal))
