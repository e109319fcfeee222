use Rattle.std.proofs.Common.{sym, ◌∙◌}
use Rattle.span_command.proofs.Refusing.{no_param, whole_no_param, one_no_param, other_name, other_kind}
use Rattle.span_command.proofs.command.read_param.Goals as goal

pub returns-in_err-name : goal.returns-in_err-name
returns-in_err-name c = rw c.from_residual.ensures (no_param c.args.words.now (whole_no_param c.args.words.now c.in_err-name.ensures))

pub returns-in_err-kind : goal.returns-in_err-kind
returns-in_err-kind c = rw c.from_residual-in_err-kind.ensures (no_param c.args.words.now
    (one_no_param c.args.words.now c.in_ok-name.name.now c.in_ok-name.rest.now c.in_ok-name.ensures.0 c.in_ok-name.ensures.1 c.in_err-kind.ensures))

pub returns-then-not-is_name : goal.returns-then-not-is_name
returns-then-not-is_name c = no_param c.args.words.now
    (other_name c.args.words.now c.in_ok-name.name.now c.in_ok-name.rest.now c.in_ok-name.ensures.0 c.in_ok-name.ensures.1 (sym c.is_name.ensures ∙ c.if-not-is_name.true))

pub returns-in_err-kind-2 : goal.returns-in_err-kind-2
returns-in_err-kind-2 c = rw c.from_residual-in_err-kind-2.ensures (no_param c.args.words.now
    (other_kind c.args.words.now c.in_ok-name.name.now c.in_ok-name.rest.now c.in_ok-name.ensures.0 c.in_ok-name.ensures.1 c.in_ok-kind.kind.now c.in_ok-kind.cell.now c.in_ok-kind.ensures.0 c.in_ok-kind.ensures.1 c.in_err-kind-2.ensures))
