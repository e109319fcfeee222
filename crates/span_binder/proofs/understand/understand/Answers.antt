use Rattle.span_binder.proofs.Understanding.{bound_answers, no_text_answers, bound_only, refused_only, ok_part, err_part, leaves_part}
use Rattle.span_binder.proofs.QueryFaults.{text_fault, tree_part}
use Rattle.span_binder.proofs.understand.understand.Goals as goal

pub returns-in-Ok : goal.returns-in-Ok
returns-in-Ok c =
    let schema = c.args.schema.now in
    let text = c.args.text.now in
    let params = c.args.params.now in
    let answers = bound_answers schema text params c.in-Ok.tree c.bind-statement.result c.in-Ok.ensures.read c.bind-statement.ensures.statement in
    record {
      understood = ok_part schema text params c.bind-statement.result answers;
      refused = err_part schema text params c.bind-statement.result answers;
      all = bound_only schema text params c.in-Ok.tree c.bind-statement.result c.in-Ok.ensures.read_all c.in-Ok.ensures.refused_all c.bind-statement.ensures.statement;
      faults = tree_part c.bind-statement.result c.bind-statement.ensures.faults;
      leaves = leaves_part schema c.bind-statement.result c.bind-statement.ensures.leaves;
    }

pub returns-in-Err : goal.returns-in-Err
returns-in-Err c =
    let schema = c.args.schema.now in
    let text = c.args.text.now in
    let params = c.args.params.now in
    record {
      understood = tt;
      refused = no_text_answers schema text params c.in-Err.fault.refusal c.in-Err.ensures.refused;
      all = refused_only schema text params c.in-Err.fault.refusal c.in-Err.ensures.read_all c.in-Err.ensures.refused_all;
      faults = text_fault text c.in-Err.fault.refusal c.in-Err.ensures.refused;
      leaves = tt;
    }
