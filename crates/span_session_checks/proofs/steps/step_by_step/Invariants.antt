use Rattle.span_session_checks.proofs.steps.step_by_step.Given as goal

-- the table and the schema that were just opened
abbrev pub ghosts-by_one : goal.ghosts-by_one
ghosts-by_one g a = record { table = a.opened.table; schema = a.opened.schema }
