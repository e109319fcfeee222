use Rattle.span_session_checks.proofs.steps.two_slots.Given as goal

-- the table and the schema that were just opened
abbrev pub ghosts-by_slots : goal.ghosts-by_slots
ghosts-by_slots g a = record { table = a.opened.table; schema = a.opened.schema }
