use Rattle.span_thread_checks.proofs.callers.sixteen_callers.Given as goal

-- the table and the schema that were just opened
abbrev pub ghosts-by_callers : goal.ghosts-by_callers
ghosts-by_callers g a = record { table = a.opened.table; schema = a.opened.schema }
