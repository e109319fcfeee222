use Rattle.span_session_checks.proofs.all_slots.sixteen_slots.Given as goal

-- the table and the schema that were just opened
abbrev pub ghosts-by_all : goal.ghosts-by_all
ghosts-by_all g a = record { table = a.opened.table; schema = a.opened.schema }
