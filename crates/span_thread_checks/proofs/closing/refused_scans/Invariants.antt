use Rattle.span_thread_checks.proofs.closing.refused_scans.Given as goal

-- the table and the schema that were just opened
abbrev pub ghosts-by_refused : goal.ghosts-by_refused
ghosts-by_refused g a = record { table = a.opened.table; schema = a.opened.schema }
