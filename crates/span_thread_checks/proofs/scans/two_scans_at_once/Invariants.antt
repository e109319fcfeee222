use Rattle.span_thread_checks.proofs.scans.two_scans_at_once.Given as goal

-- the table and the schema that were just opened
abbrev pub ghosts-by_scans : goal.ghosts-by_scans
ghosts-by_scans g a = record { table = a.opened.table; schema = a.opened.schema }
