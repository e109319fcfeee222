use Rattle.span_thread_checks.proofs.workers.two_workers.Given as goal

-- the table and the schema that were just opened
abbrev pub ghosts-by_workers : goal.ghosts-by_workers
ghosts-by_workers g a = record { table = a.opened.table; schema = a.opened.schema }
