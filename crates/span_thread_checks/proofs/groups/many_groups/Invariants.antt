use Rattle.span_thread_checks.proofs.groups.many_groups.Given as goal

-- the table and the schema that were just opened
abbrev pub ghosts-by_groups : goal.ghosts-by_groups
ghosts-by_groups g a = record { table = a.opened.table; schema = a.opened.schema }
