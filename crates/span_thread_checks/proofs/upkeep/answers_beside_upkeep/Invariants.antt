use Rattle.span_thread_checks.proofs.upkeep.answers_beside_upkeep.Given as goal

-- the table and the schema that were just opened
abbrev pub ghosts-by_upkeep : goal.ghosts-by_upkeep
ghosts-by_upkeep g a = record { table = a.opened.table; schema = a.opened.schema }
