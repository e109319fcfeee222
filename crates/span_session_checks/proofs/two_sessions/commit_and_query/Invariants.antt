use Rattle.span_session_checks.proofs.two_sessions.commit_and_query.Given as goal

-- the table and the schema that were just opened
abbrev pub ghosts-by_two : goal.ghosts-by_two
ghosts-by_two g a = record { table = a.opened.table; schema = a.opened.schema }
