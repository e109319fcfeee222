use Rattle.span_store.proofs.search.walk_under.Given as goal

abbrev pub ghosts-counted_walk_under-C-Ledger : goal.ghosts-counted_walk_under-C-Ledger
ghosts-counted_walk_under-C-Ledger a = record { name = a.compared.name; parts = a.compared.parts }

abbrev pub ghosts-counted_walk_under-W-Ledger : goal.ghosts-counted_walk_under-W-Ledger
ghosts-counted_walk_under-W-Ledger a = record { name = a.written.name; parts = a.written.parts }
