use Rattle.span_store.proofs.search.walk.Given as goal

abbrev pub ghosts-counted_walk-C-Ledger : goal.ghosts-counted_walk-C-Ledger
ghosts-counted_walk-C-Ledger a = record { name = a.compared.name; parts = a.compared.parts }

abbrev pub ghosts-counted_walk-W-Ledger : goal.ghosts-counted_walk-W-Ledger
ghosts-counted_walk-W-Ledger a = record { name = a.written.name; parts = a.written.parts }
