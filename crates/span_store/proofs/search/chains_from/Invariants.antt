use Rattle.span_store.proofs.search.chains_from.Given as goal

abbrev pub ghosts-counted_chains_from-C-Ledger : goal.ghosts-counted_chains_from-C-Ledger
ghosts-counted_chains_from-C-Ledger a = record { name = a.compared.name; parts = a.compared.parts }

abbrev pub ghosts-counted_chains_from-W-Ledger : goal.ghosts-counted_chains_from-W-Ledger
ghosts-counted_chains_from-W-Ledger a = record { name = a.written.name; parts = a.written.parts }
