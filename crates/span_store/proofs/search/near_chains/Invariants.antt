use Rattle.span_store.proofs.search.near_chains.Given as goal

abbrev pub ghosts-counted_near_chains-C-Ledger : goal.ghosts-counted_near_chains-C-Ledger
ghosts-counted_near_chains-C-Ledger a = record { name = a.compared.name; parts = a.compared.parts }

abbrev pub ghosts-counted_near_chains-W-Ledger : goal.ghosts-counted_near_chains-W-Ledger
ghosts-counted_near_chains-W-Ledger a = record { name = a.written.name; parts = a.written.parts }
