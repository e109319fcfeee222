use Rattle.span_store.proofs.search.put_near.Given as goal

abbrev pub ghosts-counted_put_near-C-Ledger : goal.ghosts-counted_put_near-C-Ledger
ghosts-counted_put_near-C-Ledger a = record { name = a.compared.name; parts = a.compared.parts }

abbrev pub ghosts-counted_put_near-W-Ledger : goal.ghosts-counted_put_near-W-Ledger
ghosts-counted_put_near-W-Ledger a = record { name = a.written.name; parts = a.written.parts }
