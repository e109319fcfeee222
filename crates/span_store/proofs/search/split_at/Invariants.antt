use Rattle.span_store.proofs.search.split_at.Given as goal

abbrev pub ghosts-counted_split_at-C-Ledger : goal.ghosts-counted_split_at-C-Ledger
ghosts-counted_split_at-C-Ledger a = record { name = a.compared.name; parts = a.compared.parts }

abbrev pub ghosts-counted_split_at-W-Ledger : goal.ghosts-counted_split_at-W-Ledger
ghosts-counted_split_at-W-Ledger a = record { name = a.written.name; parts = a.written.parts }
