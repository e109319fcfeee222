use Rattle.span_store.proofs.search.slot_for.Given as goal

abbrev pub ghosts-counted_slot_for-C-Ledger : goal.ghosts-counted_slot_for-C-Ledger
ghosts-counted_slot_for-C-Ledger a = record { name = a.compared.name; parts = a.compared.parts }

abbrev pub ghosts-counted_slot_for-W-Ledger : goal.ghosts-counted_slot_for-W-Ledger
ghosts-counted_slot_for-W-Ledger a = record { name = a.written.name; parts = a.written.parts }
