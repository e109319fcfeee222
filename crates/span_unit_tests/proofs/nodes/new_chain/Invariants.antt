use Rattle.span_unit_tests.proofs.nodes.new_chain.Given as goal

abbrev pub ghosts-counted_chain-C-Ledger : goal.ghosts-counted_chain-C-Ledger
ghosts-counted_chain-C-Ledger a = record { name = a.compared.name; parts = a.compared.parts }

abbrev pub ghosts-counted_chain-W-Ledger : goal.ghosts-counted_chain-W-Ledger
ghosts-counted_chain-W-Ledger a = record { name = a.written.name; parts = a.written.parts }
