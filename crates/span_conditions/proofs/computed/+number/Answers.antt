use Rattle.std.proofs.Common.{rules, ◌++◌, List, w64}
use Rattle.std.proofs.lemmas.Int.{to_z-of_z}
use Rattle.span_value.specs.declared.value.Value.{Value}
use Rattle.span_conditions.proofs.LinkedNumbers.{chain_comes}
use Rattle.span_conditions.proofs.computed.+number.Goals as goal

pub computed_number-returns-in_ok-first-in-Chain : goal.computed_number-returns-in_ok-first-in-Chain
computed_number-returns-in_ok-first-in-Chain t c =
    let row : List Value = c.args.left.now ++ c.args.right.now in
    chain_comes row _ _ _ _ _ c.in_ok-first-in-Chain.first _ _ c.in-Chain.is c.get-in-Chain.ensures c.as_slice.ensures c.in_ok-first-in-Chain.ensures
    (to_z-of_z w64 c.in_ok-first-in-Chain.first (search rules)) c.linked_number.ensures
