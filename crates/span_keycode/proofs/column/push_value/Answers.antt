use Rattle.std.proofs.Common.{◌≡◌, ℕ, List, ◌++◌, ◌∷◌, rules, sym, ◌∙◌, ap}
use Rattle.std.specs.Int.{to_be_bytes, w64}
use Rattle.std.proofs.lemmas.Int.{to_z-of_z}
use Rattle.std.proofs.lemmas.Result.{on_ok_weaker}
use Rattle.std.specs.Prelude.{FitsSigned}
use Rattle.span_value.specs.declared.value.Value.{Value}
use Rattle.span_keycode.specs.Coding.{to_unsigned, in_direction, column_code}
use Rattle.span_keycode.proofs.column.push_value.Goals as goal

pub returns-in-Int-clause-bytes : goal.returns-in-Int-clause-bytes
returns-in-Int-clause-bytes c =
    let d = c.args.column.desc in
    let old = c.args.out.now.items in
    let fits : FitsSigned w64 c.in-Int.number = search rules in
    let number : c.to_unsigned.result ≡ to_unsigned c.in-Int.number = c.to_unsigned.ensures ∙ ap to_unsigned (to_z-of_z w64 c.in-Int.number fits) in
    on_ok_weaker c.push_number.result
    (λ e. e
    ∙ ap (λ (n : ℕ). old ++ in_direction d (1 ∷ to_be_bytes w64 n)) number
    ∙ ap (λ (v : Value). old ++ column_code c.args.column v) (sym c.in-Int.is))
    c.push_number.ensures.bytes
