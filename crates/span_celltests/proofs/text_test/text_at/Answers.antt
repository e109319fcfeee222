use Rattle.std.proofs.Common.{◌≡◌, ℕ, ◌<◌, ◌^◌, List, Option, Some, None, length, get_or, drop, ap, arith, length-drop}
use Rattle.std.specs.Prelude.{◌≢◌, MatchOption}
use Rattle.span_celltests.specs.CellTests.{IsNoTextIn, IsTextFound, IsTextIn}
use Rattle.span_celltests.proofs.CellTests.{cut_off, none_coded, text_coded}
use Rattle.span_celltests.proofs.text_test.text_at.Goals as goal

-- the same of what the code is in
found_in : {B : Type 0} (r : Option B) (now : B → List ℕ) (bs code : List ℕ) → code ≡ bs → length code < 2 ^ 32 → get_or code 0 0 ≢ 0 → MatchOption r (IsNoTextIn code) (λ t. IsTextIn code (now t))
    → MatchOption r (IsTextFound bs None) (λ t. IsTextFound bs (Some (now t)))
found_in None now bs code same small some few = cut_off bs code same small some few
found_in (Some t) now bs code same small some has = text_coded bs code (now t) same small some has

pub returns-then-at-bytes : goal.returns-then-at-bytes
returns-then-at-bytes c = none_coded (drop c.args.at c.args.bytes.now) (omega (arith, c.if-at-bytes.true, length-drop c.args.at c.args.bytes.now))

pub returns : goal.returns
returns c =
    let bs : List ℕ = drop c.args.at c.args.bytes.now in
    let code : List ℕ = c.after-code.result.now in
    let small : length code < 2 ^ 32 = omega (arith, c.requires.len, ap (length {A = ℕ}) c.after-code.ensures, length-drop c.args.at c.args.bytes.now) in
    found_in c.bytes_after.result (λ t. t.now) bs code c.after-code.ensures small c.if-code-eq0.false c.bytes_after.ensures
