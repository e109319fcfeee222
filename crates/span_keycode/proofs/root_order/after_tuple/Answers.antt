use Rattle.std.proofs.Common.{ℕ, List, ◌++◌, sym, ap, ◌<◌, ◌≤◌, ◌⊎◌, inl, inr, false, length, drop, get_or, ◌+◌, arith}
use Rattle.std.proofs.lemmas.Result.{err_from_is_err_and}
use Rattle.std.proofs.lemmas.Bool.{cases_lt}
use Rattle.span_value.specs.declared.value.Kind.TheVariants as kind
use Rattle.span_schema.specs.declared.layout.KeyPart.{KeyPart}
use Rattle.span_keycode.specs.Coding.{column_code, tuple_code}
use Rattle.span_keycode.proofs.Comparing.{left_more, left_decided, left_last, value_next, tuple_end}
use Rattle.span_keycode.proofs.root_order.after_tuple.Goals as goal

pub returns-in_err-rest : goal.returns-in_err-rest
returns-in_err-rest c =
    let p = err_from_is_err_and c.from_residual.result c.from_residual.ensures.1 in
    let cs = c.args.columns.now in
    let vs = c.args.values.now in
    let i = c.loop-i.i in
    let d : KeyPart = record { kind = kind.Int; desc = false } in
    let v = c.index-values-i.result in
    let one : i < length cs = omega arith in
    let two : i < length vs = omega arith in
    rw (p.1, p.2) (left_decided (tuple_code cs vs) c.args.bytes.now (tuple_code (drop i cs) (drop i vs)) c.loop-i.rest.now
    (column_code (get_or cs i d) v) (tuple_code (drop (i + 1) cs) (drop (i + 1) vs)) _
    c.loop-i.invariant (value_next cs vs i d v one two c.index-values-i.is) c.in_err-rest.ensures)

pub loop-i-preserved : goal.loop-i-preserved
loop-i-preserved c =
    let cs = c.args.columns.now in
    let vs = c.args.values.now in
    let i = c.loop-i.i in
    let d : KeyPart = record { kind = kind.Int; desc = false } in
    let v = c.index-values-i.result in
    let one : i < length cs = omega arith in
    let two : i < length vs = omega arith in
    left_more (tuple_code cs vs) c.args.bytes.now (tuple_code (drop i cs) (drop i vs)) c.loop-i.rest.now
    (column_code (get_or cs i d) v) (tuple_code (drop (i + 1) cs) (drop (i + 1) vs)) c.in_ok-rest.rest.now
    c.loop-i.invariant (value_next cs vs i d v one two c.index-values-i.is) c.in_ok-rest.ensures

pub returns : goal.returns
returns c =
    let cs = c.args.columns.now in
    let vs = c.args.values.now in
    let i = c.loop-i.i in
    let ended : (length cs ≤ i) ⊎ (length vs ≤ i) = elim (cases_lt i (length cs)) [
      | inl a ↦ elim (cases_lt i (length vs)) [ inl b ↦ absurd (omega arith) | inr q ↦ inr q ]
      | inr q ↦ inl q
    ] in
    left_last (tuple_code cs vs) c.args.bytes.now (tuple_code (drop i cs) (drop i vs)) c.loop-i.rest.now c.loop-i.rest.now c.loop-i.invariant
    (ap (λ (xs : List ℕ). xs ++ c.loop-i.rest.now) (sym (tuple_end cs vs i ended)))
