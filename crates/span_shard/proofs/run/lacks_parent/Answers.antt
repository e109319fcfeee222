use Rattle.std.proofs.Common.{◌≡◌, ℕ, not, List, Option, Some, is_none, length, take, inl, inr, sym, ap, subst, ◌∙◌}
use Rattle.std.proofs.lemmas.Result.{err_from_is_err_and}
use Rattle.span_value.specs.declared.value.Value.{Value}
use Rattle.span_schema.specs.declared.layout.KeyPart.{KeyPart}
use Rattle.span_schema.specs.Numbers.{key_columns, parent_of}
use Rattle.span_keycode.specs.Keys.{key_code, encode_cause}
use Rattle.std.specs.Option.{option_copied}
use Rattle.span_shard.specs.Overlay.{row_over, lacks_parent_over, HasFront}
use Rattle.span_shard.proofs.Alone.{front_known}
use Rattle.span_shard.proofs.Codes.{never_refused}
use Rattle.span_shard.proofs.OverRows.{parent_key}
use Rattle.span_shard.proofs.RunPuts.{none_not}
use Rattle.span_shard.proofs.run.lacks_parent.Goals as goal

pub returns-in_err-key-in-Some : goal.returns-in_err-key-in-Some
returns-in_err-key-in-Some c =
    let p = err_from_is_err_and c.from_residual.result c.from_residual.ensures.1 in
    let tables = c.args.schema.now in
    let m = c.args.mutation.now in
    let n = c.in-Some.parent in
    let values : c.first_values-values.result.now ≡ take (length (key_columns tables n)) m.key =
    c.first_values-values.ensures ∙ ap (λ (cs : List KeyPart). take (length cs) c.as_slice.result.now) c.key_columns-len.ensures ∙ ap (take (length (key_columns tables n))) c.as_slice.ensures in
    let key = parent_key tables c.meets_rules.ensures m.table m.key c.requires.typed.0 n (sym c.in-Some.ensures.parent) in
    rw (p.1, p.2) (elim c.in_err-key-in-Some.ensures.coded [
      | inl e ↦ absurd (never_refused tables n (take (length (key_columns tables n)) m.key) c.in_err-key-in-Some.field-0.0 key.is (subst (λ (vs : List Value). encode_cause tables n vs ≡ Some c.in_err-key-in-Some.field-0.0) values e))
      | inr e ↦ e
    ])

pub returns-in_ok-key-in-Some : goal.returns-in_ok-key-in-Some
returns-in_ok-key-in-Some c =
    let tables = c.args.schema.now in
    let cs = c.args.store.now in
    let es = c.args.changes.now in
    let m = c.args.mutation.now in
    let n = c.in-Some.parent in
    let values : c.first_values-values.result.now ≡ take (length (key_columns tables n)) m.key =
    c.first_values-values.ensures ∙ ap (λ (cs : List KeyPart). take (length cs) c.as_slice.result.now) c.key_columns-len.ensures ∙ ap (take (length (key_columns tables n))) c.as_slice.ensures in
    let key : c.in_ok-key-in-Some.key ≡ key_code tables n (take (length (key_columns tables n)) m.key) = c.in_ok-key-in-Some.ensures.coded.2 ∙ ap (key_code tables n) values in
    let above : parent_of tables m.table ≡ Some n = sym c.in-Some.ensures.parent in
    ap not c.has_row.ensures
    ∙ sym (none_not (row_over cs es c.in_ok-key-in-Some.key))
    ∙ ap (λ (k : List ℕ). is_none (row_over cs es k)) key
    ∙ ap (λ (o : Option ℕ). lacks_parent_over tables cs es o m.key) (sym above)

pub returns-then-has_front : goal.returns-then-has_front
returns-then-has_front c =
    let tables = c.args.schema.now in
    let cs = c.args.store.now in
    let es = c.args.changes.now in
    let m = c.args.mutation.now in
    let n = c.in-Some.parent in
    let known = option_copied c.args.known in
    let values : c.first_values-values.result.now ≡ take (length (key_columns tables n)) m.key =
    c.first_values-values.ensures ∙ ap (λ (cs : List KeyPart). take (length cs) c.as_slice.result.now) c.key_columns-len.ensures ∙ ap (take (length (key_columns tables n))) c.as_slice.ensures in
    let front : HasFront m.table (length c.key_columns-len.result.now) c.first_values-values.result.now known = c.has_front.ensures c.if-has_front.true in
    let columns : HasFront m.table (length (key_columns tables n)) c.first_values-values.result.now known = subst (λ (ps : List KeyPart). HasFront m.table (length ps) c.first_values-values.result.now known) c.key_columns-len.ensures front in
    let above : parent_of tables m.table ≡ Some n = sym c.in-Some.ensures.parent in
    sym (ap (λ (o : Option ℕ). lacks_parent_over tables cs es o m.key) above
    ∙ front_known tables cs es known m.table n m.key c.requires.known above (subst (λ (vs : List Value). HasFront m.table (length (key_columns tables n)) vs known) values columns))
