-- Equal types, and tests that both pass.
use Rattle.std.proofs.Common.{◌≡◌, refl, true, false, Bool, ◌||◌}
use Rattle.std.proofs.lemmas.Bool.{or_left, or_right}
use Rattle.span_value.specs.declared.value.Kind.{Kind}
use Rattle.span_value.specs.declared.value.Kind.TheVariants as kind
use Rattle.span_soundness.specs.Types.{are_same, has_type, Typing}

pub not_true : {P : Type 0} → false ≡ true → P
not_true is = absurd cc

pub same_kind : (j k : Kind) → are_same j k ≡ true → j ≡ k
same_kind kind.Int kind.Int is = refl
same_kind kind.Str kind.Str is = refl
same_kind kind.Bytes kind.Bytes is = refl
same_kind kind.Bool kind.Bool is = refl
same_kind kind.Int kind.Str is = not_true is
same_kind kind.Int kind.Bytes is = not_true is
same_kind kind.Int kind.Bool is = not_true is
same_kind kind.Str kind.Int is = not_true is
same_kind kind.Str kind.Bytes is = not_true is
same_kind kind.Str kind.Bool is = not_true is
same_kind kind.Bytes kind.Int is = not_true is
same_kind kind.Bytes kind.Str is = not_true is
same_kind kind.Bytes kind.Bool is = not_true is
same_kind kind.Bool kind.Int is = not_true is
same_kind kind.Bool kind.Str is = not_true is
same_kind kind.Bool kind.Bytes is = not_true is

pub is_same : (k : Kind) → are_same k k ≡ true
is_same kind.Int = refl
is_same kind.Str = refl
is_same kind.Bytes = refl
is_same kind.Bool = refl

-- a type of which something is
pub of_this : (test : Typing) (k : Kind) → test k ≡ true → has_type test ≡ true
of_this test kind.Int is = or_left (test kind.Int || test kind.Str || test kind.Bytes) (test kind.Bool) (or_left (test kind.Int || test kind.Str) (test kind.Bytes) (or_left (test kind.Int) (test kind.Str) is))
of_this test kind.Str is = or_left (test kind.Int || test kind.Str || test kind.Bytes) (test kind.Bool) (or_left (test kind.Int || test kind.Str) (test kind.Bytes) (or_right (test kind.Int) (test kind.Str) is))
of_this test kind.Bytes is = or_left (test kind.Int || test kind.Str || test kind.Bytes) (test kind.Bool) (or_right (test kind.Int || test kind.Str) (test kind.Bytes) is)
of_this test kind.Bool is = or_right (test kind.Int || test kind.Str || test kind.Bytes) (test kind.Bool) is
