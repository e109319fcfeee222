-- Which values may be in a column.
use Rattle.std.specs.Prelude.{Bool, true, false, FitsSigned}
use Rattle.std.specs.Int.{w64}
use Rattle.std.specs.Str.{IsUtf8}
pub use Rattle.span_value.specs.Numbers.{AreBytes}
use Rattle.span_value.specs.declared.value.Value.{Value}
use Rattle.span_value.specs.declared.value.Value.TheVariants.{Null, Int, Str, Bytes, Bool as Flag}
use Rattle.span_value.specs.declared.value.Kind.{Kind}
use Rattle.span_value.specs.declared.value.Kind.TheVariants.{Int as Numbers, Str as Texts, Bytes as Strings, Bool as Flags}

-- NULL, or a value of the kind
abbrev pub Fits : Kind → Value → Type 0
Fits k Null = Unit {0}
Fits Numbers (Int i) = FitsSigned w64 i
Fits Texts (Str bs) = IsUtf8 bs × AreBytes bs
Fits Strings (Bytes bs) = AreBytes bs
Fits Flags (Flag b) = Unit {0}
Fits k v = ⊥

-- the same as a test of the kind alone
abbrev pub is_of_kind : Kind → Value → Bool
is_of_kind k Null = true
is_of_kind Numbers (Int i) = true
is_of_kind Texts (Str bs) = true
is_of_kind Strings (Bytes bs) = true
is_of_kind Flags (Flag b) = true
is_of_kind k v = false
