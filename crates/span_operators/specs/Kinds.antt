-- Types of operands. None is that of a NULL literal, which takes the type of the other operands in its place.
use Rattle.std.specs.Prelude.{Bool, true, List, [], ◌∷◌, Option, Some, None, Result, Ok, Err, if◌then◌else◌}
use denote.Enum.Bare.{sameb}
use Rattle.span_value.specs.contracts.value.Kind.{the_type as kind_type}
use Rattle.span_value.specs.declared.value.Kind.{Kind}
use Rattle.span_value.specs.declared.value.Kind.TheVariants.{Int, Str, Bytes}
use Rattle.span_value.specs.declared.refusal.Refusal.{Refusal}
use Rattle.span_value.specs.declared.refusal.Refusal.TheVariants.{TypeMismatch}

-- an operand of this type fits where one of that type is wanted
abbrev pub takes : Kind → Option Kind → Bool
takes wanted None = true
takes wanted (Some k) = sameb kind_type k wanted

-- the one type of two operands
unfoldable pub common_kind : Option Kind → Option Kind → Result (Option Kind) Refusal
common_kind None k = Ok k
common_kind (Some j) None = Ok (Some j)
common_kind (Some j) (Some k) = if sameb kind_type j k then Ok (Some j) else Err TypeMismatch

abbrev pub common_kind_with : List (Option Kind) → Result (Option Kind) Refusal → Result (Option Kind) Refusal
common_kind_with [] found = found
common_kind_with (k ∷ ks) (Ok j) = common_kind_with ks (common_kind j k)
common_kind_with (k ∷ ks) (Err why) = Err why

-- the one type of all operands
abbrev pub common_kind_of_all : List (Option Kind) → Result (Option Kind) Refusal
common_kind_of_all ks = common_kind_with ks (Ok None)

-- INT64 where all operands are NULL literals
unfoldable pub or_int : Option Kind → Kind
or_int None = Int
or_int (Some k) = k

-- STRING where all operands are NULL literals, else that of two strings or of two BYTES
unfoldable pub text_kind : Option Kind → Result Kind Refusal
text_kind None = Ok Str
text_kind (Some Str) = Ok Str
text_kind (Some Bytes) = Ok Bytes
text_kind (Some k) = Err TypeMismatch
