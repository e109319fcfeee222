-- The bytes of a text.
use Rattle.std.specs.Prelude.{ℕ, List, string_bytes}
use Rattle.span_value.specs.declared.text.Stored.{Stored}
use Rattle.span_value.specs.declared.text.Stored.TheVariants.{Inline, Heap}

-- the bytes, where they are in the value itself and where they are in an allocation
abbrev pub stored_bytes : Stored → List ℕ
stored_bytes (Inline text) = text
stored_bytes (Heap text) = string_bytes text
