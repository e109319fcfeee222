-- The result of reading a text.
use Rattle.std.specs.Prelude.{◌≡◌, ℕ, ◌<◌, ◌≤◌, length, List, Result, Ok, Err}
use Rattle.span_value.specs.declared.refusal.Refusal.{Refusal}
use Rattle.span_value.specs.declared.refusal.Refusal.TheVariants as refusal
use Rattle.span_lexer.specs.declared.token.Token.{Token}
use Rattle.span_lexer.specs.declared.lexer.ReadError.{ReadError}
use Rattle.span_lexer.specs.Limits.{longest_text}
use Rattle.span_lexer.specs.Tokens.{Item, AreItems, text_of}

-- these tokens, unless memory ran out
abbrev pub ReadsOrOutOfMemory : List Token → Result (List Token) ReadError → Type 0
ReadsOrOutOfMemory ts (Ok found) = found ≡ ts
ReadsOrOutOfMemory ts (Err e) = e.refusal ≡ refusal.OutOfMemory

-- the refusal of a text: it is too long; or it is not, and does not consist of items; or memory ran out
abbrev pub IsReadError : List ℕ → Refusal → Type 0
IsReadError text refusal.TextTooLong = longest_text < length text
IsReadError text refusal.BadToken =
    (length text ≤ longest_text) × ((is : List Item) → AreItems is → text ≡ text_of is → ⊥)
IsReadError text refusal.OutOfMemory = Unit {0}
IsReadError text other = ⊥
