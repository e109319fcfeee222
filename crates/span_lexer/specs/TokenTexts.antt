-- No token cuts a character of its text, so that reading the bytes of a token as UTF-8 changes none.
use Rattle.std.specs.Prelude.{◌≡◌, ℕ, ◌-◌, ◌≤◌, List, take, drop}
use Rattle.std.specs.List.{AllByRecursion}
use Rattle.std.specs.Str.{IsUtf8, IsCharBoundary}
use Rattle.std.specs.Str.Lossy.{utf8_lossy}
use Rattle.span_lexer.specs.declared.token.Token.{Token}
use Rattle.span_lexer.specs.Tokens.{Item, AreItems, text_of, tokens_of}

-- the bytes of a text from one place to another
abbrev pub part_of : List ℕ → ℕ → ℕ → List ℕ
part_of text start end = take (end - start) (drop start text)

-- the bytes are the UTF-8 of some characters, and read as UTF-8 they are the same bytes
abbrev pub IsReadUnchanged : List ℕ → Type 0
IsReadUnchanged bytes = IsUtf8 bytes × (utf8_lossy bytes ≡ bytes)

-- so with each part of a text that begins and ends between characters
abbrev pub PartsAreReadUnchanged : Type 0
PartsAreReadUnchanged =
    (text : List ℕ) (start end : ℕ)
    → IsUtf8 text
    → IsCharBoundary text start
    → IsCharBoundary text end
    → start ≤ end
    → IsReadUnchanged (part_of text start end)

-- and with each token of a text
abbrev pub TokensAreReadUnchanged : Type 0
TokensAreReadUnchanged =
    (is : List Item)
    → AreItems is
    → IsUtf8 (text_of is)
    → AllByRecursion (λ (t : Token). IsReadUnchanged (part_of (text_of is) t.start t.end)) (tokens_of 0 is)
