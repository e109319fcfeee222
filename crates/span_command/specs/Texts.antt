-- The lines of a text. An LF ends each; the last may have none.
use Rattle.std.specs.Prelude.{◌≡◌, ◌≢◌, ◌⊎◌, ℕ, ◌<◌, List, [], ◌∷◌, ◌++◌, length, slice_index}

-- no LF is among the bytes
abbrev pub HasNoLf : List ℕ → Type 0
HasNoLf bytes = (i : ℕ) → i < length bytes → slice_index bytes i ≢ 10

-- a line that an LF ends, and the rest after the LF
abbrev pub FirstLine : List ℕ → List ℕ → List ℕ → Type 0
FirstLine text line following = HasNoLf line × (text ≡ line ++ 10 ∷ following)

-- the last line, which no LF ends: it is all of the text that there is
abbrev pub LastLine : List ℕ → List ℕ → List ℕ → Type 0
LastLine text line following = HasNoLf text × (text ≢ []) × (line ≡ text) × (following ≡ [])

-- the next line of a text, and the rest after it; an empty text has none
abbrev pub NextLine : List ℕ → List ℕ → List ℕ → Type 0
NextLine text line following = FirstLine text line following ⊎ LastLine text line following
