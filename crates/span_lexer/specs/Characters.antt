-- The bytes that tokens are made of.
use Rattle.std.specs.Prelude.{ℕ, ◌==◌, Bool, false, ◌||◌, List, [], ◌∷◌}
use Rattle.std.specs.Int.{is_in_range}

unfoldable pub is_blank : ℕ → Bool
is_blank c = (c == 32 || c == 9) || (c == 13 || c == 10)

unfoldable pub is_letter : ℕ → Bool
is_letter c = (is_in_range 65 90 c || is_in_range 97 122 c) || c == 95

unfoldable pub is_digit : ℕ → Bool
is_digit c = is_in_range 48 57 c

-- a letter, a digit or _
unfoldable pub is_word : ℕ → Bool
is_word c = is_letter c || is_digit c

unfoldable pub is_hex : ℕ → Bool
is_hex c = (is_in_range 48 57 c || is_in_range 65 70 c) || is_in_range 97 102 c

unfoldable pub is_quote : ℕ → Bool
is_quote c = c == 39 || c == 34

-- b or B, the mark of a bytes literal
unfoldable pub is_mark : ℕ → Bool
is_mark c = c == 98 || c == 66

-- the letter of an escape of one letter: \ ' " n r t
unfoldable pub is_escape : ℕ → Bool
is_escape c = ((c == 92 || c == 39) || (c == 34 || c == 110)) || (c == 114 || c == 116)

unfoldable pub is_octal : ℕ → Bool
is_octal c = is_in_range 48 55 c

-- the test of the first byte; false where there is none
abbrev pub begins : (ℕ → Bool) → List ℕ → Bool
begins p [] = false
begins p (b ∷ bs) = p b
