-- The words of a line.
use Rattle.std.specs.Prelude.{◌≡◌, ◌≢◌, ℕ, ◌<◌, ◌^◌, List, [], ◌∷◌, ◌++◌, codes, get_or, length, Bool, ◌&&◌, ◌||◌, ◌==◌, not, nat_le, nat_lt, is_none}
use Rattle.std.specs.Fmt.{decimal}
use Rattle.span_lexer.specs.Spellings.{reserved_word}
use Rattle.span_lexer.specs.Characters.{begins, is_letter, is_word}
use Rattle.span_lexer.specs.Lexing.{longest_word}
use Rattle.std.specs.List.{list_all}
use Rattle.span_truetime.specs.declared.bound.Bound.{Bound}
use Rattle.span_truetime.specs.declared.bound.Bound.TheVariants.{Strong, At, Staleness}
use Rattle.span_value.specs.declared.value.Kind.{Kind}
use Rattle.span_value.specs.declared.value.Kind.TheVariants as kind

-- no space is in the text
abbrev pub HasNoSpace : List ℕ → Type 0
HasNoSpace text = (i : ℕ) → i < length text → get_or text i 0 ≢ 32

-- a word has a byte, and no space
abbrev pub IsWord : List ℕ → Type 0
IsWord word = (word ≢ []) × HasNoSpace word

-- a word, and the rest after its space
abbrev pub spaced : List ℕ → List ℕ → List ℕ
spaced word rest = word ++ 32 ∷ rest

-- the word writes the number: decimal digits without leading zeros, up to 2^64 - 1
abbrev pub IsNumber : List ℕ → ℕ → Type 0
IsNumber word n = (n < 2 ^ 64) × (word ≡ decimal n)

-- no plus and no zero is at the front, but where it is all
abbrev pub begins_plainly : List ℕ → Bool
begins_plainly bs = nat_lt (length bs) 2 || (not (get_or bs 0 0 == 48) && not (get_or bs 0 0 == 43))

-- two words write these numbers
abbrev pub AreTwo : List ℕ → ℕ → ℕ → Type 0
AreTwo words a b = (a < 2 ^ 64) × (b < 2 ^ 64) × (words ≡ spaced (decimal a) (decimal b))

-- three words write these numbers
abbrev pub AreThree : List ℕ → ℕ → ℕ → ℕ → Type 0
AreThree words a b c =
    (a < 2 ^ 64) × (b < 2 ^ 64) × (c < 2 ^ 64) × (words ≡ spaced (decimal a) (spaced (decimal b) (decimal c)))

-- the word of a bound
abbrev pub bound_text : Bound → List ℕ
bound_text Strong = codes "strong"
bound_text (At s) = codes "at:" ++ decimal s
bound_text (Staleness d) = codes "stale:" ++ decimal d

-- the number of a bound fits in 64 bits
abbrev pub BoundFits : Bound → Type 0
BoundFits Strong = Unit {0}
BoundFits (At s) = s < 2 ^ 64
BoundFits (Staleness d) = d < 2 ^ 64

-- the word is that of the bound
abbrev pub IsBound : List ℕ → Bound → Type 0
IsBound word bound = BoundFits bound × (word ≡ bound_text bound)

-- the name of a type
abbrev pub type_name : Kind → List ℕ
type_name kind.Int = codes "INT64"
type_name kind.Str = codes "STRING"
type_name kind.Bytes = codes "BYTES"
type_name kind.Bool = codes "BOOL"

-- the word is a name: a letter or _, then letters, digits and _, at most 128 bytes, and no reserved word
abbrev pub is_name_text : List ℕ → Bool
is_name_text word =
    begins is_letter word && nat_le (length word) longest_word && list_all is_word word && is_none (reserved_word word)
