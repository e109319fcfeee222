-- The value of a text by its tree, and the result of reading it.
use Rattle.std.specs.Prelude.{◌≡◌, ◌≢◌, ◌⊎◌, ℕ, ◌+◌, ◌-◌, nat_le, Bool, false, if◌then◌else◌, List, [], ◌∷◌, length, take, drop, slice_get, Option, Some, None, option_map, Result, Ok, Err, alloc_error}
use denote.Ref.{Bor}
use Rattle.std.specs.declared.alloc.AllocError.{AllocError}
use Rattle.span_value.specs.declared.refusal.Refusal.{Refusal}
use Rattle.span_value.specs.declared.refusal.Refusal.TheVariants as refusal
use Rattle.span_lexer.specs.declared.lexer.ReadError.{ReadError}
use Rattle.span_lexer.specs.declared.token.Token.{Token}
use Rattle.span_lexer.specs.Tokens.{Item}
use Rattle.span_grammar.specs.declared.class.Lexeme.{Lexeme}
use Rattle.span_primary.specs.declared.fault.SyntaxError.{SyntaxError}
use Rattle.span_primary.specs.declared.fault.SyntaxError.TheVariants as fault
use Rattle.span_grammar.specs.declared.judge.Goal.{Goal}
use Rattle.span_grammar.specs.declared.class.Sort.TheVariants as sort
use Rattle.span_grammar.specs.Rules.{is_of, Tree}
use Rattle.span_grammar.specs.Texts.{HasTree}
use Rattle.span_grammar.specs.Grammar.{inside}
use Rattle.span_grammar.specs.Goals.{goal_rule}
use Rattle.span_grammar.specs.Judged.{HasItems, lexemes_in}
use Rattle.span_primary.specs.Phrases.{Phrase, ReadResult}

-- the text has a tree, and the value is that of the tree
pub record ParsesAs {A : Type 0} (g : Goal) (of : Tree → A) (text : List ℕ) (value : A) : Type 0 where
  pub items : List Item
  pub made : HasItems text items
  pub tree : Tree
  pub has : HasTree inside (goal_rule g) (lexemes_in text items) tree
  pub is : value ≡ of tree

-- all the tokens are to be read
unfoldable pub require_end : {A : Type 0} → A → List Lexeme → Result A SyntaxError
require_end x [] = Ok x
require_end x (t ∷ k) = Err (fault.Syntax (length (t ∷ k)))

abbrev pub at_end : {A : Type 0} → ReadResult A → Result A SyntaxError
at_end (Ok p) = require_end p.0 p.1
at_end (Err e) = Err e

unfoldable pub read_to_end : {A : Type 0} → Phrase A → List Lexeme → Result A SyntaxError
read_to_end x ts = at_end (x.read ts)

-- what a function returned, unless memory ran out
abbrev pub GivesToEnd : {A : Type 0} → Result A SyntaxError → Result A SyntaxError → Type 0
GivesToEnd (Ok x) o = o ≡ Ok x
GivesToEnd (Err e) o = e ≢ fault.OutOfMemory → o ≡ Err e

abbrev pub refusal_of : SyntaxError → Refusal
refusal_of fault.OutOfMemory = refusal.OutOfMemory
refusal_of (fault.Syntax n) = refusal.Syntax
refusal_of (fault.TooDeep n) = refusal.TooDeep

-- the same, with the refusal of the error, and some place
abbrev pub Reports : {A : Type 0} → Result A ReadError → Result A SyntaxError → Type 0
Reports (Ok x) o = o ≡ Ok x
Reports (Err e) o = (e.refusal ≡ refusal.OutOfMemory) ⊎ ((f : SyntaxError) × (o ≡ Err f) × (e.refusal ≡ refusal_of f))

-- this refusal, unless memory ran out
abbrev pub Refuses : {A : Type 0} → Result A ReadError → Refusal → Type 0
Refuses (Ok x) why = ⊥
Refuses (Err e) why = (e.refusal ≡ why) ⊎ (e.refusal ≡ refusal.OutOfMemory)

-- this value, or out of memory
abbrev pub IsOrOutOfMemory : {A : Type 0} → Result A ReadError → A → Type 0
IsOrOutOfMemory (Ok x) y = x ≡ y
IsOrOutOfMemory (Err e) y = e.refusal ≡ refusal.OutOfMemory

-- ---- the place of an error

-- the first of the last n tokens
unfoldable pub token_at : ℕ → List Lexeme → Option Lexeme
token_at n ts = if nat_le n (length ts) then slice_get (drop (length ts - n) ts) 0 else None

-- where it starts; the end of the text, where there is none
abbrev pub start_or : Option Lexeme → ℕ → ℕ
start_or (Some t) end = t.token.start
start_or None end = end

abbrev pub place_of : SyntaxError → List Lexeme → ℕ → ℕ
place_of fault.OutOfMemory ts end = 0
place_of (fault.Syntax n) ts end = start_or (token_at n ts) end
place_of (fault.TooDeep n) ts end = start_or (token_at n ts) end

-- the first n tokens, and where the next one starts
unfoldable pub split_tokens : ℕ → List Token → Option (List Token × ℕ)
split_tokens n ts = option_map (λ t. (take n ts, t.start)) (slice_get ts n)

abbrev pub GivesSplit : Option (Bor (List Token) × ℕ) → Option (List Token × ℕ) → Type 0
GivesSplit None o = o ≡ None
GivesSplit (Some p) o = o ≡ Some (p.0.now, p.1)

unfoldable pub is_before_star : Option Lexeme → Bool
is_before_star (Some t) = is_of sort.AllOf t
is_before_star None = false

-- the tokens up to the dot of a name before `.*`, and where the star starts, if the error is at such a name
abbrev pub before_star : SyntaxError → List Lexeme → List Token → Option (List Token × ℕ)
before_star (fault.Syntax n) found ts =
    if is_before_star (token_at n found) then split_tokens ((length found - n) + 2) ts else None
before_star fault.OutOfMemory found ts = None
before_star (fault.TooDeep n) found ts = None

-- the place of the error that reading the tokens returned; the place after them, where there was none
abbrev pub reported_place : {A : Type 0} → Result A SyntaxError → List Lexeme → ℕ → Result ℕ AllocError
reported_place (Ok x) ts after = Ok after
reported_place (Err fault.OutOfMemory) ts after = Err alloc_error
reported_place (Err (fault.Syntax n)) ts after = Ok (place_of (fault.Syntax n) ts after)
reported_place (Err (fault.TooDeep n)) ts after = Ok (place_of (fault.TooDeep n) ts after)
