-- What a reader of lines has read and not taken, the line that it has taken, and what a line reads as.
use Rattle.std.specs.Prelude.{◌≡◌, ◌⊎◌, ℕ, ◌<◌, ◌≤◌, List, [], ◌++◌, Bool, true, false, Option, Some, None, ⊤, IsSomeAnd, Contains, length, slice_range, IsUtf8}
use Rattle.span_command.specs.declared.line.Line.{Line}
use Rattle.span_command.specs.declared.line.Line.TheVariants.{Text, Unreadable}
use Rattle.span_command.specs.declared.line.Lines.{Lines}
use Rattle.span_command.specs.Limits.{longest_line}
use Rattle.span_command.specs.Texts.{HasNoLf, NextLine}

-- the bytes are more than a line may have
abbrev pub IsTooLong : List ℕ → Type 0
IsTooLong bytes = longest_line < length bytes

-- what the bytes of a line read as: their text, or Unreadable where they are too long or not in UTF-8
abbrev pub ReadsAs : List ℕ → Line → Type 0
ReadsAs bytes (Text text) = (length bytes ≤ longest_line) × IsUtf8 bytes × (text.now ≡ bytes)
ReadsAs bytes Unreadable = IsTooLong bytes ⊎ ¬ IsUtf8 bytes

-- the bytes that are held: those that were read and not taken
abbrev pub held : Lines → List ℕ
held lines = slice_range lines.buffer.items lines.start lines.end

-- the bytes of the next line that were let go: none, or a front of it that is too long already
abbrev pub IsGone : Bool → List ℕ → Type 0
IsGone true gone = HasNoLf gone × IsTooLong gone
IsGone false gone = gone ≡ []

-- The parts of a text: the bytes that are gone, those that are held, and the rest, which is still to come. None is to
-- come once the input has ended.
pub record HasParts (is_cut has_ended : Bool) (held rest text : List ℕ) : Type 0 where
  pub gone : List ℕ
  pub is_gone : IsGone is_cut gone
  pub in_order : text ≡ gone ++ (held ++ rest)
  pub all_came : has_ended ≡ true → rest ≡ []

-- The text, the part of a script from the next line on, is what the lines hold and then the rest, the bytes that are
-- known to be still to come. It is so of no text where these are not known.
abbrev pub IsStillToCome : Lines → Option (List ℕ) → List ℕ → Type 0
IsStillToCome lines known text = IsSomeAnd known (λ rest. HasParts lines.is_cut lines.has_ended (held lines) rest text)

-- A read went on: the input has ended now, or fewer bytes are still to come than before. Nothing is said where these
-- are not known.
abbrev pub Advances : Bool → Option (List ℕ) → Option (List ℕ) → Type 0
Advances has_ended None new = ⊤
Advances has_ended (Some before) None = ⊥
Advances has_ended (Some before) (Some after) = (has_ended ≡ true) ⊎ (length after < length before)

-- a whole line is held, or the script to its end
abbrev pub IsReady : Lines → Type 0
IsReady lines = Contains (held lines) 10 ⊎ (lines.has_ended ≡ true)

-- the bytes of a taken line: those that were kept, or any that are too long where some are gone
abbrev pub IsKept : Bool → List ℕ → List ℕ → Type 0
IsKept true kept line = IsTooLong line
IsKept false kept line = line ≡ kept

-- the line that was taken last
abbrev pub IsTaken : Lines → List ℕ → Type 0
IsTaken lines line = IsKept lines.taken_is_cut (slice_range lines.buffer.items lines.taken_from lines.taken_to) line

-- the next line of the text was taken, and the rest after it stays
pub record TakesNext (lines : Lines) (known : Option (List ℕ)) (text : List ℕ) : Type 0 where
  pub line : List ℕ
  pub following : List ℕ
  pub is_next : NextLine text line following
  pub is_taken : IsTaken lines line
  pub to_come : IsStillToCome lines known following

-- what is held, and what is known about it, stays
pub record HoldsSame (old new : Lines) : Type 0 where
  pub held : held new ≡ held old
  pub is_cut : new.is_cut ≡ old.is_cut
  pub has_ended : new.has_ended ≡ old.has_ended
