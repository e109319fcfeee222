-- What is reported of a refused command.
use Rattle.std.specs.Prelude.{◌≡◌, ◌⊎◌, ℕ, List, ◌++◌, length, Option, Some, None}
use Rattle.span_command.specs.Commands.{IsCommand}
use Rattle.span_command.specs.declared.command.Command.{Command}
use Rattle.span_command.specs.declared.command.Command.TheVariants as command
use Rattle.span_command.specs.declared.line.Line.{Line}
use Rattle.span_command.specs.declared.line.Line.TheVariants.{Text, Unreadable}
use Rattle.span_script.specs.declared.report.QueryText.{QueryText}
use Rattle.span_steps.specs.declared.refused.Refused.{Refused}
use Rattle.span_answers.specs.Lines.{Begins, refused_line}

-- the line is this many bytes, and then the query text
abbrev pub Ends : List ℕ → QueryText → Type 0
Ends line query = (front : List ℕ) × (length front ≡ query.before) × (line ≡ front ++ query.text.now)

abbrev pub EndsWith : Line → QueryText → Type 0
EndsWith (Text line) query = Ends line.now query
EndsWith Unreadable query = ⊥

-- the query text that a command has
abbrev pub text_of : Command → Option (List ℕ)
text_of (command.Open bound text) = Some text.now
text_of (command.Query bound text) = Some text.now
text_of (command.Explain text) = Some text.now
text_of c = None

-- the query text of the command that a text is; none where it is no command, or one that has none
abbrev pub IsQueryIn : List ℕ → Option (List ℕ) → Type 0
IsQueryIn line (Some text) = (c : Command) × IsCommand line c × (text_of c ≡ Some text)
IsQueryIn line None = ((c : Command) → ¬ IsCommand line c) ⊎ ((c : Command) × IsCommand line c × (text_of c ≡ None))

abbrev pub IsQueryOf : Line → Option (List ℕ) → Type 0
IsQueryOf (Text line) text = IsQueryIn line.now text
IsQueryOf Unreadable text = text ≡ None

-- `refused N` alone was added where a command is returned as refused, else the lines of an answer, or none
abbrev pub AreAnswered : List ℕ → List ℕ → Option Refused → Type 0
AreAnswered old new None = Begins old new
AreAnswered old new (Some refused) = new ≡ old ++ refused_line refused.why
