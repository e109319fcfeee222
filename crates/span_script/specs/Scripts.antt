-- Answer text: what a script is answered.
use Rattle.std.specs.Prelude.{◌≡◌, ◌⊎◌, ℕ, ◌<◌, ◌≤◌, ◌==◌, Bool, true, false, List, [], ◌∷◌, ◌++◌, length, codes, Option, Some, None, MatchOption, IsUtf8, is_some, if◌then◌else◌}
use Rattle.span_value.specs.declared.refusal.Refusal.{Refusal}
use Rattle.span_value.specs.declared.refusal.Refusal.TheVariants.{OutOfMemory, BadCommand}
use Rattle.span_schema.specs.declared.table.Table.{Table}
use Rattle.span_machine.specs.declared.step.Step.TheVariants as step
use Rattle.span_machine.specs.declared.step.Reply.{Reply}
use Rattle.span_machine.specs.Machine.{Machine}
use Rattle.span_command.specs.declared.command.Command.{Command}
use Rattle.span_command.specs.declared.command.Command.TheVariants as command
use Rattle.span_command.specs.Commands.{IsReadAs}
use Rattle.span_command.specs.Limits.{longest_line}
use Rattle.span_command.specs.Texts.{NextLine}
use Rattle.span_answers.specs.Lines.{shards_text, word_line, refused_line, reply_text}
use Rattle.span_steps.specs.Steps.{Takes, IsBegun, IsQueried}
use Rattle.span_steps.specs.States.{ScriptState, IsFirst, SetsClock, RefusesClock, SetsParam, RefusesParam, Writes, RefusesWrite, Deletes, RefusesDelete, BeginsLoad, IsLoadLine, IsSplit, numbered_step, IsExplained}

-- ---- commands

-- A change is made and answered `ok`; or it is refused, and nothing is changed. Memory may run out for any.
abbrev pub IsChanged : (ScriptState → Type 0) → (Refusal → Type 0) → ScriptState → List ℕ → ScriptState → Type 0
IsChanged Sets Refuses state answer next =
    (Sets next × (answer ≡ word_line (codes "ok")))
    ⊎ ((why : Refusal) × ((why ≡ OutOfMemory) ⊎ Refuses why) × (answer ≡ refused_line why) × (next ≡ state))

-- a reply is answered by its lines, or `refused 90` where memory runs out for these
abbrev pub IsReplied : Reply → List ℕ → Type 0
IsReplied answered answer = (answer ≡ reply_text answered) ⊎ (answer ≡ refused_line OutOfMemory)

-- nothing but the answer `refused N`
abbrev pub IsRefused : Refusal → ScriptState → Machine → List ℕ → ScriptState → Machine → Type 0
IsRefused why state m answer next last = (answer ≡ refused_line why) × (next ≡ state) × (last ≡ m)

-- the answer to a command, the script's state and the machine after it
abbrev pub IsDone : List Table → Command → ScriptState → Machine → List ℕ → ScriptState → Machine → Type 0
IsDone schema (command.Clock earliest latest) state m answer next last =
    IsChanged (SetsClock earliest latest state) (RefusesClock earliest latest) state answer next × (last ≡ m)
IsDone schema (command.Param name kind cell) state m answer next last =
    IsChanged (SetsParam name.now kind cell.now state) (RefusesParam kind cell.now) state answer next × (last ≡ m)
IsDone schema (command.Write kind table columns row) state m answer next last =
    IsChanged (Writes schema kind table.now columns.now row.now state)
    (RefusesWrite schema kind table.now columns.now row.now) state answer next
    × (last ≡ m)
IsDone schema (command.Delete table row) state m answer next last =
    IsChanged (Deletes schema table.now row.now state) (RefusesDelete schema table.now row.now) state answer next
    × (last ≡ m)
IsDone schema (command.Split table row) state m answer next last =
    (answered : Reply) × IsSplit schema m table.now row.now answered last × IsReplied answered answer × (next ≡ state)
IsDone schema (command.Load table columns) state m answer next last =
    BeginsLoad schema table.now columns.now state next × (answer ≡ []) × (last ≡ m)
IsDone schema command.Begin state m answer next last =
    (answered : Reply) × IsBegun schema m state.gathered answered last × IsReplied answered answer
    × (next ≡ record state { gathered = [] })
IsDone schema (command.Open bound text) state m answer next last =
    (answered : Reply) × Takes schema m (step.Open text.now state.params bound state.clock) answered last
    × IsReplied answered answer × (next ≡ state)
IsDone schema (command.Query bound text) state m answer next last =
    (answered : Reply) × IsQueried schema m state.clock (step.Open text.now state.params bound state.clock) answered
    last
    × IsReplied answered answer × (next ≡ state)
IsDone schema (command.Explain text) state m answer next last =
    IsExplained schema text.now state.params answer × (next ≡ state) × (last ≡ m)
IsDone schema command.Shards state m answer next last =
    ((answer ≡ shards_text schema m) ⊎ (answer ≡ refused_line OutOfMemory)) × (next ≡ state) × (last ≡ m)
IsDone schema c state m answer next last =
    MatchOption (numbered_step c state.clock)
    (IsRefused BadCommand state m answer next last)
    (λ s. (answered : Reply) × Takes schema m s answered last × IsReplied answered answer × (next ≡ state))

-- ---- lines

-- the bytes of a line, and its text; it has none where it is too long or not in UTF-8
abbrev pub HasText : List ℕ → Option (List ℕ) → Type 0
HasText line None = (longest_line < length line) ⊎ ¬ IsUtf8 line
HasText line (Some text) = (length line ≤ longest_line) × IsUtf8 line × (text ≡ line)

-- the line is empty or a remark
abbrev pub is_passed_over : List ℕ → Bool
is_passed_over [] = true
is_passed_over (b ∷ bs) = b == 35

-- the answer to what was read as a command, or as none
abbrev pub IsDoneIfRead : List Table → Option Command → ScriptState → Machine → List ℕ → ScriptState → Machine → Type 0
IsDoneIfRead schema None state m answer next last = IsRefused BadCommand state m answer next last
IsDoneIfRead schema (Some c) state m answer next last = IsDone schema c state m answer next last

-- a line outside a load
abbrev pub IsCommandLine : List Table → Option (List ℕ) → ScriptState → Machine → List ℕ → ScriptState → Machine
    → Type 0
IsCommandLine schema None state m answer next last = IsRefused BadCommand state m answer next last
IsCommandLine schema (Some text) state m answer next last =
    ((is_passed_over text ≡ true) × (answer ≡ []) × (next ≡ state) × (last ≡ m))
    ⊎ ((is_passed_over text ≡ false) × (c : Option Command) × IsReadAs text c
    × IsDoneIfRead schema c state m answer next last)

-- the answer to a line that has this text, or none
abbrev pub IsAnswered : List Table → Option (List ℕ) → ScriptState → Machine → List ℕ → ScriptState → Machine → Type 0
IsAnswered schema text state m answer next last =
    MatchOption state.load
    (IsCommandLine schema text state m answer next last)
    (λ load. IsLoadLine load text state answer next × (last ≡ m))

-- the answer to a line was added
pub record AddsLine (schema : List Table) (text : Option (List ℕ)) (state : ScriptState) (m : Machine)
    (next : ScriptState) (last : Machine) (old new : List ℕ) : Type 0 where
  pub answer : List ℕ
  pub is : IsAnswered schema text state m answer next last
  pub added : new ≡ old ++ answer

-- ---- scripts

-- the answer to the end of the script: a load that has no `end` is refused
abbrev pub end_answer : ScriptState → List ℕ
end_answer state = if is_some state.load then refused_line BadCommand else []

-- the lines of a text
abbrev pub AreLines : List ℕ → List (List ℕ) → Type 0
AreLines text [] = text ≡ []
AreLines text (line ∷ lines) = (following : List ℕ) × NextLine text line following × AreLines following lines

-- the answers to lines, one after another, and the machine after them
abbrev pub AreAnswers : List Table → List (List ℕ) → ScriptState → Machine → List ℕ → Machine → Type 0
AreAnswers schema [] state m answers last = (answers ≡ end_answer state) × (last ≡ m)
AreAnswers schema (line ∷ lines) state m answers last =
    (text : Option (List ℕ)) × HasText line text
    × (answer : List ℕ) × (next : ScriptState) × (mid : Machine) × IsAnswered schema text state m answer next mid
    × (others : List ℕ) × (answers ≡ answer ++ others) × AreAnswers schema lines next mid others last

-- Answer text: the bytes of a script are answered by these, from the machine on, and lead to the last machine.
pub record IsAnswerText (schema : List Table) (m : Machine) (script answers : List ℕ) (last : Machine) : Type 0 where
  pub lines : List (List ℕ)
  pub are_lines : AreLines script lines
  pub first : ScriptState
  pub is_first : IsFirst first
  pub answered : AreAnswers schema lines first m answers last
