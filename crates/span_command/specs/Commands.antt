-- The command that a line is.
use Rattle.std.specs.Prelude.{◌≡◌, ◌≢◌, ◌<◌, ◌^◌, ℕ, Bool, true, false, List, Option, MatchOption, codes, ⊤}
use Rattle.std.specs.Fmt.{decimal}
use Rattle.span_mutate.specs.declared.mutation.MutationKind.{MutationKind}
use Rattle.span_mutate.specs.declared.mutation.MutationKind.TheVariants as mutation
use Rattle.span_command.specs.declared.command.Command.{Command}
use Rattle.span_command.specs.declared.command.Command.TheVariants as command
use Rattle.span_command.specs.Words.{spaced, type_name, bound_text, BoundFits, IsWord, is_name_text}

-- a word and a number
abbrev pub one : List ℕ → ℕ → List ℕ
one word a = spaced word (decimal a)

-- a word and two numbers
abbrev pub two : List ℕ → ℕ → ℕ → List ℕ
two word a b = spaced word (spaced (decimal a) (decimal b))

-- a word and three numbers
abbrev pub three : List ℕ → ℕ → ℕ → ℕ → List ℕ
three word a b c = spaced word (spaced (decimal a) (spaced (decimal b) (decimal c)))

-- the word of a mutation
abbrev pub write_word : MutationKind → List ℕ
write_word mutation.Insert = codes "insert"
write_word mutation.Update = codes "update"
write_word mutation.InsertOrUpdate = codes "upsert"
write_word mutation.Delete = codes "delete"

-- the line of a command
abbrev pub command_text : Command → List ℕ
command_text (command.Clock earliest latest) = two (codes "clock") earliest latest
command_text (command.Param name kind cell) =
    spaced (codes "param") (spaced name.now (spaced (type_name kind) cell.now))
command_text (command.Write kind table columns row) =
    spaced (write_word kind) (spaced table.now (spaced columns.now row.now))
command_text (command.Delete table row) = spaced (codes "delete") (spaced table.now row.now)
command_text (command.Split table row) = spaced (codes "split") (spaced table.now row.now)
command_text (command.Load table columns) = spaced (codes "load") (spaced table.now columns.now)
command_text command.Begin = codes "begin"
command_text (command.Prepare txn slot) = two (codes "prepare") txn slot
command_text (command.Decide txn) = one (codes "decide") txn
command_text (command.Abort txn) = one (codes "abort") txn
command_text (command.Apply txn slot) = two (codes "apply") txn slot
command_text (command.Advance slot) = one (codes "advance") slot
command_text (command.Open bound text) = spaced (codes "open") (spaced (bound_text bound) text.now)
command_text (command.Scan query leaf slot) = three (codes "scan") query leaf slot
command_text (command.Finish query) = one (codes "finish") query
command_text (command.Close query) = one (codes "close") query
command_text (command.Query bound text) = spaced (codes "query") (spaced (bound_text bound) text.now)
command_text (command.Explain text) = spaced (codes "explain") text.now
command_text (command.Trim slot horizon) = two (codes "trim") slot horizon
command_text command.Shards = codes "shards"

-- what a line can say of a command: its numbers fit in 64 bits, its words are words, its names are names, and a write
-- is no delete
abbrev pub IsWritable : Command → Type 0
IsWritable (command.Clock earliest latest) = (earliest < 2 ^ 64) × (latest < 2 ^ 64)
IsWritable (command.Param name kind cell) = is_name_text name.now ≡ true
IsWritable (command.Write kind table columns row) = (kind ≢ mutation.Delete) × IsWord table.now × IsWord columns.now
IsWritable (command.Delete table row) = IsWord table.now
IsWritable (command.Split table row) = IsWord table.now
IsWritable (command.Load table columns) = IsWord table.now × IsWord columns.now
IsWritable command.Begin = ⊤
IsWritable (command.Prepare txn slot) = (txn < 2 ^ 64) × (slot < 2 ^ 64)
IsWritable (command.Decide txn) = txn < 2 ^ 64
IsWritable (command.Abort txn) = txn < 2 ^ 64
IsWritable (command.Apply txn slot) = (txn < 2 ^ 64) × (slot < 2 ^ 64)
IsWritable (command.Advance slot) = slot < 2 ^ 64
IsWritable (command.Open bound text) = BoundFits bound
IsWritable (command.Scan query leaf slot) = (query < 2 ^ 64) × (leaf < 2 ^ 64) × (slot < 2 ^ 64)
IsWritable (command.Finish query) = query < 2 ^ 64
IsWritable (command.Close query) = query < 2 ^ 64
IsWritable (command.Query bound text) = BoundFits bound
IsWritable (command.Explain text) = ⊤
IsWritable (command.Trim slot horizon) = (slot < 2 ^ 64) × (horizon < 2 ^ 64)
IsWritable command.Shards = ⊤

-- the line is the command
abbrev pub IsCommand : List ℕ → Command → Type 0
IsCommand line c = IsWritable c × (line ≡ command_text c)

-- what is read of a line: the command that it is, or none where it is no command
abbrev pub IsReadAs : List ℕ → Option Command → Type 0
IsReadAs line result = MatchOption result ((c : Command) → ¬ IsCommand line c) (IsCommand line)

-- the command has only numbers after its word
abbrev pub has_only_numbers : Command → Bool
has_only_numbers (command.Clock earliest latest) = true
has_only_numbers (command.Prepare txn slot) = true
has_only_numbers (command.Decide txn) = true
has_only_numbers (command.Abort txn) = true
has_only_numbers (command.Apply txn slot) = true
has_only_numbers (command.Advance slot) = true
has_only_numbers (command.Scan query leaf slot) = true
has_only_numbers (command.Finish query) = true
has_only_numbers (command.Close query) = true
has_only_numbers (command.Trim slot horizon) = true
has_only_numbers c = false

-- the same, where only commands are looked for that have only numbers after their word
abbrev pub IsNumberedReadAs : List ℕ → Option Command → Type 0
IsNumberedReadAs line result =
    MatchOption result ((c : Command) → has_only_numbers c ≡ true → ¬ IsCommand line c) (IsCommand line)
