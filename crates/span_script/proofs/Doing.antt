-- What a command has added to the answers.
use Rattle.std.proofs.Common.{◌≡◌, ◌⊎◌, ℕ, List, ◌++◌, Result, Ok, Err, inl, inr, refl, sym, subst, codes}
use Rattle.std.specs.Prelude.{MatchOption, MatchResult, Option, Some}
use Rattle.span_value.specs.declared.refusal.Refusal.{Refusal}
use Rattle.span_value.specs.declared.refusal.Refusal.TheVariants.{OutOfMemory, BadCommand}
use Rattle.span_schema.specs.declared.table.Table.{Table}
use Rattle.span_machine.specs.declared.step.Reply.{Reply}
use Rattle.span_machine.specs.Machine.{Machine}
use Rattle.span_answers.specs.Lines.{refused_line, word_line}
use Rattle.span_command.specs.declared.command.Command.{Command}
use Rattle.span_command.specs.declared.command.Command.TheVariants as command
use Rattle.span_machine.specs.declared.step.Step.{Step}
use Rattle.span_steps.specs.States.{ScriptState, numbered_step}
use Rattle.span_script.specs.Scripts.{IsChanged, IsDone, IsRefused, IsReplied}
use Rattle.span_steps.specs.Running.{Adds}
use Rattle.span_steps.specs.Steps.{Takes}

pub adds_weaker : {T : Type 0} (P Q : List ℕ → Type 0) (old new : List ℕ) (r : Result T Refusal) → ((answer : List ℕ) → P answer → Q answer) → Adds P old new r → Adds Q old new r
adds_weaker P Q old new (Ok x) f h = (h.0, f h.0 h.1, h.2)
adds_weaker P Q old new (Err why) f h = f (refused_line why) h

-- a change whose answer went first
pub changed : {T : Type 0} (Sets : ScriptState → Type 0) (Refuses : Refusal → Type 0) (m : Machine) (state next : ScriptState) (old new : List ℕ) (r : Result T Refusal)
    → new ≡ old ++ word_line (codes "ok") → MatchResult r (λ _. Sets next) (λ why. ((why ≡ OutOfMemory) ⊎ Refuses why) × (next ≡ state))
    → Adds (λ answer. IsChanged Sets Refuses state answer next × (m ≡ m)) old new r
changed Sets Refuses m state next old new (Ok x) is h = (word_line (codes "ok"), (inl (h, refl), refl), is)
changed Sets Refuses m state next old new (Err why) is h = (inr (why, h.0, refl, h.1), refl)

-- what is done of a command, whichever it is
pub done_as : {T : Type 0} (schema : List Table) (c d : Command) (state : ScriptState) (m : Machine) (next : ScriptState) (last : Machine) (old new : List ℕ) (r : Result T Refusal)
    → c ≡ d → Adds (λ answer. IsDone schema d state m answer next last) old new r → Adds (λ answer. IsDone schema c state m answer next last) old new r
done_as schema c d state m next last old new r is adds =
    subst (λ (w : Command). Adds (λ answer. IsDone schema w state m answer next last) old new r) (sym is) adds

-- a step is taken and its reply answered, and the script's state stays
abbrev pub IsStepped : List Table → ScriptState → Machine → List ℕ → ScriptState → Machine → Step → Type 0
IsStepped schema state m answer next last s = (answered : Reply) × Takes schema m s answered last × IsReplied answered answer × (next ≡ state)

stepped : (schema : List Table) (o : Option Step) (state : ScriptState) (m : Machine) (answer : List ℕ) (next : ScriptState) (last : Machine) (s : Step) → o ≡ Some s
    → IsStepped schema state m answer next last s → MatchOption o (IsRefused BadCommand state m answer next last) (IsStepped schema state m answer next last)
stepped schema o state m answer next last s is x = subst (λ (w : Option Step). MatchOption w (IsRefused BadCommand state m answer next last) (IsStepped schema state m answer next last)) (sym is) x

pub numbered : (schema : List Table) (c : Command) (state : ScriptState) (m : Machine) (answer : List ℕ) (next : ScriptState) (last : Machine) (s : Step)
    → numbered_step c state.clock ≡ Some s → IsStepped schema state m answer next last s → IsDone schema c state m answer next last
numbered schema (command.Prepare txn slot) state m answer next last s is x = stepped schema _ state m answer next last s is x
numbered schema (command.Decide txn) state m answer next last s is x = stepped schema _ state m answer next last s is x
numbered schema (command.Abort txn) state m answer next last s is x = stepped schema _ state m answer next last s is x
numbered schema (command.Apply txn slot) state m answer next last s is x = stepped schema _ state m answer next last s is x
numbered schema (command.Advance slot) state m answer next last s is x = stepped schema _ state m answer next last s is x
numbered schema (command.Scan query leaf slot) state m answer next last s is x = stepped schema _ state m answer next last s is x
numbered schema (command.Finish query) state m answer next last s is x = stepped schema _ state m answer next last s is x
numbered schema (command.Close query) state m answer next last s is x = stepped schema _ state m answer next last s is x
numbered schema (command.Trim slot horizon) state m answer next last s is x = stepped schema _ state m answer next last s is x
numbered schema (command.Clock earliest latest) state m answer next last s is x = cc
numbered schema (command.Param name kind cell) state m answer next last s is x = cc
numbered schema (command.Write kind table columns row) state m answer next last s is x = cc
numbered schema (command.Delete table row) state m answer next last s is x = cc
numbered schema (command.Split table row) state m answer next last s is x = cc
numbered schema (command.Load table columns) state m answer next last s is x = cc
numbered schema command.Begin state m answer next last s is x = cc
numbered schema (command.Open bound text) state m answer next last s is x = cc
numbered schema (command.Query bound text) state m answer next last s is x = cc
numbered schema (command.Explain text) state m answer next last s is x = cc
numbered schema command.Shards state m answer next last s is x = cc
