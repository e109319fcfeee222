-- A whole script, one line after another.
use Rattle.std.proofs.Common.{◌≡◌, ℕ, Bool, true, false, List, [], ◌∷◌, ◌++◌, Option, Some, MatchBool, refl, sym, subst, append_assoc}
use Rattle.std.specs.Io.KnownBytes.{Appends, Keeps, append_known}
use Rattle.span_schema.specs.declared.table.Table.{Table}
use Rattle.span_machine.specs.Machine.{Machine}
use Rattle.span_command.specs.declared.line.Line.{Line}
use Rattle.span_command.specs.declared.line.Line.TheVariants.{Text, Unreadable}
use Rattle.span_command.specs.declared.line.Lines.{Lines}
use Rattle.span_command.specs.Unread.{IsTaken, ReadsAs, IsStillToCome, TakesNext}
use Rattle.span_steps.specs.States.{ScriptState, IsFirst}
use Rattle.span_script.specs.Scripts.{HasText, AreLines, AreAnswers, IsAnswerText, end_answer, AddsLine}
use Rattle.span_steps.specs.Running.{text_of}
use Rattle.span_answers.proofs.Written.{wrote_all, wrote_none, wrote_pending, keeps_on, more_pending}

-- ---- lines

pub has_text : (bytes : List ℕ) (line : Line) → ReadsAs bytes line → HasText bytes (text_of line)
has_text bytes (Text text) reads = reads
has_text bytes Unreadable reads = reads

module _ (lines : Lines) (known : Option (List ℕ)) (text : List ℕ) (more : Bool) where
  -- a line was taken
  pub if_more : more ≡ true → MatchBool more (TakesNext lines known text) (text ≡ []) → TakesNext lines known text
  if_more is either = subst (λ (b : Bool). MatchBool b (TakesNext lines known text) (text ≡ [])) is either

  -- no line was left
  pub if_no_more : more ≡ false → MatchBool more (TakesNext lines known text) (text ≡ []) → text ≡ []
  if_no_more is either = subst (λ (b : Bool). MatchBool b (TakesNext lines known text) (text ≡ [])) is either

-- ---- scripts

-- The lines of a script so far are answered: what answers the lines after them makes the answer text whole.
pub record IsAnsweredSoFar (schema : List Table) (m : Machine) (script : List ℕ) (old : Option (List ℕ)) (lines : Lines) (known : Option (List ℕ))
    (state : ScriptState) (mid : Machine) (now : Option (List ℕ)) (pending : List ℕ) : Type 0 where
  pub rest : List ℕ
  pub to_come : IsStillToCome lines known rest
  pub first : ScriptState
  pub is_first : IsFirst first
  pub answers : List ℕ
  pub written : Keeps (append_known old answers) (append_known now pending)
  pub whole : (following : List (List ℕ)) (others : List ℕ) (last : Machine) → AreLines rest following → AreAnswers schema following state mid others last
      → (all : List (List ℕ)) × AreLines script all × AreAnswers schema all first m (answers ++ others) last

module _ (schema : List Table) (m : Machine) (script : List ℕ) (old : Option (List ℕ)) where
  -- nothing is read and nothing pending
  pub none_so_far : (lines : Lines) (known : Option (List ℕ)) (state : ScriptState) (pending : List ℕ) → known ≡ Some script
      → ((rest : List ℕ) → IsStillToCome lines (Some rest) rest) → IsFirst state → pending ≡ []
      → IsAnsweredSoFar schema m script old lines known state m old pending
  none_so_far lines known state pending is_known to_come is none = record {
    rest = script;
    to_come = subst (λ (k : Option (List ℕ)). IsStillToCome lines k script) (sym is_known) (to_come script);
    first = state;
    is_first = is;
    answers = [];
    written = subst (λ (w : List ℕ). Keeps (append_known old []) (append_known old w)) (sym none) (wrote_none old []);
    whole = λ following others last are answered. (following, are, answered);
  }

  -- a line more is answered, and what was pending with it is written or left
  pub one_so_far : (lines lines' : Lines) (known known' : Option (List ℕ)) (state next : ScriptState) (mid mid' : Machine) (now now' now'' : Option (List ℕ))
      (pending pending' pending'' left : List ℕ) (line : Line) (schema' : List Table)
      → (so_far : IsAnsweredSoFar schema m script old lines known state mid now pending)
      → TakesNext lines' known' so_far.rest → ((bytes : List ℕ) → IsTaken lines' bytes → ReadsAs bytes line)
      → Keeps (append_known now pending) (append_known now' pending')
      → schema' ≡ schema → AddsLine schema' (text_of line) state mid next mid' pending' pending''
      → Keeps (append_known now' pending'') (append_known now'' left)
      → IsAnsweredSoFar schema m script old lines' known' next mid' now'' left
  one_so_far lines lines' known known' state next mid mid' now now' now'' pending pending' pending'' left line schema' so_far takes reads keeps same added wrote =
      let adds : AddsLine schema (text_of line) state mid next mid' pending' pending''
      = subst (λ (s : List Table). AddsLine s (text_of line) state mid next mid' pending' pending'') same added in
      let written : Keeps (append_known old (so_far.answers ++ adds.answer)) (append_known now' pending'')
      = subst (λ (w : List ℕ). Keeps (append_known old (so_far.answers ++ adds.answer)) (append_known now' w)) (sym adds.added)
      (more_pending old now' so_far.answers pending' adds.answer (keeps_on _ _ _ so_far.written keeps)) in
      record {
        rest = takes.following;
        to_come = takes.to_come;
        first = so_far.first;
        is_first = so_far.is_first;
        answers = so_far.answers ++ adds.answer;
        written = keeps_on _ _ _ written wrote;
        whole = λ following others last are answered.
            let w = so_far.whole (takes.line ∷ following) (adds.answer ++ others) last (takes.following, takes.is_next, are)
            (text_of line, has_text takes.line line (reads takes.line takes.is_taken), adds.answer, next, mid', adds.is, others, refl, answered) in
            (w.0, w.1, subst (λ (a : List ℕ). AreAnswers schema w.0 so_far.first m a last) (sym (append_assoc so_far.answers adds.answer others)) w.2);
      }

  -- the script has ended
  pub all_answered : (lines : Lines) (known : Option (List ℕ)) (state : ScriptState) (mid : Machine) (now now' last : Option (List ℕ)) (pending pending' pending'' : List ℕ)
      → (so_far : IsAnsweredSoFar schema m script old lines known state mid now pending) → so_far.rest ≡ []
      → Keeps (append_known now pending) (append_known now' pending') → pending'' ≡ pending' ++ end_answer state → Appends now' last pending''
      → (answers : List ℕ) × IsAnswerText schema m script answers mid × Appends old last answers
  all_answered lines known state mid now now' last pending pending' pending'' so_far ended keeps added appends =
      let w = so_far.whole [] (end_answer state) mid ended (refl, refl) in
      let written : Keeps (append_known old (so_far.answers ++ end_answer state)) (append_known now' pending'')
      = subst (λ (w : List ℕ). Keeps (append_known old (so_far.answers ++ end_answer state)) (append_known now' w)) (sym added)
      (more_pending old now' so_far.answers pending' (end_answer state) (keeps_on _ _ _ so_far.written keeps)) in (
        so_far.answers ++ end_answer state,
        record { lines = w.0; are_lines = w.1; first = so_far.first; is_first = so_far.is_first; answered = w.2 },
        wrote_all old last (so_far.answers ++ end_answer state) (wrote_pending old now' last (so_far.answers ++ end_answer state) pending'' written appends),
      )
