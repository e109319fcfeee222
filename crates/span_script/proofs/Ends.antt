-- The text that ends a line.
use Rattle.std.proofs.Common.{◌≡◌, ◌∙◌, ◌+◌, ◌-◌, ℕ, List, [], ◌∷◌, ◌++◌, Some, codes, sym, ap, subst, length, append_assoc, arith}
use Rattle.std.proofs.lemmas.List.{length-append}
use Rattle.std.proofs.lemmas.Option.{same_Some}
use Rattle.span_command.specs.Commands.{command_text}
use Rattle.span_command.specs.Words.{bound_text, spaced}
use Rattle.span_command.specs.declared.command.Command.{Command}
use Rattle.span_command.specs.declared.command.Command.TheVariants as command
use Rattle.span_script.specs.Reports.{text_of}

-- after two words, as many bytes are before a text as the line has more than the text
pub two_words_before : (word other text line : List ℕ) → line ≡ spaced word (spaced other text)
    → (front : List ℕ) × (length front ≡ length line - length text) × (line ≡ front ++ text)
two_words_before word other text line is =
    let front = word ++ 32 ∷ (other ++ 32 ∷ []) in
    let whole : front ++ text ≡ line =
    append_assoc word (32 ∷ (other ++ 32 ∷ [])) text ∙ ap (λ (w : List ℕ). word ++ 32 ∷ w) (append_assoc other (32 ∷ []) text) ∙ sym is in
    let total : length front + length text ≡ length line = sym (length-append front text) ∙ ap (λ (w : List ℕ). length w) whole in
    (front, omega (arith, total), sym whole)

-- and after one word
pub one_word_before : (word text line : List ℕ) → line ≡ spaced word text → (front : List ℕ) × (length front ≡ length line - length text) × (line ≡ front ++ text)
one_word_before word text line is =
    let front = word ++ 32 ∷ [] in
    let whole : front ++ text ≡ line = append_assoc word (32 ∷ []) text ∙ sym is in
    let total : length front + length text ≡ length line = sym (length-append front text) ∙ ap (λ (w : List ℕ). length w) whole in
    (front, omega (arith, total), sym whole)

-- the query text of a command ends its line
module _ (text line : List ℕ) where
  abbrev Ended : List ℕ → Type 0
  Ended t = (front : List ℕ) × (length front ≡ length line - length t) × (line ≡ front ++ t)

  pub query_ends : (c : Command) → text_of c ≡ Some text → line ≡ command_text c → Ended text
  query_ends (command.Open bound t) has is = subst Ended (same_Some t.now text has) (two_words_before (codes "open") (bound_text bound) t.now line is)
  query_ends (command.Query bound t) has is = subst Ended (same_Some t.now text has) (two_words_before (codes "query") (bound_text bound) t.now line is)
  query_ends (command.Explain t) has is = subst Ended (same_Some t.now text has) (one_word_before (codes "explain") t.now line is)
  query_ends (command.Clock a b) has is = absurd (cc has)
  query_ends (command.Param a b d) has is = absurd (cc has)
  query_ends (command.Write a b d e) has is = absurd (cc has)
  query_ends (command.Delete a b) has is = absurd (cc has)
  query_ends (command.Split a b) has is = absurd (cc has)
  query_ends (command.Load a b) has is = absurd (cc has)
  query_ends command.Begin has is = absurd (cc has)
  query_ends (command.Prepare a b) has is = absurd (cc has)
  query_ends (command.Decide a) has is = absurd (cc has)
  query_ends (command.Abort a) has is = absurd (cc has)
  query_ends (command.Apply a b) has is = absurd (cc has)
  query_ends (command.Advance a) has is = absurd (cc has)
  query_ends (command.Scan a b d) has is = absurd (cc has)
  query_ends (command.Finish a) has is = absurd (cc has)
  query_ends (command.Close a) has is = absurd (cc has)
  query_ends (command.Trim a b) has is = absurd (cc has)
  query_ends command.Shards has is = absurd (cc has)
