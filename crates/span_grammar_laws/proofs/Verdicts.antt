-- The laws: the grammar that is read and the written one give the same verdicts.
use Rattle.std.proofs.Common.{◌≡◌, ℕ, List, [], map, refl, sym, ap, subst, ◌∙◌}
use Rattle.span_value.specs.declared.refusal.Refusal.{Refusal}
use Rattle.span_value.specs.declared.refusal.Refusal.TheVariants as refusal
use Rattle.span_lexer.specs.declared.token.Token.{Token}
use Rattle.span_lexer.specs.Tokens.{tokens_of}
use Rattle.span_grammar.specs.declared.class.Lexeme.{Lexeme}
use Rattle.span_grammar.specs.declared.judge.Goal.{Goal}
use Rattle.span_grammar.specs.Texts.{IsWrong, IsTooDeep}
use Rattle.span_grammar.specs.Grammar.{inside}
use Rattle.span_grammar.specs.Goals.{goal_rule}
use Rattle.span_grammar.specs.Classes.{lexemes_of}
use Rattle.span_grammar.specs.Judged.{IsRefused}
use Rattle.span_grammar_laws.specs.PlainTokens.{plain_lexemes}
use Rattle.span_grammar_laws.specs.Laws.{HasSomeTree, JudgesAlike, SameAsWritten, SameTexts, IsWrittenRefused, SameRefusals}
use Rattle.span_grammar_laws.proofs.Tagging.{tags, untag, tags_of_text, are_plain, untag_tags}
use Rattle.span_grammar_laws.proofs.Judged.{tree_written, tree_read, deep_written, deep_read}
use Rattle.span_grammar_laws.proofs.Wrong.{wrong_written, wrong_read}

-- for the tokens with the classes that what follows them makes
judges_tags : (g : Goal) (text : List ℕ) (tokens : List Token) (ts : List Lexeme) → ts ≡ tags (plain_lexemes text tokens) [] → lexemes_of text tokens ≡ ts → JudgesAlike g text tokens
judges_tags g text tokens ts e f =
    let ps : List Lexeme = plain_lexemes text tokens in
    let all : lexemes_of text tokens ≡ tags ps [] = f ∙ e in
    let plain : ps ≡ map (untag text) (lexemes_of text tokens) = sym (untag_tags text ps [] (are_plain text tokens)) ∙ ap (map (untag text)) (sym all) in
    record {
      trees = (λ t. tree_written g text (lexemes_of text tokens) ps plain t, λ t. subst (HasSomeTree inside (goal_rule g)) (sym all) (tree_read g ps t));
      wrong = (
        λ w. wrong_written g text ps (are_plain text tokens) (subst (IsWrong inside (goal_rule g)) all w),
        λ w. subst (IsWrong inside (goal_rule g)) (sym all) (wrong_read g text ps (are_plain text tokens) w),
      );
      deep = (λ h. deep_written g text (lexemes_of text tokens) ps plain h, λ h. subst (IsTooDeep inside (goal_rule g)) (sym all) (deep_read g ps h));
    }

pub same_as_written : SameAsWritten
same_as_written g text tokens = judges_tags g text tokens (tags (plain_lexemes text tokens) []) refl (tags_of_text text tokens)

pub same_texts : SameTexts
same_texts g text = (
  λ t. (let x = (same_as_written g text (tokens_of 0 t.items)).trees.0 (t.tree, t.has) in record { items = t.items; made = t.made; tree = x.0; has = x.1 }),
  λ t. (let x = (same_as_written g text (tokens_of 0 t.items)).trees.1 (t.tree, t.has) in record { items = t.items; made = t.made; tree = x.0; has = x.1 }),
)

to_written : (g : Goal) (text : List ℕ) (why : Refusal) → IsRefused g text why → IsWrittenRefused g text why
to_written g text refusal.TextTooLong h = h
to_written g text refusal.BadToken h = h
to_written g text refusal.Syntax h = (h.0, h.1, (same_as_written g text (tokens_of 0 h.0)).wrong.0 h.2)
to_written g text refusal.TooDeep h = (h.0, h.1, (same_as_written g text (tokens_of 0 h.0)).deep.0 h.2)
to_written g text refusal.OutOfMemory h = tt
to_written g text _ h = absurd h

from_written : (g : Goal) (text : List ℕ) (why : Refusal) → IsWrittenRefused g text why → IsRefused g text why
from_written g text refusal.TextTooLong h = h
from_written g text refusal.BadToken h = h
from_written g text refusal.Syntax h = (h.0, h.1, (same_as_written g text (tokens_of 0 h.0)).wrong.1 h.2)
from_written g text refusal.TooDeep h = (h.0, h.1, (same_as_written g text (tokens_of 0 h.0)).deep.1 h.2)
from_written g text refusal.OutOfMemory h = tt
from_written g text _ h = absurd h

pub same_refusals : SameRefusals
same_refusals g text why = (to_written g text why, from_written g text why)
