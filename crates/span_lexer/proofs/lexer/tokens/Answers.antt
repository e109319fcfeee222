use Rattle.std.proofs.Common.{◌≡◌, ◌⊎◌, ◌∙◌, Some, None, sym, ap, subst, ℕ, List}
use Rattle.span_value.specs.declared.refusal.Refusal.TheVariants as refusal
use Rattle.span_lexer.specs.Lexing.{lex_from}
use Rattle.span_lexer.proofs.Complete.{items_of}
use Rattle.span_lexer.proofs.Answered.{read_is, items_refused, misread_is}
use Rattle.span_lexer.proofs.lexer.tokens.Goals as goal

pub returns-in-Ok-clause-read : goal.returns-in-Ok-clause-read
returns-in-Ok-clause-read c =
    let whole : lex_from 0 0 c.args.text.now ≡ Some c.in-Ok.found.items = ap (lex_from 0 0) (sym c.as_bytes.ensures.value) ∙ c.in-Ok.ensures.ok in
    let made = items_of c.args.text.now c.in-Ok.found.items whole in
    (made.0, made.1, made.2, c.from_vec.ensures ∙ made.3)

pub returns-in-Ok-clause-read_all : goal.returns-in-Ok-clause-read_all
returns-in-Ok-clause-read_all c = λ is are same short.
    let whole : lex_from 0 0 c.args.text.now ≡ Some c.in-Ok.found.items = ap (lex_from 0 0) (sym c.as_bytes.ensures.value) ∙ c.in-Ok.ensures.ok in
    c.from_vec.ensures ∙ read_is c.args.text.now c.in-Ok.found.items whole is are same

pub returns-in-Err-clause-read_all : goal.returns-in-Err-clause-read_all
returns-in-Err-clause-read_all c = λ is are same short.
    let P : List ℕ → Type 0 = λ w. (c.in-Err.why.refusal ≡ refusal.OutOfMemory) ⊎ ((c.in-Err.why.refusal ≡ refusal.BadToken) × (lex_from 0 0 w ≡ None)) in
    items_refused c.args.text.now c.in-Err.why.refusal is are same (subst P c.as_bytes.ensures.value c.in-Err.ensures.err)

pub returns-in-Err-clause-refused : goal.returns-in-Err-clause-refused
returns-in-Err-clause-refused c =
    let P : List ℕ → Type 0 = λ w. (c.in-Err.why.refusal ≡ refusal.OutOfMemory) ⊎ ((c.in-Err.why.refusal ≡ refusal.BadToken) × (lex_from 0 0 w ≡ None)) in
    misread_is c.args.text.now c.in-Err.why.refusal c.if-text-gt-LONGEST_TEXT.false (subst P c.as_bytes.ensures.value c.in-Err.ensures.err)
