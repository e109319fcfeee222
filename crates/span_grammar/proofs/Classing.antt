-- Tokens with their classes, one after the other.
use Rattle.std.proofs.Common.{◌≡◌, ℕ, List, [], ◌∷◌, ◌++◌, refl, sym, ap, ◌∙◌, append_assoc}
use Rattle.std.proofs.lemmas.List.{append-nil}
use Rattle.span_lexer.specs.declared.token.Token.{Token}
use Rattle.span_grammar.specs.declared.class.Lexeme.{Lexeme}
use Rattle.span_grammar.specs.Classes.{class_at, lexemes_of}

abbrev pub lexeme_at : List ℕ → Token → List Token → Lexeme
lexeme_at text t ts = record { class = class_at text t ts; token = t }

cons_is : (text : List ℕ) (t : Token) (ts : List Token) → lexemes_of text (t ∷ ts) ≡ lexeme_at text t ts ∷ lexemes_of text ts
unfolding lexemes_of
cons_is text t ts = refl

nil_is : (text : List ℕ) → lexemes_of text [] ≡ []
unfolding lexemes_of
nil_is text = refl

pub lexeme_added : (text : List ℕ) (out new : List Lexeme) (t : Token) (rest tail tokens : List Token) → out ++ lexemes_of text rest ≡ lexemes_of text tokens → rest ≡ t ∷ tail → new ≡ out ++ (lexeme_at text t tail ∷ [])
    → new ++ lexemes_of text tail ≡ lexemes_of text tokens
lexeme_added text out new t rest tail tokens h e n =
    ap (λ (w : List Lexeme). w ++ lexemes_of text tail) n ∙ append_assoc out (lexeme_at text t tail ∷ []) (lexemes_of text tail)
    ∙ ap (λ (w : List Lexeme). out ++ w) (sym (cons_is text t tail) ∙ ap (lexemes_of text) (sym e)) ∙ h

pub lexemes_over : (text : List ℕ) (out : List Lexeme) (rest tokens : List Token) → out ++ lexemes_of text rest ≡ lexemes_of text tokens → rest ≡ [] → out ≡ lexemes_of text tokens
lexemes_over text out rest tokens h e = sym (append-nil out) ∙ ap (λ (w : List Lexeme). out ++ w) (sym (nil_is text) ∙ ap (lexemes_of text) (sym e)) ∙ h
