-- What the result of reading implies of the text.
use Rattle.std.proofs.Common.{◌≡◌, ◌⊎◌, inl, inr, ℕ, ◌≤◌, length, List, Some, None, sym, ap, subst, ◌∙◌}
use Rattle.std.proofs.lemmas.Option.{same_Some}
use Rattle.span_value.specs.declared.refusal.Refusal.{Refusal}
use Rattle.span_value.specs.declared.refusal.Refusal.TheVariants as refusal
use Rattle.span_lexer.specs.declared.token.Token.{Token}
use Rattle.span_lexer.specs.Limits.{longest_text}
use Rattle.span_lexer.specs.Lexing.{lex_from}
use Rattle.span_lexer.specs.Readings.{IsReadError}
use Rattle.span_lexer.specs.Tokens.{Item, AreItems, text_of, tokens_of}
use Rattle.span_lexer.proofs.Complete.{items_read}

pub read_is : (text : List ℕ) (found : List Token) → lex_from 0 0 text ≡ Some found → (is : List Item) → AreItems is → text ≡ text_of is → found ≡ tokens_of 0 is
read_is text found e is are same = same_Some found (tokens_of 0 is) (sym e ∙ ap (lex_from 0 0) same ∙ items_read 0 is are)

pub read_is_not : (text : List ℕ) → lex_from 0 0 text ≡ None → (is : List Item) → AreItems is → text ≡ text_of is → ⊥
read_is_not text e is are same = let t : None ≡ Some (tokens_of 0 is) = sym e ∙ ap (lex_from 0 0) same ∙ items_read 0 is are in cc

pub misread_is : (text : List ℕ) (r : Refusal) → length text ≤ longest_text → (r ≡ refusal.OutOfMemory) ⊎ ((r ≡ refusal.BadToken) × (lex_from 0 0 text ≡ None)) → IsReadError text r
misread_is text r l (inl e) = subst (IsReadError text) (sym e) tt
misread_is text r l (inr h) = subst (IsReadError text) (sym h.0) (l, read_is_not text h.1)

pub items_refused : (text : List ℕ) (r : Refusal) (is : List Item) → AreItems is → text ≡ text_of is → (r ≡ refusal.OutOfMemory) ⊎ ((r ≡ refusal.BadToken) × (lex_from 0 0 text ≡ None)) → r ≡ refusal.OutOfMemory
items_refused text r is are same (inl e) = e
items_refused text r is are same (inr h) = absurd (read_is_not text h.1 is are same)

pub one_reading : (is js : List Item) → AreItems is → AreItems js → text_of is ≡ text_of js → tokens_of 0 is ≡ tokens_of 0 js
one_reading is js are also same = read_is (text_of is) (tokens_of 0 is) (items_read 0 is are) js also same
