-- What the result of reading the tokens implies of the text.
use Rattle.std.proofs.Common.{◌≡◌, ◌≢◌, inl, inr, ℕ, List, Result, Ok, Err, refl, sym, ap, subst, ◌∙◌, arith}
use Rattle.std.specs.Prelude.{IfErr}
use Rattle.span_value.specs.declared.refusal.Refusal.{Refusal}
use Rattle.span_value.specs.declared.refusal.Refusal.TheVariants as refusal
use Rattle.span_lexer.specs.Tokens.{Item}
use Rattle.span_lexer.specs.Readings.{IsReadError}
use Rattle.span_lexer.proofs.Answered.{one_reading}
use Rattle.span_grammar.specs.declared.class.Lexeme.{Lexeme}
use Rattle.span_grammar.specs.declared.judge.Goal.{Goal}
use Rattle.span_grammar.specs.Rules.{Tree}
use Rattle.span_grammar.specs.Texts.{HasTree, IsWrong, IsTooDeep}
use Rattle.span_grammar.specs.Grammar.{inside}
use Rattle.span_grammar.specs.Goals.{goal_rule}
use Rattle.span_grammar.specs.Classes.{lexemes_of}
use Rattle.span_grammar.specs.Judged.{HasItems, lexemes_in, IsText, IsTokenRefusal, IsRefused, OrOutOfMemory}

abbrev Answer : Type 0
Answer = Result (Unit {0}) Refusal

-- what reading the tokens of a text gave
pub record Judges (g : Goal) (tokens : List Lexeme) (r : Answer) : Type 0 where
  pub read : r ≡ Ok tt → (x : Tree) × HasTree inside (goal_rule g) tokens x
  pub read_all : (x : Tree) → HasTree inside (goal_rule g) tokens x → OrOutOfMemory r (Ok tt)
  pub refused : IfErr r (λ why. IsTokenRefusal g tokens why)
  pub wrong_all : IsWrong inside (goal_rule g) tokens → OrOutOfMemory r (Err refusal.Syntax)
  pub deep_all : IsTooDeep inside (goal_rule g) tokens → OrOutOfMemory r (Err refusal.TooDeep)

-- two lists of items of a text have the same tokens
pub same_lexemes : (text : List ℕ) (is js : List Item) → HasItems text is → HasItems text js → lexemes_in text is ≡ lexemes_in text js
same_lexemes text is js a b = ap (lexemes_of text) (one_reading is js a.are b.are (sym a.spells ∙ b.spells))

pub text_read : (g : Goal) (text : List ℕ) (is : List Item) (r : Answer) → HasItems text is → Judges g (lexemes_in text is) r → r ≡ Ok tt → IsText g text
text_read g text is r made j e = let t = j.read e in record { items = is; made = made; tree = t.0; has = t.1 }

pub judged_refused : (g : Goal) (text : List ℕ) (is : List Item) (why : Refusal) → HasItems text is → IsTokenRefusal g (lexemes_in text is) why → IsRefused g text why
judged_refused g text is refusal.Syntax made h = (is, made, h)
judged_refused g text is refusal.TooDeep made h = (is, made, h)
judged_refused g text is refusal.OutOfMemory made h = tt
judged_refused g text is _ made h = absurd h

pub text_refused : (g : Goal) (text : List ℕ) (is : List Item) (r : Answer) → HasItems text is → Judges g (lexemes_in text is) r → IfErr r (λ why. IsRefused g text why)
text_refused g text is (Ok x) made j = tt
text_refused g text is (Err why) made j = judged_refused g text is why made j.refused

pub text_refused_all : (g : Goal) (text : List ℕ) (is : List Item) (r : Answer) → HasItems text is → Judges g (lexemes_in text is) r → (why : Refusal) → why ≢ refusal.OutOfMemory → IsRefused g text why → OrOutOfMemory r (Err why)
text_refused_all g text is r made j refusal.TextTooLong n h = absurd (let l = made.short in omega (arith, h, l))
text_refused_all g text is r made j refusal.BadToken n h = absurd (h.1 is made.are made.spells)
text_refused_all g text is r made j refusal.Syntax n h =
    let P : List Lexeme → Type 0 = λ w. IsWrong inside (goal_rule g) w in
    j.wrong_all (subst P (same_lexemes text h.0 is h.1 made) h.2)
text_refused_all g text is r made j refusal.TooDeep n h =
    let P : List Lexeme → Type 0 = λ w. IsTooDeep inside (goal_rule g) w in
    j.deep_all (subst P (same_lexemes text h.0 is h.1 made) h.2)
text_refused_all g text is r made j refusal.OutOfMemory n h = absurd (n refl)
text_refused_all g text is r made j _ n h = absurd h

-- ---- a text that has no tokens

pub made_not : (text : List ℕ) (why : Refusal) (is : List Item) → IsReadError text why → why ≢ refusal.OutOfMemory → HasItems text is → ⊥
made_not text refusal.TextTooLong is h n made = let l = made.short in omega (arith, h, l)
made_not text refusal.BadToken is h n made = h.1 is made.are made.spells
made_not text refusal.OutOfMemory is h n made = n refl
made_not text _ is h n made = h

-- the other refusal of a text that has no tokens
pub misread_same : (g : Goal) (text : List ℕ) (found why : Refusal) → IsReadError text found → why ≢ refusal.OutOfMemory → IsRefused g text why → OrOutOfMemory (let r : Answer = Err found in r) (Err why)
misread_same g text refusal.OutOfMemory why h n k = inr refl
misread_same g text refusal.TextTooLong refusal.TextTooLong h n k = inl refl
misread_same g text refusal.TextTooLong refusal.BadToken h n k = absurd (let l = k.0 in omega (arith, h, l))
misread_same g text refusal.TextTooLong refusal.Syntax h n k = absurd (made_not text refusal.TextTooLong k.0 h (λ e. absurd cc) k.1)
misread_same g text refusal.TextTooLong refusal.TooDeep h n k = absurd (made_not text refusal.TextTooLong k.0 h (λ e. absurd cc) k.1)
misread_same g text refusal.TextTooLong refusal.OutOfMemory h n k = absurd (n refl)
misread_same g text refusal.TextTooLong _ h n k = absurd k
misread_same g text refusal.BadToken refusal.BadToken h n k = inl refl
misread_same g text refusal.BadToken refusal.TextTooLong h n k = absurd (let l = h.0 in omega (arith, k, l))
misread_same g text refusal.BadToken refusal.Syntax h n k = absurd (made_not text refusal.BadToken k.0 h (λ e. absurd cc) k.1)
misread_same g text refusal.BadToken refusal.TooDeep h n k = absurd (made_not text refusal.BadToken k.0 h (λ e. absurd cc) k.1)
misread_same g text refusal.BadToken refusal.OutOfMemory h n k = absurd (n refl)
misread_same g text refusal.BadToken _ h n k = absurd k
misread_same g text _ why h n k = absurd h
