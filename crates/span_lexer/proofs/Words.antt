-- Looking a reserved word up.
use Rattle.std.proofs.Common.{◌≡◌, ◌≢◌, ℕ, ◌+◌, ◌<◌, ◌≤◌, Bool, true, false, List, [], ◌∷◌, length, drop, get_or, Some, None, if◌then◌else◌, Option, refl, sym, ap, subst, true≢false, ◌∙◌, ◌==◌, arith}
use Rattle.std.proofs.lemmas.Grind.{common_steps}
use Rattle.std.specs.Str.{bytes_eq, str_to_ascii_lowercase}
use Rattle.std.specs.Cmp.Lexicographic.{same_text, nat_list_eq_equiv}
use Rattle.std.specs.Cmp.{nat_eq_equiv}
use Rattle.std.specs.Char.{to_ascii_lowercase}
use Rattle.std.proofs.lemmas.List.{drop_more}
use Rattle.std.proofs.lemmas.Bool.{cond-true, cond-false}
use Rattle.span_lexer.specs.declared.token.Word.{Word}
use Rattle.span_lexer.specs.declared.token.Word.TheVariants as w
use Rattle.span_lexer.specs.Spellings.{word, matching_word, reserved_words, words_with}
use Rattle.span_lexer.specs.Characters.{begins}

pub choose : {A : Type 0} (P : A → Type 0) (b : Bool) (x y : A) → (b ≡ true → P x) → (b ≡ false → P y) → P (if b then x else y)
choose P true x y f g = f refl
choose P false x y f g = g refl

in_lower_case : (v : Word) → str_to_ascii_lowercase (word v) ≡ word v
in_lower_case w.All = refl
in_lower_case w.And = refl
in_lower_case w.As = refl
in_lower_case w.Asc = refl
in_lower_case w.Between = refl
in_lower_case w.By = refl
in_lower_case w.Case = refl
in_lower_case w.Create = refl
in_lower_case w.Desc = refl
in_lower_case w.Distinct = refl
in_lower_case w.Else = refl
in_lower_case w.End = refl
in_lower_case w.False = refl
in_lower_case w.From = refl
in_lower_case w.Group = refl
in_lower_case w.Having = refl
in_lower_case w.If = refl
in_lower_case w.In = refl
in_lower_case w.Inner = refl
in_lower_case w.Is = refl
in_lower_case w.Join = refl
in_lower_case w.Left = refl
in_lower_case w.Like = refl
in_lower_case w.Limit = refl
in_lower_case w.Not = refl
in_lower_case w.Null = refl
in_lower_case w.On = refl
in_lower_case w.Or = refl
in_lower_case w.Order = refl
in_lower_case w.Outer = refl
in_lower_case w.Select = refl
in_lower_case w.Then = refl
in_lower_case w.True = refl
in_lower_case w.Union = refl
in_lower_case w.When = refl
in_lower_case w.Where = refl

pub equal_texts : (xs ys : List ℕ) → xs ≡ ys → bytes_eq xs ys ≡ true
equal_texts xs ys e = ap (λ (v : List ℕ). bytes_eq xs v) (sym e) ∙ nat_list_eq_equiv.refl xs

pub not_equal_texts : (xs ys : List ℕ) → xs ≢ ys → bytes_eq xs ys ≡ false
not_equal_texts xs ys n = elim (bytes_eq xs ys) as (λ v. bytes_eq xs ys ≡ v → v ≡ false) [ true ↦ λ h. absurd (n (same_text xs ys (sym h))) | false ↦ λ h. refl ] refl

-- one look at a word
pub spelled_here : (v : Word) (vs : List Word) (bytes : List ℕ) → str_to_ascii_lowercase bytes ≡ str_to_ascii_lowercase (word v) → matching_word (v ∷ vs) bytes ≡ Some v
unfolding matching_word
spelled_here v vs bytes e = cond-true (bytes_eq (str_to_ascii_lowercase bytes) (word v)) _ _ (equal_texts _ _ (e ∙ in_lower_case v))

pub spelled_later : (v : Word) (vs : List Word) (bytes : List ℕ) → str_to_ascii_lowercase bytes ≢ str_to_ascii_lowercase (word v) → matching_word (v ∷ vs) bytes ≡ matching_word vs bytes
unfolding matching_word
spelled_later v vs bytes n = cond-false (bytes_eq (str_to_ascii_lowercase bytes) (word v)) _ _ (not_equal_texts _ _ (λ e. n (e ∙ sym (in_lower_case v))))

pub spelled_nowhere : (bytes : List ℕ) → matching_word [] bytes ≡ None
unfolding matching_word
spelled_nowhere bytes = refl

pub word_found : (words : List Word) (bytes : List ℕ) (at : ℕ) (d : Word) → matching_word (drop at words) bytes ≡ matching_word words bytes → at < length words
    → str_to_ascii_lowercase bytes ≡ str_to_ascii_lowercase (word (get_or words at d)) → matching_word words bytes ≡ Some (get_or words at d)
word_found words bytes at d h l e = sym h ∙ ap (λ (v : List Word). matching_word v bytes) (drop_more words at d l) ∙ spelled_here (get_or words at d) (drop (at + 1) words) bytes e

pub word_passed : (words : List Word) (bytes : List ℕ) (at : ℕ) (d : Word) → matching_word (drop at words) bytes ≡ matching_word words bytes → at < length words
    → str_to_ascii_lowercase bytes ≢ str_to_ascii_lowercase (word (get_or words at d)) → matching_word (drop (at + 1) words) bytes ≡ matching_word words bytes
word_passed words bytes at d h l n = sym (spelled_later (get_or words at d) (drop (at + 1) words) bytes n) ∙ ap (λ (v : List Word). matching_word v bytes) (sym (drop_more words at d l)) ∙ h

pub words_over : (words : List Word) (bytes : List ℕ) (at : ℕ) → matching_word (drop at words) bytes ≡ matching_word words bytes → length words ≤ at → matching_word words bytes ≡ None
words_over words bytes at h l = sym h ∙ ap (λ (v : List Word). matching_word v bytes) (let e : drop at words ≡ [] = grind (arith, common_steps) in e) ∙ spelled_nowhere bytes

-- ---- a word by its first letter

not_begun : (v : Word) (b : ℕ) (bs : List ℕ) → begins (λ c. c == to_ascii_lowercase b) (word v) ≡ false → str_to_ascii_lowercase (b ∷ bs) ≢ str_to_ascii_lowercase (word v)
not_begun v b bs f e =
    true≢false (sym (nat_eq_equiv.refl (to_ascii_lowercase b)) ∙ ap (λ (w : List ℕ). begins (λ c. c == to_ascii_lowercase b) w) (e ∙ in_lower_case v) ∙ f)

by_letter : (vs : List Word) (b : ℕ) (bs : List ℕ) → matching_word (words_with (to_ascii_lowercase b) vs) (b ∷ bs) ≡ matching_word vs (b ∷ bs)
unfolding matching_word words_with
by_letter [] b bs = refl
by_letter (v ∷ vs) b bs =
    choose (λ ws. matching_word ws (b ∷ bs) ≡ matching_word (v ∷ vs) (b ∷ bs)) (begins (λ c. c == to_ascii_lowercase b) (word v)) (v ∷ words_with (to_ascii_lowercase b) vs) (words_with (to_ascii_lowercase b) vs)
    (λ t. ap (λ (r : Option Word). if bytes_eq (str_to_ascii_lowercase (b ∷ bs)) (word v) then Some v else r) (by_letter vs b bs))
    (λ f. by_letter vs b bs ∙ sym (spelled_later v vs (b ∷ bs) (not_begun v b bs f)))

pub word_by_letter : (bytes bs : List ℕ) (b : ℕ) (ws : List Word) → bytes ≡ b ∷ bs → ws ≡ words_with (to_ascii_lowercase b) reserved_words → matching_word ws bytes ≡ matching_word reserved_words bytes
word_by_letter bytes bs b ws e h = subst (λ (t : List ℕ). matching_word ws t ≡ matching_word reserved_words t) (sym e) (ap (λ (w : List Word). matching_word w (b ∷ bs)) h ∙ by_letter reserved_words b bs)

pub no_word_empty : (bytes : List ℕ) → length bytes ≡ 0 → matching_word reserved_words bytes ≡ None
unfolding matching_word
no_word_empty [] e = refl
no_word_empty (b ∷ bs) e = absurd (omega (arith, e))
