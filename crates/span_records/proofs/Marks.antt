-- The bytes at which the fields of a record end, and those that a plain text has not.
use Rattle.std.proofs.Common.{◌≡◌, ◌∙◌, ◌==◌, ◌+◌, ◌-◌, ◌<◌, ℕ, List, [], ◌∷◌, true, false, ◌⊎◌, inl, inr, sym, ap, arith, get_or, length, take, drop, length-drop, get_or-drop}
use Rattle.std.proofs.lemmas.Bool.{or_parts}
use Rattle.std.proofs.lemmas.List.{get_or_default}
use Rattle.memchr.specs.Find.{Nowhere, Passes, is_byte}
use Rattle.span_records.specs.Record.{pieces, is_mark, is_special, IsFree, IsUnmarked}
use Rattle.span_records.proofs.Commas.{no_comma, first_comma}

other : (b : ℕ) → is_special b ≡ false → (b == 44) ≡ true → ⊥
other b free comma = let off = or_parts (b == 44) (is_mark b) free in absurd (let f : true ≡ false = sym comma ∙ off.0 in cc)

nowhere : (text : List ℕ) (n : ℕ) → IsFree text n → Nowhere (Passes (is_byte 44) text) 0 n
nowhere text n free k low l comma = other (get_or text k 0) (free k l) comma

pub one_piece : (text : List ℕ) → IsFree text (length text) → pieces text ≡ text ∷ []
one_piece text free = no_comma text (nowhere text (length text) free)

pub free_unmarked : (text : List ℕ) → IsFree text (length text) → IsUnmarked text
free_unmarked text free k d l =
    ap is_mark (get_or_default text k d 0 l) ∙ (or_parts (get_or text k 0 == 44) (is_mark (get_or text k 0)) (free k l)).1

pub cut_free : (text : List ℕ) (at : ℕ) → at < length text → get_or text at 0 ≡ 44 → IsFree text at → pieces text ≡ take at text ∷ pieces (drop (at + 1) text)
cut_free text at within comma free = first_comma text at within (ap (λ (b : ℕ). b == 44) comma) (nowhere text at free)

pub cut_unmarked : (text : List ℕ) (at : ℕ) → at < length text → get_or text at 0 ≡ 44 → IsFree text at → IsUnmarked (drop (at + 1) text) → IsUnmarked text
cut_unmarked text at within comma free rest k d l = ap is_mark (get_or_default text k d 0 l) ∙ by (cases k at)
  where
    cases : (k at : ℕ) → (k < at) ⊎ ((k ≡ at) ⊎ (at < k))
    cases k at = grind arith

    by : (k < at) ⊎ ((k ≡ at) ⊎ (at < k)) → is_mark (get_or text k 0) ≡ false
    by (inl before) = (or_parts (get_or text k 0 == 44) (is_mark (get_or text k 0)) (free k before)).1
    by (inr (inl here)) = ap (λ (n : ℕ). is_mark (get_or text n 0)) here ∙ ap is_mark comma
    by (inr (inr after)) =
        let place : k ≡ at + 1 + (k - (at + 1)) = omega arith in
        let below : k - (at + 1) < length (drop (at + 1) text) = omega (arith, length-drop (at + 1) text) in
        ap (λ (n : ℕ). is_mark (get_or text n 0)) place ∙ ap is_mark (sym (get_or-drop (at + 1) text (k - (at + 1)) 0)) ∙ rest (k - (at + 1)) 0 below
