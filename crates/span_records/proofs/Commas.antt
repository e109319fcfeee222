-- A text is cut at its first comma.
use Rattle.std.proofs.Common.{◌≡◌, ◌∙◌, ◌==◌, ◌+◌, ◌<◌, ℕ, suc, List, [], ◌∷◌, false, ap, arith, get_or, length, take, drop}
use Rattle.std.specs.List.{All}
use Rattle.std.proofs.Math.Seq.{split_at}
use Rattle.std.proofs.lemmas.List.{get_or-take, get_or_default, length-take}
use Rattle.std.proofs.lemmas.List.Splits.{slice_split_none, slice_split_at}
use Rattle.memchr.specs.Find.{Nowhere, Passes, is_byte}
use Rattle.std.proofs.lemmas.Bool.{false_from_ne_true}
use Rattle.span_records.specs.Record.{pieces}

-- no byte of a text that a search passed is a comma
passed : (text : List ℕ) (n : ℕ) → Nowhere (Passes (is_byte 44) text) 0 n → (k : ℕ) → k < n → (get_or text k 0 == 44) ≡ false
passed text n nowhere k l = false_from_ne_true (get_or text k 0 == 44) (nowhere k (omega arith) l)

pub no_comma : (text : List ℕ) → Nowhere (Passes (is_byte 44) text) 0 (length text) → pieces text ≡ text ∷ []
no_comma text nowhere = slice_split_none (λ b. b == 44) text each
  where
    each : All (λ b. (b == 44) ≡ false) text
    each k d l = ap (λ (b : ℕ). b == 44) (get_or_default text k d 0 l) ∙ passed text (length text) nowhere k l

pub first_comma : (text : List ℕ) (at : ℕ) → at < length text → Passes (is_byte 44) text at → Nowhere (Passes (is_byte 44) text) 0 at → pieces text ≡ take at text ∷ pieces (drop (at + 1) text)
first_comma text at within comma nowhere =
    let place : suc at ≡ at + 1 = omega arith in
    ap pieces (split_at text at 0 within)
    ∙ slice_split_at (λ b. b == 44) (take at text) (get_or text at 0) (drop (suc at) text) each comma
    ∙ ap (λ (n : ℕ). take at text ∷ pieces (drop n text)) place
  where
    each : All (λ b. (b == 44) ≡ false) (take at text)
    each k d l =
        let below : k < at = omega (arith, l, length-take at text) in
        ap (λ (b : ℕ). b == 44) (get_or-take at text k d below ∙ get_or_default text k d 0 (omega arith)) ∙ passed text at nowhere k below
