-- Where the cells of a packed row end.
use Rattle.std.proofs.Common.{◌≡◌, ◌≢◌, inl, inr, ◌∙◌, ℕ, suc, ◌+◌, ◌<◌, ◌≤◌, ◌^◌, List, [], ◌∷◌, ◌++◌, refl, sym, ap, subst, arith, length, length-append, length-drop, drop, get_or}
use Rattle.std.specs.Prelude.{◌⊎◌}
use Rattle.std.specs.Int.{to_be_bytes, from_be_bytes, w32}
use Rattle.std.proofs.Math.Seq.{drop-append_seam}
use Rattle.std.proofs.lemmas.List.{drop-drop}
use Rattle.std.proofs.lemmas.Nat.{from_be_bytes-to_be_bytes_4}
use Rattle.span_value.specs.declared.value.Value.{Value}
use Rattle.span_value.specs.declared.value.Value.TheVariants.{Null, Int, Str, Bytes, Bool as Flag}
use Rattle.span_value.specs.declared.value.Kind.{Kind}
use Rattle.span_value.specs.declared.value.Kind.TheVariants.{Str as Texts, Bytes as Strings}
use Rattle.span_schema.specs.Fitting.{Fits}
use Rattle.span_rowcode.specs.Rows.{bytes_code, cell_code}
use Rattle.span_celltests.specs.Ends.{IsCellEnd}

-- the length in the code of a text or bytes
pub text_past : (bs t more : List ℕ) (n : ℕ) → length t < 2 ^ 32 → n ≡ from_be_bytes w32 (get_or bs 1 0 ∷ get_or bs 2 0 ∷ get_or bs 3 0 ∷ get_or bs 4 0 ∷ []) → bs ≡ bytes_code t ++ more → more ≡ drop (n + 5) bs
text_past bs t more n small is e =
    let word : from_be_bytes w32 (get_or bs 1 0 ∷ get_or bs 2 0 ∷ get_or bs 3 0 ∷ get_or bs 4 0 ∷ []) ≡ from_be_bytes w32 (to_be_bytes w32 (length t)) =
    ap (λ (xs : List ℕ). from_be_bytes w32 (get_or xs 1 0 ∷ get_or xs 2 0 ∷ get_or xs 3 0 ∷ get_or xs 4 0 ∷ [])) e in
    let len : n ≡ length t = is ∙ word ∙ from_be_bytes-to_be_bytes_4 (length t) small in
    let five : length (bytes_code t) ≡ suc (suc (suc (suc (suc (length t))))) = refl in
    let all : n + 5 ≡ length (bytes_code t) = omega (arith, len, five) in
    sym (drop-append_seam (bytes_code t) more) ∙ ap (λ (k : ℕ). drop k (bytes_code t ++ more)) (sym all) ∙ ap (drop (n + 5)) (sym e)

-- a text is shorter than the bytes that code it
text_short : (bs t more : List ℕ) → bs ≡ bytes_code t ++ more → length t ≤ length bs
text_short bs t more e =
    let five : length (bytes_code t) ≡ suc (suc (suc (suc (suc (length t))))) = refl in
    omega (arith, ap (length {A = ℕ}) e, length-append (bytes_code t) more, five)

module _ (bs code : List ℕ) (at n : ℕ) (is : code ≡ drop at bs) (small : length bs < 2 ^ 32) where
  text_ends : (t more : List ℕ) → n ≡ from_be_bytes w32 (get_or code 1 0 ∷ get_or code 2 0 ∷ get_or code 3 0 ∷ get_or code 4 0 ∷ []) → drop at bs ≡ bytes_code t ++ more → more ≡ drop (at + 5 + n) bs
  text_ends t more coded e =
      let short : length t < 2 ^ 32 = omega (arith, text_short code t more (is ∙ e), ap (length {A = ℕ}) is, length-drop at bs) in
      let place : at + (n + 5) ≡ at + 5 + n = omega arith in
      text_past code t more n short coded (is ∙ e) ∙ ap (drop (n + 5)) is ∙ drop-drop (n + 5) at bs ∙ ap (λ (k : ℕ). drop k bs) place

  no_null : (more : List ℕ) → get_or code 0 0 ≢ 0 → drop at bs ≡ 0 ∷ more → ⊥
  no_null more some e = some (ap (λ (xs : List ℕ). get_or xs 0 0) (is ∙ e))

  -- a text or bytes
  pub end_of_text : (k : Kind) → (k ≡ Texts) ⊎ (k ≡ Strings) → get_or code 0 0 ≢ 0 → n ≡ from_be_bytes w32 (get_or code 1 0 ∷ get_or code 2 0 ∷ get_or code 3 0 ∷ get_or code 4 0 ∷ []) → IsCellEnd k bs at (at + 5 + n)
  end_of_text k (inl text) some coded = subst (λ (o : Kind). IsCellEnd o bs at (at + 5 + n)) (sym text) (record { past = by_value })
    where
      by_value : (v : Value) (more : List ℕ) → Fits Texts v → drop at bs ≡ cell_code v ++ more → more ≡ drop (at + 5 + n) bs
      by_value Null more f e = absurd (no_null more some e)
      by_value (Int i) more f e = absurd f
      by_value (Str t) more f e = text_ends t more coded e
      by_value (Bytes t) more f e = absurd f
      by_value (Flag b) more f e = absurd f
  end_of_text k (inr text) some coded = subst (λ (o : Kind). IsCellEnd o bs at (at + 5 + n)) (sym text) (record { past = by_value })
    where
      by_value : (v : Value) (more : List ℕ) → Fits Strings v → drop at bs ≡ cell_code v ++ more → more ≡ drop (at + 5 + n) bs
      by_value Null more f e = absurd (no_null more some e)
      by_value (Int i) more f e = absurd f
      by_value (Str t) more f e = absurd f
      by_value (Bytes t) more f e = text_ends t more coded e
      by_value (Flag b) more f e = absurd f
