-- Reading a tuple, column by column.
use Rattle.std.proofs.Common.{◌≡◌, ℕ, ◌+◌, ◌<◌, List, [], ◌∷◌, ◌++◌, refl, sym, ◌∙◌, ap, subst, append_assoc, arith, length, length-drop, take, drop, get_or}
use Rattle.std.proofs.lemmas.List.{drop-drop, take_more, drop_more, append-nil}
use Rattle.std.proofs.lemmas.Map.Lookups.{exact_bytes}
use Rattle.span_value.specs.declared.value.Value.{Value}
use Rattle.span_schema.specs.declared.layout.KeyPart.{KeyPart}
use Rattle.span_keycode.specs.Coding.{Fits, AreFit, column_code, column_cmp, tuple_code}
use Rattle.span_keycode.specs.Reads.{IsColumn, IsNoTuple, IsTuple}
use Rattle.span_keycode.proofs.Order.{no_front}
use Rattle.span_keycode.proofs.Codes.{decides-column}
use Rattle.span_keycode.proofs.LevelLaws.{fit_join}

tuple_join : (cs ds : List KeyPart) (vs ws : List Value) → AreFit cs vs → tuple_code (cs ++ ds) (vs ++ ws) ≡ tuple_code cs vs ++ tuple_code ds ws
tuple_join [] ds [] ws f = refl
tuple_join [] ds (v ∷ vs) ws f = absurd f
tuple_join (c ∷ cs) ds [] ws f = absurd f
tuple_join (c ∷ cs) ds (v ∷ vs) ws f = ap (λ (bs : List ℕ). column_code c v ++ bs) (tuple_join cs ds vs ws f.1) ∙ sym (append_assoc (column_code c v) (tuple_code cs vs) (tuple_code ds ws))

-- one more column
pub tuple_more : (cs : List KeyPart) (bs : List ℕ) (before mid after : List Value) (i at w : ℕ) (d : KeyPart) (v : Value) → i < length cs
    → IsTuple (take i cs) bs before mid at → IsColumn (get_or cs i d) (drop at bs) v w → after ≡ mid ++ v ∷ [] → IsTuple (take (i + 1) cs) bs before after (at + w)
tuple_more cs bs before mid after i at w d v h t c e =
    let c0 = get_or cs i d in
    let P : List KeyPart → Type 0 = λ ds. IsTuple ds bs before after (at + w) in
    subst P (sym (take_more cs i d h)) (record {
      values = t.values ++ v ∷ [];
      added = e ∙ ap (λ (xs : List Value). xs ++ v ∷ []) t.added ∙ append_assoc before t.values (v ∷ []);
      fits = fit_join (take i cs) (c0 ∷ []) t.values (v ∷ []) t.fits (c.fits, tt);
      code = t.code
          ∙ ap (λ (xs : List ℕ). tuple_code (take i cs) t.values ++ xs) (c.code ∙ ap (λ (xs : List ℕ). column_code c0 v ++ xs) (drop-drop w at bs))
          ∙ sym (append_assoc (tuple_code (take i cs) t.values) (column_code c0 v) (drop (at + w) bs))
          ∙ ap (λ (xs : List ℕ). (tuple_code (take i cs) t.values ++ xs) ++ drop (at + w) bs) (sym (one c0 v))
          ∙ ap (λ (xs : List ℕ). xs ++ drop (at + w) bs) (sym (tuple_join (take i cs) (c0 ∷ []) t.values (v ∷ []) t.fits));
      within = omega (arith, t.within, c.within, length-drop at bs);
    })
  where
    one : (c : KeyPart) (v : Value) → tuple_code (c ∷ []) (v ∷ []) ≡ column_code c v
    one c v = append-nil (column_code c v)

no_rest : (c : KeyPart) (cs : List KeyPart) (more : List ℕ) (w : Value) → Fits c.kind w → IsNoTuple cs more → (vs : List Value) (rest : List ℕ) → AreFit (c ∷ cs) vs
    → column_code c w ++ more ≡ tuple_code (c ∷ cs) vs ++ rest → ⊥
no_rest c cs more w g n [] rest f e = f
no_rest c cs more w g n (v ∷ vs) rest f e =
    let both = no_front (column_code c w) (column_code c v) more (tuple_code cs vs ++ rest) (column_cmp c w v) (decides-column c w v g f.0) (e ∙ append_assoc (column_code c v) (tuple_code cs vs) rest) in
    n.none vs rest f.1 (exact_bytes _ _ both.1)

-- no tuple, where there is none after the next column
pub tuple_back : (cs : List KeyPart) (bs : List ℕ) (i at w : ℕ) (d : KeyPart) (v : Value) → i < length cs → (IsNoTuple (drop i cs) (drop at bs) → IsNoTuple cs bs) → IsColumn (get_or cs i d) (drop at bs) v w
    → IsNoTuple (drop (i + 1) cs) (drop (at + w) bs) → IsNoTuple cs bs
tuple_back cs bs i at w d v h back c n =
    let P : List KeyPart → Type 0 = λ ds. IsNoTuple ds (drop at bs) in
    let Q : List ℕ → Type 0 = λ xs. IsNoTuple (get_or cs i d ∷ drop (i + 1) cs) xs in
    let here : drop at bs ≡ column_code (get_or cs i d) v ++ drop (at + w) bs = c.code ∙ ap (λ (xs : List ℕ). column_code (get_or cs i d) v ++ xs) (drop-drop w at bs) in
    back (subst P (sym (drop_more cs i d h)) (subst Q (sym here) (record { none = no_rest (get_or cs i d) (drop (i + 1) cs) (drop (at + w) bs) v c.fits n })))
