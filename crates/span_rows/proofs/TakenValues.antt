-- The values of a row, moved one after another; NULL is left in the place of each.
use Rattle.std.proofs.Common.{◌≡◌, ℕ, zero, suc, ◌+◌, ◌<◌, List, [], ◌∷◌, ◌++◌, refl, sym, ◌∙◌, ap, arith, length, take, drop, get_or, set, replicate, append_assoc}
use Rattle.std.proofs.lemmas.List.{take_more}
use Rattle.span_value.specs.declared.value.Value.{Value}
use Rattle.span_value.specs.declared.value.Value.TheVariants.{Null}

left_null : (old : List Value) (at : ℕ) → at < length old → set (replicate at Null ++ drop at old) at Null ≡ replicate (suc at) Null ++ drop (suc at) old
left_null [] at less = absurd (let l : at < 0 = less in omega arith)
left_null (v ∷ vs) zero less = refl
left_null (v ∷ vs) (suc at) less = ap (λ (l : List Value). Null ∷ l) (left_null vs at (omega arith))

still_there : (old : List Value) (at : ℕ) (d : Value) → at < length old → get_or (replicate at Null ++ drop at old) at d ≡ get_or old at d
still_there [] at d less = absurd (let l : at < 0 = less in omega arith)
still_there (v ∷ vs) zero d less = refl
still_there (v ∷ vs) (suc at) d less = still_there vs at d (omega arith)

pub null_next : (old row : List Value) (at : ℕ) (v : Value) → at < length old → v ≡ Null → row ≡ replicate at Null ++ drop at old → set row at v ≡ replicate (at + 1) Null ++ drop (at + 1) old
null_next old row at v less null so =
    ap (λ (l : List Value). set l at v) so
    ∙ ap (set (replicate at Null ++ drop at old) at) null
    ∙ left_null old at less
    ∙ ap (λ (n : ℕ). replicate n Null ++ drop n old) (let e : suc at ≡ at + 1 = omega arith in e)

pub value_next : (old row values before after : List Value) (at : ℕ) (v w : Value) → at < length old → row ≡ replicate at Null ++ drop at old → v ≡ get_or row at v → w ≡ v → values ≡ before ++ take at old → after ≡ values ++ w ∷ [] → after ≡ before ++ take (at + 1) old
value_next old row values before after at v w less so is same values_are added =
    let here : w ≡ get_or old at v = same ∙ is ∙ ap (λ (l : List Value). get_or l at v) so ∙ still_there old at v less in
    added ∙ ap (λ (l : List Value). l ++ w ∷ []) values_are ∙ append_assoc before (take at old) (w ∷ [])
    ∙ ap (λ (u : Value). before ++ (take at old ++ u ∷ [])) here
    ∙ ap (λ (l : List Value). before ++ l) (sym (take_more old at v less))
