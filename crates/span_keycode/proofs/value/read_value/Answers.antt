use Rattle.std.proofs.Common.{◌≡◌, ℕ, ◌+◌, List, [], ◌∷◌, arith, sym, ◌∙◌, ap, subst, drop, length, length-drop}
use Rattle.std.proofs.lemmas.List.{drop-drop}
use Rattle.std.proofs.lemmas.Option.{MatchOption-at_some, MatchOption-at_none}
use Rattle.span_keycode.specs.Coding.{in_direction}
use Rattle.span_keycode.specs.Reads.{IsNoPlain, IsPlain}
use Rattle.span_keycode.proofs.Eights.{first_turned}
use Rattle.span_keycode.proofs.Plains.{column_found, column_missed}
use Rattle.span_keycode.proofs.value.read_value.Goals as goal

pub returns-in-None : goal.returns-in-None
returns-in-None c =
    let d = c.args.column.desc in
    let bs = c.args.bytes.now in
    let first : in_direction d bs ≡ 1 ∷ in_direction d (drop 1 bs) = first_turned d bs 1 (omega arith) (c.apply_direction.ensures ∙ ap (λ (n : ℕ). n ∷ []) c.in-1.is) in
    let none = MatchOption-at_none _ _ c.in-None.is c.in_ok-read_body-in-1.ensures.found in
    let P : List ℕ → Type 0 = IsNoPlain c.args.column.kind in
    column_missed c.args.column bs (subst P (ap (λ (xs : List ℕ). 1 ∷ in_direction d xs) c.after.ensures ∙ sym first) none)

pub returns-in-Some : goal.returns-in-Some
returns-in-Some c =
    let d = c.args.column.desc in
    let bs = c.args.bytes.now in
    let first : in_direction d bs ≡ 1 ∷ in_direction d (drop 1 bs) = first_turned d bs 1 (omega arith) (c.apply_direction.ensures ∙ ap (λ (n : ℕ). n ∷ []) c.in-1.is) in
    let some = MatchOption-at_some _ _ _ c.in-Some.is c.in_ok-read_body-in-1.ensures.found in
    let within = MatchOption-at_some _ _ _ c.in-Some.is c.in_ok-read_body-in-1.ensures.within in
    let w = c.in-Some.width in
    let P : List ℕ → Type 0 = λ xs. IsPlain c.args.column.kind xs c.in-Some.value (in_direction d (drop w c.after.result.now)) in
    let Q : List ℕ → Type 0 = λ xs. IsPlain c.args.column.kind (in_direction d bs) c.in-Some.value (in_direction d xs) in
    let more : drop w c.after.result.now ≡ drop (w + 1) bs = ap (drop w) c.after.ensures ∙ drop-drop w 1 bs ∙ ap (λ (n : ℕ). drop n bs) (let e : 1 + w ≡ w + 1 = omega arith in e) in
    column_found c.args.column bs c.in-Some.value (w + 1) (omega (arith, within, ap (length {A = ℕ}) c.after.ensures, length-drop 1 bs))
    (subst Q more (subst P (ap (λ (xs : List ℕ). 1 ∷ in_direction d xs) c.after.ensures ∙ sym first) some))
