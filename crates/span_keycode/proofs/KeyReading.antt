-- Reading a key, level by level.
use Rattle.std.proofs.Common.{◌≡◌, ℕ, ◌+◌, ◌-◌, ◌<◌, ◌≤◌, List, [], ◌∷◌, ◌++◌, Option, Some, None, refl, sym, ◌∙◌, ap, subst, append_assoc, arith, length, length-drop, take, drop, get_or, inl, inr}
use Rattle.std.proofs.lemmas.List.{drop-drop, drop_all, drop_more}
use Rattle.std.proofs.Math.Seq.{take-append_seam, drop-append_seam}
use Rattle.span_value.specs.declared.value.Value.{Value}
use Rattle.span_schema.specs.declared.table.Table.{Table}
use Rattle.span_schema.specs.declared.layout.KeyPart.{KeyPart}
use Rattle.span_schema.specs.Lineages.{parent_at, MeetsRules}
use Rattle.span_schema.specs.Numbers.{IsTable, number_of, parent_of, key_at, own_key_at, own_key_columns}
use Rattle.span_keycode.specs.Coding.{AreFit, tuple_code}
use Rattle.span_keycode.specs.Keys.{code_of, key_code, IsKey}
use Rattle.span_keycode.specs.Reads.{IsNoTuple, IsTuple, IsUncoded}
use Rattle.span_keycode.proofs.Levels.{key_split, key_root, levels_at}
use Rattle.span_keycode.proofs.LevelLaws.{fit_length, fit_join, code_root, code_child}
use Rattle.span_keycode.proofs.Going.{code_above, IsAbove, Next, goes_on, code_some}
use Rattle.span_value.proofs.Lists.{cons_inj}

-- a child's key is its parent's, and its own values
child_key : (tables : List Table) → MeetsRules tables → (i p : ℕ) → i < length tables → parent_at tables i ≡ Some p → (vs us : List Value) → AreFit (key_at tables p) vs → AreFit (own_key_at tables i) us
    → AreFit (key_at tables i) (vs ++ us) × (code_of tables (levels_at tables i (vs ++ us)) ≡ code_of tables (levels_at tables p vs) ++ ((i + 1) ∷ tuple_code (own_key_at tables i) us))
child_key tables rules i p h e vs us f g =
    let R : List KeyPart → Type 0 = λ cs. AreFit cs (vs ++ us) in
    let fits = subst R (sym (key_split tables rules i p h e)) (fit_join (key_at tables p) (own_key_at tables i) vs us f g) in
    let len : length (key_at tables p) ≡ length vs = fit_length (key_at tables p) vs f in
    let front : take (length (key_at tables p)) (vs ++ us) ≡ vs = ap (λ (k : ℕ). take k (vs ++ us)) len ∙ take-append_seam vs us in
    let end : drop (length (key_at tables p)) (vs ++ us) ≡ us = ap (λ (k : ℕ). drop k (vs ++ us)) len ∙ drop-append_seam vs us in (
      fits,
      code_child tables rules i p h e (vs ++ us) fits
          ∙ ap (λ (xs : List Value). code_of tables (levels_at tables p xs) ++ ((i + 1) ∷ tuple_code (own_key_at tables i) (drop (length (key_at tables p)) (vs ++ us)))) front
          ∙ ap (λ (xs : List Value). code_of tables (levels_at tables p vs) ++ ((i + 1) ∷ tuple_code (own_key_at tables i) xs)) end,
    )

root_key : (tables : List Table) (i : ℕ) → parent_at tables i ≡ None → (us : List Value) → AreFit (own_key_at tables i) us
    → AreFit (key_at tables i) us × (code_of tables (levels_at tables i us) ≡ (i + 1) ∷ tuple_code (own_key_at tables i) us)
root_key tables i e us g =
    let R : List KeyPart → Type 0 = λ cs. AreFit cs us in
    let fits = subst R (key_root tables i e) g in
    (fits, code_root tables i e us fits)

pub no_number : (o : Option ℕ) → number_of o ≡ None → o ≡ None
no_number None h = refl
no_number (Some p) h = absurd (let e : Some (p + 1) ≡ None = h in cc)

a_number : (o : Option ℕ) (n : ℕ) → number_of o ≡ Some n → (p : ℕ) × (o ≡ Some p) × (p + 1 ≡ n)
a_number None n h = absurd (let e : None ≡ Some n = h in cc)
a_number (Some p) n h = (p, refl, (let e : Some (p + 1) ≡ Some n = h in cc))

-- one more level
pub key_extends : (tables : List Table) → MeetsRules tables → (o : Option ℕ) (vs us : List Value) (c : ℕ) → IsAbove tables o vs → IsTable tables c → parent_of tables c ≡ o → AreFit (own_key_columns tables c) us
    → IsKey tables c (vs ++ us) × (key_code tables c (vs ++ us) ≡ code_above tables o vs ++ (c ∷ tuple_code (own_key_columns tables c) us))
key_extends tables rules None vs us c a t e g =
    let root = root_key tables (c - 1) (no_number (parent_at tables (c - 1)) e) us g in
    let P : List Value → Type 0 = λ xs. IsKey tables c xs × (key_code tables c xs ≡ c ∷ tuple_code (own_key_columns tables c) us) in
    let number : c - 1 + 1 ≡ c = omega (arith, t.0) in
    subst P (sym (ap (λ (xs : List Value). xs ++ us) a)) ((t, root.0), root.1 ∙ ap (λ (n : ℕ). n ∷ tuple_code (own_key_columns tables c) us) number)
key_extends tables rules (Some n) vs us c a t e g =
    let found = a_number (parent_at tables (c - 1)) n e in
    let place : n - 1 ≡ found.0 = omega (arith, found.2) in
    let within : c - 1 < length tables = omega (arith, t.0, t.1) in
    let R : ℕ → Type 0 = λ p. AreFit (key_at tables p) vs in
    let child = child_key tables rules (c - 1) found.0 within found.1 vs us (subst R place a.1) g in
    let number : c - 1 + 1 ≡ c = omega (arith, t.0) in (
      (t, child.0),
      child.1
          ∙ ap (λ (p : ℕ). code_of tables (levels_at tables p vs) ++ ((c - 1 + 1) ∷ tuple_code (own_key_columns tables c) us)) (sym place)
          ∙ ap (λ (m : ℕ). key_code tables n vs ++ (m ∷ tuple_code (own_key_columns tables c) us)) number,
    )

-- so far a key was read, or nothing
pub record IsRead (tables : List Table) (bytes : List ℕ) (o : Option ℕ) (vs : List Value) (at : ℕ) : Type 0 where
  pub known : IsAbove tables o vs
  pub code : bytes ≡ code_above tables o vs ++ drop at bytes
  pub within : at ≤ length bytes

pub read_more : (tables : List Table) → MeetsRules tables → (bs : List ℕ) (o : Option ℕ) (vs ws : List Value) (at w : ℕ) (c : ℕ) → IsRead tables bs o vs at → at < length bs → c ≡ get_or bs at 0
    → IsTable tables c → parent_of tables c ≡ o → IsTuple (own_key_columns tables c) (drop (at + 1) bs) vs ws w → IsRead tables bs (Some c) ws (at + (1 + w))
read_more tables rules bs o vs ws at w c r h byte t p tuple =
    let more = key_extends tables rules o vs tuple.values c r.known t p tuple.fits in
    let P : List Value → Type 0 = λ xs. IsRead tables bs (Some c) xs (at + (1 + w)) in
    let code = tuple_code (own_key_columns tables c) tuple.values in
    let rest : drop w (drop (at + 1) bs) ≡ drop (at + (1 + w)) bs = drop-drop w (at + 1) bs ∙ ap (λ (n : ℕ). drop n bs) (let e : at + 1 + w ≡ at + (1 + w) = omega arith in e) in
    let here : drop at bs ≡ c ∷ (code ++ drop (at + (1 + w)) bs) =
    drop_more bs at 0 h ∙ ap (λ (n : ℕ). n ∷ drop (at + 1) bs) (sym byte) ∙ ap (λ (xs : List ℕ). c ∷ xs) (tuple.code ∙ ap (λ (xs : List ℕ). code ++ xs) rest) in
    subst P (sym tuple.added) (record {
      known = more.0;
      code = r.code ∙ ap (λ (xs : List ℕ). code_above tables o vs ++ xs) here ∙ sym (append_assoc (code_above tables o vs) (c ∷ code) (drop (at + (1 + w)) bs)) ∙ ap (λ (xs : List ℕ). xs ++ drop (at + (1 + w)) bs) (sym more.1);
      within = omega (arith, tuple.within, length-drop (at + 1) bs, h);
    })

-- where the next level is no child's, or cannot be read, no key is coded
stuck : (tables : List Table) → MeetsRules tables → (bs : List ℕ) (o : Option ℕ) (vs : List Value) (at : ℕ) → IsRead tables bs o vs at → at < length bs
    → (Next tables o (drop at bs) → ⊥) → IsUncoded tables bs
stuck tables rules bs o vs at r h against = record {
  none = λ n ws k e.
      let next = drop_more bs at 0 h in
      elim (goes_on tables rules o vs (drop at bs) r.known n ws k (sym r.code ∙ e)) [
        | inl none ↦ (let f : [] ≡ get_or bs at 0 ∷ drop (at + 1) bs = sym none ∙ next in cc)
        | inr more ↦ against more
      ];
}

pub read_stop : (tables : List Table) → MeetsRules tables → (bs : List ℕ) (o : Option ℕ) (vs : List Value) (at c : ℕ) → IsRead tables bs o vs at → at < length bs → c ≡ get_or bs at 0
    → (IsTable tables c → parent_of tables c ≡ o → ⊥) → IsUncoded tables bs
read_stop tables rules bs o vs at c r h byte against = stuck tables rules bs o vs at r h (λ next.
    let same : c ≡ next.table = byte ∙ (cons_inj _ _ _ _ (sym (drop_more bs at 0 h) ∙ next.code)).0 in
    let P : ℕ → Type 0 = λ n. IsTable tables n in
    let Q : ℕ → Type 0 = λ n. parent_of tables n ≡ o in
    against (subst P (sym same) next.is) (subst Q (sym same) next.parent))

pub read_none : (tables : List Table) → MeetsRules tables → (bs : List ℕ) (o : Option ℕ) (vs : List Value) (at c : ℕ) → IsRead tables bs o vs at → at < length bs → c ≡ get_or bs at 0
    → IsNoTuple (own_key_columns tables c) (drop (at + 1) bs) → IsUncoded tables bs
read_none tables rules bs o vs at c r h byte against = stuck tables rules bs o vs at r h (λ next.
    let both = cons_inj _ _ _ _ (sym (drop_more bs at 0 h) ∙ next.code) in
    let same : next.table ≡ c = sym (byte ∙ both.0) in
    let P : ℕ → Type 0 = λ n. AreFit (own_key_columns tables n) next.values in
    against.none next.values next.more (subst P same next.fits) (both.1 ∙ ap (λ (n : ℕ). tuple_code (own_key_columns tables n) next.values ++ next.more) same))

pub read_nothing : (tables : List Table) (bs : List ℕ) (vs : List Value) (at : ℕ) → IsRead tables bs None vs at → length bs ≤ at → IsUncoded tables bs
read_nothing tables bs vs at r h = record { none = λ n ws k e. code_some tables n ws (sym (r.code ∙ drop_all at bs h) ∙ e) }
