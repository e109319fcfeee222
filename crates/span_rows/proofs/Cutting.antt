-- Lists that lie one after another in one list: their number, one of them, and more of them.
use Rattle.std.proofs.Common.{◌≡◌, ◌∙◌, ◌≤◌, ◌<◌, ◌+◌, ◌-◌, ◌++◌, ◌∷◌, [], ℕ, zero, suc, List, take, drop, length, get_or, ap, sym, subst, refl, arith, length-append, append_assoc, replicate}
use Rattle.std.proofs.lemmas.Grind.{common_steps}
use Rattle.std.proofs.lemmas.List.{append-nil, take_all}
use Rattle.std.proofs.Math.Seq.{drop-append-add}
use Rattle.span_rows.specs.Cuts.{cut_at, AreEnds, shift, start_at}

-- a place from which there are ends is within the list
pub ends_within : (at : ℕ) (ends : List ℕ) (len : ℕ) → AreEnds at ends len → at ≤ len
ends_within at [] len is = omega (arith, is)
ends_within at (e ∷ ends) len are =
    let after : e ≤ len = ends_within e ends len are.1 in
    let first : at ≤ e = are.0 in
    omega arith

pub cut_count : {A : Type 0} (at : ℕ) (ends : List ℕ) (all : List A) → length (cut_at at ends all) ≡ length ends
cut_count at [] all = refl
cut_count at (e ∷ ends) all = ap suc (cut_count e ends all)

-- ---- one of them

-- it begins where the one before it ends
start_next : (at : ℕ) (ends : List ℕ) (i : ℕ) → i < length ends → get_or ends i 0 ≡ start_at at ends (suc i)
start_next at [] i i<0 = absurd (omega (arith, i<0))
start_next at (e ∷ ends) zero below = refl
start_next at (e ∷ ends) (suc i) below = start_next e ends i (omega (arith, below))

pub start_after : (at : ℕ) (ends : List ℕ) (i : ℕ) → 0 < i → i ≤ length ends → get_or ends (i - 1) 0 ≡ start_at at ends i
start_after at ends zero some within = absurd (omega (arith, some))
start_after at ends (suc i) some within =
    let before : suc i - 1 ≡ i = omega arith in
    ap (λ n. get_or ends n 0) before ∙ start_next at ends i (omega (arith, within))

pub start_within : (at : ℕ) (ends : List ℕ) (len i : ℕ) → AreEnds at ends len → i < length ends → start_at at ends i ≤ get_or ends i 0
start_within at [] len i are i<0 = omega (arith, i<0)
start_within at (e ∷ ends) len zero are below = are.0
start_within at (e ∷ ends) len (suc i) are below = start_within e ends len i are.1 (omega (arith, below))

pub end_within : (at : ℕ) (ends : List ℕ) (len i : ℕ) → AreEnds at ends len → i < length ends → get_or ends i 0 ≤ len
end_within at [] len i are i<0 = omega (arith, i<0)
end_within at (e ∷ ends) len zero are below = ends_within e ends len are.1
end_within at (e ∷ ends) len (suc i) are below = end_within e ends len i are.1 (omega (arith, below))

pub one_cut : {A : Type 0} (at : ℕ) (ends : List ℕ) (all : List A) (i : ℕ) (d : List A) → i < length ends
    → get_or (cut_at at ends all) i d ≡ take (get_or ends i 0 - start_at at ends i) (drop (start_at at ends i) all)
one_cut at [] all i d i<0 = absurd (omega (arith, i<0))
one_cut at (e ∷ ends) all zero d below = refl
one_cut at (e ∷ ends) all (suc i) d below = one_cut e ends all i d (omega (arith, below))

-- ---- one more

pub ends_more : (at : ℕ) (ends : List ℕ) (len more : ℕ) → AreEnds at ends len → AreEnds at (ends ++ (len + more) ∷ []) (len + more)
ends_more at [] len more is = (omega (arith, is), refl)
ends_more at (e ∷ ends) len more are = (are.0, ends_more e ends len more are.1)

module _ {A : Type 0} where
  part_stays : (at e : ℕ) (all more : List A) → e ≤ length all → take (e - at) (drop at (all ++ more)) ≡ take (e - at) (drop at all)
  part_stays at e all more within = grind (arith, common_steps)

  part_added : (all more : List A) → take (length all + length more - length all) (drop (length all) (all ++ more)) ≡ more
  part_added all more = grind (arith, common_steps)

  pub cut_more : (at : ℕ) (ends : List ℕ) (all more : List A) → AreEnds at ends (length all)
      → cut_at at (ends ++ (length all + length more) ∷ []) (all ++ more) ≡ cut_at at ends all ++ more ∷ []
  cut_more at [] all more is = ap (λ (n : ℕ). take (length all + length more - n) (drop n (all ++ more)) ∷ []) is ∙ ap (λ (x : List A). x ∷ []) (part_added all more)
  cut_more at (e ∷ ends) all more are =
      ap (λ (x : List A). x ∷ cut_at e (ends ++ (length all + length more) ∷ []) (all ++ more)) (part_stays at e all more (ends_within e ends (length all) are.1))
      ∙ ap (λ (xs : List (List A)). take (e - at) (drop at all) ∷ xs) (cut_more e ends all more are.1)

-- ---- some more of nothing

ends_empty : (at len count : ℕ) → at ≡ len → AreEnds at (replicate count len) len
ends_empty at len zero is = is
ends_empty at len (suc count) is = (omega arith, ends_empty len len count refl)

pub ends_with_empty : (at : ℕ) (ends : List ℕ) (len count : ℕ) → AreEnds at ends len → AreEnds at (ends ++ replicate count len) len
ends_with_empty at [] len count is = ends_empty at len count is
ends_with_empty at (e ∷ ends) len count are = (are.0, ends_with_empty e ends len count are.1)

module _ {A : Type 0} where
  part_empty : (at : ℕ) (all : List A) → at ≡ length all → take (length all - at) (drop at all) ≡ []
  part_empty at all is =
      let none : length all - at ≡ 0 = omega arith in
      ap (λ (n : ℕ). take n (drop at all)) none

  cut_empty : (at count : ℕ) (all : List A) → at ≡ length all → cut_at at (replicate count (length all)) all ≡ replicate count []
  cut_empty at zero all is = refl
  cut_empty at (suc count) all is =
      ap (λ (x : List A). x ∷ cut_at (length all) (replicate count (length all)) all) (part_empty at all is)
      ∙ ap (λ (xs : List (List A)). [] ∷ xs) (cut_empty (length all) count all refl)

  pub cut_with_empty : (at : ℕ) (ends : List ℕ) (all : List A) (count : ℕ) → AreEnds at ends (length all)
      → cut_at at (ends ++ replicate count (length all)) all ≡ cut_at at ends all ++ replicate count []
  cut_with_empty at [] all count is = cut_empty at count all is
  cut_with_empty at (e ∷ ends) all count are = ap (λ (xs : List (List A)). take (e - at) (drop at all) ∷ xs) (cut_with_empty e ends all count are.1)

-- ---- others after them

pub ends_joined : (at : ℕ) (ends : List ℕ) (len : ℕ) (from : ℕ) (others : List ℕ) (more : ℕ) → AreEnds at ends (len + from) → AreEnds from others more
    → AreEnds at (ends ++ shift len others) (len + more)
ends_joined at [] len from [] more is are = is ∙ ap (λ n. len + n) are
ends_joined at [] len from (o ∷ others) more is are = (omega (arith, is, are.0), ends_joined (len + o) [] len o others more refl are.1)
ends_joined at (e ∷ ends) len from others more is are = (is.0, ends_joined e ends len from others more is.1 are)

module _ {A : Type 0} where
  part_moved : (at e : ℕ) (all more : List A) → take (length all + e - (length all + at)) (drop (length all + at) (all ++ more)) ≡ take (e - at) (drop at more)
  part_moved at e all more =
      let width : length all + e - (length all + at) ≡ e - at = omega arith in
      ap (λ n. take n (drop (length all + at) (all ++ more))) width ∙ ap (take (e - at)) (drop-append-add all more at)

  pub cut_shifted : (at : ℕ) (ends : List ℕ) (all more : List A) → cut_at (length all + at) (shift (length all) ends) (all ++ more) ≡ cut_at at ends more
  cut_shifted at [] all more = refl
  cut_shifted at (e ∷ ends) all more =
      ap (λ (x : List A). x ∷ cut_at (length all + e) (shift (length all) ends) (all ++ more)) (part_moved at e all more)
      ∙ ap (λ (xs : List (List A)). take (e - at) (drop at more) ∷ xs) (cut_shifted e ends all more)

  pub cut_joined : (at : ℕ) (ends others : List ℕ) (all more : List A) → AreEnds at ends (length all)
      → cut_at at (ends ++ shift (length all) others) (all ++ more) ≡ cut_at at ends all ++ cut_at 0 others more
  cut_joined at [] others all more is =
      ap (λ (n : ℕ). cut_at n (shift (length all) others) (all ++ more)) (omega (arith, is)) ∙ cut_shifted 0 others all more
  cut_joined at (e ∷ ends) others all more are =
      ap (λ (x : List A). x ∷ cut_at e (ends ++ shift (length all) others) (all ++ more)) (part_stays at e all more (ends_within e ends (length all) are.1))
      ∙ ap (λ (xs : List (List A)). take (e - at) (drop at all) ∷ xs) (cut_joined e ends others all more are.1)

-- ---- the same where the lists are named

-- lists of nothing more; the ends are those of a longer list
resized : (ends new-ends : List ℕ) (len n count : ℕ) → n ≡ length ends + count → new-ends ≡ take n ends ++ replicate (n - length ends) len → new-ends ≡ ends ++ replicate count len
resized ends new-ends len n count long is =
    let front : take n ends ≡ ends = take_all n ends (omega arith) in
    let more : n - length ends ≡ count = omega arith in
    is ∙ ap (λ (es : List ℕ). es ++ replicate (n - length ends) len) front ∙ ap (λ (k : ℕ). ends ++ replicate k len) more

module _ {A : Type 0} where
  pub whole_more : (ends new-ends : List ℕ) (all more new : List A) → AreEnds 0 ends (length all) → new ≡ all ++ more → new-ends ≡ ends ++ length new ∷ []
      → AreEnds 0 new-ends (length new)
  whole_more ends new-ends all more new are is ended =
      let count : length new ≡ length all + length more = ap length is ∙ length-append all more in
      subst (λ (es : List ℕ). AreEnds 0 es (length new)) (sym ended)
      (subst (λ (n : ℕ). AreEnds 0 (ends ++ n ∷ []) n) (sym count) (ends_more 0 ends (length all) (length more) are))

  pub rows_more : (ends new-ends : List ℕ) (all more new : List A) → AreEnds 0 ends (length all) → new ≡ all ++ more → new-ends ≡ ends ++ length new ∷ []
      → cut_at 0 new-ends new ≡ cut_at 0 ends all ++ more ∷ []
  rows_more ends new-ends all more new are is ended =
      let count : length new ≡ length all + length more = ap length is ∙ length-append all more in
      ap (λ (es : List ℕ). cut_at 0 es new) (ended ∙ ap (λ n. ends ++ n ∷ []) count) ∙ ap (cut_at 0 (ends ++ (length all + length more) ∷ [])) is ∙ cut_more 0 ends all more are

  -- a list of nothing more
  pub whole_none : (ends new-ends : List ℕ) (all : List A) → AreEnds 0 ends (length all) → new-ends ≡ ends ++ length all ∷ [] → AreEnds 0 new-ends (length all)
  whole_none ends new-ends all are ended = whole_more ends new-ends all [] all are (sym (append-nil all)) ended

  pub rows_none : (ends new-ends : List ℕ) (all : List A) → AreEnds 0 ends (length all) → new-ends ≡ ends ++ length all ∷ []
      → cut_at 0 new-ends all ≡ cut_at 0 ends all ++ [] ∷ []
  rows_none ends new-ends all are ended = rows_more ends new-ends all [] all are (sym (append-nil all)) ended

  pub whole_empty : (ends new-ends : List ℕ) (all : List A) (n count : ℕ) → AreEnds 0 ends (length all) → n ≡ length ends + count
      → new-ends ≡ take n ends ++ replicate (n - length ends) (length all) → AreEnds 0 new-ends (length all)
  whole_empty ends new-ends all n count are long is =
      subst (λ (es : List ℕ). AreEnds 0 es (length all)) (sym (resized ends new-ends (length all) n count long is)) (ends_with_empty 0 ends (length all) count are)

  pub rows_empty : (ends new-ends : List ℕ) (all : List A) (n count : ℕ) → AreEnds 0 ends (length all) → n ≡ length ends + count
      → new-ends ≡ take n ends ++ replicate (n - length ends) (length all) → cut_at 0 new-ends all ≡ cut_at 0 ends all ++ replicate count []
  rows_empty ends new-ends all n count are long is =
      ap (λ (es : List ℕ). cut_at 0 es all) (resized ends new-ends (length all) n count long is) ∙ cut_with_empty 0 ends all count are

  pub whole_joined : (ends others new-ends : List ℕ) (all more new : List A) → AreEnds 0 ends (length all) → AreEnds 0 others (length more) → new ≡ all ++ more
      → new-ends ≡ ends ++ shift (length all) others → AreEnds 0 new-ends (length new)
  whole_joined ends others new-ends all more new are follow is ended =
      let count : length new ≡ length all + length more = ap length is ∙ length-append all more in
      let none : length all ≡ length all + 0 = omega arith in
      subst (λ (es : List ℕ). AreEnds 0 es (length new)) (sym ended)
      (subst (λ (n : ℕ). AreEnds 0 (ends ++ shift (length all) others) n) (sym count)
      (ends_joined 0 ends (length all) 0 others (length more) (subst (AreEnds 0 ends) none are) follow))

-- ---- two added one after the other

module _ {A : Type 0} where
  begins_with_front : (all left new : List A) → take (length (all ++ left)) new ≡ all ++ left → take (length all) new ≡ all
  begins_with_front [] left new is = refl
  begins_with_front (x ∷ all) left [] is = absurd cc
  begins_with_front (x ∷ all) left (y ∷ new) is =
      let first : y ≡ x = cc in
      let rest : take (length (all ++ left)) new ≡ all ++ left = cc in
      ap (λ (z : A). z ∷ take (length all) new) first ∙ ap (λ (l : List A). x ∷ l) (begins_with_front all left new rest)

  pub kept_before : (all left mid new : List A) → mid ≡ all ++ left → take (length mid) new ≡ mid → take (length all) new ≡ all
  kept_before all left mid new is kept =
      begins_with_front all left new (ap (λ (l : List A). take (length l) new) (sym is) ∙ kept ∙ is)

  pub both_added : (all left right mid new : List A) → mid ≡ all ++ left → new ≡ mid ++ right → new ≡ all ++ (left ++ right)
  both_added all left right mid new is also = also ∙ ap (λ (l : List A). l ++ right) is ∙ append_assoc all left right
