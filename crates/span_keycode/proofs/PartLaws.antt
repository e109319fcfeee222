-- The laws of parts of ranges: gaps, pieces in order, and ranges that pieces tile.
use Rattle.std.proofs.Common.{◌≡◌, ℕ, zero, suc, ◌+◌, ◌≤◌, List, [], ◌∷◌, ◌++◌, Option, Some, None, Bool, true, false, not, ◌&&◌, ◌||◌, ◌⊎◌, inl, inr, refl, sym, subst, arith, length, take, drop, if◌then◌else◌}
use Rattle.std.specs.Cmp.{both_ways as same_tests}
use Rattle.std.specs.List.{AllByRecursion, insert}
use Rattle.std.specs.Ordering.{is_lt}
use Rattle.std.specs.Str.{bytes_eq}
use Rattle.std.proofs.lemmas.Bool.{and_parts, and_from, not-true, not_from_false, or_cases, or_left, or_right, or_from, or_parts, false_from_ne_true}
use Rattle.std.proofs.lemmas.Slice.Eq.{bytes_eq-Decides}
use Rattle.span_keycode.specs.declared.range.KeyRange.{KeyRange}
use Rattle.span_keycode.specs.Order.{byte_order}
use Rattle.span_keycode.specs.Parts.{
  is_within,
  is_nonempty,
  later,
  earlier,
  later_of,
  earlier_of,
  part_between,
  is_from,
  is_upto,
  is_between,
  part_before,
  part_after,
  lowest_gap,
  overlaps,
  is_covered_in_part,
  follows,
  tiles,
  place_among,
  AreApart,
}
use Rattle.span_keycode.proofs.Befores.{IsBefore, IsUpto, upto_upto, before_upto, lt_le, itself, before_or_not, not_both, later_left, later_right, later_least, earlier_left, earlier_right, earlier_most, earlier_cases}

-- ---- keys within a range

pub within_parts : (r : KeyRange) (k : List ℕ) → is_within r k ≡ true → IsUpto r.low k × IsBefore k r.high
within_parts r k e =
    let both = and_parts (not (is_lt (byte_order k r.low))) (is_lt (byte_order k r.high)) e in
    (not-true (is_lt (byte_order k r.low)) both.0, both.1)

pub within_from : (r : KeyRange) (k : List ℕ) → IsUpto r.low k → IsBefore k r.high → is_within r k ≡ true
within_from r k p q = and_from (not (is_lt (byte_order k r.low))) (is_lt (byte_order k r.high)) (not_from_false (is_lt (byte_order k r.low)) p) q

from_parts : (lo : Option (List ℕ)) (low k : List ℕ) → IsUpto (later_of lo low) k → (is_from lo k ≡ true) × IsUpto low k
from_parts None low k p = (refl, p)
from_parts (Some l) low k p =
    (not_from_false (is_lt (byte_order k l)) (upto_upto l (later l low) k (later_left l low) p), upto_upto low (later l low) k (later_right l low) p)

from_both : (lo : Option (List ℕ)) (low k : List ℕ) → is_from lo k ≡ true → IsUpto low k → IsUpto (later_of lo low) k
from_both None low k e p = p
from_both (Some l) low k e p = later_least l low k (not-true (is_lt (byte_order k l)) e) p

upto_parts : (hi : Option (List ℕ)) (high k : List ℕ) → IsBefore k (earlier_of hi high) → (is_upto hi k ≡ true) × IsBefore k high
upto_parts None high k p = (refl, p)
upto_parts (Some h) high k p = (lt_le k (earlier h high) h p (earlier_left h high), lt_le k (earlier h high) high p (earlier_right h high))

upto_both : (hi : Option (List ℕ)) (high k : List ℕ) → is_upto hi k ≡ true → IsBefore k high → IsBefore k (earlier_of hi high)
upto_both None high k e p = p
upto_both (Some h) high k e p = earlier_most h high k e p

-- a key of the part between two ends is between them, and within the range
pub part_within : (lo hi : Option (List ℕ)) (r : KeyRange) (k : List ℕ) → is_within (part_between lo hi r) k ≡ true → (is_between lo hi k ≡ true) × (is_within r k ≡ true)
unfolding is_between
part_within lo hi r k e =
    let both = within_parts (part_between lo hi r) k e in
    let low = from_parts lo r.low k both.0 in
    let high = upto_parts hi r.high k both.1 in
    (and_from (is_from lo k) (is_upto hi k) low.0 high.0, within_from r k low.1 high.1)

-- and the other way
pub within_part : (lo hi : Option (List ℕ)) (r : KeyRange) (k : List ℕ) → is_between lo hi k ≡ true → is_within r k ≡ true → is_within (part_between lo hi r) k ≡ true
unfolding is_between
within_part lo hi r k b e =
    let ends = and_parts (is_from lo k) (is_upto hi k) b in
    let both = within_parts r k e in
    within_from (part_between lo hi r) k (from_both lo r.low k ends.0 both.0) (upto_both hi r.high k ends.1 both.1)

-- ---- the lowest part that no piece covers

taken : (b : Bool) (x : KeyRange) (o : Option KeyRange) (g : KeyRange) → (if b then Some x else o) ≡ Some g → ((b ≡ true) × (x ≡ g)) ⊎ ((b ≡ false) × (o ≡ Some g))
taken true x o g e = inl (refl, cc)
taken false x o g e = inr (refl, e)

-- a part of a range that has keys
pub record IsPart (range g : KeyRange) : Type 0 where
  pub low : IsUpto range.low g.low
  pub high : IsUpto g.high range.high
  pub some : is_nonempty g ≡ true

pub gap_part : (range : KeyRange) (cs : List KeyRange) (g : KeyRange) → lowest_gap range cs ≡ Some g → IsPart range g
gap_part range [] g e = elim (taken (is_nonempty range) range None g e) [
  | inl h ↦ (let P : KeyRange → Type 0 = λ x. IsPart range x in
      let here : IsPart range range = record { low = itself range.low; high = itself range.high; some = h.0 } in
      subst P h.1 here)
  | inr h ↦ absurd (let f : None ≡ Some g = h.1 in cc)
]
gap_part range (c ∷ cs) g e = elim (taken (is_nonempty (part_before c range)) (part_before c range) (lowest_gap (part_after c range) cs) g e) [
  | inl h ↦ (let P : KeyRange → Type 0 = λ x. IsPart range x in
      let here : IsPart range (part_before c range) = record { low = itself range.low; high = earlier_right c.low range.high; some = h.0 } in
      subst P h.1 here)
  | inr h ↦ (let p = gap_part (part_after c range) cs g h.1 in
      record { low = upto_upto range.low (later c.high range.low) g.low (later_right c.high range.low) p.low; high = p.high; some = p.some })
]

-- a key of the gap is within the range
pub gap_within : (range : KeyRange) (cs : List KeyRange) (g : KeyRange) (k : List ℕ) → lowest_gap range cs ≡ Some g → is_within g k ≡ true → is_within range k ≡ true
gap_within range cs g k e w =
    let p = gap_part range cs g e in
    let both = within_parts g k w in
    within_from range k (upto_upto range.low g.low k p.low both.0) (lt_le k g.high range.high both.1 p.high)

-- and the gap has keys
pub gap_nonempty : (range : KeyRange) (cs : List KeyRange) (g : KeyRange) → lowest_gap range cs ≡ Some g → is_nonempty g ≡ true
gap_nonempty range cs g e = (gap_part range cs g e).some

-- ranges one of which ends where the other begins, or before, have no keys in common
apart_before : (g d : KeyRange) → IsUpto g.high d.low → overlaps g d ≡ false
apart_before g d p =
    upto_upto (earlier g.high d.high) d.low (later g.low d.low) (upto_upto (earlier g.high d.high) g.high d.low (earlier_left g.high d.high) p) (later_right g.low d.low)

apart_after : (g d : KeyRange) → IsUpto d.high g.low → overlaps g d ≡ false
apart_after g d p =
    upto_upto (earlier g.high d.high) g.low (later g.low d.low) (upto_upto (earlier g.high d.high) d.high g.low (earlier_right g.high d.high) p) (later_left g.low d.low)

-- each of the pieces begins at the key or after it
abbrev pub AreAfter : List ℕ → List KeyRange → Type 0
AreAfter key cs = AllByRecursion (λ (d : KeyRange). is_lt (byte_order d.low key) ≡ false) cs

none_after : (g : KeyRange) (cs : List KeyRange) → AreAfter g.high cs → is_covered_in_part cs g ≡ false
none_after g [] f = refl
none_after g (c ∷ cs) f = or_from (overlaps g c) (is_covered_in_part cs g) (apart_before g c f.0) (none_after g cs f.1)

after_lower : (a b : List ℕ) (cs : List KeyRange) → IsUpto a b → AreAfter b cs → AreAfter a cs
after_lower a b [] p f = tt
after_lower a b (c ∷ cs) p f = (upto_upto a b c.low p f.0, after_lower a b cs p f.1)

-- no piece has keys of the gap
pub gap_apart : (range : KeyRange) (cs : List KeyRange) (g : KeyRange) → AreApart cs → lowest_gap range cs ≡ Some g → is_covered_in_part cs g ≡ false
gap_apart range [] g a e = refl
gap_apart range (c ∷ cs) g a e = elim (taken (is_nonempty (part_before c range)) (part_before c range) (lowest_gap (part_after c range) cs) g e) [
  | inl h ↦ (let P : KeyRange → Type 0 = λ x. is_covered_in_part (c ∷ cs) x ≡ false in
      let g = part_before c range in
      let here : IsUpto g.high c.low = earlier_left c.low range.high in
      let rest = after_lower g.high c.high cs (upto_upto g.high c.low c.high here (before_upto c.low c.high a.0)) a.1 in
      subst P h.1 (or_from (overlaps g c) (is_covered_in_part cs g) (apart_before g c here) (none_after g cs rest)))
  | inr h ↦ (let p = gap_part (part_after c range) cs g h.1 in
      let here : IsUpto c.high g.low = upto_upto c.high (later c.high range.low) g.low (later_left c.high range.low) p.low in
      or_from (overlaps g c) (is_covered_in_part cs g) (apart_after g c here) (gap_apart (part_after c range) cs g a.2 h.1))
]

-- ---- one more piece

-- of two ranges with no keys in common, that which begins first ends where the other begins, or before
ends_before : (a b : KeyRange) → is_nonempty b ≡ true → IsUpto a.low b.low → IsUpto (earlier a.high b.high) b.low → IsUpto a.high b.low
ends_before a b some first p = elim (earlier_cases a.high b.high b.low p) [
  | inl q ↦ q
  | inr q ↦ absurd (not_both b.low b.high some q)
]

apart_first : (g c : KeyRange) → is_nonempty c ≡ true → IsUpto g.low c.low → overlaps g c ≡ false → IsUpto g.high c.low
apart_first g c some first o =
    ends_before g c some first (upto_upto (earlier g.high c.high) (later g.low c.low) c.low o (later_least g.low c.low c.low first (itself c.low)))

apart_second : (g c : KeyRange) → is_nonempty g ≡ true → IsUpto c.low g.low → overlaps g c ≡ false → IsUpto c.high g.low
apart_second g c some second o = elim (earlier_cases g.high c.high g.low (upto_upto (earlier g.high c.high) (later g.low c.low) g.low o (later_least g.low c.low g.low (itself g.low) second))) [
  | inl q ↦ absurd (not_both g.low g.high some q)
  | inr q ↦ q
]

-- one more among later pieces
after_insert : (key : List ℕ) (cs : List KeyRange) (n : ℕ) (g : KeyRange) → AreAfter key cs → IsUpto key g.low → AreAfter key (insert cs n g)
after_insert key cs n g f p = joined (take n cs) (drop n cs) (front n cs f) (p, back n cs f)
  where
    front : (n : ℕ) (cs : List KeyRange) → AreAfter key cs → AreAfter key (take n cs)
    front zero cs f = tt
    front (suc n) [] f = tt
    front (suc n) (c ∷ cs) f = (f.0, front n cs f.1)

    back : (n : ℕ) (cs : List KeyRange) → AreAfter key cs → AreAfter key (drop n cs)
    back zero cs f = f
    back (suc n) [] f = tt
    back (suc n) (c ∷ cs) f = back n cs f.1

    joined : (xs ys : List KeyRange) → AreAfter key xs → AreAfter key (g ∷ ys) → AreAfter key (xs ++ g ∷ ys)
    joined [] ys f h = h
    joined (x ∷ xs) ys f h = (f.0, joined xs ys f.1 h)

placed : (b : Bool) (c : KeyRange) (cs : List KeyRange) (g : KeyRange) (n : ℕ) (P : List KeyRange → Type 0)
    → (b ≡ true → P (c ∷ insert cs n g)) → (b ≡ false → P (g ∷ c ∷ cs)) → P (insert (c ∷ cs) (if b then n + 1 else 0) g)
placed true c cs g n P here other =
    let more : n + 1 ≡ suc n = omega arith in
    let Q : ℕ → Type 0 = λ m. P (insert (c ∷ cs) m g) in
    subst Q (sym more) (here refl)
placed false c cs g n P here other = other refl

-- pieces in order stay in order with one more that has no keys of theirs
pub apart_insert : (cs : List KeyRange) (g : KeyRange) → AreApart cs → is_nonempty g ≡ true → is_covered_in_part cs g ≡ false → AreApart (insert cs (place_among cs g) g)
apart_insert [] g a some o = (some, tt, tt)
apart_insert (c ∷ cs) g a some o =
    let apart = or_parts (overlaps g c) (is_covered_in_part cs g) o in
    placed (is_lt (byte_order c.low g.low)) c cs g (place_among cs g) AreApart
    (λ first. (a.0, after_insert c.high cs (place_among cs g) g a.1 (apart_second g c some (before_upto c.low g.low first) apart.0), apart_insert cs g a.2 some apart.1))
    (λ first. let here = apart_first g c a.0 first apart.0 in
    (some, (here, after_lower g.high c.high cs (upto_upto g.high c.low c.high here (before_upto c.low c.high a.0)) a.1), a))

pub place_within : (cs : List KeyRange) (g : KeyRange) → place_among cs g ≤ length cs
place_within [] g = omega arith
place_within (c ∷ cs) g = one (is_lt (byte_order c.low g.low)) (place_within cs g)
  where
    one : (b : Bool) → place_among cs g ≤ length cs → (if b then place_among cs g + 1 else 0) ≤ suc (length cs)
    one true h = omega arith
    one false h = omega arith

-- ---- pieces that tile a range

-- what is left of a range after its first piece
abbrev pub rest_after : KeyRange → KeyRange → KeyRange
rest_after piece range = record { low = piece.high; high = range.high }

-- the first piece and the rest have the keys of the range, the first piece those that are before all others
pub record IsSplit (range piece : KeyRange) : Type 0 where
  pub within : (k : List ℕ) → is_within range k ≡ (is_within piece k || is_within (rest_after piece range) k)
  pub apart : (k : List ℕ) → is_within piece k ≡ true → is_within (rest_after piece range) k ≡ false
  pub before : (k j : List ℕ) → is_within piece k ≡ true → is_within (rest_after piece range) j ≡ true → is_lt (byte_order k j) ≡ true

split_at : (range piece : KeyRange) → piece.low ≡ range.low → is_nonempty piece ≡ true → IsUpto piece.high range.high → IsSplit range piece
split_at range piece same some most = record { within = within; apart = apart; before = before }
  where
    before : (k j : List ℕ) → is_within piece k ≡ true → is_within (rest_after piece range) j ≡ true → is_lt (byte_order k j) ≡ true
    before k j p q = lt_le k piece.high j (within_parts piece k p).1 (within_parts (rest_after piece range) j q).0

    apart : (k : List ℕ) → is_within piece k ≡ true → is_within (rest_after piece range) k ≡ false
    apart k p = false_from_ne_true (is_within (rest_after piece range) k) (λ q. not_both k k (before k k p q) (itself k))

    low : (k : List ℕ) → IsUpto range.low k → IsUpto piece.low k
    low k p = let P : List ℕ → Type 0 = λ x. IsUpto x k in subst P (sym same) p

    back : (k : List ℕ) → IsUpto piece.low k → IsUpto range.low k
    back k p = let P : List ℕ → Type 0 = λ x. IsUpto x k in subst P same p

    one : (k : List ℕ) → is_within range k ≡ true → (is_within piece k || is_within (rest_after piece range) k) ≡ true
    one k p =
        let both = within_parts range k p in
        elim (before_or_not k piece.high) [
          | inl first ↦ or_left (is_within piece k) (is_within (rest_after piece range) k) (within_from piece k (low k both.0) first)
          | inr second ↦ or_right (is_within piece k) (is_within (rest_after piece range) k) (within_from (rest_after piece range) k second both.1)
        ]

    two : (k : List ℕ) → (is_within piece k || is_within (rest_after piece range) k) ≡ true → is_within range k ≡ true
    two k p = elim (or_cases (is_within piece k) (is_within (rest_after piece range) k) p) [
      | inl first ↦ (let both = within_parts piece k first in within_from range k (back k both.0) (lt_le k piece.high range.high both.1 most))
      | inr second ↦ (let both = within_parts (rest_after piece range) k second in
          within_from range k (back k (upto_upto piece.low piece.high k (before_upto piece.low piece.high some) both.0)) both.1)
    ]

    within : (k : List ℕ) → is_within range k ≡ (is_within piece k || is_within (rest_after piece range) k)
    within k = same_tests (is_within range k) (is_within piece k || is_within (rest_after piece range) k) (one k) (two k)

-- pieces that tile a range: the first splits it, and the others tile the rest
pub tiles_split : (range piece : KeyRange) (cs : List KeyRange) → tiles range (piece ∷ cs) ≡ true → IsSplit range piece × (tiles (rest_after piece range) cs ≡ true)
tiles_split range piece cs e =
    let all = and_parts (follows range.low range.high piece) (tiles (rest_after piece range) cs) e in
    let ends = and_parts (bytes_eq piece.low range.low && is_nonempty piece) (not (is_lt (byte_order range.high piece.high))) all.0 in
    let start = and_parts (bytes_eq piece.low range.low) (is_nonempty piece) ends.0 in
    (split_at range piece ((bytes_eq-Decides piece.low range.low).0 start.0) start.1 (not-true (is_lt (byte_order range.high piece.high)) ends.1), all.1)

-- no pieces tile only a range without keys
pub tiles_none : (range : KeyRange) (k : List ℕ) → tiles range [] ≡ true → is_within range k ≡ false
tiles_none range k e =
    let empty : IsUpto range.high range.low = not-true (is_nonempty range) e in
    false_from_ne_true (is_within range k)
    (λ w. let both = within_parts range k w in not_both k k (lt_le k range.high k both.1 (upto_upto range.high range.low k empty both.0)) (itself k))
