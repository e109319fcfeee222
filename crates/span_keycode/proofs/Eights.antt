-- The eight bytes of a number.
use Rattle.std.proofs.Common.{◌≡◌, ℕ, ◌<◌, ◌≤◌, List, [], ◌∷◌, Bool, true, false, refl, ◌∙◌, ap, arith, length, drop, get_or}
use Rattle.std.specs.Int.{to_be_bytes, from_be_bytes, w64}
use Rattle.std.proofs.lemmas.Nat.{be_bytes_8}
use Rattle.span_value.proofs.Numbers.{bytes_at}
use Rattle.span_keycode.specs.Order.{flipped}
use Rattle.span_keycode.specs.Coding.{in_direction, AreBytes}

eight : (bs : List ℕ) → 8 ≤ length bs
    → bs ≡ get_or bs 0 0 ∷ get_or bs 1 0 ∷ get_or bs 2 0 ∷ get_or bs 3 0 ∷ get_or bs 4 0 ∷ get_or bs 5 0 ∷ get_or bs 6 0 ∷ get_or bs 7 0 ∷ drop 8 bs
eight [] h = absurd (let l : 8 ≤ 0 = h in omega arith)
eight (a ∷ []) h = absurd (let l : 8 ≤ 1 = h in omega arith)
eight (a ∷ (b ∷ [])) h = absurd (let l : 8 ≤ 2 = h in omega arith)
eight (a ∷ (b ∷ (c ∷ []))) h = absurd (let l : 8 ≤ 3 = h in omega arith)
eight (a ∷ (b ∷ (c ∷ (d ∷ [])))) h = absurd (let l : 8 ≤ 4 = h in omega arith)
eight (a ∷ (b ∷ (c ∷ (d ∷ (e ∷ []))))) h = absurd (let l : 8 ≤ 5 = h in omega arith)
eight (a ∷ (b ∷ (c ∷ (d ∷ (e ∷ (f ∷ [])))))) h = absurd (let l : 8 ≤ 6 = h in omega arith)
eight (a ∷ (b ∷ (c ∷ (d ∷ (e ∷ (f ∷ (g ∷ []))))))) h = absurd (let l : 8 ≤ 7 = h in omega arith)
eight (a ∷ (b ∷ (c ∷ (d ∷ (e ∷ (f ∷ (g ∷ (i ∷ bs)))))))) h = refl

one_turned : (way : Bool) (b r : ℕ) (xs ys : List ℕ) → in_direction way (b ∷ []) ≡ r ∷ [] → in_direction way xs ≡ ys → in_direction way (b ∷ xs) ≡ r ∷ ys
one_turned false b r xs ys h e = cc
one_turned true b r xs ys h e = let g : flipped b ∷ [] ≡ r ∷ [] = h in cc

pub eight_turned : (way : Bool) (bs : List ℕ) (a b c d e f g h : ℕ) → 8 ≤ length bs
    → in_direction way (get_or bs 0 0 ∷ []) ≡ a ∷ [] → in_direction way (get_or bs 1 0 ∷ []) ≡ b ∷ [] → in_direction way (get_or bs 2 0 ∷ []) ≡ c ∷ [] → in_direction way (get_or bs 3 0 ∷ []) ≡ d ∷ []
    → in_direction way (get_or bs 4 0 ∷ []) ≡ e ∷ [] → in_direction way (get_or bs 5 0 ∷ []) ≡ f ∷ [] → in_direction way (get_or bs 6 0 ∷ []) ≡ g ∷ [] → in_direction way (get_or bs 7 0 ∷ []) ≡ h ∷ []
    → in_direction way bs ≡ a ∷ b ∷ c ∷ d ∷ e ∷ f ∷ g ∷ h ∷ in_direction way (drop 8 bs)
eight_turned way bs a b c d e f g h len p0 p1 p2 p3 p4 p5 p6 p7 =
    ap (in_direction way) (eight bs len)
    ∙ one_turned way _ a _ _ p0 (one_turned way _ b _ _ p1 (one_turned way _ c _ _ p2 (one_turned way _ d _ _ p3
    (one_turned way _ e _ _ p4 (one_turned way _ f _ _ p5 (one_turned way _ g _ _ p6 (one_turned way _ h _ _ p7 refl)))))))

-- the number that eight bytes spell is spelled by them
pub number_spelled : (bs : List ℕ) (n : ℕ) → length bs ≡ 8 → AreBytes bs → n ≡ from_be_bytes w64 bs → to_be_bytes w64 n ≡ bs
number_spelled bs n len bytes e = be_bytes_8 bs n len (bytes_at bs bytes) e

pub first_turned : (way : Bool) (bs : List ℕ) (r : ℕ) → 0 < length bs → in_direction way (get_or bs 0 0 ∷ []) ≡ r ∷ [] → in_direction way bs ≡ r ∷ in_direction way (drop 1 bs)
first_turned way [] r h e = absurd (let l : 0 < 0 = h in omega arith)
first_turned way (b ∷ bs) r h e = one_turned way b r bs _ e refl
