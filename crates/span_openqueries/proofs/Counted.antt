-- The leaves of an open query beside their pieces.
use Rattle.std.proofs.Common.{◌≡◌, ℕ, ◌≤◌, ◌+◌, zero, suc, List, [], ◌∷◌, length, map, Option, Some, None, refl, ap, sym, ◌∙◌, subst, arith}
use Rattle.std.specs.Prelude.{true, not, slice_get, slice_set, IfSome, Result, Ok, Err, OnOk, OnErr}
use Rattle.std.proofs.lemmas.Bool.{and_parts, not-true}
use Rattle.std.proofs.lemmas.List.{length-map}
use Rattle.std.proofs.lemmas.List.Edits.{length-insert}
use Rattle.span_keycode.specs.declared.range.KeyRange.{KeyRange}
use Rattle.span_keycode.specs.Parts.{place_among, is_nonempty, is_covered_in_part, AreApart}
use Rattle.span_keycode.proofs.PartLaws.{place_within, apart_insert}
use Rattle.span_columns.specs.declared.leaf.Leaf.{Leaf}
use Rattle.span_fragment.specs.declared.piece.Piece.{Piece}
use Rattle.span_machine.specs.declared.query.ScanLeaf.{ScanLeaf}
use Rattle.span_machine.specs.Machine.{if_some, add_piece, uncovered, with_piece}
use Rattle.span_machine.specs.Pieces.{no_pieces, insert_piece, insert_piece_at}
use Rattle.span_openqueries.specs.Counts.{AreCounted, AreAllApart, count_covered, count_pieces, is_uncovered}

-- equal lists
pub recounted : (leaves leaves' : List ScanLeaf) (pieces pieces' : List (List Piece)) → leaves' ≡ leaves → pieces' ≡ pieces → AreCounted leaves pieces → AreCounted leaves' pieces'
recounted leaves leaves' pieces pieces' e f counted =
    ap (λ (qs : List (List Piece)). map count_pieces qs) f ∙ counted ∙ ap (λ (ks : List ScanLeaf). map count_covered ks) (sym e)

-- leaves as they are opened
pub opened_counted : (leaves : List Leaf) → AreCounted (map uncovered leaves) (map no_pieces leaves)
opened_counted [] = refl
opened_counted (l ∷ ls) = ap (λ (ns : List ℕ). 0 ∷ ns) (opened_counted ls)

pub counted_length : (leaves : List ScanLeaf) (pieces : List (List Piece)) → AreCounted leaves pieces → length pieces ≡ length leaves
counted_length leaves pieces counted =
    sym (length-map pieces count_pieces) ∙ ap (λ (ns : List ℕ). length ns) counted ∙ length-map leaves count_covered

heads : (m n : ℕ) (ms ns : List ℕ) → (m ∷ ms) ≡ (n ∷ ns) → m ≡ n
heads m n ms ns e = cc

tails : (m n : ℕ) (ms ns : List ℕ) → (m ∷ ms) ≡ (n ∷ ns) → ms ≡ ns
tails m n ms ns e = cc

pub counted_at : (leaves : List ScanLeaf) (pieces : List (List Piece)) (i : ℕ) (l : ScanLeaf) (ps : List Piece) → AreCounted leaves pieces
    → slice_get leaves i ≡ Some l → slice_get pieces i ≡ Some ps → length ps ≡ length l.covered
counted_at [] pieces i l ps counted here there = absurd (cc)
counted_at (k ∷ ks) [] i l ps counted here there = absurd (cc)
counted_at (k ∷ ks) (q ∷ qs) zero l ps counted here there =
    let a : k ≡ l = cc in
    let b : q ≡ ps = cc in
    ap count_pieces (sym b) ∙ heads (count_pieces q) (count_covered k) (map count_pieces qs) (map count_covered ks) counted ∙ ap count_covered a
counted_at (k ∷ ks) (q ∷ qs) (suc i) l ps counted here there =
    counted_at ks qs i l ps (tails (count_pieces q) (count_covered k) (map count_pieces qs) (map count_covered ks) counted) here there

set_counted : (leaves : List ScanLeaf) (pieces : List (List Piece)) (i : ℕ) (l : ScanLeaf) (ps : List Piece) → AreCounted leaves pieces
    → count_pieces ps ≡ count_covered l → AreCounted (slice_set leaves i l) (slice_set pieces i ps)
set_counted [] [] i l ps counted same = refl
set_counted [] (q ∷ qs) i l ps counted same = absurd (let e : count_pieces q ∷ map count_pieces qs ≡ [] = counted in cc)
set_counted (k ∷ ks) [] i l ps counted same = absurd (let e : [] ≡ count_covered k ∷ map count_covered ks = counted in cc)
set_counted (k ∷ ks) (q ∷ qs) zero l ps counted same =
    ap (λ n. n ∷ map count_pieces qs) same
    ∙ ap (λ (ns : List ℕ). count_covered l ∷ ns) (tails (count_pieces q) (count_covered k) (map count_pieces qs) (map count_covered ks) counted)
set_counted (k ∷ ks) (q ∷ qs) (suc i) l ps counted same =
    ap (λ n. n ∷ map count_pieces (slice_set qs i ps)) (heads (count_pieces q) (count_covered k) (map count_pieces qs) (map count_covered ks) counted)
    ∙ ap (λ (ns : List ℕ). count_covered k ∷ ns) (set_counted ks qs i l ps (tails (count_pieces q) (count_covered k) (map count_pieces qs) (map count_covered ks) counted) same)

-- with one more piece, both of a leaf's ranges and of its pieces
one_more : (l : ScanLeaf) (part : KeyRange) (piece : Piece) (ps : List Piece) → length ps ≡ length l.covered → count_pieces (insert_piece l part piece ps) ≡ count_covered (add_piece part l)
one_more l part piece ps same =
    let within = place_within l.covered part in
    length-insert ps (place_among l.covered part) piece (subst (λ n. place_among l.covered part ≤ n) (sym same) within)
    ∙ ap (λ n. n + 1) same ∙ sym (length-insert l.covered (place_among l.covered part) part within)

missing : {A B : Type 0} (xs : List A) (ys : List B) (i : ℕ) (x : A) → length xs ≡ length ys → slice_get xs i ≡ Some x → slice_get ys i ≡ None → ⊥
missing [] ys i x same here none = cc
missing (a ∷ as') [] i x same here none = let e : suc (length as') ≡ 0 = same in cc
missing (a ∷ as') (b ∷ bs) zero x same here none = cc
missing (a ∷ as') (b ∷ bs) (suc i) x same here none = missing as' bs i x (let e : suc (length as') ≡ suc (length bs) = same in omega arith) here none

pub covered_counted : (leaves : List ScanLeaf) (pieces : List (List Piece)) (leaf : ℕ) (part : KeyRange) (piece : Piece) → AreCounted leaves pieces
    → AreCounted (with_piece leaves leaf part) (insert_piece_at leaves leaf part piece pieces)
covered_counted leaves pieces leaf part piece counted = elim (slice_get leaves leaf) as (λ o. slice_get leaves leaf ≡ o
    → AreCounted (if_some o leaves (λ l. slice_set leaves leaf (add_piece part l))) (if_some o pieces (λ l. if_some (slice_get pieces leaf) pieces (λ ps. slice_set pieces leaf (insert_piece l part piece ps))))) [
      | None ↦ λ e. counted
      | Some l ↦ λ e. elim (slice_get pieces leaf) as (λ o. slice_get pieces leaf ≡ o
          → AreCounted (slice_set leaves leaf (add_piece part l)) (if_some o pieces (λ ps. slice_set pieces leaf (insert_piece l part piece ps)))) [
            | None ↦ λ f. absurd (missing leaves pieces leaf l (sym (counted_length leaves pieces counted)) e f)
            | Some ps ↦ λ f. set_counted leaves pieces leaf (add_piece part l) (insert_piece l part piece ps) counted (one_more l part piece ps (counted_at leaves pieces leaf l ps counted e f))
          ] refl
    ] refl

-- ---- pieces that are apart

pub opened_apart : (leaves : List Leaf) → AreAllApart (map uncovered leaves)
opened_apart [] = tt
opened_apart (l ∷ ls) = (tt, opened_apart ls)

pub apart_at : (leaves : List ScanLeaf) (i : ℕ) (l : ScanLeaf) → AreAllApart leaves → slice_get leaves i ≡ Some l → AreApart l.covered
apart_at [] i l all here = absurd (cc)
apart_at (k ∷ ks) zero l all here = let e : k ≡ l = cc in subst (λ (m : ScanLeaf). AreApart m.covered) e all.0
apart_at (k ∷ ks) (suc i) l all here = apart_at ks i l all.1 here

set_apart : (leaves : List ScanLeaf) (i : ℕ) (l : ScanLeaf) → AreAllApart leaves → AreApart l.covered → AreAllApart (slice_set leaves i l)
set_apart [] i l all one = tt
set_apart (k ∷ ks) zero l all one = (one, all.1)
set_apart (k ∷ ks) (suc i) l all one = (all.0, set_apart ks i l all.1 one)

-- with a piece that covers what no piece covered
pub covered_apart : (leaves : List ScanLeaf) (leaf : ℕ) (part : KeyRange) → AreAllApart leaves → IfSome (slice_get leaves leaf) (λ l. is_uncovered l part ≡ true) → AreAllApart (with_piece leaves leaf part)
covered_apart leaves leaf part all = elim (slice_get leaves leaf) as (λ o. slice_get leaves leaf ≡ o
    → IfSome o (λ l. is_uncovered l part ≡ true) → AreAllApart (if_some o leaves (λ l. slice_set leaves leaf (add_piece part l)))) [
      | None ↦ λ e free. all
      | Some l ↦ λ e free.
          let both = and_parts (is_nonempty part) (not (is_covered_in_part l.covered part)) free in
          set_apart leaves leaf (add_piece part l) all (apart_insert l.covered part (apart_at leaves leaf l all e) both.0 (not-true (is_covered_in_part l.covered part) both.1))
    ] refl

-- ---- what a call of `add_piece` leaves

module _ {E : Type 0} (r : Result (Unit {0}) E) (leaves leaves' : List ScanLeaf) (pieces pieces' : List (List Piece)) (leaf : ℕ) (part : KeyRange) (piece : Piece) where
  -- after a piece was added, or was not
  pub counted_after : AreCounted leaves pieces
      → OnOk r ((leaves' ≡ with_piece leaves leaf part) × (pieces' ≡ insert_piece_at leaves leaf part piece pieces)) → OnErr r ((leaves' ≡ leaves) × (pieces' ≡ pieces)) → AreCounted leaves' pieces'
  counted_after counted ok err = go r ok err
    where
      go : (s : Result (Unit {0}) E) → OnOk s ((leaves' ≡ with_piece leaves leaf part) × (pieces' ≡ insert_piece_at leaves leaf part piece pieces)) → OnErr s ((leaves' ≡ leaves) × (pieces' ≡ pieces)) → AreCounted leaves' pieces'
      go (Ok u) p q = recounted (with_piece leaves leaf part) leaves' (insert_piece_at leaves leaf part piece pieces) pieces' p.0 p.1 (covered_counted leaves pieces leaf part piece counted)
      go (Err e) p q = recounted leaves leaves' pieces pieces' q.0 q.1 counted

  pub apart_after : AreAllApart leaves → IfSome (slice_get leaves leaf) (λ l. is_uncovered l part ≡ true)
      → OnOk r ((leaves' ≡ with_piece leaves leaf part) × (pieces' ≡ insert_piece_at leaves leaf part piece pieces)) → OnErr r ((leaves' ≡ leaves) × (pieces' ≡ pieces)) → AreAllApart leaves'
  apart_after all free ok err = go r ok err
    where
      go : (s : Result (Unit {0}) E) → OnOk s ((leaves' ≡ with_piece leaves leaf part) × (pieces' ≡ insert_piece_at leaves leaf part piece pieces)) → OnErr s ((leaves' ≡ leaves) × (pieces' ≡ pieces)) → AreAllApart leaves'
      go (Ok u) p q = subst AreAllApart (sym p.0) (covered_apart leaves leaf part all free)
      go (Err e) p q = subst AreAllApart (sym q.0) all

-- a leaf and its pieces, put at their place
pub put_piece : (leaves : List ScanLeaf) (pieces : List (List Piece)) (leaf : ℕ) (part : KeyRange) (piece : Piece) (l l' : ScanLeaf) (ps ps' : List Piece)
    → slice_get leaves leaf ≡ Some l → slice_get pieces leaf ≡ Some ps → l' ≡ add_piece part l → ps' ≡ insert_piece l part piece ps
    → (slice_set leaves leaf l' ≡ with_piece leaves leaf part) × (slice_set pieces leaf ps' ≡ insert_piece_at leaves leaf part piece pieces)
put_piece leaves pieces leaf part piece l l' ps ps' here there put put_rows = (
  ap (λ (k : ScanLeaf). slice_set leaves leaf k) put ∙ sym (ap (λ (o : Option ScanLeaf). if_some o leaves (λ k. slice_set leaves leaf (add_piece part k))) here),
  ap (λ (qs : List Piece). slice_set pieces leaf qs) put_rows
      ∙ sym (ap (λ (o : Option (List Piece)). if_some o pieces (λ qs. slice_set pieces leaf (insert_piece l part piece qs))) there)
      ∙ sym (ap (λ (o : Option ScanLeaf). if_some o pieces (λ k. if_some (slice_get pieces leaf) pieces (λ qs. slice_set pieces leaf (insert_piece k part piece qs)))) here),
)
