-- Short keys, found one by one.
use Rattle.std.proofs.Common.{◌≡◌, ℕ, zero, suc, ◌+◌, ◌-◌, ◌<◌, ◌≤◌, List, [], ◌∷◌, ◌++◌, refl, sym, ◌∙◌, ap, arith, length, take, set, true, false, cond, Option, Some, subst, append_assoc}
use Rattle.std.specs.Prelude.{Bool, nat_le, nat_lt}
use Rattle.std.proofs.lemmas.Bool.Decides.{nat_tests}
use Rattle.std.proofs.lemmas.List.{map-append, take-set, take_more_set}
use Rattle.span_arena.specs.declared.cell.Cell.{Cell}
use Rattle.span_arena.specs.Cells.{cell_at}
use Rattle.span_keytree.specs.Entries.{KeyEntry}
use Rattle.span_keytree.specs.Items.{entry}
use Rattle.span_keytree.specs.Nexts.{Nexts, next_of}
use Rattle.span_keywalk.specs.Walks.{is_stop, walked_in, short_entries, cell_entries, AreBelow, AreShortOf}
use Rattle.span_keywalk.proofs.Walking.{walked_more}
use mir.Val.{bool_byte}

-- none of the first n is there
pub none_taken : (xs : List ℕ) (n : ℕ) → 0 < n → n ≤ length xs → take n xs ≡ [] → ⊥
none_taken [] n some few e = omega arith
none_taken (x ∷ xs) zero some few e = omega arith
none_taken (x ∷ xs) (suc n) some few e = let f : x ∷ take n xs ≡ [] = e in absurd (cc)

pub none_counted : (xs : List ℕ) (n : ℕ) → n ≤ length xs → take n xs ≡ [] → n ≡ 0
none_counted xs zero few e = refl
none_counted xs (suc n) few e = absurd (none_taken xs (suc n) (omega arith) few e)

pub counted : (b : Bool) (n : ℕ) → n < 64 → n + bool_byte b ≤ 64
counted true n less = omega arith
counted false n less = omega arith

pub ended : (cs : List Cell) (ns : Nexts) (n : ℕ) (o stop : Option ℕ) → n ≡ 0 → walked_in cs ns n o stop ≡ []
ended cs ns n o stop e = ap (λ (m : ℕ). walked_in cs ns m o stop) e

pub none_left : (n : ℕ) → nat_lt 0 n ≡ false → n ≡ 0
none_left n e = grind (arith, nat_tests)

-- a number put in its place, and counted or not
taken : (numbers : List ℕ) (count i : ℕ) (b : Bool) → count < length numbers → take (count + bool_byte b) (set numbers count i) ≡ cond b (take count numbers ++ i ∷ []) (take count numbers)
taken numbers count i true fits = take_more_set numbers count i fits
taken numbers count i false fits =
    let e : count + 0 ≡ count = omega arith in
    ap (λ (n : ℕ). take n (set numbers count i)) e ∙ take-set numbers count i

below_last : (m : ℕ) (es : List KeyEntry) (e : KeyEntry) → AreBelow m es → e.chain.number < m → AreBelow m (es ++ e ∷ [])
below_last m [] e all last = (last, tt)
below_last m (x ∷ es) e all last = (all.0, below_last m es e all.1 last)

-- the same by other names
pub same_short : (cs : List Cell) (ns : Nexts) (most : ℕ) (stop : Option ℕ) (es : List KeyEntry) (xs ys : List ℕ) (n m : ℕ) (o p : Option ℕ) → xs ≡ ys → n ≡ m → o ≡ p
    → AreShortOf cs ns most stop es ys m p → AreShortOf cs ns most stop es xs n o
same_short cs ns most stop es xs ys n m o p e f g h =
    subst (λ (zs : List ℕ). AreShortOf cs ns most stop es zs n o) (sym e)
    (subst (λ (k : ℕ). AreShortOf cs ns most stop es ys k o) (sym f)
    (subst (λ (q : Option ℕ). AreShortOf cs ns most stop es ys m q) (sym g) h))

-- what a walk is to come to after a chain has a cell too
pub below_next : (cs : List Cell) (ns : Nexts) (n i : ℕ) (stop next : Option ℕ) → 0 < n → is_stop i stop ≡ false → next ≡ next_of ns i
    → AreBelow (length cs) (walked_in cs ns n (Some i) stop) → AreBelow (length cs) (walked_in cs ns (n - 1) next stop)
below_next cs ns n i stop next some miss on below =
    let walk : walked_in cs ns n (Some i) stop ≡ entry (cell_at cs i).key i ∷ walked_in cs ns (n - 1) (next_of ns i) stop = walked_more (cell_at cs) (next_of ns) n i stop some miss in
    let both : AreBelow (length cs) (entry (cell_at cs i).key i ∷ walked_in cs ns (n - 1) (next_of ns i) stop) = subst (AreBelow (length cs)) walk below in
    subst (λ (o : Option ℕ). AreBelow (length cs) (walked_in cs ns (n - 1) o stop)) (sym on) both.1

pub counted_left : (b : Bool) (count n most : ℕ) → 0 < n → count + n ≤ most → count + bool_byte b + (n - 1) ≤ most
counted_left true count n most some few = omega arith
counted_left false count n most some few = omega arith

-- a key on
module _ (cs : List Cell) (ns : Nexts) (most i : ℕ) where
  joined : (b : Bool) (xs ys : List KeyEntry) → cond b (xs ++ entry (cell_at cs i).key i ∷ []) xs ++ ys ≡ xs ++ cond b (entry (cell_at cs i).key i ∷ ys) ys
  joined true xs ys = append_assoc xs (entry (cell_at cs i).key i ∷ []) ys
  joined false xs ys = refl

  gathered : (b : Bool) (numbers : List ℕ) → cell_entries cs (cond b (numbers ++ i ∷ []) numbers) ≡ cond b (cell_entries cs numbers ++ entry (cell_at cs i).key i ∷ []) (cell_entries cs numbers)
  gathered true numbers = map-append (λ (j : ℕ). entry (cell_at cs j).key j) numbers (i ∷ [])
  gathered false numbers = refl

  below_gathered : (b : Bool) (m : ℕ) (es : List KeyEntry) → AreBelow m es → i < m → AreBelow m (cond b (es ++ entry (cell_at cs i).key i ∷ []) es)
  below_gathered true m es all here = below_last m es (entry (cell_at cs i).key i) all here
  below_gathered false m es all here = all

  pub found_step : (n count : ℕ) (stop : Option ℕ) (numbers : List ℕ) (b : Bool) (next : Option ℕ) (es : List KeyEntry) → 0 < n → is_stop i stop ≡ false → count < length numbers → b ≡ nat_le (length (cell_at cs i).key) most → next ≡ next_of ns i
      → AreShortOf cs ns most stop es (take count numbers) n (Some i) → AreShortOf cs ns most stop es (take (count + bool_byte b) (set numbers count i)) (n - 1) next
  found_step n count stop numbers b next es some miss fits short on so_far =
      let walk : walked_in cs ns n (Some i) stop ≡ entry (cell_at cs i).key i ∷ walked_in cs ns (n - 1) next stop =
      walked_more (cell_at cs) (next_of ns) n i stop some miss ∙ ap (λ (o : Option ℕ). entry (cell_at cs i).key i ∷ walked_in cs ns (n - 1) o stop) (sym on) in
      let both : AreBelow (length cs) (entry (cell_at cs i).key i ∷ walked_in cs ns (n - 1) next stop) = subst (AreBelow (length cs)) walk so_far.below in
      let rest : List KeyEntry = short_entries most (walked_in cs ns (n - 1) next stop) in
      let here : cell_entries cs (take (count + bool_byte b) (set numbers count i)) ≡ cond b (cell_entries cs (take count numbers) ++ entry (cell_at cs i).key i ∷ []) (cell_entries cs (take count numbers)) =
      ap (cell_entries cs) (taken numbers count i b fits) ∙ gathered b (take count numbers) in
      let shorter : short_entries most (walked_in cs ns n (Some i) stop) ≡ cond b (entry (cell_at cs i).key i ∷ rest) rest =
      ap (short_entries most) walk ∙ ap (λ (a : Bool). cond a (entry (cell_at cs i).key i ∷ rest) rest) (sym short) in
      record {
        short = ap (λ (xs : List KeyEntry). xs ++ rest) here ∙ joined b (cell_entries cs (take count numbers)) rest ∙ ap (λ (xs : List KeyEntry). cell_entries cs (take count numbers) ++ xs) (sym shorter) ∙ so_far.short;
        found = subst (AreBelow (length cs)) (sym here) (below_gathered b (length cs) (cell_entries cs (take count numbers)) so_far.found both.0);
        below = both.1;
      }
