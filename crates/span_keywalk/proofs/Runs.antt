-- Keys in a run of chains, found one by one.
use Rattle.std.proofs.Common.{◌≡◌, ◌≢◌, ℕ, ◌+◌, ◌-◌, ◌<◌, ◌≤◌, List, ◌∷◌, refl, sym, ◌∙◌, ap, arith, length, take, map, set, get_or, true, false, Option, Some, None, subst}
use Rattle.std.specs.Prelude.{IfSome, Bool, nat_eq, nat_le, min}
use Rattle.std.proofs.lemmas.Bool.Decides.{nat_tests}
use Rattle.std.proofs.lemmas.List.{get_or-map, length-map}
use Rattle.span_arena.specs.declared.cell.Cell.{Cell}
use Rattle.span_arena.specs.Cells.{cell_at, kept_length, blank}
use Rattle.span_arena.specs.Limits.{most_chains}
use Rattle.span_keytree.specs.Entries.{KeyEntry}
use Rattle.span_keytree.specs.Items.{entry}
use Rattle.span_keytree.specs.Nexts.{Nexts, link_to, next_of}
use Rattle.span_keywalk.specs.Walks.{is_stop, walked_in, AreBelow, AreShortOf, IsRun}
use Rattle.span_keywalk.proofs.Batches.{found_step}
use Rattle.span_keywalk.proofs.Walking.{other_eq, walked_more}
use mir.Val.{bool_byte}

capped : (m most : ℕ) → most < 65535 → nat_le (min m 65535) most ≡ nat_le m most
capped m most less = grind (arith, nat_tests)

-- the kept length says whether a key is short
pub kept_short : (cs : List Cell) (n most : ℕ) → n < length cs → most < 65535 → nat_le (get_or (map kept_length cs) n 0) most ≡ nat_le (length (cell_at cs n).key) most
kept_short cs n most within less =
    let e : get_or (map kept_length cs) n 0 ≡ min (length (cell_at cs n).key) 65535 = get_or-map kept_length cs n blank 0 within in
    ap (λ (m : ℕ). nat_le m most) e ∙ capped (length (cell_at cs n).key) most less

-- a link that is kept as the next number leads there
pub next_kept : (links : List ℕ) (ns : Nexts) (n : ℕ) → map link_to links ≡ ns.next → n + 1 < length links → length links ≤ most_chains → get_or links n 0 ≡ n + 1 → next_of ns n ≡ Some (n + 1)
next_kept links ns n is within few next =
    let there : get_or ns.next n None ≡ link_to (get_or links n 0) = ap (λ (ls : List (Option ℕ)). get_or ls n None) (sym is) ∙ get_or-map link_to links n 0 None (omega arith) in
    let some : nat_eq (n + 1) most_chains ≡ false = grind (arith, nat_tests) in
    there ∙ ap link_to next ∙ (rw some refl)

-- a walk does not end at another chain than its end
pub goes_past : (stop : Option ℕ) (i end : ℕ) → IfSome stop (λ (j : ℕ). end ≡ j) → i ≢ end → is_stop i stop ≡ false
goes_past None i end is apart = refl
goes_past (Some j) i end is apart = other_eq i j (λ (same : j ≡ i). apart (sym same ∙ sym is))

-- a walk that comes to a chain ends there where this is its end, or is none where it has no end
pub ends_there : (cs : List Cell) (ns : Nexts) (n i : ℕ) (stop : Option ℕ) (end : ℕ) → IfSome stop (λ (j : ℕ). end ≡ j) → (stop ≡ None → end ≡ most_chains) → length cs ≤ most_chains → 0 < n
    → AreBelow (length cs) (walked_in cs ns n (Some i) stop) → nat_eq i end ≡ is_stop i stop
ends_there cs ns n i None end is none few some below =
    let walk : walked_in cs ns n (Some i) None ≡ entry (cell_at cs i).key i ∷ walked_in cs ns (n - 1) (next_of ns i) None = walked_more (cell_at cs) (next_of ns) n i None some refl in
    let both : AreBelow (length cs) (entry (cell_at cs i).key i ∷ walked_in cs ns (n - 1) (next_of ns i) None) = subst (AreBelow (length cs)) walk below in
    let less : i < length cs = both.0 in
    let at : end ≡ most_chains = none refl in
    let apart : nat_eq i end ≡ false = grind (arith, nat_tests) in
    apart
ends_there cs ns n i (Some j) end is none few some below = ap (λ (m : ℕ). nat_eq i m) is

-- there are as many links as cells
pub links_length : (links : List ℕ) (ns : Nexts) (n : ℕ) → map link_to links ≡ ns.next → length ns.next ≡ n → length links ≡ n
links_length links ns n is all = sym (length-map links link_to) ∙ ap (λ (ls : List (Option ℕ)). length ls) is ∙ all

pub counted_more : (b : Bool) (n m i : ℕ) → n ≤ m + i → n + bool_byte b ≤ m + (i + 1)
counted_more true n m i most = omega arith
counted_more false n m i most = omega arith

-- a key of a run on
pub run_step : (cs : List Cell) (ns : Nexts) (most i k left count : ℕ) (stop : Option ℕ) (numbers : List ℕ) (b : Bool) (es : List KeyEntry) → IsRun ns (length cs) stop i → 8 ≤ left → k < 8 → count < length numbers → b ≡ nat_le (length (cell_at cs (i + k)).key) most
    → AreShortOf cs ns most stop es (take count numbers) (left - k) (Some (i + k)) → AreShortOf cs ns most stop es (take (count + bool_byte b) (set numbers count (i + k))) (left - (k + 1)) (Some (i + (k + 1)))
run_step cs ns most i k left count stop numbers b es run many few fits short so_far =
    let m : left - k - 1 ≡ left - (k + 1) = omega arith in
    let j : i + k + 1 ≡ i + (k + 1) = omega arith in
    subst (λ (n : ℕ). AreShortOf cs ns most stop es (take (count + bool_byte b) (set numbers count (i + k))) n (Some (i + (k + 1)))) m
    (subst (λ (n : ℕ). AreShortOf cs ns most stop es (take (count + bool_byte b) (set numbers count (i + k))) (left - k - 1) (Some n)) j
    (found_step cs ns most (i + k) (left - k) count stop numbers b (Some (i + k + 1)) es (omega arith) (run.goes_on k few) fits short (sym (run.next k few)) so_far))
