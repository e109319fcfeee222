-- Keys from one on that a store has no row of.
use Rattle.std.proofs.Common.{◌≡◌, ℕ, suc, zero, ◌<◌, Bool, true, false, cond, not, ◌&&◌, List, [], ◌∷◌, Option, Some, None, length, get_or, refl, sym, ap, subst, ◌∙◌, arith}
use Rattle.std.specs.Prelude.{find, AllPairs}
use Rattle.std.specs.List.{AllByRecursion}
use Rattle.std.specs.declared.cmp.Ordering.{Ordering}
use Rattle.std.specs.declared.cmp.Ordering.TheVariants.{Less, Equal, Greater}
use Rattle.std.specs.Ordering.{is_lt, is_eq, ordering_reverse}
use Rattle.std.specs.Cmp.{tied_itself}
use Rattle.std.proofs.lemmas.List.Kept.{AllPairs-filter}
use Rattle.std.proofs.lemmas.Map.Lookups.{exact_bytes}
use Rattle.span_value.proofs.Lists.{all_weaker}
use Rattle.span_keycode.specs.Order.{byte_order}
use Rattle.span_arena.specs.Content.{Content}
use Rattle.span_keytree.specs.Entries.{KeyEntry, IsRising, entries_from}
use Rattle.span_maderows.proofs.Bytes.{bytes_total}
use Rattle.span_store.specs.declared.node.PreparedNode.{PreparedNode}
use Rattle.span_store.specs.KeyVersions.{KeyVersions}
use Rattle.span_store.specs.Ends.{is_before_end, is_from_to, HasNoRowFrom}
use Rattle.span_store.specs.KeyLists.{is_key, versions_of, end_of_time}
use Rattle.span_store.specs.Stored.{kept_entry, all_kept}
use Rattle.span_store.specs.Versions.{row_at}

-- keys of which one passes a test and the other does not are not the same
apart : (t : List ℕ → Bool) (k l : List ℕ) → t k ≡ true → t l ≡ false → is_eq (byte_order k l) ≡ false
apart t k l passes fails = by (byte_order k l) refl
  where
    by : (o : Ordering) → byte_order k l ≡ o → is_eq o ≡ false
    by Less is = refl
    by Equal is = (let q : true ≡ false = sym passes ∙ ap t (exact_bytes k l is) ∙ fails in absurd cc)
    by Greater is = refl

none_found : (a : Content) (ps : List PreparedNode) (k : List ℕ) (es : List KeyEntry) → AllByRecursion (λ (e : KeyEntry). is_eq (byte_order k e.key) ≡ false) es → find (is_key k) (all_kept a ps es) ≡ None
none_found a ps k [] h = refl
none_found a ps k (e ∷ es) h = ap (λ b. cond b (Some (kept_entry a ps e)) (find (is_key k) (all_kept a ps es))) h.0 ∙ none_found a ps k es h.1

-- no key is in a range in which none of those from its start on is before its end
abbrev IsOutside : List ℕ → Option (List ℕ) → List KeyEntry → Type 0
IsOutside low high es = AllByRecursion (λ (e : KeyEntry). is_from_to low high e.key ≡ false) es

abbrev IsPast : Option (List ℕ) → List KeyEntry → Type 0
IsPast high es = AllByRecursion (λ (e : KeyEntry). is_before_end high e.key ≡ false) es

outside_more : (low : List ℕ) (high : Option (List ℕ)) (e : KeyEntry) (es : List KeyEntry) (b : Bool) → is_lt (byte_order e.key low) ≡ b → (IsPast high (entries_from low es) → IsOutside low high es)
    → IsPast high (cond (not b) (e ∷ entries_from low es) (entries_from low es)) → IsOutside low high (e ∷ es)
outside_more low high e es true is rest h = (ap (λ b. not b && is_before_end high e.key) is, rest h)
outside_more low high e es false is rest h = (ap (λ b. not b && is_before_end high e.key) is ∙ h.0, rest h.1)

all_outside : (low : List ℕ) (high : Option (List ℕ)) (es : List KeyEntry) → IsPast high (entries_from low es) → IsOutside low high es
all_outside low high [] h = tt
all_outside low high (e ∷ es) h = outside_more low high e es (is_lt (byte_order e.key low)) refl (λ r. all_outside low high es r) h

no_row : (a : Content) (ps : List PreparedNode) (es : List KeyEntry) (low : List ℕ) (high : Option (List ℕ)) → AllByRecursion (λ (e : KeyEntry). is_before_end high e.key ≡ false) (entries_from low es) → HasNoRowFrom (all_kept a ps es) low high
no_row a ps es low high h = λ k here.
    ap (λ (o : Option KeyVersions). row_at (versions_of o) end_of_time)
    (none_found a ps k es (all_weaker (λ (e : KeyEntry). is_from_to low high e.key ≡ false) (λ (e : KeyEntry). is_eq (byte_order k e.key) ≡ false) (λ e out. apart (is_from_to low high) k e.key here out) es (all_outside low high es h)))

-- where there is no key from one on
pub no_row_after : (a : Content) (ps : List PreparedNode) (es left : List KeyEntry) (low : List ℕ) → left ≡ entries_from low es → left ≡ [] → HasNoRowFrom (all_kept a ps es) low None
no_row_after a ps es left low is none = no_row a ps es low None (subst (λ (l : List KeyEntry). AllByRecursion (λ (e : KeyEntry). is_before_end None e.key ≡ false) l) (sym none ∙ is) tt)

each_after : (P : KeyEntry → Type 0) (es : List KeyEntry) → ((j : ℕ) (d : KeyEntry) → j < length es → P (get_or es j d)) → AllByRecursion P es
each_after P [] h = tt
each_after P (e ∷ es) h = (h zero e (omega arith), each_after P es (λ j d lt. h (suc j) d (omega arith)))

not_before : (k l : List ℕ) → byte_order k l ≡ Less → is_lt (byte_order l k) ≡ false
not_before k l less = ap is_lt (bytes_total.antisymm l k ∙ ap ordering_reverse less)

-- where there is a first one
pub no_row_before : (a : Content) (ps : List PreparedNode) (es left rest : List KeyEntry) (low : List ℕ) (first : KeyEntry) → IsRising es → left ≡ entries_from low es → left ≡ first ∷ rest → HasNoRowFrom (all_kept a ps es) low (Some first.key)
no_row_before a ps es left rest low first rising is some =
    let Rises : KeyEntry → KeyEntry → Type 0 = λ e f. byte_order e.key f.key ≡ Less in
    let same : entries_from low es ≡ first ∷ rest = sym is ∙ some in
    let pairs : AllPairs Rises (first ∷ rest) = subst (λ (l : List KeyEntry). AllPairs Rises l) same (AllPairs-filter Rises (λ (e : KeyEntry). not (is_lt (byte_order e.key low))) es rising) in
    let later : AllByRecursion (λ (f : KeyEntry). Rises first f) rest = each_after (λ (f : KeyEntry). Rises first f) rest (λ j d lt. pairs zero (suc j) d (omega arith) (omega arith)) in
    let none : AllByRecursion (λ (e : KeyEntry). is_before_end (Some first.key) e.key ≡ false) (first ∷ rest) = (ap is_lt (tied_itself bytes_total first.key), all_weaker (λ (f : KeyEntry). Rises first f) (λ (f : KeyEntry). is_before_end (Some first.key) f.key ≡ false) (λ f less. not_before first.key f.key less) rest later) in
    no_row a ps es low (Some first.key) (subst (λ (l : List KeyEntry). AllByRecursion (λ (e : KeyEntry). is_before_end (Some first.key) e.key ≡ false) l) (sym same) none)
