-- What a scan and a piece find in a journal, by what the calls below returned.
use Rattle.std.proofs.Common.{◌≡◌, ℕ, ◌<◌, ◌==◌, Bool, true, not, ◌&&◌, ◌||◌, nat_le, nat_lt, List, length, Option, Some, sym, ap, ◌∙◌, subst}
use Rattle.std.specs.Prelude.{slice_get, slice_set, IfSome}
use Rattle.std.specs.List.{list_all}
use Rattle.std.proofs.lemmas.Bool.{and_parts}
use Rattle.std.proofs.lemmas.Option.{slice_get_within}
use Rattle.span_keycode.specs.declared.range.KeyRange.{KeyRange}
use Rattle.span_fragment.specs.declared.piece.Piece.{Piece}
use Rattle.span_truetime.specs.declared.interval.Interval.{Interval}
use Rattle.span_value.specs.declared.refusal.Refusal.{Refusal}
use Rattle.span_machine.specs.declared.slot.SlotState.{SlotState}
use Rattle.span_machine.specs.declared.query.ScanLeaf.{ScanLeaf}
use Rattle.span_machine.specs.declared.transaction.OpenTransaction.{OpenTransaction}
use Rattle.span_machine.specs.Machine.{is_safe, with_risen_floor}
use Rattle.span_machine.specs.Pieces.{Pieced, Journaled, machine_of, covered_by}
use Rattle.span_openqueries.specs.Counts.{is_uncovered}
use Rattle.span_openqueries.specs.Targets.{IsTarget, target_refusal, is_inside, is_free}

-- ---- equal lists

pub refusal_among : (ps ps' : List Pieced) (bs bs' : List SlotState) (query leaf slot : ℕ) (why : Refusal) → ps ≡ ps' → bs ≡ bs'
    → target_refusal ps bs query leaf slot ≡ Some why → target_refusal ps' bs' query leaf slot ≡ Some why
refusal_among ps ps' bs bs' query leaf slot why e f is =
    subst (λ (l : List SlotState). target_refusal ps' l query leaf slot ≡ Some why) f (subst (λ (l : List Pieced). target_refusal l bs query leaf slot ≡ Some why) e is)

pub target_among : (ps ps' : List Pieced) (bs bs' : List SlotState) (query leaf slot at : ℕ) (p : Pieced) (l : ScanLeaf) (b : SlotState) → ps ≡ ps' → bs ≡ bs'
    → IsTarget ps bs query leaf slot at p l b → IsTarget ps' bs' query leaf slot at p l b
target_among ps ps' bs bs' query leaf slot at p l b e f t =
    subst (λ (k : List SlotState). IsTarget ps' k query leaf slot at p l b) f (subst (λ (k : List Pieced). IsTarget k bs query leaf slot at p l b) e t)

-- ---- safe time

-- whether s is at most this floor, and below every prepare timestamp in the slot
abbrev pub is_below_all : ℕ → ℕ → List OpenTransaction → ℕ → Bool
is_below_all slot floor ts s = nat_le s floor && list_all (λ (t : OpenTransaction). list_all (λ p. not (p.slot == slot) || nat_lt s p.timestamp) t.prepared) ts

-- once the floor has risen
pub safe_is : (j : Journaled) (slot floor n s : ℕ) (ts : List OpenTransaction) (b : SlotState) (interval : Interval) (r : Bool)
    → r ≡ is_below_all slot floor ts n → n ≡ s → ts ≡ j.transactions → record b { floor = floor } ≡ with_risen_floor b n interval
    → r ≡ is_safe (machine_of j) slot (with_risen_floor b s interval) s
safe_is j slot floor n s ts b interval r is same all risen =
    is ∙ ap (is_below_all slot floor ts) same ∙ ap (λ (l : List OpenTransaction). is_below_all slot floor l s) all
    ∙ ap (λ (k : SlotState). is_safe (machine_of j) slot k s) (risen ∙ ap (λ k. with_risen_floor b k interval) same)

-- the slots once the floor has risen
pub risen_slots : (bs bs' : List SlotState) (slot floor n s : ℕ) (b : SlotState) (interval : Interval) → slice_get bs slot ≡ Some b
    → IfSome (slice_get bs slot) (λ k. bs' ≡ slice_set bs slot (record k { floor = floor })) → n ≡ s → record b { floor = floor } ≡ with_risen_floor b n interval
    → bs' ≡ slice_set bs slot (with_risen_floor b s interval)
risen_slots bs bs' slot floor n s b interval here set same risen =
    subst (λ (o : Option SlotState). IfSome o (λ k. bs' ≡ slice_set bs slot (record k { floor = floor }))) here set
    ∙ ap (slice_set bs slot) (risen ∙ ap (λ k. with_risen_floor b k interval) same)

-- ---- covering

module _ (ps : List Pieced) (bs : List SlotState) (query leaf slot at : ℕ) (p : Pieced) (l : ScanLeaf) (b : SlotState) (t : IsTarget ps bs query leaf slot at p l b) where
  -- the query has the leaf
  pub has_leaf : IfSome (slice_get ps at) (λ q. leaf < length q.query.leaves)
  has_leaf = subst (λ (o : Option Pieced). IfSome o (λ q. leaf < length q.query.leaves)) (sym t.place.here) (slice_get_within p.query.leaves leaf l t.there)

  -- no piece covers any of a free range
  pub has_uncovered : (range : KeyRange) → is_free b l range ≡ true → IfSome (slice_get ps at) (λ q. IfSome (slice_get q.query.leaves leaf) (λ k. is_uncovered k range ≡ true))
  has_uncovered range free =
      subst (λ (o : Option Pieced). IfSome o (λ q. IfSome (slice_get q.query.leaves leaf) (λ k. is_uncovered k range ≡ true))) (sym t.place.here)
      (subst (λ (o : Option ScanLeaf). IfSome o (λ k. is_uncovered k range ≡ true)) (sym t.there) (and_parts (is_inside b l range) (is_uncovered l range) free).1)

  pub within_slots : slot < length bs
  within_slots = slice_get_within bs slot b t.here

  -- the queries once the piece is kept
  pub covered_queries : (range : KeyRange) (piece : Piece) (ps' : List Pieced) → IfSome (slice_get ps at) (λ q. ps' ≡ slice_set ps at (covered_by leaf range piece q)) → ps' ≡ slice_set ps at (covered_by leaf range piece p)
  covered_queries range piece ps' is = subst (λ (o : Option Pieced). IfSome o (λ q. ps' ≡ slice_set ps at (covered_by leaf range piece q))) t.place.here is
