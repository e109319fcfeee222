-- The states of one more group, added one after another.
use Rattle.std.proofs.Common.{◌≡◌, ℕ, ◌+◌, ◌<◌, ◌≤◌, List, [], ◌∷◌, ◌++◌, length, take, drop, get_or, refl, sym, ap, ◌∙◌, subst, arith}
use Rattle.std.proofs.lemmas.List.{take_all, drop_all, take-append-le, drop-append-le, length_push, take-append-drop}
use Rattle.std.proofs.lemmas.Option.{slice_get_within}
use Rattle.span_query.specs.declared.query.Aggregate.{Aggregate}
use Rattle.span_query.specs.Rows.{Row}
use Rattle.span_groups.specs.declared.aggregate.AggregateState.{AggregateState}
use Rattle.span_groups.specs.States.{AreAdded, AreStatesOf, IsStateOf}
use Rattle.span_groups.proofs.Together.{new_more}

-- the states of the first aggregates have been added
pub record AreAddedTo (all : List Aggregate) (i : ℕ) (old now : List AggregateState) : Type 0 where
  pub few : length old ≤ length now
  pub before : take (length old) now ≡ old
  pub fresh : AreStatesOf (take i all) [] (drop (length old) now)

no_states : (rows : List Row) → AreStatesOf [] rows []
no_states rows = record { long = refl; each = λ k a s here there. absurd (omega (arith, slice_get_within {A = Aggregate} [] k a here)) }

pub added_none : (all : List Aggregate) (old : List AggregateState) → AreAddedTo all 0 old old
added_none all old = record {
  few = omega arith;
  before = take_all (length old) old (omega arith);
  fresh = subst (λ (l : List AggregateState). AreStatesOf [] [] l) (sym (drop_all (length old) old (omega arith))) (no_states []);
}

pub added_more : (all : List Aggregate) (i : ℕ) (old now : List AggregateState) (a : Aggregate) (s : AggregateState) → i < length all → a ≡ get_or all i a → IsStateOf a [] s
    → AreAddedTo all i old now → AreAddedTo all (i + 1) old (now ++ s ∷ [])
added_more all i old now a s within is state h = record {
  few = omega (arith, h.few, length_push now s);
  before = take-append-le (length old) now (s ∷ []) h.few ∙ h.before;
  fresh = subst (λ (l : List AggregateState). AreStatesOf (take (i + 1) all) [] l) (sym (drop-append-le (length old) now (s ∷ []) h.few))
      (new_more all (drop (length old) now) i a s within is h.fresh state);
}

pub added_all : (all : List Aggregate) (i : ℕ) (old now : List AggregateState) → length all ≤ i → AreAddedTo all i old now → AreAdded all old now
added_all all i old now past h = record {
  before = h.before;
  fresh = subst (λ (l : List Aggregate). AreStatesOf l [] (drop (length old) now)) (take_all i all past) h.fresh;
}

pub added_is : (all : List Aggregate) (old now : List AggregateState) → AreAdded all old now → old ++ drop (length old) now ≡ now
added_is all old now h = ap (λ (l : List AggregateState). l ++ drop (length old) now) (sym h.before) ∙ take-append-drop (length old) now
