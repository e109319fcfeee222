-- What a session knows after a step.
use Rattle.std.proofs.Common.{◌≡◌, ◌==◌, ◌<◌, length, ℕ, zero, suc, Bool, true, false, cond, Option, Some, None, get_or, Result, Ok, Err, List, [], ◌∷◌, ◌++◌, refl, sym, ap, ◌∙◌, subst}
use Rattle.std.specs.Prelude.{find, IfOk, IfSome, OnErr, MatchOption, MatchResult, position, remove, slice_get}
use Rattle.std.proofs.lemmas.Option.{none-some, slice_get-get_or}
use Rattle.std.proofs.lemmas.List.Quantifiers.{position-Some}
use Rattle.span_value.specs.declared.refusal.Refusal.{Refusal}
use mathlib.Core.List.{IsPrefix}
use Rattle.std.proofs.lemmas.Bool.{eq-eqb, eqb-true}
use Rattle.span_machine.specs.declared.transaction.Commit.{Commit}
use Rattle.span_machine.proofs.Places.{none_by_position}
use Rattle.span_board.specs.declared.begun.Begun.{Begun}
use Rattle.span_board.specs.declared.board.Role.{Role}
use Rattle.span_board.specs.declared.board.Role.TheVariants.{Client}
use Rattle.span_board.specs.Known.{owned}
use Rattle.span_board.specs.Rule.{SessionHistory, Extends, IsBegunAt, HasNotBegun, Decides, seen_of, mine_of}
use Rattle.span_board.proofs.Owners.{owned_between}

pub extended : (o : ℕ) (seen mine log : List Commit) (d c : Commit) (v : List Role) (begun left : List Begun)
    → v ≡ Client o (log ++ d ∷ []) (mine ++ d ∷ []) ∷ [] → d ≡ c → IsPrefix seen log → owned o seen ≡ mine → owned o log ≡ mine
    → Extends record { owner = o; seen = seen; mine = mine; begun = begun } c record { owner = o; seen = seen_of v; mine = mine_of v; begun = left }
extended o seen mine log d c v begun left e is p s m = (
  refl,
  ap mine_of e ∙ ap (λ (x : Commit). mine ++ x ∷ []) is,
  (p.0, ap seen_of e ∙ (ap (λ (x : Commit). log ++ x ∷ []) is ∙ ap (λ l. l ++ c ∷ []) (sym p.1)), owned_between o seen p.0 (ap (owned o) p.1 ∙ (m ∙ sym s))),
)

-- the same of what the session has begun at a place, and keeps no more
pub extended_begun : (o : ℕ) (seen mine log : List Commit) (d : Commit) (ts : ℕ) (r : Begun) (v : List Role) (begun left : List Begun) (place : ℕ) (s : SessionHistory)
    → record { owner = o; seen = seen; mine = mine; begun = begun } ≡ s → v ≡ Client o (log ++ d ∷ []) (mine ++ d ∷ []) ∷ []
    → d ≡ record { timestamp = ts; number = r.number; owner = o; mutations = r.mutations } → IsPrefix seen log → owned o seen ≡ mine → owned o log ≡ mine
    → slice_get begun place ≡ Some r → left ≡ remove begun place
    → IfSome (slice_get s.begun place) (λ b. Extends s (record { timestamp = ts; number = b.number; owner = s.owner; mutations = b.mutations }) record { owner = o; seen = seen_of v; mine = mine_of v; begun = left }
    × (left ≡ remove s.begun place))
extended_begun o seen mine log d ts r v begun left place s is e made p own all there gone =
    let after : SessionHistory = record { owner = o; seen = seen_of v; mine = mine_of v; begun = left } in
    let IsExtended : SessionHistory → Begun → Type 0 = λ x b. Extends x (record { timestamp = ts; number = b.number; owner = x.owner; mutations = b.mutations }) after × (left ≡ remove x.begun place) in
    let before : SessionHistory = record { owner = o; seen = seen; mine = mine; begun = begun } in
    let is_extended : IsExtended before r = (extended o seen mine log d (record { timestamp = ts; number = r.number; owner = o; mutations = r.mutations }) v begun left e made p own all, gone) in
    subst (λ (x : SessionHistory). IfSome (slice_get x.begun place) (IsExtended x)) is (subst (λ (b : Option Begun). IfSome b (IsExtended before)) (sym there) is_extended)

-- where what the session had begun at a place was committed, what it had begun under the number was
pub decides_begun : (v w : SessionHistory) (number place : ℕ) (at : IsBegunAt v number place) (r : Result ℕ Refusal)
    → IfOk r (λ ts. IfSome (slice_get v.begun place) (λ b. Extends v (record { timestamp = ts; number = b.number; owner = v.owner; mutations = b.mutations }) w × (w.begun ≡ remove v.begun place)))
    → OnErr r (w ≡ v) → MatchResult r (λ ts. Decides v number ts w) (λ why. w ≡ v)
decides_begun v w number place at (Err why) ok err = err
decides_begun v w number place at (Ok ts) ok err =
    let is : Extends v (record { timestamp = ts; number = at.begun.number; owner = v.owner; mutations = at.begun.mutations }) w × (w.begun ≡ remove v.begun place) =
    subst (λ (o : Option Begun). IfSome o (λ b. Extends v (record { timestamp = ts; number = b.number; owner = v.owner; mutations = b.mutations }) w × (w.begun ≡ remove v.begun place))) at.there ok in
    record {
      place = place;
      at = at;
      extends = subst (λ (n : ℕ). Extends v (record { timestamp = ts; number = n; owner = v.owner; mutations = at.begun.mutations }) w) at.numbered is.0;
      left = is.1;
    }

-- where none is found, the test passes at no place
none_at : {A : Type 0} (test : A → Bool) (xs : List A) (i : ℕ) (x : A) → find test xs ≡ None → slice_get xs i ≡ Some x → test x ≡ true → ⊥
none_at test [] i x none here passes = absurd (cc here)
none_at test (y ∷ ys) zero x none here passes =
    let same : y ≡ x = cc in
    let first : test y ≡ true = ap test same ∙ passes in
    none-some y (sym (subst (λ (b : Bool). cond b (Some y) (find test ys) ≡ None) first none))
none_at test (y ∷ ys) (suc i) x none here passes = by (test y) none (λ e. none_at test ys i x e here passes)
  where
    by : (b : Bool) → cond b (Some y) (find test ys) ≡ None → (find test ys ≡ None → ⊥) → ⊥
    by true e later = none-some y (sym e)
    by false e later = later e

-- the place of the first of this number is one where the session has begun a transaction under it; where there is none, it has begun none
pub begun_there : (v : SessionHistory) (number : ℕ) (r : Option ℕ) → r ≡ position (λ (b : Begun). b.number == number) v.begun → MatchOption r (HasNotBegun v number) (IsBegunAt v number)
begun_there v number None e = λ place at.
    let test : Begun → Bool = λ b. b.number == number in
    none_at test v.begun place at.begun (none_by_position test v.begun (sym e)) at.there (eq-eqb at.begun.number number at.numbered)
begun_there v number (Some at) e =
    let none : Begun = record { number = 0; mutations = [] } in
    let says = position-Some (λ (b : Begun). b.number == number) v.begun at none (sym e) in
    record { begun = get_or v.begun at none; there = slice_get-get_or v.begun at none says.0; numbered = eqb-true (get_or v.begun at none).number number says.1 }

-- what was removed at a place is what was read there
pub begun_same : (xs ys : List Begun) (place : ℕ) (b r : Begun) → ys ≡ xs → ((d : Begun) → b ≡ get_or ys place d) → r ≡ get_or xs place r → b ≡ r
begun_same xs ys place b r e there read = there r ∙ ap (λ (l : List Begun). get_or l place r) e ∙ sym read

pub begun_taken : (xs ys : List Begun) (place : ℕ) (r : Begun) → ys ≡ xs → place < length ys → r ≡ get_or xs place r → slice_get xs place ≡ Some r
begun_taken xs ys place r e within read = slice_get-get_or xs place r (subst (λ (l : List Begun). place < length l) e within) ∙ ap (λ (x : Begun). Some x) (sym read)
