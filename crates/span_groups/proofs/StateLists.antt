-- Groups whose states are in one list: one of them changed, or one more.
use Rattle.std.proofs.Common.{◌≡◌, ℕ, zero, suc, ◌+◌, ◌-◌, ◌*◌, ◌<◌, ◌≤◌, List, [], ◌∷◌, ◌++◌, length, set, get_or, take, drop, slice_get, Some, refl, sym, ap, ◌∙◌, subst, arith}
use Rattle.std.proofs.lemmas.List.{length-set, length-drop, length-append, length_push, length-take-le, take-take, drop-take, drop-drop, take_all, take-append-le, drop-append-le, take-set-le, drop-set-lt, drop-set-add, get_or-take, get_or-drop}
use Rattle.std.proofs.lemmas.Option.{slice_get_read}
use Rattle.std.proofs.Math.Seq.{take-set-lt}
use Rattle.span_query.specs.Rows.{Row}
use Rattle.span_groups.specs.declared.aggregate.AggregateState.{AggregateState}
use Rattle.span_groups.specs.GroupStates.{keys_of}
use Rattle.span_groups.specs.StateLists.{Group, states_from, groups_in, IsChangedAt}

pub keys_in : (width : ℕ) (keys : List Row) (states : List AggregateState) → keys_of (groups_in width keys states) ≡ keys
keys_in width [] states = refl
keys_in width (key ∷ keys) states = ap (λ (ks : List Row). key ∷ ks) (keys_in width keys (drop width states))

pub count_in : (width : ℕ) (keys : List Row) (states : List AggregateState) → length (groups_in width keys states) ≡ length keys
count_in width [] states = refl
count_in width (key ∷ keys) states = ap suc (count_in width keys (drop width states))

-- the place of the first state of a group
abbrev pub first_in : ℕ → ℕ → ℕ
first_in width zero = zero
first_in width (suc at) = width + first_in width at

from_next : (start width : ℕ) (states : List AggregateState) → states_from start width (drop width states) ≡ states_from (width + start) width states
from_next start width states = ap (take width) (drop-drop start width states)

pub group_in : (width : ℕ) (keys : List Row) (states : List AggregateState) (at : ℕ) (d : Group) (key : Row) → at < length keys
    → get_or (groups_in width keys states) at d ≡ record { key = get_or keys at key; states = states_from (first_in width at) width states }
group_in width [] states at d key within = absurd (omega arith)
group_in width (k ∷ keys) states zero d key within = refl
group_in width (k ∷ keys) states (suc at) d key within =
    group_in width keys (drop width states) at d key (omega arith)
    ∙ ap (λ (ss : List AggregateState). record { key = get_or keys at key; states = ss }) (from_next (first_in width at) width states)

pub first_is : (width at : ℕ) → first_in width at ≡ at * width
first_is width zero = omega arith
first_is width (suc at) = ap (λ n. width + n) (first_is width at) ∙ (omega arith)

pub fits_in : (at width count : ℕ) → at < count → first_in width at + width ≤ first_in width count
fits_in at width zero within = absurd (omega arith)
fits_in zero width (suc count) within = omega arith
fits_in (suc at) width (suc count) within = omega (arith, fits_in at width count (omega arith))

-- ---- one of them changed

changed_front : (width : ℕ) (m : ℕ) (old new : List AggregateState) → take (width + m) new ≡ take (width + m) old → take width new ≡ take width old
changed_front width m old new same =
    sym (take-take width (width + m) new (omega arith)) ∙ ap (take width) same ∙ take-take width (width + m) old (omega arith)

changed_rest : (width : ℕ) (m : ℕ) (old new : List AggregateState) → take (width + m) new ≡ take (width + m) old → take m (drop width new) ≡ take m (drop width old)
changed_rest width m old new same = sym (drop-take width m new) ∙ ap (drop width) same ∙ drop-take width m old

changed_after : (width m : ℕ) (old new : List AggregateState) → drop (width + m + width) new ≡ drop (width + m + width) old → drop (m + width) (drop width new) ≡ drop (m + width) (drop width old)
changed_after width m old new same =
    let is : width + m + width ≡ width + (m + width) = omega arith in
    drop-drop (m + width) width new
    ∙ ap (λ n. drop n new) (sym is) ∙ same ∙ ap (λ n. drop n old) is
    ∙ sym (drop-drop (m + width) width old)

pub one_changed : (width : ℕ) (keys : List Row) (old new : List AggregateState) (at : ℕ) (key : Row) → at < length keys → IsChangedAt (first_in width at) width old new
    → groups_in width keys new ≡ set (groups_in width keys old) at (record { key = get_or keys at key; states = states_from (first_in width at) width new })
one_changed width [] old new at key within changed = absurd (omega arith)
one_changed width (k ∷ keys) old new zero key within changed =
    let is : 0 + width ≡ width = omega arith in
    let same : drop width new ≡ drop width old = sym (ap (λ n. drop n new) is) ∙ changed.after ∙ ap (λ n. drop n old) is in
    ap (λ (ss : List AggregateState). record { key = k; states = take width new } ∷ groups_in width keys ss) same
one_changed width (k ∷ keys) old new (suc at) key within changed =
    let rest : IsChangedAt (first_in width at) width (drop width old) (drop width new) = record {
      long = length-drop width new ∙ ap (λ n. n - width) changed.long ∙ sym (length-drop width old);
      before = changed_rest width (first_in width at) old new changed.before;
      after = changed_after width (first_in width at) old new changed.after;
    } in
    ap (λ (ss : List AggregateState). record { key = k; states = ss } ∷ groups_in width keys (drop width new)) (changed_front width (first_in width at) old new changed.before)
    ∙ ap (λ (xs : List Group). record { key = k; states = take width old } ∷ xs)
    (one_changed width keys (drop width old) (drop width new) at key (omega arith) rest
    ∙ ap (λ (ss : List AggregateState). set (groups_in width keys (drop width old)) at (record { key = get_or keys at key; states = ss })) (from_next (first_in width at) width new))

-- ---- one more

pub one_added : (width : ℕ) (keys : List Row) (states fresh : List AggregateState) (key : Row) → length states ≡ first_in width (length keys) → length fresh ≡ width
    → groups_in width (keys ++ key ∷ []) (states ++ fresh) ≡ groups_in width keys states ++ record { key = key; states = fresh } ∷ []
one_added width [] [] fresh key long wide = ap (λ (ss : List AggregateState). record { key = key; states = ss } ∷ []) (take_all width fresh (omega (arith, wide)))
one_added width [] (s ∷ states) fresh key long wide = absurd (omega (arith, long))
one_added width (k ∷ keys) states fresh key long wide =
    let enough : width ≤ length states = omega (arith, long) in
    ap (λ (ss : List AggregateState). record { key = k; states = ss } ∷ groups_in width (keys ++ key ∷ []) (drop width (states ++ fresh))) (take-append-le width states fresh enough)
    ∙ ap (λ (ss : List AggregateState). record { key = k; states = take width states } ∷ groups_in width (keys ++ key ∷ []) ss) (drop-append-le width states fresh enough)
    ∙ ap (λ (xs : List Group). record { key = k; states = take width states } ∷ xs)
    (one_added width keys (drop width states) fresh key (omega (arith, long, length-drop width states)) wide)

-- ---- a state changed

pub changed_none : (start width : ℕ) (states : List AggregateState) → IsChangedAt start width states states
changed_none start width states = record { long = refl; before = refl; after = refl }

pub changed_one : (start width : ℕ) (old now : List AggregateState) (k : ℕ) (s : AggregateState) → k < width → IsChangedAt start width old now → IsChangedAt start width old (set now (start + k) s)
changed_one start width old now k s within changed = record {
  long = length-set now (start + k) s ∙ changed.long;
  before = take-set-le start now (start + k) s (omega arith) ∙ changed.before;
  after = drop-set-lt (start + width) now (start + k) s (omega arith) ∙ changed.after;
}

pub set_from : (start width : ℕ) (now : List AggregateState) (k : ℕ) (s : AggregateState) → k < width → states_from start width (set now (start + k) s) ≡ set (states_from start width now) k s
set_from start width now k s within = ap (take width) (drop-set-add start now k s) ∙ take-set-lt width (drop start now) k s within

pub read_from : (start width : ℕ) (now : List AggregateState) (k : ℕ) (d : AggregateState) → k < width → get_or (states_from start width now) k d ≡ get_or now (start + k) d
read_from start width now k d within = get_or-take width (drop start now) k d within ∙ get_or-drop start now k d

pub long_from : (start width : ℕ) (now : List AggregateState) → start + width ≤ length now → length (states_from start width now) ≡ width
long_from start width now fits = length-take-le width (drop start now) (omega (arith, fits, length-drop start now))

pub read_at : (start width : ℕ) (now : List AggregateState) (k : ℕ) (s : AggregateState) → k < width → start + width ≤ length now → s ≡ get_or now (start + k) s → slice_get (states_from start width now) k ≡ Some s
read_at start width now k s within fits is =
    slice_get_read (states_from start width now) width k s (sym (long_from start width now fits)) within (is ∙ sym (read_from start width now k s within))

-- ---- by the number of the group

pub fits_at : (at width count : ℕ) → at < count → at * width + width ≤ count * width
fits_at at width count within = omega (arith, fits_in at width count within, first_is width at, first_is width count)

pub group_found : (width : ℕ) (keys : List Row) (states : List AggregateState) (at : ℕ) (d : Group) (key : Row) → at < length keys
    → get_or (groups_in width keys states) at d ≡ record { key = get_or keys at key; states = states_from (at * width) width states }
group_found width keys states at d key within =
    group_in width keys states at d key within
    ∙ ap (λ n. record { key = get_or keys at key; states = states_from n width states }) (first_is width at)

pub changed_at : (width : ℕ) (keys : List Row) (old new : List AggregateState) (at : ℕ) (key : Row) → at < length keys → IsChangedAt (at * width) width old new
    → groups_in width keys new ≡ set (groups_in width keys old) at (record { key = get_or keys at key; states = states_from (at * width) width new })
changed_at width keys old new at key within changed =
    one_changed width keys old new at key within (subst (λ n. IsChangedAt n width old new) (sym (first_is width at)) changed)
    ∙ ap (λ n. set (groups_in width keys old) at (record { key = get_or keys at key; states = states_from n width new })) (first_is width at)

pub added_last : (width : ℕ) (keys : List Row) (states fresh : List AggregateState) (key : Row) → length states ≡ length keys * width → length fresh ≡ width
    → groups_in width (keys ++ key ∷ []) (states ++ fresh) ≡ groups_in width keys states ++ record { key = key; states = fresh } ∷ []
added_last width keys states fresh key long wide = one_added width keys states fresh key (long ∙ sym (first_is width (length keys))) wide

pub added_long : (width : ℕ) (keys : List Row) (states fresh : List AggregateState) (key : Row) → length states ≡ length keys * width → length fresh ≡ width
    → length (states ++ fresh) ≡ length (keys ++ key ∷ []) * width
added_long width keys states fresh key long wide =
    let next : length (keys ++ key ∷ []) ≡ suc (length keys) = omega (arith, length_push keys key) in
    let more : suc (length keys) * width ≡ width + length keys * width = omega arith in
    omega (arith, length-append states fresh, long, wide, ap (λ n. n * width) next, more)
