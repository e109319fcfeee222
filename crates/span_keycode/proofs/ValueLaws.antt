-- Values fit the columns whose kinds they have.
use Rattle.std.proofs.Common.{◌≡◌, ◌+◌, ◌<◌, ◌≤◌, ℕ, List, [], ◌∷◌, true, length, drop, get_or, subst, sym}
use Rattle.std.proofs.lemmas.Bool.{and_parts, false≢true}
use Rattle.std.proofs.lemmas.List.{drop_more, at_drop_all}
use Rattle.span_value.specs.declared.value.Kind.TheVariants as kind
use Rattle.span_value.specs.declared.value.Value.{Value}
use Rattle.span_keycode.specs.Coding.{Fits, is_of_kind, are_of_kinds, IsValue, AreValues}

pub value_from : (v : Value) → (is_of_kind kind.Int v ≡ true → Fits kind.Int v) → (is_of_kind kind.Str v ≡ true → Fits kind.Str v)
    → (is_of_kind kind.Bytes v ≡ true → Fits kind.Bytes v) → (is_of_kind kind.Bool v ≡ true → Fits kind.Bool v) → IsValue v
value_from v int str bytes bool kind.Int e = int e
value_from v int str bytes bool kind.Str e = str e
value_from v int str bytes bool kind.Bytes e = bytes e
value_from v int str bytes bool kind.Bool e = bool e

none : AreValues []
none [] e = tt
none (c ∷ cs) e = absurd (false≢true e)

one_more : (v : Value) (vs : List Value) → IsValue v → AreValues vs → AreValues (v ∷ vs)
one_more v vs f g [] e = absurd (false≢true e)
one_more v vs f g (c ∷ cs) e = let both = and_parts (is_of_kind c.kind v) (are_of_kinds cs vs) e in (f c.kind both.0, g cs both.1)

pub values_next : (vs : List Value) (i : ℕ) (d : Value) → i < length vs → IsValue (get_or vs i d) → AreValues (drop (i + 1) vs) → AreValues (drop i vs)
values_next vs i d lt f g = let P : List Value → Type 0 = λ ws. AreValues ws in subst P (sym (drop_more vs i d lt)) (one_more (get_or vs i d) (drop (i + 1) vs) f g)

pub values_end : (vs : List Value) (i : ℕ) → length vs ≤ i → AreValues (drop i vs)
values_end vs i h = let P : List Value → Type 0 = λ ws. AreValues ws in subst P (sym (at_drop_all (λ (ws : List Value). ws) vs i h)) none
