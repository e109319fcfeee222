-- What an output that knows its bytes has, and what is still to be written.
use Rattle.std.proofs.Common.{◌≡◌, ◌∙◌, ℕ, List, [], ◌++◌, Option, Some, None, refl, sym, ap, subst, append_assoc, length, take, drop}
use Rattle.std.proofs.lemmas.List.{append-nil, nil_from_length, take-append-drop}
use Rattle.std.specs.Io.KnownBytes.{Appends, Keeps, append_known}

-- a front of what was to be written is written, and the rest is to be
pub wrote_front : (old now next : Option (List ℕ)) (bytes rest front back : List ℕ) → rest ≡ front ++ back → Keeps (append_known old bytes) (append_known now rest)
    → Appends now next front → Keeps (append_known old bytes) (append_known next back)
wrote_front None now next bytes rest front back is keeps appends = tt
wrote_front (Some xs) None next bytes rest front back is keeps appends = absurd keeps
wrote_front (Some xs) (Some ys) None bytes rest front back is keeps appends = absurd appends
wrote_front (Some xs) (Some ys) (Some zs) bytes rest front back is keeps appends =
    ap (λ (w : List ℕ). w ++ back) appends ∙ append_assoc ys front back ∙ ap (λ (w : List ℕ). ys ++ w) (sym is) ∙ keeps

-- all of it is written
pub wrote_all : (old now : Option (List ℕ)) (bytes : List ℕ) → Keeps (append_known old bytes) (append_known now []) → Appends old now bytes
wrote_all None now bytes keeps = tt
wrote_all (Some xs) None bytes keeps = absurd keeps
wrote_all (Some xs) (Some ys) bytes keeps = sym (append-nil ys) ∙ keeps

-- nothing was written so far
pub wrote_none : (old : Option (List ℕ)) (bytes : List ℕ) → Keeps (append_known old bytes) (append_known old bytes)
wrote_none None bytes = tt
wrote_none (Some xs) bytes = refl

-- all that was pending is written
pub wrote_pending : (old now next : Option (List ℕ)) (bytes pending : List ℕ) → Keeps (append_known old bytes) (append_known now pending)
    → Appends now next pending → Keeps (append_known old bytes) (append_known next [])
wrote_pending old now next bytes pending keeps appends = wrote_front old now next bytes pending pending [] (sym (append-nil pending)) keeps appends

-- one after another
pub keeps_on : (a b c : Option (List ℕ)) → Keeps a b → Keeps b c → Keeps a c
keeps_on None b c first second = tt
keeps_on (Some xs) None c first second = absurd first
keeps_on (Some xs) (Some ys) None first second = absurd second
keeps_on (Some xs) (Some ys) (Some zs) first second = second ∙ first

-- more is pending
pub more_pending : (old now : Option (List ℕ)) (bytes pending answer : List ℕ) → Keeps (append_known old bytes) (append_known now pending)
    → Keeps (append_known old (bytes ++ answer)) (append_known now (pending ++ answer))
more_pending None now bytes pending answer keeps = tt
more_pending (Some xs) None bytes pending answer keeps = keeps
more_pending (Some xs) (Some ys) bytes pending answer keeps =
    sym (append_assoc ys pending answer) ∙ ap (λ (w : List ℕ). w ++ answer) keeps ∙ append_assoc xs bytes answer

-- the given number of bytes of the rest is written
pub wrote_rest : (old now next : Option (List ℕ)) (bytes rest : List ℕ) (n : ℕ) → Keeps (append_known old bytes) (append_known now rest)
    → Appends now next (take n rest) → Keeps (append_known old bytes) (append_known next (drop n rest))
wrote_rest old now next bytes rest n keeps appends = wrote_front old now next bytes rest (take n rest) (drop n rest) (sym (take-append-drop n rest)) keeps appends

-- no rest is left
pub wrote_to_end : (old now : Option (List ℕ)) (bytes rest : List ℕ) → Keeps (append_known old bytes) (append_known now rest) → length rest ≡ 0 → Appends old now bytes
wrote_to_end old now bytes rest keeps ended =
    wrote_all old now bytes (subst (λ (w : List ℕ). Keeps (append_known old bytes) (append_known now w)) (nil_from_length rest ended) keeps)
