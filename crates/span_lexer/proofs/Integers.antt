-- The number that digits write, digit by digit.
use Rattle.std.proofs.Common.{◌≡◌, ℕ, ◌+◌, ◌<◌, ◌≤◌, List, [], ◌∷◌, length, drop, get_or, Option, Some, None, refl, sym, ap, ◌∙◌, arith}
use Rattle.std.proofs.lemmas.Grind.{common_steps}
use Rattle.std.proofs.lemmas.List.{drop_more}
use Rattle.span_lexer.specs.Lexing.{integer, next_integer}

abbrev then : List ℕ → Option ℕ → Option ℕ
then cs o = elim o [ None ↦ None | Some v ↦ integer v cs ]

cons_is : (n c : ℕ) (cs : List ℕ) → integer n (c ∷ cs) ≡ then cs (next_integer n c)
unfolding integer
cons_is n c cs = refl

nil_is : (n : ℕ) → integer n [] ≡ Some n
unfolding integer
nil_is n = refl

pub integer_steps : (ds : List ℕ) (at n v : ℕ) → integer n (drop at ds) ≡ integer 0 ds → at < length ds → next_integer n (get_or ds at 0) ≡ Some v → integer v (drop (at + 1) ds) ≡ integer 0 ds
integer_steps ds at n v h l e = sym (ap (integer n) (drop_more ds at 0 l) ∙ cons_is n (get_or ds at 0) (drop (at + 1) ds) ∙ ap (then (drop (at + 1) ds)) e) ∙ h

pub integer_fails : (ds : List ℕ) (at n : ℕ) → integer n (drop at ds) ≡ integer 0 ds → at < length ds → next_integer n (get_or ds at 0) ≡ None → integer 0 ds ≡ None
integer_fails ds at n h l e = sym h ∙ ap (integer n) (drop_more ds at 0 l) ∙ cons_is n (get_or ds at 0) (drop (at + 1) ds) ∙ ap (then (drop (at + 1) ds)) e

pub integer_over : (ds : List ℕ) (at n : ℕ) → integer n (drop at ds) ≡ integer 0 ds → length ds ≤ at → integer 0 ds ≡ Some n
integer_over ds at n h l = sym h ∙ ap (integer n) (let e : drop at ds ≡ [] = grind (arith, common_steps) in e) ∙ nil_is n

pub ruleset integer_rules = (integer_steps, integer_fails, integer_over)
