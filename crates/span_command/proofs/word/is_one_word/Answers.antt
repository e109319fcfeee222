use Rattle.std.proofs.Common.{◌≡◌, ℕ, ◌<◌, Bool, true, false, not, List, length, get_or, refl, ap, arith, lit<}
use Rattle.std.proofs.lemmas.Str.Pattern.{contains_char}
use Rattle.span_command.specs.Words.{IsWord}
use Rattle.span_command.proofs.word.is_one_word.Goals as goal

-- no space is found in a word
none_found : (r : Bool) (words : List ℕ) → IsWord words → (r ≡ true → (k : ℕ) × (k < length words) × (get_or words k 0 ≡ 32)) → not r ≡ true
none_found false words word found = refl
none_found true words word found = let at = found refl in absurd (word.1 at.0 at.1 at.2)

pub returns-then-not-is_empty : goal.returns-then-not-is_empty
returns-then-not-is_empty c =
    let some : 0 < length c.args.words.now = grind (c.is_empty.ensures, c.if-not-is_empty.true, arith) in
    let found = contains_char 32 c.args.words.now c.contains.result c.contains.ensures.cases (lit< tt) in (
      (λ t. ((λ e. absurd (omega (arith, some, ap length e))), (λ i l e. let has = found.1 i l e in grind (t, has, arith)))),
      (λ word. none_found c.contains.result c.args.words.now word found.0),
    )
