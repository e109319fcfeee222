-- Along a list, what was found so far and what is found with one more item.
use Rattle.std.proofs.Common.{◌≡◌, ℕ, suc, ◌+◌, ◌<◌, List, ◌∷◌, length, map, drop, get_or, Result, Ok, Err, sym, ap, ◌∙◌, arith}
use Rattle.std.proofs.Math.Seq.{drop-cons}
use Rattle.span_blocks.specs.Onward.{fold_results}
use Rattle.span_value.specs.declared.refusal.Refusal.{Refusal}
use Rattle.span_value.specs.Results.{and_then}
use Rattle.span_operators.specs.Steps.{Gives}

-- one more item of a list
pub onward_at : {A X Y : Type 0} (f : X → Y) (step : A → Y → Result A Refusal) (xs : List X) (k : ℕ) (x : X) (found : A) → k < length xs → x ≡ get_or xs k x
    → fold_results step (map f (drop k xs)) found ≡ and_then (step found (f x)) (fold_results step (map f (drop (k + 1) xs)))
onward_at f step xs k x found below is =
    ap (λ (l : List _). fold_results step (map f l) found) (drop-cons xs k x below ∙ ap (λ (y : _). y ∷ drop (suc k) xs) (sym is) ∙ ap (λ (n : ℕ). x ∷ drop n xs) {x = suc k} {y = k + 1} (omega arith))

module _ {A X Y : Type 0} (f : X → Y) (step : A → Y → Result A Refusal) (xs : List X) (k : ℕ) (x : X) (found : A) (whole : Result A Refusal)
    (so_far : whole ≡ fold_results step (map f (drop k xs)) found) (below : k < length xs) (is : x ≡ get_or xs k x) where
  pub goes_on : (next : A) → Gives (Ok next) (step found (f x)) → whole ≡ fold_results step (map f (drop (k + 1) xs)) next
  goes_on next g = so_far ∙ onward_at f step xs k x found below is ∙ ap (λ (o : Result A Refusal). and_then o (fold_results step (map f (drop (k + 1) xs)))) g

  pub stops : (why : Refusal) → Gives {A = A} (Err why) (step found (f x)) → Gives {A = A} (Err why) whole
  stops why g = λ n. so_far ∙ onward_at f step xs k x found below is ∙ ap (λ (o : Result A Refusal). and_then o (fold_results step (map f (drop (k + 1) xs)))) (g n)
