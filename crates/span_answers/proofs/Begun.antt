-- Answers that begin with others.
use Rattle.std.proofs.Common.{◌≡◌, ◌∙◌, ℕ, List, [], ◌++◌, sym, ap, append_assoc, if◌then◌else◌, Bool, true, false, length, take}
use Rattle.std.proofs.Math.Seq.{take-append_seam}
use Rattle.std.proofs.lemmas.List.{append-nil}
use Rattle.span_answers.specs.Lines.{Begins}

pub begins_itself : (front : List ℕ) → Begins front front
begins_itself front = ([], sym (append-nil front))

pub begins_on : (front more all : List ℕ) → Begins front more → Begins more all → Begins front all
begins_on front more all first second =
    (first.0 ++ second.0, second.1 ∙ (ap (λ (w : List ℕ). w ++ second.0) first.1 ∙ append_assoc front first.0 second.0))

-- where something was added, or nothing
pub begins_either : (front more all : List ℕ) (b : Bool) → all ≡ (if b then front ++ more else front) → Begins front all
begins_either front more all true is = (more, is)
begins_either front more all false is = ([], is ∙ sym (append-nil front))

-- taking back what was added leaves them
pub front_taken : (front all : List ℕ) → Begins front all → take (length front) all ≡ front
front_taken front all begins = ap (λ (w : List ℕ). take (length front) w) begins.1 ∙ take-append_seam front begins.0
