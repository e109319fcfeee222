-- Lists gathered by a loop: what was gathered so far, and what the rest gives.
use Rattle.std.proofs.Common.{◌≡◌, ℕ, ◌+◌, ◌<◌, suc, length, get_or, take, drop, List, [], ◌∷◌, ◌++◌, Some, None, Err, refl, ap, sym, ◌∙◌, append_assoc, replicate, arith}
use Rattle.std.proofs.Math.Seq.{take-suc}
use Rattle.std.proofs.lemmas.List.{replicate-append-replicate}
use Rattle.span_value.proofs.Lists.{drop_read}
use Rattle.span_expr.specs.declared.cell.Failure.{Failure}
use Rattle.span_expr.specs.declared.cell.Failure.TheVariants.{Fault, OutOfMemory}
use Rattle.span_query.specs.Rows.{OrFault, ◌>>=◌, append_results, concat_map}
use Rattle.span_query.proofs.Results.{append_results-assoc, nil-append_results}
use Rattle.span_conditions.specs.Answers.{Gives, Adds}

pub replicate-more : {A : Type 0} (front : List A) (x : A) (n : ℕ) → (front ++ replicate n x) ++ x ∷ [] ≡ front ++ replicate (n + 1) x
replicate-more front x n = append_assoc front (replicate n x) (x ∷ []) ∙ ap (λ (l : List _). front ++ l) (replicate-append-replicate n 1 x)

-- the items up to a place, and the one there
pub taken_more : {A : Type 0} (xs : List A) (k : ℕ) (x : A) → k < length xs → x ≡ get_or xs k x → take k xs ++ x ∷ [] ≡ take (k + 1) xs
taken_more xs k x below is =
    ap (λ (y : _). take k xs ++ y ∷ []) is ∙ sym (take-suc xs k x below) ∙ ap (λ (n : ℕ). take n xs) {x = suc k} {y = k + 1} (omega arith)

pub gathered_at : {A B : Type 0} (f : A → OrFault (List B)) (xs : List A) (k : ℕ) (x : A) → k < length xs → x ≡ get_or xs k x → concat_map f (drop k xs) ≡ append_results (f x) (concat_map f (drop (k + 1) xs))
gathered_at f xs k x below is = ap (concat_map f) (drop_read xs k x below is)

pub ruleset row_steps = (replicate-more)

-- ---- one step of a loop: the whole is what was gathered and the rest, and the rest is what one item gives and what is left

pub one_more : {A : Type 0} (whole rest one later : OrFault (List A)) (out got : List A) → whole ≡ append_results (Some out) rest → rest ≡ append_results one later → one ≡ Some got → whole ≡ append_results (Some (out ++ got)) later
one_more whole rest one later out got so_far first gives =
    so_far ∙ ap (append_results (Some out)) (first ∙ ap (λ (o : OrFault (List _)). append_results o later) gives) ∙ sym (append_results-assoc (Some out) (Some got) later)

pub one_less : {A : Type 0} (whole rest one later : OrFault (List A)) (out : List A) → whole ≡ append_results (Some out) rest → rest ≡ append_results one later → one ≡ Some [] → whole ≡ append_results (Some out) later
one_less whole rest one later out so_far first gives =
    so_far ∙ ap (append_results (Some out)) (first ∙ ap (λ (o : OrFault (List _)). append_results o later) gives ∙ nil-append_results later)

pub one_adds : {A : Type 0} (whole rest one later : OrFault (List A)) (old new : List A) → whole ≡ append_results (Some old) rest → rest ≡ append_results one later → append_results (Some old) one ≡ Some new → whole ≡ append_results (Some new) later
one_adds whole rest one later old new so_far first adds =
    so_far ∙ ap (append_results (Some old)) first ∙ sym (append_results-assoc (Some old) one later) ∙ ap (λ (o : OrFault (List _)). append_results o later) adds

pub one_fails : {A : Type 0} (why : Failure) (whole rest one later : OrFault (List A)) (out : List A) → whole ≡ append_results (Some out) rest → rest ≡ append_results one later → Gives (Err why) one → Gives (Err why) whole
one_fails Fault whole rest one later out so_far first gives =
    so_far ∙ ap (append_results (Some out)) (first ∙ ap (λ (o : OrFault (List _)). append_results o later) gives)
one_fails OutOfMemory whole rest one later out so_far first gives = tt {0}

-- what fails stays so
pub then_fails : {A B : Type 0} (why : Failure) (o : OrFault A) (next : A → OrFault B) → Gives (Err why) o → Gives (Err why) (o >>= next)
then_fails Fault o next gives = ap (λ (p : OrFault _). p >>= next) gives
then_fails OutOfMemory o next gives = tt {0}

pub adding-fails : {A : Type 0} (why : Failure) (o : OrFault (List A)) (old new : List A) → Adds (Err why) o old new → Gives (Err why) o
adding-fails Fault o old new fails = fails
adding-fails OutOfMemory o old new fails = tt {0}

-- ---- the same for a loop over places, each of which adds what its item gives

pub added_more : {A B : Type 0} (f : A → OrFault (List B)) (xs : List A) (k : ℕ) (x : A) → k < length xs → x ≡ get_or xs k x → (first old new : List B)
    → append_results (Some first) (concat_map f xs) ≡ append_results (Some old) (concat_map f (drop k xs)) → append_results (Some old) (f x) ≡ Some new
    → append_results (Some first) (concat_map f xs) ≡ append_results (Some new) (concat_map f (drop (k + 1) xs))
added_more f xs k x below is first old new so_far adds = one_adds _ _ (f x) _ old new so_far (gathered_at f xs k x below is) adds

none_after : {A : Type 0} (front : List A) (o : OrFault (List A)) → append_results (Some front) o ≡ None → o ≡ None
none_after front None fails = refl
none_after front (Some xs) fails = absurd cc

pub more_fails_at : {A B : Type 0} (why : Failure) (f : A → OrFault (List B)) (xs : List A) (k : ℕ) (x : A) → k < length xs → x ≡ get_or xs k x → (first old new : List B)
    → append_results (Some first) (concat_map f xs) ≡ append_results (Some old) (concat_map f (drop k xs)) → Adds (Err why) (f x) old new → Adds (Err why) (concat_map f xs) first new
more_fails_at Fault f xs k x below is first old new so_far fails =
    none_after first (concat_map f xs)
    (so_far ∙ ap (append_results (Some old)) (gathered_at f xs k x below is ∙ ap (λ (o : OrFault (List _)). append_results o (concat_map f (drop (k + 1) xs))) fails))
more_fails_at OutOfMemory f xs k x below is first old new so_far fails = tt {0}

pub added_at : {A B : Type 0} (f : A → OrFault (List B)) (xs : List A) (k : ℕ) (x : A) → k < length xs → x ≡ get_or xs k x → (old new : List B)
    → concat_map f xs ≡ append_results (Some old) (concat_map f (drop k xs)) → append_results (Some old) (f x) ≡ Some new
    → concat_map f xs ≡ append_results (Some new) (concat_map f (drop (k + 1) xs))
added_at f xs k x below is old new so_far adds = one_adds _ _ (f x) _ old new so_far (gathered_at f xs k x below is) adds

pub adding_fails_at : {A B : Type 0} (why : Failure) (f : A → OrFault (List B)) (xs : List A) (k : ℕ) (x : A) → k < length xs → x ≡ get_or xs k x → (old new : List B)
    → concat_map f xs ≡ append_results (Some old) (concat_map f (drop k xs)) → Adds (Err why) (f x) old new → Gives (Err why) (concat_map f xs)
adding_fails_at why f xs k x below is old new so_far fails =
    one_fails why _ _ (f x) _ old so_far (gathered_at f xs k x below is) (adding-fails why (f x) old new fails)
