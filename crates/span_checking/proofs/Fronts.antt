use Rattle.std.proofs.Common.{◌≡◌, List, [], ◌∷◌, ◌++◌, Result, Ok, Err, refl, ap, sym, ◌∙◌, append_assoc}
use Rattle.span_value.specs.declared.refusal.Refusal.{Refusal}
use Rattle.span_schema.specs.declared.table.Table.{Table}
use Rattle.span_mutate.specs.declared.mutation.Mutation.{Mutation}
use Rattle.span_mutate.specs.declared.mutation.CheckedMutation.{CheckedMutation}
use Rattle.span_value.specs.Results.{and_then}
use Rattle.span_checking.specs.Checking.{checked, checked_all, with_front}

front_one : (front : List CheckedMutation) (c : CheckedMutation) (r : Result (List CheckedMutation) Refusal) → with_front (front ++ c ∷ []) r ≡ with_front front (and_then r (λ cs. Ok (c ∷ cs)))
front_one front c (Ok cs) = ap Ok (append_assoc front (c ∷ []) cs)
front_one front c (Err why) = refl

-- One more mutation was checked
pub front_more : (tables : List Table) (front : List CheckedMutation) (m : Mutation) (rest : List Mutation) (c : CheckedMutation) → checked tables m ≡ Ok c → with_front (front ++ c ∷ []) (checked_all tables rest) ≡ with_front front (checked_all tables (m ∷ rest))
front_more tables front m rest c e =
    front_one front c (checked_all tables rest) ∙ ap (λ (r : Result CheckedMutation Refusal). with_front front (and_then r (λ c. and_then (checked_all tables rest) (λ cs. Ok (c ∷ cs))))) (sym e)

-- one was refused
pub front_refused : (tables : List Table) (front : List CheckedMutation) (m : Mutation) (rest : List Mutation) (why : Refusal) → checked tables m ≡ Err why → with_front front (checked_all tables (m ∷ rest)) ≡ Err why
front_refused tables front m rest why e = ap (λ (r : Result CheckedMutation Refusal). with_front front (and_then r (λ c. and_then (checked_all tables rest) (λ cs. Ok (c ∷ cs))))) e
