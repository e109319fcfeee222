-- How a table begins.
use Rattle.std.proofs.Common.{◌≡◌, ℕ, zero, suc, ◌+◌, ◌-◌, ◌*◌, ◌<◌, ◌≤◌, List, [], ◌∷◌, ◌++◌, get_or, replicate, append_assoc, refl, sym, ap, ◌∙◌, subst, arith}
use Rattle.std.proofs.lemmas.List.{length-replicate}
use mathlib.Core.Option.{some, some-injective, some-ne-none}
use lib.ListN.{get_elem?}
use Rattle.span_shard.specs.KeyVersions.{KeyVersions}
use Rattle.span_board.specs.declared.begun.Begun.{Begun}
use Rattle.span_board.specs.declared.board.Role.{Role}
use Rattle.span_board.specs.declared.board.Role.TheVariants.{Holder, Client}
use Rattle.span_board.specs.Known.{Known}
use Rattle.span_board.specs.Rule.{SessionHistory, FitAll, Kept, holders, clients, nothing_known, opening_roles, newcomer, newcomers, seen_of, mine_of}
use Rattle.span_board.proofs.Meets.{Apart}

pub apart_append : (k : ℕ) (xs ys : List Role) → Apart k xs → Apart k ys → Apart k (xs ++ ys)
apart_append k [] ys a b = b
apart_append k (x ∷ xs) ys a b = (a.0, apart_append k xs ys a.1 b)

pub apart_holders : (k i m : ℕ) → k < i → Apart (2 * k + 1) (holders i m)
apart_holders k i zero lt = tt
apart_holders k i (suc m) lt = ((λ e. omega arith), apart_holders k (suc i) m (omega arith))

pub apart_holder_clients : (k i m : ℕ) → Apart (2 * k + 1) (clients i m)
apart_holder_clients k i zero = tt
apart_holder_clients k i (suc m) = ((λ e. omega arith), apart_holder_clients k (suc i) m)

pub apart_clients : (k i m : ℕ) → k < i → Apart (2 * k + 2) (clients i m)
apart_clients k i zero lt = tt
apart_clients k i (suc m) lt = ((λ e. omega arith), apart_clients k (suc i) m (omega arith))

pub apart_keeper : (i m j n : ℕ) → Apart 0 (holders i m ++ clients j n)
apart_keeper i (suc m) j n = ((λ e. omega arith), apart_keeper (suc i) m j n)
apart_keeper i zero j zero = tt
apart_keeper i zero j (suc n) = ((λ e. omega arith), apart_keeper i zero (suc j) n)

pub next_holder : (i m : ℕ) (rest : List Role) → i < m → holders i (m - i) ++ rest ≡ Holder i [] ∷ (holders (suc i) (m - suc i) ++ rest)
next_holder i m rest lt = let e : m - i ≡ suc (m - suc i) = omega arith in ap (λ k. holders i k ++ rest) e

pub next_client : (i n : ℕ) → i < n → clients i (n - i) ≡ Client i [] [] ∷ clients (suc i) (n - suc i)
next_client i n lt = let e : n - i ≡ suc (n - suc i) = omega arith in ap (clients i) e

abbrev none_yet : List KeyVersions
none_yet = []

nil_at : (m i : ℕ) → get_or (replicate m none_yet) i none_yet ≡ none_yet
nil_at zero i = refl
nil_at (suc m) zero = refl
nil_at (suc m) (suc i) = nil_at m i

fit_append : (n : ℕ) (b : Known) (seat : ℕ → ℕ) (id : ℕ) (xs ys : List Role) → FitAll n b seat id xs → FitAll n b seat id ys → FitAll n b seat id (xs ++ ys)
fit_append n b seat id [] ys f g = g
fit_append n b seat id (x ∷ xs) ys f g = (f.0, f.1, fit_append n b seat id xs ys f.2 g)

fit_holders : (n m i k : ℕ) → i + k ≤ m → FitAll n (nothing_known m) (λ _. 0) 0 (holders i k)
fit_holders n m i zero le = tt
fit_holders n m i (suc k) le = (refl, (subst (λ (l : ℕ). i < l) (sym (length-replicate m [])) (omega arith), sym (nil_at m i)), fit_holders n m (suc i) k (omega arith))

fit_clients : (n m i k : ℕ) → i + k ≤ n → FitAll n (nothing_known m) (λ _. 0) 0 (clients i k)
fit_clients n m i zero le = tt
fit_clients n m i (suc k) le = (refl, (omega arith, ([], refl), refl, refl), fit_clients n m (suc i) k (omega arith))

pub opens : (n m : ℕ) → Kept n (0 ∷ []) (opening_roles n m ∷ [])
opens n m = (nothing_known m, (λ _. 0), refl, tt, one)
  where
    one : (id : ℕ) (v : List Role) → get_elem? (opening_roles n m ∷ []) id ≡ some v → FitAll n (nothing_known m) (λ _. 0) id v
    one zero v e = subst (FitAll n (nothing_known m) (λ _. 0) 0) (some-injective _ _ e) (refl, refl, fit_append n (nothing_known m) (λ _. 0) 0 (holders 0 m) (clients 0 n) (fit_holders n m 0 m (omega arith)) (fit_clients n m 0 n (omega arith)))
    one (suc id) v e = absurd (some-ne-none v (sym e))

pub next_newcomer : (o n : ℕ) → o < n → newcomers o (n - o) ≡ newcomer o ∷ newcomers (suc o) (n - suc o)
next_newcomer o n lt = let e : n - o ≡ suc (n - suc o) = omega arith in ap (newcomers o) e

-- one more session, after those that there are
pub more_newcomers : (o n : ℕ) (so_far after : List SessionHistory) (new : SessionHistory) → o < n → so_far ++ newcomers o (n - o) ≡ newcomers 0 n → after ≡ so_far ++ new ∷ [] → new ≡ newcomer o → after ++ newcomers (suc o) (n - suc o) ≡ newcomers 0 n
more_newcomers o n so_far after new lt all pushed is =
    ap (λ (l : List SessionHistory). l ++ newcomers (suc o) (n - suc o)) (pushed ∙ ap (λ (s : SessionHistory). so_far ++ s ∷ []) is)
    ∙ append_assoc so_far (newcomer o ∷ []) (newcomers (suc o) (n - suc o))
    ∙ ap (λ (l : List SessionHistory). so_far ++ l) (sym (next_newcomer o n lt))
    ∙ all

-- what a seat with one client knows
pub client_history : (o owner : ℕ) (v : List Role) (begun : List Begun) → v ≡ Client o [] [] ∷ [] → owner ≡ o → begun ≡ [] → (record { owner = owner; seen = seen_of v; mine = mine_of v; begun = begun }) ≡ newcomer o
client_history o owner v begun e is fresh = λ i. record { owner = is i; seen = seen_of (e i); mine = mine_of (e i); begun = fresh i }
