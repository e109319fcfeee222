-- Lists that lie one after another in one list, each given by the place after its last item.
use Rattle.std.specs.Prelude.{◌≡◌, ◌≤◌, ◌+◌, ◌-◌, ℕ, zero, suc, List, [], ◌∷◌, take, drop, map}

-- the lists from a place on
abbrev pub cut_at : {A : Type 0} → ℕ → List ℕ → List A → List (List A)
cut_at at [] all = []
cut_at at (e ∷ ends) all = take (e - at) (drop at all) ∷ cut_at e ends all

-- from a place on the ends do not fall, and the last is the length of the list
abbrev pub AreEnds : ℕ → List ℕ → ℕ → Type 0
AreEnds at [] len = at ≡ len
AreEnds at (e ∷ ends) len = (at ≤ e) × AreEnds e ends len

-- the ends after a number of items more
abbrev pub shift : ℕ → List ℕ → List ℕ
shift offset ends = map (λ e. offset + e) ends

-- the place where the list at a place begins
abbrev pub start_at : ℕ → List ℕ → ℕ → ℕ
start_at at ends zero = at
start_at at [] (suc i) = at
start_at at (e ∷ ends) (suc i) = start_at e ends i
