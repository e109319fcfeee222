-- Two seats meet in one, and part.
use Rattle.std.proofs.Common.{◌≡◌, ◌≢◌, ◌⊎◌, ℕ, zero, suc, ◌==◌, Bool, true, false, List, [], ◌∷◌, ◌++◌, length, set, refl, sym, ap, ◌∙◌, subst, ⊎_elim, inl, inr, arith, if◌then◌else◌, ne_eqb, eq-eqb}
use mathlib.Core.Option.{some, some-injective, some-ne-none}
use lib.ListN.{get_elem?}
use Rattle.atomic_table.specs.Table.{Me, Splits, Joins}
use Rattle.atomic_table.proofs.Lists.{at_set, set_else}
use Rattle.std.proofs.lemmas.Bool.{cond-true, cond-false}
use Rattle.span_board.specs.declared.board.Role.{Role}
use Rattle.span_board.specs.declared.board.Role.TheVariants.{Keeper, Holder, Client}
use Rattle.span_board.specs.declared.board.Change.{Change}
use Rattle.span_machine.specs.declared.transaction.Commit.{Commit}
use Rattle.span_shard.specs.KeyVersions.{KeyVersions}
use Rattle.span_board.specs.Known.{Known}
use Rattle.span_board.specs.Rule.{name_of, FitAll, first_of, others_of, number_of, versions_of, known_at, seen_of, mine_of}
use Rattle.span_board.proofs.Steps.{Holds, fit_again}

-- a seat other than the changed one, or the changed one
view_set : (P : ℕ → List Role → Type 0) (views : List (List Role)) (id : ℕ) (w : List Role) (j : ℕ) (v : List Role)
    → (j ≢ id → get_elem? views j ≡ some v → P j v) → P id w → get_elem? (set views id w) j ≡ some v → P j v
view_set P views id w j v others mine e =
    ⊎_elim
    (λ (x : (j ≡ id) × (w ≡ v)). subst (λ (y : ℕ × List Role). P y.0 y.1) (λ i. (sym x.0 i, x.1 i)) mine)
    (λ (x : (j ≢ id) × (get_elem? views j ≡ some v)). others x.0 x.1)
    (at_set views id j w v e)

-- the role of this name is at this seat now
abbrev moved : ℕ → ℕ → (ℕ → ℕ) → ℕ → ℕ
moved name id seat k = if k == name then id else seat k

moved_here : (name id : ℕ) (seat : ℕ → ℕ) → moved name id seat name ≡ id
moved_here name id seat = cond-true (name == name) id (seat name) (eq-eqb name name refl)

moved_else : (name id : ℕ) (seat : ℕ → ℕ) (k : ℕ) → k ≢ name → moved name id seat k ≡ seat k
moved_else name id seat k ne = cond-false (k == name) id (seat k) (ne_eqb k name ne)

if_both : (b : Bool) (x y z : ℕ) → x ≡ z → y ≡ z → (if b then x else y) ≡ z
if_both true x y z p q = p
if_both false x y z p q = q

moved_same : (name id : ℕ) (seat : ℕ → ℕ) (k : ℕ) → seat k ≡ id → moved name id seat k ≡ id
moved_same name id seat k e = if_both (k == name) id (seat k) id refl e

-- the seat `id` takes in the role x of the seat `other`
pub joins : (n id other : ℕ) (v : List Role) (x : Role) → Joins (Holds n) id v other (x ∷ []) (x ∷ v) []
joins n id other v x s h at apart there =
    let seat' : ℕ → ℕ = moved (name_of x) id h.1 in
    let was = h.4 other (x ∷ []) (sym (set_else s.views id other (x ∷ v) apart) ∙ there) in
    let mine = h.4 id v at in
    let mine' : FitAll n h.0 seat' id (x ∷ v) = (moved_here (name_of x) id h.1, was.1, fit_again n h.0 h.0 h.1 seat' id v (λ r e f. (moved_same (name_of x) id h.1 (name_of r) e, f)) mine) in
    let rest : (j : ℕ) (u : List Role) → get_elem? (set (set s.views id (x ∷ v)) other []) j ≡ some u → FitAll n h.0 seat' j u =
    λ j u e. view_set (FitAll n h.0 seat') (set s.views id (x ∷ v)) other [] j u
    (λ (ne : j ≢ other) e'. view_set (FitAll n h.0 seat') s.views id (x ∷ v) j u
    (λ (ne' : j ≢ id) e''. fit_again n h.0 h.0 h.1 seat' j u (λ r at' f. (moved_else (name_of x) id h.1 (name_of r) (λ same. ne (sym at' ∙ (ap h.1 same ∙ was.0))) ∙ at', f)) (h.4 j u e''))
    mine' e')
    tt e in
    (h.0, seat', h.2, h.3, rest)

abbrev pub Apart : ℕ → List Role → Type 0
Apart k [] = Unit {0}
Apart k (r ∷ rs) = (name_of r ≢ k) × Apart k rs

fit_apart : (n : ℕ) (b : Known) (seat : ℕ → ℕ) (id name new : ℕ) (v : List Role) → Apart name v → FitAll n b seat id v → FitAll n b (moved name new seat) id v
fit_apart n b seat id name new [] a h = tt
fit_apart n b seat id name new (r ∷ rs) a h = (moved_else name new seat (name_of r) a.0 ∙ h.0, h.1, fit_apart n b seat id name new rs a.1 h.2)

at_end : (l : List (List Role)) (a b : List Role) (j : ℕ) → get_elem? (l ++ a ∷ []) j ≡ some b → (get_elem? l j ≡ some b) ⊎ ((length l ≡ j) × (a ≡ b))
at_end [] a b zero e = inr (refl, some-injective a b e)
at_end [] a b (suc j) e = absurd (some-ne-none b (sym e))
at_end (x ∷ xs) a b zero e = inl e
at_end (x ∷ xs) a b (suc j) e = ⊎_elim (λ t. inl t) (λ t. inr (ap suc t.0, t.1)) (at_end xs a b j e)

-- the first role goes to a seat of its own
pub splits : (n id : ℕ) (x : Role) (v : List Role) → Apart (name_of x) v → Splits (Holds n) id (x ∷ v) v (x ∷ [])
splits n id x v apart s h at =
    let old = set s.views id v in
    let new = length old in
    let seat' : ℕ → ℕ = moved (name_of x) new h.1 in
    let mine = h.4 id (x ∷ v) at in
    let kept' : FitAll n h.0 seat' id v = fit_apart n h.0 h.1 id (name_of x) new v apart mine.2 in
    let given : FitAll n h.0 seat' new (x ∷ []) = (moved_here (name_of x) new h.1, mine.1, tt) in
    let rest : (j : ℕ) (u : List Role) → get_elem? (old ++ (x ∷ []) ∷ []) j ≡ some u → FitAll n h.0 seat' j u =
    λ j u e. ⊎_elim
    (λ (e' : get_elem? old j ≡ some u). view_set (FitAll n h.0 seat') s.views id v j u
    (λ (ne : j ≢ id) e''. fit_again n h.0 h.0 h.1 seat' j u (λ r at' f. (moved_else (name_of x) new h.1 (name_of r) (λ same. ne (sym at' ∙ (ap h.1 same ∙ mine.0))) ∙ at', f)) (h.4 j u e''))
    kept' e')
    (λ (t : (new ≡ j) × ((x ∷ []) ≡ u)). subst (λ (y : ℕ × List Role). FitAll n h.0 seat' y.0 y.1) (λ i. (t.0 i, t.1 i)) given)
    (at_end old (x ∷ []) u j e) in
    (h.0, seat', h.2, h.3, rest)

pub joins_at : (n id other : ℕ) (v' w' v : List Role) (x : Role) → v' ≡ v → w' ≡ x ∷ [] → Joins (Holds n) id v' other w' (w' ++ v') []
joins_at n id other v' w' v x e f = subst (λ (k : List Role × List Role). Joins (Holds n) id k.0 other k.1 (k.1 ++ k.0) []) (λ i. (sym e i, sym f i)) (joins n id other v x)

pub splits_at : (n id : ℕ) (v' v : List Role) (x : Role) → v' ≡ x ∷ v → Apart (name_of x) v → Splits (Holds n) id v' (others_of v') (first_of v')
splits_at n id v' v x e a = subst (λ (k : List Role). Splits (Holds n) id k (others_of k) (first_of k)) (sym e) (splits n id x v a)

pub apart_client : (o : ℕ) (seen mine : List Commit) → Apart 0 (Client o seen mine ∷ [])
apart_client o seen mine = ((λ e. absurd (omega arith)), tt)

pub apart_holder : (i : ℕ) (vs : List KeyVersions) → Apart 0 (Holder i vs ∷ [])
apart_holder i vs = ((λ e. absurd (omega arith)), tt)

-- a badge's one view
pub only_view : (views : List (List Role)) (v w : List Role) → views ≡ v ∷ [] → views ≡ w ∷ [] → w ≡ v
only_view views v w e f = cc

-- a seat that has one role, by what is read off it
pub holder_shape : (me : Me Change (List Role)) (i : ℕ) (vs : List KeyVersions) → me ≡ (Holder i vs ∷ [], []) → me ≡ (Holder (number_of me.0) (versions_of me.0) ∷ [], [])
holder_shape me i vs e = e ∙ ap (λ (k : Me Change (List Role)). (Holder (number_of k.0) (versions_of k.0) ∷ [], [])) (sym e)

pub client_shape : (me : Me Change (List Role)) (o : ℕ) (seen mine : List Commit) → me ≡ (Client o seen mine ∷ [], []) → me ≡ (Client o (seen_of me.0) (mine_of me.0) ∷ [], [])
client_shape me o seen mine e = e ∙ ap (λ (k : Me Change (List Role)). (Client o (seen_of k.0) (mine_of k.0) ∷ [], [])) (sym e)

pub keeper_shape : (views looked : List (List Role)) → looked ≡ views → views ≡ (Keeper (known_at views) ∷ []) ∷ [] → looked ≡ (Keeper (known_at looked) ∷ []) ∷ []
keeper_shape views looked e knows = subst (λ (v : List (List Role)). v ≡ (Keeper (known_at v) ∷ []) ∷ []) (sym e) knows

-- the same of what is known to be the keeper's
pub keeper_read : (views : List (List Role)) (b : Known) → views ≡ (Keeper b ∷ []) ∷ [] → views ≡ (Keeper (known_at views) ∷ []) ∷ []
keeper_read views b e = e ∙ ap (λ (v : List (List Role)). (Keeper (known_at v) ∷ []) ∷ []) (sym e)
