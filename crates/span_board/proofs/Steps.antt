-- Each step keeps the rule.
use Rattle.std.proofs.Common.{◌≡◌, ◌≢◌, ℕ, ◌+◌, ◌*◌, ◌<◌, ◌==◌, List, [], ◌∷◌, ◌++◌, length, set, refl, sym, ap, ◌∙◌, subst, ⊎_elim, length-append}
use Rattle.std.specs.Prelude.{slice_index, slice_set}
use Rattle.std.proofs.lemmas.List.{get_or-set_same, get_or-set_other, length-set}
use mathlib.Core.Option.{some}
use mathlib.Core.List.{IsPrefix}
use prog.Atomic.{either}
use lib.ListN.{get_elem?}
use Rattle.atomic_table.specs.Table.{State, Me, keeps, Allows}
use Rattle.atomic_table.proofs.Lists.{at_set, set_again, exchanged}
use Rattle.span_machine.specs.declared.transaction.Commit.{Commit}
use Rattle.span_shard.specs.KeyVersions.{KeyVersions}
use Rattle.span_board.specs.declared.board.Role.{Role}
use Rattle.span_board.specs.declared.board.Role.TheVariants.{Keeper, Holder, Client}
use Rattle.span_board.specs.declared.board.Change.{Change}
use Rattle.span_board.specs.declared.board.Change.TheVariants.{Grown, Restated}
use Rattle.span_board.specs.Known.{Known, kept, owned, grown, restated}
use Rattle.span_board.specs.Rule.{name_of, Fits, FitAll, AllOwned, Kept, Publishes, Looks, Restates, Catches, Agrees, shard_of_change}
use Rattle.span_board.proofs.Owners.{owned_this, owned_other, prefix_longer, prefix_self}

pub fit_again : (n : ℕ) (b b' : Known) (seat seat' : ℕ → ℕ) (id : ℕ) (v : List Role)
    → ((r : Role) → seat (name_of r) ≡ id → Fits n b r → (seat' (name_of r) ≡ id) × Fits n b' r)
    → FitAll n b seat id v → FitAll n b' seat' id v
fit_again n b b' seat seat' id [] f h = tt
fit_again n b b' seat seat' id (r ∷ rs) f h = ((f r h.0 h.1).0, (f r h.0 h.1).1, fit_again n b b' seat seat' id rs f h.2)

-- one view changes
views_set : (n : ℕ) (b : Known) (seat : ℕ → ℕ) (views : List (List Role)) (id : ℕ) (w : List Role)
    → ((j : ℕ) (v : List Role) → j ≢ id → get_elem? views j ≡ some v → FitAll n b seat j v)
    → FitAll n b seat id w
    → (j : ℕ) (v : List Role) → get_elem? (set views id w) j ≡ some v → FitAll n b seat j v
views_set n b seat views id w others mine j v e =
    ⊎_elim
    (λ (x : (j ≡ id) × (w ≡ v)). subst (λ (y : ℕ × List Role). FitAll n b seat y.0 y.1) (λ i. (sym x.0 i, x.1 i)) mine)
    (λ (x : (j ≢ id) × (get_elem? views j ≡ some v)). others j v x.0 x.1)
    (at_set views id j w v e)

-- the word as the exchange leaves it
word_grows : (ws : List ℕ) (k new : ℕ) → ws ≡ k ∷ [] → slice_set ws 0 (either (slice_index ws 0 == k) new (slice_index ws 0)) ≡ new ∷ []
word_grows ws k new e = rw e (exchanged k k new (λ (x : ℕ). x ∷ [] ≡ new ∷ []) (λ h. refl) (λ h. absurd (h refl)))

word_either : (ws : List ℕ) (k n : ℕ) → ws ≡ n ∷ [] → slice_set ws 0 (either (slice_index ws 0 == k) k (slice_index ws 0)) ≡ n ∷ []
word_either ws k n e = rw e (exchanged n k k (λ (x : ℕ). x ∷ [] ≡ n ∷ []) (λ h. ap (λ (x : ℕ). x ∷ []) (sym h)) (λ h. refl))

word_stays : (ws : List ℕ) (k : ℕ) → ws ≡ k ∷ [] → slice_set ws 0 (slice_index ws 0) ≡ k ∷ []
word_stays ws k e = rw e refl

owned_more : (n : ℕ) (xs : List Commit) (c : Commit) → AllOwned n xs → c.owner < n → AllOwned n (xs ++ c ∷ [])
owned_more n [] c h lt = (lt, tt)
owned_more n (x ∷ xs) c h lt = (h.0, owned_more n xs c h.1 lt)

abbrev pub Holds : ℕ → State Change (List Role) → Type 0
Holds n s = Kept n s.words s.views

-- the rule, with its known named
record Facts (n : ℕ) (b : Known) (seat : ℕ → ℕ) (ws : List ℕ) (views : List (List Role)) : Type 0 where
  count : ws ≡ length b.commits ∷ []
  owners : AllOwned n b.commits
  fits : (id : ℕ) (v : List Role) → get_elem? views id ≡ some v → FitAll n b seat id v

facts_at : (n : ℕ) (b known : Known) (seat : ℕ → ℕ) (words : List ℕ) (views : List (List Role)) → b ≡ known
    → words ≡ length known.commits ∷ [] → AllOwned n known.commits → ((id : ℕ) (v : List Role) → get_elem? views id ≡ some v → FitAll n known seat id v)
    → Facts n b seat words views
facts_at n b known seat words views e w o f = subst (λ k. Facts n k seat words views) (sym e) record { count = w; owners = o; fits = f }

-- a publish leaves each role of another seat as true as it was
publish_other : (n : ℕ) (b : Known) (seat : ℕ → ℕ) (id j o : ℕ) (c : Commit) → c.owner ≡ o
    → seat 0 ≡ id → seat (2 * o + 2) ≡ id → j ≢ id
    → (r : Role) → seat (name_of r) ≡ j → Fits n b r → (seat (name_of r) ≡ j) × Fits n (grown b c) r
publish_other n b seat id j o c own k0 ko ne (Keeper x) at fit = absurd (ne (sym at ∙ k0))
publish_other n b seat id j o c own k0 ko ne (Holder i vs) at fit = (at, fit)
publish_other n b seat id j o c own k0 ko ne (Client p seen mine) at fit =
    let apart : c.owner ≢ p = λ e. ne (sym at ∙ (ap (λ (x : ℕ). seat (2 * x + 2)) (sym e ∙ own) ∙ ko)) in
    (at, (fit.0, prefix_longer seen b.commits (c ∷ []) fit.1, fit.2, owned_other p b.commits c apart ∙ fit.3))

abbrev published : ℕ → List Commit → Known → Commit → List Role
published o mine b c = Keeper (grown b c) ∷ Client o (b.commits ++ c ∷ []) (mine ++ c ∷ []) ∷ []

publish_keeps : (n id o : ℕ) (seen mine : List Commit) (b : Known) (seat : ℕ → ℕ) (c : Commit) (k : ℕ) (words : List ℕ) (views : List (List Role))
    → c.owner ≡ o → length b.commits ≡ k
    → Facts n b seat words views
    → FitAll n b seat id (Keeper b ∷ Client o seen mine ∷ [])
    → Kept n (slice_set words 0 (either (slice_index words 0 == k) (k + 1) (slice_index words 0))) (slice_set views id (published o mine b c))
publish_keeps n id o seen mine b seat c k words views own len facts all =
    let count = word_grows words k (k + 1) (facts.count ∙ ap (λ (m : ℕ). m ∷ []) len) in
    let longer : length (b.commits ++ c ∷ []) ≡ k + 1 = length-append b.commits (c ∷ []) ∙ ap (λ (m : ℕ). m + 1) len in
    let below : c.owner < n = subst (λ (m : ℕ). m < n) (sym own) all.2.1.0 in
    let gains : owned o (b.commits ++ c ∷ []) ≡ mine ++ c ∷ [] = owned_this o b.commits c own ∙ ap (λ l. l ++ c ∷ []) all.2.1.3 in (
      grown b c,
      seat,
      count ∙ ap (λ (m : ℕ). m ∷ []) (sym longer),
      owned_more n b.commits c facts.owners below,
      views_set n (grown b c) seat views id (published o mine b c)
          (λ j v ne e. fit_again n b (grown b c) seat seat j v (publish_other n b seat id j o c own all.0 all.2.0 ne) (facts.fits j v e))
          (all.0, refl, (all.2.0, (all.2.1.0, prefix_self (b.commits ++ c ∷ []), gains, gains), tt)),
    )

-- what the step says, where it is a commit
abbrev pub is_commit_change : Change → Commit → Type 0
is_commit_change (Grown y) c = y ≡ c
is_commit_change (Restated y) c = Unit {0}

-- the keeper's seat, joined with a session's, adds the session's commit
publish_allows : (n slots id o : ℕ) (seen mine : List Commit) (b : Known) (c : Commit) (k : ℕ) (x : Change)
    → c.owner ≡ o → length b.commits ≡ k → is_commit_change x c
    → Allows (Holds n) slots id (Keeper b ∷ Client o seen mine ∷ [], []) 0 (λ m. either (m == k) (k + 1) m) (λ m after. (after.1 ≡ []) × Publishes (Keeper b ∷ Client o seen mine ∷ []) (some x) after.0)
publish_allows n slots id o seen mine b c k x own len is s h homes at fits =
    let all = h.4 id (Keeper b ∷ Client o seen mine ∷ []) at in
    let facts = facts_at n b h.0 h.1 s.words s.views all.1 h.2 h.3 h.4 in
    let mine' = facts.fits id (Keeper b ∷ Client o seen mine ∷ []) at in
    (published o mine b c, keeps, tt, publish_keeps n id o seen mine b h.1 c k s.words s.views own len facts mine', (refl, by_change mine'.2.1 x is))
  where
    by_change : (o < n) × IsPrefix seen b.commits × (owned o seen ≡ mine) × (owned o b.commits ≡ mine) → (x : Change) → is_commit_change x c → Publishes (Keeper b ∷ Client o seen mine ∷ []) (some x) (published o mine b c)
    by_change f (Grown y) e = (ap (λ d. published o mine b d) (sym e), f.1, f.2, f.3)
    by_change f (Restated y) e = tt

-- a look makes a session's beginning longer
look_allows : (n slots id o : ℕ) (seen mine : List Commit)
    → Allows (Holds n) slots id (Client o seen mine ∷ [], []) 0 (λ m. m) (λ m after. (after.1 ≡ []) × Looks (Client o seen mine ∷ []) m after.0)
look_allows n slots id o seen mine s h homes at fits =
    let all = h.4 id (Client o seen mine ∷ []) at in
    let now : List Commit = h.0.commits in
    let w : List Role = Client o now mine ∷ [] in
    let count : slice_index s.words 0 ≡ length now = ap (λ (ws : List ℕ). slice_index ws 0) h.2 in (
      w,
      keeps,
      tt,
      (h.0, h.1, word_stays s.words (length now) h.2, h.3, views_set n h.0 h.1 s.views id w (λ j v ne e. h.4 j v e) (all.0, (all.1.0, prefix_self now, all.1.3, all.1.3), tt)),
      (refl, (now, refl, all.1.1, sym count, all.1.3)),
    )

-- under the journal's lock a session sees the whole log
catch_allows : (n slots id o : ℕ) (seen mine : List Commit) (b : Known)
    → Allows (Holds n) slots id (Keeper b ∷ Client o seen mine ∷ [], []) 0 (λ m. m) (λ m after. (after.1 ≡ []) × Catches (Keeper b ∷ Client o seen mine ∷ []) after.0)
catch_allows n slots id o seen mine b s h homes at fits =
    let all = h.4 id (Keeper b ∷ Client o seen mine ∷ []) at in
    let facts = facts_at n b h.0 h.1 s.words s.views all.1 h.2 h.3 h.4 in
    let mine' = facts.fits id (Keeper b ∷ Client o seen mine ∷ []) at in
    let w : List Role = Keeper b ∷ Client o b.commits mine ∷ [] in (
      w,
      keeps,
      tt,
      (b, h.1, word_stays s.words (length b.commits) facts.count, facts.owners, views_set n b h.1 s.views id w (λ j v ne e. facts.fits j v e) (mine'.0, refl, (mine'.2.0, (mine'.2.1.0, prefix_self b.commits, mine'.2.1.3, mine'.2.1.3), tt))),
      (refl, (refl, mine'.2.1.1, mine'.2.1.3)),
    )

-- what a slot has changes: the roles of other seats stay true
restate_other : (n : ℕ) (b : Known) (seat : ℕ → ℕ) (id j i : ℕ) (ws : List KeyVersions)
    → seat 0 ≡ id → seat (2 * i + 1) ≡ id → j ≢ id
    → (r : Role) → seat (name_of r) ≡ j → Fits n b r → (seat (name_of r) ≡ j) × Fits n (restated b i ws) r
restate_other n b seat id j i ws k0 ki ne (Keeper x) at fit = absurd (ne (sym at ∙ k0))
restate_other n b seat id j i ws k0 ki ne (Holder m vs) at fit =
    let apart : m ≢ i = λ e. ne (sym at ∙ (ap (λ (x : ℕ). seat (2 * x + 1)) e ∙ ki)) in
    (at, (subst (λ (k : ℕ). m < k) (sym (length-set b.slots i ws)) fit.0, fit.1 ∙ sym (get_or-set_other b.slots i m ws [] apart)))
restate_other n b seat id j i ws k0 ki ne (Client p seen mine) at fit = (at, fit)

restate_keeps : (n id i : ℕ) (vs ws : List KeyVersions) (b : Known) (seat : ℕ → ℕ) (k : ℕ) (words : List ℕ) (views : List (List Role))
    → Facts n b seat words views
    → FitAll n b seat id (Keeper b ∷ Holder i vs ∷ [])
    → Kept n (slice_set words 0 (either (slice_index words 0 == k) k (slice_index words 0))) (slice_set views id (Keeper (restated b i ws) ∷ Holder i ws ∷ []))
restate_keeps n id i vs ws b seat k words views facts all = (
  restated b i ws,
  seat,
  word_either words k (length b.commits) facts.count,
  facts.owners,
  views_set n (restated b i ws) seat views id (Keeper (restated b i ws) ∷ Holder i ws ∷ [])
      (λ j v ne e. fit_again n b (restated b i ws) seat seat j v (restate_other n b seat id j i ws all.0 all.2.0 ne) (facts.fits j v e))
      (all.0, refl, (all.2.0, (subst (λ (m : ℕ). i < m) (sym (length-set b.slots i ws)) all.2.1.0, sym (get_or-set_same b.slots i ws [] all.2.1.0)), tt)),
)

restate_allows : (n slots id i : ℕ) (vs : List KeyVersions) (b : Known) (k : ℕ) (x : Change)
    → Allows (Holds n) slots id (Keeper b ∷ Holder i vs ∷ [], []) 0 (λ m. either (m == k) k m) (λ m after. (after.1 ≡ []) × Restates (Keeper b ∷ Holder i vs ∷ []) (some x) after.0)
restate_allows n slots id i vs b k x s h homes at fits =
    let all = h.4 id (Keeper b ∷ Holder i vs ∷ []) at in
    let facts = facts_at n b h.0 h.1 s.words s.views all.1 h.2 h.3 h.4 in
    let mine' = facts.fits id (Keeper b ∷ Holder i vs ∷ []) at in
    let ws = shard_of_change x in
    (Keeper (restated b i ws) ∷ Holder i ws ∷ [], keeps, tt, restate_keeps n id i vs ws b h.1 k s.words s.views facts mine', (refl, by_change mine'.2.1 x))
  where
    by_change : (i < length b.slots) × (vs ≡ kept b i) → (x : Change) → Restates (Keeper b ∷ Holder i vs ∷ []) (some x) (Keeper (restated b i (shard_of_change x)) ∷ Holder i (shard_of_change x) ∷ [])
    by_change f (Restated y) = (refl, f.1, f.0)
    by_change f (Grown y) = tt

-- a look at both tells that they agree
agree_allows : (n slots id i : ℕ) (vs : List KeyVersions) (b : Known)
    → Allows (Holds n) slots id (Keeper b ∷ Holder i vs ∷ [], []) 0 (λ m. m) (λ m after. (after ≡ (Keeper b ∷ Holder i vs ∷ [], [])) × Agrees (Keeper b ∷ Holder i vs ∷ []))
agree_allows n slots id i vs b s h homes at fits =
    let v : List Role = Keeper b ∷ Holder i vs ∷ [] in
    let all = h.4 id v at in
    let facts = facts_at n b h.0 h.1 s.words s.views all.1 h.2 h.3 h.4 in
    let mine' = facts.fits id v at in
    (v, keeps, tt, (h.0, h.1, word_stays s.words (length h.0.commits) h.2, h.3, subst (λ (vs : List (List Role)). (id : ℕ) (v : List Role) → get_elem? vs id ≡ some v → FitAll n h.0 h.1 id v) (sym (set_again s.views id v at)) h.4), (refl, (mine'.2.1.1, mine'.2.1.0)))

-- the same at a seat whose view and slots are known by an equation
pub look_at : (n slots id o : ℕ) (seen mine : List Commit) (me : Me Change (List Role)) → me ≡ (Client o seen mine ∷ [], [])
    → Allows (Holds n) slots id me 0 (λ m. m) (λ m after. (after.1 ≡ me.1) × Looks me.0 m after.0)
look_at n slots id o seen mine me e = subst (λ (k : Me Change (List Role)). Allows (Holds n) slots id k 0 (λ m. m) (λ m after. (after.1 ≡ k.1) × Looks k.0 m after.0)) (sym e) (look_allows n slots id o seen mine)

pub catch_at : (n slots id o : ℕ) (seen mine : List Commit) (b : Known) (me : Me Change (List Role)) → me ≡ (Keeper b ∷ Client o seen mine ∷ [], [])
    → Allows (Holds n) slots id me 0 (λ m. m) (λ m after. (after.1 ≡ me.1) × Catches me.0 after.0)
catch_at n slots id o seen mine b me e = subst (λ (k : Me Change (List Role)). Allows (Holds n) slots id k 0 (λ m. m) (λ m after. (after.1 ≡ k.1) × Catches k.0 after.0)) (sym e) (catch_allows n slots id o seen mine b)

pub publish_at : (n slots id o : ℕ) (seen mine : List Commit) (b : Known) (c : Commit) (k : ℕ) (x : Change) (me : Me Change (List Role)) → me ≡ (Keeper b ∷ Client o seen mine ∷ [], [])
    → c.owner ≡ o → length b.commits ≡ k → is_commit_change x c
    → Allows (Holds n) slots id me 0 (λ m. either (m == k) (k + 1) m) (λ m after. (after.1 ≡ me.1) × Publishes me.0 (some x) after.0)
publish_at n slots id o seen mine b c k x me e own len is = subst (λ (z : Me Change (List Role)). Allows (Holds n) slots id z 0 (λ m. either (m == k) (k + 1) m) (λ m after. (after.1 ≡ z.1) × Publishes z.0 (some x) after.0)) (sym e) (publish_allows n slots id o seen mine b c k x own len is)

pub restate_at : (n slots id i : ℕ) (vs : List KeyVersions) (b : Known) (k : ℕ) (x : Change) (me : Me Change (List Role)) → me ≡ (Keeper b ∷ Holder i vs ∷ [], [])
    → Allows (Holds n) slots id me 0 (λ m. either (m == k) k m) (λ m after. (after.1 ≡ me.1) × Restates me.0 (some x) after.0)
restate_at n slots id i vs b k x me e = subst (λ (z : Me Change (List Role)). Allows (Holds n) slots id z 0 (λ m. either (m == k) k m) (λ m after. (after.1 ≡ z.1) × Restates z.0 (some x) after.0)) (sym e) (restate_allows n slots id i vs b k x)

pub agree_at : (n slots id i : ℕ) (vs : List KeyVersions) (b : Known) (me : Me Change (List Role)) → me ≡ (Keeper b ∷ Holder i vs ∷ [], [])
    → Allows (Holds n) slots id me 0 (λ m. m) (λ m after. (after ≡ me) × Agrees me.0)
agree_at n slots id i vs b me e = subst (λ (z : Me Change (List Role)). Allows (Holds n) slots id z 0 (λ m. m) (λ m after. (after ≡ z) × Agrees z.0)) (sym e) (agree_allows n slots id i vs b)
