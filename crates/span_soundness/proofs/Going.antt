-- Steps along a query that find typed things, and aggregates on their way.
use Rattle.std.proofs.Common.{◌≡◌, ◌∙◌, sym, ap, refl, subst, List, [], ◌∷◌, ◌++◌, Result, Ok, Err, append_assoc}
use Rattle.std.proofs.lemmas.List.{append-nil}
use Rattle.std.specs.List.{AllByRecursion, fold}
use Rattle.span_value.specs.declared.value.Kind.{Kind}
use Rattle.span_value.specs.declared.refusal.Refusal.{Refusal}
use Rattle.span_query.specs.declared.query.Aggregate.{Aggregate}
use Rattle.span_value.specs.Results.{and_then}
use Rattle.span_value.proofs.Lists.{all_push}
use Rattle.span_operators.specs.Steps.{pure, from_result, ◌>>=◌, next_of, fold_steps, append_step, all_of}
use Rattle.span_typing.specs.Typing.{Finds}
use Rattle.span_soundness.specs.Bindings.{AreAggregatesOf}
use Rattle.span_soundness.proofs.Agreeing.{Made}

-- it holds whatever aggregates are found after these
abbrev pub Always : {A : Type 0} → (List Kind → A → Type 0) → List Kind → A → Type 0
Always R kinds x = (later : List Kind) → R (kinds ++ later) x

pub later_on : {A : Type 0} (R : List Kind → A → Type 0) (kinds more : List Kind) (x : A) → Always R kinds x → Always R (kinds ++ more) x
later_on R kinds more x is = λ later. subst (λ (ks : List Kind). R ks x) (sym (append_assoc kinds more later)) (is (more ++ later))

module _ (types : List Kind) where
  pub both_are_of : (found : List Aggregate) (kinds : List Kind) (new : List Aggregate) (more : List Kind) → AreAggregatesOf types found kinds → AreAggregatesOf types new more → AreAggregatesOf types (found ++ new) (kinds ++ more)
  both_are_of [] [] new more are news = news
  both_are_of [] (k ∷ ks) new more are news = absurd are
  both_are_of (a ∷ found) [] new more are news = absurd are
  both_are_of (a ∷ found) (k ∷ ks) new more are news = (are.0, both_are_of found ks new more are.1 news)

  -- what a step leads to: typed aggregates after those found before, and something of which this holds
  abbrev pub Leads : {A : Type 0} → (List Kind → A → Type 0) → List Aggregate → List Kind → Result (A × List Aggregate) Refusal → Type 0
  Leads R found kinds (Ok p) = (new : List Aggregate) × (more : List Kind) × (p.1 ≡ found ++ new) × AreAggregatesOf types new more × Always R (kinds ++ more) p.0
  Leads R found kinds (Err why) = Unit {0}

  abbrev pub Keeps : {A : Type 0} → (List Kind → A → Type 0) → List Kind → Finds A → Type 0
  Keeps R kinds step = (found : List Aggregate) → AreAggregatesOf types found kinds → Leads R found kinds (step found)

  -- from after more aggregates
  further : {A : Type 0} (R : List Kind → A → Type 0) (found new g : List Aggregate) (kinds more : List Kind) (o : Result (A × List Aggregate) Refusal) → g ≡ found ++ new → AreAggregatesOf types new more → Leads R g (kinds ++ more) o → Leads R found kinds o
  further R found new g kinds more (Err why) is news leads = tt {0}
  further R found new g kinds more (Ok p) is news leads = (
    new ++ leads.0,
    more ++ leads.1,
    leads.2 ∙ ap (λ (l : List Aggregate). l ++ leads.0) is ∙ append_assoc found new leads.0,
    both_are_of new more leads.0 leads.1 news leads.3,
    λ later. subst (λ (ks : List Kind). R (ks ++ later) p.0) (append_assoc kinds more leads.1) (leads.4 later),
  )

  pub then_keeps : {A B : Type 0} (R : List Kind → A → Type 0) (S : List Kind → B → Type 0) (kinds : List Kind) (step : Finds A) (next : A → Finds B) → Keeps R kinds step → ((more : List Kind) (x : A) → Always R (kinds ++ more) x → Keeps S (kinds ++ more) (next x)) → Keeps S kinds (step >>= next)
  then_keeps {A} {B} R S kinds step next first follows found are = go (step found) (first found are) where
    go : (o : Result (A × List Aggregate) Refusal) → Leads R found kinds o → Leads S found kinds (and_then o (λ p. next p.0 p.1))
    go (Err why) leads = tt {0}
    go (Ok p) leads =
        further S found leads.0 p.1 kinds leads.1 (next p.0 p.1) leads.2 leads.3
        (follows leads.1 p.0 leads.4 p.1 (subst (λ (l : List Aggregate). AreAggregatesOf types l (kinds ++ leads.1)) (sym leads.2) (both_are_of found kinds leads.0 leads.1 are leads.3)))

  pub given_keeps : {A : Type 0} (R : List Kind → A → Type 0) (kinds : List Kind) (r : Result A Refusal) → ((later : List Kind) → Made (R (kinds ++ later)) r) → Keeps R kinds (from_result r)
  given_keeps R kinds (Ok x) is found are = ([], [], sym (append-nil found), tt {0}, later_on R kinds [] x is)
  given_keeps R kinds (Err why) is found are = tt {0}

  -- ---- along a list

  refused_stays : {X A : Type 0} (step : A → X → Finds A) (why : Refusal) (xs : List X) → fold (next_of step) (Err why) xs ≡ Err why
  refused_stays step why [] = refl
  refused_stays step why (x ∷ xs) = refused_stays step why xs

  rejoined : {X A : Type 0} (step : A → X → Finds A) (xs : List X) (o : Result (A × List Aggregate) Refusal) → and_then o (λ p. fold_steps step p.0 xs p.1) ≡ fold (next_of step) o xs
  rejoined step xs (Ok p) = refl
  rejoined step xs (Err why) = sym (refused_stays step why xs)

  pub along_keeps : {X A : Type 0} (R : List Kind → A → Type 0) (P : X → Type 0) (step : A → X → Finds A) → ((kinds : List Kind) (a : A) (x : X) → P x → Always R kinds a → Keeps R kinds (step a x)) → (xs : List X) → AllByRecursion P xs → (kinds : List Kind) (a : A) → Always R kinds a → Keeps R kinds (fold_steps step a xs)
  along_keeps R P step keeps [] all kinds a is found are = ([], [], sym (append-nil found), tt {0}, later_on R kinds [] a is)
  along_keeps R P step keeps (x ∷ xs) all kinds a is found are =
      subst (λ (o : Result (_ × List Aggregate) Refusal). Leads R found kinds o) (rejoined step xs (step a x found))
      (then_keeps R R kinds (step a x) (λ b. fold_steps step b xs) (keeps kinds a x all.0 is) (λ more b b_is. along_keeps R P step keeps xs all.1 (kinds ++ more) b b_is) found are)

  abbrev pub Each : {A : Type 0} → (List Kind → A → Type 0) → List Kind → List A → Type 0
  Each R kinds xs = AllByRecursion (R kinds) xs

  pub all_keep : {X A : Type 0} (R : List Kind → A → Type 0) (P : X → Type 0) (step : X → Finds A) → ((x : X) → P x → (kinds : List Kind) → Keeps R kinds (step x)) → (xs : List X) → AllByRecursion P xs → (kinds : List Kind) → Keeps (Each R) kinds (all_of step xs)
  all_keep R P step keeps xs all kinds =
      along_keeps (Each R) P (append_step step)
      (λ ks os x x_is os_are. then_keeps R (Each R) ks (step x) (λ a. pure (os ++ (a ∷ []))) (keeps x x_is ks)
      (λ more a a_is. given_keeps (Each R) (ks ++ more) (Ok (os ++ (a ∷ []))) (λ later. all_push (R ((ks ++ more) ++ later)) os a (later_on (Each R) ks more os os_are later) (a_is later))))
      xs all kinds [] (λ later. tt {0})
