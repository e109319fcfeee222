-- Rows that a table may have in the place of others: part by part, and table by table.
use Rattle.std.proofs.Common.{◌≡◌, ◌∙◌, ℕ, suc, ◌+◌, List, [], ◌∷◌, ◌++◌, Some, length, refl, sym, ap, subst, arith, append_assoc, length-append}
use Rattle.span_query.specs.declared.query.BoundQuery.{BoundQuery}
use Rattle.span_query.specs.Rows.{Rows, append_results}
use Rattle.span_query.specs.Meaning.{given, meaning_over}
use Rattle.span_query.proofs.Results.{append_results-assoc, append_results-nil, nil-append_results}
use Rattle.span_algebra.specs.SameMeaning.{MeanTheSame}

module _ (query : BoundQuery) where
  -- what the query means where a table gives this
  abbrev with_table : List Rows → List Rows → Rows → Rows
  with_table front rest table = meaning_over (given (front ++ table ∷ rest)) query

  pub same_rows : (place : ℕ) (rows others : Rows) → rows ≡ others → MeanTheSame query place rows others
  same_rows place rows others e = record { of = λ front rest before after at. ap (λ (o : Rows). with_table front rest (append_results before (append_results o after))) e }

  -- two parts, one after the other
  pub same_parts : (place : ℕ) (a b c d : Rows) → MeanTheSame query place a b → MeanTheSame query place c d → MeanTheSame query place (append_results a c) (append_results b d)
  same_parts place a b c d first second = record {
    of = λ front rest before after at.
        ap (λ (o : Rows). with_table front rest (append_results before o)) (append_results-assoc a c after)
        ∙ first.of front rest before (append_results c after) at
        ∙ ap (with_table front rest) (sym (append_results-assoc before b (append_results c after)))
        ∙ second.of front rest (append_results before b) after at
        ∙ ap (with_table front rest) (append_results-assoc before b (append_results d after))
        ∙ ap (λ (o : Rows). with_table front rest (append_results before o)) (sym (append_results-assoc b d after));
  }

  -- a table that is all of its part
  same_table : (front rest : List Rows) (t u : Rows) → MeanTheSame query (length front) t u → with_table front rest t ≡ with_table front rest u
  same_table front rest t u same =
      let whole : (o : Rows) → append_results (Some []) (append_results o (Some [])) ≡ o = λ o. nil-append_results (append_results o (Some [])) ∙ append_results-nil o in
      sym (ap (with_table front rest) (whole t)) ∙ same.of front rest (Some []) (Some []) refl ∙ ap (with_table front rest) (whole u)

-- tables that are related one by one, by their places
abbrev pub AreRelated : (ℕ → Rows → Rows → Type 0) → List Rows → List Rows → Type 0
AreRelated R [] [] = Unit {0}
AreRelated R [] (u ∷ us) = ⊥
AreRelated R (t ∷ ts) [] = ⊥
AreRelated R (t ∷ ts) (u ∷ us) = R 0 t u × AreRelated (λ (i : ℕ). R (suc i)) ts us

related_by : (R S : ℕ → Rows → Rows → Type 0) (ts us : List Rows) → ((i : ℕ) (t u : Rows) → R i t u → S i t u) → AreRelated R ts us → AreRelated S ts us
related_by R S [] [] goes all = tt
related_by R S [] (u ∷ us) goes all = all
related_by R S (t ∷ ts) [] goes all = all
related_by R S (t ∷ ts) (u ∷ us) goes all = (goes 0 t u all.0, related_by (λ (i : ℕ). R (suc i)) (λ (i : ℕ). S (suc i)) ts us (λ i. goes (suc i)) all.1)

-- after some tables
same_after : (query : BoundQuery) (front ts us : List Rows) → AreRelated (λ (i : ℕ). MeanTheSame query (length front + i)) ts us → meaning_over (given (front ++ ts)) query ≡ meaning_over (given (front ++ us)) query
same_after query front [] [] all = refl
same_after query front [] (u ∷ us) all = absurd all
same_after query front (t ∷ ts) [] all = absurd all
same_after query front (t ∷ ts) (u ∷ us) all =
    let first : MeanTheSame query (length front) t u = subst (λ (n : ℕ). MeanTheSame query n t u) (omega arith) all.0 in
    let place : (i : ℕ) → length front + suc i ≡ length (front ++ u ∷ []) + i = λ i. omega (arith, length-append front (u ∷ [])) in
    let rest : AreRelated (λ (i : ℕ). MeanTheSame query (length (front ++ u ∷ []) + i)) ts us =
    related_by (λ (i : ℕ). MeanTheSame query (length front + suc i)) (λ (i : ℕ). MeanTheSame query (length (front ++ u ∷ []) + i)) ts us (λ i x y same. subst (λ (n : ℕ). MeanTheSame query n x y) (place i) same) all.1 in
    same_table query front ts t u first
    ∙ ap (λ (l : List Rows). meaning_over (given l) query) (sym (append_assoc front (u ∷ []) ts))
    ∙ same_after query (front ++ u ∷ []) ts us rest
    ∙ ap (λ (l : List Rows). meaning_over (given l) query) (append_assoc front (u ∷ []) us)

-- all tables
pub same_tables : (query : BoundQuery) (ts us : List Rows) → AreRelated (MeanTheSame query) ts us → meaning_over (given ts) query ≡ meaning_over (given us) query
same_tables query ts us all =
    same_after query [] ts us (related_by (MeanTheSame query) (λ (i : ℕ). MeanTheSame query (0 + i)) ts us (λ i x y same. subst (λ (n : ℕ). MeanTheSame query n x y) (omega arith) same) all)
