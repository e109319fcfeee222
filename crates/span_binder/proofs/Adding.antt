-- One more item of a FROM, or one more block of a query, after those before it.
use Rattle.std.proofs.Common.{◌≡◌, ◌≢◌, ℕ, List, Result, Ok, Err, ap, subst, ◌∙◌}
use Rattle.span_value.specs.declared.refusal.Refusal.{Refusal}
use Rattle.span_value.specs.declared.refusal.Refusal.TheVariants.{OutOfMemory}
use Rattle.span_value.specs.Results.{and_then}
use Rattle.span_schema.specs.declared.table.Table.{Table}
use Rattle.span_params.specs.declared.params.Parameter.{Parameter}
use Rattle.span_operators.specs.Steps.{Gives}
use Rattle.span_typing.proofs.Stepping.{not_ok}
use Rattle.span_blocks.specs.declared.bound.BoundBlock.{BoundBlock}
use Rattle.span_blocks.specs.declared.bound.BoundBlocks.{BoundBlocks}
use Rattle.span_blocks.specs.declared.bound.FromItems.{FromItems}
use Rattle.span_blocks.specs.declared.bound.Source.{Source}
use Rattle.span_blocks.specs.Sources.{AreTables, HasTables, add_item}
use Rattle.span_binder.specs.Queries.{JoinStep, BlockStep, next_join, next_block, with_block}

-- what was there before, with what was found after it
abbrev pub paired : {A B : Type 0} → A → Result B Refusal → Result (A × B) Refusal
paired before found = and_then found (λ after. Ok (before, after))

pub ok_is : {A : Type 0} (x y : A) → (let o : Result A Refusal = Ok x in o) ≡ Ok y → x ≡ y
ok_is x y h = cc

-- the leaves that were found are tables
pub found_tables : {A B : Type 0} (schema : List Table) (before x : A) (found : Result (B × List ℕ) Refusal) (y : B × List ℕ) → paired before found ≡ Ok (x, y) → HasTables schema found → AreTables schema y.1
found_tables {A} {B} schema before x (Ok z) y is h = subst (λ (p : A × (B × List ℕ)). AreTables schema p.1.1) (ok_is (before, z) (x, y) is) h
found_tables schema before x (Err why) y is h = absurd (not_ok why (x, y) is)

-- ---- one more item of a FROM

module _ (params : List Parameter) (so_far : FromItems × List ℕ) (j : JoinStep) where
  -- what is left to do, once the item is found
  abbrev added : FromItems × (Source × List ℕ) → Result (FromItems × List ℕ) Refusal
  added p = and_then (add_item params p.0 j.is_left p.1.0 j.on) (λ f. Ok (f, p.1.1))

  step_is : (found : Result (Source × List ℕ) Refusal) (x : FromItems) (y : Source × List ℕ) → Gives found (j.item so_far.1) → paired so_far.0 found ≡ Ok (x, y) → next_join params so_far j ≡ added (x, y)
  step_is (Ok z) x y g is =
      ap (λ (o : Result (Source × List ℕ) Refusal). and_then o (λ p. added (so_far.0, p))) g ∙ ap added (ok_is (so_far.0, z) (x, y) is)
  step_is (Err why) x y g is = absurd (not_ok why (x, y) is)

  pub join_made : (found : Result (Source × List ℕ) Refusal) (x : FromItems) (y : Source × List ℕ) (next : FromItems) → Gives found (j.item so_far.1) → paired so_far.0 found ≡ Ok (x, y)
      → add_item params x j.is_left y.0 j.on ≡ Ok next → next_join params so_far j ≡ Ok (next, y.1)
  join_made found x y next g is made = step_is found x y g is ∙ ap (λ (o : Result FromItems Refusal). and_then o (λ f. let r : Result (FromItems × List ℕ) Refusal = Ok (f, y.1) in r)) made

  pub join_refused : (found : Result (Source × List ℕ) Refusal) (x : FromItems) (y : Source × List ℕ) (why : Refusal) → Gives found (j.item so_far.1) → paired so_far.0 found ≡ Ok (x, y)
      → (why ≢ OutOfMemory → add_item params x j.is_left y.0 j.on ≡ Err why) → why ≢ OutOfMemory → next_join params so_far j ≡ Err why
  join_refused found x y why g is refused n = step_is found x y g is ∙ ap (λ (o : Result FromItems Refusal). and_then o (λ f. let r : Result (FromItems × List ℕ) Refusal = Ok (f, y.1) in r)) (refused n)

-- ---- one more block of a query

pub block_made : (so_far : BoundBlocks × List ℕ) (b : BlockStep) (found : Result (BoundBlock × List ℕ) Refusal) (x : BoundBlocks) (y : BoundBlock × List ℕ) → Gives found (b so_far.1) → paired so_far.0 found ≡ Ok (x, y)
    → next_block so_far b ≡ Ok (with_block x y.0, y.1)
block_made so_far b (Ok z) x y g is =
    ap (λ (o : Result (BoundBlock × List ℕ) Refusal). and_then o (λ p. let r : Result (BoundBlocks × List ℕ) Refusal = Ok (with_block so_far.0 p.0, p.1) in r)) g
    ∙ ap (λ (p : BoundBlocks × (BoundBlock × List ℕ)). let r : Result (BoundBlocks × List ℕ) Refusal = Ok (with_block p.0 p.1.0, p.1.1) in r) (ok_is (so_far.0, z) (x, y) is)
block_made so_far b (Err why) x y g is = absurd (not_ok why (x, y) is)
