-- What holds of each part that the binder makes of a tree, where it follows from what holds of the parts below, holds of the whole. Such
-- facts may speak of all leaves, since those found so far are the first of them.
use Rattle.std.proofs.Common.{◌≡◌, ◌∙◌, sym, ap, refl, subst, ℕ, ◌+◌, true, false, Bool, if◌then◌else◌, List, [], ◌∷◌, ◌++◌, length, Option, Some, None, Result, Ok, Err, arith, append_assoc}
use Rattle.std.specs.Prelude.{IfSome, cond, nat_le, nat_lt}
use Rattle.std.specs.Option.{option_map}
use Rattle.std.specs.List.{AllByRecursion, position_or_len}
use Rattle.std.proofs.lemmas.Bool.Decides.{nat_tests}
use Rattle.std.proofs.lemmas.List.{append-nil}
use Rattle.span_value.specs.declared.refusal.Refusal.{Refusal}
use Rattle.span_value.specs.declared.refusal.Refusal.TheVariants.{TooManyTables}
use Rattle.span_schema.specs.declared.table.Table.{Table}
use Rattle.span_schema.specs.Tables.{is_same_name}
use Rattle.span_schema.specs.Numbers.{IsTable, number_named}
use Rattle.span_trees.specs.declared.tree.Spelling.{Spelling}
use Rattle.span_trees.specs.declared.tree.Expr.{Expr}
use Rattle.span_parser.specs.declared.tree.SortKey.{SortKey}
use Rattle.span_parser.specs.declared.tree.Limit.{Limit}
use Rattle.span_parser.specs.declared.tree.Query.{Query}
use Rattle.span_parser.specs.declared.tree.Item.TheOpen.{Query-F, Block-F}
use Rattle.span_params.specs.declared.params.Parameter.{Parameter}
use Rattle.span_value.specs.Results.{and_then}
use Rattle.span_blocks.specs.declared.bound.Source.{Source}
use Rattle.span_blocks.specs.declared.bound.FromItems.{FromItems}
use Rattle.span_blocks.specs.declared.bound.TypedQuery.{TypedQuery}
use Rattle.span_blocks.specs.declared.bound.BoundBlock.{BoundBlock}
use Rattle.span_blocks.specs.declared.bound.BoundBlocks.{BoundBlocks}
use Rattle.span_blocks.specs.Onward.{fold_results}
use Rattle.span_blocks.specs.Sources.{name_or_alias, table_source, numbered_source, most_table_names, named_source, derived_source, start_from, add_item}
use Rattle.span_blocks.specs.Blocks.{BlockTail, block_tail_of, bind_block}
use Rattle.span_binder.specs.Queries.{only_block, with_block, bind_query, ItemStep, JoinStep, BlockStep, QueryStep, next_join, from, block_at, next_block, blocks, query_at, query_step}
use Rattle.span_binder.proofs.ByParts.{query_holds}
use Rattle.span_soundness.proofs.Agreeing.{Made}

-- a name is of a table of the schema
named_is : (schema : List Table) (name : List ℕ) → IfSome (number_named schema name) (IsTable schema)
named_is schema name = go (position_or_len (λ (t : Table). is_same_name t.name name) schema) (nat_lt (position_or_len (λ (t : Table). is_same_name t.name name) schema) (length schema)) refl where
  go : (place : ℕ) (b : Bool) → nat_lt place (length schema) ≡ b → IfSome (option_map (λ (p : ℕ). p + 1) (cond b (Some place) None)) (IsTable schema)
  go place true is = (omega arith, grind (arith, nat_tests))
  go place false is = tt

module _ (schema : List Table) (all : List ℕ) where
  -- the leaves found so far are the first of all
  abbrev pub IsFront : List ℕ → Type 0
  IsFront found = (later : List ℕ) × (all ≡ found ++ later)

  shorter_front : (found new whole : List ℕ) → whole ≡ found ++ new → IsFront whole → IsFront found
  shorter_front found new whole is front = (new ++ front.0, front.1 ∙ ap (λ (l : List ℕ). l ++ front.0) is ∙ append_assoc found new front.0)

  -- what a step leads to: more leaves after those found before, which are tables, and something of which this holds, if the leaves are the
  -- first of all
  abbrev LeadsTo : {A : Type 0} → (A → Type 0) → List ℕ → Result (A × List ℕ) Refusal → Type 0
  LeadsTo R found (Ok p) = (new : List ℕ) × (p.1 ≡ found ++ new) × AllByRecursion (IsTable schema) new × (IsFront p.1 → R p.0)
  LeadsTo R found (Err why) = Unit {0}

  both_tables : (found new : List ℕ) → AllByRecursion (IsTable schema) found → AllByRecursion (IsTable schema) new → AllByRecursion (IsTable schema) (found ++ new)
  both_tables [] new are more = more
  both_tables (n ∷ found) new are more = (are.0, both_tables found new are.1 more)

  from_further : {A : Type 0} (R : A → Type 0) (found new whole : List ℕ) (o : Result (A × List ℕ) Refusal) → whole ≡ found ++ new → AllByRecursion (IsTable schema) new → LeadsTo R whole o → LeadsTo R found o
  from_further R found new whole (Err why) is are leads = tt {0}
  from_further R found new whole (Ok p) is are leads = (
    new ++ leads.0,
    leads.1 ∙ ap (λ (l : List ℕ). l ++ leads.0) is ∙ append_assoc found new leads.0,
    both_tables new leads.0 are leads.2,
    leads.3,
  )

  then_leads : {A B : Type 0} (R : A → Type 0) (S : B → Type 0) (found : List ℕ) (o : Result (A × List ℕ) Refusal) (next : A × List ℕ → Result (B × List ℕ) Refusal) → LeadsTo R found o → ((p : A × List ℕ) → (IsFront p.1 → IsFront found) → (IsFront p.1 → R p.0) → LeadsTo S p.1 (next p)) → LeadsTo S found (and_then o next)
  then_leads R S found (Err why) next leads follows = tt {0}
  then_leads R S found (Ok p) next leads follows = from_further S found leads.0 p.1 (next p) leads.1 leads.2 (follows p (shorter_front found leads.0 p.1 leads.1) leads.3)

  here_leads : {A : Type 0} (R : A → Type 0) (x : A) (found : List ℕ) → (IsFront found → R x) → LeadsTo R found (Ok (x, found))
  here_leads R x found is = ([], sym (append-nil found), tt {0}, is)

  made_leads : {A : Type 0} (R : A → Type 0) (r : Result A Refusal) (found : List ℕ) → (IsFront found → Made R r) → LeadsTo R found (and_then r (λ x. Ok (x, found)))
  made_leads R (Ok x) found is = here_leads R x found is
  made_leads R (Err why) found is = tt {0}

  onward_leads : {A X : Type 0} (R : A → Type 0) (P : X → Type 0) (step : A × List ℕ → X → Result (A × List ℕ) Refusal) → ((p : A × List ℕ) (x : X) → P x → (IsFront p.1 → R p.0) → LeadsTo R p.1 (step p x)) → (xs : List X) → AllByRecursion P xs → (p : A × List ℕ) → (IsFront p.1 → R p.0) → LeadsTo R p.1 (fold_results step xs p)
  onward_leads R P step keeps [] are p is = here_leads R p.0 p.1 is
  onward_leads R P step keeps (x ∷ xs) are p is = then_leads R R p.1 (step p x) (fold_results step xs) (keeps p x are.0 is) (λ q back q_is. onward_leads R P step keeps xs are.1 q q_is)

  -- what holds of the parts, and that each follows from those below it
  module _
      (params : List Parameter) (SourceIs : Source → Type 0) (FromIs : FromItems → Type 0) (BlockIs : BoundBlock → Type 0) (BoundIs : TypedQuery → Type 0)
      (table_is : (name found : List ℕ) (n : ℕ) → IsFront (found ++ n ∷ []) → SourceIs (table_source schema name (length found + 1) n))
      (derived_is : (name : Spelling) (q : TypedQuery) → BoundIs q → SourceIs (derived_source name q))
      (started_is : (s : Source) → SourceIs s → FromIs (start_from s))
      (extended_is : (f : FromItems) (is_left : Bool) (s : Source) (on : Expr) → FromIs f → SourceIs s → Made FromIs (add_item params f is_left s on))
      (block_is : (b : BlockTail) (f : FromItems) → FromIs f → Made BlockIs (bind_block params b f))
      (query_is : (b : BoundBlocks) (order : List SortKey) (limit : Option Limit) → BlockIs b.first → AllByRecursion BlockIs b.others → Made BoundIs (bind_query b order limit))
    where
      abbrev BlocksAre : BoundBlocks → Type 0
      BlocksAre b = BlockIs b.first × AllByRecursion BlockIs b.others

      abbrev ItemSound : ItemStep → Type 0
      ItemSound s = (found : List ℕ) → LeadsTo SourceIs found (s found)

      abbrev JoinSound : JoinStep → Type 0
      JoinSound j = ItemSound j.item

      abbrev BlockSound : BlockStep → Type 0
      BlockSound s = (found : List ℕ) → LeadsTo BlockIs found (s found)

      abbrev QuerySound : QueryStep → Type 0
      QuerySound s = (found : List ℕ) → LeadsTo BoundIs found (s found)

      -- ---- items

      numbered_sound : (name : List ℕ) (o : Option ℕ) (found : List ℕ) → IfSome o (IsTable schema) → LeadsTo SourceIs found (numbered_source schema name o found)
      numbered_sound name None found is = tt {0}
      numbered_sound name (Some n) found is = (n ∷ [], refl, (is, tt {0}), table_is name found n)

      table_sound : (name : Spelling) (alias : Option Spelling) → ItemSound (named_source schema name alias)
      table_sound name alias found = go (nat_le most_table_names (length found)) where
        go : (b : Bool) → LeadsTo SourceIs found (if b then Err TooManyTables else numbered_source schema (name_or_alias name alias) (number_named schema name.text) found)
        go true = tt {0}
        go false = numbered_sound (name_or_alias name alias) (number_named schema name.text) found (named_is schema name.text)

      derived_sound : (q : QueryStep) (name : Spelling) → QuerySound q → ItemSound (λ found. and_then (q found) (λ p. Ok (derived_source name p.0, p.1)))
      derived_sound q name is found = then_leads BoundIs SourceIs found (q found) (λ p. Ok (derived_source name p.0, p.1)) (is found) (λ p back p_is. here_leads SourceIs (derived_source name p.0) p.1 (λ front. derived_is name p.0 (p_is front)))

      -- ---- blocks

      join_sound : (p : FromItems × List ℕ) (j : JoinStep) → JoinSound j → (IsFront p.1 → FromIs p.0) → LeadsTo FromIs p.1 (next_join params p j)
      join_sound p j j_is p_is = then_leads SourceIs FromIs p.1 (j.item p.1) (λ q. and_then (add_item params p.0 j.is_left q.0 j.on) (λ f. Ok (f, q.1))) (j_is p.1)
          (λ q back q_is. made_leads FromIs (add_item params p.0 j.is_left q.0 j.on) q.1 (λ front. extended_is p.0 j.is_left q.0 j.on (p_is (back front)) (q_is front)))

      from_sound : (first : ItemStep) (joins : List JoinStep) (found : List ℕ) → ItemSound first → AllByRecursion JoinSound joins → LeadsTo FromIs found (from params first joins found)
      from_sound first joins found first_is joins_are = then_leads FromIs FromIs found (and_then (first found) (λ p. Ok (start_from p.0, p.1))) (fold_results (next_join params) joins)
          (then_leads SourceIs FromIs found (first found) (λ p. Ok (start_from p.0, p.1)) (first_is found) (λ p back p_is. here_leads FromIs (start_from p.0) p.1 (λ front. started_is p.0 (p_is front))))
          (λ p back p_is. onward_leads FromIs JoinSound (next_join params) join_sound joins joins_are p p_is)

      block_sound : (b : Block-F ItemStep BlockStep JoinStep QueryStep) → ItemSound b.from → AllByRecursion JoinSound b.joins → BlockSound (block_at params b)
      block_sound b from_is joins_are found = then_leads FromIs BlockIs found (from params b.from b.joins found) (λ p. and_then (bind_block params (block_tail_of (λ (j : JoinStep). j.on) b) p.0) (λ x. Ok (x, p.1))) (from_sound b.from b.joins found from_is joins_are)
          (λ p back p_is. made_leads BlockIs (bind_block params (block_tail_of (λ (j : JoinStep). j.on) b) p.0) p.1 (λ front. block_is (block_tail_of (λ (j : JoinStep). j.on) b) p.0 (p_is front)))

      -- ---- queries

      all_following : (xs : List BoundBlock) (x : BoundBlock) → AllByRecursion BlockIs xs → BlockIs x → AllByRecursion BlockIs (xs ++ x ∷ [])
      all_following [] x are is = (is, tt {0})
      all_following (y ∷ ys) x are is = (are.0, all_following ys x are.1 is)

      next_block_sound : (p : BoundBlocks × List ℕ) (b : BlockStep) → BlockSound b → (IsFront p.1 → BlocksAre p.0) → LeadsTo BlocksAre p.1 (next_block p b)
      next_block_sound p b b_is p_is = then_leads BlockIs BlocksAre p.1 (b p.1) (λ q. Ok (with_block p.0 q.0, q.1)) (b_is p.1)
          (λ q back q_is. here_leads BlocksAre (with_block p.0 q.0) q.1 (λ front. ((p_is (back front)).0, all_following p.0.others q.0 (p_is (back front)).1 (q_is front))))

      blocks_sound : (first : BlockStep) (others : List BlockStep) (found : List ℕ) → BlockSound first → AllByRecursion BlockSound others → LeadsTo BlocksAre found (blocks first others found)
      blocks_sound first others found first_is others_are = then_leads BlocksAre BlocksAre found (and_then (first found) (λ p. Ok (only_block p.0, p.1))) (fold_results next_block others)
          (then_leads BlockIs BlocksAre found (first found) (λ p. Ok (only_block p.0, p.1)) (first_is found) (λ p back p_is. here_leads BlocksAre (only_block p.0) p.1 (λ front. (p_is front, tt {0}))))
          (λ p back p_is. onward_leads BlocksAre BlockSound next_block next_block_sound others others_are p p_is)

      query_sound : (q : Query-F ItemStep BlockStep JoinStep QueryStep) → BlockSound q.first → AllByRecursion BlockSound q.others → QuerySound (query_at q)
      query_sound q first_is others_are found = then_leads BlocksAre BoundIs found (blocks q.first q.others found) (λ p. and_then (bind_query p.0 q.order q.limit) (λ b. Ok (b, p.1))) (blocks_sound q.first q.others found first_is others_are)
          (λ p back p_is. made_leads BoundIs (bind_query p.0 q.order q.limit) p.1 (λ front. query_is p.0 q.order q.limit (p_is front).0 (p_is front).1))

      tree_sound : (q : Query) → QuerySound (query_step schema params q)
      tree_sound = query_holds schema params ItemSound BlockSound QuerySound table_sound derived_sound block_sound query_sound

      -- the leaves are tables, and what the binder makes of the whole tree is so
      pub bound_is : (q : Query) (b : TypedQuery) → query_step schema params q [] ≡ Ok (b, all) → AllByRecursion (IsTable schema) all × BoundIs b
      bound_is q b is =
          let leads : LeadsTo BoundIs [] (Ok (b, all)) = subst (LeadsTo BoundIs []) is (tree_sound q []) in
          (subst (AllByRecursion (IsTable schema)) (sym leads.1) leads.2, leads.3 ([], sym (append-nil all)))
