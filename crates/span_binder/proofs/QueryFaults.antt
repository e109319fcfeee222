-- A query is refused for its names, its types and its groups: 10 to 20.
use Rattle.std.proofs.Common.{◌≡◌, ◌≢◌, ◌⊎◌, inl, inr, refl, subst, Bool, ◌||◌, ◌==◌, List, [], ◌∷◌, ◌++◌, length, ℕ, nat_lt, Option, Some, None, Result, Ok, Err, IfErr, arith}
use Rattle.std.specs.Prelude.{nat_le}
use Rattle.std.specs.List.{AllByRecursion}
use Rattle.span_value.specs.declared.value.Kind.TheVariants as kind
use Rattle.span_value.specs.declared.refusal.Refusal.{Refusal}
use Rattle.span_value.specs.declared.refusal.Refusal.TheVariants as refusal
use Rattle.span_value.specs.Results.{and_then}
use Rattle.span_schema.specs.declared.table.Table.{Table}
use Rattle.span_schema.specs.Numbers.{number_named}
use Rattle.span_grammar.specs.declared.judge.Goal.TheVariants as goal
use Rattle.span_grammar.specs.Judged.{IsRefused}
use Rattle.span_trees.specs.declared.tree.Spelling.{Spelling}
use Rattle.span_trees.specs.declared.tree.Column.{Column}
use Rattle.span_trees.specs.declared.tree.Expr.{Expr}
use Rattle.span_parser.specs.declared.tree.Output.{Output}
use Rattle.span_parser.specs.declared.tree.Output.TheVariants as output
use Rattle.span_parser.specs.declared.tree.SortKey.{SortKey}
use Rattle.span_parser.specs.declared.tree.SortColumn.{SortColumn}
use Rattle.span_parser.specs.declared.tree.SortColumn.TheVariants as sort
use Rattle.span_parser.specs.declared.tree.Limit.{Limit}
use Rattle.span_parser.specs.declared.tree.Query.{Query}
use Rattle.span_parser.specs.declared.tree.Item.TheOpen.{Query-F, Block-F, Item-F}
use Rattle.span_query.specs.declared.query.OutputColumn.{OutputColumn}
use Rattle.span_query.specs.declared.query.Statement.{Statement}
use Rattle.span_query.specs.declared.query.Aggregate.{Aggregate}
use Rattle.span_params.specs.declared.params.Parameter.{Parameter}
use Rattle.span_typing.specs.declared.scope.Scope.{Scope}
use Rattle.span_operators.specs.declared.typed.Typed.{Typed}
use Rattle.span_operators.specs.declared.typed.Mode.{Mode}
use Rattle.span_operators.specs.declared.typed.Mode.TheVariants.{Rows, Groups}
use Rattle.span_operators.specs.Kinds.{takes}
use Rattle.span_typing.specs.Scopes.{column_place, item_named}
use Rattle.span_operators.specs.Steps.{Gives, pure}
use Rattle.span_typing.specs.Typing.{typing, column_at}
use Rattle.span_blocks.specs.declared.bound.Source.{Source}
use Rattle.span_blocks.specs.declared.bound.FromItems.{FromItems}
use Rattle.span_blocks.specs.declared.bound.BoundBlocks.{BoundBlocks}
use Rattle.span_blocks.specs.Onward.{fold_results, append_result, each_of}
use Rattle.span_blocks.specs.Outputs.{projection, output_name, projected_column, projected_columns, all_places, item_places, project_all, project_item, project_value, project_output, project_next, select_list}
use Rattle.span_blocks.specs.Sources.{name_or_alias, numbered_source, most_table_names, named_source, start_from, has_item, check_bool, condition, with_names, add_item}
use Rattle.span_blocks.specs.Blocks.{groups_named, with_keys, filter_of, having_of, BlockTail, block_tail_of, bind_parts, block_in, group_places, bind_block}
use Rattle.span_blocks.specs.Aggregating.{mode_of}
use Rattle.span_binder.specs.Queries.{are_union_compatible, ordinal, is_column_named, sort_place, sort_key, sort_keys, bind_query, only_block, ItemStep, JoinStep, BlockStep, QueryStep, item_at, next_join, from, block_at, next_block, blocks, query_at, query_step, bound}
use Rattle.span_binder.specs.Faults.{IsTreeFault, IsQueryFault}
use Rattle.span_binder.proofs.ByParts.{query_holds}
use Rattle.span_binder.proofs.Faults.{Faults, no_column, mismatch, then_faults, if_faults, place_faults, column_place_faults, column_at_faults, then_step, result_step, StepFaults, typing_faults}
use Rattle.span_binder.proofs.Understanding.{memory_or_not}

no_table : IsTreeFault refusal.NoTable
no_table = (omega arith, omega arith)

bad_ordinal : IsTreeFault refusal.BadOrdinal
bad_ordinal = (omega arith, omega arith)

duplicate : IsTreeFault refusal.DuplicateAlias
duplicate = (omega arith, omega arith)

too_many : IsTreeFault refusal.TooManyTables
too_many = (omega arith, omega arith)

differ : IsTreeFault refusal.ColumnsDiffer
differ = (omega arith, omega arith)

-- ---- along lists

onward_faults : {A X : Type 0} (step : A → X → Result A Refusal) (P : X → Type 0) → ((a : A) (x : X) → P x → Faults (step a x)) → (xs : List X) → AllByRecursion P xs → (found : A) → Faults (fold_results step xs found)
onward_faults step P each [] all found = tt {0}
onward_faults step P each (x ∷ xs) all found = then_faults (step found x) (fold_results step xs) (each found x all.0) (onward_faults step P each xs all.1)

always : {X : Type 0} (xs : List X) → AllByRecursion (λ (x : X). Unit {0}) xs
always [] = tt {0}
always (x ∷ xs) = (tt {0}, always xs)

each_of_faults : {A X : Type 0} (f : X → Result A Refusal) → ((x : X) → Faults (f x)) → (xs : List X) → Faults (each_of f xs)
each_of_faults {A} {X} f is xs = onward_faults (append_result f) (λ (x : X). Unit {0}) (λ found x u. then_faults (f x) (λ a. Ok (found ++ (a ∷ []))) (is x) (λ a. tt {0})) xs (always xs) []

-- ---- outputs

projected_faults : (scope : Scope) (m : Mode) (place : ℕ) → Faults (projected_column scope m place)
projected_faults scope m place = then_faults (column_at scope m place) _ (column_at_faults scope m place) (λ x. tt {0})

columns_faults : (scope : Scope) (m : Mode) (places : List ℕ) → Faults (projected_columns scope m places)
unfolding projected_columns
columns_faults scope m places = each_of_faults (projected_column scope m) (projected_faults scope m) places

places_faults : (scope : Scope) (item : Option ℕ) → Faults (item_places scope item)
places_faults scope None = no_column
places_faults scope (Some item) = tt {0}

all_faults : (scope : Scope) (m : Mode) → Faults (project_all scope m)
unfolding project_all
all_faults scope m = columns_faults scope m (all_places scope)

all_of_faults : (scope : Scope) (m : Mode) (name : List ℕ) → Faults (project_item scope m name)
unfolding project_item
all_of_faults scope m name = then_faults (item_places scope (item_named scope name)) (projected_columns scope m) (places_faults scope (item_named scope name)) (columns_faults scope m)

value_faults : (scope : Scope) (params : List Parameter) (m : Mode) (e : Expr) (alias : Option Spelling) → StepFaults (project_value scope params m e alias)
unfolding project_value
value_faults scope params m e alias = then_step (typing scope params e m) (λ x. pure (projection (output_name e alias) x ∷ [])) (typing_faults scope params e m) (λ x found. tt {0})

output_faults : (scope : Scope) (params : List Parameter) (m : Mode) (o : Output) → StepFaults (project_output scope params m o)
output_faults scope params m output.All = result_step (project_all scope m) (all_faults scope m)
output_faults scope params m (output.AllOf item) = result_step (project_item scope m item.text) (all_of_faults scope m item.text)
output_faults scope params m (output.Value e alias) = value_faults scope params m e alias

select_faults : (scope : Scope) (params : List Parameter) (m : Mode) (outputs : List Output) → Faults (select_list scope params m outputs)
unfolding select_list
select_faults scope params m outputs = onward_faults (project_next scope params m) (λ (o : Output). Unit {0})
    (λ so_far o u. then_faults (project_output scope params m o so_far.1) _ (output_faults scope params m o so_far.1) (λ p. tt {0})) outputs (always outputs) ([], [])

-- ---- blocks

check_faults : (x : Typed) → Faults (check_bool x)
check_faults x = if_faults (takes kind.Bool x.kind) (Ok x.expr) (Err refusal.TypeMismatch) (tt {0}) mismatch

on_faults : (scope : Scope) (params : List Parameter) (e : Expr) → Faults (condition scope params e)
unfolding condition
on_faults scope params e = then_faults (typing scope params e Rows []) (λ p. check_bool p.0) (typing_faults scope params e Rows []) (λ p. check_faults p.0)

filter_faults : (scope : Scope) (params : List Parameter) (e : Option Expr) → Faults (filter_of scope params e)
unfolding filter_of
filter_faults scope params None = tt {0}
filter_faults scope params (Some e) = then_faults (condition scope params e) _ (on_faults scope params e) (λ x. tt {0})

having_faults : (scope : Scope) (params : List Parameter) (e : Option Expr) (found : List Aggregate) → Faults (having_of scope params e found)
unfolding having_of
having_faults scope params None found = tt {0}
having_faults scope params (Some e) found = then_faults (typing scope params e Groups found) _ (typing_faults scope params e Groups found) (λ p. then_faults (check_bool p.0) _ (check_faults p.0) (λ x. tt {0}))

groups_faults : (scope : Scope) (cs : List Column) → Faults (groups_named scope cs)
unfolding groups_named
groups_faults scope [] = tt {0}
groups_faults scope (c ∷ cs) = then_faults (column_place scope c) _ (column_place_faults scope c) (λ p. groups_faults scope cs)

parts_faults : (scope : Scope) (params : List Parameter) (m : Mode) (b : BlockTail) → Faults (bind_parts scope params m b)
unfolding bind_parts
parts_faults scope params m b = then_faults (select_list scope params m b.outputs) _ (select_faults scope params m b.outputs)
    (λ listed. then_faults (filter_of scope params b.filter) _ (filter_faults scope params b.filter)
    (λ filter. then_faults (groups_named scope b.groups) _ (groups_faults scope b.groups)
    (λ t. then_faults (having_of scope params b.having listed.1) _ (having_faults scope params b.having listed.1) (λ having. tt {0}))))

block_in_faults : (params : List Parameter) (b : BlockTail) (f : FromItems) (keys : List ℕ) → Faults (block_in params b f keys)
unfolding block_in
block_in_faults params b f keys = then_faults (bind_parts (with_keys f.scope keys) params (mode_of b.is_grouped) b) _ (parts_faults (with_keys f.scope keys) params (mode_of b.is_grouped) b) (λ parts. tt {0})

block_faults : (params : List Parameter) (b : BlockTail) (f : FromItems) → Faults (bind_block params b f)
unfolding bind_block
block_faults params b f = block_in_faults params b f (group_places f.scope b.groups)

-- ---- unions and ORDER BY

ordinal_faults : (columns : List OutputColumn) (n : ℕ) → Faults (ordinal columns n)
ordinal_faults columns n = if_faults ((n == 0) || nat_lt (length columns) n) (Err refusal.BadOrdinal) _ bad_ordinal (tt {0})

sort_place_faults : (columns : List OutputColumn) (c : SortColumn) → Faults (sort_place columns c)
unfolding sort_place
sort_place_faults columns (sort.Name name) = place_faults (is_column_named name.text) columns
sort_place_faults columns (sort.Place n) = ordinal_faults columns n.value

sort_key_faults : (columns : List OutputColumn) (k : SortKey) → Faults (sort_key columns k)
sort_key_faults columns k = then_faults (sort_place columns k.column) _ (sort_place_faults columns k.column) (λ p. tt {0})

sort_keys_faults : (columns : List OutputColumn) (ks : List SortKey) → Faults (sort_keys columns ks)
unfolding sort_keys
sort_keys_faults columns ks = each_of_faults (sort_key columns) (sort_key_faults columns) ks

after_faults : (b : BoundBlocks) (order : List SortKey) (limit : Option Limit) → Faults (bind_query b order limit)
unfolding bind_query
after_faults b order limit = if_faults (are_union_compatible b) _ (Err refusal.ColumnsDiffer) (then_faults (sort_keys b.first.columns order) _ (sort_keys_faults b.first.columns order) (λ keys. tt {0})) differ

-- ---- the items of a FROM

numbered_faults : (schema : List Table) (name : List ℕ) (n : Option ℕ) (leaves : List ℕ) → Faults (numbered_source schema name n leaves)
numbered_faults schema name None leaves = no_table
numbered_faults schema name (Some n) leaves = tt {0}

named_faults : (schema : List Table) (name : Spelling) (alias : Option Spelling) (leaves : List ℕ) → Faults (named_source schema name alias leaves)
named_faults schema name alias leaves = if_faults (nat_le most_table_names (length leaves)) (Err refusal.TooManyTables) _ too_many (numbered_faults schema (name_or_alias name alias) (number_named schema name.text) leaves)

add_faults : (params : List Parameter) (f : FromItems) (is_left : Bool) (s : Source) (on : Expr) → Faults (add_item params f is_left s on)
add_faults params f is_left s on = if_faults (has_item f.scope s.name) (Err refusal.DuplicateAlias) _ duplicate (then_faults (condition (with_names f.scope s) params on) _ (on_faults (with_names f.scope s) params on) (λ e. tt {0}))

-- ---- trees of queries

module _ (schema : List Table) (params : List Parameter) where
  abbrev ItemFaults : ItemStep → Type 0
  ItemFaults i = StepFaults i

  abbrev JoinFaults : JoinStep → Type 0
  JoinFaults j = StepFaults j.item

  abbrev BlockFaults : BlockStep → Type 0
  BlockFaults b = StepFaults b

  abbrev QueryFaults : QueryStep → Type 0
  QueryFaults q = StepFaults q

  derived_faults : (q : QueryStep) (name : Spelling) → QueryFaults q → ItemFaults (item_at schema (Item-F.Derived q name))
  derived_faults q name is = λ leaves. then_faults (q leaves) _ (is leaves) (λ p. tt {0})

  join_faults : (so_far : FromItems × List ℕ) (j : JoinStep) → JoinFaults j → Faults (next_join params so_far j)
  join_faults so_far j is = then_faults (j.item so_far.1) _ (is so_far.1) (λ p. then_faults (add_item params so_far.0 j.is_left p.0 j.on) _ (add_faults params so_far.0 j.is_left p.0 j.on) (λ f. tt {0}))

  from_faults : (first : ItemStep) (joins : List JoinStep) → ItemFaults first → AllByRecursion JoinFaults joins → StepFaults (from params first joins)
  from_faults first joins first_is all = λ leaves. then_faults (and_then (first leaves) (λ p. Ok (start_from p.0, p.1))) (fold_results (next_join params) joins)
      (then_faults (first leaves) _ (first_is leaves) (λ p. tt {0})) (onward_faults (next_join params) JoinFaults join_faults joins all)

  block_at_faults : (b : Block-F ItemStep BlockStep JoinStep QueryStep) → ItemFaults b.from → AllByRecursion JoinFaults b.joins → BlockFaults (block_at params b)
  block_at_faults b from_is joins_are = λ leaves. then_faults (from params b.from b.joins leaves) _ (from_faults b.from b.joins from_is joins_are leaves)
      (λ p. then_faults (bind_block params (block_tail_of (λ (j : JoinStep). j.on) b) p.0) _ (block_faults params (block_tail_of (λ (j : JoinStep). j.on) b) p.0) (λ x. tt {0}))

  next_block_faults : (so_far : BoundBlocks × List ℕ) (b : BlockStep) → BlockFaults b → Faults (next_block so_far b)
  next_block_faults so_far b is = then_faults (b so_far.1) _ (is so_far.1) (λ p. tt {0})

  blocks_faults : (first : BlockStep) (others : List BlockStep) → BlockFaults first → AllByRecursion BlockFaults others → StepFaults (blocks first others)
  blocks_faults first others first_is all = λ leaves. then_faults (and_then (first leaves) (λ p. Ok (only_block p.0, p.1))) (fold_results next_block others)
      (then_faults (first leaves) _ (first_is leaves) (λ p. tt {0})) (onward_faults next_block BlockFaults next_block_faults others all)

  query_at_faults : (q : Query-F ItemStep BlockStep JoinStep QueryStep) → BlockFaults q.first → AllByRecursion BlockFaults q.others → QueryFaults (query_at q)
  query_at_faults q first_is others_are = λ leaves. then_faults (blocks q.first q.others leaves) _ (blocks_faults q.first q.others first_is others_are leaves)
      (λ p. then_faults (bind_query p.0 q.order q.limit) _ (after_faults p.0 q.order q.limit) (λ b. tt {0}))

  tree_faults : (q : Query) → QueryFaults (query_step schema params q)
  tree_faults = query_holds schema params ItemFaults BlockFaults QueryFaults (named_faults schema) derived_faults block_at_faults query_at_faults

  bound_faults : (q : Query) → Faults (bound schema params q)
  bound_faults q = then_faults (query_step schema params q []) _ (tree_faults q []) (λ p. tt {0})

-- ---- what bind answers

unless_memory : (o : Result Statement Refusal) (why : Refusal) → (why ≢ refusal.OutOfMemory → o ≡ Err why) → Faults o → (why ≡ refusal.OutOfMemory) ⊎ (why ≢ refusal.OutOfMemory) → (why ≡ refusal.OutOfMemory) ⊎ IsTreeFault why
unless_memory o why is faults (inl memory) = inl memory
unless_memory o why is faults (inr other) = inr (subst Faults (is other) faults)

answered : (o r : Result Statement Refusal) → Gives r o → Faults o → IfErr r (λ (why : Refusal). (why ≡ refusal.OutOfMemory) ⊎ IsTreeFault why)
answered o (Ok q) is faults = tt
answered o (Err why) is faults = unless_memory o why is faults (memory_or_not why)

pub bind_faults : (schema : List Table) (params : List Parameter) (q : Query) (r : Result Statement Refusal) → Gives r (bound schema params q) → IfErr r (λ (why : Refusal). (why ≡ refusal.OutOfMemory) ⊎ IsTreeFault why)
bind_faults schema params q r is = answered (bound schema params q) r is (bound_faults schema params q)

-- ---- what understand answers

pub text_fault : (text : List ℕ) (why : Refusal) → IsRefused goal.Statement text why → (why ≡ refusal.OutOfMemory) ⊎ IsQueryFault why
text_fault text refusal.TextTooLong is = inr (inl (omega arith, omega arith))
text_fault text refusal.BadToken is = inr (inl (omega arith, omega arith))
text_fault text refusal.Syntax is = inr (inl (omega arith, omega arith))
text_fault text refusal.TooDeep is = inr (inl (omega arith, omega arith))
text_fault text refusal.OutOfMemory is = inl refl
text_fault text _ is = absurd is

either_fault : (why : Refusal) → (why ≡ refusal.OutOfMemory) ⊎ IsTreeFault why → (why ≡ refusal.OutOfMemory) ⊎ IsQueryFault why
either_fault why (inl memory) = inl memory
either_fault why (inr fault) = inr (inr fault)

pub tree_part : (r : Result Statement Refusal) → IfErr r (λ (why : Refusal). (why ≡ refusal.OutOfMemory) ⊎ IsTreeFault why) → IfErr r (λ (why : Refusal). (why ≡ refusal.OutOfMemory) ⊎ IsQueryFault why)
tree_part (Ok q) is = tt
tree_part (Err why) is = either_fault why is
