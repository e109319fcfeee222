-- Queries: the query that each rule of the grammar yields.
use Rattle.std.specs.Prelude.{ℕ, zero, suc, Bool, true, false, List, [], ◌∷◌, Option, Some, None, Err}
use Rattle.span_lexer.specs.declared.token.Word.TheVariants as word
use Rattle.span_lexer.specs.declared.token.Sign.TheVariants as sign
use Rattle.span_grammar.specs.declared.class.Context.TheVariants as context
use Rattle.span_grammar.specs.declared.class.Sort.TheVariants as sort
use Rattle.span_grammar.specs.declared.grammar.Part.TheVariants as part
use Rattle.span_grammar.specs.declared.judge.Goal.TheVariants as goal
use Rattle.span_grammar.specs.Rules.{most_openings}
use Rattle.span_primary.specs.declared.fault.SyntaxError.TheVariants as fault
use Rattle.span_trees.specs.declared.tree.Spelling.{Spelling}
use Rattle.span_trees.specs.declared.tree.Column.{Column}
use Rattle.span_trees.specs.declared.tree.Expr.{Expr}
use Rattle.span_parser.specs.declared.tree.Output.{Output}
use Rattle.span_parser.specs.declared.tree.Output.TheVariants as output_item
use Rattle.span_parser.specs.declared.tree.SortKey.{SortKey}
use Rattle.span_parser.specs.declared.tree.SortColumn.{SortColumn}
use Rattle.span_parser.specs.declared.tree.SortColumn.TheVariants as by
use Rattle.span_parser.specs.declared.tree.Limit.{Limit}
use Rattle.span_parser.specs.declared.tree.Item.{Item}
use Rattle.span_parser.specs.declared.tree.Item.TheVariants as source
use Rattle.span_parser.specs.declared.tree.Join.{Join, roll-Join}
use Rattle.span_parser.specs.declared.tree.Block.{Block, roll-Block}
use Rattle.span_parser.specs.declared.tree.Query.{Query, roll-Query}
use Rattle.span_primary.specs.Phrases.{Phrase, token, nothing, ◌<$>◌, ◌>>=◌, ◌>>◌, either, optional, each, pair_with, opening}
use Rattle.span_primary.specs.Expressions.{value_of, integer_of, spelling, column, direction, in_parentheses, after, expression}
use Rattle.span_syntax.specs.Parsed.{ParsesAs}

-- ---- names

unfoldable pub as_name : List ℕ → Phrase Spelling
as_name text = token (sort.Word word.As) >> spelling text sort.Name

-- [[AS] name]
unfoldable pub alias : List ℕ → Phrase (Option Spelling)
alias text = either part.AsName (Some <$> as_name text) (optional (part.Token sort.Name) (spelling text sort.Name))

-- [AS] name
unfoldable pub required_alias : List ℕ → Phrase Spelling
required_alias text = either part.AsName (as_name text) (spelling text sort.Name)

-- ---- ORDER BY and LIMIT

unfoldable pub sort_column : List ℕ → Phrase SortColumn
sort_column text =
    either (part.Token sort.Name) (by.Name <$> spelling text sort.Name)
    ((λ t. by.Place (integer_of false t)) <$> token sort.Int)

unfoldable pub sort_key : List ℕ → Phrase SortKey
sort_key text = do
  column ← sort_column text
  (λ is_descending. record { column = column; is_descending = is_descending }) <$> direction

unfoldable pub sort_key_more : List ℕ → Phrase SortKey
sort_key_more text = token (sort.Sign sign.Comma) >> sort_key text

unfoldable pub sort_keys : List ℕ → Phrase (List SortKey)
sort_keys text = sort_key text >>= (λ first. (λ more. first ∷ more) <$> each part.SortKeyMore (sort_key_more text))

unfoldable pub order_by : List ℕ → Phrase (List SortKey)
order_by text = token (sort.Word word.Order) >> (token (sort.Word word.By) >> sort_keys text)

unfoldable pub maybe_order_by : List ℕ → Phrase (List SortKey)
maybe_order_by text = either part.OrderBy (order_by text) (nothing [])

unfoldable pub skip : Phrase ℕ
skip = token (sort.Context context.Offset) >> ((λ t. value_of t.token.kind) <$> token sort.Int)

unfoldable pub maybe_skip : Phrase ℕ
maybe_skip = either part.Skip skip (nothing 0)

unfoldable pub limit_clause : Phrase Limit
limit_clause = do
  token (sort.Word word.Limit)
  rows ← token sort.Int
  (λ skip. record { rows = value_of rows.token.kind; skip = skip }) <$> maybe_skip

unfoldable pub maybe_limit : Phrase (Option Limit)
maybe_limit = optional part.Limit limit_clause

-- ---- the clauses of a block

-- [ALL | DISTINCT]: whether it is DISTINCT
unfoldable pub quantifier : Phrase Bool
quantifier =
    either (part.Token (sort.Word word.All)) ((λ t. false) <$> token (sort.Word word.All))
    (either (part.Token (sort.Word word.Distinct)) ((λ t. true) <$> token (sort.Word word.Distinct)) (nothing false))

unfoldable pub column_more : List ℕ → Phrase Column
column_more text = token (sort.Sign sign.Comma) >> column text

unfoldable pub columns : List ℕ → Phrase (List Column)
columns text = column text >>= (λ first. (λ more. first ∷ more) <$> each part.ColumnMore (column_more text))

unfoldable pub group_by : List ℕ → Phrase (List Column)
group_by text = token (sort.Word word.Group) >> (token (sort.Word word.By) >> columns text)

unfoldable pub maybe_group_by : List ℕ → Phrase (List Column)
maybe_group_by text = either part.GroupBy (group_by text) (nothing [])

unfoldable pub all_of_table : List ℕ → Phrase Output
all_of_table text = do
  name ← spelling text sort.AllOf
  token (sort.Sign sign.Dot)
  (λ t. output_item.AllOf name) <$> token (sort.Sign sign.Star)

unfoldable pub maybe_outer : Phrase Bool
maybe_outer = either (part.Token (sort.Word word.Outer)) ((λ t. true) <$> token (sort.Word word.Outer)) (nothing false)

unfoldable pub left_join : Phrase Bool
left_join = do
  token (sort.Word word.Left)
  maybe_outer
  (λ t. true) <$> token (sort.Word word.Join)

unfoldable pub inner_join : Phrase Bool
inner_join = token (sort.Word word.Inner) >> ((λ t. false) <$> token (sort.Word word.Join))

-- whether it is a LEFT JOIN
unfoldable pub join_kind : Phrase Bool
join_kind =
    either part.InnerJoin inner_join
    (either (part.Token (sort.Word word.Join)) ((λ t. false) <$> token (sort.Word word.Join))
    left_join)

unfoldable pub maybe_semicolon : Phrase Bool
maybe_semicolon = either (part.Token sort.AnySemicolon) ((λ t. true) <$> token sort.AnySemicolon) (nothing false)

-- ---- what the rules of queries make

unfoldable pub join_of : Bool → Item → Expr → Join
join_of is_left item on = roll-Join (record { is_left = is_left; item = item; on = on })

-- the conditions of a block: WHERE, the columns of GROUP BY, and HAVING
abbrev pub Conditions : Type 0
Conditions = Option Expr × (List Column × Option Expr)

unfoldable pub block_of : Bool → List Output × (Item × (List Join × Conditions)) → Block
block_of is_distinct parts = roll-Block (record {
  is_distinct = is_distinct;
  outputs = parts.0;
  from = parts.1.0;
  joins = parts.1.1.0;
  filter = parts.1.1.1.0;
  groups = parts.1.1.1.1.0;
  having = parts.1.1.1.1.1;
})

unfoldable pub query_of : Block × (List Block × (List SortKey × Option Limit)) → Query
query_of parts = roll-Query (record { first = parts.0; others = parts.1.0; order = parts.1.1.0; limit = parts.1.1.1 })

-- ORDER BY and LIMIT
unfoldable pub order_and_limit : List ℕ → Phrase (List SortKey × Option Limit)
order_and_limit text = maybe_order_by text >>= (λ order. pair_with order maybe_limit)

-- ---- what has expressions in it; the text, and the number of openings left

module _ (text : List ℕ) (left : ℕ) where
  abbrev pub expr : Phrase Expr
  expr = expression text left (after text left)

  unfoldable pub where_clause : Phrase Expr
  where_clause = token (sort.Word word.Where) >> expr

  unfoldable pub maybe_where : Phrase (Option Expr)
  maybe_where = optional part.Where where_clause

  unfoldable pub having : Phrase Expr
  having = token (sort.Word word.Having) >> expr

  unfoldable pub maybe_having : Phrase (Option Expr)
  maybe_having = optional part.Having having

  unfoldable pub output_expression : Phrase Output
  output_expression = expr >>= (λ value. (λ both. output_item.Value both.0 both.1) <$> pair_with value (alias text))

  unfoldable pub output : Phrase Output
  output =
      either (part.Token (sort.Sign sign.Star)) ((λ t. output_item.All) <$> token (sort.Sign sign.Star))
      (either part.AllOfTable (all_of_table text) output_expression)

  unfoldable pub output_more : Phrase Output
  output_more = token (sort.Sign sign.Comma) >> output

  unfoldable pub outputs : Phrase (List Output)
  outputs = output >>= (λ first. (λ all. all.0 ∷ all.1) <$> pair_with first (each part.OutputMore output_more))

  -- ON expr
  unfoldable pub join_on : Phrase Expr
  join_on = token (sort.Word word.On) >> expr

  -- the columns of GROUP BY, and HAVING
  unfoldable pub block_groups : Phrase (List Column × Option Expr)
  block_groups = maybe_group_by text >>= (λ groups. pair_with groups maybe_having)

  -- WHERE, and what is after it
  unfoldable pub block_filter : Phrase Conditions
  block_filter = maybe_where >>= (λ filter. pair_with filter block_groups)

  -- ---- queries; also what is a query one opening deeper

  module _ (query_inside : Phrase Query) where
    unfoldable pub subquery : Phrase Query
    subquery = opening left (sort.Sign sign.Open) (in_parentheses query_inside)

    unfoldable pub named_item : Phrase Item
    named_item = spelling text sort.Name >>= (λ name. source.Table name <$> alias text)

    unfoldable pub derived_item : Phrase Item
    derived_item =
        subquery >>= (λ query. (λ both. source.Derived both.0 both.1) <$> pair_with query (required_alias text))

    unfoldable pub item : Phrase Item
    item = either part.NamedItem named_item derived_item

    unfoldable pub join : Phrase Join
    join =
        join_kind >>= (λ is_left. item
        >>= (λ joined. (λ both. join_of is_left both.0 both.1) <$> pair_with joined join_on))

    -- the joins, and what is after them
    unfoldable pub block_joins : Phrase (List Join × Conditions)
    block_joins = each part.Join join >>= (λ joins. pair_with joins block_filter)

    -- FROM, and what is after it
    unfoldable pub block_from : Phrase (Item × (List Join × Conditions))
    block_from = token (sort.Word word.From) >> (item >>= (λ from. pair_with from block_joins))

    -- what is after SELECT
    unfoldable pub block_body : Phrase Block
    block_body =
        quantifier >>= (λ is_distinct. outputs
        >>= (λ output_list. block_of is_distinct <$> pair_with output_list block_from))

    unfoldable pub block : Phrase Block
    block = token (sort.Word word.Select) >> block_body

    unfoldable pub union_more : Phrase Block
    union_more = token (sort.Word word.Union) >> (token (sort.Word word.All) >> block)

    -- the other blocks, and what is after them
    unfoldable pub unions : Phrase (List Block × (List SortKey × Option Limit))
    unions = each part.UnionMore union_more >>= (λ others. pair_with others (order_and_limit text))

    unfoldable pub query : Phrase Query
    query = block >>= (λ first. query_of <$> pair_with first unions)

pub no_spelling : Spelling
no_spelling = record { text = []; span = record { start = 0; end = 0 } }

pub no_block : Block
no_block =
    roll-Block (record {
      is_distinct = false;
      outputs = [];
      from = source.Table no_spelling None;
      joins = [];
      filter = None;
      groups = [];
      having = None;
    })

-- a query after an opening, with a number of openings left
unfoldable pub nested_query : List ℕ → ℕ → Phrase Query
nested_query text zero = record {
  of = λ x. roll-Query (record { first = no_block; others = []; order = []; limit = None });
  read = λ ts. Err (fault.TooDeep 0);
}
nested_query text (suc n) = query text n (nested_query text n)

-- the query of a text, with a semicolon or none
unfoldable pub statement : List ℕ → ℕ → Phrase Query
statement text n = query text n (nested_query text n) >>= (λ q. (λ both. both.0) <$> pair_with q maybe_semicolon)

-- the text has a tree, and the query is that of the tree
abbrev pub IsQuery : List ℕ → Query → Type 0
IsQuery text query = ParsesAs goal.Statement (statement text most_openings).of text query
