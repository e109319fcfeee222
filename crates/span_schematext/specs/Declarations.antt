-- Declarations: the tables that each rule of the schema grammar yields.
use Rattle.std.specs.Prelude.{ℕ, ◌-◌, Bool, true, false, List, ◌∷◌, Option, Some, None}
use Rattle.std.specs.Str.Lossy.{utf8_lossy}
use Rattle.span_value.specs.declared.value.ColumnType.{ColumnType}
use Rattle.span_value.specs.declared.value.ColumnType.TheVariants as kind
use Rattle.span_lexer.specs.declared.token.Word.TheVariants as word
use Rattle.span_lexer.specs.declared.token.Sign.TheVariants as sign
use Rattle.span_schema.specs.declared.table.Table.{Table}
use Rattle.span_schema.specs.declared.table.Column.{Column}
use Rattle.span_schema.specs.declared.table.KeyColumn.{KeyColumn}
use Rattle.span_schema.specs.declared.table.Parent.{Parent}
use Rattle.span_grammar.specs.declared.class.Lexeme.{Lexeme}
use Rattle.span_grammar.specs.declared.class.Context.TheVariants as context
use Rattle.span_grammar.specs.declared.class.Sort.TheVariants as sort
use Rattle.span_grammar.specs.declared.grammar.Part.TheVariants as part
use Rattle.span_grammar.specs.Classes.{token_bytes}
use Rattle.span_primary.specs.Phrases.{Phrase, token, nothing, ◌<$>◌, ◌>>=◌, ◌>>◌, either, optional, each, opening}
use Rattle.span_primary.specs.Expressions.{value_of, direction}

-- the text of a name
abbrev pub name_of : List ℕ → Lexeme → List ℕ
name_of text t = utf8_lossy (token_bytes text t.token)

unfoldable pub name : List ℕ → Phrase (List ℕ)
name text = name_of text <$> token sort.Name

-- ---- types

abbrev pub at_most : Lexeme → Option ℕ
at_most t = Some (value_of t.token.kind)

abbrev pub no_bound : Lexeme → Option ℕ
no_bound t = None

-- the greatest length; none for MAX
unfoldable pub length_bound : Phrase (Option ℕ)
length_bound =
    either (part.Token sort.Int) (at_most <$> token sort.Int) (no_bound <$> token (sort.Context context.Max))

unfoldable pub in_length : Phrase (Option ℕ)
in_length = length_bound >>= (λ most. (λ t. most) <$> token (sort.Sign sign.Close))

-- whether it is STRING, and else BYTES
unfoldable pub long_kind : Phrase Bool
long_kind =
    either (part.Token (sort.Context context.String)) ((λ t. true) <$> token (sort.Context context.String))
    ((λ t. false) <$> token (sort.Context context.Bytes))

abbrev pub long_of : Bool → Option ℕ → ColumnType
long_of true most = kind.Str most
long_of false most = kind.Bytes most

-- [NOT NULL]: whether NULL is refused
unfoldable pub not_null : Phrase Bool
not_null = token (sort.Word word.Not) >> ((λ t. true) <$> token (sort.Word word.Null))

unfoldable pub maybe_not_null : Phrase Bool
maybe_not_null = either part.NotNull not_null (nothing false)

-- ---- the table above

unfoldable pub no_action : Phrase Bool
no_action = token (sort.Context context.No) >> ((λ t. false) <$> token (sort.Context context.Action))

-- whether it is CASCADE
unfoldable pub action : Phrase Bool
action =
    either (part.Token (sort.Context context.Cascade)) ((λ t. true) <$> token (sort.Context context.Cascade)) no_action

unfoldable pub on_delete : Phrase Bool
on_delete = token (sort.Word word.On) >> (token (sort.Context context.Delete) >> action)

-- without ON DELETE no row is deleted with its parent row
unfoldable pub maybe_on_delete : Phrase Bool
maybe_on_delete = either part.OnDelete on_delete (nothing false)

unfoldable pub maybe_last_semicolon : Phrase Bool
maybe_last_semicolon = either (part.Token sort.LastSemicolon) ((λ t. true) <$> token sort.LastSemicolon) (nothing false)

-- with a number of openings left
module _ (left : ℕ) where
  unfoldable pub length_parenthesis : Phrase (Option ℕ)
  length_parenthesis = opening left (sort.Sign sign.Open) in_length

  unfoldable pub long_type : Phrase ColumnType
  long_type = long_kind >>= (λ is_string. long_of is_string <$> length_parenthesis)

  unfoldable pub column_type : Phrase ColumnType
  column_type =
      either (part.Token (sort.Context context.Int64)) ((λ t. kind.Int) <$> token (sort.Context context.Int64))
      (either (part.Token (sort.Context context.Bool)) ((λ t. kind.Bool) <$> token (sort.Context context.Bool))
      long_type)

module _ (text : List ℕ) where
  unfoldable pub parent : Phrase Parent
  parent = name text >>= (λ above. (λ cascade. record { name = above; cascade = cascade }) <$> maybe_on_delete)

  unfoldable pub in_parent : Phrase Parent
  in_parent = token (sort.Word word.In) >> (token (sort.Context context.Parent) >> parent)

  unfoldable pub interleave : Phrase Parent
  interleave = token (sort.Sign sign.Comma) >> (token (sort.Context context.Interleave) >> in_parent)

  unfoldable pub maybe_interleave : Phrase (Option Parent)
  maybe_interleave = optional part.Interleave interleave

  -- ---- key columns

  unfoldable pub key_column : Phrase KeyColumn
  key_column = name text >>= (λ column. (λ desc. record { name = column; desc = desc }) <$> direction)

  unfoldable pub key_column_more : Phrase KeyColumn
  key_column_more = token (sort.Sign sign.Comma) >> key_column

  unfoldable pub in_key_columns : Phrase (List KeyColumn)
  in_key_columns =
      key_column >>= (λ first. each part.KeyColumnMore key_column_more
      >>= (λ more. (λ t. first ∷ more) <$> token (sort.Sign sign.Close)))

  -- ---- tables, with a number of openings left

  module _ (left : ℕ) where
    unfoldable pub table_column : Phrase Column
    table_column = do
      column ← name text
      type_of ← column_type left
      (λ is_not_null. record { name = column; kind = type_of; not_null = is_not_null }) <$> maybe_not_null

    unfoldable pub table_column_more : Phrase Column
    table_column_more = token (sort.Sign sign.Comma) >> table_column

    unfoldable pub in_table_columns : Phrase (List Column)
    in_table_columns =
        table_column >>= (λ first. each part.TableColumnMore table_column_more
        >>= (λ more. (λ t. first ∷ more) <$> token (sort.Sign sign.Close)))

    unfoldable pub key_columns : Phrase (List KeyColumn)
    key_columns = opening left (sort.Sign sign.Open) in_key_columns

  unfoldable pub table_columns : ℕ → Phrase (List Column)
  table_columns left = opening left (sort.Sign sign.Open) (in_table_columns (left - 1))

  module _ (left : ℕ) where
    -- what is after PRIMARY KEY
    unfoldable pub key_and_parent : List ℕ → List Column → Phrase Table
    key_and_parent table columns =
        key_columns left >>= (λ key. (λ above. record { name = table; columns = columns; key = key; parent = above })
        <$> maybe_interleave)

    -- what is after the columns
    unfoldable pub primary_key : List ℕ → List Column → Phrase Table
    primary_key table columns =
        token (sort.Context context.Primary) >> (token (sort.Context context.Key) >> key_and_parent table columns)

    -- what is after CREATE TABLE
    unfoldable pub named_table : Phrase Table
    named_table = name text >>= (λ table. table_columns left >>= primary_key table)

    unfoldable pub table : Phrase Table
    table = token (sort.Word word.Create) >> (token (sort.Context context.Table) >> named_table)

    unfoldable pub table_more : Phrase Table
    table_more = token sort.Separator >> table

    unfoldable pub tables : Phrase (List Table)
    tables =
        table >>= (λ first. each part.TableMore table_more >>= (λ more. (λ u. first ∷ more) <$> maybe_last_semicolon))
