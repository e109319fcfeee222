-- How long the coded keys of a table are at most.
use Rattle.std.specs.Prelude.{◌≡◌, ℕ, ◌≤◌, List, length, filter}
use Rattle.std.specs.List.{AllByRecursion}
use Rattle.span_value.specs.declared.value.Kind.{Kind}
use Rattle.span_value.specs.declared.value.Kind.TheVariants as kind
use Rattle.span_schema.specs.declared.table.Table.{Table}
use Rattle.span_keycode.specs.Limits.{longest_key}
use Rattle.span_mutate.specs.declared.row.TableRow.{TableRow}
use Rattle.span_mutate.specs.Typed.{IsTyped}
use Rattle.span_shard.specs.Rows.{code_of}
use Rattle.span_shard.specs.Reading.{has_short_key}
use Rattle.span_shard.specs.Shard.{KeyRow}

-- no value of the kind is coded in more bytes; no key is longer than the longest
abbrev pub longest_value : Kind → ℕ
longest_value kind.Int = 9
longest_value kind.Str = longest_key
longest_value kind.Bytes = longest_key
longest_value kind.Bool = 2

-- no coded key of a row of table n has more bytes
pub record IsLongest (schema : List Table) (n most : ℕ) : Type 0 where
  pub of : (r : TableRow) → IsTyped schema r → r.table ≡ n → length (code_of schema r) ≤ most

-- no coded key of a row of one of the tables has more bytes
abbrev pub AreLongest : List Table → List ℕ → ℕ → Type 0
AreLongest schema tables most = AllByRecursion (λ n. IsLongest schema n most) tables

-- of the entries those are left that have keys of at most some bytes, and no row of one of the tables has a longer key
pub record HaveShortKeys (schema : List Table) (tables : List ℕ) (entries short : List KeyRow) : Type 0 where
  pub most : ℕ
  pub longest : AreLongest schema tables most
  pub are : short ≡ filter (has_short_key most) entries
