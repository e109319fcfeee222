-- Keys of root tables, by the name of the table.
use Rattle.std.specs.Prelude.{ℕ, Bool, ◌==◌, ◌&&◌, List, Option, Some, None, is_none, if◌then◌else◌}
use Rattle.span_value.specs.Results.{first_cause}
use Rattle.span_value.specs.declared.value.Value.{Value}
use Rattle.span_schema.specs.declared.table.Table.{Table}
use Rattle.span_schema.specs.Numbers.{number_named, root_of, table_at}
use Rattle.span_keycode.specs.Keys.{key_code}
use Rattle.span_checking.specs.Checking.{key_causes}

-- table n is a root table, and nothing keeps the values from being a key of it
abbrev pub is_root_key : List Table → ℕ → Table → List Value → Bool
is_root_key tables n t key = (root_of tables n == n) && is_none (first_cause (key_causes tables n t key))

abbrev pub root_key_at : List Table → ℕ → Option Table → List Value → Option (List ℕ)
root_key_at tables n None key = None
root_key_at tables n (Some t) key = if is_root_key tables n t key then Some (key_code tables n key) else None

abbrev pub root_key_in : List Table → Option ℕ → List Value → Option (List ℕ)
root_key_in tables None key = None
root_key_in tables (Some n) key = root_key_at tables n (table_at tables n) key

-- the coding of the key with these values of the root table with this name, if there is such a table, and they are a
-- key of it
abbrev pub root_key : List Table → List ℕ → List Value → Option (List ℕ)
root_key tables name key = root_key_in tables (number_named tables name) key
