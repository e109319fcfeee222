-- How a cell keeps a link to another.
use Rattle.std.specs.Prelude.{ℕ, Option, Some, None, Bool, true, false}

-- the link to a number, if there is one
abbrev pub link_of : Bool → ℕ → Option ℕ
link_of false number = None
link_of true number = Some number
