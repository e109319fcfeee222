-- The limits of arenas.
use Rattle.std.specs.Prelude.{ℕ}

-- the most nodes in use that an arena allows
abbrev pub most_nodes : ℕ
most_nodes = 16777216

-- the most numbers of chains in an arena
abbrev pub most_chains : ℕ
most_chains = 4294967295
