-- The limits of the machine.
use Rattle.std.specs.Prelude.{ℕ, ◌^◌}

-- how many transactions may be open at once
abbrev pub most_transactions : ℕ
most_transactions = 256

-- how many commits and undecided transactions there may be together
abbrev pub most_commits : ℕ
most_commits = 65536

-- how many queries may be open at once
abbrev pub most_queries : ℕ
most_queries = 64

-- numbers of transactions and of queries are below this
abbrev pub number_end : ℕ
number_end = 2 ^ 63

-- how many slots there may be
abbrev pub most_slots : ℕ
most_slots = 16
