-- The limits of coded keys.
use Rattle.std.specs.Prelude.{ℕ, ◌+◌, ◌<◌, List, length}
use Rattle.smallvec.specs.SmallVec.{SmallVec}

-- the most bytes of a coded key
abbrev pub longest_key : ℕ
longest_key = 1024

-- how many bytes of a coded key need no allocation
abbrev pub inline_bytes : ℕ
inline_bytes = 32

-- these bytes more do not fit into what is there
abbrev pub IsTooLong : SmallVec ℕ → List ℕ → Type 0
IsTooLong out code = out.capacity < length out.items + length code
