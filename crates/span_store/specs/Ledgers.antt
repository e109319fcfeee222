-- Blanks on which ledgers of steps are opened.
use Rattle.std.specs.Prelude.{◌≡◌, ◌<◌, ℕ}

-- the ledger of this name and of these parts can be opened on a blank of that name and of those parts
abbrev pub Opens : ℕ → ℕ → ℕ → ℕ → Type 0
Opens name parts blank_name blank_parts = (blank_name ≡ name) × (blank_parts ≡ parts) × (0 < blank_parts)
