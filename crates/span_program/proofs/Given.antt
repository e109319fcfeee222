-- What the getters of matches give, by the rows of the matches.
use Rattle.std.proofs.Common.{◌≡◌, ◌∙◌, ap, [], Option, Bool, false, option_map, codes}
use Rattle.std.specs.Prelude.{unwrap_or}
use Rattle.std.specs.Option.{option_map_or}
use Rattle.std.specs.Str.{bytes_eq}
use Rattle.std.specs.Borrow.{Bor}
use Rattle.clap.specs.Matches.{first_value}
use Rattle.clap.specs.Walk.{Text, first_of, rows_of}
use Rattle.clap.specs.declared.parser.matches.Found.{Found}
use Rattle.clap.proofs.WalkLemmas.{first_value-rows}
use Rattle.span_program.specs.Words.{is_set, value_of}

abbrev pub Lent : Type 0
Lent = Option (Bor Text)

abbrev pub lent_text : Lent → Option Text
lent_text = option_map (λ s. s.now)

-- what was lent is the first value of the row
is_first : (f : Found) (id : Text) (lent : Lent) → lent_text lent ≡ first_value f id → lent_text lent ≡ first_of id (rows_of f)
is_first f id lent e = e ∙ first_value-rows f id

pub value_given : (f : Found) (id : Text) (lent : Lent) → lent_text lent ≡ first_value f id → unwrap_or (lent_text lent) [] ≡ value_of id (rows_of f)
value_given f id lent e = ap (λ (o : Option Text). unwrap_or o []) (is_first f id lent e)

abbrev pub is_true : Option Text → Bool
is_true o = option_map_or (λ text. bytes_eq text (codes "true")) o false

pub set_given : (f : Found) (id : Text) (lent : Lent) → lent_text lent ≡ first_value f id → is_true (lent_text lent) ≡ is_set id (rows_of f)
set_given f id lent e = ap is_true (is_first f id lent e)
