-- What a text must be, over plain tokens and over classes that look ahead: the trees have the same marks.
use Rattle.std.proofs.Common.{◌≡◌, ℕ, zero, suc, inl, inr, false, List, [], ◌++◌, length, refl, arith}
use Rattle.span_grammar.specs.declared.class.Lexeme.{Lexeme}
use Rattle.span_grammar.specs.declared.class.Sort.TheVariants as sort
use Rattle.span_grammar.specs.declared.grammar.Place.{Place}
use Rattle.span_grammar.specs.declared.judge.Goal.{Goal}
use Rattle.span_grammar.specs.declared.judge.Goal.TheVariants as goal
use Rattle.span_grammar.specs.Rules.{Rule, Empty, One, Then, Or, Many, Marks, words}
use Rattle.span_grammar.specs.Grammar.{inside, rule_of, schema_rule, schema_from_table_rest_rule, table_rest_rule, table_more_rule, table_rule, maybe_last_semicolon_rule, nothing_rule, statement_rule}
use Rattle.span_grammar.specs.Goals.{goal_rule}
use Rattle.span_grammar_laws.specs.Written.{written_inside, written_statement, written_schema, written_table}
use Rattle.span_grammar_laws.specs.Laws.{written_rule}
use Rattle.span_grammar_laws.proofs.Languages.{In, then_out, or_out, or_left, or_right}
use Rattle.span_grammar_laws.proofs.Tagging.{begins_all_of, untag_marks}
use Rattle.span_grammar_laws.proofs.Alike.{Tagged, To, From, Alike, tagged_is, untagged_is, semicolon, alike_empty, alike_many, alike_separator, tagged_then, tagged_left, tagged_right, untagged_then, last_to, last_from}
use Rattle.span_grammar_laws.proofs.Parts.{places_alike, statement_alike, table_alike}

places_to : (n : ℕ) (p : Place) → To n (written_inside p) (inside p)
places_to zero p = λ d ms k lt c h. absurd (omega arith)
places_to (suc n) p = (places_alike p).to n (places_to n)

places_from : (text : List ℕ) (n : ℕ) (p : Place) → From text n (written_inside p) (inside p)
places_from text zero p = λ d ms lt h. absurd (omega arith)
places_from text (suc n) p = (places_alike p).from text n (places_from text n)

-- marks of any number
pub tagged : (a b : Rule) → Alike a b → (d : ℕ) (ms : Marks) (k : List Lexeme) → begins_all_of k ≡ false → In written_inside a d ms → Tagged b d ms k
tagged a b x d ms k c h = x.to (length ms) (places_to (length ms)) d ms k (omega arith) c h

pub untagged : (a b : Rule) → Alike a b → (text : List ℕ) (d : ℕ) (ms : Marks) → In inside b d ms → In written_inside a d (untag_marks text ms)
untagged a b x text d ms h = x.from text (length ms) (places_from text (length ms)) d ms (omega arith) h

-- whole texts
pub record Root (a b : Rule) : Type 0 where
  pub to : (d : ℕ) (ms : Marks) → In written_inside a d ms → Tagged b d ms []
  pub from : (text : List ℕ) (d : ℕ) (ms : Marks) → In inside b d ms → In written_inside a d (untag_marks text ms)

abbrev last_written : Rule
last_written = Or semicolon Empty

abbrev last_read : Rule
last_read = Or (One sort.LastSemicolon) Empty

last_tagged : (d : ℕ) (ms : Marks) → In written_inside last_written d ms → Tagged last_read d ms []
last_tagged d ms h = elim (or_out written_inside semicolon Empty d ms h) [
  | inl i ↦ tagged_left (One sort.LastSemicolon) Empty d ms [] (last_to d ms i)
  | inr i ↦ tagged_right (One sort.LastSemicolon) Empty d ms [] (tagged Empty Empty alike_empty d ms [] refl i)
]

last_untagged : (text : List ℕ) (d : ℕ) (ms : Marks) → In inside last_read d ms → In written_inside last_written d (untag_marks text ms)
last_untagged text d ms h = elim (or_out inside (One sort.LastSemicolon) Empty d ms h) [
  | inl i ↦ or_left written_inside semicolon Empty d (untag_marks text ms) (last_from text d ms i)
  | inr i ↦ or_right written_inside semicolon Empty d (untag_marks text ms) (untagged Empty Empty alike_empty text d ms i)
]

abbrev more_written : Rule
more_written = Many (Then semicolon written_table)

abbrev more_read : Rule
more_read = Many (Then (One sort.Separator) table_rule)

more_alike : Alike more_written more_read
unfolding written_table
more_alike = alike_many (alike_separator table_alike refl)

-- table {";" table} [";"]
tables_to : (d : ℕ) (ms : Marks) → In written_inside (Then written_table (Then more_written last_written)) d ms → Tagged (Then table_rule (Then more_read last_read)) d ms []
tables_to d ms h =
    let s = then_out written_inside written_table (Then more_written last_written) d ms h in
    let t = then_out written_inside more_written last_written d s.right s.second in
    let z = last_tagged d t.right t.second in
    let y = tagged more_written more_read more_alike d t.left (words t.right ++ []) z.clear t.first in
    let r = tagged_is (Then more_read last_read) d (t.left ++ t.right) s.right [] t.parts (tagged_then more_read last_read d t.left t.right [] y z) in
    let x = tagged written_table table_rule table_alike d s.left (words s.right ++ []) r.clear s.first in
    tagged_is (Then table_rule (Then more_read last_read)) d (s.left ++ s.right) ms [] s.parts (tagged_then table_rule (Then more_read last_read) d s.left s.right [] x r)

tables_from : (text : List ℕ) (d : ℕ) (ms : Marks) → In inside (Then table_rule (Then more_read last_read)) d ms → In written_inside (Then written_table (Then more_written last_written)) d (untag_marks text ms)
tables_from text d ms h =
    let s = then_out inside table_rule (Then more_read last_read) d ms h in
    let t = then_out inside more_read last_read d s.right s.second in
    untagged_is (Then written_table (Then more_written last_written)) text d (s.left ++ s.right) ms s.parts (untagged_then written_table (Then more_written last_written) text d s.left s.right
    (untagged written_table table_rule table_alike text d s.left s.first)
    (untagged_is (Then more_written last_written) text d (t.left ++ t.right) s.right t.parts (untagged_then more_written last_written text d t.left t.right
    (untagged more_written more_read more_alike text d t.left t.first) (last_untagged text d t.right t.second))))

schema_root : Root written_schema schema_rule
unfolding written_schema schema_rule schema_from_table_rest_rule table_rest_rule table_more_rule maybe_last_semicolon_rule nothing_rule
schema_root = record { to = tables_to; from = tables_from }

statement_root : Root written_statement statement_rule
statement_root = record {
  to = λ d ms h. tagged written_statement statement_rule statement_alike d ms [] refl h;
  from = λ text d ms h. untagged written_statement statement_rule statement_alike text d ms h;
}

pub goal_root : (g : Goal) → Root (written_rule g) (goal_rule g)
unfolding rule_of
goal_root goal.Statement = statement_root
goal_root goal.Schema = schema_root
