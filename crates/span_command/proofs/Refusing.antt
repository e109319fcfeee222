-- Lines that are no command, where the tactics do not find it.
use Rattle.std.proofs.Common.{◌≡◌, ◌≢◌, ℕ, zero, suc, ◌<◌, ◌==◌, ◌&&◌, ◌||◌, Bool, true, false, cond, nat_le, List, [], ◌∷◌, ◌++◌, length, Option, Some, None, refl, sym, ap, ◌∙◌, subst, arith, codes}
use Rattle.std.specs.Fmt.{decimal}
use Rattle.std.specs.List.{list_all}
use Rattle.std.proofs.lemmas.Bool.{and_parts}
use Rattle.span_lexer.specs.Characters.{begins, is_letter, is_digit, is_word}
use Rattle.span_lexer.specs.Lexing.{longest_word}
use Rattle.span_truetime.specs.declared.bound.Bound.{Bound}
use Rattle.span_truetime.specs.declared.bound.Bound.TheVariants as bound
use Rattle.span_value.specs.declared.value.Kind.{Kind}
use Rattle.span_value.specs.declared.value.Kind.TheVariants as kind
use Rattle.span_mutate.specs.declared.mutation.MutationKind.{MutationKind}
use Rattle.span_mutate.specs.declared.mutation.MutationKind.TheVariants as mutation
use Rattle.span_command.specs.declared.command.Command.{Command}
use Rattle.span_command.specs.declared.command.Command.TheVariants as command
use Rattle.span_command.specs.Words.{HasNoSpace, IsWord, IsBound, BoundFits, bound_text, type_name, is_name_text, spaced}
use Rattle.span_command.specs.Commands.{IsCommand, IsReadAs, IsNumberedReadAs, has_only_numbers, write_word}
use Rattle.span_command.proofs.Spaces.{same_parts, parted, decimal_word}

-- ---- the first word of a line, computed

-- two texts are the same
abbrev are_same : List ℕ → List ℕ → Bool
are_same [] [] = true
are_same [] (b ∷ bs) = false
are_same (a ∷ xs) [] = false
are_same (a ∷ xs) (b ∷ bs) = (a == b) && are_same xs bs

-- the bytes before the first space
abbrev before_space : List ℕ → List ℕ
before_space [] = []
before_space (b ∷ bs) = cond (b == 32) [] (b ∷ before_space bs)

abbrev Holds : Bool → Type 0
Holds true = Unit {0}
Holds false = ⊥

-- the line's first word is this
abbrev HasWord : List ℕ → List ℕ → Type 0
HasWord word line = Holds (are_same word (before_space line))

-- the line's first word is that of an insert, an update or an upsert
abbrev HasWriteWord : List ℕ → Type 0
HasWriteWord line = Holds (are_same (codes "insert") (before_space line) || are_same (codes "update") (before_space line) || are_same (codes "upsert") (before_space line))

write_has : (k : MutationKind) (rest : List ℕ) → k ≢ mutation.Delete → HasWriteWord (spaced (write_word k) rest)
write_has mutation.Insert rest good = tt
write_has mutation.Update rest good = tt
write_has mutation.InsertOrUpdate rest good = tt
write_has mutation.Delete rest good = absurd (good refl)

-- ---- words

-- what follows the same beginning is the same
same_rest : (w r s : List ℕ) → spaced w r ≡ spaced w s → r ≡ s
same_rest [] r s e = cc e
same_rest (b ∷ w) r s e = same_rest w r s (cc e)

-- a text without the byte 32, tested
abbrev is_spaceless : List ℕ → Bool
is_spaceless [] = true
is_spaceless (b ∷ bs) = cond (b == 32) false (is_spaceless bs)

spaceless : (w : List ℕ) → is_spaceless w ≡ true → HasNoSpace w
spaceless [] e i l same = absurd (omega arith)
spaceless (b ∷ w) e zero l same = absurd (cc (same, e))
spaceless (b ∷ w) e (suc i) l same = spaceless w (further (b == 32) e) i (omega arith) same
  where
    further : (x : Bool) → cond x false (is_spaceless w) ≡ true → is_spaceless w ≡ true
    further true e = absurd (cc e)
    further false e = e

-- a text that is not empty and has no space
word_of : (w : List ℕ) → 0 < length w → is_spaceless w ≡ true → IsWord w
word_of w some e = ((λ none. absurd (omega (arith, some, ap length none))), spaceless w e)

write_word_word : (k : MutationKind) → IsWord (write_word k)
write_word_word mutation.Insert = word_of (codes "insert") (omega arith) refl
write_word_word mutation.Update = word_of (codes "update") (omega arith) refl
write_word_word mutation.InsertOrUpdate = word_of (codes "upsert") (omega arith) refl
write_word_word mutation.Delete = word_of (codes "delete") (omega arith) refl

kind_word : (k : Kind) → IsWord (type_name k)
kind_word kind.Int = word_of (codes "INT64") (omega arith) refl
kind_word kind.Str = word_of (codes "STRING") (omega arith) refl
kind_word kind.Bytes = word_of (codes "BYTES") (omega arith) refl
kind_word kind.Bool = word_of (codes "BOOL") (omega arith) refl

-- a beginning without a space, before a text without one
joined : (v w : List ℕ) → HasNoSpace v → HasNoSpace w → HasNoSpace (v ++ w)
joined [] w h k i l e = k i l e
joined (b ∷ v) w h k zero l e = h zero (omega arith) e
joined (b ∷ v) w h k (suc i) l e = joined v w (λ n m. h (suc n) (omega arith)) k i (omega arith) e

bound_word : (b : Bound) → BoundFits b → IsWord (bound_text b)
bound_word bound.Strong fits = word_of (codes "strong") (omega arith) refl
bound_word (bound.At s) fits = ((λ none. cc none), joined (codes "at:") (decimal s) (spaceless (codes "at:") refl) (decimal_word s fits).1)
bound_word (bound.Staleness d) fits = ((λ none. cc none), joined (codes "stale:") (decimal d) (spaceless (codes "stale:") refl) (decimal_word d fits).1)

-- a name is a word
word_byte : (b : ℕ) → is_word b ≡ true → b ≢ 32
unfolding is_word is_letter is_digit
word_byte b e same = let f : is_word 32 ≡ true = subst (λ n. is_word n ≡ true) same e in cc f

word_bytes : (w : List ℕ) → list_all is_word w ≡ true → HasNoSpace w
word_bytes [] all i l same = absurd (omega arith)
word_bytes (b ∷ w) all zero l same = word_byte b (and_parts (is_word b) (list_all is_word w) all).0 same
word_bytes (b ∷ w) all (suc i) l same = word_bytes w (and_parts (is_word b) (list_all is_word w) all).1 i (omega arith) same

name_word : (w : List ℕ) → is_name_text w ≡ true → IsWord w
name_word w e =
    let short : (begins is_letter w && nat_le (length w) longest_word && list_all is_word w) ≡ true = (and_parts _ _ e).0 in
    let letter : (begins is_letter w && nat_le (length w) longest_word) ≡ true = (and_parts _ (list_all is_word w) short).0 in
    let begun : begins is_letter w ≡ true = (and_parts _ (nat_le (length w) longest_word) letter).0 in
    ((λ none. absurd (cc (ap (begins is_letter) none, begun))), word_bytes w (and_parts (begins is_letter w && nat_le (length w) longest_word) _ short).1)

-- ---- words that are not split

-- words of which no first one is separate
abbrev pub NoFirst : List ℕ → Type 0
NoFirst words = (w r : List ℕ) → IsWord w → words ≢ spaced w r

-- ---- commands with a bound

-- no bound and rest are these words
abbrev pub NoBound : List ℕ → Type 0
NoBound words = (b : Bound) (text : List ℕ) → BoundFits b → words ≢ spaced (bound_text b) text

pub whole_no_bound : (words : List ℕ) → NoFirst words → NoBound words
whole_no_bound words none b text fits e = none (bound_text b) text (bound_word b fits) e

pub other_bound : (words w r : List ℕ) → IsWord w → words ≡ spaced w r → ((b : Bound) → ¬ IsBound w b) → NoBound words
other_bound words w r good is none b text fits e = none b (fits, (same_parts w (bound_text b) r text good.1 (bound_word b fits).1 (sym is ∙ e)).0)

pub no_open : (words : List ℕ) → NoBound words → (c : Command) → ¬ IsCommand (spaced (codes "open") words) c
no_open words none (command.Open bound text) is = none bound text.now is.0 (same_rest (codes "open") words _ is.1)
no_open words none (command.Write kind table columns row) is = subst HasWriteWord (sym is.1) (write_has kind _ is.0.0)
no_open words none _ is = subst (HasWord (codes "open")) is.1 tt

pub no_query : (words : List ℕ) → NoBound words → (c : Command) → ¬ IsCommand (spaced (codes "query") words) c
no_query words none (command.Query bound text) is = none bound text.now is.0 (same_rest (codes "query") words _ is.1)
no_query words none (command.Write kind table columns row) is = subst HasWriteWord (sym is.1) (write_has kind _ is.0.0)
no_query words none _ is = subst (HasWord (codes "query")) is.1 tt

-- ---- parameters

-- no name, type and cell are these words
abbrev pub NoParam : List ℕ → Type 0
NoParam words = (name : List ℕ) (k : Kind) (cell : List ℕ) → is_name_text name ≡ true → words ≢ spaced name (spaced (type_name k) cell)

pub no_param : (words : List ℕ) → NoParam words → (c : Command) → ¬ IsCommand (spaced (codes "param") words) c
no_param words none (command.Param name k cell) is = none name.now k cell.now is.0 (same_rest (codes "param") words _ is.1)
no_param words none (command.Write kind table columns row) is = subst HasWriteWord (sym is.1) (write_has kind _ is.0.0)
no_param words none _ is = subst (HasWord (codes "param")) is.1 tt

pub whole_no_param : (words : List ℕ) → NoFirst words → NoParam words
whole_no_param words none name k cell good e = none name _ (name_word name good) e

module _ (words w r : List ℕ) (good : IsWord w) (is : words ≡ spaced w r) where
  -- the parts of a parameter's words
  parts : (name : List ℕ) (k : Kind) (cell : List ℕ) → is_name_text name ≡ true → words ≡ spaced name (spaced (type_name k) cell) → (w ≡ name) × (r ≡ spaced (type_name k) cell)
  parts name k cell named e = same_parts w name r (spaced (type_name k) cell) good.1 (name_word name named).1 (sym is ∙ e)

  pub one_no_param : NoFirst r → NoParam words
  one_no_param none name k cell named e = none (type_name k) cell (kind_word k) (parts name k cell named e).1

  pub other_name : is_name_text w ≡ false → NoParam words
  other_name none name k cell named e = absurd (cc (ap is_name_text (parts name k cell named e).0, named, none))

  pub other_kind : (v s : List ℕ) → IsWord v → r ≡ spaced v s → ((k : Kind) → v ≢ type_name k) → NoParam words
  other_kind v s fine rest none name k cell named e = none k (same_parts v (type_name k) s cell fine.1 (kind_word k).1 (sym rest ∙ (parts name k cell named e).1)).0

-- ---- writes and loads

-- a table and columns that no further word follows are no write
pub one_no_write : (k : MutationKind) (words w r : List ℕ) → k ≢ mutation.Delete → IsWord w → words ≡ spaced w r → NoFirst r → (c : Command) → ¬ IsCommand (spaced (write_word k) words) c
one_no_write k words w r good one split none (command.Write l table columns row) is =
    let rest = (same_parts (write_word k) (write_word l) words (spaced table.now (spaced columns.now row.now)) (write_word_word k).1 (write_word_word l).1 is.1).1 in
    none columns.now row.now is.0.2 (same_parts w table.now r (spaced columns.now row.now) one.1 is.0.1.1 (sym split ∙ rest)).1
one_no_write k words w r good one split none _ is = subst HasWriteWord is.1 (write_has k words good)

-- columns that are no word are no load's
pub other_columns : (words w r : List ℕ) → IsWord w → words ≡ spaced w r → ¬ IsWord r → (c : Command) → ¬ IsCommand (spaced (codes "load") words) c
other_columns words w r one split none (command.Load table columns) is =
    let same = same_parts w table.now r columns.now one.1 is.0.0.1 (sym split ∙ same_rest (codes "load") words _ is.1) in
    none (subst IsWord (sym same.1) is.0.1)
other_columns words w r one split none (command.Write kind table columns row) is = subst HasWriteWord (sym is.1) (write_has kind _ is.0.0)
other_columns words w r one split none _ is = subst (HasWord (codes "load")) is.1 tt

-- ---- lone words, and commands of numbers

-- a line of one word is none of more
pub no_lone : (line : List ℕ) → NoFirst line → line ≢ codes "begin" → line ≢ codes "shards" → (c : Command) → ¬ IsCommand line c
no_lone line whole begin shards command.Begin is = begin is.1
no_lone line whole begin shards command.Shards is = shards is.1
no_lone line whole begin shards (command.Write kind table columns row) is = whole (write_word kind) _ (write_word_word kind) is.1
no_lone line whole begin shards (command.Clock a b) is = whole (codes "clock") _ (word_of (codes "clock") (omega arith) refl) is.1
no_lone line whole begin shards (command.Param name k cell) is = whole (codes "param") _ (word_of (codes "param") (omega arith) refl) is.1
no_lone line whole begin shards (command.Delete table row) is = whole (codes "delete") _ (word_of (codes "delete") (omega arith) refl) is.1
no_lone line whole begin shards (command.Split table row) is = whole (codes "split") _ (word_of (codes "split") (omega arith) refl) is.1
no_lone line whole begin shards (command.Load table columns) is = whole (codes "load") _ (word_of (codes "load") (omega arith) refl) is.1
no_lone line whole begin shards (command.Prepare a b) is = whole (codes "prepare") _ (word_of (codes "prepare") (omega arith) refl) is.1
no_lone line whole begin shards (command.Decide a) is = whole (codes "decide") _ (word_of (codes "decide") (omega arith) refl) is.1
no_lone line whole begin shards (command.Abort a) is = whole (codes "abort") _ (word_of (codes "abort") (omega arith) refl) is.1
no_lone line whole begin shards (command.Apply a b) is = whole (codes "apply") _ (word_of (codes "apply") (omega arith) refl) is.1
no_lone line whole begin shards (command.Advance a) is = whole (codes "advance") _ (word_of (codes "advance") (omega arith) refl) is.1
no_lone line whole begin shards (command.Open bound text) is = whole (codes "open") _ (word_of (codes "open") (omega arith) refl) is.1
no_lone line whole begin shards (command.Scan a b n) is = whole (codes "scan") _ (word_of (codes "scan") (omega arith) refl) is.1
no_lone line whole begin shards (command.Finish a) is = whole (codes "finish") _ (word_of (codes "finish") (omega arith) refl) is.1
no_lone line whole begin shards (command.Close a) is = whole (codes "close") _ (word_of (codes "close") (omega arith) refl) is.1
no_lone line whole begin shards (command.Query bound text) is = whole (codes "query") _ (word_of (codes "query") (omega arith) refl) is.1
no_lone line whole begin shards (command.Explain text) is = whole (codes "explain") _ (word_of (codes "explain") (omega arith) refl) is.1
no_lone line whole begin shards (command.Trim a b) is = whole (codes "trim") _ (word_of (codes "trim") (omega arith) refl) is.1

-- a first word that is none of these is that of no command of numbers
pub record IsOther (word : List ℕ) : Type 0 where
  pub clock : word ≢ codes "clock"
  pub prepare : word ≢ codes "prepare"
  pub decide : word ≢ codes "decide"
  pub abort : word ≢ codes "abort"
  pub apply : word ≢ codes "apply"
  pub advance : word ≢ codes "advance"
  pub scan : word ≢ codes "scan"
  pub finish : word ≢ codes "finish"
  pub close : word ≢ codes "close"
  pub trim : word ≢ codes "trim"

pub no_numbered : (word numbers : List ℕ) → IsWord word → IsOther word → (c : Command) → has_only_numbers c ≡ true → ¬ IsCommand (spaced word numbers) c
no_numbered word numbers good other (command.Clock a b) only is = other.clock (same_parts word (codes "clock") numbers _ good.1 (spaceless (codes "clock") refl) is.1).0
no_numbered word numbers good other (command.Prepare a b) only is = other.prepare (same_parts word (codes "prepare") numbers _ good.1 (spaceless (codes "prepare") refl) is.1).0
no_numbered word numbers good other (command.Decide a) only is = other.decide (same_parts word (codes "decide") numbers _ good.1 (spaceless (codes "decide") refl) is.1).0
no_numbered word numbers good other (command.Abort a) only is = other.abort (same_parts word (codes "abort") numbers _ good.1 (spaceless (codes "abort") refl) is.1).0
no_numbered word numbers good other (command.Apply a b) only is = other.apply (same_parts word (codes "apply") numbers _ good.1 (spaceless (codes "apply") refl) is.1).0
no_numbered word numbers good other (command.Advance a) only is = other.advance (same_parts word (codes "advance") numbers _ good.1 (spaceless (codes "advance") refl) is.1).0
no_numbered word numbers good other (command.Scan a b n) only is = other.scan (same_parts word (codes "scan") numbers _ good.1 (spaceless (codes "scan") refl) is.1).0
no_numbered word numbers good other (command.Finish a) only is = other.finish (same_parts word (codes "finish") numbers _ good.1 (spaceless (codes "finish") refl) is.1).0
no_numbered word numbers good other (command.Close a) only is = other.close (same_parts word (codes "close") numbers _ good.1 (spaceless (codes "close") refl) is.1).0
no_numbered word numbers good other (command.Trim a b) only is = other.trim (same_parts word (codes "trim") numbers _ good.1 (spaceless (codes "trim") refl) is.1).0
no_numbered word numbers good other _ only is = absurd (cc only)

-- a first word that is none of these is that of no other command
pub record IsNumbered (word : List ℕ) : Type 0 where
  pub param : word ≢ codes "param"
  pub insert : word ≢ codes "insert"
  pub update : word ≢ codes "update"
  pub upsert : word ≢ codes "upsert"
  pub delete : word ≢ codes "delete"
  pub split : word ≢ codes "split"
  pub load : word ≢ codes "load"
  pub opens : word ≢ codes "open"
  pub query : word ≢ codes "query"
  pub explain : word ≢ codes "explain"

-- so what is read of a line is what is read of it among the commands of numbers
pub numbered : (line word rest : List ℕ) → IsWord word → line ≡ spaced word rest → IsNumbered word → (r : Option Command) → IsNumberedReadAs (spaced word rest) r → IsReadAs line r
numbered line word rest good split other (Some c) is = subst (λ l. IsCommand l c) (sym split) is
numbered line word rest good split other None none = λ c is. refuse c (subst (λ l. IsCommand l c) split is)
  where
    first : (w s : List ℕ) → HasNoSpace w → spaced word rest ≡ spaced w s → word ≡ w
    first w s h e = (same_parts word w rest s good.1 h e).0

    lone : (w : List ℕ) → is_spaceless w ≡ true → spaced word rest ≡ w → ⊥
    lone w h e = parted w word rest (spaceless w h) (sym e)

    write : (k : MutationKind) → k ≢ mutation.Delete → word ≢ write_word k
    write mutation.Insert fine = other.insert
    write mutation.Update fine = other.update
    write mutation.InsertOrUpdate fine = other.upsert
    write mutation.Delete fine = absurd (fine refl)

    refuse : (c : Command) → ¬ IsCommand (spaced word rest) c
    refuse (command.Param name k cell) is = other.param (first (codes "param") _ (spaceless (codes "param") refl) is.1)
    refuse (command.Write k table columns row) is = write k is.0.0 (first (write_word k) _ (write_word_word k).1 is.1)
    refuse (command.Delete table row) is = other.delete (first (codes "delete") _ (spaceless (codes "delete") refl) is.1)
    refuse (command.Split table row) is = other.split (first (codes "split") _ (spaceless (codes "split") refl) is.1)
    refuse (command.Load table columns) is = other.load (first (codes "load") _ (spaceless (codes "load") refl) is.1)
    refuse (command.Open bound text) is = other.opens (first (codes "open") _ (spaceless (codes "open") refl) is.1)
    refuse (command.Query bound text) is = other.query (first (codes "query") _ (spaceless (codes "query") refl) is.1)
    refuse (command.Explain text) is = other.explain (first (codes "explain") _ (spaceless (codes "explain") refl) is.1)
    refuse command.Begin is = lone (codes "begin") refl is.1
    refuse command.Shards is = lone (codes "shards") refl is.1
    refuse c is = none c refl is
