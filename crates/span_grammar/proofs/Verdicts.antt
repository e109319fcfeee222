-- The result for all the tokens is the one that the grammar defines, both ways.
use Rattle.std.proofs.Common.{◌≡◌, ◌≢◌, List, [], ◌∷◌, length, Result, Ok, Err, refl, sym, ap, ◌∙◌, arith}
use Rattle.span_grammar.specs.declared.class.Lexeme.{Lexeme}
use Rattle.span_grammar.specs.declared.grammar.Part.{Part}
use Rattle.span_grammar.specs.declared.grammar.Place.{Place}
use Rattle.span_grammar.specs.declared.judge.Goal.{Goal}
use Rattle.span_grammar.specs.declared.judge.Goal.TheVariants as goal
use Rattle.span_grammar.specs.declared.reader.Stop.{Stop}
use Rattle.span_grammar.specs.declared.reader.Stop.TheVariants as stop
use Rattle.span_grammar.specs.Rules.{Tree, Answer, Read, Wrong, Deep, most_openings, parse}
use Rattle.span_grammar.specs.Grammar.{inside, rule_of}
use Rattle.span_grammar.specs.Goals.{goal_part, goal_rule}
use Rattle.span_grammar.specs.Texts.{HasTree, IsWrong, IsTooDeep}
use Rattle.span_grammar.specs.Reading.{read_result, part_read, text_read, at_end}
use Rattle.span_grammar.proofs.Follow.{Good, Stretches}
use Rattle.span_grammar.proofs.Whole.{whole, Right, answered, tree_answered, deep_answered, wrong_answered, one_tree}
use Rattle.span_grammar.proofs.Ending.{ends, inside_ends}
use Rattle.span_grammar.proofs.Apart.{st}
use Rattle.span_grammar.proofs.Facts.{inside_facts, statement_facts, schema_facts}

-- ---- for the code

pub text_ok : (p : Part) (ts k : List Lexeme) → part_read most_openings p ts ≡ Ok k → length k ≡ 0 → text_read p ts ≡ Ok tt
unfolding text_read
text_ok p ts [] h z = ap at_end h
text_ok p ts (t ∷ k) h z = absurd (omega arith)

pub text_more : (p : Part) (ts k : List Lexeme) → part_read most_openings p ts ≡ Ok k → length k ≢ 0 → text_read p ts ≡ Err stop.Syntax
unfolding text_read
text_more p ts [] h z = absurd (z refl)
text_more p ts (t ∷ k) h z = ap at_end h

pub text_err : (p : Part) (ts : List Lexeme) (e : Stop) → part_read most_openings p ts ≡ Err e → text_read p ts ≡ Err e
unfolding text_read
text_err p ts e h = ap at_end h

pub ruleset text_steps = (text_ok, text_more, text_err)

-- ---- both ways

pub wide : Stretches inside st
wide p t e = (inside_facts p).goes t e

pub good : (p : Place) → Good st (inside p)
good p = (inside_facts p).good

pub goal_good : (g : Goal) → Good st (goal_rule g)
unfolding rule_of
goal_good goal.Statement = statement_facts.good
goal_good goal.Schema = schema_facts.good

abbrev shown : Answer → Result (Unit {0}) Stop
shown (Read x k) = Ok tt
shown (Wrong k) = Err stop.Syntax
shown (Deep k) = Err stop.TooDeep

shown_at : (s : Answer) → at_end (read_result s) ≡ shown (whole s)
shown_at (Read x []) = refl
shown_at (Read x (t ∷ k)) = refl
shown_at (Wrong k) = refl
shown_at (Deep k) = refl

text_is : (p : Part) (ts : List Lexeme) → text_read p ts ≡ shown (whole (parse inside most_openings (rule_of p) ts))
unfolding text_read part_read
text_is p ts = shown_at (parse inside most_openings (rule_of p) ts)

module _ (g : Goal) (ts : List Lexeme) where
  abbrev run : Answer
  run = whole (parse inside most_openings (goal_rule g) ts)

  abbrev Answers : Answer → Type 0
  Answers s = Right inside st wide inside_ends good (goal_rule g) (ends (goal_part g)) (goal_good g) ts s

  right : Answers run
  right = answered inside st wide inside_ends good (goal_rule g) (ends (goal_part g)) (goal_good g) ts

  read_at : (s : Answer) → shown s ≡ Ok tt → Answers s → (x : Tree) × HasTree inside (goal_rule g) ts x
  read_at (Read x k) h r = (x, r)
  read_at (Wrong k) h r = absurd cc
  read_at (Deep k) h r = absurd cc

  wrong_at : (s : Answer) → shown s ≡ Err stop.Syntax → Answers s → IsWrong inside (goal_rule g) ts
  wrong_at (Read x k) h r = absurd cc
  wrong_at (Wrong k) h r = r
  wrong_at (Deep k) h r = absurd cc

  deep_at : (s : Answer) → shown s ≡ Err stop.TooDeep → Answers s → IsTooDeep inside (goal_rule g) ts
  deep_at (Read x k) h r = absurd cc
  deep_at (Wrong k) h r = absurd cc
  deep_at (Deep k) h r = r

  pub reads : text_read (goal_part g) ts ≡ Ok tt → (x : Tree) × HasTree inside (goal_rule g) ts x
  reads h = read_at run (sym (text_is (goal_part g) ts) ∙ h) right

  pub reads_all : (x : Tree) → HasTree inside (goal_rule g) ts x → text_read (goal_part g) ts ≡ Ok tt
  reads_all x t = text_is (goal_part g) ts ∙ ap shown (tree_answered inside st wide inside_ends good (goal_rule g) (ends (goal_part g)) (goal_good g) ts x t)

  pub wrongs : text_read (goal_part g) ts ≡ Err stop.Syntax → IsWrong inside (goal_rule g) ts
  wrongs h = wrong_at run (sym (text_is (goal_part g) ts) ∙ h) right

  pub wrongs_all : IsWrong inside (goal_rule g) ts → text_read (goal_part g) ts ≡ Err stop.Syntax
  wrongs_all w = text_is (goal_part g) ts ∙ ap shown (wrong_answered inside st wide inside_ends good (goal_rule g) (ends (goal_part g)) (goal_good g) ts w).1

  pub deeps : text_read (goal_part g) ts ≡ Err stop.TooDeep → IsTooDeep inside (goal_rule g) ts
  deeps h = deep_at run (sym (text_is (goal_part g) ts) ∙ h) right

  pub deeps_all : IsTooDeep inside (goal_rule g) ts → text_read (goal_part g) ts ≡ Err stop.TooDeep
  deeps_all w = text_is (goal_part g) ts ∙ ap shown (deep_answered inside st wide inside_ends good (goal_rule g) (ends (goal_part g)) (goal_good g) ts w).1

  pub one : (x y : Tree) → HasTree inside (goal_rule g) ts x → HasTree inside (goal_rule g) ts y → x ≡ y
  one x y h i = one_tree inside st wide inside_ends good (goal_rule g) (ends (goal_part g)) (goal_good g) ts x y h i
