-- What a text must be.
use Rattle.span_grammar.specs.declared.judge.Goal.{Goal}
use Rattle.span_grammar.specs.declared.judge.Goal.TheVariants as goal
use Rattle.span_grammar.specs.declared.grammar.Part.{Part}
use Rattle.span_grammar.specs.declared.grammar.Part.TheVariants as part
use Rattle.span_grammar.specs.Rules.{Rule}
use Rattle.span_grammar.specs.Grammar.{rule_of}

abbrev pub goal_part : Goal → Part
goal_part goal.Statement = part.Statement
goal_part goal.Schema = part.Schema

abbrev pub goal_rule : Goal → Rule
goal_rule g = rule_of (goal_part g)
