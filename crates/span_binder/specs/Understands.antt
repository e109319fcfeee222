-- The statement of a query text: the typed query of its syntax tree.
use Rattle.std.specs.Prelude.{◌≡◌, ◌≢◌, ◌⊎◌, ℕ, List, Result, Err}
use Rattle.span_value.specs.declared.refusal.Refusal.{Refusal}
use Rattle.span_value.specs.declared.refusal.Refusal.TheVariants.{OutOfMemory}
use Rattle.span_schema.specs.declared.table.Table.{Table}
use Rattle.span_grammar.specs.declared.judge.Goal.TheVariants as goal
use Rattle.span_grammar.specs.Judged.{IsRefused}
use Rattle.span_parser.specs.declared.tree.Query.{Query}
use Rattle.span_parser.specs.Queries.{IsQuery}
use Rattle.span_params.specs.declared.params.Parameter.{Parameter}
use Rattle.span_query.specs.declared.query.Statement.{Statement}
use Rattle.span_binder.specs.Queries.{bound}

-- the query text has a tree, whose statement this is, or which has this fault
unfoldable pub IsBound : List Table → List ℕ → List Parameter → Result Statement Refusal → Type 0
IsBound schema text params u = (tree : Query) × IsQuery text tree × (bound schema params tree ≡ u)

-- the query text has no tree
unfoldable pub IsNotInGrammar : List ℕ → Result Statement Refusal → Type 0
IsNotInGrammar text u = (why : Refusal) × (why ≢ OutOfMemory) × IsRefused goal.Statement text why × (u ≡ Err why)

-- The query text, with these parameters, is this statement on tables of this schema, or is refused so.
abbrev pub Understands : List Table → List ℕ → List Parameter → Result Statement Refusal → Type 0
Understands schema text params u = IsBound schema text params u ⊎ IsNotInGrammar text u
