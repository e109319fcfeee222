-- Which texts are in a grammar, and where the error of another is.
use Rattle.std.specs.Prelude.{◌≡◌, ℕ, ◌<◌, List, [], ◌∷◌, ◌++◌}
use Rattle.span_grammar.specs.declared.class.Lexeme.{Lexeme}
use Rattle.span_grammar.specs.declared.grammar.Place.{Place}
use Rattle.span_grammar.specs.Rules.{Rule, Tree, Marks, marks, words, most_openings, Shallow, Fits}

module _ (inside : Place → Rule) (a : Rule) where
  -- The text has this tree, and nests no deeper than `most_openings` says.
  pub record HasTree (text : List Lexeme) (x : Tree) : Type 0 where
    pub fits : Fits inside x a
    pub spells : text ≡ words (marks 0 x)
    pub shallow : Shallow (marks 0 x)

  -- No tree begins with these tokens and goes on with what comes next, a token or the end.
  abbrev pub NoneGoesOn : List Lexeme → List Lexeme → Type 0
  NoneGoesOn prefix [] = (x : Tree) → Fits inside x a → words (marks 0 x) ≡ prefix → ⊥
  NoneGoesOn prefix (t ∷ ts) =
      (x : Tree) (more : List Lexeme) → Fits inside x a → words (marks 0 x) ≡ prefix ++ (t ∷ more) → ⊥

  -- Up to a place some tree goes on, no deeper than `most_openings` says, and there none does.
  pub record IsWrong (text : List Lexeme) : Type 0 where
    pub tree : Tree
    pub before : Marks
    pub after : Marks
    pub rest : List Lexeme
    pub fits : Fits inside tree a
    pub parts : marks 0 tree ≡ before ++ after
    pub shallow : Shallow before
    pub spells : text ≡ words before ++ rest
    pub none : NoneGoesOn (words before) rest

  -- Some tree goes on up to an opening that is one too deep, the first such.
  pub record IsTooDeep (text : List Lexeme) : Type 0 where
    pub tree : Tree
    pub before : Marks
    pub token : Lexeme
    pub depth : ℕ
    pub after : Marks
    pub rest : List Lexeme
    pub fits : Fits inside tree a
    pub parts : marks 0 tree ≡ before ++ ((token, depth) ∷ after)
    pub shallow : Shallow before
    pub over : most_openings < depth
    pub spells : text ≡ words before ++ (token ∷ rest)
