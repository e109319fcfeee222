-- Trees and openings that are too deep, over plain tokens and over classes that look ahead.
use Rattle.std.proofs.Common.{◌≡◌, ℕ, ◌<◌, inl, inr, true, List, [], ◌∷◌, ◌++◌, map, refl, sym, ap, subst, ◌∙◌, arith}
use Rattle.std.proofs.lemmas.List.{map-append}
use Rattle.span_grammar.specs.declared.class.Lexeme.{Lexeme}
use Rattle.span_grammar.specs.declared.judge.Goal.{Goal}
use Rattle.span_grammar.specs.Rules.{Marks, marks, words, most_openings, Shallow}
use Rattle.span_grammar.specs.Texts.{IsTooDeep}
use Rattle.span_grammar.specs.Grammar.{inside}
use Rattle.span_grammar.specs.Goals.{goal_rule}
use Rattle.span_grammar_laws.specs.Written.{written_inside}
use Rattle.span_grammar_laws.specs.Laws.{written_rule, HasSomeTree}
use Rattle.span_grammar_laws.proofs.Languages.{In}
use Rattle.span_grammar_laws.proofs.Tagging.{tag, tags, tag_marks, tag_marks-append, tags-append, words-tag_marks, shallow-tag_marks, tags_by, opening, opening_tag, opening_sees, OpensFirst, untag, untag_marks, untag_marks-append, words-untag_marks, shallow-untag_marks}
use Rattle.span_grammar_laws.proofs.Roots.{goal_root}

-- ---- trees

pub tree_written : (g : Goal) (text : List ℕ) (ts ps : List Lexeme) → ps ≡ map (untag text) ts → HasSomeTree inside (goal_rule g) ts → HasSomeTree written_inside (written_rule g) ps
tree_written g text ts ps e (x, h) =
    let y = (goal_root g).from text 0 (marks 0 x) (x, h.fits, refl) in (
      y.0,
      record {
        fits = y.1;
        spells = e ∙ ap (map (untag text)) h.spells ∙ sym (words-untag_marks text (marks 0 x)) ∙ ap words (sym y.2);
        shallow = subst Shallow (sym y.2) (shallow-untag_marks text (marks 0 x) h.shallow);
      },
    )

pub tree_read : (g : Goal) (ps : List Lexeme) → HasSomeTree written_inside (written_rule g) ps → HasSomeTree inside (goal_rule g) (tags ps [])
tree_read g ps (y, h) =
    let x = ((goal_root g).to 0 (marks 0 y) (y, h.fits, refl)).has in (
      x.0,
      record {
        fits = x.1;
        spells = ap (λ (w : List Lexeme). tags w []) h.spells ∙ sym (words-tag_marks (marks 0 y) []) ∙ ap words (sym x.2);
        shallow = subst Shallow (sym x.2) (shallow-tag_marks (marks 0 y) [] h.shallow);
      },
    )

-- ---- openings that are too deep

pub deep_written : (g : Goal) (text : List ℕ) (ts ps : List Lexeme) → ps ≡ map (untag text) ts → IsTooDeep inside (goal_rule g) ts → IsTooDeep written_inside (written_rule g) ps
deep_written g text ts ps e h =
    let y = (goal_root g).from text 0 (marks 0 h.tree) (h.tree, h.fits, refl) in
    record {
      tree = y.0;
      before = untag_marks text h.before;
      token = untag text h.token;
      depth = h.depth;
      after = untag_marks text h.after;
      rest = map (untag text) h.rest;
      fits = y.1;
      parts = y.2 ∙ ap (untag_marks text) h.parts ∙ untag_marks-append text h.before ((h.token, h.depth) ∷ h.after);
      shallow = shallow-untag_marks text h.before h.shallow;
      over = h.over;
      spells = e ∙ ap (map (untag text)) h.spells ∙ map-append (untag text) (words h.before) (h.token ∷ h.rest)
          ∙ ap (λ (w : List Lexeme). w ++ (untag text h.token ∷ map (untag text) h.rest)) (sym (words-untag_marks text h.before));
    }

pub first_over : (before : Marks) (t : Lexeme) (e : ℕ) (after : Marks) → OpensFirst (before ++ ((t, e) ∷ after)) → Shallow before → most_openings < e → opening t.class ≡ true
first_over [] t e after h s over = elim h [ inl i ↦ absurd (omega (arith, i.0)) | inr i ↦ i.1 ]
first_over (m ∷ before) t e after h s over = elim h [ inl i ↦ first_over before t e after i.1 s.1 over | inr i ↦ absurd (omega (arith, i.0, s.0)) ]

-- a tree with a mark past the greatest number of openings, and with the classes that look ahead: in front of that mark and at it what follows counts for nothing
pub record DeepRead (g : Goal) (before after : Marks) (t : Lexeme) (e : ℕ) : Type 0 where
  pub has : In inside (goal_rule g) 0 (tag_marks (before ++ ((t, e) ∷ after)) [])
  pub opens : opening t.class ≡ true
  pub parts : tag_marks (before ++ ((t, e) ∷ after)) [] ≡ tag_marks before (t ∷ (words after ++ [])) ++ ((tag t (words after ++ []), e) ∷ tag_marks after [])

pub deep_read_at : (g : Goal) (before after : Marks) (t : Lexeme) (e : ℕ) → In written_inside (written_rule g) 0 (before ++ ((t, e) ∷ after)) → Shallow before → most_openings < e → DeepRead g before after t e
deep_read_at g before after t e h s over =
    let x = (goal_root g).to 0 (before ++ ((t, e) ∷ after)) h in
    record {
      has = x.has;
      opens = first_over before t e after (x.opens (omega arith)) s over;
      parts = tag_marks-append before ((t, e) ∷ after) [];
    }

-- the tokens up to an opening, whatever follows it
pub words_to_opening : (before : Marks) (t : Lexeme) (k j : List Lexeme) → opening t.class ≡ true → words (tag_marks before (t ∷ k)) ≡ tags (words before) (t ∷ j)
words_to_opening before t k j o = words-tag_marks before (t ∷ k) ∙ tags_by (words before) (t ∷ k) (t ∷ j) (opening_sees t k j o)

pub deep_read : (g : Goal) (ps : List Lexeme) → IsTooDeep written_inside (written_rule g) ps → IsTooDeep inside (goal_rule g) (tags ps [])
deep_read g ps h =
    let r = deep_read_at g h.before h.after h.token h.depth (h.tree, h.fits, h.parts) h.shallow h.over in
    let k : List Lexeme = words h.after ++ [] in
    let j : List Lexeme = h.rest ++ [] in
    record {
      tree = r.has.0;
      before = tag_marks h.before (h.token ∷ k);
      token = tag h.token k;
      depth = h.depth;
      after = tag_marks h.after [];
      rest = tags h.rest [];
      fits = r.has.1;
      parts = r.has.2 ∙ r.parts;
      shallow = shallow-tag_marks h.before (h.token ∷ k) h.shallow;
      over = h.over;
      spells = ap (λ (w : List Lexeme). tags w []) h.spells ∙ tags-append (words h.before) (h.token ∷ h.rest) []
          ∙ ap (λ (w : List Lexeme). w ++ (tag h.token j ∷ tags h.rest [])) (sym (words_to_opening h.before h.token k j r.opens))
          ∙ ap (λ (t : Lexeme). words (tag_marks h.before (h.token ∷ k)) ++ (t ∷ tags h.rest [])) (opening_tag h.token j k r.opens);
    }
