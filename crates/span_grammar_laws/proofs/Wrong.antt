-- Tokens with which no tree goes on, over plain tokens and over classes that look ahead.
use Rattle.std.proofs.Common.{◌≡◌, ℕ, zero, suc, ◌<◌, ◌≤◌, inl, inr, List, [], ◌∷◌, ◌++◌, map, length, Result, Ok, Err, refl, sym, ap, ap₂, subst, ◌∙◌, append_assoc, arith, length-append, ◌⊎◌}
use Rattle.std.proofs.lemmas.Bool.{cases_lt}
use Rattle.std.proofs.lemmas.List.{append-nil, map-append}
use Rattle.span_grammar.specs.declared.class.Lexeme.{Lexeme}
use Rattle.span_grammar.specs.declared.grammar.Place.{Place}
use Rattle.span_grammar.specs.declared.judge.Goal.{Goal}
use Rattle.span_grammar.specs.declared.reader.Stop.{Stop}
use Rattle.span_grammar.specs.declared.reader.Stop.TheVariants as stop
use Rattle.span_grammar.specs.Rules.{Rule, Tree, Marks, marks, words, most_openings, Shallow, Fits, Answer, Deep, parse_with, deeper}
use Rattle.span_grammar.specs.Texts.{NoneGoesOn, IsWrong, IsTooDeep}
use Rattle.span_grammar.specs.Grammar.{inside}
use Rattle.span_grammar.specs.Goals.{goal_rule, goal_part}
use Rattle.span_grammar.specs.Reading.{text_read}
use Rattle.span_grammar.proofs.Apart.{st}
use Rattle.span_grammar.proofs.Ending.{ends, inside_ends}
use Rattle.span_grammar.proofs.Sound.{deeper_sound, words-append}
use Rattle.span_grammar.proofs.Follow.{Meeting, rest_of, meets_with, deeper_reads, deeper_meets, shallow_left}
use Rattle.span_grammar.proofs.Verdicts.{wide, good, goal_good, reads, reads_all, wrongs, wrongs_all, deeps, deeps_all}
use Rattle.span_grammar.proofs.Whole.{length-words, goes_along, shallow_at}
use Rattle.span_grammar_laws.specs.Written.{written_inside}
use Rattle.span_grammar_laws.specs.Laws.{written_rule, HasSomeTree}
use Rattle.span_grammar_laws.proofs.Tagging.{tag, tags, tag_marks, tag_marks-append, tags-append, words-tag_marks, shallow-tag_marks, tags_by, Kind, Nothing_more, Other, Star_next, All_of_next, example, kind_of, opening_tag, untag, words-untag_marks, ArePlain, plain_left, untag_tags}
use Rattle.span_grammar_laws.proofs.Roots.{goal_root}
use Rattle.span_grammar_laws.proofs.Judged.{tree_written, tree_read, deep_written, deep_read, deep_read_at, words_to_opening}

-- ---- marks and tokens

record HasDeep (ms : Marks) : Type 0 where
  pub before : Marks
  pub token : Lexeme
  pub depth : ℕ
  pub after : Marks
  pub parts : ms ≡ before ++ ((token, depth) ∷ after)
  pub shallow : Shallow before
  pub over : most_openings < depth

first_deep : (ms : Marks) → Shallow ms ⊎ HasDeep ms
first_deep [] = inl tt
first_deep (n ∷ ms) =
    elim (cases_lt most_openings n.1) [
      | inl lt ↦ inr (record { before = []; token = n.0; depth = n.1; after = ms; parts = refl; shallow = tt; over = lt })
      | inr le ↦ elim (first_deep ms) [
        | inl s ↦ inl (le, s)
        | inr h ↦ inr (record { before = n ∷ h.before; token = h.token; depth = h.depth; after = h.after; parts = ap (λ (w : Marks). n ∷ w) h.parts; shallow = (le, h.shallow); over = h.over })
      ]
    ]

-- marks that begin with some tokens
record Begins (ms : Marks) (prefix : List Lexeme) : Type 0 where
  pub before : Marks
  pub after : Marks
  pub parts : ms ≡ before ++ after
  pub same : words before ≡ prefix

begins : (prefix more : List Lexeme) (ms : Marks) → words ms ≡ prefix ++ more → Begins ms prefix
begins [] more ms e = record { before = []; after = ms; parts = refl; same = refl }
begins (t ∷ prefix) more [] e = absurd cc
begins (t ∷ prefix) more (m ∷ ms) e =
    let i : m.0 ≡ t = cc in
    let j : words ms ≡ prefix ++ more = cc in
    let h = begins prefix more ms j in
    record { before = m ∷ h.before; after = h.after; parts = ap (λ (w : Marks). m ∷ w) h.parts; same = ap (λ (w : List Lexeme). m.0 ∷ w) h.same ∙ ap (λ (u : Lexeme). u ∷ prefix) i }

record Cut (ms : Marks) (n : ℕ) : Type 0 where
  pub before : Marks
  pub token : Lexeme
  pub depth : ℕ
  pub after : Marks
  pub parts : ms ≡ before ++ ((token, depth) ∷ after)
  pub len : length before ≡ n

cut : (n : ℕ) (ms : Marks) → n < length ms → Cut ms n
cut n [] h = absurd (omega arith)
cut zero (m ∷ ms) h = record { before = []; token = m.0; depth = m.1; after = ms; parts = refl; len = refl }
cut (suc n) (m ∷ ms) h = let c = cut n ms (omega arith) in record { before = m ∷ c.before; token = c.token; depth = c.depth; after = c.after; parts = ap (λ (w : Marks). m ∷ w) c.parts; len = ap (λ (k : ℕ). suc k) c.len }

-- two rows of the same tokens, cut at one length
same_cut : (a b : List Lexeme) (x y : Lexeme) (c e : List Lexeme) → a ++ (x ∷ c) ≡ b ++ (y ∷ e) → length a ≡ length b → (a ≡ b) × (x ≡ y)
same_cut [] [] x y c e h l = (refl, cc)
same_cut [] (z ∷ b) x y c e h l = absurd (omega arith)
same_cut (z ∷ a) [] x y c e h l = absurd (omega arith)
same_cut (z ∷ a) (w ∷ b) x y c e h l =
    let i : z ≡ w = cc in
    let j : a ++ (x ∷ c) ≡ b ++ (y ∷ e) = cc in
    let r = same_cut a b x y c e j (omega arith) in
    (ap₂ (λ (u : Lexeme) (v : List Lexeme). u ∷ v) i r.0, r.1)

-- ---- what is read of tokens decides

abbrev Verdict : Type 0
Verdict = Result (Unit {0}) Stop

tree_not_wrong : (g : Goal) (ts : List Lexeme) → HasSomeTree inside (goal_rule g) ts → IsWrong inside (goal_rule g) ts → ⊥
tree_not_wrong g ts (x, h) w = let e : (let r : Verdict = Ok tt in r) ≡ Err stop.Syntax = sym (reads_all g ts x h) ∙ wrongs_all g ts w in absurd cc

deep_not_wrong : (g : Goal) (ts : List Lexeme) → IsTooDeep inside (goal_rule g) ts → IsWrong inside (goal_rule g) ts → ⊥
deep_not_wrong g ts h w = let e : (let r : Verdict = Err stop.TooDeep in r) ≡ Err stop.Syntax = sym (deeps_all g ts h) ∙ wrongs_all g ts w in absurd cc

-- a token comes at one depth after the same tokens
one_depth : (g : Goal) (x y : Tree) → Fits inside x (goal_rule g) → Fits inside y (goal_rule g) → (p q r s : Marks) (t : Lexeme) (d e : ℕ)
    → marks 0 x ≡ p ++ ((t, d) ∷ q) → marks 0 y ≡ r ++ ((t, e) ∷ s) → words p ≡ words r → Shallow p → Shallow r → d ≤ most_openings → most_openings < e → ⊥
one_depth g x y hx hy p q r s t d e i j same sp sr le lt =
    let met : Meeting inside st 0 (goal_rule g) (λ ts. parse_with (deeper inside most_openings) (goal_rule g) ts) =
    meets_with inside st wide 0 (deeper inside most_openings) (deeper_sound inside inside_ends most_openings 0 refl) (deeper_reads inside st wide good most_openings 0 refl) (deeper_meets inside st wide inside_ends good most_openings 0 refl)
    (goal_rule g) (ends (goal_part g)) (goal_good g) in
    let run : List Lexeme → Answer = λ ts. parse_with (deeper inside most_openings) (goal_rule g) ts in
    let past : length (rest_of (run (words p ++ (t ∷ [])))) ≤ 0 = (met x hx p (t, d) q i sp []).passes le in
    let stops : run (words r ++ (t ∷ [])) ≡ Deep (t ∷ []) = (met y hy r (t, e) s j sr []).stops lt in
    let here : length (rest_of (run (words p ++ (t ∷ [])))) ≡ 1 = ap (λ (w : List Lexeme). length (rest_of (run (w ++ (t ∷ []))))) same ∙ ap (λ (a : Answer). length (rest_of a)) stops in
    omega (arith, past, here)

-- ---- the written grammar refuses in one way

none_at : (a : Rule) (ps prefix rest : List Lexeme) → NoneGoesOn written_inside a prefix rest → (x : Tree) → Fits written_inside x a → ps ≡ words (marks 0 x) → ps ≡ prefix ++ rest → ⊥
none_at a ps prefix [] none x h e f = none x h (sym e ∙ f ∙ append-nil prefix)
none_at a ps prefix (t ∷ r) none x h e f = none x r h (sym e ∙ f)

written_tree_not_wrong : (g : Goal) (ps : List Lexeme) → HasSomeTree written_inside (written_rule g) ps → IsWrong written_inside (written_rule g) ps → ⊥
written_tree_not_wrong g ps (x, h) w = none_at (written_rule g) ps (words w.before) w.rest w.none x h.fits h.spells w.spells

none_deep : (a : Rule) (ps : List Lexeme) (h : IsTooDeep written_inside a ps) (before : Marks) (rest : List Lexeme) → ps ≡ words before ++ rest → NoneGoesOn written_inside a (words before) rest → length before ≤ length h.before → ⊥
none_deep a ps h before [] e none le =
    omega (arith, ap length e, ap length h.spells, length-append (words before) [], length-append (words h.before) (h.token ∷ h.rest), length-words before, length-words h.before)
none_deep a ps h before (t ∷ r) e none le =
    let g = goes_along (words before) (words h.before) h.token t h.rest r (words h.after) (sym h.spells ∙ e) (omega (arith, length-words before, length-words h.before)) in
    none h.tree g.0 h.fits (ap words h.parts ∙ words-append h.before ((h.token, h.depth) ∷ h.after) ∙ g.1)

early_deep : (g : Goal) (ps : List Lexeme) (h : IsTooDeep written_inside (written_rule g) ps) (w : IsWrong written_inside (written_rule g) ps) → length h.before < length w.before → ⊥
early_deep g ps h w lt =
    let c = cut (length h.before) w.before lt in
    let s : Shallow (c.before ++ ((c.token, c.depth) ∷ c.after)) = subst Shallow c.parts w.shallow in
    let q : Marks = c.after ++ w.after in
    let e : marks 0 w.tree ≡ c.before ++ ((c.token, c.depth) ∷ q) =
    w.parts ∙ ap (λ (m : Marks). m ++ w.after) c.parts ∙ append_assoc c.before ((c.token, c.depth) ∷ c.after) w.after in
    let text : words c.before ++ (c.token ∷ (words c.after ++ w.rest)) ≡ words h.before ++ (h.token ∷ h.rest) =
    sym (append_assoc (words c.before) (c.token ∷ words c.after) w.rest) ∙ ap (λ (v : List Lexeme). v ++ w.rest) (sym (words-append c.before ((c.token, c.depth) ∷ c.after)))
    ∙ ap (λ (m : Marks). words m ++ w.rest) (sym c.parts) ∙ sym w.spells ∙ h.spells in
    let same = same_cut (words c.before) (words h.before) c.token h.token (words c.after ++ w.rest) h.rest text (omega (arith, length-words c.before, length-words h.before, c.len)) in
    let deep = deep_read_at g h.before h.after h.token h.depth (h.tree, h.fits, h.parts) h.shallow h.over in
    let e2 : marks 0 w.tree ≡ c.before ++ ((h.token, c.depth) ∷ q) = e ∙ ap (λ (u : Lexeme). c.before ++ ((u, c.depth) ∷ q)) same.1 in
    let x = ((goal_root g).to 0 (c.before ++ ((h.token, c.depth) ∷ q)) (w.tree, w.fits, e2)).has in
    let k : List Lexeme = words q ++ [] in
    let j : List Lexeme = words h.after ++ [] in
    let at : marks 0 x.0 ≡ tag_marks c.before (h.token ∷ k) ++ ((tag h.token j, c.depth) ∷ tag_marks q []) =
    x.2 ∙ tag_marks-append c.before ((h.token, c.depth) ∷ q) []
    ∙ ap (λ (u : Lexeme). tag_marks c.before (h.token ∷ k) ++ ((u, c.depth) ∷ tag_marks q [])) (opening_tag h.token k j deep.opens) in
    one_depth g x.0 deep.has.0 x.1 deep.has.1 (tag_marks c.before (h.token ∷ k)) (tag_marks q []) (tag_marks h.before (h.token ∷ j)) (tag_marks h.after []) (tag h.token j) c.depth h.depth
    at (deep.has.2 ∙ deep.parts)
    (words_to_opening c.before h.token k j deep.opens ∙ ap (λ (v : List Lexeme). tags v (h.token ∷ j)) same.0 ∙ sym (words-tag_marks h.before (h.token ∷ j)))
    (shallow-tag_marks c.before (h.token ∷ k) (shallow_left c.before ((c.token, c.depth) ∷ c.after) s)) (shallow-tag_marks h.before (h.token ∷ j) h.shallow)
    (shallow_at c.before (c.token, c.depth) c.after s) h.over

written_deep_not_wrong : (g : Goal) (ps : List Lexeme) → IsTooDeep written_inside (written_rule g) ps → IsWrong written_inside (written_rule g) ps → ⊥
written_deep_not_wrong g ps h w =
    elim (cases_lt (length h.before) (length w.before)) [
      | inl lt ↦ early_deep g ps h w lt
      | inr le ↦ none_deep (written_rule g) ps h w.before w.rest w.spells w.none le
    ]

-- ---- wrong by the written grammar, wrong by the other

wrong_by : (g : Goal) (ts : List Lexeme) → (HasSomeTree inside (goal_rule g) ts → ⊥) → (IsTooDeep inside (goal_rule g) ts → ⊥) → (r : Verdict) → text_read (goal_part g) ts ≡ r → IsWrong inside (goal_rule g) ts
wrong_by g ts nt nd (Ok u) e = absurd (nt (reads g ts e))
wrong_by g ts nt nd (Err stop.Syntax) e = wrongs g ts e
wrong_by g ts nt nd (Err stop.TooDeep) e = absurd (nd (deeps g ts e))

pub wrong_read : (g : Goal) (text : List ℕ) (ps : List Lexeme) → ArePlain text ps → IsWrong written_inside (written_rule g) ps → IsWrong inside (goal_rule g) (tags ps [])
wrong_read g text ps plain w =
    let same : ps ≡ map (untag text) (tags ps []) = sym (untag_tags text ps [] plain) in
    wrong_by g (tags ps []) (λ t. written_tree_not_wrong g ps (tree_written g text (tags ps []) ps same t) w)
    (λ h. written_deep_not_wrong g ps (deep_written g text (tags ps []) ps same h) w) (text_read (goal_part g) (tags ps [])) refl

-- ---- whether some tree goes on

abbrev GoesOn : (Place → Rule) → Rule → List Lexeme → Type 0
GoesOn i a ts = (x : Tree) × (more : List Lexeme) × Fits i x a × (words (marks 0 x) ≡ ts ++ more)

data Going (i : Place → Rule) (a : Rule) (ts : List Lexeme) : Type 0 where
  Goes : GoesOn i a ts → Going i a ts
  Never : (GoesOn i a ts → ⊥) → Going i a ts
  TooDeep : IsTooDeep i a ts → Going i a ts

wrong_goes : (g : Goal) (ts : List Lexeme) (tree : Tree) (before after : Marks) (rest : List Lexeme) → Fits inside tree (goal_rule g) → marks 0 tree ≡ before ++ after → ts ≡ words before ++ rest → NoneGoesOn inside (goal_rule g) (words before) rest → Going inside (goal_rule g) ts
wrong_goes g ts tree before after [] fits parts spells none =
    Goes (tree, words after, fits, ap words parts ∙ words-append before after ∙ ap (λ (w : List Lexeme). w ++ words after) (sym (append-nil (words before)) ∙ sym spells))
wrong_goes g ts tree before after (t ∷ r) fits parts spells none =
    Never (λ y. none y.0 (r ++ y.1) y.2 (y.3 ∙ ap (λ (w : List Lexeme). w ++ y.1) spells ∙ append_assoc (words before) (t ∷ r) y.1))

going_by : (g : Goal) (ts : List Lexeme) (r : Verdict) → text_read (goal_part g) ts ≡ r → Going inside (goal_rule g) ts
going_by g ts (Ok u) e = let t = reads g ts e in Goes (t.0, [], t.1.fits, sym t.1.spells ∙ sym (append-nil ts))
going_by g ts (Err stop.Syntax) e = let w = wrongs g ts e in wrong_goes g ts w.tree w.before w.after w.rest w.fits w.parts w.spells w.none
going_by g ts (Err stop.TooDeep) e = TooDeep (deeps g ts e)

going : (g : Goal) (ts : List Lexeme) → Going inside (goal_rule g) ts
going g ts = going_by g ts (text_read (goal_part g) ts) refl

-- plain tokens, by the classes that they have before something
module _ (g : Goal) (text : List ℕ) (q : List Lexeme) (plain : ArePlain text q) where
  goes_written : (κ : Kind) → GoesOn inside (goal_rule g) (tags q (example κ)) → GoesOn written_inside (written_rule g) q
  goes_written κ x =
      let y = (goal_root g).from text 0 (marks 0 x.0) (x.0, x.2, refl) in (
        y.0,
        map (untag text) x.1,
        y.1,
        ap words y.2 ∙ words-untag_marks text (marks 0 x.0) ∙ ap (map (untag text)) x.3 ∙ map-append (untag text) (tags q (example κ)) x.1
            ∙ ap (λ (w : List Lexeme). w ++ map (untag text) x.1) (untag_tags text q (example κ) plain),
      )

  deep_written_by : (κ : Kind) → IsTooDeep inside (goal_rule g) (tags q (example κ)) → IsTooDeep written_inside (written_rule g) q
  deep_written_by κ h = deep_written g text (tags q (example κ)) q (sym (untag_tags text q (example κ) plain)) h

  goes_read : GoesOn written_inside (written_rule g) q → (κ : Kind) × GoesOn inside (goal_rule g) (tags q (example κ))
  goes_read y =
      let k : List Lexeme = y.1 ++ [] in
      let κ = kind_of k in
      let x = ((goal_root g).to 0 (marks 0 y.0) (y.0, y.2, refl)).has in (
        κ.0,
        (
          x.0,
          tags y.1 [],
          x.1,
          ap words x.2 ∙ words-tag_marks (marks 0 y.0) [] ∙ ap (λ (w : List Lexeme). tags w []) y.3 ∙ tags-append q y.1 []
              ∙ ap (λ (w : List Lexeme). w ++ tags y.1 []) (tags_by q k (example κ.0) κ.1),
        ),
      )

  never_written : ((κ : Kind) → GoesOn inside (goal_rule g) (tags q (example κ)) → ⊥) → GoesOn written_inside (written_rule g) q → ⊥
  never_written n y = let x = goes_read y in n x.0 x.1

  -- what holds so far: no tree goes on with the classes before these kinds
  next_kind : (κ : Kind) → Going inside (goal_rule g) (tags q (example κ)) → ((GoesOn inside (goal_rule g) (tags q (example κ)) → ⊥) → Going written_inside (written_rule g) q) → Going written_inside (written_rule g) q
  next_kind κ (Goes x) f = Goes (goes_written κ x)
  next_kind κ (Never n) f = f n
  next_kind κ (TooDeep h) f = TooDeep (deep_written_by κ h)

  by_kind : (GoesOn inside (goal_rule g) (tags q (example Nothing_more)) → ⊥) → (GoesOn inside (goal_rule g) (tags q (example Other)) → ⊥) → (GoesOn inside (goal_rule g) (tags q (example Star_next)) → ⊥)
      → (GoesOn inside (goal_rule g) (tags q (example All_of_next)) → ⊥) → (κ : Kind) → GoesOn inside (goal_rule g) (tags q (example κ)) → ⊥
  by_kind a b c d Nothing_more = a
  by_kind a b c d Other = b
  by_kind a b c d Star_next = c
  by_kind a b c d All_of_next = d

  written_going : Going written_inside (written_rule g) q
  written_going =
      next_kind Nothing_more (going g (tags q (example Nothing_more))) (λ a.
      next_kind Other (going g (tags q (example Other))) (λ b.
      next_kind Star_next (going g (tags q (example Star_next))) (λ c.
      next_kind All_of_next (going g (tags q (example All_of_next))) (λ d. Never (never_written (by_kind a b c d))))))

-- ---- wrong by the other grammar, wrong by the written one

deep_of : (a : Rule) (ps : List Lexeme) (tree : Tree) (before after : Marks) (rest : List Lexeme) → Fits written_inside tree a → marks 0 tree ≡ before ++ after → ps ≡ words before ++ rest → HasDeep before → IsTooDeep written_inside a ps
deep_of a ps tree before after rest fits parts spells h = record {
  tree = tree;
  before = h.before;
  token = h.token;
  depth = h.depth;
  after = h.after ++ after;
  rest = words h.after ++ rest;
  fits = fits;
  parts = parts ∙ ap (λ (w : Marks). w ++ after) h.parts ∙ append_assoc h.before ((h.token, h.depth) ∷ h.after) after;
  shallow = h.shallow;
  over = h.over;
  spells = spells ∙ ap (λ (w : Marks). words w ++ rest) h.parts ∙ ap (λ (w : List Lexeme). w ++ rest) (words-append h.before ((h.token, h.depth) ∷ h.after)) ∙ append_assoc (words h.before) (h.token ∷ words h.after) rest;
}

longer_deep : (a : Rule) (ps q rest : List Lexeme) → ps ≡ q ++ rest → IsTooDeep written_inside a q → IsTooDeep written_inside a ps
longer_deep a ps q rest e h = record {
  tree = h.tree;
  before = h.before;
  token = h.token;
  depth = h.depth;
  after = h.after;
  rest = h.rest ++ rest;
  fits = h.fits;
  parts = h.parts;
  shallow = h.shallow;
  over = h.over;
  spells = e ∙ ap (λ (w : List Lexeme). w ++ rest) h.spells ∙ append_assoc (words h.before) (h.token ∷ h.rest) rest;
}

module _ (g : Goal) (text : List ℕ) (ps : List Lexeme) (plain : ArePlain text ps) (no_tree : HasSomeTree written_inside (written_rule g) ps → ⊥) (not_deep : IsTooDeep written_inside (written_rule g) ps → ⊥) where
  at_end : (before : Marks) → ps ≡ words before ++ [] → NoneGoesOn written_inside (written_rule g) (words before) []
  at_end before e = λ x h s.
      let same : ps ≡ words (marks 0 x) = e ∙ append-nil (words before) ∙ sym s in
      elim (first_deep (marks 0 x)) [
        | inl i ↦ no_tree (x, record { fits = h; spells = same; shallow = i })
        | inr i ↦ not_deep (deep_of (written_rule g) ps x (marks 0 x) [] [] h (sym (append-nil (marks 0 x))) (same ∙ sym (append-nil (words (marks 0 x)))) i)
      ]

  shift : (before : Marks) (t : Lexeme) (rest : List Lexeme) → ps ≡ words before ++ (t ∷ rest) → ps ≡ (words before ++ (t ∷ [])) ++ rest
  shift before t rest e = e ∙ sym (append_assoc (words before) (t ∷ []) rest)

  -- from a place up to which some tree goes on
  walk : (rest : List Lexeme) (tree : Tree) (before after : Marks) → Fits written_inside tree (written_rule g) → marks 0 tree ≡ before ++ after → Shallow before → ps ≡ words before ++ rest → IsWrong written_inside (written_rule g) ps
  walk [] tree before after fits parts shallow spells = record { tree = tree; before = before; after = after; rest = []; fits = fits; parts = parts; shallow = shallow; spells = spells; none = at_end before spells }
  walk (t ∷ rest) tree before after fits parts shallow spells =
      let q : List Lexeme = words before ++ (t ∷ []) in
      let e : ps ≡ q ++ rest = shift before t rest spells in
      elim (written_going g text q (plain_left text q rest (subst (ArePlain text) e plain))) [
        | Goes y ↦
            let b = begins q y.1 (marks 0 y.0) y.3 in
            let spells2 : ps ≡ words b.before ++ rest = e ∙ ap (λ (w : List Lexeme). w ++ rest) (sym b.same) in
            elim (first_deep b.before) [
              | inl s ↦ walk rest y.0 b.before b.after y.2 b.parts s spells2
              | inr h ↦ absurd (not_deep (deep_of (written_rule g) ps y.0 b.before b.after rest y.2 b.parts spells2 h))
            ]
        | Never n ↦ record {
          tree = tree;
          before = before;
          after = after;
          rest = t ∷ rest;
          fits = fits;
          parts = parts;
          shallow = shallow;
          spells = spells;
          none = λ x more h s. n (x, more, h, s ∙ sym (append_assoc (words before) (t ∷ []) more));
        }
        | TooDeep h ↦ absurd (not_deep (longer_deep (written_rule g) ps q rest e h))
      ]

pub wrong_written : (g : Goal) (text : List ℕ) (ps : List Lexeme) → ArePlain text ps → IsWrong inside (goal_rule g) (tags ps []) → IsWrong written_inside (written_rule g) ps
wrong_written g text ps plain w =
    let y = (goal_root g).from text 0 (marks 0 w.tree) (w.tree, w.fits, refl) in
    walk g text ps plain (λ t. tree_not_wrong g (tags ps []) (tree_read g ps t) w) (λ h. deep_not_wrong g (tags ps []) (deep_read g ps h) w) ps y.0 [] (marks 0 y.0) y.1 refl tt refl
