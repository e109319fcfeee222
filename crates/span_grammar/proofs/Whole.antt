-- The result for a whole text is the one that the grammar defines, both ways.
use Rattle.std.proofs.Common.{◌≡◌, ℕ, zero, suc, ◌<◌, ◌≤◌, ◌⊎◌, inl, inr, Bool, List, [], ◌∷◌, ◌++◌, length, refl, sym, ap, subst, ◌∙◌, append_assoc, arith, length-append}
use Rattle.std.proofs.lemmas.Bool.{cases_lt}
use Rattle.std.proofs.lemmas.List.{append-nil}
use Rattle.span_grammar.specs.declared.class.Lexeme.{Lexeme}
use Rattle.span_grammar.specs.declared.grammar.Place.{Place}
use Rattle.span_grammar.specs.Rules.{Rule, Tree, Marks, marks, words, most_openings, Shallow, Fits, Answer, Read, Wrong, Deep, parse, deeper}
use Rattle.span_grammar.specs.Texts.{HasTree, NoneGoesOn, IsWrong, IsTooDeep}
use Rattle.span_grammar.proofs.Sound.{words-append, Sound, Is, Ends, parse_sound, deeper_sound}
use Rattle.span_grammar.proofs.Follow.{Good, Stretches, rest_of, Past, Reads, Meeting, reads_with, meets_with, deeper_reads, deeper_meets, shallow_left}

-- what is left over is a fault at its first token
abbrev pub whole : Answer → Answer
whole (Read x []) = Read x []
whole (Read x (t ∷ k)) = Wrong (t ∷ k)
whole (Wrong k) = Wrong k
whole (Deep k) = Deep k

record HasDeep (ms : Marks) : Type 0 where
  pub p : Marks
  pub m : Lexeme × ℕ
  pub q : Marks
  pub parts : ms ≡ p ++ (m ∷ q)
  pub shallow : Shallow p
  pub over : most_openings < m.1

first_deep : (ms : Marks) → Shallow ms ⊎ HasDeep ms
first_deep [] = inl tt
first_deep (n ∷ ms) =
    elim (cases_lt most_openings n.1) [
      | inl lt ↦ inr (record { p = []; m = n; q = ms; parts = refl; shallow = tt; over = lt })
      | inr le ↦ elim (first_deep ms) [
        | inl s ↦ inl (le, s)
        | inr h ↦ inr (record { p = n ∷ h.p; m = h.m; q = h.q; parts = ap (λ (w : Marks). n ∷ w) h.parts; shallow = (le, h.shallow); over = h.over })
      ]
    ]

record Cut (ms : Marks) (n : ℕ) : Type 0 where
  pub p : Marks
  pub m : Lexeme × ℕ
  pub q : Marks
  pub parts : ms ≡ p ++ (m ∷ q)
  pub len : length p ≡ n

cut : (n : ℕ) (ms : Marks) → n < length ms → Cut ms n
cut n [] h = absurd (omega arith)
cut zero (m ∷ ms) h = record { p = []; m = m; q = ms; parts = refl; len = refl }
cut (suc n) (m ∷ ms) h = let c = cut n ms (omega arith) in record { p = m ∷ c.p; m = c.m; q = c.q; parts = ap (λ (w : Marks). m ∷ w) c.parts; len = ap (λ (k : ℕ). suc k) c.len }

pub shallow_at : (a : Marks) (m : Lexeme × ℕ) (b : Marks) → Shallow (a ++ (m ∷ b)) → m.1 ≤ most_openings
shallow_at [] m b h = h.0
shallow_at (n ∷ a) m b h = shallow_at a m b h.1

pub length-words : (a : Marks) → length (words a) ≡ length a
length-words [] = refl
length-words (m ∷ a) = ap (λ (k : ℕ). suc k) (length-words a)

words_at : (p : Marks) (m : Lexeme × ℕ) (q : Marks) (r : List Lexeme) → words (p ++ (m ∷ q)) ++ r ≡ words p ++ (m.0 ∷ (words q ++ r))
words_at p m q r = ap (λ (w : List Lexeme). w ++ r) (words-append p (m ∷ q)) ∙ append_assoc (words p) (m.0 ∷ words q) r

-- the marks of a text that begins with some tokens and then a token
record MarkAt (ms : Marks) (prefix : List Lexeme) (t : Lexeme) : Type 0 where
  pub p : Marks
  pub m : Lexeme × ℕ
  pub q : Marks
  pub parts : ms ≡ p ++ (m ∷ q)
  pub same : words p ≡ prefix
  pub here : m.0 ≡ t

mark_at : (prefix : List Lexeme) (t : Lexeme) (more : List Lexeme) (ms : Marks) → words ms ≡ prefix ++ (t ∷ more) → MarkAt ms prefix t
mark_at [] t more [] e = absurd cc
mark_at [] t more (m ∷ ms) e = record { p = []; m = m; q = ms; parts = refl; same = refl; here = cc }
mark_at (f ∷ prefix) t more [] e = absurd cc
mark_at (f ∷ prefix) t more (m ∷ ms) e =
    let i : m.0 ≡ f = cc in
    let j : words ms ≡ prefix ++ (t ∷ more) = cc in
    let h = mark_at prefix t more ms j in
    record { p = m ∷ h.p; m = h.m; q = h.q; parts = ap (λ (w : Marks). m ∷ w) h.parts; same = ap (λ (w : List Lexeme). m.0 ∷ w) h.same ∙ ap (λ (y : Lexeme). y ∷ prefix) i; here = h.here }

-- a longer beginning goes on as the shorter one
pub goes_along : (b a : List Lexeme) (x y : Lexeme) (c c2 c3 : List Lexeme) → a ++ (x ∷ c) ≡ b ++ (y ∷ c2) → length b ≤ length a → (more : List Lexeme) × (a ++ (x ∷ c3) ≡ b ++ (y ∷ more))
goes_along [] [] x y c c2 c3 e le = let i : x ≡ y = cc in (c3, ap (λ (t : Lexeme). t ∷ c3) i)
goes_along [] (z ∷ a) x y c c2 c3 e le = let i : z ≡ y = cc in (a ++ (x ∷ c3), ap (λ (t : Lexeme). t ∷ (a ++ (x ∷ c3))) i)
goes_along (w ∷ b) [] x y c c2 c3 e le = absurd (omega arith)
goes_along (w ∷ b) (z ∷ a) x y c c2 c3 e le =
    let i : z ≡ w = cc in
    let j : a ++ (x ∷ c) ≡ b ++ (y ∷ c2) = cc in
    let h = goes_along b a x y c c2 c3 j (omega arith) in
    (h.0, ap (λ (l : List Lexeme). z ∷ l) h.1 ∙ ap (λ (t : Lexeme). t ∷ (b ++ (y ∷ h.0))) i)

module _ (inside : Place → Rule) (st : Place → Lexeme → Bool) (wide : Stretches inside st) (ends : (p : Place) → Ends inside (inside p)) (good : (p : Place) → Good st (inside p)) (a : Rule) (ends_a : Ends inside a) (good_a : Good st a) where
  abbrev run : List Lexeme → Answer
  run ts = parse inside most_openings a ts

  all_sound : (ts : List Lexeme) → Sound 0 (Is inside a) ts (run ts)
  all_sound ts = parse_sound inside ends most_openings 0 refl a ends_a ts

  all_reads : Reads inside st 0 a run
  all_reads = reads_with inside st wide 0 (deeper inside most_openings) (deeper_reads inside st wide good most_openings 0 refl) a good_a

  all_meets : Meeting inside st 0 a run
  all_meets = meets_with inside st wide 0 (deeper inside most_openings) (deeper_sound inside ends most_openings 0 refl) (deeper_reads inside st wide good most_openings 0 refl) (deeper_meets inside st wide ends good most_openings 0 refl) a ends_a good_a

  -- at a deep token of a tree
  deep_there : (y : Tree) → Fits inside y a → (p : Marks) (q : Marks) → marks 0 y ≡ p ++ q → HasDeep p → (r : List Lexeme) → (k : List Lexeme) × (run (words p ++ r) ≡ Deep k)
  deep_there y h p q e d r =
      let e2 : marks 0 y ≡ d.p ++ (d.m ∷ (d.q ++ q)) = e ∙ ap (λ (w : Marks). w ++ q) d.parts ∙ append_assoc d.p (d.m ∷ d.q) q in
      let m = all_meets y h d.p d.m (d.q ++ q) e2 d.shallow (words d.q ++ r) in
      (d.m.0 ∷ (words d.q ++ r), ap run (ap (λ (w : Marks). words w ++ r) d.parts ∙ words_at d.p d.m d.q r) ∙ m.stops d.over)

  -- a tree's token is passed, unless it is deep or comes after a deep one
  no_stop : (y : Tree) → Fits inside y a → (p : Marks) (m : Lexeme × ℕ) (q : Marks) → marks 0 y ≡ p ++ (m ∷ q) → (r : List Lexeme) → Past r (run (words p ++ (m.0 ∷ r))) ⊎ ((k : List Lexeme) × (run (words p ++ (m.0 ∷ r)) ≡ Deep k))
  no_stop y h p m q e r =
      elim (first_deep p) [
        | inr d ↦ inr (deep_there y h p (m ∷ q) e d (m.0 ∷ r))
        | inl s ↦ elim (cases_lt most_openings m.1) [
          | inl lt ↦ inr (m.0 ∷ r, (all_meets y h p m q e s r).stops lt)
          | inr le ↦ inl ((all_meets y h p m q e s r).passes le)
        ]
      ]

  -- a whole tree is read, unless it is too deep
  no_end : (y : Tree) → Fits inside y a → (run (words (marks 0 y) ++ []) ≡ Read y []) ⊎ ((k : List Lexeme) × (run (words (marks 0 y) ++ []) ≡ Deep k))
  no_end y h =
      elim (first_deep (marks 0 y)) [
        | inl s ↦ inl (all_reads y h s [] tt)
        | inr d ↦ inr (deep_there y h (marks 0 y) [] (sym (append-nil (marks 0 y))) d [])
      ]

  -- no tree goes on where a run stopped that is neither deep nor at the end of a tree
  stops_right : (ts : List Lexeme) (before : List Lexeme) (k : List Lexeme) → ts ≡ before ++ k → (ans : Answer) → run ts ≡ ans → rest_of ans ≡ k → ((j : List Lexeme) → ans ≡ Deep j → ⊥) → ((x : Tree) → ans ≡ Read x [] → ⊥) → NoneGoesOn inside a before k
  stops_right ts before [] e ans i rest nd nr = λ y h s.
      let j : ts ≡ words (marks 0 y) ++ [] = e ∙ ap (λ (w : List Lexeme). w ++ []) (sym s) in
      elim (no_end y h) [
        | inl r ↦ nr y (sym i ∙ ap run j ∙ r)
        | inr d ↦ nd d.0 (sym i ∙ ap run j ∙ d.1)
      ]
  stops_right ts before (t ∷ k) e ans i rest nd nr = λ y more h s.
      let m = mark_at before t more (marks 0 y) s in
      let j : ts ≡ words m.p ++ (m.m.0 ∷ k) = e ∙ ap (λ (w : List Lexeme). w ++ (t ∷ k)) (sym m.same) ∙ ap (λ (w : Lexeme). words m.p ++ (w ∷ k)) (sym m.here) in
      let l : run (words m.p ++ (m.m.0 ∷ k)) ≡ ans = ap run (sym j) ∙ i in
      elim (no_stop y h m.p m.m m.q m.parts k) [
        | inl past ↦ let g : length (rest_of ans) ≤ length k = subst (λ (w : Answer). length (rest_of w) ≤ length k) l past in omega (arith, g, ap length rest)
        | inr d ↦ nd d.0 (sym l ∙ d.1)
      ]

  abbrev pub Right : List Lexeme → Answer → Type 0
  Right ts (Read x k) = HasTree inside a ts x
  Right ts (Wrong k) = IsWrong inside a ts
  Right ts (Deep k) = IsTooDeep inside a ts

  right_of : (ts : List Lexeme) (s : Answer) → run ts ≡ s → Sound 0 (Is inside a) ts s → Right ts (whole s)
  right_of ts (Read x []) i h = record { fits = h.fits; spells = h.prefix ∙ append-nil (words (marks 0 x)); shallow = h.shallow }
  right_of ts (Read x (t ∷ k)) i h = record {
    tree = x;
    before = marks 0 x;
    after = [];
    rest = t ∷ k;
    fits = h.fits;
    parts = sym (append-nil (marks 0 x));
    shallow = h.shallow;
    spells = h.prefix;
    none = stops_right ts (words (marks 0 x)) (t ∷ k) h.prefix (Read x (t ∷ k)) i refl (λ j e. cc) (λ y e. cc);
  }
  right_of ts (Wrong k) i h = record {
    tree = h.tree;
    before = h.before;
    after = h.after;
    rest = k;
    fits = h.fits;
    parts = h.parts;
    shallow = h.shallow;
    spells = h.prefix;
    none = stops_right ts (words h.before) k h.prefix (Wrong k) i refl (λ j e. cc) (λ y e. cc);
  }
  right_of ts (Deep k) i h = record { tree = h.tree; before = h.before; token = h.token; depth = h.depth; after = h.after; rest = h.rest; fits = h.fits; parts = h.parts; shallow = h.shallow; over = h.over; spells = h.prefix ∙ ap (λ (w : List Lexeme). words h.before ++ w) h.is_front }

  -- what is answered is so
  pub answered : (ts : List Lexeme) → Right ts (whole (run ts))
  answered ts = right_of ts (run ts) refl (all_sound ts)

  -- what is so is answered
  pub tree_answered : (ts : List Lexeme) (x : Tree) → HasTree inside a ts x → whole (run ts) ≡ Read x []
  tree_answered ts x h = ap (λ (w : List Lexeme). whole (run w)) (h.spells ∙ sym (append-nil (words (marks 0 x)))) ∙ ap whole (all_reads x h.fits h.shallow [] tt)

  pub deep_answered : (ts : List Lexeme) → IsTooDeep inside a ts → (k : List Lexeme) × (whole (run ts) ≡ Deep k)
  deep_answered ts h =
      (h.token ∷ h.rest, ap (λ (w : List Lexeme). whole (run w)) h.spells ∙ ap whole ((all_meets h.tree h.fits h.before (h.token, h.depth) h.after h.parts h.shallow h.rest).stops h.over))

  -- a text has one tree
  pub one_tree : (ts : List Lexeme) (x y : Tree) → HasTree inside a ts x → HasTree inside a ts y → x ≡ y
  one_tree ts x y h i = let e : Read x [] ≡ Read y [] = sym (tree_answered ts x h) ∙ tree_answered ts y i in cc

  none_at : (ts prefix rest : List Lexeme) → NoneGoesOn inside a prefix rest → (x : Tree) → Fits inside x a → ts ≡ words (marks 0 x) → ts ≡ prefix ++ rest → ⊥
  none_at ts prefix [] none x h e f = none x h (sym e ∙ f ∙ append-nil prefix)
  none_at ts prefix (t ∷ r) none x h e f = none x r h (sym e ∙ f)

  none_deep : (ts : List Lexeme) (d : IsTooDeep inside a ts) (before : Marks) (rest : List Lexeme) → ts ≡ words before ++ rest → NoneGoesOn inside a (words before) rest → length before ≤ length d.before → ⊥
  none_deep ts d before [] e none le =
      omega (arith, ap length e, ap length d.spells, length-append (words before) [], length-append (words d.before) (d.token ∷ d.rest), length-words before, length-words d.before)
  none_deep ts d before (t ∷ r) e none le =
      let g = goes_along (words before) (words d.before) d.token t d.rest r (words d.after) (sym d.spells ∙ e) (omega (arith, length-words before, length-words d.before)) in
      none d.tree g.0 d.fits (ap words d.parts ∙ words-append d.before ((d.token, d.depth) ∷ d.after) ∙ g.1)

  early_deep : (ts : List Lexeme) (d : IsTooDeep inside a ts) (w : IsWrong inside a ts) → length d.before < length w.before → ⊥
  early_deep ts d w lt =
      let c = cut (length d.before) w.before lt in
      let r : List Lexeme = words c.q ++ w.rest in
      let s : Shallow (c.p ++ (c.m ∷ c.q)) = subst Shallow c.parts w.shallow in
      let e : marks 0 w.tree ≡ c.p ++ (c.m ∷ (c.q ++ w.after)) = w.parts ∙ ap (λ (m : Marks). m ++ w.after) c.parts ∙ append_assoc c.p (c.m ∷ c.q) w.after in
      let ts_is : ts ≡ words c.p ++ (c.m.0 ∷ r) = w.spells ∙ ap (λ (m : Marks). words m ++ w.rest) c.parts ∙ words_at c.p c.m c.q w.rest in
      let past : Past r (run (words c.p ++ (c.m.0 ∷ r))) = (all_meets w.tree w.fits c.p c.m (c.q ++ w.after) e (shallow_left c.p (c.m ∷ c.q) s) r).passes (shallow_at c.p c.m c.q s) in
      let stop : run (words d.before ++ (d.token ∷ d.rest)) ≡ Deep (d.token ∷ d.rest) = (all_meets d.tree d.fits d.before (d.token, d.depth) d.after d.parts d.shallow d.rest).stops d.over in
      let same : run (words c.p ++ (c.m.0 ∷ r)) ≡ Deep (d.token ∷ d.rest) = ap run (sym ts_is ∙ d.spells) ∙ stop in
      let short : length (d.token ∷ d.rest) ≤ length r = subst (λ (x : Answer). length (rest_of x) ≤ length r) same past in
      omega (arith, short, c.len, ap length ts_is, ap length d.spells, length-append (words c.p) (c.m.0 ∷ r), length-append (words d.before) (d.token ∷ d.rest), length-words c.p, length-words d.before)

  wrong_is : (ts : List Lexeme) (w : IsWrong inside a ts) (s : Answer) → Right ts s → (k : List Lexeme) × (s ≡ Wrong k)
  wrong_is ts w (Read x k) h = absurd (none_at ts (words w.before) w.rest w.none x h.fits h.spells w.spells)
  wrong_is ts w (Wrong k) h = (k, refl)
  wrong_is ts w (Deep k) h =
      elim (cases_lt (length h.before) (length w.before)) [
        | inl lt ↦ absurd (early_deep ts h w lt)
        | inr le ↦ absurd (none_deep ts h w.before w.rest w.spells w.none le)
      ]

  pub wrong_answered : (ts : List Lexeme) → IsWrong inside a ts → (k : List Lexeme) × (whole (run ts) ≡ Wrong k)
  wrong_answered ts w = wrong_is ts w (whole (run ts)) (answered ts)
