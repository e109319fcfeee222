-- What an expression comes to depends on the columns that it reads alone, and moved columns are read where they are now.
use Rattle.std.proofs.Common.{◌≡◌, ◌∙◌, sym, ap, refl, subst, ℕ, Bool, true, ◌&&◌, List, [], ◌∷◌, map, Some, None, zero, suc, ◌++◌, ◌<◌, length, arith}
use Rattle.std.specs.List.{list_all}
use Rattle.std.proofs.lemmas.Bool.{and_parts}
use Rattle.span_value.specs.declared.value.Value.{Value}
use Rattle.span_value.specs.declared.truth.Outcome.{Outcome}
use Rattle.span_value.specs.declared.truth.Outcome.TheVariants.{Val}
use Rattle.span_expr.specs.declared.expr.Link.{Link}
use Rattle.span_expr.specs.declared.expr.Arm.{Arm}
use Rattle.span_expr.specs.declared.expr.Expr.{Expr}
use Rattle.span_expr.specs.declared.expr.Expr.TheOpen.{Expr-F}
use Rattle.span_expr.specs.declared.expr.Expr.TheViews.{roll-Expr}
use Rattle.span_expr.specs.declared.expr.Expr.TheFolds.{ind-Expr, map-Expr, fold-Expr, fold-roll-Expr}
use Rattle.span_expr.specs.Operators.{column_of}
use Rattle.span_expr.specs.Meaning.{at_operands, val, is_total_arm, total_at, is_total}
use Rattle.span_expr.specs.Places.{link_operand, reads_at, reads_only, move_at, moved}
use Rattle.span_expr.proofs.Folds.{fold-fusion, fold-roll, fold-same}

-- ---- moved columns

-- the same layer, with the place of a column changed
abbrev with_place : {A : Type 0} → (ℕ → ℕ) → Expr-F A → Expr-F A
with_place f (Expr-F.Column place) = Expr-F.Column (f place)
with_place f y = y

move_at-roll : (f : ℕ → ℕ) (y : Expr-F Expr) → move_at f y ≡ roll-Expr (with_place f y)
move_at-roll f (Expr-F.Column place) = refl
move_at-roll f y = refl

map-with_place : (A B : Type 0) (f : ℕ → ℕ) (h : A → B) (y : Expr-F A) → map-Expr A B h (with_place f y) ≡ with_place f (map-Expr A B h y)
map-with_place A B f h (Expr-F.Column place) = refl
map-with_place A B f h y = refl

-- a fold of what was moved
fold-moved : (A : Type 0) (f : ℕ → ℕ) (step next : Expr-F A → A) → ((y : Expr-F A) → step (with_place f y) ≡ next y) → (e : Expr) → fold-Expr A step (moved f e) ≡ fold-Expr A next e
fold-moved A f step next agree =
    fold-fusion Expr A (fold-Expr A step) (move_at f) next (λ y.
    ap (fold-Expr A step) (move_at-roll f y)
    ∙ fold-roll-Expr A step (with_place f y)
    ∙ ap step (map-with_place Expr A f (fold-Expr A step) y)
    ∙ agree (map-Expr Expr A (fold-Expr A step) y))

total_at-with_place : (f : ℕ → ℕ) (y : Expr-F Bool) → total_at (with_place f y) ≡ total_at y
total_at-with_place f (Expr-F.Column place) = refl
total_at-with_place f y = refl

pub is_total-moved : (f : ℕ → ℕ) (e : Expr) → is_total (moved f e) ≡ is_total e
is_total-moved f = fold-moved Bool f total_at total_at (total_at-with_place f)

reads_at-with_place : (f : ℕ → ℕ) (test : ℕ → Bool) (y : Expr-F Bool) → reads_at test (with_place f y) ≡ reads_at (λ k. test (f k)) y
reads_at-with_place f test (Expr-F.Column place) = refl
reads_at-with_place f test y = refl

pub reads_only-moved : (f : ℕ → ℕ) (test : ℕ → Bool) (e : Expr) → reads_only test (moved f e) ≡ reads_only (λ k. test (f k)) e
reads_only-moved f test = fold-moved Bool f (reads_at test) (reads_at (λ k. test (f k))) (reads_at-with_place f test)

move_at-same : (f : ℕ → ℕ) → ((k : ℕ) → f k ≡ k) → (y : Expr-F Expr) → move_at f y ≡ roll-Expr y
move_at-same f same (Expr-F.Column place) = ap (λ (k : ℕ). roll-Expr (Expr-F.Column k)) (same place)
move_at-same f same y = refl

move_at-agree : (f g : ℕ → ℕ) → ((k : ℕ) → f k ≡ g k) → (y : Expr-F Expr) → move_at f y ≡ move_at g y
move_at-agree f g same (Expr-F.Column place) = ap (λ (k : ℕ). roll-Expr (Expr-F.Column k)) (same place)
move_at-agree f g same y = refl

-- the same places, the same expression
pub moved-agree : (f g : ℕ → ℕ) → ((k : ℕ) → f k ≡ g k) → (e : Expr) → moved f e ≡ moved g e
moved-agree f g same e = fold-same Expr (move_at f) (move_at g) (move_at-agree f g same) e

-- columns that stay where they are
pub moved-same : (f : ℕ → ℕ) → ((k : ℕ) → f k ≡ k) → (e : Expr) → moved f e ≡ e
moved-same f same e = fold-same Expr (move_at f) roll-Expr (move_at-same f same) e ∙ fold-roll e

-- ---- what is read

-- whether the place of a layer's own column passes
abbrev own_passes : {A : Type 0} → (ℕ → Bool) → Expr-F A → Bool
own_passes test (Expr-F.Column place) = test place
own_passes test y = true

own_passes-reads : (test : ℕ → Bool) (A : Type 0) (f : Expr → A) (y : Expr-F Expr) → reads_at test (map-Expr Expr Bool (reads_only test) y) ≡ true → own_passes test (map-Expr Expr A f y) ≡ true
own_passes-reads test A f (Expr-F.Column place) is = is
own_passes-reads test A f y is = refl

-- two functions of expressions that agree on each operand that reads only places that pass
module _ (test : ℕ → Bool) (A : Type 0) (f g : Expr → A) where
  abbrev Witness : Type 0
  Witness = (e : Expr) × (reads_only test e ≡ true → f e ≡ g e)

  abbrev bare : Witness → Expr
  bare e = e.0

  abbrev bare_link : Link Witness → Link Expr
  bare_link link = record { operator = link.operator; operand = link.operand.0 }

  abbrev bare_arm : Arm Witness → Arm Expr
  bare_arm arm = record { condition = arm.condition.0; value = arm.value.0 }

  abbrev linked : {B : Type 0} → (Expr → B) → Link Expr → Link B
  linked h link = record { operator = link.operator; operand = h link.operand }

  abbrev armed : {B : Type 0} → (Expr → B) → Arm Expr → Arm B
  armed h arm = record { condition = h arm.condition; value = h arm.value }

  operands_agree : (es : List Witness) → list_all (λ b. b) (map (reads_only test) (map bare es)) ≡ true → map f (map bare es) ≡ map g (map bare es)
  operands_agree [] is = refl
  operands_agree (e ∷ es) is =
      let parts : (reads_only test e.0 ≡ true) × (list_all (λ b. b) (map (reads_only test) (map bare es)) ≡ true) = and_parts (reads_only test e.0) (list_all (λ b. b) (map (reads_only test) (map bare es))) is in
      ap (λ (a : A). a ∷ map f (map bare es)) (e.1 parts.0) ∙ ap (λ (all : List A). g e.0 ∷ all) (operands_agree es parts.1)

  links_agree : (links : List (Link Witness)) → list_all link_operand (map (linked (reads_only test)) (map bare_link links)) ≡ true → map (linked f) (map bare_link links) ≡ map (linked g) (map bare_link links)
  links_agree [] is = refl
  links_agree (link ∷ links) is =
      let parts : (reads_only test link.operand.0 ≡ true) × (list_all link_operand (map (linked (reads_only test)) (map bare_link links)) ≡ true) = and_parts (reads_only test link.operand.0) (list_all link_operand (map (linked (reads_only test)) (map bare_link links))) is in
      ap (λ (a : A). record { operator = link.operator; operand = a } ∷ map (linked f) (map bare_link links)) (link.operand.1 parts.0) ∙ ap (λ (all : List (Link A)). linked g (bare_link link) ∷ all) (links_agree links parts.1)

  arms_agree : (arms : List (Arm Witness)) → list_all is_total_arm (map (armed (reads_only test)) (map bare_arm arms)) ≡ true → map (armed f) (map bare_arm arms) ≡ map (armed g) (map bare_arm arms)
  arms_agree [] is = refl
  arms_agree (arm ∷ arms) is =
      let parts : ((reads_only test arm.condition.0 && reads_only test arm.value.0) ≡ true) × (list_all is_total_arm (map (armed (reads_only test)) (map bare_arm arms)) ≡ true) = and_parts (reads_only test arm.condition.0 && reads_only test arm.value.0) (list_all is_total_arm (map (armed (reads_only test)) (map bare_arm arms))) is in
      let both : (reads_only test arm.condition.0 ≡ true) × (reads_only test arm.value.0 ≡ true) = and_parts (reads_only test arm.condition.0) (reads_only test arm.value.0) parts.0 in
      ap (λ (a : A). record { condition = a; value = f arm.value.0 } ∷ map (armed f) (map bare_arm arms)) (arm.condition.1 both.0)
      ∙ ap (λ (a : A). record { condition = g arm.condition.0; value = a } ∷ map (armed f) (map bare_arm arms)) (arm.value.1 both.1)
      ∙ ap (λ (all : List (Arm A)). armed g (bare_arm arm) ∷ all) (arms_agree arms parts.1)

  abbrev opened : {B : Type 0} → (Expr → B) → Expr-F Witness → Expr-F B
  opened {B} h y = map-Expr Expr B h (map-Expr Witness Expr (λ (e : Witness). e.0) y)

  layer_agrees : (y : Expr-F Witness) → reads_at test (opened (reads_only test) y) ≡ true → opened f y ≡ opened g y
  layer_agrees (Expr-F.Literal v) is = refl
  layer_agrees (Expr-F.Column place) is = refl
  layer_agrees (Expr-F.Negative a) is = ap Expr-F.Negative (a.1 is)
  layer_agrees (Expr-F.Chain first links) is =
      let parts : (reads_only test first.0 ≡ true) × (list_all link_operand (map (linked (reads_only test)) (map bare_link links)) ≡ true) = and_parts (reads_only test first.0) (list_all link_operand (map (linked (reads_only test)) (map bare_link links))) is in
      ap (λ (a : A). Expr-F.Chain a (map (linked f) (map bare_link links))) (first.1 parts.0) ∙ ap (λ (all : List (Link A)). Expr-F.Chain (g first.0) all) (links_agree links parts.1)
  layer_agrees (Expr-F.Compare a c b) is =
      let parts : (reads_only test a.0 ≡ true) × (reads_only test b.0 ≡ true) = and_parts (reads_only test a.0) (reads_only test b.0) is in
      ap (λ (x : A). Expr-F.Compare x c (f b.0)) (a.1 parts.0) ∙ ap (λ (x : A). Expr-F.Compare (g a.0) c x) (b.1 parts.1)
  layer_agrees (Expr-F.Between a low high) is =
      let parts : ((reads_only test a.0 && reads_only test low.0) ≡ true) × (reads_only test high.0 ≡ true) = and_parts (reads_only test a.0 && reads_only test low.0) (reads_only test high.0) is in
      let front : (reads_only test a.0 ≡ true) × (reads_only test low.0 ≡ true) = and_parts (reads_only test a.0) (reads_only test low.0) parts.0 in
      ap (λ (x : A). Expr-F.Between x (f low.0) (f high.0)) (a.1 front.0) ∙ ap (λ (x : A). Expr-F.Between (g a.0) x (f high.0)) (low.1 front.1) ∙ ap (λ (x : A). Expr-F.Between (g a.0) (g low.0) x) (high.1 parts.1)
  layer_agrees (Expr-F.In a members) is =
      let parts : (reads_only test a.0 ≡ true) × (list_all (λ b. b) (map (reads_only test) (map bare members)) ≡ true) = and_parts (reads_only test a.0) (list_all (λ b. b) (map (reads_only test) (map bare members))) is in
      ap (λ (x : A). Expr-F.In x (map f (map bare members))) (a.1 parts.0) ∙ ap (λ (all : List A). Expr-F.In (g a.0) all) (operands_agree members parts.1)
  layer_agrees (Expr-F.Like a pattern) is = ap (λ (x : A). Expr-F.Like x pattern) (a.1 is)
  layer_agrees (Expr-F.StartsWith a front) is =
      let parts : (reads_only test a.0 ≡ true) × (reads_only test front.0 ≡ true) = and_parts (reads_only test a.0) (reads_only test front.0) is in
      ap (λ (x : A). Expr-F.StartsWith x (f front.0)) (a.1 parts.0) ∙ ap (λ (x : A). Expr-F.StartsWith (g a.0) x) (front.1 parts.1)
  layer_agrees (Expr-F.Length a) is = ap Expr-F.Length (a.1 is)
  layer_agrees (Expr-F.IsNull a) is = ap Expr-F.IsNull (a.1 is)
  layer_agrees (Expr-F.Not a) is = ap Expr-F.Not (a.1 is)
  layer_agrees (Expr-F.And first more) is =
      let parts : (reads_only test first.0 ≡ true) × (list_all (λ b. b) (map (reads_only test) (map bare more)) ≡ true) = and_parts (reads_only test first.0) (list_all (λ b. b) (map (reads_only test) (map bare more))) is in
      ap (λ (x : A). Expr-F.And x (map f (map bare more))) (first.1 parts.0) ∙ ap (λ (all : List A). Expr-F.And (g first.0) all) (operands_agree more parts.1)
  layer_agrees (Expr-F.Or first more) is =
      let parts : (reads_only test first.0 ≡ true) × (list_all (λ b. b) (map (reads_only test) (map bare more)) ≡ true) = and_parts (reads_only test first.0) (list_all (λ b. b) (map (reads_only test) (map bare more))) is in
      ap (λ (x : A). Expr-F.Or x (map f (map bare more))) (first.1 parts.0) ∙ ap (λ (all : List A). Expr-F.Or (g first.0) all) (operands_agree more parts.1)
  layer_agrees (Expr-F.Case arms None) is =
      let parts : (list_all is_total_arm (map (armed (reads_only test)) (map bare_arm arms)) ≡ true) × (true ≡ true) = and_parts (list_all is_total_arm (map (armed (reads_only test)) (map bare_arm arms))) true is in
      ap (λ (all : List (Arm A)). Expr-F.Case all None) (arms_agree arms parts.0)
  layer_agrees (Expr-F.Case arms (Some other)) is =
      let parts : (list_all is_total_arm (map (armed (reads_only test)) (map bare_arm arms)) ≡ true) × (reads_only test other.0 ≡ true) = and_parts (list_all is_total_arm (map (armed (reads_only test)) (map bare_arm arms))) (reads_only test other.0) is in
      ap (λ (all : List (Arm A)). Expr-F.Case all (Some (f other.0))) (arms_agree arms parts.0) ∙ ap (λ (x : A). Expr-F.Case (map (armed g) (map bare_arm arms)) (Some x)) (other.1 parts.1)
  layer_agrees (Expr-F.Match a arms None) is =
      let parts : ((reads_only test a.0 && list_all is_total_arm (map (armed (reads_only test)) (map bare_arm arms))) ≡ true) × (true ≡ true) = and_parts (reads_only test a.0 && list_all is_total_arm (map (armed (reads_only test)) (map bare_arm arms))) true is in
      let front : (reads_only test a.0 ≡ true) × (list_all is_total_arm (map (armed (reads_only test)) (map bare_arm arms)) ≡ true) = and_parts (reads_only test a.0) (list_all is_total_arm (map (armed (reads_only test)) (map bare_arm arms))) parts.0 in
      ap (λ (x : A). Expr-F.Match x (map (armed f) (map bare_arm arms)) None) (a.1 front.0) ∙ ap (λ (all : List (Arm A)). Expr-F.Match (g a.0) all None) (arms_agree arms front.1)
  layer_agrees (Expr-F.Match a arms (Some other)) is =
      let parts : ((reads_only test a.0 && list_all is_total_arm (map (armed (reads_only test)) (map bare_arm arms))) ≡ true) × (reads_only test other.0 ≡ true) = and_parts (reads_only test a.0 && list_all is_total_arm (map (armed (reads_only test)) (map bare_arm arms))) (reads_only test other.0) is in
      let front : (reads_only test a.0 ≡ true) × (list_all is_total_arm (map (armed (reads_only test)) (map bare_arm arms)) ≡ true) = and_parts (reads_only test a.0) (list_all is_total_arm (map (armed (reads_only test)) (map bare_arm arms))) parts.0 in
      ap (λ (x : A). Expr-F.Match x (map (armed f) (map bare_arm arms)) (Some (f other.0))) (a.1 front.0)
      ∙ ap (λ (all : List (Arm A)). Expr-F.Match (g a.0) all (Some (f other.0))) (arms_agree arms front.1)
      ∙ ap (λ (x : A). Expr-F.Match (g a.0) (map (armed g) (map bare_arm arms)) (Some x)) (other.1 parts.1)
  layer_agrees (Expr-F.Coalesce operands) is = ap Expr-F.Coalesce (operands_agree operands is)

-- folds whose steps agree where a layer's own column passes
pub fold-reads : (test : ℕ → Bool) (A : Type 0) (step next : Expr-F A → A) → ((y : Expr-F A) → own_passes test y ≡ true → step y ≡ next y) → (e : Expr) → reads_only test e ≡ true → fold-Expr A step e ≡ fold-Expr A next e
fold-reads test A step next agree =
    let P : Expr → Type 0 = λ e. reads_only test e ≡ true → fold-Expr A step e ≡ fold-Expr A next e in
    ind-Expr P (λ x y is. subst (λ (z : Expr-F Expr). P (roll-Expr z)) is (λ reads.
    (let z : Expr-F Expr = map-Expr ((e : Expr) × P e) Expr (λ (e : (e : Expr) × P e). e.0) y in
    let here : reads_at test (map-Expr Expr Bool (reads_only test) z) ≡ true = sym (fold-roll-Expr Bool (reads_at test) z) ∙ reads in
    fold-roll-Expr A step z
    ∙ ap step (layer_agrees test A (fold-Expr A step) (fold-Expr A next) y here)
    ∙ agree (map-Expr Expr A (fold-Expr A next) z) (own_passes-reads test A (fold-Expr A next) z here)
    ∙ sym (fold-roll-Expr A next z))))

operands-agree : (test : ℕ → Bool) (f : ℕ → ℕ) (row other : List Value) → ((k : ℕ) → test k ≡ true → column_of other (f k) ≡ column_of row k) → (y : Expr-F Outcome) → own_passes test y ≡ true → at_operands other (with_place f y) ≡ at_operands row y
operands-agree test f row other same (Expr-F.Column place) passes = ap Val (same place passes)
operands-agree test f row other same y passes = refl

-- At a row that has what it reads at other places, the moved expression comes to the same.
pub val-moved : (f : ℕ → ℕ) (test : ℕ → Bool) (row other : List Value) (e : Expr) → reads_only test e ≡ true → ((k : ℕ) → test k ≡ true → column_of other (f k) ≡ column_of row k) → val other (moved f e) ≡ val row e
val-moved f test row other e reads same =
    fold-moved Outcome f (at_operands other) (λ y. at_operands other (with_place f y)) (λ y. refl) e
    ∙ fold-reads test Outcome (λ y. at_operands other (with_place f y)) (at_operands row) (operands-agree test f row other same) e reads

rows-agree : (test : ℕ → Bool) (row other : List Value) → ((k : ℕ) → test k ≡ true → column_of other k ≡ column_of row k) → (y : Expr-F Outcome) → own_passes test y ≡ true → at_operands other y ≡ at_operands row y
rows-agree test row other same (Expr-F.Column place) passes = ap Val (same place passes)
rows-agree test row other same y passes = refl

-- at rows that agree in the columns that it reads, an expression comes to the same
pub val-reads : (test : ℕ → Bool) (row other : List Value) (e : Expr) → reads_only test e ≡ true → ((k : ℕ) → test k ≡ true → column_of other k ≡ column_of row k) → val other e ≡ val row e
val-reads test row other e reads same = fold-reads test Outcome (at_operands other) (at_operands row) (rows-agree test row other same) e reads

reads_at-agree : (test wider : ℕ → Bool) → ((k : ℕ) → test k ≡ true → wider k ≡ true) → (y : Expr-F Bool) → own_passes test y ≡ true → reads_at wider y ≡ reads_at test y
reads_at-agree test wider follows (Expr-F.Column place) passes = follows place passes ∙ sym passes
reads_at-agree test wider follows y passes = refl

-- what reads only places that pass a test reads only places that pass a wider one
pub reads_only-wider : (test wider : ℕ → Bool) (e : Expr) → ((k : ℕ) → test k ≡ true → wider k ≡ true) → reads_only test e ≡ true → reads_only wider e ≡ true
reads_only-wider test wider e follows reads = fold-reads test Bool (reads_at wider) (reads_at test) (reads_at-agree test wider follows) e reads ∙ reads

-- the columns of the first of two rows
pub column_of-append : (l r : List Value) (k : ℕ) → k < length l → column_of (l ++ r) k ≡ column_of l k
column_of-append [] r k inside = absurd (omega arith)
column_of-append (v ∷ l) r zero inside = refl
column_of-append (v ∷ l) r (suc k) inside = column_of-append l r k (omega arith)
