-- The columns of a table's coded keys, read one after another.
use Rattle.std.proofs.Common.{◌≡◌, ℕ, zero, suc, ◌+◌, ◌-◌, ◌<◌, ◌≤◌, List, [], ◌∷◌, ◌++◌, Bool, true, false, Result, Ok, Err, IfOk, refl, sym, ◌∙◌, ap, subst, append_assoc, append-nil, arith, length, length-append, length-drop, drop, take, get_or}
use Rattle.std.proofs.Math.Seq.{drop-append_seam}
use Rattle.std.proofs.lemmas.List.{drop_more, drop-drop, drop_all, take-map}
use Rattle.span_value.specs.declared.value.Value.{Value}
use Rattle.span_schema.specs.declared.table.Table.{Table}
use Rattle.span_schema.specs.declared.layout.KeyPart.{KeyPart}
use Rattle.span_schema.specs.Lineages.{path_at, MeetsRules}
use Rattle.span_schema.specs.Numbers.{own_key_columns, key_columns, key_places}
use Rattle.span_keycode.specs.Coding.{AreFit, column_code, tuple_code}
use Rattle.span_keycode.specs.Keys.{Level, IsKey, code_of, key_code}
use Rattle.span_keycode.specs.Reads.{IsNoColumn}
use Rattle.span_keycode.proofs.Levels.{levels_at}
use Rattle.span_keycode.proofs.LevelLaws.{AreLevels, fit_length}
use Rattle.span_keycode.proofs.Going.{tables_of, tables_back, levels_on}
use Rattle.span_keycode.proofs.KeyLaws.{values_of, values_back, place_within}
use Rattle.span_entries.specs.declared.steps.KeyStep.{KeyStep}
use Rattle.span_entries.specs.declared.steps.KeyStep.TheVariants as step
use Rattle.span_rowreader.specs.declared.reads.KeyRead.{KeyRead}
use Rattle.span_rowreader.specs.Placed.{wants_none, put, placed, IsColumnPut, IsKeyPut}
use Rattle.span_rowreader.specs.Reads.{column_read, step_read, key_reads, places_of, IsReadAdded, IsColumnAdded, AreReadsOf, IsCodedAt, AreCoded, IsReadPut, IsNoRead, AreReadsPut}
use Rattle.span_entries.specs.Steps.{column_steps, path_steps, key_steps}
use Rattle.span_entries.proofs.KeyPlaces.{has_key_columns}
use Rattle.span_rowreader.proofs.Placing.{none_put}

-- ---- the columns of steps

step_none : (s : KeyStep) (above : ℕ) (later : ℕ → List ℕ → List KeyRead) → ((k : ℕ) → later k [] ≡ []) → step_read s above [] later ≡ []
step_none (step.Table t) above later none = none (above + 1)
step_none (step.Column c) above later none = refl

reads_none : (ss : List KeyStep) (above : ℕ) → key_reads ss above [] ≡ []
reads_none [] above = refl
reads_none (s ∷ ss) above = step_none s above (key_reads ss) (reads_none ss)

pub table_added : (t above : ℕ) (ps : List ℕ) (old : List KeyRead) → IsReadAdded (step.Table t) above ps old old (above + 1)
table_added t above ps old = record { within = omega arith; added = λ later. refl }

pub no_place_left : (c : KeyPart) (above : ℕ) (ps : List ℕ) (old : List KeyRead) → length ps ≤ length old → IsColumnAdded c above ps old old above
no_place_left c above ps old none = record {
  within = omega arith;
  added = λ later.
      let gone : drop (length old) ps ≡ [] = drop_all (length old) ps none in
      ap (λ (l : List ℕ). old ++ key_reads later above l) gone
      ∙ ap (λ (l : List KeyRead). old ++ l) (reads_none later above)
      ∙ sym (ap (λ (l : List ℕ). old ++ column_read c above l (key_reads later)) gone);
}

pub column_added : (c : KeyPart) (above : ℕ) (ps : List ℕ) (old new : List KeyRead) → length old < length ps → new ≡ old ++ record { above = above; column = c; place = get_or ps (length old) 0 } ∷ [] → IsColumnAdded c above ps old new 0
column_added c above ps old new less e = record {
  within = omega arith;
  added = λ later.
      let one : KeyRead = record { above = above; column = c; place = get_or ps (length old) 0 } in
      let len : length new ≡ length old + 1 = omega (arith, ap (length {A = KeyRead}) e, length-append old (one ∷ [])) in
      let rest : List KeyRead = key_reads later 0 (drop (length old + 1) ps) in
      ap (λ (k : ℕ). new ++ key_reads later 0 (drop k ps)) len
      ∙ ap (λ (l : List KeyRead). l ++ rest) e
      ∙ append_assoc old (one ∷ []) rest
      ∙ sym (ap (λ (l : List ℕ). old ++ column_read c above l (key_reads later)) (drop_more ps (length old) 0 less));
}

-- the columns so far, and those of the steps that are left
abbrev pub ReadsSoFar : List KeyStep → List ℕ → ℕ → List KeyRead → ℕ → Type 0
ReadsSoFar steps ps i reads above = reads ++ key_reads (drop i steps) above (drop (length reads) ps) ≡ key_reads steps 0 ps

pub step_added : (steps : List KeyStep) (ps : List ℕ) (i : ℕ) (old new : List KeyRead) (above next : ℕ) (d : KeyStep) → i < length steps → IsReadAdded (get_or steps i d) above ps old new next → ReadsSoFar steps ps i old above → ReadsSoFar steps ps (i + 1) new next
step_added steps ps i old new above next d less one so =
    one.added (drop (i + 1) steps) ∙ ap (λ (l : List KeyStep). old ++ key_reads l above (drop (length old) ps)) (sym (drop_more steps i d less)) ∙ so

pub all_added : (steps : List KeyStep) (ps : List ℕ) (i : ℕ) (reads : List KeyRead) (above : ℕ) → length steps ≤ i → ReadsSoFar steps ps i reads above → reads ≡ key_reads steps 0 ps
all_added steps ps i reads above over so =
    sym (append-nil reads) ∙ ap (λ (l : List KeyStep). reads ++ key_reads l above (drop (length reads) ps)) (sym (drop_all i steps over)) ∙ so

-- ---- a key is what its columns code

-- values are coded at the columns of steps, with these places
abbrev pub AreAt : List KeyStep → ℕ → List ℕ → List Value → List ℕ → Type 0
AreAt ss above ps vs bs = AreCoded (key_reads ss above ps) vs bs × (places_of (key_reads ss above ps) ≡ ps)

columns_coded : (cs : List KeyPart) (vs ws : List Value) (front bs : List ℕ) (more : List KeyStep) (ps : List ℕ) → AreFit cs vs → length ps ≡ length (vs ++ ws)
    → ((f qs : List ℕ) → length qs ≡ length ws → AreAt more (length f) qs ws (f ++ bs))
    → AreAt (column_steps cs ++ more) (length front) ps (vs ++ ws) (front ++ (tuple_code cs vs ++ bs))
columns_coded [] [] ws front bs more ps fit len later = later front ps len
columns_coded [] (v ∷ vs) ws front bs more ps fit len later = absurd fit
columns_coded (c ∷ cs) [] ws front bs more ps fit len later = absurd fit
columns_coded (c ∷ cs) (v ∷ vs) ws front bs more [] fit len later = absurd (omega (arith, len))
columns_coded (c ∷ cs) (v ∷ vs) ws front bs more (p ∷ ps) fit len later =
    let rest = columns_coded cs vs ws [] bs more ps fit.1 (omega (arith, len)) later in
    let here : IsCodedAt (record { above = length front; column = c; place = p }) v (front ++ (tuple_code (c ∷ cs) (v ∷ vs) ++ bs)) (tuple_code cs vs ++ bs) = record {
      front = front;
      above = refl;
      fits = fit.0;
      code = ap (λ (xs : List ℕ). front ++ xs) (append_assoc (column_code c v) (tuple_code cs vs) bs);
    } in
    ((tuple_code cs vs ++ bs, (here, rest.0)), ap (λ (l : List ℕ). p ∷ l) rest.1)

levels_coded : (schema : List Table) (ls : List Level) (front ps : List ℕ) → AreLevels schema ls → length ps ≡ length (values_of ls) → AreAt (path_steps schema (tables_of ls)) (length front) ps (values_of ls) (front ++ code_of schema ls)
levels_coded schema [] front [] fit len = (tt, refl)
levels_coded schema [] front (p ∷ ps) fit len = absurd (omega (arith, len))
levels_coded schema (l ∷ ls) front ps fit len =
    let cs : List KeyPart = own_key_columns schema l.table in
    let more : List KeyStep = path_steps schema (tables_of ls) in
    let after : List ℕ = tuple_code cs l.values ++ code_of schema ls in
    let wide : length (front ++ l.table ∷ []) ≡ length front + 1 = length-append front (l.table ∷ []) in
    let inner = columns_coded cs l.values (values_of ls) (front ++ l.table ∷ []) (code_of schema ls) more ps fit.0 len (λ f qs many. levels_coded schema ls f qs fit.1 many) in
    let P : ℕ → Type 0 = λ k. AreAt (column_steps cs ++ more) k ps (values_of (l ∷ ls)) ((front ++ l.table ∷ []) ++ after) in
    let Q : List ℕ → Type 0 = λ bs. AreAt (column_steps cs ++ more) (length front + 1) ps (values_of (l ∷ ls)) bs in
    subst Q (append_assoc front (l.table ∷ []) after) (subst P wide inner)

pub key_coded : (schema : List Table) → MeetsRules schema → (n : ℕ) (ps : List ℕ) (vs : List Value) → length ps ≡ length (key_places schema n) → IsKey schema n vs → AreAt (key_steps schema n) 0 ps vs (key_code schema n vs)
key_coded schema rules n ps vs many k =
    let within = place_within schema n k.0 in
    let ls : List Level = levels_at schema (n - 1) vs in
    let back : values_of ls ≡ vs = values_back schema rules (n - 1) within vs k.1 in
    let known = levels_on schema rules n vs k (path_at schema (n - 1)) refl in
    let len : length (key_columns schema n) ≡ length vs = fit_length (key_columns schema n) vs k.1 in
    let has = has_key_columns schema rules n within in
    let long : length ps ≡ length (values_of ls) = many ∙ has.placed ∙ len ∙ sym (ap (λ (us : List Value). length us) back) in
    let P : List ℕ → Type 0 = λ ns. AreAt (path_steps schema ns) 0 ps (values_of ls) (code_of schema ls) in
    let Q : List Value → Type 0 = λ us. AreAt (key_steps schema n) 0 ps us (code_of schema ls) in
    subst Q back (subst P (tables_back schema vs (path_at schema (n - 1))) (levels_coded schema ls [] ps known.0 long))

-- ---- the first of the columns

pub coded_some : (k : ℕ) (rs : List KeyRead) (vs : List Value) (bs : List ℕ) → AreCoded rs vs bs → AreCoded (take k rs) vs bs
coded_some zero rs vs bs coded = tt
coded_some (suc k) [] vs bs coded = tt
coded_some (suc k) (r ∷ rs) [] bs coded = absurd coded
coded_some (suc k) (r ∷ rs) (v ∷ vs) bs coded = (coded.0, (coded.1.0, coded_some k rs vs coded.0 coded.1.1))

pub placed_some : (ms : List Bool) (k : ℕ) (ps : List ℕ) (vs row : List Value) → wants_none ms (drop k ps) ≡ true → placed ms (take k ps) vs row ≡ placed ms ps vs row
placed_some ms zero ps vs row none = none_put ms ps vs row none
placed_some ms (suc k) [] vs row none = refl
placed_some ms (suc k) (p ∷ ps) [] row none = refl
placed_some ms (suc k) (p ∷ ps) (v ∷ vs) row none = placed_some ms k ps vs (put ms p v row) none

-- what was put of the columns is what was to be put of a key
pub key_put : (schema : List Table) → MeetsRules schema → (n : ℕ) (ps : List ℕ) (ms : List Bool) (rs : List KeyRead) (bs : List ℕ) (old new : List Value) (found : Bool) → length ps ≡ length (key_places schema n)
    → AreReadsOf schema n ps ms rs → AreReadsPut rs ms bs old new found → IsKeyPut schema n ps ms bs old new found
key_put schema rules n ps ms rs bs old new found many of done = record {
  put = λ vs k e.
      let all : List KeyRead = key_reads (key_steps schema n) 0 ps in
      let coded = key_coded schema rules n ps vs many k in
      let P : List ℕ → Type 0 = λ xs. AreCoded (take of.count all) vs xs in
      let Q : List KeyRead → Type 0 = λ l. AreCoded l vs bs in
      let some : AreCoded rs vs bs = subst Q (sym of.are) (subst P (sym e) (coded_some of.count all vs (key_code schema n vs) coded.0)) in
      let places : places_of rs ≡ take of.count ps = ap (λ (l : List KeyRead). places_of l) of.are ∙ sym (take-map (λ (r : KeyRead). r.place) of.count all) ∙ ap (take of.count) coded.1 in
      let put = done.put vs some in
      (put.0, put.1 ∙ ap (λ (l : List ℕ). placed ms l vs old) places ∙ placed_some ms of.count ps vs old of.left);
}

pub some_key_put : {E : Type 0} (schema : List Table) → MeetsRules schema → (n : ℕ) (ps : List ℕ) (ms : List Bool) (rs reads : List KeyRead) (wanted : List Bool) (bs : List ℕ) (old new : List Value) (r : Result Bool E) → length ps ≡ length (key_places schema n)
    → reads ≡ rs → wanted ≡ ms → AreReadsOf schema n ps ms rs → IfOk r (AreReadsPut reads wanted bs old new) → IfOk r (IsKeyPut schema n ps ms bs old new)
some_key_put schema rules n ps ms rs reads wanted bs old new (Err e) many same all of done = tt
some_key_put schema rules n ps ms rs reads wanted bs old new (Ok found) many same all of done =
    let P : List KeyRead → Type 0 = λ l. AreReadsPut l wanted bs old new found in
    let Q : List Bool → Type 0 = λ l. AreReadsPut rs l bs old new found in
    key_put schema rules n ps ms rs bs old new found many of (subst Q all (subst P same done))

-- ---- a column after the numbers of tables

pub past_front : (r : KeyRead) (v : Value) (bs more : List ℕ) → IsCodedAt r v bs more → drop r.above bs ≡ column_code r.column v ++ more
past_front r v bs more at =
    ap (λ (k : ℕ). drop k bs) (sym at.above) ∙ ap (drop (length at.front)) at.code ∙ drop-append_seam at.front (column_code r.column v ++ more)

pub read_put : (ms : List Bool) (r : KeyRead) (bs : List ℕ) (old new : List Value) (n : ℕ) → r.above ≤ length bs → IsColumnPut ms r.column r.place (drop r.above bs) old new n → IsReadPut ms r bs old new (n + r.above)
read_put ms r bs old new n some one = record {
  within = omega (arith, one.within, some, length-drop r.above bs);
  put = λ v more at.
      let here = one.put v more at.fits (past_front r v bs more at) in
      (here.0, here.1 ∙ drop-drop n r.above bs ∙ ap (λ (k : ℕ). drop k bs) (let e : r.above + n ≡ n + r.above = omega arith in e));
}

pub no_read : (r : KeyRead) (bs : List ℕ) → IsNoColumn r.column (drop r.above bs) → IsNoRead r bs
no_read r bs none = record { none = λ v more at. none.none v more at.fits (past_front r v bs more at) }

-- ---- column after column

-- the values that are left of the columns, and what is put of all
pub record ReadsLeft (ms : List Bool) (rs : List KeyRead) (rest : List ℕ) (row all : List Value) : Type 0 where
  pub values : List Value
  pub coded : AreCoded rs values rest
  pub put : all ≡ placed ms (places_of rs) values row

read_done : (ms : List Bool) (r : KeyRead) (rs : List KeyRead) (rest : List ℕ) (row new all : List Value) (n : ℕ) → IsReadPut ms r rest row new n → ReadsLeft ms (r ∷ rs) rest row all → ReadsLeft ms rs (drop n rest) new all
read_done ms r rs rest row new all n one left = by_values left.values left.coded left.put
  where
    by_values : (vs : List Value) → AreCoded (r ∷ rs) vs rest → all ≡ placed ms (places_of (r ∷ rs)) vs row → ReadsLeft ms rs (drop n rest) new all
    by_values [] coded so = absurd coded
    by_values (v ∷ vs) coded so =
        let here = one.put v coded.0 coded.1.0 in
        record {
          values = vs;
          coded = subst (AreCoded rs vs) here.1 coded.1.1;
          put = so ∙ ap (λ (l : List Value). placed ms (places_of rs) vs l) (sym here.0);
        }

read_missing : (ms : List Bool) (r : KeyRead) (rs : List KeyRead) (rest : List ℕ) (row all : List Value) → IsNoRead r rest → ReadsLeft ms (r ∷ rs) rest row all → ⊥
read_missing ms r rs rest row all none left = by_values left.values left.coded
  where
    by_values : (vs : List Value) → AreCoded (r ∷ rs) vs rest → ⊥
    by_values [] coded = coded
    by_values (v ∷ vs) coded = none.none v coded.0 coded.1.0

-- of whatever values the bytes code, those that are left at a column
abbrev pub ReadsLeftAt : List Bool → List KeyRead → List ℕ → List Value → ℕ → ℕ → List Value → Type 0
ReadsLeftAt ms rs bs old i at row = (vs : List Value) → AreCoded rs vs bs → ReadsLeft ms (drop i rs) (drop at bs) row (placed ms (places_of rs) vs old)

pub all_reads_left : (ms : List Bool) (rs : List KeyRead) (bs : List ℕ) (old : List Value) → ReadsLeftAt ms rs bs old 0 0 old
all_reads_left ms rs bs old vs coded = record { values = vs; coded = coded; put = refl }

pub read_at : (ms : List Bool) (rs : List KeyRead) (bs : List ℕ) (old row new : List Value) (i at n : ℕ) (d : KeyRead) → i < length rs → IsReadPut ms (get_or rs i d) (drop at bs) row new n → ReadsLeftAt ms rs bs old i at row
    → ReadsLeftAt ms rs bs old (i + 1) (at + n) new
read_at ms rs bs old row new i at n d less one left vs coded =
    let all = placed ms (places_of rs) vs old in
    let P : List KeyRead → Type 0 = λ l. ReadsLeft ms l (drop at bs) row all in
    let R : List ℕ → Type 0 = λ xs. ReadsLeft ms (drop (i + 1) rs) xs new all in
    subst R (drop-drop n at bs) (read_done ms (get_or rs i d) (drop (i + 1) rs) (drop at bs) row new all n one (subst P (drop_more rs i d less) (left vs coded)))

pub no_read_at : (ms : List Bool) (rs : List KeyRead) (bs : List ℕ) (old row new : List Value) (i at : ℕ) (d : KeyRead) → i < length rs → IsNoRead (get_or rs i d) (drop at bs) → ReadsLeftAt ms rs bs old i at row → AreReadsPut rs ms bs old new false
no_read_at ms rs bs old row new i at d less none left = record {
  put = λ vs coded.
      let all = placed ms (places_of rs) vs old in
      let P : List KeyRead → Type 0 = λ l. ReadsLeft ms l (drop at bs) row all in
      absurd (read_missing ms (get_or rs i d) (drop (i + 1) rs) (drop at bs) row all none (subst P (drop_more rs i d less) (left vs coded)));
}

pub reads_end : (ms : List Bool) (rs : List KeyRead) (bs : List ℕ) (old row : List Value) (i at : ℕ) → length rs ≤ i → ReadsLeftAt ms rs bs old i at row → AreReadsPut rs ms bs old row true
reads_end ms rs bs old row i at over left = record {
  put = λ vs coded.
      let all = placed ms (places_of rs) vs old in
      let P : List KeyRead → Type 0 = λ l. ReadsLeft ms l (drop at bs) row all in
      let done = subst P (drop_all i rs over) (left vs coded) in
      (refl, sym done.put);
}
