-- Values put at their places one after another.
use Rattle.std.proofs.Common.{◌≡◌, ℕ, ◌+◌, ◌<◌, ◌^◌, List, [], ◌∷◌, Bool, true, false, not, Option, Some, None, MatchOption, Result, Ok, Err, IfOk, refl, sym, ◌∙◌, ap, subst, arith, length, drop, get_or, set, if◌then◌else◌}
use Rattle.std.proofs.lemmas.Bool.{and_parts, not-true}
use Rattle.std.proofs.lemmas.List.{drop_more, drop-drop}
use Rattle.span_value.specs.declared.value.Value.{Value}
use Rattle.span_value.specs.declared.value.Kind.{Kind}
use Rattle.span_schema.specs.declared.layout.KeyPart.{KeyPart}
use Rattle.span_keycode.specs.Reads.{IsNoColumn, IsColumn}
use Rattle.span_keycode.proofs.Once.{column_once}
use Rattle.span_rowcode.specs.Rows.{AreCells, IsRow, IsNoCell, IsCell, row_code}
use Rattle.span_rowcode.specs.Limits.{longest_row}
use Rattle.span_rowcode.proofs.CellSkips.{cell_once}
use Rattle.span_rowreader.specs.Placed.{is_wanted, wants_none, put, placed, IsColumnPut, IsColumnRead, IsCellPut, IsCellRead, AreCellsPut}

-- ---- one value

pub put_wanted : (ms : List Bool) (place : ℕ) (v w : Value) (old new : List Value) → is_wanted ms place ≡ true → new ≡ set old place v → w ≡ v → new ≡ put ms place w old
put_wanted ms place v w old new wanted e same =
    e ∙ ap (λ (x : Value). set old place x) (sym same) ∙ sym (ap (λ (b : Bool). if b then set old place w else old) wanted)

pub put_not : (ms : List Bool) (place : ℕ) (w : Value) (old : List Value) → is_wanted ms place ≡ false → old ≡ put ms place w old
put_not ms place w old not_wanted = sym (ap (λ (b : Bool). if b then set old place w else old) not_wanted)

pub column_put : (ms : List Bool) (c : KeyPart) (place : ℕ) (bs : List ℕ) (old new : List Value) (v : Value) (n : ℕ) → is_wanted ms place ≡ true → IsColumn c bs v n → new ≡ set old place v → IsColumnPut ms c place bs old new n
column_put ms c place bs old new v n wanted read e = record {
  within = read.within;
  put = λ w more f code. let once = column_once c bs v w n more read f code in (put_wanted ms place v w old new wanted e once.0, once.1);
}

pub cell_put : (ms : List Bool) (k : Kind) (place : ℕ) (bs : List ℕ) (old new : List Value) (v : Value) (n : ℕ) → length bs < 2 ^ 32 → is_wanted ms place ≡ true → IsCell k bs v n → new ≡ set old place v → IsCellPut ms k place bs old new n
cell_put ms k place bs old new v n small wanted read e = record {
  within = read.within;
  put = λ w more f code. let once = cell_once k bs v w n more small read f code in (put_wanted ms place v w old new wanted e once.0, once.1);
}

-- what was read and put at a place that the mask has

columns_read : (ms : List Bool) (c : KeyPart) (place : ℕ) (bs : List ℕ) (old new : List Value) (found : Option ℕ) → is_wanted ms place ≡ true → MatchOption found (IsNoColumn c bs) (λ n. IsColumnRead c place bs old new n)
    → MatchOption found (IsNoColumn c bs) (λ n. IsColumnPut ms c place bs old new n)
columns_read ms c place bs old new None wanted none = none
columns_read ms c place bs old new (Some n) wanted one = column_put ms c place bs old new one.value n wanted one.read one.put

pub any_column_put : {E : Type 0} (ms : List Bool) (c : KeyPart) (place : ℕ) (bs : List ℕ) (old new : List Value) (r : Result (Option ℕ) E) → is_wanted ms place ≡ true
    → IfOk r (λ found. MatchOption found (IsNoColumn c bs) (λ n. IsColumnRead c place bs old new n)) → IfOk r (λ found. MatchOption found (IsNoColumn c bs) (λ n. IsColumnPut ms c place bs old new n))
any_column_put ms c place bs old new (Ok found) wanted so = columns_read ms c place bs old new found wanted so
any_column_put ms c place bs old new (Err e) wanted so = tt

pub any_cell_put : (ms : List Bool) (k : Kind) (place : ℕ) (bs : List ℕ) (old row new : List Value) (n : ℕ) → length bs < 2 ^ 32 → is_wanted ms place ≡ true → row ≡ old → IsCellRead k place bs row new n → IsCellPut ms k place bs old new n
any_cell_put ms k place bs old row new n small wanted same one =
    cell_put ms k place bs old new one.value n small wanted one.read (one.put ∙ ap (λ (l : List Value). set l place one.value) same)

-- a row is as it was where the mask has none of the places
pub none_put : (ms : List Bool) (ps : List ℕ) (vs row : List Value) → wants_none ms ps ≡ true → row ≡ placed ms ps vs row
none_put ms [] vs row none = refl
none_put ms (p ∷ ps) [] row none = refl
none_put ms (p ∷ ps) (v ∷ vs) row none =
    let parts = and_parts (not (is_wanted ms p)) (wants_none ms ps) none in
    none_put ms ps vs row parts.1 ∙ ap (placed ms ps vs) (put_not ms p v row (not-true (is_wanted ms p) parts.0))

-- ---- cells one after another

-- the cells that are left of a row, and what is put of all
pub record CellsLeft (ms : List Bool) (ks : List Kind) (places rest : List ℕ) (row all : List Value) : Type 0 where
  pub values : List Value
  pub are : AreCells ks values
  pub code : rest ≡ row_code values
  pub put : all ≡ placed ms places values row

cell_done : (ms : List Bool) (k : Kind) (ks : List Kind) (p : ℕ) (ps rest : List ℕ) (row new all : List Value) (n : ℕ) → IsCellPut ms k p rest row new n → CellsLeft ms (k ∷ ks) (p ∷ ps) rest row all → CellsLeft ms ks ps (drop n rest) new all
cell_done ms k ks p ps rest row new all n one left = by_values left.values left.are left.code left.put
  where
    by_values : (vs : List Value) → AreCells (k ∷ ks) vs → rest ≡ row_code vs → all ≡ placed ms (p ∷ ps) vs row → CellsLeft ms ks ps (drop n rest) new all
    by_values [] f e so = absurd f
    by_values (v ∷ vs) f e so =
        let here = one.put v (row_code vs) f.0 e in
        record { values = vs; are = f.1; code = sym here.1; put = so ∙ ap (λ (r : List Value). placed ms ps vs r) (sym here.0) }

no_cell : (ms : List Bool) (k : Kind) (ks : List Kind) (ps rest : List ℕ) (row all : List Value) → IsNoCell k rest → CellsLeft ms (k ∷ ks) ps rest row all → ⊥
no_cell ms k ks ps rest row all none left = by_values left.values left.are left.code
  where
    by_values : (vs : List Value) → AreCells (k ∷ ks) vs → rest ≡ row_code vs → ⊥
    by_values [] f e = f
    by_values (v ∷ vs) f e = none.none v (row_code vs) f.0 e

-- of whatever cells the bytes code, those that are left at a place
abbrev pub CellsLeftAt : List Bool → List Kind → List ℕ → List ℕ → List Value → ℕ → ℕ → List Value → Type 0
CellsLeftAt ms ks ps bs old i at row = (vs : List Value) → IsRow ks vs → bs ≡ row_code vs → CellsLeft ms (drop i ks) (drop i ps) (drop at bs) row (placed ms ps vs old)

pub all_cells_left : (ms : List Bool) (ks : List Kind) (ps bs : List ℕ) (old : List Value) → CellsLeftAt ms ks ps bs old 0 0 old
all_cells_left ms ks ps bs old vs f e = record { values = vs; are = f.0; code = e; put = refl }

pub cell_at : (ms : List Bool) (ks : List Kind) (ps bs : List ℕ) (old row new : List Value) (i at n : ℕ) (d : Kind) → i < length ks → i < length ps → IsCellPut ms (get_or ks i d) (get_or ps i 0) (drop at bs) row new n
    → CellsLeftAt ms ks ps bs old i at row → CellsLeftAt ms ks ps bs old (i + 1) (at + n) new
cell_at ms ks ps bs old row new i at n d h k one left vs f e =
    let all = placed ms ps vs old in
    let P : List Kind → Type 0 = λ ds. CellsLeft ms ds (drop i ps) (drop at bs) row all in
    let Q : List ℕ → Type 0 = λ qs. CellsLeft ms (get_or ks i d ∷ drop (i + 1) ks) qs (drop at bs) row all in
    let R : List ℕ → Type 0 = λ xs. CellsLeft ms (drop (i + 1) ks) (drop (i + 1) ps) xs new all in
    subst R (drop-drop n at bs)
    (cell_done ms (get_or ks i d) (drop (i + 1) ks) (get_or ps i 0) (drop (i + 1) ps) (drop at bs) row new all n one (subst Q (drop_more ps i 0 k) (subst P (drop_more ks i d h) (left vs f e))))

pub no_cell_at : (ms : List Bool) (ks : List Kind) (ps bs : List ℕ) (old row new : List Value) (i at : ℕ) (d : Kind) → i < length ks → IsNoCell (get_or ks i d) (drop at bs) → CellsLeftAt ms ks ps bs old i at row → AreCellsPut ks ps ms bs old new false
no_cell_at ms ks ps bs old row new i at d h none left = record {
  put = λ vs f e.
      let all = placed ms ps vs old in
      let P : List Kind → Type 0 = λ ds. CellsLeft ms ds (drop i ps) (drop at bs) row all in
      absurd (no_cell ms (get_or ks i d) (drop (i + 1) ks) (drop i ps) (drop at bs) row all none (subst P (drop_more ks i d h) (left vs f e)));
}

-- no cell that is left is wanted
pub cells_stop : (ms : List Bool) (ks : List Kind) (ps bs : List ℕ) (old row : List Value) (i at : ℕ) → wants_none ms (drop i ps) ≡ true → CellsLeftAt ms ks ps bs old i at row → AreCellsPut ks ps ms bs old row true
cells_stop ms ks ps bs old row i at none left = record {
  put = λ vs f e.
      let here = left vs f e in
      (refl, none_put ms (drop i ps) here.values row none ∙ sym here.put);
}

pub too_long : (ms : List Bool) (ks : List Kind) (ps bs : List ℕ) (old : List Value) → longest_row < length bs → AreCellsPut ks ps ms bs old old false
too_long ms ks ps bs old long = record { put = λ vs f e. absurd (omega (arith, f.1, long, ap (length {A = ℕ}) e)) }
