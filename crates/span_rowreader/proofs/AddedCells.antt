-- Values put at places of the last row, one after another.
use Rattle.std.proofs.Common.{◌≡◌, ℕ, ℤ, ◌+◌, ◌<◌, ◌≤◌, ◌^◌, List, [], ◌∷◌, ◌++◌, Bool, true, false, refl, ◌∙◌, ap, length, length-set, drop, get_or, set}
use Rattle.span_value.specs.declared.value.Value.{Value}
use Rattle.span_value.specs.declared.value.Value.TheVariants.{Int}
use Rattle.span_value.specs.declared.value.Kind.{Kind}
use Rattle.span_schema.specs.declared.table.Table.{Table}
use Rattle.span_rowcode.specs.Rows.{IsCell, IsNoCell}
use Rattle.span_rowcode.specs.Limits.{longest_row}
use Rattle.span_query.specs.Rows.{Row}
use Rattle.span_rows.specs.LastRows.{IsPutInLast}
use Rattle.span_rowreader.specs.declared.key_numbers.KeyNumber.{KeyNumber}
use Rattle.span_rowreader.specs.Added.{IsLastPut, IsCellPutInLast, AreLastCellsPut, IsRowAdded}
use Rattle.span_rowreader.specs.KeyNumbers.{AreNumbersPut, IsNumberFound}
use Rattle.span_rowreader.specs.Placed.{is_wanted, wants_none, IsCellPut, AreCellsPut}
use Rattle.span_rowreader.specs.Readers.{ArePickedOf}
use Rattle.span_rowreader.proofs.NumberPlaces.{NumbersLeftAt, all_numbers_left, number_next, numbers_end}
use Rattle.span_rowreader.proofs.Placing.{CellsLeftAt, all_cells_left, cell_at, cell_put, no_cell_at, cells_stop, too_long}

-- ---- the last row

pub last_same : (width : ℕ) (P : List Value → List Value → Type 0) (old : List Row) → ((row : Row) → P row row) → IsLastPut width P old old
last_same width P old same = record { put = λ rows row is wide. record { last = row; are = is; wide = wide; holds = same row } }

pub last_map : (width : ℕ) (P Q : List Value → List Value → Type 0) (old new : List Row) → ((row last : Row) → P row last → Q row last) → IsLastPut width P old new → IsLastPut width Q old new
last_map width P Q old new to one = record {
  put = λ rows row is wide.
      let here = one.put rows row is wide in
      record { last = here.last; are = here.are; wide = here.wide; holds = to row here.last here.holds };
}

pub last_step : (width : ℕ) (P R Q : List Value → List Value → Type 0) (old mid new : List Row) → ((row last next : Row) → P row last → R last next → Q row next) → IsLastPut width P old mid → IsLastPut width R mid new → IsLastPut width Q old new
last_step width P R Q old mid new to one more = record {
  put = λ rows row is wide.
      let here = one.put rows row is wide in
      let there = more.put rows here.last here.are here.wide in
      record { last = there.last; are = there.are; wide = there.wide; holds = to row here.last there.last here.holds there.holds };
}

-- a value at a place
abbrev pub IsSet : ℕ → Value → List Value → List Value → Type 0
IsSet place v row last = last ≡ set row place v

pub value_put : (width place : ℕ) (v : Value) (old new : List Row) → IsPutInLast width place v old new → IsLastPut width (IsSet place v) old new
value_put width place v old new one = record {
  put = λ rows row is wide. record { last = set row place v; are = one.put rows row is wide; wide = length-set row place v ∙ wide; holds = refl };
}

-- ---- the numbers of a key

abbrev pub NumbersPutAt : ℕ → List KeyNumber → List ℕ → List Row → ℕ → List Row → Type 0
NumbersPutAt width xs key old i new = IsLastPut width (λ row last. NumbersLeftAt xs key row i last) old new

pub no_number_put : (width : ℕ) (xs : List KeyNumber) (key : List ℕ) (old : List Row) → NumbersPutAt width xs key old 0 old
no_number_put width xs key old = last_same width (λ row last. NumbersLeftAt xs key row 0 last) old (all_numbers_left xs key)

pub number_put : (width : ℕ) (xs : List KeyNumber) (key : List ℕ) (old mid new : List Row) (i : ℕ) (d : KeyNumber) (found : ℤ) → i < length xs → IsNumberFound (get_or xs i d).desc (drop (get_or xs i d).at key) found → IsPutInLast width (get_or xs i d).place (Int found) mid new
    → NumbersPutAt width xs key old i mid → NumbersPutAt width xs key old (i + 1) new
number_put width xs key old mid new i d found less one put so =
    let place : ℕ = (get_or xs i d).place in
    last_step width (λ row last. NumbersLeftAt xs key row i last) (IsSet place (Int found)) (λ row last. NumbersLeftAt xs key row (i + 1) last) old mid new
    (λ row last next left is. number_next xs key row last next i d found less one is left) so (value_put width place (Int found) mid new put)

pub all_numbers_put : (width : ℕ) (xs : List KeyNumber) (key : List ℕ) (old new : List Row) (i : ℕ) → length xs ≤ i → NumbersPutAt width xs key old i new → IsLastPut width (AreNumbersPut xs key) old new
all_numbers_put width xs key old new i over so = last_map width (λ row last. NumbersLeftAt xs key row i last) (AreNumbersPut xs key) old new (λ row last left. numbers_end xs key row last i over left) so

-- ---- cells

pub last_cell_put : (ms : List Bool) (k : Kind) (place : ℕ) (bs : List ℕ) (old new : List Row) (v : Value) (n : ℕ) → length bs < 2 ^ 32 → is_wanted ms place ≡ true → IsCell k bs v n → IsPutInLast (length ms) place v old new → IsCellPutInLast ms k place bs old new n
last_cell_put ms k place bs old new v n small wanted read put = record {
  within = read.within;
  put = last_map (length ms) (IsSet place v) (λ row last. IsCellPut ms k place bs row last n) old new (λ row last is. cell_put ms k place bs row last v n small wanted read is) (value_put (length ms) place v old new put);
}

abbrev pub CellsPutAt : List Bool → List Kind → List ℕ → List ℕ → List Row → ℕ → ℕ → List Row → Type 0
CellsPutAt ms ks ps bs old i at new = IsLastPut (length ms) (λ row last. CellsLeftAt ms ks ps bs row i at last) old new

pub no_cell_put : (ms : List Bool) (ks : List Kind) (ps bs : List ℕ) (old : List Row) → CellsPutAt ms ks ps bs old 0 0 old
no_cell_put ms ks ps bs old = last_same (length ms) (λ row last. CellsLeftAt ms ks ps bs row 0 0 last) old (all_cells_left ms ks ps bs)

pub next_cell_put : (ms : List Bool) (ks : List Kind) (ps bs : List ℕ) (old mid new : List Row) (i at n : ℕ) (d : Kind) → i < length ks → i < length ps → IsCellPutInLast ms (get_or ks i d) (get_or ps i 0) (drop at bs) mid new n
    → CellsPutAt ms ks ps bs old i at mid → CellsPutAt ms ks ps bs old (i + 1) (at + n) new
next_cell_put ms ks ps bs old mid new i at n d h k one so =
    last_step (length ms) (λ row last. CellsLeftAt ms ks ps bs row i at last) (λ row last. IsCellPut ms (get_or ks i d) (get_or ps i 0) (drop at bs) row last n) (λ row last. CellsLeftAt ms ks ps bs row (i + 1) (at + n) last) old mid new
    (λ row last next left cell. cell_at ms ks ps bs row last next i at n d h k cell left) so one.put

pub missing_cell_put : (ms : List Bool) (ks : List Kind) (ps bs : List ℕ) (old new : List Row) (i at : ℕ) (d : Kind) → i < length ks → IsNoCell (get_or ks i d) (drop at bs) → CellsPutAt ms ks ps bs old i at new → AreLastCellsPut ks ps ms bs old new false
missing_cell_put ms ks ps bs old new i at d h none so =
    last_map (length ms) (λ row last. CellsLeftAt ms ks ps bs row i at last) (λ row last. AreCellsPut ks ps ms bs row last false) old new (λ row last left. no_cell_at ms ks ps bs row last last i at d h none left) so

pub all_cells_put : (ms : List Bool) (ks : List Kind) (ps bs : List ℕ) (old new : List Row) (i at : ℕ) → wants_none ms (drop i ps) ≡ true → CellsPutAt ms ks ps bs old i at new → AreLastCellsPut ks ps ms bs old new true
all_cells_put ms ks ps bs old new i at none so =
    last_map (length ms) (λ row last. CellsLeftAt ms ks ps bs row i at last) (λ row last. AreCellsPut ks ps ms bs row last true) old new (λ row last left. cells_stop ms ks ps bs row last i at none left) so

pub long_cells_put : (ms : List Bool) (ks : List Kind) (ps bs : List ℕ) (old : List Row) → longest_row < length bs → AreLastCellsPut ks ps ms bs old old false
long_cells_put ms ks ps bs old long = last_same (length ms) (λ row last. AreCellsPut ks ps ms bs row last false) old (λ row. too_long ms ks ps bs row long)

-- ---- a row that was read and added

pub read_added : (schema : List Table) (n : ℕ) (ms : List Bool) (key cells : List ℕ) (old new : List Row) (values : Row) → ArePickedOf schema n ms key cells values → new ≡ old ++ values ∷ [] → IsRowAdded schema n ms key cells old new
read_added schema n ms key cells old new values read pushed = record {
  of = λ t typed own is row. pushed ∙ ap (λ (v : Row). old ++ v ∷ []) (read.are t typed own is row);
}
