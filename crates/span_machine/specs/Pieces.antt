use Rattle.std.specs.Prelude.{ℕ, List, [], map, insert, slice_get, slice_set}
use Rattle.span_schema.specs.declared.table.Table.{Table}
use Rattle.span_keycode.specs.declared.range.KeyRange.{KeyRange}
use Rattle.span_keycode.specs.Parts.{place_among}
use Rattle.span_params.specs.declared.params.Parameter.{Parameter}
use Rattle.span_columns.specs.declared.leaf.Leaf.{Leaf}
use Rattle.span_fragment.specs.declared.piece.Piece.{Piece}
use Rattle.span_query.specs.declared.query.Statement.{Statement}
use Rattle.span_machine.specs.declared.slot.SlotState.{SlotState}
use Rattle.span_machine.specs.declared.transaction.OpenTransaction.{OpenTransaction}
use Rattle.span_machine.specs.declared.transaction.Commit.{Commit}
use Rattle.span_machine.specs.declared.query.OpenQuery.{OpenQuery}
use Rattle.span_machine.specs.declared.query.ScanLeaf.{ScanLeaf}
use Rattle.span_machine.specs.Machine.{Machine, if_some, statement_plan, as_opened, cover}

-- an open query, and for each of its leaves the pieces that cover it, in the order of their ranges
pub record Pieced : Type 0 where
  pub query : OpenQuery
  pub pieces : List (List Piece)

-- what a journal keeps: the machine's state, with the pieces of each open query
pub record Journaled : Type 0 where
  pub slots : List SlotState
  pub transactions : List OpenTransaction
  pub log : List Commit
  pub queries : List Pieced
  pub next_transaction : ℕ
  pub next_query : ℕ

-- what is read of a leaf before a piece covers any of it
abbrev pub no_pieces : Leaf → List Piece
no_pieces leaf = []

-- a query text with its parameters, understood as a statement, as an open query that has no piece yet
abbrev pub unread : List Table → ℕ → ℕ → List ℕ → List Parameter → Statement → Pieced
unread schema number s text params q =
    record { query = as_opened schema number s text params q; pieces = map no_pieces (statement_plan schema q).leaves }

-- a leaf's pieces, with that of this range at its place among them
abbrev pub insert_piece : ScanLeaf → KeyRange → Piece → List Piece → List Piece
insert_piece l part piece pieces = insert pieces (place_among l.covered part) piece

abbrev pub insert_piece_at : List ScanLeaf → ℕ → KeyRange → Piece → List (List Piece) → List (List Piece)
insert_piece_at leaves leaf part piece pieces =
    if_some (slice_get leaves leaf) pieces
    (λ l. if_some (slice_get pieces leaf) pieces (λ ps. slice_set pieces leaf (insert_piece l part piece ps)))

-- the open query, with this piece of the leaf at a place
abbrev pub covered_by : ℕ → KeyRange → Piece → Pieced → Pieced
covered_by leaf part piece p =
    record { query = cover leaf part p.query; pieces = insert_piece_at p.query.leaves leaf part piece p.pieces }

-- the open queries alone
abbrev pub queries_of : List Pieced → List OpenQuery
queries_of ps = map (λ p. p.query) ps

-- the machine's state alone
abbrev pub machine_of : Journaled → Machine
machine_of j =
    record {
      slots = j.slots;
      transactions = j.transactions;
      log = j.log;
      queries = queries_of j.queries;
      next_transaction = j.next_transaction;
      next_query = j.next_query;
    }
