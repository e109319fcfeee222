use Rattle.std.proofs.Common.{◌∙◌, ◌≤◌, List, [], arith, ap, length, inl, inr}
use Rattle.std.proofs.lemmas.List.{length-replicate}
use Rattle.std.proofs.lemmas.Result.{err_from_is_err_and}
use Rattle.span_query.specs.Rows.{Row}
use Rattle.span_store.specs.declared.snapshot.Entry.{Entry}
use Rattle.span_rowreader.specs.declared.reader.TableReader.{TableReader}
use Rattle.span_rowreader.proofs.Entries.{not_rows}
use Rattle.span_rowreader.proofs.ReadTables.{pass_first, pass_next, pass_done}
use Rattle.span_rowreader.proofs.decode.read_tables.Goals as goal

abbrev nothing : Entry
nothing = record { key = record { ref_ptr = (0, 0); now = [] }; row = record { ref_ptr = (0, 0); now = [] } }

pub loop-entry-init : goal.loop-entry-init
loop-entry-init c =
    let readers : List TableReader = c.args.readers.now in
    record {
      lists = ap (length {A = List Row}) c.in_ok-empty_lists.ensures ∙ length-replicate (length readers) [];
      so_far = pass_first c.args.schema.now c.args.entries.now readers c.empty_lists.new.lists.items c.in_ok-empty_lists.ensures;
    }

pub loop-entry-preserved : goal.loop-entry-preserved
loop-entry-preserved c = record {
  lists = c.in_ok-add_to_each.ensures.lists;
  so_far = pass_next c.args.schema.now c.args.entries.now c.args.readers.now c.loop-entry.entry-index nothing c.loop-entry.found.items c.add_to_each.new.found.items c.loop-entry-test.true
      c.in_ok-add_to_each.ensures.added c.loop-entry.invariant.so_far;
}

pub returns-clause-ok : goal.returns-clause-ok
returns-clause-ok c =
    let stop = c.loop-entry-test.false in
    let over : length c.args.entries.now ≤ c.loop-entry.entry-index = omega arith in
    record {
      of = λ ms ts are. pass_done c.args.schema.now c.args.entries.now ms ts c.args.readers.now c.loop-entry.entry-index c.loop-entry.found.items over are c.loop-entry.invariant.so_far;
    }

pub returns-in_err-add_to_each-clause-refused : goal.returns-in_err-add_to_each-clause-refused
returns-in_err-add_to_each-clause-refused c =
    let p = err_from_is_err_and c.from_residual-in_err-add_to_each.result c.from_residual-in_err-add_to_each.ensures.1 in
    rw (p.1, p.2) (elim c.in_err-add_to_each.ensures.added [
      | inl memory ↦ inl memory
      | inr none ↦ inr (not_rows c.args.schema.now c.args.entries.now c.loop-entry.entry-index nothing c.loop-entry-test.true none)
    ])
