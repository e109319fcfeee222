use Rattle.std.proofs.Common.{◌≡◌, ℕ, List, Bool, true, false, inr, map, replicate, arith, sym, ap, ◌∙◌, subst, length}
use Rattle.std.proofs.lemmas.Bool.{eqb-true}
use Rattle.std.proofs.lemmas.List.{length-map, length-replicate}
use Rattle.span_value.specs.declared.value.Kind.{Kind}
use Rattle.span_value.specs.declared.value.Value.{Value}
use Rattle.span_value.specs.declared.value.Value.TheVariants.{Null}
use Rattle.span_schema.specs.Numbers.{other_kinds, other_places, key_places}
use Rattle.span_keycode.specs.Keys.{IsKey, key_code}
use Rattle.span_rowcode.specs.Rows.{IsRow}
use Rattle.span_columns.specs.Picks.{picked_width}
use Rattle.span_entries.specs.Meaning.{declared_row}
use Rattle.span_rowreader.specs.Placed.{placed}
use Rattle.span_rowreader.specs.Readers.{target}
use Rattle.span_entries.proofs.OtherPlaces.{others_placed}
use Rattle.span_rowreader.proofs.TargetRows.{none_picked, row_picked}
use Rattle.span_rowreader.proofs.reader.TableReader.read.Goals as goal

pub put_cells-requires-clause-kinds : goal.put_cells-requires-clause-kinds
put_cells-requires-clause-kinds c =
    let schema = c.args.schema.now in
    let reader = c.args.self.now in
    omega (arith, c.requires.reader.others_read, ap (length {A = Kind}) c.other_kinds-kinds.ensures, ap (length {A = ℕ}) c.requires.reader.others, length-map (other_places schema reader.table) (target reader.mask), others_placed schema reader.table)

pub returns-then-is_empty : goal.returns-then-is_empty
returns-then-is_empty c = record {
  are = λ t typed is key cells.
      let schema = c.args.schema.now in
      let ms : List Bool = c.args.self.now.mask in
      let wanted : c.as_slice-all.result.now ≡ replicate (picked_width ms) true = c.as_slice-all.ensures ∙ c.requires.reader.all in
      let none : length c.as_slice-all.result.now ≡ 0 = eqb-true (length c.as_slice-all.result.now) 0 (sym c.is_empty.ensures ∙ c.if-is_empty.true) in
      let width : picked_width ms ≡ 0 = sym (ap (length {A = Bool}) wanted ∙ length-replicate (picked_width ms) true) ∙ none in
      c.in_ok-put_nulls.ensures ∙ ap (λ (w : ℕ). replicate w Null) none ∙ sym (none_picked ms (declared_row schema t) width);
}

pub returns-then-not-branch-2 : goal.returns-then-not-branch-2
returns-then-not-branch-2 c = inr (record {
  none = λ t typed is key cells.
      let schema = c.args.schema.now in
      let reader = c.args.self.now in
      let n : ℕ = reader.table in
      let ms : List Bool = reader.mask in
      let R : ℕ → Type 0 = λ m. IsKey schema m t.key in
      let coded = c.in_ok-put_key_values.ensures.put t.key (subst R is typed.0.0) (key ∙ ap (λ (m : ℕ). key_code schema m t.key) is) in
      let refused : c.in_ok-put_key_values.field-0 ≡ false = c.if-not-branch-2.true in
      let e : true ≡ false = sym coded.0 ∙ refused in
      cc;
})

pub returns : goal.returns
returns c = record {
  are = λ t typed is key cells.
      let schema = c.args.schema.now in
      let reader = c.args.self.now in
      let n : ℕ = reader.table in
      let ms : List Bool = reader.mask in
      let all : List Bool = replicate (picked_width ms) true in
      let P : ℕ → Type 0 = λ m. IsRow (other_kinds schema m) t.cells in
      let Q : List Kind → Type 0 = λ ks. IsRow ks t.cells in
      let packed = c.in_ok-put_cells.ensures.put t.cells (subst Q (sym c.other_kinds-kinds.ensures) (subst P is typed.1)) cells in
      let R : ℕ → Type 0 = λ m. IsKey schema m t.key in
      let coded = c.in_ok-put_key_values.ensures.put t.key (subst R is typed.0.0) (key ∙ ap (λ (m : ℕ). key_code schema m t.key) is) in
      let wanted : c.as_slice-all.result.now ≡ all = c.as_slice-all.ensures ∙ c.requires.reader.all in
      let others : c.as_slice-others.result.now ≡ map (target ms) (other_places schema n) = c.as_slice-others.ensures ∙ c.requires.reader.others in
      let width : length c.as_slice-all.result.now ≡ picked_width ms = ap (length {A = Bool}) wanted ∙ length-replicate (picked_width ms) true in
      let blank : c.put_nulls.new.row.items ≡ replicate (picked_width ms) Null = c.in_ok-put_nulls.ensures ∙ ap (λ (w : ℕ). replicate w Null) width in
      let first : c.put_cells.new.row.items ≡ placed all (map (target ms) (other_places schema n)) t.cells (replicate (picked_width ms) Null) =
      packed.1 ∙ ap (λ (ps : List ℕ). placed c.as_slice-all.result.now ps t.cells c.put_nulls.new.row.items) others
      ∙ ap (λ (l : List Bool). placed l (map (target ms) (other_places schema n)) t.cells c.put_nulls.new.row.items) wanted
      ∙ ap (λ (l : List Value). placed all (map (target ms) (other_places schema n)) t.cells l) blank in
      coded.1 ∙ ap (λ (l : List Bool). placed l (map (target ms) (key_places schema n)) t.key c.put_cells.new.row.items) c.requires.reader.all
      ∙ ap (λ (l : List Value). placed all (map (target ms) (key_places schema n)) t.key l) first ∙ row_picked schema c.meets_rules.ensures n ms t c.requires.reader.narrow typed is;
}
