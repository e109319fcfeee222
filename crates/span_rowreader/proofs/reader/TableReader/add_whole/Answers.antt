use Rattle.std.proofs.Common.{◌≡◌, ℕ, List, [], ◌∷◌, ◌++◌, Bool, true, false, inr, map, replicate, arith, sym, ap, ◌∙◌, subst, length}
use Rattle.std.proofs.lemmas.List.{length-map, length-replicate}
use Rattle.span_value.specs.declared.value.Kind.{Kind}
use Rattle.span_value.specs.declared.value.Value.{Value}
use Rattle.span_value.specs.declared.value.Value.TheVariants.{Null}
use Rattle.span_schema.specs.Numbers.{other_kinds, other_places, key_places}
use Rattle.span_keycode.specs.Keys.{IsKey, key_code}
use Rattle.span_rowcode.specs.Rows.{IsRow}
use Rattle.span_query.specs.Rows.{Row}
use Rattle.span_columns.specs.Picks.{picked_width}
use Rattle.span_rowreader.specs.Placed.{placed}
use Rattle.span_rowreader.specs.Readers.{target}
use Rattle.span_rowreader.proofs.NumberPlaces.{numbers_put}
use Rattle.span_entries.proofs.OtherPlaces.{others_placed}
use Rattle.span_rowreader.proofs.TargetRows.{row_picked}
use Rattle.span_rowreader.proofs.reader.TableReader.add_whole.Goals as goal

pub put_last_cells-requires-clause-kinds : goal.put_last_cells-requires-clause-kinds
put_last_cells-requires-clause-kinds c =
    let schema = c.args.schema.now in
    let reader = c.args.self.now in
    omega (arith, c.requires.reader.others_read, ap (length {A = Kind}) c.other_kinds-kinds.ensures, ap (length {A = ℕ}) c.requires.reader.others, length-map (other_places schema reader.table) (target reader.mask), others_placed schema reader.table)

pub returns-then-not-branch : goal.returns-then-not-branch
returns-then-not-branch c = inr (record {
  none = λ t typed is key cells.
      let schema = c.args.schema.now in
      let wanted : List Bool = c.as_slice-all.result.now in
      let width : ℕ = length wanted in
      let blank : Row = replicate width Null in
      let done = c.in_ok-put_last_cells.ensures.put c.args.rows.now blank c.in_ok-push_nulls.ensures.ok (length-replicate width Null) in
      let P : ℕ → Type 0 = λ m. IsRow (other_kinds schema m) t.cells in
      let Q : List Kind → Type 0 = λ ks. IsRow ks t.cells in
      let packed = done.holds.put t.cells (subst Q (sym c.other_kinds-kinds.ensures) (subst P is typed.1)) cells in
      let refused : c.in_ok-put_last_cells.field-0 ≡ false = c.if-not-branch.true in
      let e : true ≡ false = sym packed.0 ∙ refused in
      cc;
})

pub returns : goal.returns
returns c = record {
  of = λ t typed is key cells.
      let schema = c.args.schema.now in
      let reader = c.args.self.now in
      let n : ℕ = reader.table in
      let ms : List Bool = reader.mask in
      let all : List Bool = replicate (picked_width ms) true in
      let wanted : List Bool = c.as_slice-all.result.now in
      let width : ℕ = length wanted in
      let blank : Row = replicate width Null in
      let first = c.in_ok-put_last_cells.ensures.put c.args.rows.now blank c.in_ok-push_nulls.ensures.ok (length-replicate width Null) in
      let second = c.put_last_numbers.ensures.put c.args.rows.now first.last first.are first.wide in
      let P : ℕ → Type 0 = λ m. IsRow (other_kinds schema m) t.cells in
      let Q : List Kind → Type 0 = λ ks. IsRow ks t.cells in
      let packed = first.holds.put t.cells (subst Q (sym c.other_kinds-kinds.ensures) (subst P is typed.1)) cells in
      let R : ℕ → Type 0 = λ m. IsKey schema m t.key in
      let ps : List ℕ = map (target ms) (key_places schema n) in
      let others : List ℕ = map (target ms) (other_places schema n) in
      let done = numbers_put schema n ps reader.all c.args.numbers.now c.args.key.now first.last second.last c.requires.numbers c.requires.len second.holds in
      let coded = done.put t.key (subst R is typed.0.0) (key ∙ ap (λ (m : ℕ). key_code schema m t.key) is) in
      let wanted_are : wanted ≡ all = c.as_slice-all.ensures ∙ c.requires.reader.all in
      let others_are : c.as_slice-others.result.now ≡ others = c.as_slice-others.ensures ∙ c.requires.reader.others in
      let wide : width ≡ picked_width ms = ap (length {A = Bool}) wanted_are ∙ length-replicate (picked_width ms) true in
      let cells_are : first.last ≡ placed all others t.cells (replicate (picked_width ms) Null) =
      packed.1 ∙ ap (λ (l : List ℕ). placed wanted l t.cells blank) others_are
      ∙ ap (λ (l : List Bool). placed l others t.cells blank) wanted_are
      ∙ ap (λ (w : ℕ). placed all others t.cells (replicate w Null)) wide in
      second.are ∙ ap (λ (l : Row). c.args.rows.now ++ l ∷ [])
      (coded.1 ∙ ap (λ (l : List Bool). placed l ps t.key first.last) c.requires.reader.all
      ∙ ap (λ (l : List Value). placed all ps t.key l) cells_are ∙ row_picked schema c.meets_rules.ensures n ms t c.requires.reader.narrow typed is);
}
