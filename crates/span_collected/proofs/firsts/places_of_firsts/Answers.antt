use Rattle.std.proofs.Common.{rules, ◌≡◌, ◌∙◌, ap, sym, subst, ℕ, ◌+◌, ◌<◌, true, length, get_or, take, List, [], ◌∷◌, ◌++◌}
use Rattle.std.specs.List.{All, list_any}
use Rattle.std.proofs.lemmas.List.Elements.{All-push}
use Rattle.std.proofs.lemmas.List.{take_all}
use Rattle.indexmap.specs.IndexSet.{insert_key}
use Rattle.span_query.specs.Rows.{Row}
use Rattle.span_query.specs.Groups.{are_equal, columns_at}
use Rattle.span_rows.specs.Columns.{distinct_at}
use Rattle.span_rows.specs.RowPlaces.{rows_at}
use Rattle.span_collected.proofs.FirstRows.{seen_more, first_more, none_more, is_known}
use Rattle.span_collected.proofs.firsts.places_of_firsts.Goals as goal
use Rattle.span_collected.proofs.firsts.places_of_firsts.Goals.{then-branch+in_ok-push, else-branch}

pub loop-at-preserved : goal.loop-at-preserved
loop-at-preserved c =
    let columns = c.args.columns.now in
    let rows : List Row = c.args.rows.now in
    let i = c.loop-at.at in
    let row : Row = c.row.result.now in
    let key : Row = columns_at columns row in
    let old : List ℕ = c.loop-at.places.items in
    let seen : List Row = c.loop-at.seen.keys in
    let new : List Row = c.insert.new.self.keys in
    let inside : ℕ → Type 0 = λ place. place < length rows in
    let within : i < length rows = search rules in
    let is : row ≡ get_or rows i row = c.row.ensures in
    let inserted : new ≡ insert_key are_equal seen key = search rules in
    let more : new ≡ distinct_at columns (take (i + 1) rows) = seen_more columns rows i row within is seen new c.loop-at.invariant.seen inserted in
    let values : List ℕ → List Row = λ (l : List ℕ). distinct_at columns (rows_at rows l) in
    elim c.if-branch.branch [
      | then-branch+in_ok-push w ↦
          let items : c.if-branch.places.items ≡ old ++ i ∷ [] = search rules in
          record {
            within = subst (All inside) (sym items) (All-push inside old i c.loop-at.invariant.within within);
            seen = more;
            values = ap values items ∙ first_more columns rows i row within is old c.loop-at.invariant.values;
          }
      | else-branch w ↦
          let items : c.if-branch.places.items ≡ old = search rules in
          let known : list_any (are_equal key) seen ≡ true = is_known (list_any (are_equal key) seen) (search rules) in
          record {
            within = subst (All inside) (sym items) c.loop-at.invariant.within;
            seen = more;
            values = ap values items ∙ c.loop-at.invariant.values ∙ none_more columns rows i row within is seen new c.loop-at.invariant.seen inserted known;
          }
    ]

pub returns : goal.returns
returns c =
    let rows : List Row = c.args.rows.now in
    record {
      within = c.loop-at.invariant.within;
      values = c.loop-at.invariant.values ∙ ap (distinct_at c.args.columns.now) (take_all c.loop-at.at rows (search rules));
    }
