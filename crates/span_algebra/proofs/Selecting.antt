-- One fault: the select list at the rows that a condition keeps is gathered row by row.
use Rattle.std.proofs.Common.{◌≡◌, Bool, true, false, List, [], ◌∷◌, Option, Some, None, if◌then◌else◌, refl, ap, sym, ◌∙◌}
use Rattle.span_expr.specs.declared.expr.Expr.{Expr}
use Rattle.span_query.specs.Rows.{Row, OrFault, ◌>>=◌, append_results, concat_map, keep_if, filter_where, filter_rows, holds, project_rows}
use Rattle.span_query.proofs.Results.{append_results-none, nil-append_results}
use Rattle.span_algebra.specs.Selecting.{project_row}

-- to keep and then gather is to gather what is kept
kept_first : {A B : Type 0} (f : A → OrFault (List B)) (b : OrFault Bool) (x : A) (xs : OrFault (List A)) → (append_results (b >>= (λ t. Some (keep_if x t))) xs >>= concat_map f) ≡ append_results (b >>= (λ t. if t then f x else Some [])) (xs >>= concat_map f)
kept_first f None x xs = refl
kept_first f (Some true) x (Some xs) = refl
kept_first f (Some true) x None = sym (append_results-none (f x))
kept_first f (Some false) x (Some xs) = sym (nil-append_results (concat_map f xs))
kept_first f (Some false) x None = refl

pub selected_by_row : (filter : Option Expr) (outputs : List Expr) (rows : List Row) → (filter_where filter rows >>= project_rows outputs) ≡ concat_map (project_row filter outputs) rows
selected_by_row None outputs rows = refl
selected_by_row (Some e) outputs [] = refl
selected_by_row (Some e) outputs (row ∷ rows) =
    kept_first _ (holds e row) row (filter_rows e rows) ∙ ap (append_results (project_row (Some e) outputs row)) (selected_by_row (Some e) outputs rows)
