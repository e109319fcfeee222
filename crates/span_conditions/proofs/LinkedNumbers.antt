-- Numbers that chains of operators come to.
use Rattle.std.proofs.Common.{◌≡◌, ◌∙◌, ℤ, List, Option, Some, None, IfSome, map, sym, ap}
use Rattle.span_value.specs.declared.value.Value.TheVariants as value
use Rattle.span_value.specs.declared.truth.Outcome.{Outcome}
use Rattle.span_value.specs.declared.truth.Outcome.TheVariants.{Val}
use Rattle.span_expr.specs.declared.expr.Expr.{Expr}
use Rattle.span_expr.specs.declared.expr.Expr.TheVariants.{Chain, rolls-Chain}
use Rattle.span_expr.specs.declared.expr.Expr.TheFolds.{fold-roll-Expr}
use Rattle.span_expr.specs.declared.expr.Expr.TheOpen.{Expr-F}
use Rattle.span_expr.specs.declared.expr.Link.{Link}
use Rattle.span_expr.specs.Meaning.{apply_links, at_operands, link_val, val}
use Rattle.span_query.specs.Rows.{Row}

val_chain : (row : Row) (first : Expr) (links : List (Link Expr)) → val row (Chain first links) ≡ apply_links (val row first) (map (link_val row) links)
val_chain row first links = ap (val row) (sym (rolls-Chain first links)) ∙ fold-roll-Expr Outcome (at_operands row) (Expr-F.Chain first links)

-- a chain whose first operand is a number
pub chain_comes : (row : Row) (expr first lent : Expr) (links read : List (Link Expr)) (a b : ℤ) (result : Option ℤ) → expr ≡ Chain first links → lent ≡ first → read ≡ links
    → val row lent ≡ Val (value.Int a) → b ≡ a
    → IfSome result (λ n. apply_links (Val (value.Int b)) (map (link_val row) read) ≡ Val (value.Int n)) → IfSome result (λ n. val row expr ≡ Val (value.Int n))
chain_comes row expr first lent links read a b None is same also comes equal given = tt
chain_comes row expr first lent links read a b (Some n) is same also comes equal given =
    ap (val row) is ∙ val_chain row first links
    ∙ ap (λ (o : Outcome). apply_links o (map (link_val row) links)) (ap (val row) (sym same) ∙ comes)
    ∙ ap (λ (z : ℤ). apply_links (Val (value.Int z)) (map (link_val row) links)) (sym equal)
    ∙ ap (λ (ls : List (Link Expr)). apply_links (Val (value.Int b)) (map (link_val row) ls)) (sym also)
    ∙ given
