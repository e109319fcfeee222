use Rattle.std.proofs.Common.{◌≡◌, ◌∙◌, ℕ, ◌-◌, suc, Bool, List, [], Option, Some, None, ap, sym, arith}
use Rattle.std.specs.Prelude.{slice_get, option_map}
use Rattle.std.specs.Option.{unwrap_or, option_copied}
use Rattle.std.proofs.lemmas.Option.{slice_get-map}
use Rattle.span_columns.specs.declared.leaf.Leaf.{Leaf}
use Rattle.span_columns.specs.Reads.{masks_of}
use Rattle.span_columns.proofs.narrow.mask_of.Goals as goal

-- the mask of the leaf at a place before the number
at : (leaves : List Leaf) (number place : ℕ) (o : Option Leaf) → number ≡ suc place → slice_get leaves place ≡ o → masks_of leaves number ≡ unwrap_or (option_map (λ (l : Leaf). l.kept) o) []
at leaves number place o is here =
    ap (masks_of leaves) is ∙ ap (λ (m : Option (List Bool)). unwrap_or m []) (slice_get-map (λ (l : Leaf). l.kept) leaves place ∙ ap (option_map (λ (l : Leaf). l.kept)) here)

pub returns-in-Some : goal.returns-in-Some
returns-in-Some c =
    let here : slice_get c.args.leaves.now (c.args.number - 1) ≡ Some c.in-Some.leaf.now = sym c.leaf_at.ensures ∙ ap option_copied c.in-Some.is in
    let after : c.args.number ≡ suc (c.args.number - 1) = omega (arith, c.if-number-eq0.false) in
    c.as_slice.ensures ∙ sym (at c.args.leaves.now c.args.number (c.args.number - 1) (Some c.in-Some.leaf.now) after here)

pub returns-in-None : goal.returns-in-None
returns-in-None c =
    let here : slice_get c.args.leaves.now (c.args.number - 1) ≡ None = sym c.leaf_at.ensures ∙ ap option_copied c.in-None.is in
    let after : c.args.number ≡ suc (c.args.number - 1) = omega (arith, c.if-number-eq0.false) in
    sym (at c.args.leaves.now c.args.number (c.args.number - 1) None after here)
