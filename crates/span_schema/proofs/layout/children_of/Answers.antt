use Rattle.std.proofs.Common.{◌≡◌, ℕ, List, ◌++◌, ◌∷◌, [], arith, length, map, sym, ◌∙◌, ap}
use Rattle.std.specs.List.{range_with_len}
use Rattle.std.proofs.lemmas.List.FromFn.{map-range_with_len_more}
use Rattle.span_schema.specs.Lineages.{children_at}
use Rattle.span_schema.specs.Layouts.{children_in}
use Rattle.span_schema.proofs.Children.{children_read}
use Rattle.span_schema.proofs.layout.children_of.Goals as goal

pub loop-i-preserved : goal.loop-i-preserved
loop-i-preserved c =
    let tables = c.args.tables.now in
    let i = c.loop-i.i in
    let read : c.in_ok-children_of_place.field-0.items ≡ children_at tables i =
    c.in_ok-children_of_place.ensures ∙ ap (children_in i 1) c.requires ∙ children_read tables i 1 0 (length tables) (omega arith) in
    let pushed : c.push.new.self.items ≡ c.loop-i.children.items ++ c.from_vec.result ∷ [] = c.in_ok-push.ensures.items in
    pushed
    ∙ ap (λ (cs : List (List ℕ)). cs ++ c.from_vec.result ∷ []) c.loop-i.invariant
    ∙ ap (λ (ns : List ℕ). map (children_at tables) (range_with_len 0 i) ++ ns ∷ []) (c.from_vec.ensures ∙ read)
    ∙ sym (map-range_with_len_more (children_at tables) 0 i i (omega arith))
