use Rattle.std.proofs.Common.{ℕ, List, [], ◌∷◌, ◌++◌, sym, ap, ◌∙◌, subst}
use Rattle.std.specs.Prelude.{slice_set}
use Rattle.span_shard.specs.Shard.{IsIdle, keys_before, keys_from}
use Rattle.span_machine.specs.Machine.{split_in_two}
use Rattle.span_machine.specs.Pieces.{machine_of}
use Rattle.span_parts.specs.Whole.{IsWhole}
use Rattle.span_parts.proofs.Changes.{all_some, of_some, shard_there}
use Rattle.span_parts.proofs.Splitting.{idle, split_whole}
use Rattle.span_parts.proofs.cut.split_at.Goals as goal

pub cut_at-requires-clause-idle : goal.cut_at-requires-clause-idle
cut_at-requires-clause-idle c =
    let a = c.args in
    all_some IsIdle _ (λ before there. idle a.schema.now a.journal.now a.shards.now.items c.requires.whole c.in-Ok.slot a.key c.in-Ok.ensures.accepted before there)

pub returns-in-Ok-cut_at-clause-whole : goal.returns-in-Ok-cut_at-clause-whole
returns-in-Ok-cut_at-clause-whole c =
    let schema = c.args.schema.now in
    let j = c.args.journal.now in
    let shards = c.args.shards.now.items in
    let w = c.requires.whole in
    let slot = c.in-Ok.slot in
    let d = c.in-Ok.ensures.accepted in
    let k = c.finish_split.new.self in
    let there = shard_there schema j shards w slot d.slot_state d.here in
    let after = of_some _ _ d.slot_state d.here c.finish_split.ensures.after in
    let same = after ∙ ap (λ (key : List ℕ). (split_in_two (machine_of j) slot key d.slot_state).1) c.in-Ok-reserve_split.ensures.bound in
    let put = of_some _ _ there.0 there.1 c.in-Ok-cut_at.ensures.ok ∙ ap (λ (key : List ℕ). slice_set shards slot (keys_before key there.0) ++ keys_from key there.0 ∷ []) c.as_slice.ensures in
    let of = c.requires.coded in
    subst (IsWhole schema k) (sym put) (split_whole schema j shards w slot c.args.key d of.0 of.1 of.2 of.3 k same c.finish_split.ensures.pieces there.0 there.1)
