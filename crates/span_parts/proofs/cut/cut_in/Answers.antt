use Rattle.std.proofs.Common.{◌≡◌, ℕ, List, [], ◌∷◌, ◌++◌, sym, ap, ◌∙◌, subst}
use Rattle.std.specs.Prelude.{slice_set}
use Rattle.span_shard.specs.KeyVersions.{KeyVersions}
use Rattle.span_shard.specs.Shard.{keys_before, keys_from}
use Rattle.span_machine.specs.Machine.{Machine, split_in_two}
use Rattle.span_machine.specs.Pieces.{machine_of}
use Rattle.span_parts.specs.Whole.{IsWhole}
use Rattle.span_parts.proofs.Changes.{of_some}
use Rattle.span_parts.proofs.Splitting.{idle, split_answer, split_whole}
use Rattle.span_parts.proofs.cut.cut_in.Goals as goal

pub split-requires : goal.split-requires
split-requires c =
    let a = c.args in
    let b = c.requires.belongs in
    record { idle = idle a.schema.now a.journal.now b.0 b.1 a.slot a.key.now c.requires.may a.shard.now b.2 }

pub returns-in-Ok-split-clause-step : goal.returns-in-Ok-split-clause-step
returns-in-Ok-split-clause-step c =
    let a = c.args in
    let b = c.requires.belongs in
    let d = c.requires.may in
    let after = of_some _ _ d.slot_state d.here c.finish_split.ensures.after in
    let same = after ∙ ap (λ (key : List ℕ). (split_in_two (machine_of a.journal.now) a.slot key d.slot_state).1) c.in-Ok.ensures.bound in
    split_answer a.schema.now a.journal.now b.0 b.1 a.slot a.key.now d (machine_of c.finish_split.new.self) same

pub returns-in-Ok-split-clause-cut : goal.returns-in-Ok-split-clause-cut
returns-in-Ok-split-clause-cut c =
    let a = c.args in
    let j = a.journal.now in
    let k = c.finish_split.new.self in
    let d = c.requires.may in
    let of = c.requires.coded in
    let after = of_some _ _ d.slot_state d.here c.finish_split.ensures.after in
    let same = after ∙ ap (λ (key : List ℕ). (split_in_two (machine_of j) a.slot key d.slot_state).1) c.in-Ok.ensures.bound in
    let left = c.in-Ok-split.ensures.before ∙ ap (λ (key : List ℕ). keys_before key a.shard.now) c.as_slice.ensures in
    let right = c.in-Ok-split.ensures.part ∙ ap (λ (key : List ℕ). keys_from key a.shard.now) c.as_slice.ensures in
    record {
      whole = λ shards w there.
          subst (λ (cs : List KeyVersions). IsWhole a.schema.now k (slice_set shards a.slot cs ++ c.in-Ok-split.part ∷ [])) (sym left)
          (subst (λ (cs : List KeyVersions). IsWhole a.schema.now k (slice_set shards a.slot (keys_before a.key.now a.shard.now) ++ cs ∷ [])) (sym right)
          (split_whole a.schema.now j shards w a.slot a.key.now d of.0 of.1 of.2 of.3 k same c.finish_split.ensures.pieces a.shard.now there));
      log = ap (λ (m : Machine). m.log) same;
      queries = ap (λ (m : Machine). m.queries) same;
    }
