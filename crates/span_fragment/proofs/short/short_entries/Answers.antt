use Rattle.std.proofs.Common.{◌≡◌, ◌∙◌, ◌++◌, ◌∷◌, [], List, map, sym, ap, append_assoc, append-nil}
use Rattle.std.proofs.lemmas.List.{map-append}
use Rattle.span_shard.specs.Shard.{KeyRow}
use Rattle.span_shard.specs.Reading.{entry_row}
use Rattle.span_store.specs.declared.snapshot.Entry.{Entry}
use Rattle.span_fragment.proofs.short.short_entries.Goals as goal

pub loop-entry-init : goal.loop-entry-init
loop-entry-init c = record {
  can_next = tt;
  is_finite = tt;
  so_far = ap (λ (es : List Entry). map entry_row es ++ c.into_iter-entry-iterator.result) c.new-entries.ensures.items ∙ c.into_iter-entry-iterator.ensures.into_iter_gives ∙ c.with_short_keys-entry-items.ensures;
}

pub loop-entry-preserved : goal.loop-entry-preserved
loop-entry-preserved c =
    let found : List KeyRow = map entry_row c.loop-entry.entries.items in
    let rest : List KeyRow = c.next.new.self in
    let more : map entry_row c.push.new.self.items ≡ found ++ entry_row c.in-Some.entry ∷ [] = ap (map entry_row) c.in_ok-push.ensures.items ∙ map-append entry_row c.loop-entry.entries.items _ in
    record {
      can_next = tt;
      is_finite = tt;
      so_far = ap (λ (l : List KeyRow). l ++ rest) more ∙ append_assoc found (entry_row c.in-Some.entry ∷ []) rest ∙ ap (λ (l : List KeyRow). found ++ l) (sym c.in-Some.ensures.steps) ∙ c.loop-entry.invariant.so_far;
    }

pub returns : goal.returns
returns c =
    let found : List KeyRow = map entry_row c.loop-entry.entries.items in
    sym (append-nil found) ∙ ap (λ (l : List KeyRow). found ++ l) (sym c.in-None.ensures.steps.0) ∙ c.loop-entry.invariant.so_far
