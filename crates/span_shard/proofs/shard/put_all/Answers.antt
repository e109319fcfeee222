use Rattle.std.proofs.Common.{◌≡◌, ◌∷◌, [], ◌++◌, refl, sym, ap, ◌∙◌, append_assoc, subst}
use Rattle.std.specs.List.{AllByRecursion}
use Rattle.std.proofs.lemmas.List.{append-nil}
use Rattle.std.proofs.lemmas.Result.{err_from_is_err_and}
use Rattle.span_store.specs.KeyLists.{with_write, AreInOrder, IsInUse}
use Rattle.span_shard.proofs.InOrder.{in_order_with_write}
use Rattle.span_shard.proofs.Undo.{used_with_write}
use Rattle.span_shard.proofs.Filling.{puts_refused}
use Rattle.span_shard.proofs.shard.put_all.Goals as goal

pub loop-write-init : goal.loop-write-init
loop-write-init c = record {
  some = record { front = c.args.writes.items; rest = []; whole = append-nil c.args.writes.items; put = c.reserve_numbers.ensures };
  front = refl;
  order = subst AreInOrder (sym c.reserve_numbers.ensures) c.requires.order;
  used = subst (AllByRecursion IsInUse) (sym c.reserve_numbers.ensures) c.requires.used;
}

pub loop-write-preserved : goal.loop-write-preserved
loop-write-preserved c =
    let old = c.loop-write.invariant in
    let whole : c.loop-write.left.items ≡ c.pop.new.self.items ++ c.in-Some.write ∷ [] = c.in-Some.ensures.items in
    record {
      some = record {
        front = c.pop.new.self.items;
        rest = c.in-Some.write ∷ old.some.rest;
        whole = sym (append_assoc c.pop.new.self.items (c.in-Some.write ∷ []) old.some.rest) ∙ ap (λ l. l ++ old.some.rest) (sym whole ∙ sym old.front) ∙ old.some.whole;
        put = c.in_ok-put.ensures.ok ∙ ap (with_write c.args.txn c.in-Some.write) old.some.put;
      };
      front = refl;
      order = subst AreInOrder (sym c.in_ok-put.ensures.ok) (in_order_with_write c.args.txn c.in-Some.write c.loop-write.store old.order);
      used = subst (AllByRecursion IsInUse) (sym c.in_ok-put.ensures.ok) (used_with_write c.args.txn c.in-Some.write c.loop-write.store old.used);
    }

pub returns-in_err-put-clause-refused : goal.returns-in_err-put-clause-refused
returns-in_err-put-clause-refused c =
    let p = err_from_is_err_and c.from_residual.result c.from_residual.ensures.1 in
    let old = c.loop-write.invariant in
    let left : c.loop-write.left.items ≡ c.pop.new.self.items ++ c.in-Some.write ∷ [] = c.in-Some.ensures.items in
    let whole = sym (append_assoc c.pop.new.self.items (c.in-Some.write ∷ []) old.some.rest) ∙ ap (λ l. l ++ old.some.rest) (sym left ∙ sym old.front) ∙ old.some.whole in
    rw (p.1, p.2) (puts_refused c.args.txn c.args.writes.items c.pop.new.self.items old.some.rest c.in-Some.write c.args.store.now c.loop-write.store c.in_err-put.field-0.0 old.some.put whole c.in_err-put.ensures.refused)
