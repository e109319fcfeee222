use Rattle.std.proofs.Common.{◌≡◌, ◌<◌, length, false, sym, ap, ◌∙◌, subst, arith}
use Rattle.std.specs.Prelude.{is_ok, if◌then◌else◌, ◌++◌, ◌∷◌, []}
use Rattle.span_machine.specs.declared.transaction.OpenTransaction.{OpenTransaction}
use Rattle.span_machine.specs.Limits.{most_slots}
use Rattle.span_machine.specs.Machine.{is_prepared_at}
use Rattle.span_transactions.specs.Places.{AreOfSlots}
use Rattle.span_transactions.proofs.PreparedOnce.{once_more, one_more_fits}
use Rattle.span_transactions.proofs.transaction.KeptTransaction.add_prepared.Goals as goal

pub unwrap-requires : goal.unwrap-requires
unwrap-requires c =
    let ps = c.self.inside.prepared in
    let apart = subst (λ (t : OpenTransaction). is_prepared_at c.args.prepared.slot t ≡ false) (sym c.self.view_is) c.requires.apart in
    let few : length ps.items < most_slots = one_more_fits ps.items c.args.prepared c.self.invariant.slots apart c.requires.slot in
    c.push.ensures.succeeds (omega (arith, few, ps.ok.0, c.self.invariant.room))

pub invariant_of-self : goal.invariant_of-self
invariant_of-self c =
    let ps = c.self.inside.prepared.items in
    let apart = subst (λ (t : OpenTransaction). is_prepared_at c.args.prepared.slot t ≡ false) (sym c.self.view_is) c.requires.apart in
    let items : c.push.new.self.items ≡ ps ++ c.args.prepared ∷ [] =
    c.push.ensures.items ∙ ap (λ r. if is_ok r then ps ++ c.args.prepared ∷ [] else ps) c.unwrap.ensures in
    record {
      room = omega (arith, c.self.invariant.room, c.push.ensures.capacity);
      slots = subst AreOfSlots (sym items) (once_more ps c.args.prepared c.self.invariant.slots apart c.requires.slot);
    }
