use Rattle.std.proofs.Common.{arith, sym, ap, ◌∙◌}
use Rattle.core_views.specs.SlotSets.{without_slot_at}
use Rattle.core_views.proofs.Places.{taken}
use Rattle.core_views.proofs.Sound.{delete_sound, deletion_low}
use Rattle.hands.proofs.slot_set.SlotSet.delete.Goals as goal

pub invariant_of-self : goal.invariant_of-self
invariant_of-self c =
    let low = deletion_low c.args.id c.args.self.now (sym c.in_ok-check_delete.ensures) in
    delete_sound c.args.id c.self.inside.places c.self.invariant (omega (arith, low))

pub returns-clause-deleted : goal.returns-clause-deleted
returns-clause-deleted c = taken c.args.id c.self.inside.places ∙ ap (without_slot_at c.args.id) c.self.view_is
