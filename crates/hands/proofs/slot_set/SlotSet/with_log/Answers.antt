use Rattle.std.proofs.Common.{◌≡◌, ◌<◌, ◌≤◌, length, get_or, arith, refl, sym, ap, ◌∙◌}
use Rattle.std.specs.Prelude.{Option, Some, None}
use Rattle.core_views.specs.SlotSets.{flat_slots, slot_of_id, with_slot_at}
use Rattle.core_views.specs.Places.{found, slots_from}
use Rattle.core_views.specs.declared.memory_slot.MemorySlot.{MemorySlot}
use Rattle.core_views.specs.Refusals.{with_log_of}
use Rattle.core_views.proofs.Places.{put}
use Rattle.core_views.proofs.Sound.{log_sound}
use Rattle.core_views.proofs.FlatSlots.{flat_same}
use Rattle.hands.proofs.slot_set.SlotSet.with_log.Goals as goal

pub invariant_of-self : goal.invariant_of-self
invariant_of-self c =
    let at : slot_of_id c.args.id (slots_from 0 c.self.inside.places) ≡ Some c.in-Some.slot =
    ap (slot_of_id c.args.id) c.self.view_is ∙ sym c.in-Some.ensures.is in
    log_sound c.args.id c.in-Some.slot c.args.on c.self.inside.places c.self.invariant at

pub returns-in-Some-clause-set : goal.returns-in-Some-clause-set
returns-in-Some-clause-set c =
    let low : c.args.id ≤ 31 = c.get.ensures.sound.ids c.args.id c.in-Some.slot (sym c.in-Some.ensures.is) in
    let lt : c.args.id < length c.self.inside.places = omega (arith, c.self.invariant.0) in
    let after : MemorySlot = record { slot = c.in-Some.slot.slot; logged = c.args.on } in
    put c.args.id after c.self.inside.places lt ∙ ap (with_slot_at c.args.id after) c.self.view_is
    ∙ ap (λ (was : Option MemorySlot). with_log_of c.args.on c.args.id was c.args.self.now) c.in-Some.ensures.is

pub returns-in-Some-clause-flat : goal.returns-in-Some-clause-flat
returns-in-Some-clause-flat c =
    let at : get_or c.self.inside.places c.args.id None ≡ Some c.in-Some.slot =
    sym (found c.args.id c.self.inside.places) ∙ ap (slot_of_id c.args.id) c.self.view_is ∙ sym c.in-Some.ensures.is in
    flat_same c.args.id 0 c.in-Some.slot (record { slot = c.in-Some.slot.slot; logged = c.args.on }) c.self.inside.places at refl ∙ ap flat_slots c.self.view_is
