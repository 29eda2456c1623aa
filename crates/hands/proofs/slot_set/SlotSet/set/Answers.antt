use Rattle.std.proofs.Common.{◌≡◌, ◌<◌, ◌≤◌, Bool, length, arith, sym, ap, ◌∙◌}
use Rattle.std.specs.Prelude.{None}
use Rattle.core_views.specs.Slots.{with_slot}
use Rattle.core_views.specs.declared.memory_slot.MemorySlot.{MemorySlot}
use Rattle.core_views.specs.SlotSets.{flat_slots, with_slot_at}
use Rattle.core_views.specs.Places.{slots_from}
use Rattle.core_views.specs.Refusals.{set_refusal, slot_from}
use Rattle.core_views.proofs.Places.{put}
use Rattle.core_views.proofs.Sound.{passes, set_sound}
use Rattle.core_views.proofs.FlatSlots.{flat_with}
use Rattle.hands.proofs.slot_set.SlotSet.set.Goals as goal

pub invariant_of-self : goal.invariant_of-self
invariant_of-self c =
    let slot = slot_from c.args.base c.args.pages c.args.host c.args.ro in
    let free : set_refusal c.args.total c.args.id slot (slots_from 0 c.self.inside.places) ≡ None =
    ap (set_refusal c.args.total c.args.id slot) c.self.view_is ∙ sym c.in_ok-check_set.ensures in
    set_sound c.args.total c.args.id slot c.is_logged-logged.result c.self.inside.places c.self.invariant c.requires free

pub returns-clause-set : goal.returns-clause-set
returns-clause-set c =
    let slot = slot_from c.args.base c.args.pages c.args.host c.args.ro in
    let low : c.args.id ≤ 31 = (passes c.args.total c.args.id slot c.args.self.now (sym c.in_ok-check_set.ensures)).low in
    let lt : c.args.id < length c.self.inside.places = omega (arith, c.self.invariant.0) in
    put c.args.id (record { slot = slot; logged = c.is_logged-logged.result }) c.self.inside.places lt
    ∙ ap (with_slot_at c.args.id (record { slot = slot; logged = c.is_logged-logged.result })) c.self.view_is
    ∙ ap (λ (logged : Bool). with_slot_at c.args.id (record { slot = slot; logged = logged }) c.args.self.now) c.is_logged-logged.ensures

pub returns-clause-flat : goal.returns-clause-flat
returns-clause-flat c =
    let slot = slot_from c.args.base c.args.pages c.args.host c.args.ro in
    let low : c.args.id ≤ 31 = (passes c.args.total c.args.id slot c.args.self.now (sym c.in_ok-check_set.ensures)).low in
    let lt : c.args.id < length c.self.inside.places = omega (arith, c.self.invariant.0) in
    let m : MemorySlot = record { slot = slot; logged = c.is_logged-logged.result } in
    ap flat_slots (put c.args.id m c.self.inside.places lt) ∙ flat_with c.args.id m (slots_from 0 c.self.inside.places)
    ∙ ap (λ x. with_slot c.args.id slot (flat_slots x)) c.self.view_is
