use Rattle.std.proofs.Common.{◌≡◌, arith, sym, ap, ◌∙◌}
use Rattle.std.proofs.lemmas.Grind.{common_steps}
use Rattle.std.specs.Prelude.{None}
use Rattle.std.specs.Option.{option_map}
use Rattle.core_views.specs.declared.memory_slot.MemorySlot.{MemorySlot}
use Rattle.core_views.specs.SlotSets.{slot_of_id}
use Rattle.core_views.specs.Places.{found}
use Rattle.core_views.proofs.FlatSlots.{flat_at}
use Rattle.hands.proofs.slot_set.SlotSet.get.Goals as goal

pub returns-clause-is : goal.returns-clause-is
returns-clause-is c = c.in_ok-get.ensures.lookup.3.1 None ∙ sym (found c.args.id c.self.inside.places) ∙ ap (slot_of_id c.args.id) c.self.view_is

pub returns-clause-flat : goal.returns-clause-flat
returns-clause-flat c =
    let is = c.in_ok-get.ensures.lookup.3.1 None ∙ sym (found c.args.id c.self.inside.places) ∙ ap (slot_of_id c.args.id) c.self.view_is in
    ap (option_map (λ (m : MemorySlot). m.slot)) is ∙ sym (flat_at c.args.id c.args.self.now)

pub returns-in_err-get-clause-flat : goal.returns-in_err-get-clause-flat
returns-in_err-get-clause-flat c =
    let none : slot_of_id c.args.id c.args.self.now ≡ None = grind (arith, found, common_steps) in
    let is : c.from_residual.result ≡ None = grind (arith, common_steps) in
    ap (option_map (λ (m : MemorySlot). m.slot)) (is ∙ sym none) ∙ sym (flat_at c.args.id c.args.self.now)
