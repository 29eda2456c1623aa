use Rattle.std.proofs.Common.{◌≡◌, ℕ, arith, sym, ap, ◌∙◌}
use Rattle.std.proofs.lemmas.Grind.{common_steps}
use Rattle.std.specs.Prelude.{Option, Some, None}
use Rattle.std.specs.Option.{option_map}
use Rattle.core_views.specs.declared.memory_slot.MemorySlot.{MemorySlot}
use Rattle.core_views.specs.SlotSets.{slot_of_id, slot_holding}
use Rattle.core_views.proofs.FlatSlots.{flat_holding}
use Rattle.core_views.proofs.Holding.{only}
use Rattle.hands.proofs.slot_set.SlotSet.slot_of.Goals as goal

pub returns-in-loop-id-clause-only : goal.returns-in-loop-id-clause-only
returns-in-loop-id-clause-only c id m at holds =
    let is : slot_holding c.args.gfn c.args.self.now ≡ Some (c.loop-id.id, c.in-Some.found) = grind (arith, common_steps) in
    sym is ∙ ap (slot_holding c.args.gfn) (sym c.self.view_is)
    ∙ only c.args.gfn c.self.inside.places c.self.invariant.1 id m (ap (slot_of_id id) c.self.view_is ∙ at) holds

pub returns-in-loop-id-clause-flat : goal.returns-in-loop-id-clause-flat
returns-in-loop-id-clause-flat c =
    let is : slot_holding c.args.gfn c.args.self.now ≡ Some (c.loop-id.id, c.in-Some.found) = grind (arith, common_steps) in
    ap (λ (r : Option (ℕ × MemorySlot)). option_map (λ (x : ℕ × MemorySlot). x.1.slot) r) (sym is) ∙ flat_holding c.args.gfn c.args.self.now

pub returns-clause-only : goal.returns-clause-only
returns-clause-only c id m at holds =
    let is : slot_holding c.args.gfn c.args.self.now ≡ None = grind (arith, common_steps) in
    sym is ∙ ap (slot_holding c.args.gfn) (sym c.self.view_is)
    ∙ only c.args.gfn c.self.inside.places c.self.invariant.1 id m (ap (slot_of_id id) c.self.view_is ∙ at) holds

pub returns-clause-flat : goal.returns-clause-flat
returns-clause-flat c =
    let is : slot_holding c.args.gfn c.args.self.now ≡ None = grind (arith, common_steps) in
    ap (λ (r : Option (ℕ × MemorySlot)). option_map (λ (x : ℕ × MemorySlot). x.1.slot) r) (sym is) ∙ flat_holding c.args.gfn c.args.self.now
