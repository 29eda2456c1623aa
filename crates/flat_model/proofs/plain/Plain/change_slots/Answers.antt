use Rattle.std.proofs.Common.{Bool, sym, subst, ap, refl, ◌∙◌}
use Rattle.core_views.specs.declared.answer.Answer.TheVariants.{Done}
use Rattle.core_views.specs.SlotCommands.{change_at_once}
use Rattle.core_views.specs.SlotSets.{flat_slots}
use Rattle.core_views.specs.declared.sizes.Sizes.{Sizes}
use Rattle.flat_model.specs.Dirty.{dirty_by, is_dirty, sets_all}
use Rattle.flat_model.specs.Kept.{Kept}
use Rattle.flat_model.specs.Steps.{AreSlotsOf, ChangesSlots}
use Rattle.flat_model.proofs.MadeChanges.{makes_change}
use Rattle.flat_model.proofs.SlotPages.{slots_fit}
use Rattle.flat_model.proofs.plain.Plain.change_slots.Goals as goal

pub invariant_of-self-2 : goal.invariant_of-self-2
invariant_of-self-2 c =
    let z = c.self.inside.host.sizes in
    let command = c.args.line.now.command in
    let works = ap (λ s. change_at_once s command c.self.inside.slots) (sym c.sizes-sizes.ensures) ∙ sym c.at_once.ensures ∙ c.in_default.is in (
      c.self.invariant.0,
      subst (λ slots. AreSlotsOf z.pages (flat_slots slots)) (sym c.make_change.ensures)
          (slots_fit z command c.self.inside.slots works c.self.invariant.1),
      c.self.invariant.2,
    )

pub returns-clause-changes : goal.returns-clause-changes
returns-clause-changes c =
    let inside = c.self.inside in
    let z = inside.host.sizes in
    let command = c.args.line.now.command in
    let works = ap (λ s. change_at_once s command c.self.inside.slots) (sym c.sizes-sizes.ensures) ∙ sym c.at_once.ensures ∙ c.in_default.is in
    let before : Kept =
    record { sizes = z; slots = inside.slots; changed = inside.host.changed; words = inside.memory.entries; dirty = inside.dirty; copies = inside.copies } in
    let after : Kept =
    record before { slots = c.make_change.new.self; dirty = c.change_slot.new.self } in
    let all_is = c.sets_all-all.ensures ∙ ap (λ (s : Sizes). sets_all s.mode command) c.sizes-sizes.ensures in
    rw (← c.self.view_is) (subst (ChangesSlots command before after Done) (sym works) (
      refl,
      makes_change command c.args.id c.get.result c.get-2.result before after c.requires.slot (record {
        was_is = c.get.ensures.is;
        now_is = c.get-2.ensures.is;
        slots = c.make_change.ensures;
        changed = refl;
        words = refl;
        copies = refl;
        dirty = λ gfn. c.in_ok-change_slot.ensures.dirty gfn
            ∙ ap (λ (all : Bool). dirty_by all c.get.result c.get-2.result (is_dirty before.dirty) gfn) all_is;
      }),
    ))
