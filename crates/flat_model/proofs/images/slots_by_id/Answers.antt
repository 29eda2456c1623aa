use Rattle.std.proofs.Common.{◌≡◌, ◌+◌, ◌++◌, [], ◌∷◌, arith, rules, subst, sym, ap, ◌∙◌}
use Rattle.std.specs.Prelude.{All, None, Some}
use Rattle.std.proofs.lemmas.List.Elements.{All-nil, All-push}
use Rattle.core_views.specs.SlotSets.{MemorySlots, slot_of_id}
use Rattle.flat_model.specs.Copying.{IsBelow}
use Rattle.flat_model.proofs.SlotsById.{all_found, all_from, are_rising, from_id, none_more, one_more}
use Rattle.flat_model.proofs.images.slots_by_id.Goals as goal
use Rattle.flat_model.proofs.images.slots_by_id.Goals.{in-Some+in_ok-push, in_default}

pub loop-id-init : goal.loop-id-init
loop-id-init c =
    let none : c.new-found.result.items ≡ [] = search rules in (
      λ lt. absurd (omega (arith, lt)),
      subst (All IsBelow) (sym none) (All-nil IsBelow),
      ap (λ (xs : MemorySlots). xs ++ from_id 0 c.args.slots.now) none ∙ all_from c.args.slots.now,
    )

pub loop-id-preserved : goal.loop-id-preserved
loop-id-preserved c =
    let slots = c.args.slots.now in
    let id = c.loop-id.id in
    let before = c.loop-id.found.items in
    let sound = c.get.ensures.sound in
    elim c.match-get.branch [
      | in-Some+in_ok-push w ↦
          let slot = w.in-Some.slot in
          let items : c.match-get.found.items ≡ before ++ (id, slot) ∷ [] = search rules in
          let there : slot_of_id id slots ≡ Some slot = search rules in (
            λ lt. sound,
            subst (All IsBelow) (sym items) (All-push IsBelow before (id, slot) c.loop-id.invariant.1 (record { below = sound.below id slot there })),
            ap (λ (xs : MemorySlots). xs ++ from_id (id + 1) slots) items
                ∙ one_more before id slot slots (are_rising slots sound) there c.loop-id.invariant.2,
          )
      | in_default w ↦
          let items : c.match-get.found.items ≡ before = search rules in
          let none : slot_of_id id slots ≡ None = search rules in (
            λ lt. sound,
            subst (All IsBelow) (sym items) c.loop-id.invariant.1,
            ap (λ (xs : MemorySlots). xs ++ from_id (id + 1) slots) items ∙ none_more before id slots none c.loop-id.invariant.2,
          )
    ]

pub returns-clause-slots : goal.returns-clause-slots
returns-clause-slots c =
    all_found c.loop-id.found.items c.loop-id.id c.args.slots.now (c.loop-id.invariant.0 (omega arith)) (omega arith) c.loop-id.invariant.2

pub returns-clause-sound : goal.returns-clause-sound
returns-clause-sound c = c.loop-id.invariant.0 (omega arith)
