use Rattle.std.proofs.Common.{◌≡◌, ◌-◌, ◌^◌, ◌∷◌, ℕ, rules, subst, ◌∙◌}
use Rattle.std.specs.Prelude.{All}
use Rattle.std.proofs.lemmas.List.{nil_from_length}
use Rattle.std.proofs.lemmas.List.Elements.{All-head, All-tail}
use Rattle.core_views.specs.declared.memory_slot.MemorySlot.{MemorySlot}
use Rattle.core_views.specs.Migrations.{slot_words}
use Rattle.flat_model.specs.Copying.{FitsIn, is_printed}
use Rattle.flat_model.specs.Kept.{memory_of}
use Rattle.flat_model.proofs.Held.{image_is, tested_next}
use Rattle.flat_model.proofs.images.image_words.Goals as goal

pub loop-entry-preserved : goal.loop-entry-preserved
loop-entry-preserved c =
    let e = c.in-Some.entry.now in
    let more = c.in-Some.more.now in
    let rest_is : c.loop-entry.rest.now ≡ e ∷ more = search rules in (
      All-tail (FitsIn (2 ^ 64 - 1)) e more (subst (All (FitsIn (2 ^ 64 - 1))) rest_is c.loop-entry.invariant.0),
      tested_next is_printed (λ (entry : ℕ × MemorySlot). slot_words c.args.words (memory_of c.args.image.now.entries) entry.0 entry.1.slot) e more
          c.loop-entry.rest.now _ _ _ rest_is c.in_ok-push_slot.ensures c.loop-entry.invariant.1,
    )

pub push_slot-requires : goal.push_slot-requires
push_slot-requires c =
    let e = c.in-Some.entry.now in
    let more = c.in-Some.more.now in
    let rest_is : c.loop-entry.rest.now ≡ e ∷ more = search rules in
    All-head (FitsIn (2 ^ 64 - 1)) e more (subst (All (FitsIn (2 ^ 64 - 1))) rest_is c.loop-entry.invariant.0)

pub returns : goal.returns
returns c =
    let none = nil_from_length c.loop-entry.rest.now c.in_default.ensures.cases in
    c.from_vec.ensures
    ∙ image_is c.args.words (memory_of c.args.image.now.entries) c.args.slots.now c.loop-entry.rest.now c.loop-entry.found.items none c.loop-entry.invariant.1
