use Rattle.std.proofs.Common.{◌≡◌, ◌∷◌, ℕ, rules, subst}
use Rattle.std.specs.Prelude.{All}
use Rattle.std.proofs.lemmas.List.Elements.{All-head, All-tail}
use Rattle.core_views.specs.declared.memory_slot.MemorySlot.{MemorySlot}
use Rattle.core_views.specs.Migrations.{frames_in}
use Rattle.flat_model.specs.Copying.{IsBelow, is_either}
use Rattle.flat_model.proofs.Held.{made_next}
use Rattle.flat_model.proofs.images.frames_to_copy.Goals as goal

pub loop-entry-preserved : goal.loop-entry-preserved
loop-entry-preserved c =
    let e = c.in-Some.entry.now in
    let more = c.in-Some.more.now in
    let rest_is : c.loop-entry.rest.now ≡ e ∷ more = search rules in (
      All-tail IsBelow e more (subst (All IsBelow) rest_is c.loop-entry.invariant.0),
      made_next (λ (entry : ℕ × MemorySlot). frames_in (is_either c.args.dirty.now c.args.to_copy.now) entry.1) e more c.loop-entry.rest.now _ _ _ rest_is
          c.in_ok-push_frames.ensures c.loop-entry.invariant.1,
    )

pub push_frames-requires : goal.push_frames-requires
push_frames-requires c =
    let e = c.in-Some.entry.now in
    let more = c.in-Some.more.now in
    let rest_is : c.loop-entry.rest.now ≡ e ∷ more = search rules in
    All-head IsBelow e more (subst (All IsBelow) rest_is c.loop-entry.invariant.0)
