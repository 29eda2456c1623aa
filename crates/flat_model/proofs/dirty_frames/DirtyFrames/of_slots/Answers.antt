use Rattle.std.proofs.Common.{◌≡◌, ◌∷◌, rules, subst}
use Rattle.std.specs.Prelude.{All}
use Rattle.std.proofs.lemmas.List.Elements.{All-head, All-tail}
use Rattle.flat_model.specs.Copying.{IsBelow}
use Rattle.flat_model.proofs.Held.{held_next}
use Rattle.flat_model.proofs.dirty_frames.DirtyFrames.of_slots.Goals as goal

pub loop-entry-preserved : goal.loop-entry-preserved
loop-entry-preserved c =
    let e = c.in-Some.entry.now in
    let more = c.in-Some.more.now in
    let rest_is : c.loop-entry.rest.now ≡ e ∷ more = search rules in (
      All-tail IsBelow e more (subst (All IsBelow) rest_is c.loop-entry.invariant.0),
      λ gfn. held_next gfn e more c.loop-entry.rest.now _ _ _ rest_is (c.in_ok-insert_range.ensures gfn) (c.loop-entry.invariant.1 gfn),
    )

pub insert_range-requires : goal.insert_range-requires
insert_range-requires c =
    let e = c.in-Some.entry.now in
    let more = c.in-Some.more.now in
    let rest_is : c.loop-entry.rest.now ≡ e ∷ more = search rules in
    (All-head IsBelow e more (subst (All IsBelow) rest_is c.loop-entry.invariant.0)).below
