use Rattle.std.proofs.Common.{◌≡◌, ◌||◌, ℕ, length}
use Rattle.std.specs.Prelude.{All}
use Rattle.flat_model.specs.Copying.{IsBelow, is_held}
use Rattle.flat_model.specs.Dirty.{is_dirty}
use Rattle.flat_model.proofs.dirty_frames.DirtyFrames.of_slots.Given as goal

abbrev pub invariant-loop-entry : goal.invariant-loop-entry
invariant-loop-entry l = All IsBelow l.rest × ((gfn : ℕ) → (is_held l.rest gfn || is_dirty l.frames.keys gfn) ≡ is_held l.slots gfn)

abbrev pub decreases-loop-entry : goal.decreases-loop-entry
decreases-loop-entry l = length l.rest
