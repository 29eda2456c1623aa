use Rattle.std.proofs.Common.{◌≡◌, ◌++◌, length}
use Rattle.std.specs.Prelude.{All}
use Rattle.core_views.specs.Migrations.{frames_to_copy}
use Rattle.flat_model.specs.Copying.{IsBelow, is_either}
use Rattle.flat_model.proofs.images.frames_to_copy.Given as goal

abbrev pub invariant-loop-entry : goal.invariant-loop-entry
invariant-loop-entry l =
    All IsBelow l.rest
    × (l.frames.items ++ frames_to_copy (is_either l.dirty l.to_copy) l.rest ≡ frames_to_copy (is_either l.dirty l.to_copy) l.slots)

abbrev pub decreases-loop-entry : goal.decreases-loop-entry
decreases-loop-entry l = length l.rest
