-- None of the translations that were looked at is usable.
use Rattle.std.proofs.Common.{◌≡◌, length}
use Rattle.std.specs.Prelude.{All}
use Rattle.part_steps.specs.PartBounds.{IsAtLeafLevel}
use Rattle.mmu_core.specs.forms.access.Cached.{first_usable}
use Rattle.access_twins.proofs.cached.first_usable.Given as goal

abbrev pub invariant-loop-few : goal.invariant-loop-few
invariant-loop-few l = record {
  same : first_usable l.gfn l.write l.translations ≡ first_usable l.gfn l.write l.left;
  levels : All IsAtLeafLevel l.left;
}

abbrev pub decreases-loop-few : goal.decreases-loop-few
decreases-loop-few l = length l.left
