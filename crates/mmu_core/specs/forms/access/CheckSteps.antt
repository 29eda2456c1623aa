-- The check of a look-up, under the lock (locking.rst, mmu_invalidate_retry_gfn): how many invalidations are open, their range where some are, and then
-- whether the sequence number is the snapshot's still.
use Rattle.std.specs.Prelude.{ℕ, ◌==◌, ◌&&◌, nat_le, nat_lt, if◌then◌else◌, Option, Some, None, false}
use Rattle.core_views.specs.declared.place.Cause.TheVariants.{Open, Moved}
use Rattle.core_views.specs.declared.place.CheckStage.{CheckStage}
use Rattle.core_views.specs.declared.place.CheckStage.TheVariants as stage
use Rattle.core_views.specs.declared.place.FaultEnd.TheVariants.{Retry}
use Rattle.core_views.specs.declared.place.FaultPlace.{FaultPlace}
use Rattle.core_views.specs.declared.place.FaultPlace.TheVariants.{Check, Walk, Unshare}
use Rattle.core_views.specs.declared.topics.Topics.{Topics}
use Rattle.part_steps.specs.declared.part_step.PartStep.{PartStep}
use Rattle.part_steps.specs.declared.part_step.PartStep.TheVariants as part

abbrev pub check_part : CheckStage → PartStep
check_part stage.Count = part.Count
check_part stage.Start = part.RangeStart
check_part stage.End = part.RangeEnd
check_part stage.Seq = part.Seq

-- the snapshot that was taken
abbrev pub snapshot_taken : Option ℕ → ℕ
snapshot_taken None = 0
snapshot_taken (Some n) = n

abbrev pub check_next : CheckStage → ℕ → Topics → ℕ → FaultPlace
check_next stage.Count gfn t v = if v == 0 then Check stage.Seq else Check stage.Start
check_next stage.Start gfn t v = Check stage.End
check_next stage.End gfn t v =
    if nat_le t.invalidations.start gfn && nat_lt gfn v then Unshare (Retry false (Open t.invalidations.count t.invalidations.start v gfn)) else Check stage.Seq
check_next stage.Seq gfn t v =
    if v == snapshot_taken t.invalidations.snapshot then Walk false else Unshare (Retry false (Moved (snapshot_taken t.invalidations.snapshot) v))
