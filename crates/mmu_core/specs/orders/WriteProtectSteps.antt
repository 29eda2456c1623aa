-- The order of steps that forbid writes to guest frames, those of a slot (mmu.c, kvm_mmu_slot_remove_write_access; tdp_mmu.c, kvm_tdp_mmu_wrprot_slot): under
-- the lock alone a sweep forbids them in each of their leaves that allows them; and then, without the lock, each virtual processor is asked for a flush and
-- awaited.
use Rattle.std.specs.Prelude.{ℕ, Bool, true, false, ◌+◌, ◌-◌, ◌*◌, ◌==◌, ◌||◌, nat_lt, if◌then◌else◌}
use Rattle.core_views.specs.declared.place.FrameRange.{FrameRange}
use Rattle.core_views.specs.declared.place.WriteProtectPlace.{WriteProtectPlace}
use Rattle.core_views.specs.declared.place.WriteProtectPlace.TheVariants as protect
use Rattle.core_views.specs.declared.sizes.Sizes.{Sizes}
use Rattle.core_views.specs.declared.topics.Topics.{Topics}
use Rattle.part_steps.specs.declared.part_step.PartStep.{PartStep}
use Rattle.part_steps.specs.declared.part_step.PartStep.TheVariants as part
use Rattle.part_steps.specs.ControlBits.{has_to_flush}
use Rattle.part_steps.specs.SweepTopics.{swept_to}
use Rattle.mmu_core.specs.declared.sweep.SweepNext.{SweepNext}
use Rattle.mmu_core.specs.declared.sweep.SweepNext.TheVariants.{Over, Leaf, Entry}
use Rattle.mmu_core.specs.declared.write_protect.WriteProtectNext.{WriteProtectNext}
use Rattle.mmu_core.specs.declared.write_protect.WriteProtectNext.TheVariants as next
use Rattle.mmu_core.specs.orders.SweepSteps.{leaf_left, protected_at, sweep_left, sweep_next, swept_on}

-- the step of each place
abbrev pub protect_part : WriteProtectPlace → FrameRange → Topics → PartStep
protect_part protect.Exclude range t = part.Exclude
protect_part (protect.Walk rooted) range t = if rooted then part.Sweep (swept_to false range.start t.walk) else part.Root
protect_part protect.Protect range t = part.Protect (swept_to false range.start t.walk)
protect_part protect.Release range t = part.Release
protect_part protect.Ask range t = part.Ask t.flush.asked
protect_part protect.Await range t = part.Await t.flush.awaited

-- after an entry of the sweep: it is over, writes are forbidden in a leaf, or it goes on
abbrev pub protect_swept : SweepNext → WriteProtectPlace
protect_swept Over = protect.Release
protect_swept Leaf = protect.Protect
protect_swept Entry = protect.Walk true

-- where it stands after the step of its place, which found v
abbrev pub protect_next : WriteProtectPlace → Sizes → FrameRange → Topics → ℕ → WriteProtectNext
protect_next protect.Exclude z range t v = next.Goes (if v == 0 then protect.Walk false else protect.Exclude)
protect_next (protect.Walk true) z range t v =
    next.Goes (protect_swept (sweep_next false range (swept_on (swept_to false range.start t.walk) t.walk v)))
protect_next (protect.Walk false) z range t v = next.Goes (protect.Walk true)
protect_next protect.Protect z range t v =
    next.Goes (protect_swept (sweep_next false range (protected_at (swept_to false range.start t.walk) t.walk)))
protect_next protect.Release z range t v = next.Goes protect.Ask
protect_next protect.Ask z range t v = next.Goes (if nat_lt (t.flush.asked + 1) z.vcpus then protect.Ask else protect.Await)
protect_next protect.Await z range t v = if has_to_flush v || nat_lt (t.flush.awaited + 1) z.vcpus then next.Goes protect.Await else next.Over

-- Its step is on an entry of the tables.
abbrev pub protect_sweeps : WriteProtectPlace → Bool
protect_sweeps (protect.Walk rooted) = rooted
protect_sweeps protect.Protect = true
protect_sweeps _ = false

-- the most steps that it has left, where no other actor is in the way
abbrev pub protect_left : WriteProtectPlace → Sizes → FrameRange → Topics → ℕ
protect_left protect.Exclude z range t = 2 * z.vcpus + 4 + 5 * (range.end - range.start)
protect_left (protect.Walk true) z range t = 2 * z.vcpus + 1 + sweep_left false range t.walk
protect_left (protect.Walk false) z range t = 2 * z.vcpus + 3 + 5 * (range.end - range.start)
protect_left protect.Protect z range t = 2 * z.vcpus + 1 + leaf_left false range t.walk
protect_left protect.Release z range t = 2 * z.vcpus + 1
protect_left protect.Ask z range t = z.vcpus + (z.vcpus - t.flush.asked)
protect_left protect.Await z range t = z.vcpus - t.flush.awaited
