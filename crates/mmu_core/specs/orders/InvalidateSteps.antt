-- The order of steps that begin an invalidation of guest frames, those that slots give to host pages or those of a slot, and of those that end it (kvm_main.c,
-- kvm_mmu_invalidate_begin and kvm_mmu_invalidate_end; tdp_mmu.c, kvm_tdp_mmu_unmap_gfn_range; vcpu-requests.rst): under the lock alone the range of open
-- invalidations is widened to the frames, one more is counted, their leaves are zapped, and each virtual processor is asked for a flush and awaited; and later,
-- under the lock alone again, the sequence number is raised, and one less is open.
pub use Rattle.part_steps.specs.declared.invalidations.Target.{Target}
pub use Rattle.part_steps.specs.InvalidationRange.{gfn_behind, greater, has_found, has_searched, lesser, range_end, range_start, target_end, target_start}
use Rattle.std.specs.Prelude.{◌≤◌, ◌<◌, ◌+◌, ◌-◌, ◌^◌, ℕ, Bool, true, false, ◌==◌, ◌||◌, nat_lt, if◌then◌else◌}
use Rattle.core_views.specs.declared.place.BeginPlace.{BeginPlace}
use Rattle.core_views.specs.declared.place.BeginPlace.TheVariants as begins
use Rattle.core_views.specs.declared.place.EndPlace.{EndPlace}
use Rattle.core_views.specs.declared.place.EndPlace.TheVariants as ends
use Rattle.core_views.specs.declared.sizes.Sizes.{Sizes}
use Rattle.core_views.specs.declared.topics.SlotSearch.{SlotSearch}
use Rattle.core_views.specs.declared.topics.TableWalk.{TableWalk}
use Rattle.core_views.specs.declared.topics.Topics.{Topics}
use Rattle.part_steps.specs.ControlBits.{has_to_flush}
use Rattle.part_steps.specs.PageTopics.{searched}
use Rattle.part_steps.specs.SweepTopics.{swept_to}
use Rattle.part_steps.specs.declared.part_step.PartStep.{PartStep}
use Rattle.part_steps.specs.declared.part_step.PartStep.TheVariants as part
use Rattle.mmu_core.specs.declared.invalidate.BeginNext.{BeginNext}
use Rattle.mmu_core.specs.declared.invalidate.BeginNext.TheVariants as begins_next
use Rattle.mmu_core.specs.declared.invalidate.EndNext.{EndNext}
use Rattle.mmu_core.specs.declared.invalidate.EndNext.TheVariants as ends_next
use Rattle.mmu_core.specs.declared.sweep.SweepNext.{SweepNext}
use Rattle.mmu_core.specs.declared.sweep.SweepNext.TheVariants.{Over, Leaf, Entry}
use Rattle.mmu_core.specs.orders.SweepSteps.{range_of, sweep_next, swept_on, zapped_at}

-- ---- its begin

-- the step of each place
abbrev pub begin_part : BeginPlace → Target → Topics → PartStep
begin_part begins.Exclude target t = part.Exclude
begin_part (begins.Find begun) target t = if begun then part.Slot else part.Slots
begin_part begins.Count target t = part.Count
begin_part begins.RangeStart target t = part.RangeStart
begin_part begins.RangeEnd target t = part.RangeEnd
begin_part begins.SetStart target t = part.SetStart (target_start target t.search t.row) (range_start target t)
begin_part begins.SetEnd target t = part.SetEnd (target_end target t.search t.row) (range_end target t)
begin_part begins.SetCount target t = part.SetCount (t.invalidations.count + 1)
begin_part (begins.Walk rooted) target t = if rooted then part.Sweep (swept_to true t.invalidations.own.start t.walk) else part.Root
begin_part begins.Zap target t = part.Zap (swept_to true t.invalidations.own.start t.walk)
begin_part begins.Ask target t = part.Ask t.flush.asked
begin_part begins.Await target t = part.Await t.flush.awaited
begin_part begins.Release target t = part.Release

-- after a word of the slots: the search has come to its end, or goes on
abbrev pub search_next : Target → SlotSearch → BeginPlace
search_next target search = if has_searched target search then begins.Count else begins.Find true

-- after an entry of the sweep: it is over, a leaf is zapped, or it goes on
abbrev pub begin_swept : SweepNext → BeginPlace
begin_swept Over = begins.Ask
begin_swept Leaf = begins.Zap
begin_swept Entry = begins.Walk true

-- where it stands after the step of its place, which found v
abbrev pub begin_next : BeginPlace → Sizes → Target → Topics → ℕ → BeginNext
begin_next begins.Exclude z target t v = begins_next.Goes (if v == 0 then begins.Find false else begins.Exclude)
begin_next (begins.Find begun) z target t v = begins_next.Goes (if begun then search_next target (searched t.search v) else begins.Find true)
begin_next begins.Count z target t v = begins_next.Goes (if v == 0 then begins.SetStart else begins.RangeStart)
begin_next begins.RangeStart z target t v = begins_next.Goes begins.RangeEnd
begin_next begins.RangeEnd z target t v = begins_next.Goes begins.SetStart
begin_next begins.SetStart z target t v = begins_next.Goes begins.SetEnd
begin_next begins.SetEnd z target t v = begins_next.Goes begins.SetCount
begin_next begins.SetCount z target t v = begins_next.Goes (begins.Walk false)
begin_next (begins.Walk true) z target t v =
    begins_next.Goes (begin_swept (sweep_next true (range_of t.invalidations.own) (swept_on (swept_to true t.invalidations.own.start t.walk) t.walk v)))
begin_next (begins.Walk false) z target t v =
    begins_next.Goes (if nat_lt t.invalidations.own.start t.invalidations.own.end then begins.Walk true else begins.Ask)
begin_next begins.Zap z target t v =
    begins_next.Goes (begin_swept (sweep_next true (range_of t.invalidations.own) (zapped_at (swept_to true t.invalidations.own.start t.walk) t.walk)))
begin_next begins.Ask z target t v = begins_next.Goes (if nat_lt (t.flush.asked + 1) z.vcpus then begins.Ask else begins.Await)
begin_next begins.Await z target t v =
    begins_next.Goes (if has_to_flush v || nat_lt (t.flush.awaited + 1) z.vcpus then begins.Await else begins.Release)
begin_next begins.Release z target t v = begins_next.Begun

-- Its step is on an entry of the tables.
abbrev pub sweeps : BeginPlace → Bool
sweeps (begins.Walk rooted) = rooted
sweeps begins.Zap = true
sweeps _ = false

-- The walk is at one of the four levels, or at none, and the numbers of the spans there have room.
pub record IsWalkSmall (walk : TableWalk) : Type 0 where
  pub level : walk.level ≤ 4
  pub prefix : 1 ≤ walk.level → walk.prefix < 2 ^ 36

-- It is counted among the open ones from this place on.
abbrev pub is_among_open : BeginPlace → Bool
is_among_open (begins.Walk rooted) = true
is_among_open begins.Zap = true
is_among_open begins.Ask = true
is_among_open begins.Await = true
is_among_open begins.Release = true
is_among_open _ = false

-- ---- its end

abbrev pub end_part : EndPlace → Topics → PartStep
end_part ends.Exclude t = part.Exclude
end_part ends.Seq t = part.Seq
end_part ends.SetSeq t = part.SetSeq (t.invalidations.seq + 1)
end_part ends.Count t = part.Count
end_part ends.SetCount t = part.SetCount (t.invalidations.count - 1)
end_part ends.Release t = part.Release

abbrev pub end_next : EndPlace → ℕ → EndNext
end_next ends.Exclude v = ends_next.Goes (if v == 0 then ends.Seq else ends.Exclude)
end_next ends.Seq v = ends_next.Goes ends.SetSeq
end_next ends.SetSeq v = ends_next.Goes ends.Count
end_next ends.Count v = ends_next.Goes ends.SetCount
end_next ends.SetCount v = ends_next.Goes ends.Release
end_next ends.Release v = ends_next.Ended
