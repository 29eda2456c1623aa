-- How many steps the begin of an invalidation has left, and its end.
use Rattle.std.specs.Prelude.{◌+◌, ◌-◌, ◌*◌, ℕ, true, false}
use Rattle.core_views.specs.declared.place.BeginPlace.{BeginPlace}
use Rattle.core_views.specs.declared.place.BeginPlace.TheVariants as begins
use Rattle.core_views.specs.declared.place.EndPlace.{EndPlace}
use Rattle.core_views.specs.declared.place.EndPlace.TheVariants as ends
use Rattle.core_views.specs.declared.sizes.Sizes.{Sizes}
use Rattle.core_views.specs.declared.topics.Topics.{Topics}
use Rattle.mmu_core.specs.orders.SweepSteps.{leaf_left, range_of, sweep_left}
use Rattle.mmu_core.specs.forms.access.FaultLeft.{find_left}

-- the most steps that the begin of an invalidation of so many guest frames has left, where no other actor is in the way
abbrev pub begin_left : BeginPlace → Sizes → ℕ → Topics → ℕ
begin_left begins.Exclude z frames t = 2 * z.vcpus + 138 + 5 * frames
begin_left (begins.Find begun) z frames t = 2 * z.vcpus + 8 + 5 * frames + find_left begun t.search
begin_left begins.Count z frames t = 2 * z.vcpus + 8 + 5 * frames
begin_left begins.RangeStart z frames t = 2 * z.vcpus + 7 + 5 * frames
begin_left begins.RangeEnd z frames t = 2 * z.vcpus + 6 + 5 * frames
begin_left begins.SetStart z frames t = 2 * z.vcpus + 5 + 5 * frames
begin_left begins.SetEnd z frames t = 2 * z.vcpus + 4 + 5 * frames
begin_left begins.SetCount z frames t = 2 * z.vcpus + 3 + 5 * frames
begin_left (begins.Walk true) z frames t = 2 * z.vcpus + 1 + sweep_left true (range_of t.invalidations.own) t.walk
begin_left (begins.Walk false) z frames t = 2 * z.vcpus + 2 + 5 * (t.invalidations.own.end - t.invalidations.own.start)
begin_left begins.Zap z frames t = 2 * z.vcpus + 1 + leaf_left true (range_of t.invalidations.own) t.walk
begin_left begins.Ask z frames t = z.vcpus + 1 + (z.vcpus - t.flush.asked)
begin_left begins.Await z frames t = 1 + (z.vcpus - t.flush.awaited)
begin_left begins.Release z frames t = 1

-- and its end, where none is in the way
abbrev pub end_left : EndPlace → ℕ
end_left ends.Exclude = 6
end_left ends.Seq = 5
end_left ends.SetSeq = 4
end_left ends.Count = 3
end_left ends.SetCount = 2
end_left ends.Release = 1
