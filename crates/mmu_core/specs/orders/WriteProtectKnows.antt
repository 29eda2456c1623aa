-- What a line knows that forbids writes to guest frames, at each place of these steps, from what its actor holds alone.
use Rattle.std.specs.Prelude.{◌≡◌, ◌<◌, true, false, None}
use Rattle.core_views.specs.declared.place.FrameRange.{FrameRange}
use Rattle.core_views.specs.declared.place.WriteProtectPlace.{WriteProtectPlace}
use Rattle.core_views.specs.declared.place.WriteProtectPlace.TheVariants as protect
use Rattle.core_views.specs.declared.sizes.Sizes.{Sizes}
use Rattle.core_views.specs.declared.topics.Topics.{Topics}
use Rattle.part_steps.specs.PartSteps.{IsFree}
use Rattle.mmu_core.specs.orders.InvalidateKnows.{IsSweeping}
use Rattle.mmu_core.specs.orders.SweepKnows.{IsAtEnd, IsAtEntry, IsAtLeaf}

-- It holds nothing but, perhaps, a page, and no invalidation of its own is open.
pub record IsFreeOfOwn (t : Topics) : Type 0 where
  pub free : IsFree t
  pub closed : t.invalidations.opened ≡ false

abbrev pub WriteProtectKnows : WriteProtectPlace → Sizes → FrameRange → Topics → Type 0
WriteProtectKnows protect.Exclude z range t = IsFreeOfOwn t
WriteProtectKnows (protect.Walk rooted) z range t = IsSweeping false t × (rooted ≡ true → IsAtEntry false range t.walk) × (t.search.set ≡ None)
WriteProtectKnows protect.Protect z range t = IsSweeping false t × IsAtLeaf false range t.walk × (t.search.set ≡ None)
WriteProtectKnows protect.Release z range t = IsSweeping false t × IsAtEnd false range t.walk × (t.search.set ≡ None)
WriteProtectKnows protect.Ask z range t = IsFreeOfOwn t × (t.flush.asked < z.vcpus) × (t.flush.awaited ≡ 0)
WriteProtectKnows protect.Await z range t = IsFreeOfOwn t × (t.flush.asked ≡ z.vcpus) × (t.flush.awaited < z.vcpus)
