-- The two maps of what is free, by which of them a claim goes through: what an actor holds with its claim, and with what it got.
use Rattle.std.specs.Prelude.{◌≡◌, ℕ, true, Option, Some, None}
use Rattle.core_views.specs.declared.sizes.Sizes.{Sizes}
use Rattle.core_views.specs.declared.topics.MapClaim.{MapClaim}
use Rattle.core_views.specs.declared.topics.OwnedFrame.{OwnedFrame}
use Rattle.core_views.specs.declared.topics.OwnedPage.{OwnedPage}
use Rattle.core_views.specs.declared.topics.Topics.{Topics}
use Rattle.core_views.specs.Held.{Held, no_claim}
use Rattle.mmu_core.specs.machine.Machine.{World}
use Rattle.mmu_core.specs.machine.View.{word_in}
use Rattle.mmu_core.specs.invariant.PoolPart.{is_free}
use Rattle.mmu_core.specs.declared.claim.FreeMap.{FreeMap}
use Rattle.mmu_core.specs.declared.claim.FreeMap.TheVariants.{Pages, Frames}
use Rattle.mmu_core.specs.orders.ClaimSteps.{map_area}

-- what is held with this claim
abbrev pub with_claim : FreeMap → MapClaim → Topics → Topics
with_claim Pages claim t = record t { claim = claim }
with_claim Frames claim t = record t { frames = record t.frames { claim = claim } }

-- what is held with this page, which is to be filled for the entry that the walk has loaded and of which nothing is filled, or with this frame, of which
-- nothing is filled and nothing copied, after a claim that is over
abbrev pub with_got : FreeMap → ℕ → Topics → Topics
with_got Pages page t =
    record t { owned = Some (record { page = page; filled = 0; entry = t.walk.entry; level = t.walk.level; below = true; role = 0 }); claim = no_claim }
with_got Frames frame t =
    record t { frames = record { claim = no_claim; owned = Some (record { frame = frame; filled = 0; copied = None }) } }

-- the page, or the frame, that is owned
abbrev pub page_got : Option OwnedPage → Option ℕ
page_got None = None
page_got (Some o) = Some o.page

abbrev pub frame_got : Option OwnedFrame → Option ℕ
frame_got None = None
frame_got (Some o) = Some o.frame

abbrev pub got_in : FreeMap → Topics → Option ℕ
got_in Pages t = page_got t.owned
got_in Frames t = frame_got t.frames.owned

-- Its bit in the map is set.
abbrev pub IsFreeIn : FreeMap → Sizes → ℕ → World Held → Type 0
IsFreeIn map z one w = is_free (word_in z w (map_area map)) one ≡ true
