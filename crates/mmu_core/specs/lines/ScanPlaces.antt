-- Where a line stands at its claim, and where it has a scan of the map of what is free: a row for each form of line that claims.
use Rattle.std.specs.Prelude.{◌≡◌, Bool, true, false, Option, Some, None, is_some}
use Rattle.core_views.specs.declared.place.AccessPlace.TheVariants as access
use Rattle.core_views.specs.declared.place.FaultEnd.{FaultEnd}
use Rattle.core_views.specs.declared.place.FaultEnd.TheVariants.{Starved}
use Rattle.core_views.specs.declared.place.FaultNext.{FaultNext}
use Rattle.core_views.specs.declared.place.FaultNext.TheVariants as next_of
use Rattle.core_views.specs.declared.place.FaultPlace.{FaultPlace}
use Rattle.core_views.specs.declared.place.FaultPlace.TheVariants.{Claim, Unshare, End}
use Rattle.core_views.specs.declared.place.Place.{Place}
use Rattle.core_views.specs.declared.place.Place.TheVariants as place
use Rattle.core_views.specs.declared.place.HostPlace.TheVariants as host
use Rattle.core_views.specs.declared.place.SlotChangePlace.TheVariants as change
use Rattle.core_views.specs.declared.place.SplitEnd.{SplitEnd}
use Rattle.core_views.specs.declared.place.SplitEnd.TheVariants as split_end
use Rattle.core_views.specs.declared.place.SplitPlace.{SplitPlace}
use Rattle.core_views.specs.declared.place.SplitPlace.TheVariants as split
use Rattle.core_views.specs.declared.answer.Answer.{Answer}
use Rattle.core_views.specs.declared.answer.Refusal.TheVariants.{NoFrame}
pub use Rattle.mmu_core.specs.orders.ClaimSteps.{FreeMap, Pages, Frames}

-- At the claim of a page, or of a frame: whether it has loaded a word of the map.
abbrev pub claim_at : FreeMap → Place → Option Bool
claim_at Pages (place.Access (access.Fault (Claim begun))) = Some begun
claim_at Pages (place.SlotChange (change.Claim begun)) = Some begun
claim_at Pages (place.Split (split.Claim begun)) = Some begun
claim_at Frames (place.Host (host.Claim begun)) = Some begun
claim_at _ _ = None

-- A line is answered with the last step of its claim, where this finds nothing free; but an access and a split give the lock back first.
abbrev pub ends_with_claim : FreeMap → Place → Bool
ends_with_claim map (place.Access p) = false
ends_with_claim map (place.Split p) = false
ends_with_claim map p = is_some (claim_at map p)

-- the answer of a line that found nothing free in the map
abbrev pub answer_without : FreeMap → Answer
answer_without Pages = Answer.Starved
answer_without Frames = Answer.Refused NoFrame

abbrev pub IsStarvedEnd : FaultEnd → Type 0
IsStarvedEnd Starved = Unit {0}
IsStarvedEnd _ = ⊥

-- The fault has loaded the first word of the map, and goes on with its claim, or is to be starved.
abbrev pub HasBegun : FaultPlace → Type 0
HasBegun (Claim begun) = begun ≡ true
HasBegun (Unshare e) = IsStarvedEnd e
HasBegun (End e) = IsStarvedEnd e
HasBegun _ = ⊥

-- So it is after a step.
abbrev pub BegunNext : FaultNext → Type 0
BegunNext (next_of.Goes p) = HasBegun p
BegunNext (next_of.Ends e) = IsStarvedEnd e

-- So does a split, which goes on with its claim, or is to be starved.
abbrev pub IsStarvedSplit : SplitEnd → Type 0
IsStarvedSplit split_end.Starved = Unit {0}
IsStarvedSplit _ = ⊥

abbrev pub HasBegunSplit : SplitPlace → Type 0
HasBegunSplit (split.Claim begun) = begun ≡ true
HasBegunSplit (split.Unshare e) = IsStarvedSplit e
HasBegunSplit (split.End e) = IsStarvedSplit e
HasBegunSplit _ = ⊥

-- The claim has loaded a word of the map.
abbrev pub HasLoadedMap : Option Bool → Type 0
HasLoadedMap (Some begun) = begun ≡ true
HasLoadedMap None = ⊥

-- So it is of the map of the pool's pages, and never of the map of frames.
abbrev pub OfPages : Type 0 → FreeMap → Type 0
OfPages A Pages = A
OfPages A Frames = ⊥

-- The line has loaded the first word of the map, and goes on with its claim; or its fault, or its split, is to be starved.
abbrev pub HasScan : Place → FreeMap → Type 0
HasScan (place.Access (access.Fault p)) map = OfPages (HasBegun p) map
HasScan (place.Split p) map = OfPages (HasBegunSplit p) map
HasScan p map = HasLoadedMap (claim_at map p)
