-- How many steps a line has left that splits a large leaf, in each of its places, where no other actor is in its way.
use Rattle.std.specs.Prelude.{◌+◌, ◌-◌, ℕ, if◌then◌else◌}
use Rattle.core_views.specs.declared.place.SplitPlace.{SplitPlace}
use Rattle.core_views.specs.declared.place.SplitPlace.TheVariants.{Begin, Share, Walk, Claim, Fill, Role, Link, Give, Unshare, End}
use Rattle.core_views.specs.declared.sizes.Sizes.{Sizes}
use Rattle.core_views.specs.declared.topics.Topics.{Topics}
use Rattle.spte_words.specs.Areas.{words_of_bits}
use Rattle.part_steps.specs.PartTasks.{words_filled}
use Rattle.mmu_core.specs.orders.ClaimSteps.{Pages, claim_left}
use Rattle.mmu_core.specs.orders.ShareSteps.{share_left}

-- the most steps from the claim's first one on: all words of the map and a page seen there, its words and its role, the link, and where this is lost the page,
-- the lock and the section
abbrev pub large_left : Sizes → ℕ
large_left z = words_of_bits z.pool + 518

abbrev pub split_left : SplitPlace → Sizes → Topics → ℕ
split_left Begin z t = large_left z + 8
split_left Share z t = large_left z + 5 + share_left t.hold
split_left (Walk rooted) z t = large_left z + (if rooted then t.walk.level else 5)
split_left (Claim begun) z t = 517 + claim_left Pages begun z t.claim
split_left Fill z t = 4 + (513 - words_filled t.owned)
split_left Role z t = 5
split_left Link z t = 4
split_left (Give e) z t = 3
split_left (Unshare e) z t = 2
split_left (End e) z t = 1
