-- How many steps a line that changes a host page has left, in each of its places.
use Rattle.std.specs.Prelude.{◌+◌, ◌-◌, ◌*◌, ℕ, Bool, true, Option, None, if◌then◌else◌}
use Rattle.core_views.specs.declared.place.HostPlace.{HostPlace}
use Rattle.core_views.specs.declared.place.HostPlace.TheVariants.{Look, Claim, Begin, Copy, Store, Change, End, Watch, Free}
use Rattle.core_views.specs.declared.sizes.Sizes.{Sizes}
use Rattle.core_views.specs.declared.topics.Topics.{Topics}
use Rattle.core_views.specs.declared.topics.OwnedFrame.{OwnedFrame}
use Rattle.core_views.specs.Sizes.{actors_of}
use Rattle.part_steps.specs.FrameTopics.{words_moved}
use Rattle.part_steps.specs.PartTasks.{word_looked}
use Rattle.spte_words.specs.HostWords.{host_present}
use Rattle.spte_words.specs.Areas.{words_of_bits}
use Rattle.mmu_core.specs.orders.ClaimSteps.{Frames, claim_left}
use Rattle.mmu_core.specs.orders.InvalidateLeft.{begin_left, end_left}
use Rattle.mmu_core.specs.forms.host.HostSteps.{moves}

-- how many steps are left of the copy: two for each word; and after the end of the invalidation, where the page was moved: a look at each actor, and one that
-- gives the old frame back
abbrev pub copies_left : Sizes → Option OwnedFrame → ℕ
copies_left z owned = 2 * (z.words - words_moved owned)

abbrev pub frees_left : Bool → Sizes → ℕ
frees_left moves z = if moves then 1 + actors_of z else 0

-- The most steps that it has left. Its exchange of a page that it saw absent is lost where an access has brought the page in; then it makes one more.
abbrev pub host_left : HostPlace → Sizes → Topics → ℕ
host_left (Look moves) z t = 2 * z.vcpus + 152 + (if moves then words_of_bits z.frames + 1 + copies_left z None + frees_left true z else 0)
host_left (Claim begun) z t = 2 * z.vcpus + 151 + copies_left z None + frees_left true z + claim_left Frames begun z t.frames.claim
host_left (Begin p) z t = begin_left p z 1 t + 8 + (if moves t then copies_left z None else 0) + frees_left (moves t) z
host_left Copy z t = 8 + copies_left z t.frames.owned + frees_left true z
host_left Store z t = 7 + copies_left z t.frames.owned + frees_left true z
host_left Change z t = 7 + (if host_present (word_looked t.host) then 0 else 1) + frees_left (moves t) z
host_left (End p) z t = end_left p + frees_left (moves t) z
host_left Watch z t = 1 + (actors_of z - t.watched)
host_left Free z t = 1
