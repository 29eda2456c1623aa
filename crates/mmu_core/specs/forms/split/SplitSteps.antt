-- The order of steps of a line that splits the large leaf over a guest frame (tdp_mmu.c, tdp_mmu_split_huge_page): in a section, sharing the lock, it walks
-- from the root down to the first entry that is no link. Where this is a large leaf, it fills a page of its own with the leaf's children, and links it as a
-- table in place of the leaf. It splits one level, and tries once.
use Rattle.std.specs.Prelude.{◌+◌, ◌-◌, ℕ, false, true, List, [], ◌==◌, nat_le, nat_lt, if◌then◌else◌}
use Rattle.core_views.specs.declared.answer.Answer.{Answer}
use Rattle.core_views.specs.declared.answer.Answer.TheVariants as answer
use Rattle.core_views.specs.declared.event.EventKind.{EventKind}
use Rattle.core_views.specs.declared.place.Place.TheVariants as place
use Rattle.core_views.specs.declared.place.SplitEnd.{SplitEnd}
use Rattle.core_views.specs.declared.place.SplitEnd.TheVariants.{Split, Nothing, Changed, Starved}
use Rattle.core_views.specs.declared.place.SplitPlace.{SplitPlace}
use Rattle.core_views.specs.declared.place.SplitPlace.TheVariants.{Begin, Share, Walk, Claim, Fill, Role, Link, Give, Unshare, End}
use Rattle.core_views.specs.declared.sizes.Sizes.{Sizes}
use Rattle.core_views.specs.declared.topics.Topics.{Topics}
use Rattle.spte_words.specs.declared.spte_kind.SpteKind.{SpteKind}
use Rattle.spte_words.specs.declared.spte_kind.SpteKind.TheVariants as entry_kind
use Rattle.spte_words.specs.Entries.{kind_of, word_below}
use Rattle.part_steps.specs.declared.part_step.PartStep.{PartStep}
use Rattle.part_steps.specs.declared.part_step.PartStep.TheVariants as part
use Rattle.part_steps.specs.PartTasks.{words_filled}
use Rattle.mmu_core.specs.declared.claim.ClaimNext.{ClaimNext}
use Rattle.mmu_core.specs.declared.claim.ClaimNext.TheVariants as claims
use Rattle.mmu_core.specs.declared.outcome.Outcome.{Outcome}
use Rattle.mmu_core.specs.declared.outcome.Outcome.TheVariants.{Goes, Ends}
use Rattle.mmu_core.specs.declared.share.ShareNext.{ShareNext}
use Rattle.mmu_core.specs.declared.share.ShareNext.TheVariants as shares
use Rattle.mmu_core.specs.forms.access.AccessSteps.{exiting}
use Rattle.mmu_core.specs.orders.ClaimSteps.{Pages, claim_next, claim_part}
use Rattle.mmu_core.specs.orders.ShareSteps.{share_next, share_part}

-- the step of each place; the page is filled with the children of the leaf that it takes the place of, and its role is one level below the leaf's table
abbrev pub split_part : SplitPlace → ℕ → Topics → PartStep
split_part Begin gfn t = part.Begin
split_part Share gfn t = share_part t.hold
split_part (Walk rooted) gfn t = if rooted then part.Walk gfn else part.Root
split_part (Claim begun) gfn t = claim_part Pages begun t.claim
split_part Fill gfn t = part.Fill (word_below t.walk.level t.walk.entry (words_filled t.owned))
split_part Role gfn t = part.Role (t.walk.level - 1)
split_part Link gfn t = part.Link gfn
split_part (Give e) gfn t = part.Give
split_part (Unshare e) gfn t = part.Unshare
split_part (End e) gfn t = part.End

-- 1 where the line may end with the step
abbrev pub split_note : SplitPlace → ℕ
split_note (End e) = 1
split_note _ = 0

-- after a step of sharing the lock: the walk begins once it is shared
abbrev pub after_share : ShareNext → SplitPlace
after_share shares.Tries = Share
after_share shares.Shares = Walk false

-- after an entry v of a table of this level: a large leaf is to be split
abbrev pub entry_next : SpteKind → ℕ → ℕ → SplitPlace
entry_next (entry_kind.Table page) level v = Walk true
entry_next entry_kind.Leaf level v = if nat_le 2 level then Claim false else Unshare (Nothing v)
entry_next entry_kind.Absent level v = Unshare (Nothing v)
entry_next entry_kind.Frozen level v = Unshare (Nothing v)

-- after a step of its claim: the page is to be filled, or no page is free
abbrev pub after_claim : ClaimNext → SplitPlace
after_claim claims.Goes = Claim true
after_claim claims.Got = Fill
after_claim claims.Empty = Unshare Starved

-- what it is answered: that it is done, also where it had nothing to do
abbrev pub split_answer : SplitEnd → Answer
split_answer Starved = answer.Starved
split_answer Split = answer.Done
split_answer (Nothing word) = answer.Done
split_answer (Changed seen) = answer.Done

-- where the line stands after the step of its place, which found v
abbrev pub split_outcome : SplitPlace → Sizes → Topics → ℕ → Outcome
split_outcome Begin z t v = Goes (place.Split Share)
split_outcome Share z t v = Goes (place.Split (after_share (share_next t.hold v)))
split_outcome (Walk rooted) z t v = Goes (place.Split (if rooted then entry_next (kind_of t.walk.level v) t.walk.level v else Walk true))
split_outcome (Claim begun) z t v = Goes (place.Split (after_claim (claim_next Pages begun z t.claim v)))
split_outcome Fill z t v = Goes (place.Split (if nat_lt (words_filled t.owned + 1) 512 then Fill else Role))
split_outcome Role z t v = Goes (place.Split Link)
split_outcome Link z t v = Goes (place.Split (if v == t.walk.entry then Unshare Split else Give (Changed v)))
split_outcome (Give e) z t v = Goes (place.Split (Unshare e))
split_outcome (Unshare e) z t v = Goes (place.Split (End e))
split_outcome (End e) z t v = Ends (split_answer e)

-- What its last step tells of a line that is starved, besides its answer.
abbrev pub split_exits : SplitEnd → List EventKind
split_exits Starved = exiting (Ends answer.Starved)
split_exits _ = []

abbrev pub split_tells : SplitPlace → List EventKind
split_tells (End e) = split_exits e
split_tells _ = []
