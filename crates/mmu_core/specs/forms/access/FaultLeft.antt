-- How many steps a fault has left at each place, where no other actor is in its way.
use Rattle.std.specs.Prelude.{◌+◌, ◌-◌, ◌*◌, ℕ, Bool, if◌then◌else◌}
use Rattle.core_views.specs.declared.place.CheckStage.{CheckStage}
use Rattle.core_views.specs.declared.place.CheckStage.TheVariants as stage
use Rattle.core_views.specs.declared.place.FaultEnd.{FaultEnd}
use Rattle.core_views.specs.declared.place.FaultEnd.TheVariants.{NotFast}
use Rattle.core_views.specs.declared.place.FaultNext.{FaultNext}
use Rattle.core_views.specs.declared.place.FaultNext.TheVariants.{Goes, Ends}
use Rattle.core_views.specs.declared.place.FaultPlace.{FaultPlace}
use Rattle.core_views.specs.declared.place.FaultPlace.TheVariants.{Begin, Snapshot, Find, Host, Bring, Share, Check, Walk, Claim, Fill}
use Rattle.core_views.specs.declared.place.FaultPlace.TheVariants.{Role, Link, Give, Leaf, Unshare, End, FastBegin, FastFind, FastWalk, Fix, Mark}
use Rattle.core_views.specs.declared.sizes.Sizes.{Sizes}
use Rattle.core_views.specs.declared.topics.SlotSearch.{SlotSearch}
use Rattle.core_views.specs.declared.topics.Topics.{Topics}
use Rattle.spte_words.specs.Areas.{words_of_bits}
use Rattle.part_steps.specs.PartTasks.{words_filled}
use Rattle.mmu_core.specs.orders.ClaimSteps.{Pages, claim_left}
use Rattle.mmu_core.specs.orders.ShareSteps.{share_left}
use Rattle.mmu_core.specs.forms.access.SearchLeft.{look_left}

-- the most steps from a table of the level on, whose entry comes next: for each table below it the entry, all words of the map and a
-- page seen there, the page's words and its role, and the link; and then an entry, the leaf, the mark, the lock and the section
abbrev pub table_left : Sizes → ℕ
table_left z = words_of_bits z.pool + 516

abbrev pub walk_left : Sizes → ℕ → ℕ
walk_left z level = (level - 1) * table_left z + 5

-- the most steps from the root's load on
abbrev pub entering_left : Sizes → ℕ
entering_left z = walk_left z 4 + 1

-- the words of the check, and the words of slots, from this one on
abbrev pub check_left : CheckStage → ℕ
check_left stage.Count = 4
check_left stage.Start = 3
check_left stage.End = 2
check_left stage.Seq = 1

abbrev pub find_left : Bool → SlotSearch → ℕ
find_left begun search = if begun then 4 * (31 - search.id) + look_left search.next else 129

-- The section ends, and after a fast fault that can't be made the whole one comes.
abbrev pub end_left : FaultEnd → Sizes → ℕ
end_left (NotFast word) z = entering_left z + 140
end_left _ z = 1

-- the most steps that a fault has left from a place on, where no other actor is in the way
abbrev pub fault_left : FaultPlace → Sizes → Topics → ℕ
fault_left Begin z t = entering_left z + 139
fault_left Snapshot z t = entering_left z + 138
fault_left (Find begun) z t = entering_left z + 8 + find_left begun t.search
fault_left Host z t = entering_left z + 8
fault_left Bring z t = entering_left z + 7
fault_left Share z t = entering_left z + 4 + share_left t.hold
fault_left (Check at) z t = entering_left z + check_left at
fault_left (Walk rooted) z t = if rooted then walk_left z t.walk.level else entering_left z
fault_left (Claim begun) z t = walk_left z (t.walk.level - 1) + 514 + claim_left Pages begun z t.claim
fault_left Fill z t = walk_left z (t.walk.level - 1) + 1 + (513 - words_filled t.owned)
fault_left Role z t = walk_left z (t.walk.level - 1) + 2
fault_left Link z t = walk_left z (t.walk.level - 1) + 1
fault_left (Give e) z t = 2 + end_left e z
fault_left (Leaf write) z t = 4
fault_left (Unshare e) z t = 1 + end_left e z
fault_left (End e) z t = end_left e z
fault_left FastBegin z t = entering_left z + 276
fault_left (FastFind begun) z t = entering_left z + 146 + find_left begun t.search
fault_left (FastWalk rooted) z t = entering_left z + 140 + (if rooted then t.walk.level else 5)
fault_left Fix z t = 4
fault_left (Mark fast) z t = 3

-- the most steps left after a step: none where the fault is over, but for a fast one that can't be made
abbrev pub next_left : FaultNext → Sizes → Topics → ℕ
next_left (Goes p) z t = fault_left p z t
next_left (Ends (NotFast word)) z t = fault_left Begin z t
next_left (Ends e) z t = 0
