-- The order of steps of a fault (tdp_mmu.c, kvm_tdp_mmu_map; locking.rst): in a section the snapshot, the slot of the guest frame and the
-- host word of its page, which it brings in where it isn't present; then, sharing the lock, the check of the snapshot, and from the root down
-- each level's entry. A link leads down. At the greatest level at which host and slot allow a leaf over the guest frame, or below it where tables are in the
-- way, the leaf is put (mmu.rst, "Large pages"). Above it an absent entry gets a table of its own, and a leaf that forbids the access a table of its children.
-- Where a leaf stands that forbids the write, a fast fault comes first (locking.rst, "Fast page fault"): in a section, without the lock, it finds the slot and
-- the leaf, and allows the write in this very word. Who has allowed writes in a slot with a dirty log marks the page after it, in the same section.
use Rattle.std.specs.Prelude.{◌+◌, ◌-◌, ℕ, Bool, true, false, ◌==◌, ◌&&◌, ◌||◌, nat_lt, not, if◌then◌else◌, Option}
use Rattle.core_views.specs.declared.place.Cause.TheVariants.{Entry}
use Rattle.core_views.specs.declared.place.CheckStage.TheVariants as stage
use Rattle.core_views.specs.declared.place.FaultEnd.{FaultEnd}
use Rattle.core_views.specs.declared.place.FaultEnd.TheVariants.{Installed, Mmio, HostFault, Starved, Retry}
use Rattle.core_views.specs.declared.place.FaultNext.{FaultNext}
use Rattle.core_views.specs.declared.place.FaultNext.TheVariants.{Goes, Ends}
use Rattle.core_views.specs.declared.place.FaultPlace.{FaultPlace}
use Rattle.core_views.specs.declared.place.FaultPlace.TheVariants.{Begin, Snapshot, Find, Host, Bring, Share, Check, Walk, Claim, Fill}
use Rattle.core_views.specs.declared.place.FaultPlace.TheVariants.{Role, Link, Give, Leaf, Unshare, End, FastBegin, FastFind, FastWalk, Fix, Mark}
use Rattle.core_views.specs.declared.place.SlotField.{SlotField}
use Rattle.core_views.specs.declared.sizes.Sizes.{Sizes}
use Rattle.core_views.specs.declared.topics.HostLook.{HostLook}
use Rattle.core_views.specs.declared.topics.SlotSearch.{SlotSearch}
use Rattle.core_views.specs.declared.topics.TableWalk.{TableWalk}
use Rattle.core_views.specs.declared.topics.Topics.{Topics}
use Rattle.spte_words.specs.declared.area.Area.TheVariants as area
use Rattle.spte_words.specs.declared.spte_kind.SpteKind.{SpteKind}
use Rattle.spte_words.specs.declared.spte_kind.SpteKind.TheVariants as entry_kind
use Rattle.spte_words.specs.Areas.{place, pool_index}
use Rattle.spte_words.specs.Entries.{can_write, kind_of, word_below}
use Rattle.spte_words.specs.HostWords.{host_allows_write, host_present}
use Rattle.part_steps.specs.declared.part_step.PartStep.{PartStep}
use Rattle.part_steps.specs.declared.part_step.PartStep.TheVariants as part
use Rattle.part_steps.specs.PartTasks.{entry_index, page_looked, table_page, word_looked, words_filled}
use Rattle.part_steps.specs.RunHoldings.{maps_run}
use Rattle.mmu_core.specs.declared.claim.ClaimNext.{ClaimNext}
use Rattle.mmu_core.specs.declared.claim.ClaimNext.TheVariants as claims
use Rattle.mmu_core.specs.declared.share.ShareNext.{ShareNext}
use Rattle.mmu_core.specs.declared.share.ShareNext.TheVariants as shares
use Rattle.part_steps.specs.SlotWords.{page_of}
use Rattle.part_steps.specs.Tasks.{map_of}
use Rattle.part_steps.specs.PageTopics.{searched}
pub use Rattle.mmu_core.specs.forms.access.CheckSteps.{check_next, check_part, snapshot_taken}
pub use Rattle.mmu_core.specs.forms.access.FastSteps.{fast_find_next, fast_walk_next, is_fast, is_last_word, over_next, put_next, search_next}
pub use Rattle.mmu_core.specs.orders.ClaimSteps.{Pages, claim_left, claim_next, claim_part, map_word, tries_one}
pub use Rattle.mmu_core.specs.lines.PartWaits.{is_owing}
pub use Rattle.mmu_core.specs.orders.ShareSteps.{share_left, share_next, share_part}

-- the step of each place; a table's page is filled with 512 absent entries, or the children of the leaf that it takes the place of, and its role is one level
-- below the walk's table
abbrev pub fault_part : FaultPlace → ℕ → Topics → PartStep
fault_part Begin gfn t = part.Begin
fault_part Snapshot gfn t = part.Seq
fault_part (Find begun) gfn t = if begun then part.Slot else part.Slots
fault_part Host gfn t = part.Host (page_of t.search.slot gfn)
fault_part Bring gfn t = part.Bring
fault_part Share gfn t = share_part t.hold
fault_part (Check at) gfn t = check_part at
fault_part (Walk rooted) gfn t = if rooted then part.Walk gfn else part.Root
fault_part (Claim begun) gfn t = claim_part Pages begun t.claim
fault_part Fill gfn t = part.Fill (word_below t.walk.level t.walk.entry (words_filled t.owned))
fault_part Role gfn t = part.Role (t.walk.level - 1)
fault_part Link gfn t = part.Link gfn
fault_part (Give e) gfn t = part.Give
fault_part (Leaf write) gfn t = part.Leaf gfn write
fault_part (Unshare e) gfn t = part.Unshare
fault_part (End e) gfn t = part.End
fault_part FastBegin gfn t = part.Begin
fault_part (FastFind begun) gfn t = if begun then part.Slot else part.Slots
fault_part (FastWalk rooted) gfn t = if rooted then part.Walk gfn else part.Root
fault_part Fix gfn t = part.Fix gfn
fault_part (Mark fast) gfn t = part.Mark

abbrev pub found_next : Bool → SlotSearch → FaultPlace
found_next write found = if write && found.slot.read_only then End Mmio else Host

abbrev pub find_next : ℕ → Bool → SlotField → SlotSearch → FaultPlace
find_next gfn write loaded found = search_next (found_next write found) (End Mmio) (Find true) gfn loaded found

-- after the host word of the page: the host forbids the write, the page is there, or is to be brought in
abbrev pub page_next : Bool → ℕ → FaultPlace
page_next write v = if write && not (host_allows_write v) then End HostFault else if host_present v then Share else Bring

-- where the host word that was looked up stands among all words
abbrev pub host_word_at : Sizes → Option HostLook → ℕ
host_word_at z host = place (map_of z) area.Host (page_looked host)

-- after a step of sharing the lock: the check begins once it is shared
abbrev pub after_share : ShareNext → FaultPlace
after_share shares.Tries = Share
after_share shares.Shares = Check stage.Count

-- where the guest frame's entry of the walk's table stands among all words
abbrev pub entry_word : Sizes → ℕ → TableWalk → ℕ
entry_word z gfn walk = place (map_of z) area.Pool (pool_index (table_page walk) (entry_index gfn walk.level))

-- The entry allows the access.
abbrev pub allows_access : Bool → ℕ → Bool
allows_access write w = not write || can_write w

-- at an entry in which nothing is mapped, or a leaf that forbids the access: a leaf of this level is put, or a table is to be linked
abbrev pub end_next : ℕ → Bool → Topics → FaultPlace
end_next gfn write t = if maps_run t.walk.level gfn t then Leaf write else Claim false

-- after an entry v of the walk's table
abbrev pub walk_next : SpteKind → Sizes → ℕ → Bool → Topics → ℕ → FaultPlace
walk_next (entry_kind.Table page) z gfn write t v = Walk true
walk_next entry_kind.Leaf z gfn write t v = if allows_access write v then Unshare Installed else end_next gfn write t
walk_next entry_kind.Absent z gfn write t v = end_next gfn write t
walk_next entry_kind.Frozen z gfn write t v = Unshare (Retry false (Entry (entry_word z gfn t.walk) v v))

-- after its exchange that is lost, which found v
abbrev pub exchange_lost : Bool → Sizes → ℕ → TableWalk → ℕ → FaultEnd
exchange_lost fast z gfn walk v = Retry fast (Entry (entry_word z gfn walk) walk.entry v)

-- after a step of its claim: the page is to be filled, or no page is free
abbrev pub after_claim : ClaimNext → FaultPlace
after_claim claims.Goes = Claim true
after_claim claims.Got = Fill
after_claim claims.Empty = Unshare Starved

-- where the fault stands after the step of its place, which found v
abbrev pub fault_next : FaultPlace → Sizes → ℕ → Bool → Topics → ℕ → FaultNext
fault_next Begin z gfn write t v = Goes Snapshot
fault_next Snapshot z gfn write t v = Goes (Find false)
fault_next (Find begun) z gfn write t v = Goes (if begun then find_next gfn write t.search.next (searched t.search v) else Find true)
fault_next Host z gfn write t v = Goes (page_next write v)
fault_next Bring z gfn write t v = Goes (if v == word_looked t.host then Share else End (Retry false (Entry (host_word_at z t.host) (word_looked t.host) v)))
fault_next Share z gfn write t v = Goes (after_share (share_next t.hold v))
fault_next (Check at) z gfn write t v = Goes (check_next at gfn t v)
fault_next (Walk rooted) z gfn write t v = Goes (if rooted then walk_next (kind_of t.walk.level v) z gfn write t v else Walk true)
fault_next (Claim begun) z gfn write t v = Goes (after_claim (claim_next Pages begun z t.claim v))
fault_next Fill z gfn write t v = Goes (if nat_lt (words_filled t.owned + 1) 512 then Fill else Role)
fault_next Role z gfn write t v = Goes Link
fault_next Link z gfn write t v = Goes (if v == t.walk.entry then Walk true else Give (exchange_lost false z gfn t.walk v))
fault_next (Give e) z gfn write t v = Goes (Unshare e)
fault_next (Leaf writes) z gfn write t v =
    Goes (if v == t.walk.entry then put_next false (writes && t.search.logged) else Unshare (exchange_lost false z gfn t.walk v))
fault_next (Unshare e) z gfn write t v = Goes (End e)
fault_next (End e) z gfn write t v = Ends e
fault_next FastBegin z gfn write t v = Goes (FastFind false)
fault_next (FastFind begun) z gfn write t v = Goes (if begun then fast_find_next gfn t.search.next (searched t.search v) else FastFind true)
fault_next (FastWalk rooted) z gfn write t v = Goes (if rooted then fast_walk_next (kind_of t.walk.level v) t.walk.level t.search.logged v else FastWalk true)
fault_next Fix z gfn write t v = Goes (if v == t.walk.entry then put_next true t.search.logged else End (exchange_lost true z gfn t.walk v))
fault_next (Mark fast) z gfn write t v = Goes (over_next fast true)
