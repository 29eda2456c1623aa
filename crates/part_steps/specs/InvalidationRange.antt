-- What a line invalidates, and the range of open invalidations as an actor stores it that opens one (kvm_main.c, kvm_mmu_invalidate_range_add).
use Rattle.std.specs.Prelude.{◌≡◌, ◌≤◌, ◌^◌, ◌+◌, ◌-◌, ℕ, Bool, true, ◌==◌, ◌&&◌, ◌||◌, nat_le, nat_lt, not, if◌then◌else◌, Option, Some, None, is_some}
use Rattle.std.specs.Option.{option_map}
use Rattle.core_views.specs.declared.topics.HostLook.{HostLook}
use Rattle.core_views.specs.declared.topics.HostRow.{HostRow}
use Rattle.core_views.specs.declared.topics.Invalidated.{Invalidated}
use Rattle.core_views.specs.declared.topics.Invalidations.{Invalidations}
use Rattle.core_views.specs.declared.topics.PageRun.{PageRun}
use Rattle.core_views.specs.declared.topics.SlotSearch.{SlotSearch}
use Rattle.core_views.specs.declared.topics.Topics.{Topics}
use Rattle.core_views.specs.declared.trace.Slot.{Slot}
use Rattle.core_views.specs.Slots.{has_host_page}
use Rattle.part_steps.specs.declared.invalidations.Target.{Target}
use Rattle.part_steps.specs.declared.invalidations.Target.TheVariants as aim
pub use Rattle.part_steps.specs.PageRuns.{IsOnRun, greater, is_several, is_single, lesser, run_looked, run_of}
use Rattle.part_steps.specs.StayTopics.{is_alone}

-- the host page that was looked at last
abbrev pub page_looked : Option HostLook → ℕ
page_looked None = 0
page_looked (Some look) = look.page

-- the run of its page, by what was seen of the pages in a row with it
abbrev pub run_of_look : Option HostLook → HostRow → Option PageRun
run_of_look host row = option_map (λ (look : HostLook). run_looked look row) host

-- The search has found the slot with the host page.
abbrev pub has_found : ℕ → SlotSearch → Bool
has_found page search = search.whole && has_host_page page search.slot

-- The host pages that an actor may change: those of the run that it looked at. Who owns a page of the pool is to publish it, and changes no host page.
abbrev pub run_aimed : Topics → Option PageRun
run_aimed t = if is_some t.owned then None else run_of_look t.host t.row

-- The search has found the slot with the one host page that was looked at, and that the actor may change.
abbrev pub has_found_looked : Topics → Bool
has_found_looked t = is_single (run_aimed t) && has_found (page_looked t.host) t.search

-- the run whose guest frames the search collects, under the lock alone
abbrev pub run_searched : Topics → Option PageRun
run_searched t = if is_alone t.hold then run_aimed t else None

-- the guest frame that this slot gives to the page
abbrev pub gfn_behind : ℕ → Slot → ℕ
gfn_behind page slot = slot.base + (page - slot.host)

-- ---- what a line invalidates: the frames of a host page, or of a run of several, or those of a slot

-- the host pages that are to change, if there are some
abbrev pub run_of_target : Target → Option PageRun
run_of_target (aim.Page page) = Some (run_of page)
run_of_target (aim.Run run) = Some run
run_of_target (aim.Slot slot) = None

-- A target that is a run has several pages.
abbrev pub HasSeveral : Target → Type 0
HasSeveral (aim.Run run) = 2 ≤ run.level
HasSeveral _ = Unit {0}

-- The target is the host page, or the run of several, that the actor may change; or a slot, where it may change none.
abbrev pub IsAimed : Target → Topics → Type 0
IsAimed target t = (run_aimed t ≡ run_of_target target) × HasSeveral target

-- The target's guest frames lie below 2 ^ 36.
abbrev pub IsSmall : Target → Type 0
IsSmall (aim.Slot slot) = slot.base + slot.pages ≤ 2 ^ 36
IsSmall _ = Unit {0}

-- What was loaded whole of a slot set has its guest frames below 2 ^ 36.
abbrev pub HasSmallSlot : SlotSearch → Type 0
HasSmallSlot search = search.whole ≡ true → search.slot.base + search.slot.pages ≤ 2 ^ 36

-- The search for the target has come to its end: with the one slot that it is after, or after all slots, which it goes through for several host pages.
abbrev pub has_searched : Target → SlotSearch → Bool
has_searched (aim.Page page) search = has_found page search || (search.id == 32)
has_searched (aim.Run run) search = search.id == 32
has_searched (aim.Slot slot) search = ((slot.pages == 1) && has_found slot.host search) || (search.id == 32)

-- the target's guest frames, by the search of the slots and what it has collected: the first one, and the one after the last; both are 0 where no slot has
-- one of its pages
abbrev pub target_start : Target → SlotSearch → HostRow → ℕ
target_start (aim.Page page) search row = if has_found page search then gfn_behind page search.slot else 0
target_start (aim.Run run) search row = row.start
target_start (aim.Slot slot) search row = slot.base

abbrev pub target_end : Target → SlotSearch → HostRow → ℕ
target_end (aim.Page page) search row = if has_found page search then gfn_behind page search.slot + 1 else 0
target_end (aim.Run run) search row = row.end
target_end (aim.Slot slot) search row = slot.base + slot.pages

-- what an invalidation of the target is of
abbrev pub invalidated_by : Target → SlotSearch → HostRow → Invalidated
invalidated_by target search row = record { pages = run_of_target target; start = target_start target search row; end = target_end target search row }

-- ---- the range of the open ones

-- The range of the open invalidations, with one more over the guest frames from `first` up to, and not with, `end_`. Where there are none of these it stays as
-- it is, and is empty where none is open.
abbrev pub start_with : ℕ → ℕ → Invalidations → ℕ
start_with first end_ n =
    if nat_lt first end_ then (if n.count == 0 then first else lesser n.start first) else
    if n.count == 0 then 0 else
    n.start

abbrev pub end_with : ℕ → ℕ → Invalidations → ℕ
end_with first end_ n =
    if nat_lt first end_ then (if n.count == 0 then end_ else greater n.end end_) else
    if n.count == 0 then 0 else
    n.end

-- the same, with the target's
abbrev pub range_start : Target → Topics → ℕ
range_start target t = start_with (target_start target t.search t.row) (target_end target t.search t.row) t.invalidations

abbrev pub range_end : Target → Topics → ℕ
range_end target t = end_with (target_start target t.search t.row) (target_end target t.search t.row) t.invalidations

-- The guest frames that it is of lie in the range that was loaded or stored last.
abbrev pub is_within_range : Invalidated → Invalidations → Bool
is_within_range own n = not (nat_lt own.start own.end) || (nat_le n.start own.start && nat_le own.end n.end)
