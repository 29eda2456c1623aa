-- Runs of host pages that the host maps as one large page (mmu.rst, "Large pages"): which pages a line sets, and why it may not.
use Rattle.std.specs.Prelude.{◌≤◌, ◌<◌, ◌+◌, ◌-◌, ◌*◌, ◌/◌, ◌%◌, ◌==◌, ◌&&◌, ◌||◌, ℕ, zero, suc, Bool, true, false, not, if◌then◌else◌, [], ◌∷◌, Option, None}
use Rattle.core_views.specs.declared.actor.Actor.{Actor}
use Rattle.core_views.specs.declared.answer.Refusal.{Refusal}
use Rattle.core_views.specs.declared.answer.Refusal.TheVariants.{IsHuge, NotAligned, OutOfRange}
use Rattle.core_views.specs.declared.host.HostEntry.{HostEntry}
use Rattle.core_views.specs.declared.sizes.Sizes.{Sizes}
use Rattle.core_views.specs.declared.trace.Command.{Command}
use Rattle.core_views.specs.declared.trace.Command.TheVariants.{ChangeHost, ChangeRun}
use Rattle.core_views.specs.declared.trace.RunChange.{RunChange}
use Rattle.core_views.specs.declared.trace.RunChange.TheVariants.{Huge, Small}
use Rattle.core_views.specs.Host.{HostMap, is_huge}
use Rattle.core_views.specs.HostChanges.{is_own}
use Rattle.core_views.specs.Slots.{first_of}

-- how many pages the run of a level has: a small page is one by itself
abbrev pub run_pages : ℕ → ℕ
run_pages level = if level == 3 then 262144 else if level == 2 then 512 else 1

-- The page is one of so many from the first on.
abbrev pub IsAmong : ℕ → ℕ → ℕ → Type 0
IsAmong first count page = (first ≤ page) × (page < first + count)

-- the first page that a line sets, how many it sets, and to which level, where the host maps its own page so
abbrev pub run_first : RunChange → ℕ → HostEntry → ℕ
run_first (Huge level) page entry = page
run_first Small page entry = page / run_pages entry.level * run_pages entry.level

abbrev pub run_count : RunChange → HostEntry → ℕ
run_count (Huge level) entry = run_pages level
run_count Small entry = run_pages entry.level

abbrev pub level_set : RunChange → ℕ
level_set (Huge level) = level
level_set Small = 1

-- The command is one that sets a run.
abbrev pub sets_run : Command → Bool
sets_run (ChangeRun page change) = true
sets_run _ = false

-- The command is one of a host thread: it changes a host page, or sets a run of them.
abbrev pub is_of_host : Command → Bool
is_of_host (ChangeHost page change) = true
is_of_host (ChangeRun page change) = true
is_of_host _ = false

-- One of so many pages, from this one on, is part of a large one.
abbrev pub is_any_huge : HostMap → ℕ → ℕ → Bool
is_any_huge host page zero = false
is_any_huge host page (suc n) = is_huge (host page) || is_any_huge host (page + 1) n

-- The entry is that of a present page at this frame, and allows writes or doesn't, as here.
abbrev pub continues : ℕ → Bool → HostEntry → Bool
continues frame writable entry = entry.present && ((entry.frame == frame) && (if writable then entry.writable else not entry.writable))

-- So many pages, from this one on, are present, at frames from this one on, and alike in what they allow.
abbrev pub are_in_a_row : HostMap → ℕ → Bool → ℕ → ℕ → Bool
are_in_a_row host frame writable page zero = true
are_in_a_row host frame writable page (suc n) = continues frame writable (host page) && are_in_a_row host (frame + 1) writable (page + 1) n

-- The page and its frame are the first of a run of this level each, and the pages of the run can be mapped as one.
abbrev pub is_aligned : HostMap → ℕ → ℕ → Bool
is_aligned host page level =
    (page % run_pages level == 0)
    && (((host page).frame % run_pages level == 0) && are_in_a_row host (host page).frame (host page).writable page (run_pages level))

-- why the run isn't set, where the host maps its pages so
abbrev pub run_refusal : HostMap → ℕ → RunChange → Option Refusal
run_refusal host page (Huge level) = first_of ((is_any_huge host page (run_pages level), IsHuge) ∷ (not (is_aligned host page level), NotAligned) ∷ [])
run_refusal host page Small = None

-- The pages that a line names are the actor's own: those of a run, or one.
abbrev pub owns_run : Sizes → Actor → ℕ → RunChange → Bool
owns_run z actor page (Huge level) = is_own z actor page && is_own z actor (page + (run_pages level - 1))
owns_run z actor page Small = is_own z actor page

-- why the actor may not set the run, whatever the host maps its pages to
abbrev pub run_at_once : Sizes → Actor → ℕ → RunChange → Option Refusal
run_at_once z actor page change = first_of ((not (owns_run z actor page change), OutOfRange) ∷ [])
