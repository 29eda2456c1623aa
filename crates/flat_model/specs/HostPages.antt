-- What the host maps its pages to, as the interpreter keeps it, and what changes it.
use Rattle.std.specs.Prelude.{◌≡◌, ◌<◌, ◌≤◌, ◌==◌, ◌+◌, ◌^◌, ℕ, zero, suc, Bool, List, true, false, not, Option, Some, None, unwrap_or}
use Rattle.std.specs.Map.{lookup}
use Rattle.std.specs.Option.{option_map}
use Rattle.core_views.specs.declared.answer.Answer.{Answer}
use Rattle.core_views.specs.declared.answer.Answer.TheVariants.{Done, Refused}
use Rattle.core_views.specs.declared.answer.Refusal.{Refusal}
use Rattle.core_views.specs.declared.answer.Refusal.TheVariants.{IsHuge, NoFrame}
use Rattle.core_views.specs.declared.host.HostEntry.{HostEntry}
use Rattle.core_views.specs.declared.sizes.Sizes.{Sizes}
use Rattle.core_views.specs.declared.trace.Command.TheVariants.{ChangeHost}
use Rattle.core_views.specs.declared.trace.HostChange.{HostChange}
use Rattle.core_views.specs.declared.trace.HostChange.TheVariants.{Move, Evict, Protect, Allow}
use Rattle.core_views.specs.declared.trace.RunChange.{RunChange}
use Rattle.core_views.specs.declared.trace.RunChange.TheVariants.{Huge, Small}
use Rattle.core_views.specs.Host.{HostMap, mapping, own_frames}
use Rattle.core_views.specs.HostChanges.{host_answer, is_taken, lowest_free}
use Rattle.core_views.specs.HostRuns.{level_set, run_count, run_first, run_pages, run_refusal}
use Rattle.flat_model.specs.Frames.{Frames, is_spare}

-- the entries of the pages that a line has changed
abbrev pub Changed : Type 0
Changed = List (ℕ × HostEntry)

-- the machine's sizes, and those entries
pub record HostKept : Type 0 where
  pub sizes : Sizes
  pub changed : Changed

-- A page that no line has changed is mapped as at the start.
abbrev pub host_of : Changed → HostMap
host_of changed page = unwrap_or (lookup (λ other. page == other) changed) (own_frames page)

-- Those frames are free that none of the machine's pages names, and no two of its pages name one.
pub record AreFree (pages : ℕ) (host : HostMap) (frames : Frames) : Type 0 where
  pub free : (frame : ℕ) → is_spare frames frame ≡ not (is_taken pages host frame)
  pub apart : (page other : ℕ) → page < pages → other < pages → (host page).frame ≡ (host other).frame → page ≡ other

-- The page has this entry then, and each other page the one that it had.
abbrev pub Maps : ℕ → HostEntry → Changed → Changed → Type 0
Maps page entry before after = (other : ℕ) → host_of after other ≡ mapping page entry (host_of before) other

-- the entry that the change gives the page: none where a move finds no frame
abbrev pub entry_after : Sizes → HostMap → ℕ → HostChange → Option HostEntry
entry_after z host page Move = option_map (λ frame. record (host page) { frame = frame }) (lowest_free z host)
entry_after z host page Evict = Some (record (host page) { present = false })
entry_after z host page Protect = Some (record (host page) { writable = false })
entry_after z host page Allow = Some (record (host page) { writable = true })

-- The page gets this entry, and the change is answered so; without one it is refused, and changes nothing.
abbrev pub ChangesTo : ℕ → HostChange → Changed → Changed → Answer → Option HostEntry → Type 0
ChangesTo page change before after answer None = (answer ≡ Refused NoFrame) × (after ≡ before)
ChangesTo page change before after answer (Some entry) = (answer ≡ host_answer (ChangeHost page change) entry) × Maps page entry before after

-- On a machine of these sizes the change of the page leads from these entries to those, and is answered so.
abbrev pub ChangesEntries : Sizes → ℕ → HostChange → Changed → Changed → Answer → Type 0
ChangesEntries z page change before after answer = ChangesTo page change before after answer (entry_after z (host_of before) page change)

-- But a page that the host maps with others, as one large page, stays as it is, and the change is refused.
abbrev pub ChangesUnlessHuge : Sizes → ℕ → HostChange → Changed → Changed → Answer → Bool → Type 0
ChangesUnlessHuge z page change before after answer true = (answer ≡ Refused IsHuge) × (after ≡ before)
ChangesUnlessHuge z page change before after answer false = ChangesEntries z page change before after answer

-- the entry, at this level
abbrev pub at_level : ℕ → HostEntry → HostEntry
at_level level entry = record entry { level = level }

-- the map in which so many pages, from this one on, are at this level, and all else is as before
abbrev pub with_levels : ℕ → ℕ → ℕ → HostMap → HostMap
with_levels page zero level host = host
with_levels page (suc n) level host = with_levels (page + 1) n level (mapping page (at_level level (host page)) host)

-- The pages that a line is to make one large page have numbers of 64 bits.
abbrev pub IsInReach : ℕ → RunChange → Type 0
IsInReach page (Huge level) = page + run_pages level ≤ 2 ^ 64
IsInReach page Small = Unit {0}

-- A run that is refused stays as it is. The pages of any other, so many from the first one on, are at this level then, and the change is done.
abbrev pub SetsUnless : ℕ → ℕ → ℕ → Changed → Changed → Answer → Option Refusal → Type 0
SetsUnless first count level before after answer (Some refusal) = (answer ≡ Refused refusal) × (after ≡ before)
SetsUnless first count level before after answer None = (answer ≡ Done) × (host_of after ≡ with_levels first count level (host_of before))

-- The change of the run leads from these entries to those, and is answered so.
abbrev pub SetsRun : ℕ → RunChange → Changed → Changed → Answer → Type 0
SetsRun page change before after answer =
    SetsUnless (run_first change page (host_of before page)) (run_count change (host_of before page)) (level_set change) before after answer
    (run_refusal (host_of before) page change)
