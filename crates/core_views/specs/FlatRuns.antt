-- What the flat history has of a line that changes a host page, or sets a run of them.
use Rattle.std.specs.Prelude.{ℕ, zero, suc, ◌+◌, ◌==◌, Bool, true, false, List, [], ◌∷◌, Option, Some, None, if◌then◌else◌}
use Rattle.core_views.specs.declared.answer.Answer.TheVariants.{Done, Moved, Refused}
use Rattle.core_views.specs.declared.answer.Refusal.{Refusal}
use Rattle.core_views.specs.declared.answer.Refusal.TheVariants.{IsHuge, NoFrame}
use Rattle.core_views.specs.declared.sizes.Sizes.{Sizes}
use Rattle.core_views.specs.declared.trace.HostChange.{HostChange}
use Rattle.core_views.specs.declared.trace.HostChange.TheVariants.{Move, Evict, Protect, Allow}
use Rattle.core_views.specs.declared.event.Event.{Event}
use Rattle.core_views.specs.declared.event.EventKind.{EventKind}
use Rattle.core_views.specs.declared.event.EventKind.TheVariants.{Exited, HostChanged, LookedAtHost}
use Rattle.core_views.specs.declared.trace.Line.{Line}
use Rattle.core_views.specs.declared.trace.RunChange.{RunChange}
use Rattle.core_views.specs.declared.trace.RunChange.TheVariants.{Huge, Small}
use Rattle.core_views.specs.Events.{facts_after}
use Rattle.core_views.specs.Flat.{Facts}
use Rattle.core_views.specs.FlatMigrations.{answers, by}
use Rattle.core_views.specs.Host.{HostMap, is_huge}
use Rattle.core_views.specs.HostChanges.{lowest_free}
use Rattle.core_views.specs.HostRuns.{run_first, run_pages}

-- A move gives the page the lowest frame that no page names, and is refused where there is none.
abbrev pub moving : Line → ℕ → Facts → Option ℕ → List Event
moving line page f None = by line (Exited (Refused NoFrame)) ∷ answers line (Refused NoFrame)
moving line page f (Some frame) = by line (HostChanged page (record (f.host page) { frame = frame })) ∷ answers line (Moved frame)

-- A line that changes a host page makes this change, and is done.
abbrev pub changing_host : Sizes → Line → ℕ → HostChange → Facts → List Event
changing_host z line page Move f = moving line page f (lowest_free z f.host)
changing_host z line page Evict f = by line (HostChanged page (record (f.host page) { present = false })) ∷ answers line Done
changing_host z line page Protect f = by line (HostChanged page (record (f.host page) { writable = false })) ∷ answers line Done
changing_host z line page Allow f = by line (HostChanged page (record (f.host page) { writable = true })) ∷ answers line Done

-- But a page that the host maps with others, as one large page, stays as it is.
abbrev pub unless_huge : Line → Bool → List Event → List Event
unless_huge line true rest = by line (Exited (Refused IsHuge)) ∷ answers line (Refused IsHuge)
unless_huge line false rest = rest

-- A line that is to make a run large looks at so many pages, from this one on, up to the first that is part of a large one.
abbrev pub looking_on : Line → HostMap → ℕ → ℕ → List Event
looking_on line host page zero = []
looking_on line host page (suc n) = by line (LookedAtHost page) ∷ (if is_huge (host page) then [] else looking_on line host (page + 1) n)

-- One that makes the pages of a run small looks at its own page, and then at the others of so many, from this one on.
abbrev pub looking_around : Line → ℕ → ℕ → ℕ → List Event
looking_around line page other zero = []
looking_around line page other (suc n) =
    if page == other then looking_around line page (other + 1) n else by line (LookedAtHost other) ∷ looking_around line page (other + 1) n

abbrev pub looking_at_run : Line → ℕ → RunChange → HostMap → List Event
looking_at_run line page (Huge level) host = looking_on line host page (run_pages level)
looking_at_run line page Small host =
    by line (LookedAtHost page) ∷ looking_around line page (run_first Small page (host page)) (run_pages (host page).level)

-- It sets so many pages, from this one on, to this level, and is done.
abbrev pub setting_kind : ℕ → ℕ → Facts → EventKind
setting_kind page level f = HostChanged page (record (f.host page) { level = level })

abbrev pub setting_run : Line → ℕ → ℕ → ℕ → Facts → List Event
setting_run line page zero level f = answers line Done
setting_run line page (suc n) level f = by line (setting_kind page level f) ∷ setting_run line (page + 1) n level (facts_after (setting_kind page level f) f)

-- It is refused, or goes on.
abbrev pub unless_refused : Line → Option Refusal → List Event → List Event
unless_refused line None rest = rest
unless_refused line (Some refusal) rest = by line (Exited (Refused refusal)) ∷ answers line (Refused refusal)
