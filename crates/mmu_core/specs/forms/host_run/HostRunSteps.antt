-- The order of steps of a line that maps a run of host pages as one large page, or the pages of one by themselves (mmu.rst, "Large pages"; api.rst,
-- KVM_CAP_SYNC_MMU): it looks at each page of the run, and is refused where the run isn't the actor's own, or can't be mapped as one; within an invalidation of
-- the guest frames that slots give to the pages it changes each of them, in their order.
use Rattle.std.specs.Prelude.{◌+◌, ◌-◌, ℕ, Bool, true, false, List, [], ◌∷◌, Option, Some, None, ◌==◌, ◌&&◌, nat_lt, if◌then◌else◌}
use Rattle.core_views.specs.declared.answer.Answer.TheVariants.{Done, Refused}
use Rattle.core_views.specs.declared.answer.Refusal.TheVariants.{IsHuge, NotAligned, OutOfRange}
use Rattle.core_views.specs.declared.event.EventKind.{EventKind}
use Rattle.core_views.specs.declared.event.EventKind.TheVariants.{HostChanged, LookedAtHost}
use Rattle.core_views.specs.declared.place.BeginPlace.TheVariants as begins
use Rattle.core_views.specs.declared.place.EndPlace.TheVariants as ends
use Rattle.core_views.specs.declared.place.HostRunPlace.{HostRunPlace}
use Rattle.core_views.specs.declared.place.HostRunPlace.TheVariants.{Look, LookOn, Begin, Change, End}
use Rattle.core_views.specs.declared.place.Place.TheVariants.{HostRun}
use Rattle.core_views.specs.declared.topics.HostLook.{HostLook}
use Rattle.core_views.specs.declared.topics.HostRow.{HostRow}
use Rattle.core_views.specs.declared.topics.PageRun.{PageRun}
use Rattle.core_views.specs.declared.topics.Topics.{Topics}
use Rattle.core_views.specs.declared.trace.RunChange.{RunChange}
use Rattle.core_views.specs.declared.trace.RunChange.TheVariants.{Huge, Small}
use Rattle.core_views.specs.Held.{Held}
use Rattle.core_views.specs.HostRuns.{owns_run, run_count, run_first}
use Rattle.spte_words.specs.Entries.{level_span}
use Rattle.spte_words.specs.HostWords.{host_allows_write, with_writes}
use Rattle.part_steps.specs.declared.invalidations.Target.{Target}
use Rattle.part_steps.specs.declared.invalidations.Target.TheVariants as aim
use Rattle.part_steps.specs.declared.part_step.PartStep.{PartStep}
use Rattle.part_steps.specs.declared.part_step.PartStep.TheVariants as part
use Rattle.part_steps.specs.PageRuns.{makes_run, is_several, level_looked, looked_on, one_look, page_next, run_looked, word_given}
use Rattle.part_steps.specs.PartTasks.{word_looked, word_next}
use Rattle.mmu_core.specs.declared.invalidate.BeginNext.{BeginNext}
use Rattle.mmu_core.specs.declared.invalidate.BeginNext.TheVariants as begins_next
use Rattle.mmu_core.specs.declared.invalidate.EndNext.{EndNext}
use Rattle.mmu_core.specs.declared.invalidate.EndNext.TheVariants as ends_next
use Rattle.mmu_core.specs.declared.outcome.Outcome.{Outcome}
use Rattle.mmu_core.specs.declared.outcome.Outcome.TheVariants.{Goes, Ends}
use Rattle.mmu_core.specs.forms.access.AccessSteps.{exiting}
use Rattle.mmu_core.specs.forms.host.HostSteps.{entry_of, maps_large}
use Rattle.mmu_core.specs.orders.InvalidateSteps.{begin_next, begin_part, end_next, end_part}

-- ---- the looks

-- the page that is looked at next, where so many were, from the line's own page on: the others of the run come in their order
abbrev pub other_page : ℕ → ℕ → ℕ → ℕ
other_page first page looked = if nat_lt (first + (looked - 1)) page then first + (looked - 1) else first + looked

abbrev pub page_after : ℕ → RunChange → Topics → ℕ
page_after page change t = other_page (run_first change page (entry_of (word_looked t.host))) page t.row.looked

-- A run is made large of small pages alone.
abbrev pub wants_small : RunChange → Bool
wants_small (Huge level) = true
wants_small Small = false

-- Its pages may be mapped so, by what was seen of them.
abbrev pub fits : RunChange → HostLook → HostRow → Bool
fits (Huge level) look row = makes_run level look row
fits Small look row = true

-- after a look that found v, where the line's own page was seen so, and so much of the run
abbrev pub after_run_look : RunChange → HostLook → HostRow → ℕ → Outcome
after_run_look change look row v =
    if wants_small change && maps_large v then Ends (Refused IsHuge) else
    if nat_lt row.looked (run_count change (entry_of look.word)) then Goes (HostRun LookOn) else
    if fits change look row then Goes (HostRun (Begin begins.Exclude)) else
    Ends (Refused NotAligned)

-- the same, of the hand before the look
abbrev pub after_next_look : RunChange → Option HostLook → HostRow → ℕ → ℕ → Outcome
after_next_look change None row page v = Ends (Refused OutOfRange)
after_next_look change (Some look) row page v = after_run_look change look (looked_on (Some look) row page v) v

-- ---- the invalidation, and the changes

-- what the invalidation is of: the page that was looked at, or the run of several
abbrev pub target_looked : ℕ → Option HostLook → HostRow → Target
target_looked page None row = aim.Page page
target_looked page (Some look) row = if nat_lt 1 (level_looked look row) then aim.Run (run_looked look row) else aim.Page page

abbrev pub run_target : ℕ → Topics → Target
run_target page t = target_looked page t.host t.row

-- the word that a small page has once it is mapped by itself: it stays as it is
abbrev pub as_it_is : ℕ → ℕ
as_it_is word = with_writes (host_allows_write word) word

-- after the change of a page of a run: the next one's, or the end
abbrev pub after_page : Option PageRun → HostRunPlace
after_page None = End ends.Exclude
after_page (Some run) = if nat_lt (run.changed + 1) (level_span run.level) then Change else End ends.Exclude

abbrev pub after_run_change : Topics → ℕ → HostRunPlace
after_run_change t v =
    if is_several t.invalidations.own.pages then (if v == word_next t.invalidations.own.pages then after_page t.invalidations.own.pages else Change) else
    if v == word_looked t.host then End ends.Exclude else
    Change

-- after a step of the invalidation's begin, and of its end
abbrev pub after_run_begin : BeginNext → HostRunPlace
after_run_begin (begins_next.Goes p) = Begin p
after_run_begin begins_next.Begun = Change

abbrev pub after_run_end : EndNext → Outcome
after_run_end (ends_next.Goes p) = Goes (HostRun (End p))
after_run_end ends_next.Ended = Ends Done

-- ---- the order

-- the step of each place
abbrev pub host_run_part : HostRunPlace → ℕ → RunChange → Held → PartStep
host_run_part Look page change h = if owns_run h.state.sizes h.state.actor page change then part.Host page else part.Seq
host_run_part LookOn page change h = part.HostOn (page_after page change h.topics)
host_run_part (Begin p) page change h = begin_part p (run_target page h.topics) h.topics
host_run_part Change page change h =
    if is_several h.topics.invalidations.own.pages then part.ChangeNext else part.Change (as_it_is (word_looked h.topics.host))
host_run_part (End p) page change h = end_part p h.topics

-- 1 where the line may end with the step
abbrev pub host_run_note : HostRunPlace → RunChange → ℕ
host_run_note Look change = 1
host_run_note LookOn change = if wants_small change then 1 else 0
host_run_note (End ends.Release) change = 1
host_run_note _ change = 0

-- where the line stands after the step of its place, which found v
abbrev pub host_run_outcome : HostRunPlace → ℕ → RunChange → Held → ℕ → Outcome
host_run_outcome Look page change h v =
    if owns_run h.state.sizes h.state.actor page change then after_run_look change (record { page = page; word = v }) one_look v else
    Ends (Refused OutOfRange)
host_run_outcome LookOn page change h v = after_next_look change h.topics.host h.topics.row (page_after page change h.topics) v
host_run_outcome (Begin p) page change h v =
    Goes (HostRun (after_run_begin (begin_next p h.state.sizes (run_target page h.topics) h.topics v)))
host_run_outcome Change page change h v = Goes (HostRun (after_run_change h.topics v))
host_run_outcome (End p) page change h v = after_run_end (end_next p v)

-- the event of a page of a run that is given its word
abbrev pub page_changed : Option PageRun → List EventKind
page_changed None = []
page_changed (Some run) = HostChanged (page_next run) (entry_of (word_given run (page_next run))) ∷ []

-- What a step tells besides that its line begins or is answered: that it looked at a page, that it is refused for what it saw, and that it changed a page.
abbrev pub host_run_tells : HostRunPlace → ℕ → RunChange → Held → ℕ → List EventKind
host_run_tells Look page change h v =
    if owns_run h.state.sizes h.state.actor page change then LookedAtHost page ∷ exiting (host_run_outcome Look page change h v) else []
host_run_tells LookOn page change h v = LookedAtHost (page_after page change h.topics) ∷ exiting (host_run_outcome LookOn page change h v)
host_run_tells Change page change h v =
    if is_several h.topics.invalidations.own.pages then
    (if v == word_next h.topics.invalidations.own.pages then page_changed h.topics.invalidations.own.pages else []) else
    if v == word_looked h.topics.host then HostChanged page (entry_of (as_it_is (word_looked h.topics.host))) ∷ [] else
    []
host_run_tells _ page change h v = []
