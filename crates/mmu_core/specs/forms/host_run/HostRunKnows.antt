-- What a line knows that maps a run of host pages as one, or its pages by themselves, at each of its places, from what its actor holds alone.
use Rattle.std.specs.Option.{IfSome}
use Rattle.std.specs.Prelude.{◌≡◌, ◌<◌, ◌≤◌, ℕ, Bool, true, false, Option, None, Some, is_some}
use Rattle.core_views.specs.declared.place.EndPlace.TheVariants as ends
use Rattle.core_views.specs.declared.place.HostRunPlace.{HostRunPlace}
use Rattle.core_views.specs.declared.place.HostRunPlace.TheVariants.{Look, LookOn, Begin, Change, End}
use Rattle.core_views.specs.declared.topics.HostLook.{HostLook}
use Rattle.core_views.specs.declared.topics.HostRow.{HostRow}
use Rattle.core_views.specs.declared.topics.PageRun.{PageRun}
use Rattle.core_views.specs.declared.topics.Topics.{Topics}
use Rattle.core_views.specs.declared.trace.RunChange.{RunChange}
use Rattle.core_views.specs.declared.trace.RunChange.TheVariants.{Huge, Small}
use Rattle.core_views.specs.Held.{Held}
use Rattle.core_views.specs.HostRuns.{owns_run, run_count}
use Rattle.core_views.specs.Traces.{IsRunChange}
use Rattle.spte_words.specs.Entries.{level_span}
use Rattle.spte_words.specs.HostWords.{host_level}
use Rattle.part_steps.specs.PageRuns.{is_several, run_of}
use Rattle.part_steps.specs.PartSteps.{IsAtRest}
use Rattle.part_steps.specs.PartTasks.{page_looked, word_looked}
use Rattle.mmu_core.specs.forms.host.HostKnows.{LooksAt}
use Rattle.mmu_core.specs.forms.host.HostSteps.{entry_of, maps_large}
use Rattle.mmu_core.specs.forms.host_run.HostRunSteps.{fits, run_target, wants_small}
use Rattle.mmu_core.specs.lines.PartWaits.{saw_open}
use Rattle.mmu_core.specs.orders.InvalidateKnows.{BeginKnows, EndKnows, IsOpen}
use Rattle.mmu_core.specs.orders.InvalidateSteps.{is_among_open}

-- how many pages the line is to look at, by what was seen of its own one
abbrev pub looks_wanted : RunChange → Topics → ℕ
looks_wanted change t = run_count change (entry_of (word_looked t.host))

-- The pages that were looked at may be mapped so.
abbrev pub fits_looked : RunChange → Option HostLook → HostRow → Bool
fits_looked change None row = false
fits_looked change (Some look) row = fits change look row

-- The run is the actor's own; its page was looked at, and so many of the run; where the run is to be large this page is a small one.
pub record LooksAtRun (page : ℕ) (change : RunChange) (h : Held) : Type 0 where
  pub in_range : IsRunChange change
  pub own_ : owns_run h.state.sizes h.state.actor page change ≡ true
  pub looked : is_some h.topics.host ≡ true
  pub at : page_looked h.topics.host ≡ page
  pub some : 1 ≤ h.topics.row.looked
  pub most : h.topics.row.looked ≤ looks_wanted change h.topics
  pub small : wants_small change ≡ true → maps_large (word_looked h.topics.host) ≡ false

-- All pages of the run were looked at, and may be mapped so.
pub record HasLookedAtAll (page : ℕ) (change : RunChange) (h : Held) : Type 0 where
  pub looks : LooksAtRun page change h
  pub all : h.topics.row.looked ≡ looks_wanted change h.topics
  pub fit : fits_looked change h.topics.host h.topics.row ≡ true

-- Its invalidation is open, and each virtual processor was asked for a flush, and awaited.
pub record HasFlushedRun (h : Held) : Type 0 where
  pub owns_none : h.topics.owned ≡ None
  pub opened : IsOpen h.topics
  pub asked : h.state.sizes.vcpus ≤ h.topics.flush.asked
  pub awaited : h.state.sizes.vcpus ≤ h.topics.flush.awaited

-- The run has several pages, of which some are changed, and some aren't: a run of small pages is given the level for which the line asks, and the pages of a
-- large one become small.
pub record ChangesRun (page : ℕ) (change : RunChange) (run : PageRun) : Type 0 where
  pub level : (2 ≤ run.level) × (run.level ≤ 3)
  pub first : run.first ≡ page
  pub left : run.changed < level_span run.level
  pub huge : (level : ℕ) → change ≡ Huge level → (run.level ≡ level) × (maps_large run.word ≡ false)
  pub small : change ≡ Small → host_level run.word ≡ run.level

-- The invalidation is of the one page that was looked at, which stays as it is.
pub record ChangesPage (page : ℕ) (change : RunChange) (h : Held) : Type 0 where
  pub is : h.topics.invalidations.own.pages ≡ Some (run_of page)
  pub looks : LooksAt page h
  pub asked : change ≡ Small

-- The invalidation is of a run of several pages, or of one.
abbrev pub ChangesPages : Bool → ℕ → RunChange → Held → Type 0
ChangesPages true page change h = IfSome h.topics.invalidations.own.pages (ChangesRun page change)
ChangesPages false page change h = ChangesPage page change h

-- What its last step asks besides its needs: it saw no invalidation of others open, so giving the lock back is no wait.
abbrev pub HostRunRests : HostRunPlace → Held → Type 0
HostRunRests (End ends.Release) h = saw_open h.topics.invalidations ≡ false
HostRunRests _ h = Unit {0}

-- what it knows at each place
abbrev pub HostRunKnows : HostRunPlace → ℕ → RunChange → Held → Type 0
HostRunKnows Look page change h = IsAtRest h.topics × (h.topics.frames.owned ≡ None) × IsRunChange change
HostRunKnows LookOn page change h =
    IsAtRest h.topics × (h.topics.frames.owned ≡ None) × LooksAtRun page change h × (h.topics.row.looked < looks_wanted change h.topics)
HostRunKnows (Begin p) page change h =
    HasLookedAtAll page change h × BeginKnows p h.state.sizes (run_target page h.topics) h.topics × (h.topics.owned ≡ None) × (h.topics.frames.owned ≡ None)
HostRunKnows Change page change h =
    HasFlushedRun h × (h.topics.frames.owned ≡ None) × ChangesPages (is_several h.topics.invalidations.own.pages) page change h
    × (owns_run h.state.sizes h.state.actor page change ≡ true)
HostRunKnows (End p) page change h = EndKnows p h.topics × (h.topics.owned ≡ None) × (h.topics.frames.owned ≡ None)

-- An invalidation of its own is open only from the store of one more to that of one less.
abbrev pub host_run_opens : HostRunPlace → Bool
host_run_opens (Begin p) = is_among_open p
host_run_opens Change = true
host_run_opens (End ends.Release) = false
host_run_opens (End p) = true
host_run_opens _ = false
