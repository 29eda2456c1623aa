-- What a line that sets a run of host pages saw of them, by its notes, and what it may do then.
use Rattle.std.specs.Prelude.{◌≡◌, ℕ, suc, Some, None}
use Rattle.core_views.specs.declared.actor.Actor.{Actor}
use Rattle.core_views.specs.declared.host.HostEntry.{HostEntry}
use Rattle.core_views.specs.declared.sizes.Sizes.{Sizes}
use Rattle.core_views.specs.declared.trace.Command.{Command}
use Rattle.core_views.specs.declared.trace.Command.TheVariants.{ChangeRun}
use Rattle.core_views.specs.declared.trace.RunChange.{RunChange}
use Rattle.core_views.specs.declared.trace.RunChange.TheVariants.{Huge, Small}
use Rattle.core_views.specs.declared.answer.Refusal.TheVariants.{NotAligned}
use Rattle.core_views.specs.AtOnce.{HasWork}
use Rattle.core_views.specs.Flat.{Facts, HasToSet, Notes, Stage}
use Rattle.core_views.specs.Host.{HostMap}
use Rattle.core_views.specs.HostChanges.{Agree}
use Rattle.core_views.specs.HostRuns.{IsAmong, level_set, run_count, run_first, run_pages, run_refusal}
use Rattle.core_views.specs.Seen.{SawHuge}

-- It looked at each page of the run, and the host mapped them so.
pub record SawRun (notes : Notes) (page : ℕ) (change : RunChange) (seen : HostMap) : Type 0 where
  pub own : notes.host page ≡ Some (seen page)
  pub looked : (other : ℕ) → IsAmong (run_first change page (seen page)) (run_count change (seen page)) other → notes.host other ≡ Some (seen other)

-- It looked at a page of the run that it is to make large, which was part of a large one.
abbrev pub SawHugeOne : Notes → ℕ → RunChange → Type 0
SawHugeOne notes page (Huge level) = (other : ℕ) × IsAmong page (run_pages level) other × SawHuge notes other
SawHugeOne notes page Small = ⊥

-- It looked at each page of the run, of which none was part of a large one, and which can't be mapped as one.
pub record SawUnaligned (notes : Notes) (page : ℕ) (change : RunChange) : Type 0 where
  pub seen : HostMap
  pub saw : SawRun notes page change seen
  pub refused : run_refusal seen page change ≡ Some NotAligned

-- The line is one of the run's owner, and has something to do; it looked at each page of the run, each of which has since been brought in at most, and by what
-- it saw isn't refused. It sets the first of them.
pub record MaySetRun (z : Sizes) (f : Facts) (actor : Actor) (command : Command) (notes : Notes) (page : ℕ) (entry : HostEntry) : Type 0 where
  pub at : ℕ
  pub change : RunChange
  pub asked : command ≡ ChangeRun at change
  pub works : HasWork z f actor command
  pub seen : HostMap
  pub saw : SawRun notes at change seen
  pub fits : run_refusal seen at change ≡ None
  pub agrees : Agree (seen at) (f.host at)
  pub agree : (other : ℕ) → IsAmong (run_first change at (seen at)) (run_count change (seen at)) other → Agree (seen other) (f.host other)
  pub first : page ≡ run_first change at (seen at)
  pub entry_is : entry ≡ record (f.host page) { level = level_set change }

-- It has set the pages of the run before this one, and sets this one.
pub record MaySetNext (f : Facts) (command : Command) (stage : Stage) (page : ℕ) (entry : HostEntry) : Type 0 where
  pub at : ℕ
  pub change : RunChange
  pub asked : command ≡ ChangeRun at change
  pub left : ℕ
  pub stands : stage ≡ HasToSet page (suc left) (level_set change)
  pub entry_is : entry ≡ record (f.host page) { level = level_set change }
