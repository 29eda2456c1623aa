-- How many steps a line makes at most.
use Rattle.std.specs.Prelude.{◌+◌, ◌*◌, ℕ, Bool, true, false, if◌then◌else◌}
use Rattle.core_views.specs.declared.place.AccessPlace.{AccessPlace}
use Rattle.core_views.specs.declared.place.AccessPlace.TheVariants.{Enter, Pause, Root, Walk, Touch, Leave, Fault}
use Rattle.core_views.specs.declared.place.FaultPlace.TheVariants as fault
use Rattle.core_views.specs.declared.place.Leaving.TheVariants as leaving
use Rattle.core_views.specs.declared.sizes.Sizes.{Sizes}
use Rattle.core_views.specs.declared.topics.Topics.{Topics}
use Rattle.core_views.specs.declared.trace.Command.{Command}
use Rattle.core_views.specs.declared.trace.Command.TheVariants.{Access, ChangeHost, ChangeRun, ClearLog, GetLog, SetLog, Split}
use Rattle.spte_words.specs.Areas.{words_of_bits}
use Rattle.mmu_core.specs.forms.access.FaultLeft.{fault_left}
pub use Rattle.mmu_core.specs.forms.access.SearchLeft.{look_left}
use Rattle.mmu_core.specs.forms.host_run.HostRunLeft.{most_frames}

-- An access that finds no translation faults once, fast and then whole, and then finds the leaf in another stay: what is left of it from each place on. A
-- walk goes through four tables at most.
abbrev pub stay_left : Bool → Sizes → Topics → ℕ
stay_left again z t = if again then 2 else 1 + (fault_left fault.FastBegin z t + 9)

abbrev pub access_left : AccessPlace → Sizes → Topics → ℕ
access_left (Enter again) z t = 7 + stay_left again z t
access_left (Pause again) z t = 6 + stay_left again z t
access_left (Root again) z t = 5 + stay_left again z t
access_left (Walk again) z t = t.walk.level + stay_left again z t
access_left Touch z t = 2
access_left (Leave (leaving.Reached frame value)) z t = 1
access_left (Leave (leaving.Faults fast)) z t = 1 + (fault_left fault.FastBegin z t + 9)
access_left (Fault p) z t = fault_left p z t + 9

-- The most steps of a line with this command, alone. One that changes a slot or a host page makes as many whatever the pool and the frames, but for the words
-- of the map in which it may claim; one that moves a slot, or begins its dirty log, sweeps for its guest frames; and one that changes a run of host pages looks
-- at each of them, changes each, and sweeps for guest frames that may lie anywhere.
abbrev pub most_steps : Sizes → Command → ℕ
most_steps z (Access gfn word op) = 8192 + z.pool + z.frames
most_steps z (ChangeHost page change) = 1024 + words_of_bits z.frames
most_steps z (ChangeRun page change) = 1024 + 2 * 262144 + 5 * most_frames
most_steps z (SetLog id true) = 1024 + 5 * z.pages + words_of_bits z.pool + words_of_bits z.pages
most_steps z (SetLog id false) = 1024 + words_of_bits z.pool
most_steps z (GetLog id) = 1024 + 5 * z.pages + words_of_bits z.pages
most_steps z (ClearLog id first count words) = 1024 + 5 * z.pages + words_of_bits z.pages
most_steps z (Split gfn) = 1024 + words_of_bits z.pool
most_steps z _ = 1024 + 5 * z.pages + words_of_bits z.pool
