-- How many steps a line of each form has left: no more than its command allows, and at each place one.
use Rattle.spte_words.specs.Areas.{words_of_bits}
use Rattle.std.proofs.Common.{◌<◌, ◌≤◌, ℕ, arith, ◌+◌, ◌*◌}
use Rattle.std.specs.Prelude.{Bool, true, false, if◌then◌else◌}
use Rattle.core_views.specs.declared.place.Place.{Place}
use Rattle.core_views.specs.declared.sizes.Sizes.{Sizes}
use Rattle.core_views.specs.declared.topics.Topics.{Topics}
use Rattle.core_views.specs.declared.trace.Command.{Command}
use Rattle.core_views.specs.declared.trace.Command.TheVariants.{Access, ChangeRun, SetLog, Split}
use Rattle.core_views.specs.Held.{Held}
use Rattle.core_views.specs.HostRuns.{sets_run}
use Rattle.core_views.specs.Sizes.{AreSizes}
use Rattle.mmu_core.specs.lines.Forms.{KnowsPart, Holds, steps_left}
use Rattle.mmu_core.specs.forms.host_run.HostRunLeft.{most_frames}
use Rattle.mmu_core.specs.lines.Bounds.{most_steps}
use Rattle.mmu_core.specs.lines.Rests.{IsUnderWay}
use Rattle.mmu_core.proofs.lines.Forms.{laws_at}

-- No more than its command allows.
pub place_few : (p : Place) (command : Command) (z : Sizes) (pool : ℕ → ℕ) (set : ℕ) (h : Held) → Holds z pool set p command h → KnowsPart p command h
    → AreSizes h.state.sizes → h.topics.walk.level ≤ 4 → steps_left p command h.state.sizes h.topics ≤ most_steps h.state.sizes command
place_few p command z pool set h holds K S most = (laws_at p command).few z pool set h holds K S most

-- No line makes more than an access and the sweep of all guest frames that a slot may have; and, where it changes a run of host pages, the looks, the changes
-- and the sweep of the largest one.
pub most_apart : (z : Sizes) (command : Command)
    → most_steps z command
    ≤ 8192 + z.pool + z.frames + 5 * z.pages + words_of_bits z.pages + (if sets_run command then 2 * 262144 + 5 * most_frames else 0)
most_apart z (Access gfn word op) = omega arith
most_apart z (ChangeRun page change) = omega arith
most_apart z (SetLog id true) = omega arith
most_apart z (SetLog id false) = omega arith
most_apart z (Split gfn) = omega arith
most_apart z _ = omega arith

pub most_small : (z : Sizes) (command : Command)
    → most_steps z command ≤ 8192 + z.pool + z.frames + 5 * z.pages + words_of_bits z.pages + 2 * 262144 + 5 * most_frames
most_small z command = by (sets_run command) (most_apart z command)
  where
    most : ℕ
    most = 8192 + z.pool + z.frames + 5 * z.pages + words_of_bits z.pages

    by : (sets : Bool) → most_steps z command ≤ most + (if sets then 2 * 262144 + 5 * most_frames else 0)
        → most_steps z command ≤ most + 2 * 262144 + 5 * most_frames
    by true few = omega (arith, few)
    by false few = omega (arith, few)

-- At each place it has one.
pub some_left : (p : Place) (c : Command) (z : Sizes) (t : Topics) → IsUnderWay p → 0 < steps_left p c z t
some_left p c z t under = (laws_at p c).some z t under
