-- What a line counts: its steps since it began or since its last delay, and its delays.
use Rattle.std.specs.Prelude.{◌+◌, ◌-◌, ◌^◌, ℕ, Bool, true, false, ◌&&◌, ◌||◌, Option, Some, None, nat_lt, if◌then◌else◌}
use Rattle.core_views.specs.declared.place.AccessPlace.TheVariants.{Walk, Leave, Fault}
use Rattle.core_views.specs.declared.place.FaultEnd.TheVariants as end_of
use Rattle.core_views.specs.declared.place.FaultPlace.TheVariants as fault
use Rattle.core_views.specs.declared.place.Leaving.TheVariants as leaving
use Rattle.core_views.specs.declared.place.Place.{Place}
use Rattle.core_views.specs.declared.place.Place.TheVariants as place
use Rattle.core_views.specs.declared.topics.Topics.{Topics}
use Rattle.core_views.specs.declared.trace.Command.{Command}
use Rattle.core_views.specs.Held.{Held}
use Rattle.mmu_core.specs.declared.outcome.Outcome.{Outcome}
use Rattle.mmu_core.specs.declared.outcome.Outcome.TheVariants.{Goes}
use Rattle.part_steps.specs.declared.part_step.PartStep.{PartStep}
use Rattle.mmu_core.specs.lines.Forms.{part_at}
use Rattle.mmu_core.specs.lines.PartWaits.{part_waits}

-- The touch of a content word never waits.
abbrev pub waits_by : Option PartStep → Topics → ℕ → Bool
waits_by (Some step) t v = part_waits step t v
waits_by None t v = false

-- The step of a line waits for another actor: it is the step of a part that waits, whatever the line is.
abbrev pub line_waits : Place → Command → Held → ℕ → Bool
line_waits p command h v = waits_by (part_at p command h) h.topics v

-- The line's fault ends with this step and begins anew.
abbrev pub begins_anew : Place → Bool
begins_anew (place.Access (Fault (fault.End (end_of.Retry fast cause)))) = true
begins_anew _ = false

-- The access walks, in the stay after a fault that has installed an entry.
abbrev pub walks_again : Place → Bool
walks_again (place.Access (Walk again)) = again
walks_again _ = false

-- It leaves the guest for a fault.
abbrev pub leaves_to_fault : Outcome → Bool
leaves_to_fault (Goes (place.Access (Leave (leaving.Faults fast)))) = true
leaves_to_fault _ = false

-- The step is a delay of its line: the line waits, its fault begins anew, or the stay after an installed entry finds no translation that
-- allows the access.
abbrev pub is_delay : Place → Command → Held → Outcome → ℕ → Bool
is_delay p command h o v = line_waits p command h v || (begins_anew p || (walks_again p && leaves_to_fault o))

-- What has been counted where a line's next step comes: nothing where this step begins the line.
abbrev pub counted : Place → ℕ → ℕ
counted place.Between n = 0
counted _ n = n

-- one more, up to the last number of 64 bits
abbrev pub one_more : ℕ → ℕ
one_more n = if nat_lt n (2 ^ 64 - 1) then n + 1 else n

-- the counts after a step, which is a delay or none
abbrev pub steps_counted : Bool → ℕ → ℕ
steps_counted delay n = if delay then 0 else one_more n

abbrev pub delays_counted : Bool → ℕ → ℕ
delays_counted delay n = if delay then one_more n else n
