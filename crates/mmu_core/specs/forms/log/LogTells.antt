-- The events that the steps of a line tell which reads a dirty log: it begins to read where it has the lock, or loads the first word; and it has read where the
-- last flush is awaited, or the last word is loaded.
use Rattle.std.specs.Prelude.{◌==◌, ◌||◌, ◌++◌, ◌∷◌, [], ℕ, List, Option, Some, None, not, if◌then◌else◌}
use Rattle.core_views.specs.declared.event.EventKind.{EventKind}
use Rattle.core_views.specs.declared.event.EventKind.TheVariants.{Harvested, Shown, Taken}
use Rattle.core_views.specs.declared.place.LogPlace.{LogPlace}
use Rattle.core_views.specs.declared.place.LogPlace.TheVariants.{Exclude, Await, Peek}
use Rattle.core_views.specs.declared.trace.Command.{Command}
use Rattle.core_views.specs.declared.trace.Slot.{Slot}
use Rattle.core_views.specs.Held.{Held}
use Rattle.core_views.specs.LogCommands.{log_read}
use Rattle.part_steps.specs.ControlBits.{has_to_flush}
use Rattle.mmu_core.specs.forms.log.LogSteps.{awaits_last, frames_read, read_more, reads_last, slot_asked}

abbrev pub taken : Option ℕ → List EventKind
taken None = []
taken (Some id) = Taken id ∷ []

abbrev pub harvested : Option ℕ → List ℕ → List EventKind
harvested None frames = []
harvested (Some id) frames = Harvested id frames ∷ []

abbrev pub shown : Option ℕ → List ℕ → List EventKind
shown None frames = []
shown (Some id) frames = Shown id frames ∷ []

abbrev pub log_tells : LogPlace → Command → Held → ℕ → List EventKind
log_tells Exclude command h v = if v == 0 then taken (log_read command) else []
log_tells Await command h v =
    if has_to_flush v || not (awaits_last h) then [] else harvested (log_read command) (frames_read (slot_asked h command) command h.harvest)
log_tells (Peek begun) command h v =
    let slot : Slot = slot_asked h command in
    (if begun then [] else taken (log_read command))
    ++ (if reads_last begun slot command h.topics then shown (log_read command) (frames_read slot command (read_more begun slot command h v)) else [])
log_tells _ command h v = []
