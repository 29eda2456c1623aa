-- The events of a line that reads a dirty log are quiet, but for what it takes out of the log.
use Rattle.core_views.specs.declared.event.EventKind.{EventKind}
use Rattle.core_views.specs.declared.place.LogPlace.{LogPlace}
use Rattle.core_views.specs.declared.place.LogPlace.TheVariants as log
use Rattle.core_views.specs.declared.place.Place.TheVariants as place
use Rattle.core_views.specs.declared.trace.Command.{Command}
use Rattle.core_views.specs.declared.trace.Slot.{Slot as SlotOf}
use Rattle.core_views.specs.Held.{Held}
use Rattle.core_views.specs.LogCommands.{log_read}
use Rattle.mmu_core.specs.forms.log.LogSteps.{frames_read, read_more, reads_last, slot_asked}
use Rattle.mmu_core.specs.forms.log.LogTells.{log_tells, shown, taken}
use Rattle.mmu_core.proofs.lines.EitherPlace.{either_place}
use Rattle.mmu_laws.proofs.flat.QuietKinds.{AreQuiet, quiet_append}
use Rattle.mmu_laws.proofs.forms.log.TakenStays.{ends_taking}
use Rattle.std.proofs.Common.{◌≡◌, ℕ, List, []}
use Rattle.std.specs.Prelude.{◌==◌, Bool, false, if◌then◌else◌, Option, Some, None}

taken_quiet : (o : Option ℕ) → AreQuiet (taken o)
taken_quiet None = tt
taken_quiet (Some id) = (tt, tt)

shown_quiet : (o : Option ℕ) (frames : List ℕ) → AreQuiet (shown o frames)
shown_quiet None frames = tt
shown_quiet (Some id) frames = (tt, tt)

pub log_quiet : (p : LogPlace) (command : Command) (h : Held) (v : ℕ) → ends_taking (place.Log p) command h ≡ false → AreQuiet (log_tells p command h v)
log_quiet log.Exclude command h v quiet = either_place AreQuiet (v == 0) (taken (log_read command)) [] (taken_quiet (log_read command)) tt
log_quiet log.Await command h v quiet = absurd (cc quiet)
log_quiet (log.Peek begun) command h v quiet =
    let slot : SlotOf = slot_asked h command in
    let last : Bool = reads_last begun slot command h.topics in
    let end : List EventKind = shown (log_read command) (frames_read slot command (read_more begun slot command h v)) in
    quiet_append (if begun then [] else taken (log_read command)) (if last then end else [])
    (either_place AreQuiet begun [] (taken (log_read command)) tt (taken_quiet (log_read command)))
    (either_place AreQuiet last end [] (shown_quiet (log_read command) _) tt)
log_quiet _ command h v quiet = tt
