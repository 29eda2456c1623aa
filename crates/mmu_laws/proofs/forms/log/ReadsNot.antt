-- A line at no place of a reading reads no log.
use Rattle.std.proofs.Common.{◌≡◌, refl}
use Rattle.std.specs.Prelude.{None, false, is_some, true}
use Rattle.core_views.specs.declared.place.Place.{Place}
use Rattle.core_views.specs.declared.place.Place.TheVariants as place
use Rattle.core_views.specs.declared.trace.Command.{Command}
use Rattle.core_views.specs.declared.trace.Command.TheVariants.{ClearLog, GetLog}
use Rattle.core_views.specs.Held.{Held}
use Rattle.core_views.specs.LogCommands.{log_read}
use Rattle.mmu_core.specs.forms.log.Readings.{reading_at}
use Rattle.mmu_core.specs.lines.Forms.{is_for}

pub reads_not : (p : Place) (command : Command) (h : Held) → is_for p command ≡ true → reading_at p command h ≡ None → is_some (log_read command) ≡ false
reads_not (place.Log q) command h mine other = absurd (cc other)
reads_not p (GetLog id) h mine other = absurd (cc mine)
reads_not p (ClearLog id first count words) h mine other = absurd (cc mine)
reads_not _ _ h mine other = refl
