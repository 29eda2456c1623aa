-- A line takes bits of the log at one place of a reading alone.
use Rattle.std.proofs.Common.{◌≡◌, refl, sym, ap, ◌∙◌}
use Rattle.std.specs.Prelude.{Bool, true, false, Option, Some, None}
use Rattle.core_views.specs.declared.place.AccessPlace.TheVariants as access
use Rattle.core_views.specs.declared.place.FaultPlace.TheVariants as fault
use Rattle.core_views.specs.declared.place.LogPlace.{LogPlace}
use Rattle.core_views.specs.declared.place.LogPlace.TheVariants as log
use Rattle.core_views.specs.declared.place.Place.{Place}
use Rattle.core_views.specs.declared.place.Place.TheVariants as place
use Rattle.core_views.specs.declared.place.SlotChangePlace.TheVariants as change
use Rattle.core_views.specs.declared.trace.Command.{Command}
use Rattle.core_views.specs.declared.trace.Command.TheVariants.{Access}
use Rattle.core_views.specs.Held.{Held}
use Rattle.part_steps.specs.declared.part_step.PartStep.{PartStep}
use Rattle.part_steps.specs.declared.part_step.PartStep.TheVariants as part
use Rattle.mmu_core.specs.forms.log.Readings.{Reading, reading_at}
use Rattle.mmu_core.specs.lines.Forms.{part_at}
use Rattle.log_invariant.proofs.UsualSteps.{by_test, is_special, none_usual, takes_bits}

abbrev pub takes_there : LogPlace → Bool
takes_there (log.Take begun) = true
takes_there _ = false

abbrev pub takes_of : Option Reading → Bool
takes_of None = false
takes_of (Some r) = takes_there r.place

-- The reading that is under way takes bits with its step.
abbrev pub takes : Place → Command → Held → Bool
takes p command h = takes_of (reading_at p command h)

none_taken : (step : PartStep) → is_special step ≡ false → takes_bits step ≡ false
none_taken (part.Take word mask) usual = absurd (cc usual)
none_taken _ usual = refl

takes_at : (p : Place) (command : Command) (h : Held) → takes p command h ≡ false → by_test takes_bits (part_at p command h) ≡ false
takes_at (place.Access (access.Fault (fault.Leaf writes))) (Access gfn word op) h other = refl
takes_at (place.Access (access.Fault (fault.Leaf writes))) command h other = refl
takes_at (place.Access (access.Fault fault.Fix)) (Access gfn word op) h other = refl
takes_at (place.Access (access.Fault fault.Fix)) command h other = refl
takes_at (place.Access (access.Fault (fault.Mark fast))) (Access gfn word op) h other = refl
takes_at (place.Access (access.Fault (fault.Mark fast))) command h other = refl
takes_at (place.SlotChange change.Publish) command h other = refl
takes_at (place.Log (log.Take begun)) command h other = absurd (cc other)
takes_at p command h other = none_usual takes_bits none_taken p command h refl

pub takes_none : (p : Place) (command : Command) (h : Held) (step : PartStep) → takes p command h ≡ false → part_at p command h ≡ Some step → takes_bits step ≡
    false
takes_none p command h step other is = sym (ap (by_test takes_bits) is) ∙ takes_at p command h other
