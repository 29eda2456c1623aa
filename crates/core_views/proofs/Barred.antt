-- What a line is answered that a migration may bar.
use Rattle.std.proofs.Common.{◌≡◌, Bool, true, false, refl}
use Rattle.std.specs.Prelude.{Option, None}
use Rattle.core_views.specs.declared.answer.Answer.{Answer}
use Rattle.core_views.specs.declared.migration.Migration.{Migration}
use Rattle.core_views.specs.declared.migration.Migration.TheVariants.{Unstarted, Running, Pausing, Stopped}
use Rattle.core_views.specs.Migrations.{is_paused, is_stopped, or_barred}

-- A line that has something to do isn't barred, nor answered at once for another reason.
pub unbarred : (barred : Bool) (answer : Option Answer) → or_barred barred answer ≡ None → (barred ≡ false) × (answer ≡ None)
unbarred true answer is = absurd (cc is)
unbarred false answer is = (refl, is)

-- A guest that isn't paused isn't stopped.
pub goes_on : (migration : Migration) → is_paused migration ≡ false → is_stopped migration ≡ false
goes_on Unstarted is = refl
goes_on Running is = refl
goes_on Pausing is = refl
goes_on Stopped is = absurd (cc is)
