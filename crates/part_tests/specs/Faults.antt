-- The fault in which a line stands.
use Rattle.std.specs.Prelude.{◌≡◌, Bool}
use Rattle.core_views.specs.Held.{Held}
use Rattle.fault_install.specs.declared.fault.FaultJob.{FaultJob}
use Rattle.step_seats.specs.FaultTurns.{StandsInFault, is_fast_place}

-- The hand's next line is the access whose fault this is, and stands at a place of it: of a fast fault, or of a whole one.
pub record StandsIn (fast : Bool) (job : FaultJob) (h : Held) : Type 0 where
  pub fault : StandsInFault job.gfn job.write h
  pub kind : is_fast_place fault.at ≡ fast
