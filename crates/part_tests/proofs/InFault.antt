-- The hand's line stands in a fault of its access: in a whole one, or in a fast one.
use Rattle.std.proofs.Common.{◌≡◌, ◌<◌, ℕ, Bool, ap, arith, false, length, not, refl, true}
use Rattle.std.proofs.lemmas.Bool.Decides.{nat_tests}
use Rattle.std.specs.Bool.{beq}
use Rattle.core_views.specs.declared.place.AccessPlace.TheVariants.{Fault}
use Rattle.core_views.specs.declared.place.FaultPlace.{FaultPlace}
use Rattle.core_views.specs.declared.place.Place.{Place}
use Rattle.core_views.specs.declared.place.Place.TheVariants.{Access}
use Rattle.core_views.specs.declared.trace.Command.TheVariants as command
use Rattle.core_views.specs.declared.trace.Op.{Op}
use Rattle.core_views.specs.Held.{Held, has_line, line_at}
use Rattle.core_views.specs.Slots.{is_write}
use Rattle.fast_fault.specs.Fasts.{StandsInFast}
use Rattle.fault_install.specs.Faults.{StandsInLine}
use Rattle.fault_install.specs.declared.fault.FaultJob.{FaultJob}
use Rattle.part_tests.specs.Faults.{StandsIn}
use Rattle.mmu_core.specs.machine.Steps.{place_at}
use Rattle.step_seats.specs.FaultTurns.{StandsInFault}

pub has_left : (h : Held) → has_line h ≡ true → length h.answers < length h.lines
has_left h has = grind (arith, nat_tests)

unfoldable pub in_fault : (h : Held) (p : FaultPlace) (gfn word : ℕ) (op : Op) (write : Bool) → has_line h ≡ true → h.state.place ≡ Access (Fault p)
    → (line_at h.state.place h).command ≡ command.Access gfn word op → is_write op ≡ write → StandsInFault gfn write h
in_fault h p gfn word op write has at is writes = record {
  left = has_left h has;
  at = p;
  stands = ap (λ (q : Place). place_at q h) at;
  word = word;
  op = op;
  command = is;
  writes = writes;
}

pub is_same : (x y : Bool) → not (beq x y) ≡ false → x ≡ y
is_same true true is = refl
is_same false false is = refl
is_same true false is = absurd (cc is)
is_same false true is = absurd (cc is)

pub in_whole : (job : FaultJob) (h : Held) → StandsIn false job h → StandsInLine job h
in_whole job h stands = record { fault = stands.fault; whole = stands.kind }

pub in_fast : (job : FaultJob) (h : Held) → StandsIn true job h → StandsInFast (record { gfn = job.gfn; write = job.write }) h
in_fast job h stands = record { fault = stands.fault; fast = stands.kind }
