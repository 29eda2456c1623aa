use Rattle.core_theorem.proofs.FastFaults.{fixed_faults_have_allowed, other_fast_faults_saw_why}
use Rattle.core_theorem.proofs.Readings.{readings_tell_writes}
use Rattle.mmu_laws.proofs.flat.ArmedSlots.{armed_slots_are_covered}
use Rattle.mmu_laws.proofs.flat.EveryLog.{every_log}
use Rattle.core_theorem.proofs.logs.every_run_logs.Goals as goal

pub returns-clause-logs : goal.returns-clause-logs
returns-clause-logs c z lines w ss R =
    record { flat = every_log z lines w ss R.start R.legal; armed = λ id on. armed_slots_are_covered z lines w ss id R.start R.legal on }

pub returns-clause-readings : goal.returns-clause-readings
returns-clause-readings c =
    readings_tell_writes c.readings_tell_what_was_written.ensures.lone c.readings_tell_what_was_written.ensures.caused
    c.logged_writes_are_kept.ensures.kept

pub returns-clause-fixed : goal.returns-clause-fixed
returns-clause-fixed c = fixed_faults_have_allowed

pub returns-clause-not_fast : goal.returns-clause-not_fast
returns-clause-not_fast c = other_fast_faults_saw_why
