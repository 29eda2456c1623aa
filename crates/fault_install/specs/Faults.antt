-- What a fault answers, and which places are its own: those of a whole fault.
use Rattle.std.specs.Prelude.{◌≡◌, ℕ, false}
use Rattle.core_views.specs.declared.place.FaultEnd.{FaultEnd}
use Rattle.core_views.specs.declared.place.FaultEnd.TheVariants as end_of
use Rattle.core_views.specs.declared.place.FaultPlace.{FaultPlace}
use Rattle.core_views.specs.declared.place.FaultPlace.TheVariants.{Begin, Snapshot, Find, Host, Bring, Share, Check, Claim, End}
use Rattle.core_views.specs.Held.{Held}
use Rattle.mmu_lock.specs.declared.lock.Lock.{Lock}
use Rattle.mmu_lock.specs.declared.lock.Lock.TheVariants as lock
use Rattle.step_seats.specs.FaultTurns.{StandsInFault, is_fast_place}
use Rattle.step_seats.specs.declared.turn.Turn.{Turn}
use Rattle.step_seats.specs.declared.turn.Turn.TheVariants.{More, Wait, Done}
use Rattle.table_pool.specs.declared.claim.Claimed.{Claimed}
use Rattle.fault_install.specs.declared.fault.FaultJob.{FaultJob}
use Rattle.fault_install.specs.declared.fault.Faulted.{Faulted}
use Rattle.fault_install.specs.declared.fault.Faulted.TheVariants.{Installed, Mmio, HostFault, Starved}

-- what a turn answers after a try for the lock, whose word this is
abbrev pub lock_turn : ℕ → Turn Lock → Turn Faulted
lock_turn word (Done (lock.Held value)) = Wait (record { word = word; value = value })
lock_turn word _ = More

-- after a step of a claim
abbrev pub claim_turn : Turn Claimed → Turn Faulted
claim_turn (Wait seen) = Wait seen
claim_turn _ = More

-- the end of the fault that an answer tells
abbrev pub end_told : Faulted → FaultEnd
end_told Installed = end_of.Installed
end_told Mmio = end_of.Mmio
end_told HostFault = end_of.HostFault
end_told Starved = end_of.Starved

-- The step of the place always leads on to another place, and never waits.
abbrev pub LeadsOn : FaultPlace → Type 0
LeadsOn Share = ⊥
LeadsOn (Claim begun) = ⊥
LeadsOn (End e) = ⊥
LeadsOn _ = Unit {0}

-- The place comes after the check of the look-up, while the fault shares the lock.
abbrev pub ComesAfterCheck : FaultPlace → Type 0
ComesAfterCheck Begin = ⊥
ComesAfterCheck Snapshot = ⊥
ComesAfterCheck (Find begun) = ⊥
ComesAfterCheck Host = ⊥
ComesAfterCheck Bring = ⊥
ComesAfterCheck Share = ⊥
ComesAfterCheck (Check at) = ⊥
ComesAfterCheck (End e) = ⊥
ComesAfterCheck _ = Unit {0}

-- The hand's next line is the access whose fault this is, and stands at a place of it that isn't one of a fast fault.
pub record StandsInLine (job : FaultJob) (h : Held) : Type 0 where
  pub fault : StandsInFault job.gfn job.write h
  pub whole : is_fast_place fault.at ≡ false
