-- What a fast fault answers, and what its answers rest on (locking.rst, "Fast page fault").
use Rattle.std.specs.Prelude.{◌≡◌, true, None}
use Rattle.core_views.specs.declared.place.FaultEnd.{FaultEnd}
use Rattle.core_views.specs.declared.place.FaultEnd.TheVariants as end_of
use Rattle.core_views.specs.declared.place.FaultPlace.{FaultPlace}
use Rattle.core_views.specs.declared.place.FaultPlace.TheVariants.{End}
use Rattle.core_views.specs.Held.{Held}
use Rattle.mmu_core.specs.forms.access.FaultKnows.{HasFixed, Retries, SawNotFast}
use Rattle.step_seats.specs.FaultTurns.{StandsInFault, is_fast_place}
use Rattle.step_seats.specs.declared.turn.Turn.{Turn}
use Rattle.step_seats.specs.declared.turn.Turn.TheVariants.{More, Wait, Retry, Done}
use Rattle.fast_fault.specs.declared.fast.FastJob.{FastJob}
use Rattle.fast_fault.specs.declared.fast.FastFaulted.{FastFaulted}
use Rattle.fast_fault.specs.declared.fast.FastFaulted.TheVariants.{Fixed, NotFast}

-- the end of the fault that an answer tells
abbrev pub end_told : FastFaulted → FaultEnd
end_told (Fixed marked) = end_of.Fixed marked
end_told (NotFast word) = end_of.NotFast word

-- The step of such a place leads on to another place.
abbrev pub LeadsOn : FaultPlace → Type 0
LeadsOn (End e) = ⊥
LeadsOn p = is_fast_place p ≡ true

-- The hand's next line is the access whose fast fault this is, and stands at a place of it.
pub record StandsInFast (job : FastJob) (h : Held) : Type 0 where
  pub fault : StandsInFault job.gfn job.write h
  pub fast : is_fast_place fault.at ≡ true

-- What the answer of a turn rests on, by what the actor has loaded and stored in this section: it holds the guest frame's leaf, as allowing the write leaves
-- it, the answer tells of a mark exactly where the slot that was found has a dirty log, and no mark is owed; no slot has the guest frame, or the entry is this
-- word, in which a write can't be allowed; or the exchange of this leaf was lost, to another word that stood there. No turn waits.
abbrev pub FastRestsOn : Turn FastFaulted → FastJob → Held → Type 0
FastRestsOn (Done (Fixed marked)) job h = HasFixed marked job.gfn job.write h.topics × (h.topics.owed ≡ None)
FastRestsOn (Done (NotFast word)) job h = SawNotFast word job.gfn h.topics
FastRestsOn (Retry cause) job h = Retries true cause h.state.sizes job.gfn h.topics
FastRestsOn (Wait seen) job h = ⊥
FastRestsOn More job h = Unit {0}
