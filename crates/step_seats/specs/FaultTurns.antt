-- What one turn of a fault's job is, of a whole fault or of a fast one: the step of its place, and what the turn answers, told as the end of the fault.
use Rattle.std.specs.Prelude.{◌≡◌, ◌≢◌, ◌<◌, ◌^◌, ℕ, Bool, true, false, length}
use Rattle.core_views.specs.declared.progress.Seen.{Seen}
use Rattle.core_views.specs.declared.place.AccessPlace.TheVariants.{Fault}
use Rattle.core_views.specs.declared.place.FaultEnd.{FaultEnd}
use Rattle.core_views.specs.declared.place.FaultEnd.TheVariants as end_of
use Rattle.core_views.specs.declared.place.FaultNext.{FaultNext}
use Rattle.core_views.specs.declared.place.FaultNext.TheVariants.{Goes, Ends}
use Rattle.core_views.specs.declared.place.FaultPlace.{FaultPlace}
use Rattle.core_views.specs.declared.place.FaultPlace.TheVariants.{End, FastBegin, FastFind, FastWalk, Fix, Mark}
use Rattle.core_views.specs.declared.place.Place.TheVariants as place
use Rattle.core_views.specs.declared.trace.Command.TheVariants.{Access}
use Rattle.core_views.specs.declared.trace.Op.{Op}
use Rattle.core_views.specs.Held.{Held}
use Rattle.core_views.specs.Slots.{is_write}
use Rattle.mmu_core.specs.forms.access.AccessSteps.{access_note, behind_fault}
use Rattle.mmu_core.specs.forms.access.FaultKnows.{FaultEndKnows, FaultKnows, KnowsNext}
use Rattle.mmu_core.specs.forms.access.FaultSteps.{fault_next, fault_part}
use Rattle.mmu_core.specs.lines.PartWaits.{part_seen, part_waits}
use Rattle.mmu_core.specs.machine.MayMake.{MayMake}
use Rattle.mmu_core.specs.machine.Outcomes.{place_after}
use Rattle.mmu_core.specs.machine.Steps.{place_at}
use Rattle.mmu_core.specs.machine.Turns.{line_of}
use Rattle.step_seats.specs.PartTurns.{MadePart}
use Rattle.step_seats.specs.Seats.{Seat}
use Rattle.step_seats.specs.declared.turn.Turn.{Turn}
use Rattle.step_seats.specs.declared.turn.Turn.TheVariants.{More, Wait, Retry, Done}

-- The place is one of a fast fault.
abbrev pub is_fast_place : FaultPlace → Bool
is_fast_place FastBegin = true
is_fast_place (FastFind begun) = true
is_fast_place (FastWalk rooted) = true
is_fast_place Fix = true
is_fast_place (Mark fast) = fast
is_fast_place (End (end_of.Fixed marked)) = true
is_fast_place (End (end_of.NotFast word)) = true
is_fast_place (End (end_of.Retry fast cause)) = fast
is_fast_place _ = false

-- The hand's next line is an access of this guest frame, which writes or doesn't, and stands at this place of its fault.
pub record StandsInFault (gfn : ℕ) (write : Bool) (h : Held) : Type 0 where
  pub left : length h.answers < length h.lines
  pub at : FaultPlace
  pub stands : place_at h.state.place h ≡ place.Access (Fault at)
  pub word : ℕ
  pub op : Op
  pub command : (line_of h).command ≡ Access gfn word op
  pub writes : is_write op ≡ write

-- The actor may make the step of this place of the fault, and knows what the place asks.
pub record IsAtFaultPlace (p : FaultPlace) (gfn : ℕ) (write : Bool) (note : ℕ) (h : Held) : Type 0 where
  pub may : MayMake (fault_part p gfn h.topics) note h
  pub small : gfn < 2 ^ 36
  pub knows : FaultKnows p h.state.sizes gfn write h.topics

-- a turn whose answers tell such ends of a fault
abbrev pub as_end : {A : Type 0} → (A → FaultEnd) → Turn A → Turn FaultEnd
as_end told More = More
as_end told (Wait seen) = Wait seen
as_end told (Retry cause) = Retry cause
as_end told (Done answer) = Done (told answer)

-- what the last turn of a fault answers, by its end
abbrev pub end_turn : FaultEnd → Turn FaultEnd
end_turn (end_of.Retry fast cause) = Retry cause
end_turn end_of.Installed = Done end_of.Installed
end_turn end_of.Mmio = Done end_of.Mmio
end_turn end_of.HostFault = Done end_of.HostFault
end_turn end_of.Starved = Done end_of.Starved
end_turn (end_of.Fixed marked) = Done (end_of.Fixed marked)
end_turn (end_of.NotFast word) = Done (end_of.NotFast word)

-- The turn answers by what is next after its step: it goes on, or has to be made again, or the fault is over.
abbrev pub FaultAnswersBy : Turn FaultEnd → FaultNext → Type 0
FaultAnswersBy More (Goes p) = Unit {0}
FaultAnswersBy (Wait seen) (Goes p) = Unit {0}
FaultAnswersBy _ (Goes p) = ⊥
FaultAnswersBy turn (Ends e) = turn ≡ end_turn e

-- The turn waits exactly where its step is one that waits for another actor, and then it has seen what is in its way.
abbrev pub WaitsBy : Turn FaultEnd → Bool → Seen → Type 0
WaitsBy (Wait seen) b way = (b ≡ true) × (seen ≡ way)
WaitsBy _ b way = b ≢ true

-- What an end rests on: what was known right before it, by the words that this fault has loaded.
abbrev pub EndsBy : FaultNext → (FaultEnd → Type 0) → Type 0
EndsBy (Goes p) Knows = Unit {0}
EndsBy (Ends e) Knows = Knows e

-- The step of this place was made, of which this was found, and the turn answers by what is next in the order of steps.
pub record MakesFaultStep (p : FaultPlace) (gfn : ℕ) (write : Bool) (turn : Turn FaultEnd) (note : ℕ) (before after : Seat) : Type 0 where
  pub found : ℕ
  pub made : MadePart (fault_part p gfn before.hand.topics) note found before after
  pub turned : FaultAnswersBy turn (fault_next p before.hand.state.sizes gfn write before.hand.topics found)
  pub waits_by : WaitsBy turn (part_waits (fault_part p gfn before.hand.topics) before.hand.topics found)
      (part_seen (fault_part p gfn before.hand.topics) before.hand found)

-- what is next in the order of steps where the step of this place found v
abbrev pub next_of : FaultPlace → ℕ → Bool → Held → ℕ → FaultNext
next_of p gfn write h v = fault_next p h.state.sizes gfn write h.topics v

-- One turn of the fault at this place: the hand stands where the order of steps leads from there, and knows what its next place asks; where
-- the fault is over, its answer has its cause in what was loaded, and the actor holds nothing.
pub record TurnsAt (p : FaultPlace) (gfn : ℕ) (write : Bool) (turn : Turn FaultEnd) (before after : Seat) : Type 0 where
  pub step : MakesFaultStep p gfn write turn (access_note (Fault p)) before after
  pub stands : after.hand.state.place ≡ place_after (behind_fault (next_of p gfn write before.hand step.found))
  pub knows : KnowsNext (next_of p gfn write before.hand step.found) before.hand.state.sizes gfn write after.hand.topics
  pub ends_by : EndsBy (next_of p gfn write before.hand step.found) (λ e. FaultEndKnows e before.hand.state.sizes gfn write before.hand.topics)

-- One turn of the fault, at the place where the hand's line stands.
abbrev pub TurnsFault : ℕ → Bool → Turn FaultEnd → Seat → Seat → Type 0
TurnsFault gfn write turn before after =
    (p : FaultPlace) → place_at before.hand.state.place before.hand ≡ place.Access (Fault p) → TurnsAt p gfn write turn before after
