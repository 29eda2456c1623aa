-- The begin and the end of an invalidation, a step a turn, by the calls of the machine's parts (mmu_notifier.rst; kvm_main.c,
-- kvm_mmu_notifier_invalidate_range_start and kvm_mmu_notifier_invalidate_range_end).
use Rattle.std.specs.Prelude.{◌≡◌, ℕ, Option, Some, None}
use Rattle.core_views.specs.declared.place.BeginPlace.{BeginPlace}
use Rattle.core_views.specs.declared.place.BeginPlace.TheVariants as begins
use Rattle.core_views.specs.declared.place.EndPlace.{EndPlace}
use Rattle.core_views.specs.declared.place.EndPlace.TheVariants as ends
use Rattle.core_views.specs.declared.place.HostPlace.TheVariants.{Begin, End}
use Rattle.core_views.specs.declared.place.HostRunPlace.TheVariants as run_place
use Rattle.core_views.specs.declared.place.Place.{Place}
use Rattle.core_views.specs.declared.place.Place.TheVariants as place
use Rattle.core_views.specs.declared.place.SlotChangePlace.TheVariants as change
use Rattle.core_views.specs.Held.{Held}
use Rattle.invalidate_seq.specs.declared.open.OpenStage.{OpenStage}
use Rattle.invalidate_seq.specs.declared.open.OpenStage.TheVariants as opens
use Rattle.invalidate_seq.specs.declared.shut.ShutStage.{ShutStage}
use Rattle.invalidate_seq.specs.declared.shut.ShutStage.TheVariants as shuts
use Rattle.mmu_core.specs.declared.invalidate.BeginNext.{BeginNext}
use Rattle.mmu_core.specs.declared.invalidate.BeginNext.TheVariants as begins_next
use Rattle.mmu_core.specs.declared.invalidate.EndNext.{EndNext}
use Rattle.mmu_core.specs.declared.invalidate.EndNext.TheVariants as ends_next
use Rattle.mmu_core.specs.orders.InvalidateKnows.{BeginKnows, EndKnows}
use Rattle.mmu_core.specs.orders.InvalidateSteps.{begin_next, begin_part, end_next, end_part}
use Rattle.mmu_core.specs.machine.MayMake.{MayMake}
use Rattle.part_steps.specs.declared.invalidations.Target.{Target}
use Rattle.part_steps.specs.InvalidationRange.{IsSmall}
use Rattle.range_notifier.specs.declared.begin.BeginJob.{BeginJob}
use Rattle.step_seats.specs.PartTurns.{MadeTelling, in_way}
use Rattle.step_seats.specs.Seats.{Seat}
use Rattle.step_seats.specs.declared.turn.Turn.{Turn}
use Rattle.step_seats.specs.declared.turn.Turn.TheVariants.{More, Wait, Done}

-- ---- the begin

-- where in the begin of an invalidation a line at this place stands, if it does
abbrev pub begin_at : Place → Option BeginPlace
begin_at (place.Host (Begin p)) = Some p
begin_at (place.HostRun (run_place.Begin p)) = Some p
begin_at (place.SlotChange (change.Begin p)) = Some p
begin_at _ = None

-- The actor may make the step of this place of the begin, for the target, and knows what the place asks.
pub record IsInBegin (p : BeginPlace) (target : Target) (note : ℕ) (h : Held) : Type 0 where
  pub may : MayMake (begin_part p target h.topics) note h
  pub knows : BeginKnows p h.state.sizes target h.topics
  pub small : IsSmall target

-- The hand's line stands in the begin, and its actor may make the next step.
pub record BeginsNext (job : BeginJob) (note : ℕ) (h : Held) : Type 0 where
  pub at : BeginPlace
  pub stands : begin_at h.state.place ≡ Some at
  pub is_in : IsInBegin at job.target note h

-- the place of the begin at which the count, the range and the count again are loaded and stored
abbrev pub opens_at : OpenStage → BeginPlace
opens_at opens.Count = begins.Count
opens_at opens.RangeStart = begins.RangeStart
opens_at opens.RangeEnd = begins.RangeEnd
opens_at opens.SetStart = begins.SetStart
opens_at opens.SetEnd = begins.SetEnd
opens_at opens.SetCount = begins.SetCount

-- The step of the place never waits for another actor.
abbrev pub NeverWaits : BeginPlace → Type 0
NeverWaits begins.Exclude = ⊥
NeverWaits begins.Await = ⊥
NeverWaits begins.Release = ⊥
NeverWaits _ = Unit {0}

-- The turn answers by what is next in the order of steps: it goes on or is to be made again, or the invalidation has begun.
abbrev pub AnswersBegin : Turn (Unit {0}) → BeginNext → Type 0
AnswersBegin More (begins_next.Goes p) = Unit {0}
AnswersBegin (Wait seen) next = Unit {0}
AnswersBegin (Done u) begins_next.Begun = Unit {0}
AnswersBegin _ next = ⊥

-- One turn of the begin at this place: its step was made, and the turn waits exactly where the step does, and else answers by what is next.
pub record BeginsAt (p : BeginPlace) (job : BeginJob) (turn : Turn (Unit {0})) (note : ℕ) (before after : Seat) : Type 0 where
  pub step : MadeTelling (in_way turn) (begin_part p job.target before.hand.topics) note before after
  pub answers : AnswersBegin turn (begin_next p before.hand.state.sizes job.target before.hand.topics step.found)

-- One turn, at the place where the hand's line stands.
abbrev pub TurnsBegin : BeginJob → Turn (Unit {0}) → ℕ → Seat → Seat → Type 0
TurnsBegin job turn note before after = (p : BeginPlace) → begin_at before.hand.state.place ≡ Some p → BeginsAt p job turn note before after

-- ---- the end

abbrev pub end_at : Place → Option EndPlace
end_at (place.Host (End p)) = Some p
end_at (place.HostRun (run_place.End p)) = Some p
end_at (place.SlotChange (change.End p)) = Some p
end_at _ = None

pub record IsInEnd (p : EndPlace) (note : ℕ) (h : Held) : Type 0 where
  pub may : MayMake (end_part p h.topics) note h
  pub knows : EndKnows p h.topics

pub record EndsNext (note : ℕ) (h : Held) : Type 0 where
  pub at : EndPlace
  pub stands : end_at h.state.place ≡ Some at
  pub is_in : IsInEnd at note h

-- the place of the end at which the sequence number and the count are loaded and stored
abbrev pub shuts_at : ShutStage → EndPlace
shuts_at shuts.Seq = ends.Seq
shuts_at shuts.SetSeq = ends.SetSeq
shuts_at shuts.Count = ends.Count
shuts_at shuts.SetCount = ends.SetCount

abbrev pub AnswersEnd : Turn (Unit {0}) → EndNext → Type 0
AnswersEnd More (ends_next.Goes p) = Unit {0}
AnswersEnd (Wait seen) next = Unit {0}
AnswersEnd (Done u) ends_next.Ended = Unit {0}
AnswersEnd _ next = ⊥

pub record EndsAt (p : EndPlace) (turn : Turn (Unit {0})) (note : ℕ) (before after : Seat) : Type 0 where
  pub step : MadeTelling (in_way turn) (end_part p before.hand.topics) note before after
  pub answers : AnswersEnd turn (end_next p step.found)

abbrev pub TurnsEnd : Turn (Unit {0}) → ℕ → Seat → Seat → Type 0
TurnsEnd turn note before after = (p : EndPlace) → end_at before.hand.state.place ≡ Some p → EndsAt p turn note before after
