-- That the turn of an access has the cause of what it says.
use Rattle.std.proofs.Common.{◌≡◌, ℕ, sym, subst}
use Rattle.std.specs.Prelude.{Bool}
use Rattle.core_views.specs.declared.answer.Answer.{Answer}
use Rattle.core_views.specs.declared.progress.Seen.{Seen}
use Rattle.core_views.specs.declared.place.AccessPlace.{AccessPlace}
use Rattle.core_views.specs.declared.place.AccessPlace.TheVariants.{Leave, Fault}
use Rattle.core_views.specs.declared.place.FaultEnd.{FaultEnd}
use Rattle.core_views.specs.declared.place.FaultEnd.TheVariants as end_of
use Rattle.core_views.specs.declared.place.FaultNext.TheVariants.{Ends}
use Rattle.core_views.specs.declared.place.FaultPlace.{FaultPlace}
use Rattle.core_views.specs.declared.place.FaultPlace.TheVariants as fault
use Rattle.core_views.specs.declared.place.Leaving.TheVariants as leaving
use Rattle.core_views.specs.declared.place.Place.{Place}
use Rattle.core_views.specs.declared.place.Place.TheVariants as place
use Rattle.core_views.specs.declared.trace.Command.{Command}
use Rattle.core_views.specs.declared.trace.Command.TheVariants.{Access}
use Rattle.core_views.specs.Held.{Held}
use Rattle.core_views.specs.Slots.{is_write}
use Rattle.mmu_core.specs.alone.LineAlone.{line_waits}
use Rattle.mmu_core.specs.forms.access.FaultKnows.{FaultEndKnows, FaultKnows}
use Rattle.mmu_core.specs.forms.access.FaultSteps.{fault_next}
use Rattle.mmu_core.specs.lines.Forms.{KnowsPart, RestsAt}
use Rattle.mmu_core.proofs.lines.Forms.{knows_for}
use Rattle.mmu_core.specs.machine.Steps.{place_at}
use Rattle.step_seats.specs.declared.turn.Turn.{Turn}
use Rattle.step_seats.specs.declared.turn.Turn.TheVariants.{More, Wait, Retry, Done}
use Rattle.step_seats.specs.LineTurns.{WaitsElse, fault_turn, line_seen, line_turn}
use Rattle.vcpu_run.specs.declared.access.AccessJob.{AccessJob}
use Rattle.vcpu_run.specs.Accesses.{HasItsCause}

module _ (job : AccessJob) (h : Held) where
  ends_cause : (e : FaultEnd) → FaultEndKnows e h.state.sizes job.gfn (is_write job.op) h.topics → HasItsCause (fault_turn (Ends e)) job h
  ends_cause end_of.Mmio K = K
  ends_cause end_of.HostFault K = K
  ends_cause end_of.Starved K = K
  ends_cause (end_of.Retry fast cause) K = K.has
  ends_cause _ K = tt

  fault_cause : (p : FaultPlace) (v : ℕ) → FaultKnows p h.state.sizes job.gfn (is_write job.op) h.topics
      → HasItsCause (fault_turn (fault_next p h.state.sizes job.gfn (is_write job.op) h.topics v)) job h
  fault_cause (fault.End e) v K = ends_cause e K.2
  fault_cause _ v K = tt

  access_cause : (p : AccessPlace) (v : ℕ) → KnowsPart (place.Access p) (Access job.gfn job.word job.op) h
      → HasItsCause (line_turn (place.Access p) (Access job.gfn job.word job.op) h v) job h
  access_cause (Fault p) v K = fault_cause p v K
  access_cause (Leave (leaving.Reached frame value)) v K = tt
  access_cause _ v K = tt

  place_cause : (p : Place) (v : ℕ) → RestsAt p (Access job.gfn job.word job.op) h → KnowsPart p (Access job.gfn job.word job.op) h
      → HasItsCause (line_turn p (Access job.gfn job.word job.op) h v) job h
  place_cause (place.Access p) v R K = access_cause p v K
  place_cause place.Between v R K = tt
  place_cause p v R K = absurd (let mine = knows_for p (Access job.gfn job.word job.op) h tt K in cc mine)

  given_cause : (turn : Turn Answer) (waits : Bool) (way : Seen) (t : Turn Answer) → WaitsElse turn waits way t → HasItsCause t job h
      → HasItsCause turn job h
  given_cause (Wait seen) waits way t gives cause = tt
  given_cause More waits way t gives cause = tt
  given_cause (Retry why) waits way t gives cause = subst (λ (x : Turn Answer). HasItsCause x job h) (sym gives.1) cause
  given_cause (Done answer) waits way t gives cause = subst (λ (x : Turn Answer). HasItsCause x job h) (sym gives.1) cause

  abbrev p : Place
  p = place_at h.state.place h

  pub told_cause : (turn : Turn Answer) (v : ℕ) (c : Command) → c ≡ Access job.gfn job.word job.op → RestsAt p c h → KnowsPart p c h
      → WaitsElse turn (line_waits p c h v) (line_seen p c h v) (line_turn p c h v) → HasItsCause turn job h
  told_cause turn v c is R K gives =
      given_cause turn (line_waits p c h v) (line_seen p c h v) (line_turn p c h v) gives
      (subst (λ (x : Command). HasItsCause (line_turn p x h v) job h) (sym is)
      (place_cause p v (subst (λ (x : Command). RestsAt p x h) is R) (subst (λ (x : Command). KnowsPart p x h) is K)))
