-- What the answer of a fast fault's turn rests on, from the step that it made.
use Rattle.std.proofs.Common.{◌≡◌, ◌∙◌, ℕ, None, refl, sym, subst}
use Rattle.std.specs.Prelude.{Bool, true, false}
use Rattle.core_views.specs.declared.progress.Seen.{Seen}
use Rattle.core_views.specs.declared.place.AccessPlace.TheVariants.{Fault}
use Rattle.core_views.specs.declared.place.FaultEnd.{FaultEnd}
use Rattle.core_views.specs.declared.place.FaultEnd.TheVariants as end_of
use Rattle.core_views.specs.declared.place.FaultNext.TheVariants.{Goes}
use Rattle.core_views.specs.declared.place.FaultPlace.{FaultPlace}
use Rattle.core_views.specs.declared.place.FaultPlace.TheVariants.{End, FastBegin, FastFind, FastWalk, Fix, Mark}
use Rattle.core_views.specs.declared.place.Place.TheVariants as place
use Rattle.core_views.specs.Held.{Held}
use Rattle.mmu_core.specs.forms.access.FaultKnows.{FaultEndKnows, Retries}
use Rattle.mmu_core.specs.machine.Steps.{place_at}
use Rattle.step_seats.specs.FaultTurns.{FaultAnswersBy, IsAtFaultPlace, MakesFaultStep, WaitsBy, as_end, end_turn, is_fast_place}
use Rattle.step_seats.specs.Seats.{Seat}
use Rattle.step_seats.specs.declared.turn.Turn.{Turn}
use Rattle.step_seats.specs.declared.turn.Turn.TheVariants.{More, Wait, Retry, Done}
use Rattle.fast_fault.specs.declared.fast.FastJob.{FastJob}
use Rattle.fast_fault.specs.declared.fast.FastFaulted.{FastFaulted}
use Rattle.fast_fault.specs.declared.fast.FastFaulted.TheVariants.{Fixed, NotFast}
use Rattle.fast_fault.specs.Fasts.{FastRestsOn, StandsInFast, end_told}

-- A turn that goes on doesn't wait, where its step doesn't.
goes : (turn : Turn FastFaulted) (q : FaultPlace) (waits : Bool) (way : Seen) (job : FastJob) (h : Held) → waits ≡ false
    → FaultAnswersBy (as_end end_told turn) (Goes q) → WaitsBy (as_end end_told turn) waits way → FastRestsOn turn job h
goes More q waits way job h never is by_ = tt
goes (Wait seen) q waits way job h never is by_ = let waited = by_.0 in absurd (cc (waited, never))
goes (Retry cause) q waits way job h never is by_ = absurd is
goes (Done answer) q waits way job h never is by_ = absurd is

-- what the end that a turn tells rests on
abbrev Rests : Turn FaultEnd → FastJob → Held → Type 0
Rests (Done e) job h = FaultEndKnows e h.state.sizes job.gfn job.write h.topics × (h.topics.owed ≡ None)
Rests (Retry cause) job h = Retries true cause h.state.sizes job.gfn h.topics
Rests (Wait seen) job h = ⊥
Rests More job h = Unit {0}

over : (e : FaultEnd) (job : FastJob) (h : Held) → is_fast_place (End e) ≡ true → FaultEndKnows e h.state.sizes job.gfn job.write h.topics
    → h.topics.owed ≡ None → Rests (end_turn e) job h
over end_of.Installed job h fast K owes = (K, owes)
over end_of.Mmio job h fast K owes = (K, owes)
over end_of.HostFault job h fast K owes = (K, owes)
over end_of.Starved job h fast K owes = (K, owes)
over (end_of.Fixed marked) job h fast K owes = (K, owes)
over (end_of.NotFast word) job h fast K owes = (K, owes)
over (end_of.Retry fast cause) job h is K owes = subst (λ (b : Bool). Retries b cause h.state.sizes job.gfn h.topics) is K

told : (turn : Turn FastFaulted) (job : FastJob) (h : Held) → Rests (as_end end_told turn) job h → FastRestsOn turn job h
told (Done (Fixed marked)) job h K = K
told (Done (NotFast word)) job h K = K.0
told (Retry cause) job h K = K
told (Wait seen) job h K = K
told More job h K = tt

pub rests_on : (p : FaultPlace) (job : FastJob) (turn : Turn FastFaulted) (note : ℕ) (before after : Seat) → is_fast_place p ≡ true
    → IsAtFaultPlace p job.gfn job.write note before.hand → MakesFaultStep p job.gfn job.write (as_end end_told turn) note before after
    → FastRestsOn turn job before.hand
rests_on (End e) job turn note before after fast I M =
    told turn job before.hand
    (subst (λ (t : Turn FaultEnd). Rests t job before.hand) (sym M.turned) (over e job before.hand fast I.knows.2 I.knows.0.owes_none))
rests_on FastBegin job turn note before after fast I M = goes turn _ _ _ job before.hand refl M.turned M.waits_by
rests_on (FastFind true) job turn note before after fast I M = goes turn _ _ _ job before.hand refl M.turned M.waits_by
rests_on (FastFind false) job turn note before after fast I M = goes turn _ _ _ job before.hand refl M.turned M.waits_by
rests_on (FastWalk true) job turn note before after fast I M = goes turn _ _ _ job before.hand refl M.turned M.waits_by
rests_on (FastWalk false) job turn note before after fast I M = goes turn _ _ _ job before.hand refl M.turned M.waits_by
rests_on Fix job turn note before after fast I M = goes turn _ _ _ job before.hand refl M.turned M.waits_by
rests_on (Mark of_fast) job turn note before after fast I M = goes turn _ _ _ job before.hand refl M.turned M.waits_by
rests_on _ job turn note before after fast I M = absurd (cc fast)

-- The place where the hand's line stands is one of a fast fault.
pub stands_there : (p : FaultPlace) (job : FastJob) (h : Held) → StandsInFast job h → place_at h.state.place h ≡ place.Access (Fault p) → is_fast_place p ≡ true
stands_there p job h S at =
    let same : place.Access (Fault S.fault.at) ≡ place.Access (Fault p) = sym S.fault.stands ∙ at in
    let is : S.fault.at ≡ p = cc same in
    subst (λ (q : FaultPlace). is_fast_place q ≡ true) is S.fast
