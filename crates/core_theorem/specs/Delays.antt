-- Why a fault begins anew, why a step waits and why a line is starved, in every run.
use Rattle.std.specs.Prelude.{◌≡◌, ◌≢◌, ◌⊎◌, ◌<◌, ℕ, Bool, List, [], ◌∷◌, ◌++◌, true}
use Rattle.core_views.specs.declared.kind.Kind.{Kind}
use Rattle.core_views.specs.declared.place.AccessPlace.TheVariants as access
use Rattle.core_views.specs.declared.place.Cause.{Cause}
use Rattle.core_views.specs.declared.place.FaultEnd.TheVariants.{Retry}
use Rattle.core_views.specs.declared.place.Leaving.TheVariants as leaving
use Rattle.core_views.specs.declared.place.FaultPlace.TheVariants.{End}
use Rattle.core_views.specs.declared.place.Place.TheVariants.{Between}
use Rattle.core_views.specs.declared.place.Place.TheVariants as place
use Rattle.core_views.specs.declared.sizes.Sizes.{Sizes}
use Rattle.core_views.specs.declared.trace.Command.TheVariants.{Access}
use Rattle.core_views.specs.declared.trace.Line.{Line}
use Rattle.core_views.specs.declared.trace.Op.{Op}
use Rattle.core_views.specs.Held.{Held}
use Rattle.core_views.specs.Sizes.{actors_of}
use Rattle.core_views.specs.Slots.{is_write}
use Rattle.part_steps.specs.declared.part_step.PartStep.{PartStep}
use Rattle.part_steps.specs.PartTasks.{part_kind}
use Rattle.part_steps.specs.PartSteps.{PartNeeds}
use Rattle.mmu_core.specs.declared.outcome.Outcome.TheVariants.{Ends, Goes}
use Rattle.mmu_laws.specs.causes.Causes.{IsCaused}
use Rattle.mmu_core.specs.machine.Enabled.{mmu}
use Rattle.mmu_core.specs.machine.Machine.{Step, World, answered, hand_in, run}
use Rattle.mmu_core.specs.declared.claim.FreeMap.{FreeMap}
use Rattle.mmu_core.specs.orders.ClaimSteps.{map_words}
use Rattle.mmu_core.specs.lines.ScanPlaces.{answer_without}
use Rattle.mmu_core.specs.lines.PartWaits.{SawAnother, part_seen, part_waits}
use Rattle.mmu_core.specs.invariant.Scans.{EndsWithScan}
use Rattle.mmu_core.specs.machine.Steps.{delays_at, has_line, place_at}
use Rattle.mmu_core.specs.machine.Turns.{line_of, outcome_of}
use Rattle.mmu_laws.specs.turns.Breaking.{ForbidsWrites, TakesLeaf}
use Rattle.mmu_laws.specs.turns.Removal.{StandsSinceFault, Throughout}
use Rattle.mmu_laws.specs.causes.Waits.{SawNothing, StepWaitIsCaused}
use Rattle.core_theorem.specs.Runs.{IsRun}

-- the hand that makes a step after a run, and what the step answers
abbrev pub hand_of : World Held → List (Step Kind) → Step Kind → Held
hand_of w ss s = hand_in mmu (run mmu w ss) s.actor

abbrev pub answer_of : World Held → List (Step Kind) → Step Kind → ℕ
answer_of w ss s = answered mmu (run mmu w ss) s.kind

-- Where a step ends the section of a fault that begins anew, this has its cause in the steps before it, in this section.
abbrev pub FaultsHaveCauses : Type 0
FaultsHaveCauses =
    (z : Sizes) (lines : List Line) (w : World Held) (ss : List (Step Kind)) (s : Step Kind) (fast : Bool) (cause : Cause) (gfn word : ℕ) (op : Op)
    → IsRun z lines w (ss ++ s ∷ [])
    → (hand_of w ss s).state.place ≡ place.Access (access.Fault (End (Retry fast cause))) → (hand_of w ss s).state.line.command ≡ Access gfn word op
    → IsCaused cause z s.actor gfn w ss

-- At the start no actor has a line under way, or has seen anything that a step waits for.
abbrev pub StartsSawNothing : Type 0
StartsSawNothing =
    (z : Sizes) (lines : List Line) (w : World Held) (actor : ℕ) → IsRun z lines w [] → actor < actors_of z
    → ((hand_in mmu w actor).state.place ≡ Between) × SawNothing (hand_in mmu w actor).topics

-- Nor has, after any run, an actor that has a line left and none under way: so at the moment at which a line begins its actor has seen nothing.
abbrev pub BetweenLinesSawNothing : Type 0
BetweenLinesSawNothing =
    (z : Sizes) (lines : List Line) (w : World Held) (ss : List (Step Kind)) (actor : ℕ) → IsRun z lines w ss → actor < actors_of z
    → has_line (hand_in mmu (run mmu w ss) actor) ≡ true → (hand_in mmu (run mmu w ss) actor).state.place ≡ Between
    → SawNothing (hand_in mmu (run mmu w ss) actor).topics

-- From any moment on at which an actor has seen nothing that a step waits for: each step of a part that it makes and that waits has its cause in the steps
-- since that moment, or in what another actor holds as it is made.
abbrev pub WaitsHaveCauses : Type 0
WaitsHaveCauses =
    (z : Sizes) (lines : List Line) (w : World Held) (ss ts : List (Step Kind)) (s : Step Kind) (step : PartStep) (note : ℕ)
    → IsRun z lines w (ss ++ (ts ++ s ∷ [])) → SawNothing (hand_in mmu (run mmu w ss) s.actor).topics
    → s.kind ≡ part_kind (hand_of (run mmu w ss) ts s) step note → PartNeeds step (hand_of (run mmu w ss) ts s)
    → part_waits step (hand_of (run mmu w ss) ts s).topics (answer_of (run mmu w ss) ts s) ≡ true
    → StepWaitIsCaused step z (run mmu w ss) ts s

-- In every run each step of a part that waits, whoever makes it, has seen another actor.
abbrev pub WaitsInRunsSeeAnother : Type 0
WaitsInRunsSeeAnother =
    (z : Sizes) (lines : List Line) (w : World Held) (ss : List (Step Kind)) (s : Step Kind) (step : PartStep) (note : ℕ) → IsRun z lines w (ss ++ s ∷ [])
    → s.kind ≡ part_kind (hand_of w ss s) step note → PartNeeds step (hand_of w ss s)
    → part_waits step (hand_of w ss s).topics (answer_of w ss s) ≡ true
    → SawAnother step (hand_of w ss s) (part_seen step (hand_of w ss s) (answer_of w ss s))

-- With the step the fault of the line ends its section, to begin anew, for this cause in the steps before it, in this section.
pub record BeginsAnew (z : Sizes) (w : World Held) (ss : List (Step Kind)) (s : Step Kind) : Type 0 where
  pub fast : Bool
  pub cause : Cause
  pub gfn : ℕ
  pub word : ℕ
  pub op : Op
  pub at : (hand_of w ss s).state.place ≡ place.Access (access.Fault (End (Retry fast cause)))
  pub access_is : (hand_of w ss s).state.line.command ≡ Access gfn word op
  pub caused : IsCaused cause z s.actor gfn w ss

-- It is a step of a part that waits, for its cause.
pub record StepWaits (z : Sizes) (w : World Held) (ss : List (Step Kind)) (s : Step Kind) : Type 0 where
  pub step : PartStep
  pub note : ℕ
  pub is : s.kind ≡ part_kind (hand_of w ss s) step note
  pub needs : PartNeeds step (hand_of w ss s)
  pub waits : part_waits step (hand_of w ss s).topics (answer_of w ss s) ≡ true
  pub caused : StepWaitIsCaused step z w ss s

-- Since the fault of the actor's access of this guest frame began, another actor took an entry of the guest frame from it: with this step it found a leaf
-- there and left none, or, where the access writes, one that forbids the writes which it allowed. From before it on, up to the last of the steps, the actor's
-- line stood in this fault, or in the stay in the guest after it.
pub record WasTakenAway (z : Sizes) (actor gfn : ℕ) (write : Bool) (w : World Held) (ss : List (Step Kind)) : Type 0 where
  pub earlier : List (Step Kind)
  pub takes : Step Kind
  pub later : List (Step Kind)
  pub are : ss ≡ earlier ++ takes ∷ later
  pub by_other : takes.actor ≢ actor
  pub is : TakesLeaf z gfn (run mmu w earlier) takes ⊎ ((write ≡ true) × ForbidsWrites z gfn (run mmu w earlier) takes)
  pub stood : Throughout (StandsSinceFault actor gfn write) (run mmu w earlier) (takes ∷ later)

-- The step is one of the stay after a fault that has installed an entry, and finds no translation that allows the access: it leaves the guest for another
-- fault. Since the fault began, in the steps before it, an entry of the guest frame was taken away; whether this is why the stay finds none isn't said.
pub record MissesEntry (z : Sizes) (w : World Held) (ss : List (Step Kind)) (s : Step Kind) : Type 0 where
  pub gfn : ℕ
  pub word : ℕ
  pub op : Op
  pub fast : Bool
  pub at : (hand_of w ss s).state.place ≡ place.Access (access.Walk true)
  pub access_is : (hand_of w ss s).state.line.command ≡ Access gfn word op
  pub misses : outcome_of (hand_of w ss s) (answer_of w ss s) ≡ Goes (place.Access (access.Leave (leaving.Faults fast)))
  pub taken : WasTakenAway z s.actor gfn (is_write op) w ss

-- The hand counts its step, with this answer, as a delay of its line.
abbrev pub IsDelay : Held → ℕ → Type 0
IsDelay h v = delays_at (place_at h.state.place h) (line_of h).command h v ≡ true

-- From any moment on at which no line of an actor is under way, so from the one at which its line begins: each step that its hand counts as a delay of
-- its line is one of these, with its cause in the steps since that moment.
abbrev pub DelaysHaveCauses : Type 0
DelaysHaveCauses =
    (z : Sizes) (lines : List Line) (w : World Held) (ss ts : List (Step Kind)) (s : Step Kind) → IsRun z lines w (ss ++ (ts ++ s ∷ []))
    → (hand_in mmu (run mmu w ss) s.actor).state.place ≡ Between → has_line (hand_of (run mmu w ss) ts s) ≡ true
    → IsDelay (hand_of (run mmu w ss) ts s) (answer_of (run mmu w ss) ts s)
    → BeginsAnew z (run mmu w ss) ts s ⊎ StepWaits z (run mmu w ss) ts s ⊎ MissesEntry z (run mmu w ss) ts s

-- From any moment on in which no line of an actor is under way, so from the one at which its line begins: a step that answers the line
-- starved, or refuses it a frame, ends a scan of the whole map by the line's actor since that moment, which found nothing free in any of its words.
abbrev pub StarvedLinesScanned : Type 0
StarvedLinesScanned =
    (z : Sizes) (map : FreeMap) (lines : List Line) (w : World Held) (ss ts : List (Step Kind)) (s : Step Kind) → IsRun z lines w (ss ++ (ts ++ s ∷ []))
    → (hand_in mmu (run mmu w ss) s.actor).state.place ≡ Between
    → outcome_of (hand_of (run mmu w ss) ts s) (answer_of (run mmu w ss) ts s) ≡ Ends (answer_without map)
    → EndsWithScan z map s.actor (map_words map z) (run mmu w ss) (ts ++ s ∷ [])
