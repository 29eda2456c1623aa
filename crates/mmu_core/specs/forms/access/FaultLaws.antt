-- The order of a fault's steps can be kept, and comes to an end.
use Rattle.std.specs.Prelude.{◌≡◌, ◌+◌, ◌^◌, ◌<◌, ◌≤◌, ℕ, Bool, false}
use Rattle.core_views.specs.declared.place.FaultPlace.{FaultPlace}
use Rattle.core_views.specs.declared.place.FaultPlace.TheVariants.{FastBegin}
use Rattle.core_views.specs.declared.sizes.Sizes.{Sizes}
use Rattle.core_views.specs.declared.topics.Topics.{Topics}
use Rattle.core_views.specs.Held.{Held}
use Rattle.core_views.specs.Sizes.{AreSizes}
use Rattle.spte_words.specs.declared.area.Area.{Area}
use Rattle.part_steps.specs.declared.part_step.PartStep.{PartStep}
use Rattle.part_steps.specs.declared.part_step.PartStep.TheVariants as part
use Rattle.mmu_core.specs.forms.access.FaultKnows.{FaultKnows, KnowsNext}
use Rattle.mmu_core.specs.forms.access.FaultLeft.{fault_left, next_left}
use Rattle.mmu_core.specs.forms.access.FaultSteps.{fault_next, fault_part}
use Rattle.mmu_core.specs.lines.PartWaits.{part_waits}
use Rattle.part_steps.specs.PartBounds.{PartRests}
use Rattle.part_steps.specs.PartTasks.{part_task}
use Rattle.part_steps.specs.PartSteps.{PartNeeds}
use Rattle.part_steps.specs.PartTopics.{part_topics}
use Rattle.mmu_core.specs.machine.View.{answer_in}

-- what a step of a part can answer: a fill what it stored, and every other step any word
abbrev pub CanAnswer : PartStep → ℕ → Type 0
CanAnswer (part.Fill value) v = v ≡ value
CanAnswer (part.Role value) v = v ≡ value
CanAnswer (part.SetStart first value) v = v ≡ value
CanAnswer (part.SetEnd last value) v = v ≡ value
CanAnswer (part.SetCount value) v = v ≡ value
CanAnswer (part.SetSeq value) v = v ≡ value
CanAnswer _ v = Unit {0}

-- What a step of a part answers is what it can answer, whatever the words are.
abbrev pub PartsAnswer : Type 0
PartsAnswer = (step : PartStep) (own : ℕ) (t : Topics) (note : ℕ) (words : Area → ℕ → ℕ) → CanAnswer step (answer_in (part_task step own t note) words)

-- What a fault knows at a place, with what every reachable hand rests on, is what the step of this place needs.
abbrev pub FaultMeetsNeeds : Type 0
FaultMeetsNeeds =
    (p : FaultPlace) (h : Held) (gfn : ℕ) (write : Bool)
    → gfn < 2 ^ 36 → PartRests h → FaultKnows p h.state.sizes gfn write h.topics
    → PartNeeds (fault_part p gfn h.topics) h

-- Whatever the step answers, the fault knows after it what its next place asks.
abbrev pub FaultStaysKnown : Type 0
FaultStaysKnown =
    (p : FaultPlace) (h : Held) (gfn v : ℕ) (write : Bool)
    → gfn < 2 ^ 36 → PartRests h → FaultKnows p h.state.sizes gfn write h.topics
    → CanAnswer (fault_part p gfn h.topics) v
    → KnowsNext (fault_next p h.state.sizes gfn write h.topics v) h.state.sizes gfn write (part_topics (fault_part p gfn h.topics) h.topics v)

-- Each step that doesn't wait for another actor leaves the fault fewer steps.
abbrev pub FaultStepsFall : Type 0
FaultStepsFall =
    (p : FaultPlace) (h : Held) (gfn v : ℕ) (write : Bool)
    → gfn < 2 ^ 36 → PartRests h → FaultKnows p h.state.sizes gfn write h.topics
    → part_waits (fault_part p gfn h.topics) h.topics v ≡ false
    → next_left (fault_next p h.state.sizes gfn write h.topics v) h.state.sizes (part_topics (fault_part p gfn h.topics) h.topics v)
    < fault_left p h.state.sizes h.topics

-- A fast fault and the whole one after it have at most so many steps.
abbrev pub FaultIsBounded : Type 0
FaultIsBounded = (z : Sizes) (t : Topics) → AreSizes z → fault_left FastBegin z t ≤ 8192 + z.pool
