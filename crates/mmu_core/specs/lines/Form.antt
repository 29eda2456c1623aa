-- What a form of line says at one of its places, in one record.
use Rattle.std.specs.Prelude.{ℕ, Bool, false, List, [], Option, Some}
use Rattle.circular_buffer.specs.Buffer.{Buffer}
use Rattle.core_views.specs.declared.cache.Translation.{Translation}
use Rattle.core_views.specs.declared.event.EventKind.{EventKind}
use Rattle.core_views.specs.declared.place.Place.{Place}
use Rattle.core_views.specs.declared.sizes.Sizes.{Sizes}
use Rattle.core_views.specs.declared.topics.Topics.{Topics}
use Rattle.core_views.specs.declared.trace.Command.{Command}
use Rattle.core_views.specs.declared.trace.Command.TheVariants.{Access, ChangeHost, ChangeRun, Split}
use Rattle.core_views.specs.declared.trace.HostChange.{HostChange}
use Rattle.core_views.specs.declared.trace.Op.{Op}
use Rattle.core_views.specs.declared.trace.RunChange.{RunChange}
use Rattle.core_views.specs.Held.{Held, State}
use Rattle.core_views.specs.SlotSets.{MemorySlots}
use Rattle.part_steps.specs.declared.part_step.PartStep.{PartStep}
use Rattle.part_steps.specs.declared.part_step.PartStep.TheVariants as part
use Rattle.mmu_core.specs.declared.outcome.Outcome.{Outcome}
use Rattle.mmu_core.specs.declared.outcome.Outcome.TheVariants.{Goes}

pub record Form : Type 1 where
  -- whether the place is one of lines with this command, and whether a line begins there
  pub is_for : Command → Bool
  pub is_first : Bool
  -- the step of a part; none where the guest touches
  pub part : Command → Held → Option PartStep
  -- 1 where the line may end with it
  pub note : Command → Held → ℕ
  -- where the line stands after it
  pub outcome : Command → Held → ℕ → Outcome
  -- the most steps that are left
  pub left : Command → Sizes → Topics → ℕ
  -- what the state has loaded, what is cached, the manager's record, and what was read of a log, after it
  pub loads : Command → Held → ℕ → State
  pub caches : Command → Held → ℕ → Buffer Translation
  pub records : Command → MemorySlots → MemorySlots
  pub reads : Command → Held → ℕ → List ℕ
  -- what it tells
  pub tells : Command → Held → ℕ → List EventKind
  -- what the step needs, what the record accepts, what the actor holds, and what was loaded or stored
  pub Rests : Command → Held → Type 0
  pub Accepts : Command → Sizes → MemorySlots → Type 0
  pub Knows : Command → Held → Type 0
  pub Holds : Sizes → (ℕ → ℕ) → Command → Held → Type 0
  -- whether its actor may have a page that is retired, an open invalidation, or a frame
  pub retires : Bool
  pub opens : Bool
  pub owns_frame : Bool

-- what is said at a place of which its form says nothing
abbrev pub plain_form : Place → Form
plain_form p = record {
  is_for = λ command. false;
  is_first = false;
  part = λ command h. Some part.Seq;
  note = λ command h. 0;
  outcome = λ command h v. Goes p;
  left = λ command z t. 0;
  loads = λ command h v. h.state;
  caches = λ command h v. h.cached;
  records = λ command slots. slots;
  reads = λ command h v. h.harvest;
  tells = λ command h v. [];
  Rests = λ command h. ⊥;
  Accepts = λ command z slots. Unit {0};
  Knows = λ command h. ⊥;
  Holds = λ z pool command h. ⊥;
  retires = false;
  opens = false;
  owns_frame = false;
}

-- what is said of an access, of a change of a host page, or of a run of them, or of a split, and of another command
abbrev pub of_access {ℓ} : {A : Type ℓ} → Command → (ℕ → ℕ → Op → A) → A → A
of_access (Access gfn word op) is other = is gfn word op
of_access _ is other = other

abbrev pub of_change {ℓ} : {A : Type ℓ} → Command → (ℕ → HostChange → A) → A → A
of_change (ChangeHost page change) is other = is page change
of_change _ is other = other

abbrev pub of_run {ℓ} : {A : Type ℓ} → Command → (ℕ → RunChange → A) → A → A
of_run (ChangeRun page change) is other = is page change
of_run _ is other = other

abbrev pub of_split {ℓ} : {A : Type ℓ} → Command → (ℕ → A) → A → A
of_split (Split gfn) is other = is gfn
of_split _ is other = other
