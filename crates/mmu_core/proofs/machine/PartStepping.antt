-- A step of a part, with what the invariant says of its hand.
use Rattle.std.proofs.Common.{◌≡◌, ◌≢◌, ◌⊎◌, ◌<◌, ◌+◌, ◌^◌, ℕ, false, Bool, true, refl, arith}
use Rattle.core_views.specs.declared.sizes.Sizes.{Sizes}
use Rattle.core_views.specs.Sizes.{AreSizes, actors_of}
use Rattle.core_views.specs.declared.topics.Topics.{Topics}
use Rattle.core_views.specs.declared.trace.Slot.{Slot as SlotOf}
use Rattle.spte_words.specs.declared.area.Area.{Area}
use Rattle.spte_words.specs.declared.area.Area.TheVariants as area
use Rattle.part_steps.specs.declared.part_step.PartStep.TheVariants as part
use Rattle.part_steps.specs.declared.part_step.PartStep.{PartStep}
use Rattle.part_steps.specs.PartTasks.{IsWithin, own_index, page_owned, part_task}
use Rattle.part_steps.specs.PartSteps.{PartNeeds, needs_line}
use Rattle.part_steps.specs.PartTopics.{part_topics}
use Rattle.std.specs.Prelude.{Option, Some, None}
pub use Rattle.mmu_core.specs.orders.InvalidateKnows.{IsFlushedOut}
use Rattle.mmu_core.specs.invariant.SlotSetPart.{AreSlots, IsLiveIn}
use Rattle.mmu_core.specs.invariant.InvalidatedPart.{IsIn}
use Rattle.mmu_core.specs.machine.View.{View}
use Rattle.mmu_core.specs.invariant.RunsPart.{IsOfSlot}
use Rattle.mmu_core.proofs.forms.access.FaultSame.{over_it}
use Rattle.core_views.specs.Slots.{contains, has_host_page}

-- No two slots in this set have a host page in common.
abbrev pub AreApart : (ℕ → ℕ) → ℕ → Type 0
AreApart pool set =
    (page i j : ℕ) (slot other : SlotOf) → IsLiveIn pool set i slot → IsLiveIn pool set j other → has_host_page page slot ≡ true
    → has_host_page page other ≡ true → slot ≡ other

-- But for this ID the same slots are live in one set as in the other.
abbrev pub AreAlikeBut : (ℕ → ℕ) → ℕ → ℕ → ℕ → Type 0
AreAlikeBut pool set page id =
    (i : ℕ) (slot : SlotOf) → i ≢ id → (IsLiveIn pool set i slot → IsLiveIn pool page i slot) × (IsLiveIn pool page i slot → IsLiveIn pool set i slot)

-- A slot set may be published in place of this one, which is a slot set: each slot of this one is live there, and the same, or its guest frames are flushed
-- out; and they differ at one ID at most.
pub record MayReplace (z : Sizes) (pool : ℕ → ℕ) (slots page : ℕ) (t : Topics) : Type 0 where
  pub old : AreSlots z pool slots
  pub stay : (id : ℕ) (slot : SlotOf) → IsLiveIn pool slots id slot → IsLiveIn pool page id slot ⊎ IsFlushedOut z.vcpus slot t
  pub changed : ℕ
  pub others : AreAlikeBut pool slots page changed

-- The guest frames of a slot that is flushed out are of the actor's own invalidation.
pub flushed_within : (vcpus gfn : ℕ) (slot : SlotOf) (t : Topics) → IsFlushedOut vcpus slot t → contains gfn slot ≡ true → IsIn t.invalidations.own gfn
flushed_within vcpus gfn slot t F holds =
    let O = over_it slot.base gfn (slot.base + slot.pages) holds in
    let first = F.start in
    let last = F.end_ in
    (omega (arith, O.0, first), omega (arith, O.1, last))

-- The actor's own invalidation may be counted with the open ones: no two published slots share a host page, and where it is of no host page it is of one of
-- these slots.
pub record MayInvalidate (pool : ℕ → ℕ) (slots : ℕ) (t : Topics) : Type 0 where
  pub apart : AreApart pool slots
  pub of_slot : t.invalidations.opened ≡ false → t.invalidations.own.pages ≡ None → IsOfSlot pool slots t.invalidations.own

-- What a line says of its own step: a slot set that is published has each slot of the one before it, or has flushed it out; one more invalidation may be
-- counted; and the sequence number stays far below 2 ^ 64.
abbrev pub Replaces : Sizes → PartStep → (ℕ → ℕ) → ℕ → Topics → Type 0
Replaces z part.Publish pool slots t = MayReplace z pool slots (page_owned t.owned) t
Replaces z (part.SetCount count) pool slots t = MayInvalidate pool slots t
Replaces z (part.SetSeq seq) pool slots t = seq < 2 ^ 40
Replaces z _ pool slots t = Unit {0}

-- The actor makes this step of a part, for its line or with no line left.
pub record IsPart (z : Sizes) (v : View) (a : ℕ) (step : PartStep) : Type 0 where
  pub is_sizes : AreSizes z
  pub there : a < actors_of z
  pub sizes : (v.hand a).state.sizes ≡ z
  pub own_place : own_index (v.hand a) ≡ a
  pub needs : PartNeeds step (v.hand a)
  pub slots : AreSlots z (v.words area.Pool) (v.words area.Slots 0)
  pub replaces : Replaces z step (v.words area.Pool) (v.words area.Slots 0) (v.hand a).topics
  pub within : IsWithin (v.hand a) step
  pub small : (b : Area) (i : ℕ) → v.words b i < 2 ^ 64
  pub written : (part_task step a (v.hand a).topics 0).written < 2 ^ 64

-- The step is a publication.
abbrev pub is_publish : PartStep → Bool
is_publish part.Publish = true
is_publish _ = false

-- The step changes a host word.
abbrev pub changes_word : PartStep → Bool
changes_word part.Bring = true
changes_word (part.Change new_) = true
changes_word part.ChangeNext = true
changes_word _ = false

-- A step that isn't one of lines alone publishes nothing, and changes no host word.
pub idle_never : (step : PartStep) → needs_line step ≡ false → is_publish step ≡ false
idle_never part.Publish free = absurd (cc free)
idle_never _ free = refl

pub idle_quiet : (step : PartStep) → needs_line step ≡ false → changes_word step ≡ false
idle_quiet part.Bring free = absurd (cc free)
idle_quiet (part.Change new_) free = absurd (cc free)
idle_quiet part.ChangeNext free = absurd (cc free)
idle_quiet _ free = refl

-- It brings a host page in.
abbrev pub brings : PartStep → Bool
brings part.Bring = true
brings _ = false

-- It is a step of which a line says more than what it needs, which opens or ends an invalidation of the actor's own, with which its owner changes a host word,
-- or which is of the frame that is owned.
abbrev pub is_told : PartStep → Bool
is_told part.Publish = true
is_told (part.SetCount count) = true
is_told (part.SetSeq seq) = true
is_told (part.Change new_) = true
is_told part.ChangeNext = true
is_told part.Frame = true
is_told (part.Copy index) = true
is_told (part.Store index) = true
is_told part.GiveFrame = true
is_told _ = false

pub never_told : (step : PartStep) → is_told step ≡ false → is_publish step ≡ false
never_told part.Publish untold = absurd (cc untold)
never_told _ untold = refl

pub quiet_told : (step : PartStep) → is_told step ≡ false → brings step ≡ false → changes_word step ≡ false
quiet_told part.Bring untold other = absurd (cc other)
quiet_told (part.Change new_) untold other = absurd (cc untold)
quiet_told part.ChangeNext untold other = absurd (cc untold)
quiet_told _ untold other = refl

pub idle_untold : (step : PartStep) → needs_line step ≡ false → is_told step ≡ false
idle_untold part.Publish free = absurd (cc free)
idle_untold (part.SetCount count) free = absurd (cc free)
idle_untold (part.SetSeq seq) free = absurd (cc free)
idle_untold (part.Change new_) free = absurd (cc free)
idle_untold part.ChangeNext free = absurd (cc free)
idle_untold part.Frame free = absurd (cc free)
idle_untold (part.Copy index) free = absurd (cc free)
idle_untold (part.Store index) free = absurd (cc free)
idle_untold part.GiveFrame free = absurd (cc free)
idle_untold _ free = refl

-- what is held after the step of a part, or after the touch
abbrev pub behind_part : Option PartStep → Topics → ℕ → Topics
behind_part None t v = t
behind_part (Some step) t v = part_topics step t v

-- how much a step raises the sequence number
abbrev pub rises : PartStep → ℕ
rises (part.SetSeq seq) = 1
rises _ = 0

abbrev pub raises : Option PartStep → ℕ
raises None = 0
raises (Some step) = rises step

pub untold_rises : (step : PartStep) → is_told step ≡ false → rises step ≡ 0
untold_rises (part.SetSeq seq) untold = absurd (cc untold)
untold_rises _ untold = refl

pub replaces_none : (z : Sizes) (step : PartStep) (pool : ℕ → ℕ) (slots : ℕ) (t : Topics) → is_told step ≡ false → Replaces z step pool slots t
replaces_none z part.Publish pool slots t never = absurd (cc never)
replaces_none z (part.SetCount count) pool slots t never = absurd (cc never)
replaces_none z (part.SetSeq seq) pool slots t never = absurd (cc never)
replaces_none z _ pool slots t never = tt
