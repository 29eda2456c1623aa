-- What a line that changes a slot knows at each of its places, from what its actor holds alone.
use Rattle.std.specs.Prelude.{◌≡◌, ◌<◌, ℕ, Bool, Option, Some, true, false, None, is_some}
use Rattle.core_views.specs.declared.answer.Refusal.{Refusal}
use Rattle.core_views.specs.declared.answer.Refusal.TheVariants.{NoFrame}
use Rattle.core_views.specs.declared.place.EndPlace.TheVariants as ends
use Rattle.core_views.specs.declared.place.SlotChangePlace.{SlotChangePlace}
use Rattle.core_views.specs.declared.place.SlotChangePlace.TheVariants.{AtOnce, Claim, Fill, Role, Arm, Begin, Exclude, Count, Close, Publish}
use Rattle.core_views.specs.declared.place.SlotChangePlace.TheVariants.{Release, End, Watch, WriteProtect, Clear, Give}
use Rattle.core_views.specs.declared.topics.Hold.TheVariants.{Loose, Exclusive}
use Rattle.core_views.specs.declared.topics.OwnedPage.{OwnedPage}
use Rattle.core_views.specs.declared.topics.Topics.{Topics}
use Rattle.core_views.specs.declared.sizes.Sizes.{Sizes}
use Rattle.core_views.specs.declared.trace.Command.{Command}
use Rattle.core_views.specs.declared.trace.Slot.{Slot}
use Rattle.core_views.specs.Held.{Held}
use Rattle.core_views.specs.LogCommands.{is_all_set}
use Rattle.core_views.specs.SlotCommands.{arms, change_at_once, slot_invalidated, slots_after}
use Rattle.core_views.specs.Slots.{is_some_and}
use Rattle.core_views.specs.SlotSets.{MemorySlots}
use Rattle.core_views.specs.Sizes.{actors_of}
use Rattle.spte_words.specs.Areas.{words_of_bits}
use Rattle.part_steps.specs.InvalidationRange.{IsSmall}
use Rattle.part_steps.specs.LockHoldings.{HasFlushedAll}
use Rattle.part_steps.specs.PartHoldings.{HasRoleToSet, HasToFill}
use Rattle.part_steps.specs.SetHoldings.{MayGiveOld, MayPublish, OwnsSet}
use Rattle.part_steps.specs.PartSteps.{IsAtRest}
use Rattle.part_steps.specs.SetWords.{IsFilledWith}
pub use Rattle.mmu_core.specs.lines.LockKnows.{HoldsLock}
pub use Rattle.mmu_core.specs.forms.slot_change.ArmKnows.{AreFramesOf, ArmsFitting, ArmsSlot, ArmsThere, Fits, IsInLog, IsSweepable}
use Rattle.mmu_core.specs.lines.PartWaits.{saw_open}
use Rattle.mmu_core.specs.forms.slot_change.SlotChangeSteps.{arm_word, log_target, looked_at, slot_or_none, slot_target}
use Rattle.mmu_core.specs.orders.WriteProtectKnows.{WriteProtectKnows}
use Rattle.mmu_core.specs.orders.InvalidateKnows.{BeginKnows, EndKnows, IsFlushedOut}
use Rattle.mmu_core.specs.orders.InvalidateSteps.{is_among_open}

-- The page of the old slot set is retired, and no page is owned.
pub record HasPublished (retired : Option ℕ) (owned : Option OwnedPage) : Type 0 where
  pub leaves : is_some retired ≡ true
  pub owns_none : owned ≡ None

-- A line is refused for want of a frame. No line that changes a slot is.
abbrev pub is_of_frames : Refusal → Bool
is_of_frames NoFrame = true
is_of_frames _ = false

-- The slot that is moved or deleted, if one is, is flushed out where it was, by an open invalidation of exactly its guest frames, and of no host page; and else
-- no invalidation of the actor's own is open.
pub record HasMadeWay (z : Sizes) (invalidated : Option Slot) (t : Topics) : Type 0 where
  pub opened : t.invalidations.opened ≡ is_some invalidated
  pub of_no_page : t.invalidations.opened ≡ true → t.invalidations.own.pages ≡ None
  pub flushed : (slot : Slot) → invalidated ≡ Some slot → IsFlushedOut z.vcpus slot t

-- what it knows at each place
abbrev pub SlotChangeKnows : SlotChangePlace → Command → Held → Type 0
SlotChangeKnows (AtOnce refusal) command h = IsAtRest h.topics × (is_some_and is_of_frames refusal ≡ false)
SlotChangeKnows (Claim begun) command h = IsAtRest h.topics × (begun ≡ true → h.topics.claim.at < words_of_bits h.state.sizes.pool)
SlotChangeKnows Fill command h = HoldsLock Loose h.topics × HasToFill h.topics
SlotChangeKnows Role command h = HoldsLock Loose h.topics × HasRoleToSet h.topics
SlotChangeKnows (Begin p) command h =
    OwnsSet h.topics × BeginKnows p h.state.sizes (slot_target h command) h.topics × (is_some (slot_invalidated h.slots command) ≡ true)
    × Fits h.state.sizes (slot_or_none (slot_invalidated h.slots command))
SlotChangeKnows (Arm begun) command h =
    HoldsLock Loose h.topics × OwnsSet h.topics × (h.topics.invalidations.opened ≡ false) × ArmsSlot h.state.actor h.state.sizes command h.slots
    × (begun ≡ true → IsInLog (log_target h command) h.topics.next_log_word)
SlotChangeKnows Exclude command h =
    HoldsLock Loose h.topics × OwnsSet h.topics × HasMadeWay h.state.sizes (slot_invalidated h.slots command) h.topics × ArmsThere command h.slots
SlotChangeKnows Count command h =
    HoldsLock Exclusive h.topics × OwnsSet h.topics × HasMadeWay h.state.sizes (slot_invalidated h.slots command) h.topics × ArmsThere command h.slots
SlotChangeKnows Close command h =
    HoldsLock Exclusive h.topics × OwnsSet h.topics × HasMadeWay h.state.sizes (slot_invalidated h.slots command) h.topics
    × (saw_open h.topics.invalidations ≡ true) × ArmsThere command h.slots
SlotChangeKnows Publish command h =
    HoldsLock Exclusive h.topics × MayPublish h.topics × HasMadeWay h.state.sizes (slot_invalidated h.slots command) h.topics × ArmsThere command h.slots
SlotChangeKnows Release command h =
    HoldsLock Exclusive h.topics × HasPublished h.topics.retired h.topics.owned × (h.topics.watched ≡ 0) × (saw_open h.topics.invalidations ≡ false)
    × (h.topics.invalidations.opened ≡ true → h.topics.invalidations.raised ≡ false) × ArmsThere command h.slots
    × HasFlushedAll h.state.sizes.vcpus h.topics × (h.topics.invalidations.opened ≡ true → h.topics.invalidations.own.pages ≡ None)
SlotChangeKnows (End p) command h =
    EndKnows p h.topics × HasPublished h.topics.retired h.topics.owned × (h.topics.watched ≡ 0) × ArmsThere command h.slots
SlotChangeKnows Watch command h =
    HoldsLock Loose h.topics × HasPublished h.topics.retired h.topics.owned × (looked_at h < actors_of h.state.sizes)
    × ArmsFitting h.state.sizes command h.slots × ArmsThere command h.slots
SlotChangeKnows (WriteProtect range p) command h =
    MayGiveOld h × WriteProtectKnows p h.state.sizes range h.topics × IsSweepable h.state.sizes range
    × (arms command ≡ true) × (is_all_set h.state.sizes.mode ≡ false) × AreFramesOf (log_target h command) range
SlotChangeKnows Clear command h = HoldsLock Loose h.topics × MayGiveOld h
SlotChangeKnows Give command h = HoldsLock Loose h.topics × MayGiveOld h

-- What a step asks besides its needs: the slot that is invalidated lies below 2 ^ 36, and the one whose dirty log begins fits the machine.
abbrev pub SlotChangeRests : SlotChangePlace → Command → Held → Type 0
SlotChangeRests (Begin p) command h = IsSmall (slot_target h command)
SlotChangeRests (Arm begun) command h =
    IsInLog (log_target h command) (arm_word begun (log_target h command) h.topics) × Fits h.state.sizes (log_target h command)
SlotChangeRests Watch command h = ArmsFitting h.state.sizes command h.slots
SlotChangeRests _ command h = Unit {0}

-- The line whose set is published has something to do, by the manager's own record.
abbrev pub RecordAccepts : SlotChangePlace → Sizes → Command → MemorySlots → Type 0
RecordAccepts Publish z command slots = change_at_once z command slots ≡ None
RecordAccepts _ z command slots = Unit {0}

-- The line has something to do, by the manager's record, and what is filled of the page that is owned is the set of the record's slots after it.
pub record FillsSet (z : Sizes) (pool : ℕ → ℕ) (command : Command) (slots : MemorySlots) (owned : Option OwnedPage) : Type 0 where
  pub works : change_at_once z command slots ≡ None
  pub filled : IsFilledWith pool (slots_after command slots) owned

-- Up to the publication a slot line has something to do, and fills the set after its change.
abbrev pub SlotChangeHolds : Sizes → (ℕ → ℕ) → SlotChangePlace → Command → Held → Type 0
SlotChangeHolds z pool (AtOnce refusal) command h = change_at_once z command h.slots ≡ Some refusal
SlotChangeHolds z pool (Claim begun) command h = change_at_once z command h.slots ≡ None
SlotChangeHolds z pool Release command h = Unit {0}
SlotChangeHolds z pool (End p) command h = Unit {0}
SlotChangeHolds z pool Watch command h = Unit {0}
SlotChangeHolds z pool (WriteProtect range p) command h = Unit {0}
SlotChangeHolds z pool Clear command h = Unit {0}
SlotChangeHolds z pool Give command h = Unit {0}
SlotChangeHolds z pool _ command h = FillsSet z pool command h.slots h.topics.owned

-- ---- what it has, beside what it knows

-- A page is retired only after the publication, up to the end of the line.
abbrev pub slot_change_retires : SlotChangePlace → Bool
slot_change_retires Release = true
slot_change_retires (End p) = true
slot_change_retires Watch = true
slot_change_retires (WriteProtect range p) = true
slot_change_retires Clear = true
slot_change_retires Give = true
slot_change_retires _ = false

-- An invalidation of its own is open only from the store of one more to that of one less.
abbrev pub slot_change_opens : SlotChangePlace → Bool
slot_change_opens (Begin p) = is_among_open p
slot_change_opens Exclude = true
slot_change_opens Count = true
slot_change_opens Close = true
slot_change_opens Publish = true
slot_change_opens Release = true
slot_change_opens (End ends.Release) = false
slot_change_opens (End p) = true
slot_change_opens _ = false
