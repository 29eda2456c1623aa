-- The order of steps of each line that changes a slot (api.rst, KVM_SET_USER_MEMORY_REGION; kvm_main.c, `kvm_swap_active_memslots`): one that is refused, or
-- sets a slot as it is, makes one load of the sequence. Else a page is claimed and filled with the new slot set; under the lock alone, with no invalidation of
-- others open, it is published in place of the old one; and after a watch of all other actors the old page is given back. Where the slot is moved or deleted,
-- this stands within an invalidation of its guest frames, which begins before the publication and ends after it (kvm_invalidate_memslot). Where it gets a dirty
-- log, its words are set before the publication, and after the watch writes to it are forbidden, unless each page is to be dirty as the log begins.
use Rattle.std.specs.Prelude.{ℕ, true, false, Option, Some, None, ◌==◌, nat_lt, if◌then◌else◌, is_some}
use Rattle.std.specs.Prelude.{◌+◌}
use Rattle.core_views.specs.declared.answer.Answer.TheVariants.{Done, Starved}
use Rattle.core_views.specs.declared.answer.Refusal.{Refusal}
use Rattle.core_views.specs.declared.place.SlotChangePlace.{SlotChangePlace}
use Rattle.core_views.specs.declared.place.SlotChangePlace.TheVariants.{AtOnce, Claim, Fill, Role, Arm, Begin, Exclude, Count, Close, Publish}
use Rattle.core_views.specs.declared.place.SlotChangePlace.TheVariants.{Release, End, Watch, WriteProtect, Clear, Give}
use Rattle.core_views.specs.declared.place.BeginPlace.TheVariants as begins
use Rattle.core_views.specs.declared.place.EndPlace.TheVariants as ends
use Rattle.core_views.specs.declared.place.FrameRange.{FrameRange}
use Rattle.core_views.specs.declared.place.WriteProtectPlace.TheVariants as protect
use Rattle.core_views.specs.declared.place.Place.TheVariants.{SlotChange}
use Rattle.core_views.specs.declared.trace.Command.{Command}
use Rattle.core_views.specs.declared.trace.Slot.{Slot}
use Rattle.core_views.specs.declared.sizes.Sizes.{Sizes}
use Rattle.core_views.specs.Held.{Held}
use Rattle.core_views.specs.LogCommands.{is_all_set}
use Rattle.core_views.specs.SlotCommands.{refused_or_done, slot_armed, slot_invalidated, slots_after}
use Rattle.core_views.specs.SlotSets.{MemorySlots}
use Rattle.mmu_core.specs.declared.outcome.Outcome.{Outcome}
use Rattle.mmu_core.specs.declared.outcome.Outcome.TheVariants.{Goes, Ends}
use Rattle.part_steps.specs.declared.task.Task.{Task}
use Rattle.part_steps.specs.declared.part_step.PartStep.{PartStep}
use Rattle.part_steps.specs.declared.part_step.PartStep.TheVariants as part
use Rattle.part_steps.specs.LogHoldings.{log_end}
use Rattle.part_steps.specs.SetHoldings.{own_open}
use Rattle.part_steps.specs.PartTasks.{own_index, part_task, words_filled}
use Rattle.mmu_core.specs.declared.invalidate.BeginNext.{BeginNext}
use Rattle.mmu_core.specs.declared.invalidate.BeginNext.TheVariants as begins_next
use Rattle.mmu_core.specs.declared.invalidate.EndNext.{EndNext}
use Rattle.mmu_core.specs.declared.invalidate.EndNext.TheVariants as ends_next
use Rattle.mmu_core.specs.orders.InvalidateSteps.{begin_next, begin_part, end_next, end_part}
use Rattle.part_steps.specs.SetWords.{set_role, set_word}
use Rattle.mmu_core.specs.orders.ClaimSteps.{Pages, claim_next, claim_outcome, claim_part, loads_last_word}
use Rattle.mmu_core.specs.declared.claim.ClaimNext.{ClaimNext}
use Rattle.mmu_core.specs.declared.watch.WatchNext.{WatchNext}
use Rattle.mmu_core.specs.declared.write_protect.WriteProtectNext.{WriteProtectNext}
use Rattle.mmu_core.specs.declared.write_protect.WriteProtectNext.TheVariants as protects_next
use Rattle.mmu_core.specs.orders.WriteProtectSteps.{protect_next, protect_part}
pub use Rattle.mmu_core.specs.forms.slot_change.SlotTargets.{arm_bits, arm_part, arm_word, log_target, slot_or_none, slot_target}
pub use Rattle.mmu_core.specs.orders.WatchSteps.{looked_at, watch_next}
use Rattle.mmu_core.specs.orders.WatchSteps.{watch_place}

-- where the line begins
abbrev pub slot_change_first : Option (Option Refusal) → SlotChangePlace
slot_change_first (Some refusal) = AtOnce refusal
slot_change_first None = Claim false

-- the step of each place
abbrev pub slot_change_part : SlotChangePlace → Held → Command → PartStep
slot_change_part (AtOnce refusal) h command = part.Seq
slot_change_part (Claim begun) h command = claim_part Pages begun h.topics.claim
slot_change_part Fill h command = part.Fill (set_word (slots_after command h.slots) (words_filled h.topics.owned))
slot_change_part Role h command = part.Role set_role
slot_change_part (Arm begun) h command = arm_part begun h.state.sizes (log_target h command) h.topics
slot_change_part (Begin p) h command = begin_part p (slot_target h command) h.topics
slot_change_part Exclude h command = part.Exclude
slot_change_part Count h command = part.Count
slot_change_part Close h command = part.Release
slot_change_part Publish h command = part.Publish
slot_change_part Release h command = part.Release
slot_change_part (End p) h command = end_part p h.topics
slot_change_part Watch h command = part.Watch (looked_at h)
slot_change_part (WriteProtect range p) h command = protect_part p range h.topics
slot_change_part Clear h command = part.Clear
slot_change_part Give h command = part.GiveOld

-- 1 where the line may end with the step
abbrev pub slot_change_note : SlotChangePlace → Held → ℕ
slot_change_note (AtOnce refusal) h = 1
slot_change_note (Claim begun) h = if loads_last_word Pages begun h.state.sizes h.topics.claim then 1 else 0
slot_change_note Give h = 1
slot_change_note _ h = 0

abbrev pub slot_change_task : SlotChangePlace → Held → Command → Task
slot_change_task p h command = part_task (slot_change_part p h command) (own_index h) h.topics (slot_change_note p h)

-- the manager's record of the slots after a step: it has the change once its set is published
abbrev pub slot_change_records : SlotChangePlace → Command → MemorySlots → MemorySlots
slot_change_records Publish command slots = slots_after command slots
slot_change_records _ command slots = slots

-- after a step of its claim: the page is to be filled, or the line is answered, since no page is free
abbrev pub after_set_claim : ClaimNext → Outcome
after_set_claim next = claim_outcome (SlotChange (Claim true)) (SlotChange Fill) Starved next

-- After its watch, and after a look of it: writes to a slot are forbidden whose dirty log is to begin, unless each page is dirty then.
abbrev pub frames_of : Slot → FrameRange
frames_of slot = record { start = slot.base; end = slot.base + slot.pages }

abbrev pub after_grace : Sizes → Option Slot → SlotChangePlace
after_grace z None = Clear
after_grace z (Some slot) = if is_all_set z.mode then Clear else WriteProtect (frames_of slot) protect.Exclude

abbrev pub after_watch : Sizes → Option Slot → WatchNext → SlotChangePlace
after_watch z armed next = watch_place Watch (after_grace z armed) next

-- After the new set is filled: a slot that is moved or deleted is invalidated first, and of one whose dirty log begins the words are set. After such a word;
-- after a step of the invalidation's begin, and of its end; and after one that forbids writes.
abbrev pub after_role : Option Slot → Option Slot → SlotChangePlace
after_role invalidated armed = if is_some invalidated then Begin begins.Exclude else if is_some armed then Arm false else Exclude

abbrev pub after_arm : Slot → ℕ → SlotChangePlace
after_arm slot word = if nat_lt (word + 1) (log_end slot) then Arm true else Exclude

abbrev pub after_protect : FrameRange → WriteProtectNext → SlotChangePlace
after_protect range (protects_next.Goes p) = WriteProtect range p
after_protect range protects_next.Over = Clear

abbrev pub after_set_begin : BeginNext → SlotChangePlace
after_set_begin (begins_next.Goes p) = Begin p
after_set_begin begins_next.Begun = Exclude

abbrev pub after_set_end : EndNext → SlotChangePlace
after_set_end (ends_next.Goes p) = End p
after_set_end ends_next.Ended = Watch

-- where the line stands after the step of its place, which found v
abbrev pub slot_change_outcome : SlotChangePlace → Command → Held → ℕ → Outcome
slot_change_outcome (AtOnce refusal) command h v = Ends (refused_or_done refusal)
slot_change_outcome (Claim begun) command h v = after_set_claim (claim_next Pages begun h.state.sizes h.topics.claim v)
slot_change_outcome Fill command h v = Goes (SlotChange (if nat_lt (words_filled h.topics.owned + 1) 512 then Fill else Role))
slot_change_outcome Role command h v = Goes (SlotChange (after_role (slot_invalidated h.slots command) (slot_armed h.slots command)))
slot_change_outcome (Arm begun) command h v =
    Goes (SlotChange (after_arm (log_target h command) (arm_word begun (log_target h command) h.topics)))
slot_change_outcome (Begin p) command h v =
    Goes (SlotChange (after_set_begin (begin_next p h.state.sizes (slot_target h command) h.topics v)))
slot_change_outcome Exclude command h v = Goes (SlotChange (if v == 0 then Count else Exclude))
slot_change_outcome Count command h v = Goes (SlotChange (if v == own_open h.topics.invalidations then Publish else Close))
slot_change_outcome Close command h v = Goes (SlotChange Exclude)
slot_change_outcome Publish command h v = Goes (SlotChange Release)
slot_change_outcome Release command h v = Goes (SlotChange (if h.topics.invalidations.opened then End ends.Exclude else Watch))
slot_change_outcome (End p) command h v = Goes (SlotChange (after_set_end (end_next p v)))
slot_change_outcome Watch command h v = Goes (SlotChange (after_watch h.state.sizes (slot_armed h.slots command) (watch_next h v)))
slot_change_outcome (WriteProtect range p) command h v = Goes (SlotChange (after_protect range (protect_next p h.state.sizes range h.topics v)))
slot_change_outcome Clear command h v = Goes (SlotChange Give)
slot_change_outcome Give command h v = Ends Done
