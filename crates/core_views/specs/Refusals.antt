-- Why a call on a slot set is refused (api.rst, KVM_SET_USER_MEMORY_REGION): a row of conditions, of which the first that holds answers.
use Rattle.std.specs.Prelude.{◌==◌, ◌&&◌, ℕ, Bool, true, false, not, [], ◌∷◌, Option, Some, None, nat_lt, is_none}
use Rattle.core_views.specs.declared.answer.Refusal.{Refusal}
use Rattle.core_views.specs.declared.answer.Refusal.TheVariants.{BadId, TooLarge, Missing, Logged, NoLog, Resize, Fixed, Overlap, HostOverlap}
use Rattle.core_views.specs.declared.trace.Slot.{Slot}
use Rattle.core_views.specs.declared.memory_slot.MemorySlot.{MemorySlot}
use Rattle.core_views.specs.Slots.{changes_fixed, first_of, is_some_and, is_too_large, meets_guest_frames, meets_host_pages, resizes, slot_with_id}
use Rattle.core_views.specs.SlotSets.{MemorySlots, flat_slots, slot_of_id, with_slot_at}

-- The slot that was there has a dirty log, and another first guest frame.
abbrev pub moves_logged : Slot → MemorySlot → Bool
moves_logged slot was = was.logged && not (was.slot.base == slot.base)

-- the slot with these numbers
abbrev pub slot_from : ℕ → ℕ → ℕ → Bool → Slot
slot_from base pages host ro = record { base = base; pages = pages; host = host; read_only = ro }

-- why this slot is refused, on a machine of so many host pages
abbrev pub set_refusal : ℕ → ℕ → Slot → MemorySlots → Option Refusal
set_refusal total id slot slots = first_of (
    (nat_lt 31 id, BadId)
    ∷ (is_too_large total slot, TooLarge)
    ∷ (is_some_and (resizes slot) (slot_with_id id (flat_slots slots)), Resize)
    ∷ (is_some_and (changes_fixed slot) (slot_with_id id (flat_slots slots)), Fixed)
    ∷ (is_some_and (moves_logged slot) (slot_of_id id slots), Logged)
    ∷ (meets_guest_frames id slot (flat_slots slots), Overlap)
    ∷ (meets_host_pages id slot (flat_slots slots), HostOverlap)
    ∷ [])

-- The slot with the ID, if there is one, has a dirty log.
abbrev pub is_logged : ℕ → MemorySlots → Bool
is_logged id slots = is_some_and (λ slot. slot.logged) (slot_of_id id slots)

-- why the deletion of the slot with the ID is refused
abbrev pub delete_refusal : ℕ → MemorySlots → Option Refusal
delete_refusal id slots = first_of (
    (nat_lt 31 id, BadId)
    ∷ (is_none (slot_of_id id slots), Missing)
    ∷ (is_logged id slots, Logged)
    ∷ [])

-- why the slot with the ID gets no dirty log, or, where this is false, why it loses none
abbrev pub log_refusal : Bool → ℕ → MemorySlots → Option Refusal
log_refusal true id slots = first_of (
    (is_none (slot_of_id id slots), Missing)
    ∷ (is_logged id slots, Logged)
    ∷ [])
log_refusal false id slots = first_of (
    (is_none (slot_of_id id slots), Missing)
    ∷ (not (is_logged id slots), NoLog)
    ∷ [])

-- the slots, with this one set at the ID: it has a dirty log where the slot that was there had one
abbrev pub after_set : ℕ → Slot → MemorySlots → MemorySlots
after_set id slot slots = with_slot_at id (record { slot = slot; logged = is_logged id slots }) slots

-- the slots, with the dirty log of one on or off
abbrev pub with_log_of : Bool → ℕ → Option MemorySlot → MemorySlots → MemorySlots
with_log_of on id None slots = slots
with_log_of on id (Some was) slots = with_slot_at id (record { slot = was.slot; logged = on }) slots

-- the slots, with the dirty log of the one with the ID on or off
abbrev pub after_log : Bool → ℕ → MemorySlots → MemorySlots
after_log on id slots = with_log_of on id (slot_of_id id slots) slots
