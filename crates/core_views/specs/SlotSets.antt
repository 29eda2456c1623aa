-- Sets of memory slots (api.rst, KVM_SET_USER_MEMORY_REGION): each slot at its ID, with or without a dirty log.
use Rattle.std.specs.Prelude.{◌≡◌, ◌≢◌, ◌+◌, ◌^◌, ◌≤◌, ◌==◌, ℕ, false, not, List, map, Option, Some, None, find}
use Rattle.std.specs.Ordering.{nat_cmp}
use Rattle.std.specs.BTreeMap.{insert_entry}
use Rattle.std.specs.List.{filter}
use Rattle.std.specs.Map.{keys_of, lookup}
use Rattle.std.specs.List.Sorted.{IsStrictlyIncreasing}
use Rattle.core_views.specs.Slots.{Slots, contains, share_guest_frames, share_host_pages}
use Rattle.core_views.specs.declared.memory_slot.MemorySlot.{MemorySlot}

-- the slots, each with its ID, by rising ID
abbrev pub MemorySlots : Type 0
MemorySlots = List (ℕ × MemorySlot)

-- the slot with the ID, or none
abbrev pub slot_of_id : ℕ → MemorySlots → Option MemorySlot
slot_of_id id slots = lookup (λ i. i == id) slots

-- the slots, with this one at the ID
abbrev pub with_slot_at : ℕ → MemorySlot → MemorySlots → MemorySlots
with_slot_at id slot slots = insert_entry nat_cmp slots id slot

-- the slots, without the one at the ID
abbrev pub without_slot_at : ℕ → MemorySlots → MemorySlots
without_slot_at id slots = filter (λ entry. not (entry.0 == id)) slots

-- the slot that contains the guest frame, with its ID, or none
abbrev pub slot_holding : ℕ → MemorySlots → Option (ℕ × MemorySlot)
slot_holding gfn slots = find (λ entry. contains gfn entry.1.slot) slots

-- the slots alone, as flat memory has them
abbrev pub flat_slots : MemorySlots → Slots
flat_slots slots = map (λ entry. (entry.0, entry.1.slot)) slots

-- the slots, where from now on this is the one with the ID, or there is none
abbrev pub changed_slots : ℕ → Option MemorySlot → MemorySlots → MemorySlots
changed_slots id (Some slot) slots = with_slot_at id slot slots
changed_slots id None slots = without_slot_at id slots

-- IDs rise and are at most 31; each slot has a page at least and lies below 2 ^ 36; no two have a guest frame or a host page in common.
pub record IsSlotSet (slots : MemorySlots) : Type 0 where
  pub rising : IsStrictlyIncreasing (keys_of slots)
  pub ids : (id : ℕ) (m : MemorySlot) → slot_of_id id slots ≡ Some m → id ≤ 31
  pub some : (id : ℕ) (m : MemorySlot) → slot_of_id id slots ≡ Some m → 1 ≤ m.slot.pages
  pub below : (id : ℕ) (m : MemorySlot) → slot_of_id id slots ≡ Some m → m.slot.base + m.slot.pages ≤ 2 ^ 36
  pub guest_apart : (i j : ℕ) (m n : MemorySlot) → i ≢ j → slot_of_id i slots ≡ Some m → slot_of_id j slots ≡ Some n → share_guest_frames m.slot n.slot ≡ false
  pub host_apart : (i j : ℕ) (m n : MemorySlot) → i ≢ j → slot_of_id i slots ≡ Some m → slot_of_id j slots ≡ Some n → share_host_pages m.slot n.slot ≡ false
