-- The words of a slot in a slot set, and the leaf of a host page in a slot.
use Rattle.std.specs.Prelude.{◌≡◌, ◌<◌, ◌≤◌, ◌+◌, ◌-◌, ◌*◌, ◌%◌, ℕ, List, [], ◌∷◌, ◌++◌, zero, suc, Bool, true, false, ◌&&◌, not, if◌then◌else◌}
use Rattle.core_views.specs.declared.place.SlotField.{SlotField}
use Rattle.core_views.specs.declared.place.SlotField.TheVariants.{Base, Pages, Host, Flags}
use Rattle.core_views.specs.declared.trace.Slot.{Slot}
use Rattle.core_views.specs.declared.memory_slot.MemorySlot.{MemorySlot}
use Rattle.core_views.specs.Slots.{Slots, contains}
use Rattle.core_views.specs.SlotSets.{MemorySlots}
use Rattle.spte_words.specs.Areas.{pool_index}
use Rattle.spte_words.specs.Entries.{leaf_word, level_span}
use Rattle.spte_words.specs.Flags.{flags_live, flags_logged, flags_read_only}
use Rattle.spte_words.specs.HostWords.{host_frame, host_allows_write}

-- A slot's four words in its set, in their order.
abbrev pub field_number : SlotField → ℕ
field_number Base = 0
field_number Pages = 1
field_number Host = 2
field_number Flags = 3

-- the pool's word that holds a field of the slot with this ID, in the slot set of a pool page
abbrev pub slot_index : ℕ → ℕ → SlotField → ℕ
slot_index set id field = pool_index set (4 * id + field_number field)

-- the slot with this ID as the pool's words have it, and whether it is live
abbrev pub live_at : (ℕ → ℕ) → ℕ → ℕ → Bool
live_at pool set id = flags_live (pool (slot_index set id Flags))

abbrev pub slot_at : (ℕ → ℕ) → ℕ → ℕ → Slot
slot_at pool set id = record {
  base = pool (slot_index set id Base);
  pages = pool (slot_index set id Pages);
  host = pool (slot_index set id Host);
  read_only = flags_read_only (pool (slot_index set id Flags));
}

-- the same, with its dirty log or without
abbrev pub memory_slot_at : (ℕ → ℕ) → ℕ → ℕ → MemorySlot
memory_slot_at pool set id = record { slot = slot_at pool set id; logged = flags_logged (pool (slot_index set id Flags)) }

-- what is live of the IDs below n, by rising ID
abbrev pub live_below : {A : Type 0} → (ℕ → Bool) → (ℕ → A) → ℕ → List (ℕ × A)
live_below live at zero = []
live_below live at (suc n) = live_below live at n ++ (if live n then (n, at n) ∷ [] else [])

-- the live slots with IDs below n
abbrev pub slots_below : (ℕ → ℕ) → ℕ → ℕ → Slots
slots_below pool set n = live_below (live_at pool set) (slot_at pool set) n

-- the same, each with its dirty log or without
abbrev pub memory_slots_below : (ℕ → ℕ) → ℕ → ℕ → MemorySlots
memory_slots_below pool set n = live_below (live_at pool set) (memory_slot_at pool set) n

-- No live slot of the set with an ID below this one has the guest frame.
abbrev pub NoneBelow : ℕ → (ℕ → ℕ) → ℕ → ℕ → Type 0
NoneBelow gfn pool set id = (i : ℕ) → i < id → live_at pool set i ≡ true → contains gfn (slot_at pool set i) ≡ false

-- No live slot of the set has a page for the access: each that has the guest frame is read-only, and the access is a write.
abbrev pub NoneHasPage : ℕ → Bool → (ℕ → ℕ) → ℕ → Type 0
NoneHasPage gfn write pool set =
    (i : ℕ) → i ≤ 31 → live_at pool set i ≡ true → contains gfn (slot_at pool set i) ≡ true → (write && (slot_at pool set i).read_only) ≡ true

-- the host page behind a guest frame of the slot
abbrev pub page_of : Slot → ℕ → ℕ
page_of slot gfn = slot.host + (gfn - slot.base)

-- The host, and the slot too, allow writes to the page whose host word this is.
abbrev pub may_write : Slot → ℕ → Bool
may_write slot host = host_allows_write host && not slot.read_only

-- the leaf of a level at this first frame, of pages in the slot with this host word: with write permission, if it is asked for, where host and slot allow it
abbrev pub leaf_at : ℕ → ℕ → Bool → Slot → ℕ → ℕ
leaf_at level first writes slot host = leaf_word level first (writes && may_write slot host) (host_allows_write host) (may_write slot host)

-- the leaf of a level over the run of a guest frame, from the host word of the guest frame's page: its own frame is that of the run's first page
abbrev pub leaf_of : ℕ → ℕ → Bool → Slot → ℕ → ℕ
leaf_of level gfn writes slot host = leaf_at level (host_frame host - gfn % level_span level) writes slot host
