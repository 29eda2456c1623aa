-- Memory slots (api.rst, KVM_SET_USER_MEMORY_REGION): guest frames of a slot are consecutive host pages.
use Rattle.std.specs.Prelude.{◌+◌, ◌-◌, ◌^◌, ◌==◌, ◌&&◌, ◌||◌, ℕ, List, [], ◌∷◌, Bool, true, false, not, nat_le, nat_lt, if◌then◌else◌, find, Option}
use Rattle.std.specs.Prelude.{Some, None}
use Rattle.std.specs.Bool.{beq}
use Rattle.std.specs.List.{list_any}
use Rattle.std.specs.Ordering.{nat_cmp}
use Rattle.std.specs.BTreeMap.{insert_entry}
use Rattle.std.specs.Map.{lookup, values_of}
use Rattle.core_views.specs.declared.answer.Refusal.{Refusal}
use Rattle.core_views.specs.declared.trace.Op.{Op}
use Rattle.core_views.specs.declared.trace.Op.TheVariants.{Read, Write, Add}
use Rattle.core_views.specs.declared.trace.Slot.{Slot}

-- the slots, each with its ID, by rising ID
abbrev pub Slots : Type 0
Slots = List (ℕ × Slot)

-- the slots, with this one at the ID
abbrev pub with_slot : ℕ → Slot → Slots → Slots
with_slot id slot slots = insert_entry nat_cmp slots id slot

-- the slot with the ID, or none
abbrev pub slot_with_id : ℕ → Slots → Option Slot
slot_with_id id slots = lookup (λ i. i == id) slots

-- The slot contains the guest frame.
abbrev pub contains : ℕ → Slot → Bool
contains gfn slot = nat_le slot.base gfn && nat_lt gfn (slot.base + slot.pages)

-- the slot that contains the guest frame, or none; slots of one machine don't overlap
abbrev pub slot_of : Slots → ℕ → Option Slot
slot_of slots gfn = find (contains gfn) (values_of slots)

abbrev pub is_write : Op → Bool
is_write Read = false
is_write (Write x) = true
is_write (Add x) = true

abbrev pub page_in : ℕ → Op → Option Slot → Option ℕ
page_in gfn op None = None
page_in gfn op (Some slot) = if is_write op && slot.read_only then None else Some (slot.host + (gfn - slot.base))

-- the host page that the slots give the guest frame for this operation: none outside every slot, and none to a write in a read-only slot
abbrev pub page_behind : Slots → ℕ → Op → Option ℕ
page_behind slots gfn op = page_in gfn op (slot_of slots gfn)

-- The slot has the host page.
abbrev pub has_host_page : ℕ → Slot → Bool
has_host_page page slot = nat_le slot.host page && nat_lt page (slot.host + slot.pages)

-- Slots of at least one page have a guest frame in common where one contains the other's first.
abbrev pub share_guest_frames : Slot → Slot → Bool
share_guest_frames a b = contains a.base b || contains b.base a

-- They have a host page in common where one has the other's first.
abbrev pub share_host_pages : Slot → Slot → Bool
share_host_pages a b = has_host_page a.host b || has_host_page b.host a

-- the refusal of the first condition that holds, or none
abbrev pub first_of : List (Bool × Refusal) → Option Refusal
first_of [] = None
first_of ((holds, refusal) ∷ rows) = if holds then Some refusal else first_of rows

-- There is something, and it passes the test.
abbrev pub is_some_and : {A : Type 0} → (A → Bool) → Option A → Bool
is_some_and test None = false
is_some_and test (Some x) = test x

-- The slot reaches past 2 ^ 36 guest frames, or past so many host pages.
abbrev pub is_too_large : ℕ → Slot → Bool
is_too_large total slot = nat_lt (2 ^ 36) (slot.base + slot.pages) || nat_lt total (slot.host + slot.pages)

-- The slot that was there has another number of pages.
abbrev pub resizes : Slot → Slot → Bool
resizes slot was = not (was.pages == slot.pages)

-- The slot that was there has other host pages, or is read-only and this one isn't, or the other way round.
abbrev pub changes_fixed : Slot → Slot → Bool
changes_fixed slot was = not (was.host == slot.host) || not (beq was.read_only slot.read_only)

-- A slot with another ID has a guest frame in common with this one.
abbrev pub meets_guest_frames : ℕ → Slot → Slots → Bool
meets_guest_frames id slot slots = list_any (λ entry. not (entry.0 == id) && share_guest_frames slot entry.1) slots

-- A slot with another ID has a host page in common with this one.
abbrev pub meets_host_pages : ℕ → Slot → Slots → Bool
meets_host_pages id slot slots = list_any (λ entry. not (entry.0 == id) && share_host_pages slot entry.1) slots
