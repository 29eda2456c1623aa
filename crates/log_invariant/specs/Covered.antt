-- Of which guest frames writes are logged, and what covers such a write: the page's bit in the dirty log, or a mark that is owed (locking.rst, "Fast page
-- fault"; kvm_main.c, mark_page_dirty_in_slot).
use Rattle.std.specs.Prelude.{◌≡◌, ◌<◌, ◌/◌, ◌%◌, ◌⊎◌, ℕ, Bool, true, Some}
use Rattle.core_views.specs.declared.place.SlotField.TheVariants.{Flags}
use Rattle.core_views.specs.declared.topics.Topics.{Topics}
use Rattle.core_views.specs.declared.trace.Slot.{Slot as SlotOf}
use Rattle.spte_words.specs.Bits.{has_bit}
use Rattle.spte_words.specs.Flags.{flags_logged}
use Rattle.part_steps.specs.SlotWords.{page_of, slot_index}
use Rattle.mmu_core.specs.invariant.SlotSetPart.{IsLiveIn}

-- The slot with this ID is live in the slot set of a pool page, is this one, and has a dirty log.
pub record IsLoggedIn (pool : ℕ → ℕ) (set id : ℕ) (slot : SlotOf) : Type 0 where
  pub live : IsLiveIn pool set id slot
  pub logged : flags_logged (pool (slot_index set id Flags)) ≡ true

-- The bit of the host page is set in the dirty log.
abbrev pub is_marked : (ℕ → ℕ) → ℕ → Bool
is_marked log page = has_bit (page % 64) (log (page / 64))

-- One of so many actors owes a mark for the guest frame.
abbrev pub IsOwed : ℕ → (ℕ → Topics) → ℕ → Type 0
IsOwed n topics gfn = (i : ℕ) × (i < n) × ((topics i).owed ≡ Some gfn)

-- The page that the slot gives the guest frame is marked, or a mark is owed for the frame.
abbrev pub IsCovered : ℕ → (ℕ → ℕ) → (ℕ → Topics) → SlotOf → ℕ → Type 0
IsCovered n log topics slot gfn = (is_marked log (page_of slot gfn) ≡ true) ⊎ IsOwed n topics gfn
