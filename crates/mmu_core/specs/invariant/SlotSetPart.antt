-- The published slot set, and what a live slot of it is.
use Rattle.std.specs.Prelude.{◌≡◌, ◌+◌, ◌^◌, ◌≤◌, ℕ, true}
use Rattle.core_views.specs.declared.sizes.Sizes.{Sizes}
use Rattle.core_views.specs.declared.trace.Slot.{Slot as SlotOf}
use Rattle.core_views.specs.Slots.{contains, has_host_page}
use Rattle.part_steps.specs.SetWords.{set_role}
use Rattle.part_steps.specs.SlotWords.{live_at, slot_at}

-- The slot's host pages are the machine's, and its guest frames lie below 2 ^ 36.
pub record Fits (z : Sizes) (slot : SlotOf) : Type 0 where
  pub pages : slot.host + slot.pages ≤ z.pages
  pub frames : slot.base + slot.pages ≤ 2 ^ 36

-- The slots of the slot set in a page: each live one fits the machine; no guest frame is in two of them, and no host page.
pub record AreSlots (z : Sizes) (pool : ℕ → ℕ) (set : ℕ) : Type 0 where
  pub fits : (id : ℕ) → id ≤ 31 → live_at pool set id ≡ true → Fits z (slot_at pool set id)
  pub guest_apart : (gfn i j : ℕ) → i ≤ 31 → j ≤ 31 → live_at pool set i ≡ true → live_at pool set j ≡ true
      → contains gfn (slot_at pool set i) ≡ true → contains gfn (slot_at pool set j) ≡ true → i ≡ j
  pub host_apart : (page i j : ℕ) → i ≤ 31 → j ≤ 31 → live_at pool set i ≡ true → live_at pool set j ≡ true
      → has_host_page page (slot_at pool set i) ≡ true → has_host_page page (slot_at pool set j) ≡ true → i ≡ j

-- The slot set that is published, in this page, which has its role.
pub record SlotSetPart (z : Sizes) (set : ℕ) (role pool : ℕ → ℕ) : Type 0 where
  pub role_is : role set ≡ set_role
  pub slots : AreSlots z pool set

-- The slot with this ID is live in the slot set of a pool page, and is this one.
pub record IsLiveIn (pool : ℕ → ℕ) (set id : ℕ) (slot : SlotOf) : Type 0 where
  pub low : id ≤ 31
  pub live : live_at pool set id ≡ true
  pub is : slot_at pool set id ≡ slot
