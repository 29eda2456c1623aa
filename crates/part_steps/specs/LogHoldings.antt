-- What a hand holds that a step on a word of the dirty log needs, and one that forbids writes in a leaf (kvm_main.c, kvm_get_dirty_log_protect).
use Rattle.std.specs.Prelude.{◌≡◌, ◌+◌, ◌/◌, ◌^◌, ◌<◌, ◌&&◌, ℕ, Bool, true, false, Some, not, nat_le, nat_lt}
use Rattle.std.specs.List.{list_any}
use Rattle.core_views.specs.declared.actor.Actor.TheVariants.{Manager}
use Rattle.core_views.specs.declared.topics.Hold.TheVariants.{Exclusive}
use Rattle.core_views.specs.declared.topics.Stay.TheVariants.{Outside}
use Rattle.core_views.specs.declared.topics.Topics.{Topics}
use Rattle.core_views.specs.declared.trace.Slot.{Slot}
use Rattle.core_views.specs.Held.{Held}
use Rattle.core_views.specs.declared.memory_slot.MemorySlot.{MemorySlot}
use Rattle.core_views.specs.SlotSets.{MemorySlots, slot_of_id}
use Rattle.spte_words.specs.declared.spte_kind.SpteKind.TheVariants.{Leaf}
use Rattle.spte_words.specs.Areas.{words_of_bits}
use Rattle.spte_words.specs.Entries.{can_write, kind_of}
use Rattle.part_steps.specs.PartHoldings.{SawEntry}

-- The actor is the manager, and the word is one of the log.
pub record MayReadLog (word : ℕ) (h : Held) : Type 0 where
  pub manager : h.state.actor ≡ Manager
  pub there : word < words_of_bits h.state.sizes.pages

-- Bits of it may be cleared under the lock alone.
pub record MayTake (word mask : ℕ) (h : Held) : Type 0 where
  pub reads : MayReadLog word h
  pub alone : h.topics.hold ≡ Exclusive
  pub small : mask < 2 ^ 64

-- The words of a slot's dirty log are these, from the first one up to the last: its pages begin with a word (api.rst, KVM_GET_DIRTY_LOG).
abbrev pub log_begin : Slot → ℕ
log_begin slot = slot.host / 64

abbrev pub log_end : Slot → ℕ
log_end slot = slot.host / 64 + words_of_bits slot.pages

-- The word is one of the slot's dirty log, if it has one.
abbrev pub is_in_log : ℕ → Slot → Bool
is_in_log word slot = nat_le (log_begin slot) word && nat_lt word (log_end slot)

-- It is one of a slot that has none.
abbrev pub is_unlogged_word : ℕ → MemorySlots → Bool
is_unlogged_word word slots = list_any (λ entry. not entry.1.logged && is_in_log word entry.1.slot) slots

-- The word may be set before its log begins: it is of a slot that has none, and of no slot that has one.
pub record MayArm (word bits : ℕ) (h : Held) : Type 0 where
  pub reads : MayReadLog word h
  pub small : bits < 2 ^ 64
  pub unlogged : is_unlogged_word word h.slots ≡ true
  pub of_no_log : (id : ℕ) (m : MemorySlot) → slot_of_id id h.slots ≡ Some m → m.logged ≡ true → is_in_log word m.slot ≡ false

-- Writes may be forbidden in the guest frame's leaf, where it was seen to allow them: under the lock alone, with no invalidation of the actor's own open.
pub record MayProtect (gfn : ℕ) (t : Topics) : Type 0 where
  pub alone : t.hold ≡ Exclusive
  pub outside : t.stay ≡ Outside
  pub none_open : t.invalidations.opened ≡ false
  pub saw : SawEntry gfn t.walk
  pub leaf : kind_of t.walk.level t.walk.entry ≡ Leaf
  pub writes : can_write t.walk.entry ≡ true
