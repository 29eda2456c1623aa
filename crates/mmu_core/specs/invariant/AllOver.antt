-- What is said of all entries below a table, of each guest frame that they are over; and what leaves say of guest frames.
use Rattle.std.specs.Prelude.{◌≡◌, ◌+◌, ◌*◌, ◌/◌, ◌%◌, ◌<◌, ℕ, true}
use Rattle.core_views.specs.declared.trace.Slot.{Slot as SlotOf}
use Rattle.core_views.specs.Slots.{contains}
use Rattle.spte_words.specs.declared.spte_kind.SpteKind.TheVariants.{Leaf}
use Rattle.spte_words.specs.Areas.{pool_index}
use Rattle.spte_words.specs.Entries.{can_write, frame_in, host_writable, kind_of, leaf_word, level_span, mmu_writable}
use Rattle.spte_words.specs.HostWords.{host_allows_write, host_frame}
use Rattle.mmu_core.specs.invariant.CachedPart.{IsLeafFor}
use Rattle.mmu_core.specs.invariant.SlotSetPart.{IsLiveIn}
use Rattle.mmu_core.specs.invariant.TreePart.{Position, HangsBelow, Use}
use Rattle.part_steps.specs.RunHoldings.{HasRun}
use Rattle.part_steps.specs.SlotWords.{may_write, page_of}

-- The entry of the table that stands here is over the guest frame.
abbrev pub IsEntryOver : Position → ℕ → ℕ → Type 0
IsEntryOver p entry gfn = (entry < 512) × (gfn / level_span p.level ≡ p.prefix * 512 + entry)

-- Each entry of table m, and of each table to which links lead from it, is so: of its level, of each guest frame that it is over, and of its word.
abbrev pub AllOver : (ℕ → Use) → (ℕ → Position) → (ℕ → ℕ) → ℕ → (ℕ → ℕ → ℕ → Type 0) → Type 0
AllOver up spot pool m IsSo =
    (table entry gfn : ℕ) → HangsBelow up m table → IsEntryOver (spot table) entry gfn → IsSo (spot table).level gfn (pool (pool_index table entry))

-- A leaf is the one that slots and host give the guest frame.
abbrev pub LeafIsFor : (ℕ → ℕ) → (ℕ → ℕ) → ℕ → ℕ → ℕ → ℕ → Type 0
LeafIsFor pool host set level gfn w = kind_of level w ≡ Leaf → IsLeafFor pool host set level gfn w

-- What a leaf of any level says of a guest frame of its span: it is the word of a leaf of this level, with no bit besides; a slot has the whole span, and the
-- leaf names the frame of the page that slots and host give this guest frame, as far from the first one of its span as the guest frame is, which begins a span
-- of frames; and it allows no write that they don't allow.
pub record LeafSays (pool host : ℕ → ℕ) (set level gfn leaf : ℕ) : Type 0 where
  pub id : ℕ
  pub slot : SlotOf
  pub live : IsLiveIn pool set id slot
  pub holds : contains gfn slot ≡ true
  pub run : HasRun level gfn slot
  pub word : leaf ≡ leaf_word level (frame_in leaf) (can_write leaf) (host_writable leaf) (mmu_writable leaf)
  pub frame : host_frame (host (page_of slot gfn)) ≡ frame_in leaf + gfn % level_span level
  pub in_place : frame_in leaf % level_span level ≡ 0
  pub writes : can_write leaf ≡ true → may_write slot (host (page_of slot gfn)) ≡ true
  pub host_bit : host_writable leaf ≡ true → host_allows_write (host (page_of slot gfn)) ≡ true
  pub mmu_bit : mmu_writable leaf ≡ true → may_write slot (host (page_of slot gfn)) ≡ true

abbrev pub LeavesSay : (ℕ → ℕ) → (ℕ → ℕ) → ℕ → ℕ → ℕ → ℕ → Type 0
LeavesSay pool host set level gfn w = kind_of level w ≡ Leaf → LeafSays pool host set level gfn w
