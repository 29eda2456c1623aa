-- What a line of a migration promises that reads the dirty logs and copies pages.
use Rattle.std.specs.Prelude.{◌≡◌, ◌+◌, ◌-◌, ◌≤◌, ◌^◌, ◌==◌, ◌&&◌, ◌||◌, ℕ, zero, suc, List, [], ◌∷◌, Bool, not, is_some, length, Option, Some, None, unwrap_or}
use Rattle.core_views.specs.declared.answer.Answer.{Answer}
use Rattle.core_views.specs.declared.answer.Answer.TheVariants.{Copied, Done, Image}
use Rattle.core_views.specs.declared.migration.ImageWord.{ImageWord}
use Rattle.core_views.specs.declared.migration.Migration.{Migration}
use Rattle.core_views.specs.declared.migration.Migration.TheVariants.{Running, Stopped, Unstarted}
use Rattle.core_views.specs.declared.memory_slot.MemorySlot.{MemorySlot}
use Rattle.core_views.specs.declared.trace.MigrationCall.{MigrationCall}
use Rattle.core_views.specs.declared.trace.MigrationCall.TheVariants.{Finish, Resume, Round, Start}
use Rattle.core_views.specs.declared.trace.Op.TheVariants.{Read}
use Rattle.core_views.specs.Memory.{Memory, with_word}
use Rattle.core_views.specs.Migrations.{frames_to_copy, image_words}
use Rattle.core_views.specs.Past.{FrameSet}
use Rattle.core_views.specs.Slots.{page_behind}
use Rattle.core_views.specs.SlotSets.{IsSlotSet, MemorySlots, flat_slots, slot_holding}
use Rattle.flat_model.specs.Dirty.{is_dirty}
use Rattle.flat_model.specs.Kept.{ContentWords, Kept, memory_of}

-- The slot's guest frames are those of a machine.
pub record IsBelow (entry : ℕ × MemorySlot) : Type 0 where
  pub below : entry.1.slot.base + entry.1.slot.pages ≤ 2 ^ 36

-- The slot's host pages are among so many.
pub record FitsIn (pages : ℕ) (entry : ℕ × MemorySlot) : Type 0 where
  pub fits : entry.1.slot.host + entry.1.slot.pages ≤ pages

-- Some slot has the guest frame.
abbrev pub is_held : MemorySlots → FrameSet
is_held slots gfn = is_some (slot_holding gfn slots)

-- The guest frame is in one of these sets.
abbrev pub is_either : List ℕ → List ℕ → FrameSet
is_either dirty to_copy gfn = is_dirty dirty gfn || is_dirty to_copy gfn

-- The word of an image is printed: it isn't 0.
abbrev pub is_printed : ImageWord → Bool
is_printed at = not (at.value == 0)

-- the host page behind a guest frame of a slot
abbrev pub page_of : MemorySlots → ℕ → ℕ
page_of slots gfn = unwrap_or (page_behind (flat_slots slots) gfn Read) 0

-- the image with the first words of a host page, so many, as memory has them
abbrev pub with_words : ℕ → ℕ → Memory → Memory → Memory
with_words zero page memory image = image
with_words (suc count) page memory image = with_word page count (memory page count) (with_words count page memory image)

-- the image with all words of a page, of so many, and with all pages behind these guest frames; a page has a word at least
abbrev pub with_page : ℕ → ℕ → Memory → Memory → Memory
with_page words page memory image = with_words (words - 1 + 1) page memory image

abbrev pub with_pages : ℕ → MemorySlots → List ℕ → Memory → Memory → Memory
with_pages words slots [] memory image = image
with_pages words slots (gfn ∷ frames) memory image = with_pages words slots frames memory (with_page words (page_of slots gfn) memory image)

-- the guest frames that are copied next, and the image then
abbrev pub frames_left : Kept → List ℕ
frames_left kept = frames_to_copy (is_either kept.dirty kept.copies.to_copy) kept.slots

abbrev pub image_after : Kept → Memory
image_after kept = with_pages kept.sizes.words kept.slots (frames_left kept) (memory_of kept.words) (memory_of kept.copies.image)

-- how far the migration has come after it; a line that finishes it stops the guest
abbrev pub state_after : MigrationCall → Migration → Migration
state_after Finish state = Stopped
state_after _ state = state

-- its answer, with this image, where it has copied so many pages
abbrev pub copying_answer : ℕ → MigrationCall → Memory → MemorySlots → ℕ → Answer
copying_answer words Finish image slots count = Image (image_words words image slots)
copying_answer words _ image slots count = Copied count

-- The frames of the slots are neither dirty nor to be copied any longer, and the migration has this image and has come so far. Nothing else changes.
pub record IsCopied (so_far : Migration) (made : ContentWords) (before after : Kept) : Type 0 where
  pub slots : after.slots ≡ before.slots
  pub changed : after.changed ≡ before.changed
  pub words : after.words ≡ before.words
  pub state : after.copies.state ≡ so_far
  pub image : after.copies.image ≡ made
  pub dirty : (gfn : ℕ) → is_dirty after.dirty gfn ≡ (not (is_held before.slots gfn) && is_dirty before.dirty gfn)
  pub to_copy : (gfn : ℕ) → is_dirty after.copies.to_copy gfn ≡ (not (is_held before.slots gfn) && is_dirty before.copies.to_copy gfn)

-- The line copies the pages of the slots that are dirty or yet to be copied, and is answered so. Each slot stands at its ID.
pub record CopiesPages (call : MigrationCall) (before after : Kept) (answer : Answer) : Type 0 where
  pub sound : IsSlotSet before.slots
  pub copied : IsCopied (state_after call before.copies.state) after.copies.image before after
  pub image : memory_of after.copies.image ≡ image_after before
  pub tells : answer ≡ copying_answer before.sizes.words call (memory_of after.copies.image) before.slots (length (frames_left before))

-- A call that has nothing to do is answered so, and changes nothing. Any other starts the migration, in which all frames of the slots are to be copied,
-- copies pages, or ends it; nothing else changes.
pub record StartsMigration (before after : Kept) : Type 0 where
  pub slots : after.slots ≡ before.slots
  pub changed : after.changed ≡ before.changed
  pub words : after.words ≡ before.words
  pub dirty : after.dirty ≡ before.dirty
  pub state : after.copies.state ≡ Running
  pub image : after.copies.image ≡ before.copies.image
  pub to_copy : (gfn : ℕ) → is_dirty after.copies.to_copy gfn ≡ is_held before.slots gfn

abbrev pub Calls : MigrationCall → Kept → Kept → Answer → Type 0
Calls Start before after answer = (answer ≡ Done) × StartsMigration before after
Calls Round before after answer = CopiesPages Round before after answer
Calls Finish before after answer = CopiesPages Finish before after answer
Calls Resume before after answer = (answer ≡ Done) × (after ≡ record before { copies = record before.copies { state = Unstarted } })

abbrev pub Migrates : MigrationCall → Kept → Kept → Answer → Option Answer → Type 0
Migrates call before after answer (Some told) = (answer ≡ told) × (after ≡ before)
Migrates call before after answer None = Calls call before after answer
