-- The image of a migration: what it holds while the migration goes on (api.rst, KVM_GET_DIRTY_LOG), and as it is answered.
use Rattle.std.specs.Prelude.{◌≡◌, ◌≢◌, ◌↔◌, ◌⊎◌, ◌+◌, ◌<◌, ℕ, Bool, Contains, List, [], ◌∷◌, ◌++◌, Some, true, false}
use Rattle.core_views.specs.declared.actor.Actor.{Actor}
use Rattle.core_views.specs.declared.answer.Answer.TheVariants.{Image}
use Rattle.core_views.specs.declared.event.Event.{Event}
use Rattle.core_views.specs.declared.event.EventKind.{EventKind}
use Rattle.core_views.specs.declared.event.EventKind.TheVariants.{Answered, Begun}
use Rattle.core_views.specs.declared.migration.ImageWord.{ImageWord}
use Rattle.core_views.specs.declared.sizes.Sizes.{Sizes}
use Rattle.core_views.specs.declared.memory_slot.MemorySlot.{MemorySlot}
use Rattle.core_views.specs.declared.trace.Command.{Command}
use Rattle.core_views.specs.declared.trace.Command.TheVariants.{Access, ChangeHost, ChangeRun, Split}
use Rattle.core_views.specs.declared.trace.Op.TheVariants.{Read}
use Rattle.core_views.specs.Events.{after_all}
use Rattle.core_views.specs.Flat.{Facts, first_flat}
use Rattle.core_views.specs.Lawful.{IsLawful}
use Rattle.core_views.specs.Memory.{Memory}
use Rattle.core_views.specs.Migrations.{image_words, is_migrating}
use Rattle.core_views.specs.Past.{FrameSet}
use Rattle.core_views.specs.Slots.{page_behind}
use Rattle.core_views.specs.SlotSets.{MemorySlots, flat_slots, slot_of_id}

-- A guest frame of the host page is in the set.
pub record HasFrameIn (slots : MemorySlots) (frames : FrameSet) (page : ℕ) : Type 0 where
  pub gfn : ℕ
  pub behind : page_behind (flat_slots slots) gfn Read ≡ Some page
  pub among : frames gfn ≡ true

-- Each word of the image of a slot's page is that of memory, or the page is dirty, or yet to be copied.
abbrev pub AreImaged : Sizes → Facts → Type 0
AreImaged z f =
    (page gfn word : ℕ) → page_behind (flat_slots f.slots) gfn Read ≡ Some page → word < z.words
    → (f.image page word ≡ f.memory page word) ⊎ (HasFrameIn f.slots f.pending page ⊎ HasFrameIn f.slots f.to_copy page)

-- The command manages the guest: it is neither an access, nor a change of a host page, nor a split of a leaf.
abbrev pub manages : Command → Bool
manages (Access gfn word op) = false
manages (ChangeHost page change) = false
manages (ChangeRun page change) = false
manages (Split gfn) = false
manages _ = true

-- The event begins no such line, but for the migrator; and so do none of the events.
abbrev pub LeavesManaging : Actor → Actor → EventKind → Type 0
LeavesManaging migrator actor (Begun line) = (actor ≡ migrator) ⊎ (manages line.command ≡ false)
LeavesManaging _ _ _ = Unit {0}

abbrev pub OnlyManages : Actor → List Event → Type 0
OnlyManages migrator [] = Unit {0}
OnlyManages migrator (e ∷ es) = LeavesManaging migrator e.actor e.kind × OnlyManages migrator es

-- After every lawful history in which one actor alone manages the guest: while a migration goes on, its image is so.
abbrev pub MigrationsAreImaged : Type 0
MigrationsAreImaged =
    (z : Sizes) (history : List Event) (migrator : Actor) → IsLawful z first_flat history → OnlyManages migrator history
    → is_migrating (after_all history first_flat).facts.migration ≡ true → AreImaged z (after_all history first_flat).facts

-- An image that this actor is answered after such a history is that of the guest's memory and slots then.
abbrev pub AnsweredImagesAreMemory : Type 0
AnsweredImagesAreMemory =
    (z : Sizes) (history : List Event) (migrator : Actor) (number : ℕ) (words : List ImageWord)
    → IsLawful z first_flat (history ++ (record { actor = migrator; kind = Answered number (Image words) } ∷ [])) → OnlyManages migrator history
    → words ≡ image_words z.words (after_all history first_flat).facts.memory (after_all history first_flat).facts.slots

-- A slot has the ID, and the word of its page, which has so many words, holds the value in memory. It isn't 0.
pub record IsOfMemory (words : ℕ) (memory : Memory) (slots : MemorySlots) (at : ImageWord) : Type 0 where
  pub slot : MemorySlot
  pub there : slot_of_id at.id slots ≡ Some slot
  pub page : at.page < slot.slot.pages
  pub word : at.word < words
  pub value : at.value ≡ memory (slot.slot.host + at.page) at.word
  pub some : at.value ≢ 0

-- So it has just the words of the guest's memory that aren't 0: it leaves none out, and has no other.
abbrev pub AnsweredWordsAreMemory : Type 0
AnsweredWordsAreMemory =
    (z : Sizes) (history : List Event) (migrator : Actor) (number : ℕ) (words : List ImageWord) (at : ImageWord)
    → IsLawful z first_flat (history ++ (record { actor = migrator; kind = Answered number (Image words) } ∷ [])) → OnlyManages migrator history
    → Contains words at ↔ IsOfMemory z.words (after_all history first_flat).facts.memory (after_all history first_flat).facts.slots at

-- A word of an image stands before another: the ID of its slot is lower, or its page, or which word of the page it is.
abbrev pub ComesBefore : ImageWord → ImageWord → Type 0
ComesBefore at other = (at.id < other.id) ⊎ ((at.id ≡ other.id) × ((at.page < other.page) ⊎ ((at.page ≡ other.page) × (at.word < other.word))))

-- Each of them stands before all that follow it.
abbrev pub AreInOrder : List ImageWord → Type 0
AreInOrder [] = Unit {0}
AreInOrder (at ∷ words) = ((other : ImageWord) → Contains words other → ComesBefore at other) × AreInOrder words

-- It has them in this order, and none twice.
abbrev pub AnsweredWordsAreInOrder : Type 0
AnsweredWordsAreInOrder =
    (z : Sizes) (history : List Event) (migrator : Actor) (number : ℕ) (words : List ImageWord)
    → IsLawful z first_flat (history ++ (record { actor = migrator; kind = Answered number (Image words) } ∷ [])) → OnlyManages migrator history
    → AreInOrder words
