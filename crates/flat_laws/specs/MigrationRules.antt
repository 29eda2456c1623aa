-- Which guest frames a migration copies, and what its events leave as it is.
use Rattle.std.specs.Prelude.{◌≡◌, ◌≢◌, ◌↔◌, ℕ, Bool, List, [], ◌∷◌, ◌++◌, is_some, true}
use Rattle.std.specs.List.Sorted.{IsStrictlyIncreasing}
use Rattle.core_views.specs.declared.event.Event.{Event}
use Rattle.core_views.specs.declared.event.EventKind.{EventKind}
use Rattle.core_views.specs.declared.event.EventKind.TheVariants.{GuestStopped, MigrationStarted, PauseSet, Resumed, WordCopied}
use Rattle.core_views.specs.declared.memory_slot.MemorySlot.{MemorySlot}
use Rattle.core_views.specs.declared.sizes.Sizes.{Sizes}
use Rattle.core_views.specs.Events.{after_all, facts_after}
use Rattle.core_views.specs.Flat.{Facts, first_flat}
use Rattle.core_views.specs.Lawful.{IsLawful}
use Rattle.core_views.specs.LogCommands.{is_among}
use Rattle.core_views.specs.Migrations.{frames_in, frames_to_copy, is_stopped}
use Rattle.core_views.specs.Past.{FrameSet}
use Rattle.core_views.specs.SlotSets.{MemorySlots, slot_holding}

-- The frames of a set that are copied are those that a slot has.
abbrev pub FramesOfSlotsAreCopied : Type 0
FramesOfSlotsAreCopied =
    (frames : FrameSet) (slots : MemorySlots) (gfn : ℕ)
    → (is_among gfn (frames_to_copy frames slots) ≡ true) ↔ ((frames gfn ≡ true) × (is_some (slot_holding gfn slots) ≡ true))

-- Those of one slot rise.
abbrev pub FramesOfOneRise : Type 0
FramesOfOneRise = (frames : FrameSet) (slot : MemorySlot) → IsStrictlyIncreasing (frames_in frames slot)

-- Setting the pause, stopping the guest and resuming it change no other fact than how far the migration has come.
abbrev pub MovesAlone : EventKind → Facts → Type 0
MovesAlone kind f = facts_after kind f ≡ record f { migration = (facts_after kind f).migration }

abbrev pub PausesMoveAlone : Type 0
PausesMoveAlone = (f : Facts) → MovesAlone PauseSet f × MovesAlone GuestStopped f × MovesAlone Resumed f

-- The start changes this, and which pages are to be copied.
abbrev pub StartMarksPages : Type 0
StartMarksPages =
    (f : Facts)
    → facts_after MigrationStarted f
    ≡ record f { migration = (facts_after MigrationStarted f).migration; to_copy = (facts_after MigrationStarted f).to_copy }

-- A copy changes the image, and which pages are to be copied.
abbrev pub CopyKeepsGuest : Type 0
CopyKeepsGuest =
    (f : Facts) (gfn page word value : ℕ) (whole : Bool)
    → facts_after (WordCopied gfn page word value whole) f
    ≡ record f {
      image = (facts_after (WordCopied gfn page word value whole) f).image;
      to_copy = (facts_after (WordCopied gfn page word value whole) f).to_copy;
    }

-- The guest is not resumed by any of these events.
abbrev pub NoneResumes : List Event → Type 0
NoneResumes [] = Unit {0}
NoneResumes (e ∷ es) = (e.kind ≢ Resumed) × NoneResumes es

-- In every lawful history: from where the guest is stopped until it is resumed memory stands, and it stays stopped.
abbrev pub StoppedMemoryStands : Type 0
StoppedMemoryStands =
    (z : Sizes) (before since : List Event) → IsLawful z first_flat (before ++ since)
    → is_stopped (after_all before first_flat).facts.migration ≡ true → NoneResumes since
    → ((after_all (before ++ since) first_flat).facts.memory ≡ (after_all before first_flat).facts.memory)
    × (is_stopped (after_all (before ++ since) first_flat).facts.migration ≡ true)
