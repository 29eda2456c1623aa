-- What a line that reads a dirty log has read of it so far: what it must not leave out is read, or its word is yet to come; and what it has read has a cause.
use Rattle.std.specs.Prelude.{◌≡◌, ◌⊎◌, ◌-◌, ◌/◌, ◌<◌, ◌≤◌, ℕ, Bool, true, false, List, [], None, Option, Some, if◌then◌else◌}
use Rattle.core_views.specs.declared.place.LogPlace.{LogPlace}
use Rattle.core_views.specs.declared.place.LogPlace.TheVariants.{Take, Peek}
use Rattle.core_views.specs.declared.place.Place.{Place}
use Rattle.core_views.specs.declared.sizes.Sizes.{Sizes}
use Rattle.core_views.specs.declared.trace.Command.{Command}
use Rattle.core_views.specs.declared.trace.Slot.{Slot as SlotOf}
use Rattle.core_views.specs.Flat.{Flat}
use Rattle.core_views.specs.Held.{Held}
use Rattle.core_views.specs.LogCommands.{asks_for}
use Rattle.core_views.specs.Past.{Past}
use Rattle.core_views.specs.Sizes.{actors_of}
use Rattle.core_views.specs.Slots.{contains}
use Rattle.spte_words.specs.declared.area.Area.TheVariants as area
use Rattle.part_steps.specs.SlotWords.{page_of}
use Rattle.mmu_core.specs.forms.log.LogSteps.{slot_asked, word_end, word_read}
use Rattle.mmu_core.specs.forms.log.Readings.{Reading, has_begun, reading_at}
use Rattle.mmu_core.specs.machine.View.{View}
use Rattle.log_invariant.specs.Covered.{is_marked}
use Rattle.log_invariant.specs.forms.log.LogReads.{IsRead}

-- ---- where a line stands

-- It takes out what it reads.
abbrev pub clears : LogPlace → Bool
clears (Peek begun) = false
clears _ = true

-- what it has read, and the word that comes next
abbrev pub words_at : LogPlace → Held → List ℕ
words_at (Take begun) h = if begun then h.harvest else []
words_at _ h = h.harvest

abbrev pub word_at : LogPlace → SlotOf → Command → Held → ℕ
word_at (Take begun) slot command h = word_read begun slot command h.topics
word_at (Peek begun) slot command h = word_read begun slot command h.topics
word_at _ slot command h = word_end slot command

-- ---- what it has read

-- Of the slot's log these words are read, up to this one, and taken out or not. A frame for which the line asks that must not be left out is read, or marked in
-- a word that is to come (`due`); each that is read has a cause (`caused`); and one that is taken out and marked again was written since (`recent`).
pub record HasReadTo (log : ℕ → ℕ) (slot : SlotOf) (command : Command) (out : Bool) (words : List ℕ) (to : ℕ) (past : Past) : Type 0 where
  pub due : (gfn : ℕ) → contains gfn slot ≡ true → asks_for command (gfn - slot.base) ≡ true → past.due gfn ≡ true
      → IsRead slot command words gfn ⊎ ((is_marked log (page_of slot gfn) ≡ true) × (to ≤ page_of slot gfn / 64))
  pub caused : (gfn : ℕ) → IsRead slot command words gfn → past.causes gfn ≡ true
  pub recent : out ≡ true → (gfn : ℕ) → IsRead slot command words gfn → is_marked log (page_of slot gfn) ≡ true → past.recent gfn ≡ true

-- So it is of a reading that has begun to read, of its hand.
abbrev pub ReadSoFar : Option Reading → Held → (ℕ → ℕ) → Past → Type 0
ReadSoFar None h log past = Unit {0}
ReadSoFar (Some r) h log past =
    let slot : SlotOf = slot_asked h r.command in
    has_begun r.place ≡ true → HasReadTo log slot r.command (clears r.place) (words_at r.place h) (word_at r.place slot r.command h) past

abbrev pub ReadSoFarAt : Place → Command → Held → (ℕ → ℕ) → Past → Type 0
ReadSoFarAt p command h log past = ReadSoFar (reading_at p command h) h log past

-- And so it is of the reading that each hand has under way.
abbrev pub Readings : Sizes → View → Flat → Type 0
Readings z v f =
    (i : ℕ) → i < actors_of z → ReadSoFarAt (v.hand i).state.place (v.hand i).state.line.command (v.hand i) (v.words area.Log) f.past
