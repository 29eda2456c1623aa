-- What the flat history has of a line of a migration, and of any line as it is answered.
use Rattle.std.specs.Prelude.{ℕ, zero, suc, ◌+◌, ◌-◌, List, [], ◌∷◌, ◌++◌, true, false, unwrap_or}
use Rattle.core_views.specs.declared.answer.Answer.{Answer}
use Rattle.core_views.specs.declared.answer.Answer.TheVariants.{Done}
use Rattle.core_views.specs.declared.event.Event.{Event}
use Rattle.core_views.specs.declared.event.EventKind.{EventKind}
use Rattle.core_views.specs.declared.event.EventKind.TheVariants.{Taken, Harvested, Answered}
use Rattle.core_views.specs.declared.event.EventKind.TheVariants.{GuestStopped, MigrationStarted, PauseSet, Resumed, WordCopied}
use Rattle.core_views.specs.declared.trace.MigrationCall.{MigrationCall}
use Rattle.core_views.specs.declared.trace.MigrationCall.TheVariants.{Start, Round, Finish, Resume}
use Rattle.core_views.specs.declared.trace.Op.TheVariants.{Read}
use Rattle.core_views.specs.Migrations.{frames_to_copy}
use Rattle.std.specs.Map.{keys_of}
use Rattle.core_views.specs.declared.trace.Command.{Command}
use Rattle.core_views.specs.declared.trace.Command.TheVariants.{Migrate}
use Rattle.core_views.specs.declared.sizes.Sizes.{Sizes}
use Rattle.core_views.specs.declared.trace.Line.{Line}
use Rattle.core_views.specs.Slots.{page_behind}
use Rattle.core_views.specs.SlotSets.{flat_slots, slot_of_id}
use Rattle.core_views.specs.Flat.{Facts}
use Rattle.core_views.specs.LogCommands.{asked_frames}
use Rattle.core_views.specs.Events.{facts_after, facts_after_all}
use Rattle.core_views.specs.Lawful.{copied_answer}

abbrev pub by : Line → EventKind → Event
by line kind = record { actor = line.actor; kind = kind }

abbrev pub answers : Line → Answer → List Event
answers line answer = by line (Answered line.number answer) ∷ []

-- A line of a migration copies the words of a page from this one on; `after` is how many come after it.
abbrev pub copying_page : Line → ℕ → ℕ → ℕ → ℕ → (ℕ → ℕ) → List Event
copying_page line gfn page zero word content = by line (WordCopied gfn page word (content word) true) ∷ []
copying_page line gfn page (suc after) word content =
    by line (WordCopied gfn page word (content word) false) ∷ copying_page line gfn page after (word + 1) content

-- the host page behind a guest frame of a slot
abbrev pub page_copied : Facts → ℕ → ℕ
page_copied f gfn = unwrap_or (page_behind (flat_slots f.slots) gfn Read) 0

abbrev pub words_copied : Sizes → Line → ℕ → ℕ → Facts → List Event
words_copied z line gfn word f = copying_page line gfn (page_copied f gfn) (z.words - (word + 1)) word (f.memory (page_copied f gfn))

-- It copies the pages of these guest frames, the first from this word on, where it has copied so many pages before.
abbrev pub copying : Sizes → Line → Command → List ℕ → ℕ → ℕ → Facts → List Event
copying z line command [] count word f = answers line (copied_answer z command count f)
copying z line command (gfn ∷ frames) count word f =
    words_copied z line gfn word f ++ copying z line command frames (count + 1) 0 (facts_after_all (words_copied z line gfn word f) f)

-- It reads what is dirty of the slot, and then of these, and takes it out of their logs; then it copies.
abbrev pub dirty_read : Command → ℕ → Facts → List ℕ
dirty_read command id f = asked_frames f.pending command (slot_of_id id f.slots)

abbrev pub reading_logs : Sizes → Line → Command → List ℕ → Facts → List Event
reading_logs z line command [] f = copying z line command (frames_to_copy f.to_copy f.slots) 0 0 f
reading_logs z line command (id ∷ ids) f =
    by line (Taken id) ∷ by line (Harvested id (dirty_read command id f))
    ∷ reading_logs z line command ids (facts_after (Harvested id (dirty_read command id f)) f)

abbrev pub reading_next : Sizes → Line → Command → ℕ → List ℕ → Facts → List Event
reading_next z line command id ids f =
    by line (Harvested id (dirty_read command id f)) ∷ reading_logs z line command ids (facts_after (Harvested id (dirty_read command id f)) f)

-- It stops the guest before.
abbrev pub stopping : Sizes → Line → Command → Facts → List Event
stopping z line command f = by line GuestStopped ∷ reading_logs z line command (keys_of f.slots) (facts_after GuestStopped f)

abbrev pub migrating : Sizes → Line → MigrationCall → Facts → List Event
migrating z line Start f = by line MigrationStarted ∷ answers line Done
migrating z line Round f = reading_logs z line (Migrate Round) (keys_of f.slots) f
migrating z line Finish f = by line PauseSet ∷ stopping z line (Migrate Finish) (facts_after PauseSet f)
migrating z line Resume f = by line Resumed ∷ answers line Done
