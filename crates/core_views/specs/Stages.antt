-- How far a line has come: one of a migration, which logs it has yet to read, and what it has yet to copy; and one of a host page, which pages
-- it has yet to set.
use Rattle.std.specs.Prelude.{ℕ, zero, suc, ◌+◌, Bool, true, false, List, [], ◌∷◌, Option, Some, None}
use Rattle.core_views.specs.declared.trace.Command.{Command}
use Rattle.core_views.specs.declared.trace.Command.TheVariants.{ChangeRun, Migrate}
use Rattle.core_views.specs.declared.trace.MigrationCall.TheVariants.{Round}
use Rattle.std.specs.Map.{keys_of}
use Rattle.core_views.specs.SlotSets.{MemorySlots}
use Rattle.core_views.specs.Migrations.{frames_to_copy}
use Rattle.core_views.specs.Flat.{Facts, Fresh, HasTaken, HasRead}
use Rattle.core_views.specs.Flat.{HasChangedHost, HasTakenNext, HasToCopy, HasToRead, HasToSet, Stage}
use Rattle.core_views.specs.declared.host.HostEntry.{HostEntry}
use Rattle.core_views.specs.Host.{HostMap}
use Rattle.core_views.specs.HostRuns.{level_set, run_count}

-- the stage of a line that has set a page of a run, of so many that it has to set from this one on
abbrev pub set_one : ℕ → ℕ → ℕ → Stage
set_one page zero level = HasToSet page zero level
set_one page (suc left) level = HasToSet (page + 1) left level

-- the stage of a line that has changed a host page, which has this entry since: its only one, or one of a run, which the host mapped so before
abbrev pub stage_changed : Command → HostMap → Stage → ℕ → HostEntry → Stage
stage_changed command host (HasToSet next left level) page entry = set_one next left level
stage_changed (ChangeRun at change) host stage page entry = set_one page (run_count change (host at)) (level_set change)
stage_changed _ host stage page entry = HasChangedHost entry

-- the slots whose logs a line of a migration has yet to read, at its begin; and at each stage
abbrev pub first_logs : MemorySlots → Command → List ℕ
first_logs slots (Migrate Round) = keys_of slots
first_logs slots _ = []

abbrev pub logs_left : MemorySlots → Command → Stage → List ℕ
logs_left slots command Fresh = first_logs slots command
logs_left slots command (HasToRead ids) = ids
logs_left slots command _ = []

-- the stage of such a line that has yet to read these, with these facts: with none left it copies
abbrev pub to_read_or_copy : List ℕ → Facts → Stage
to_read_or_copy [] f = HasToCopy (frames_to_copy f.to_copy f.slots) 0 0
to_read_or_copy (id ∷ ids) f = HasToRead (id ∷ ids)

-- the slots that come after the next one
abbrev pub after_next : List ℕ → List ℕ
after_next [] = []
after_next (id ∷ ids) = ids

-- the stage of a line that has begun to read the log of the slot: a line that reads this one alone, or one of a migration
abbrev pub stage_taken : Option ℕ → List ℕ → ℕ → Stage
stage_taken None left id = HasTakenNext id (after_next left)
stage_taken (Some other) left id = HasTaken id

-- the stage of a line that has read these, with these facts since
abbrev pub stage_read : Stage → List ℕ → Facts → Stage
stage_read (HasTakenNext id ids) frames f = to_read_or_copy ids f
stage_read _ frames f = HasRead frames

-- the stage of a line that has copied a word, of a page that is copied whole with it or isn't
abbrev pub stage_copied : Bool → Stage → Stage
stage_copied false (HasToCopy frames count word) = HasToCopy frames count (word + 1)
stage_copied true (HasToCopy (frame ∷ frames) count word) = HasToCopy frames (count + 1) 0
stage_copied _ stage = stage
