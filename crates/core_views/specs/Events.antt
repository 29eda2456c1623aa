-- What an event does to the flat state: to the facts, to what is kept of what happened before, and to the line under way of its actor.
use Rattle.std.specs.Prelude.{ℕ, Bool, List, [], ◌∷◌, is_some, not, ◌==◌, ◌&&◌, ◌||◌, if◌then◌else◌, Option, Some, None}
use Rattle.core_views.specs.declared.event.Event.{Event}
use Rattle.core_views.specs.declared.event.EventKind.{EventKind}
use Rattle.core_views.specs.declared.event.EventKind.TheVariants.{Begun, LookedAtPause, LookedAtSlots, LookedAtHost, BroughtIn, Accessed, Exited, SlotChanged}
use Rattle.core_views.specs.declared.event.EventKind.TheVariants.{HostChanged, Armed, Taken, Harvested, Shown, Answered}
use Rattle.core_views.specs.declared.event.EventKind.TheVariants.{GuestStopped, MigrationStarted, PauseSet, Resumed, WordCopied}
use Rattle.core_views.specs.declared.migration.Migration.TheVariants.{Unstarted, Running, Pausing, Stopped}
use Rattle.std.specs.Map.{keys_of}
use Rattle.core_views.specs.declared.memory_slot.MemorySlot.{MemorySlot}
use Rattle.core_views.specs.declared.trace.Op.{Op}
use Rattle.core_views.specs.declared.actor.Actor.{Actor}
use Rattle.core_views.specs.Actors.{changed_at}
use Rattle.core_views.specs.Host.{brought_in, mapping, with_entry}
use Rattle.core_views.specs.Slots.{is_some_and, is_write, page_behind}
use Rattle.core_views.specs.SlotSets.{MemorySlots, changed_slots, flat_slots, slot_holding, slot_of_id}
use Rattle.core_views.specs.LogCommands.{is_among, log_read}
use Rattle.core_views.specs.Migrations.{is_migrating, is_paused, is_stopped}
use Rattle.core_views.specs.Memory.{Memory, with_word, word_after_op}
use Rattle.core_views.specs.Past.{FrameSet, Past, counted_anew, has_gfn, is_being_written, of_others, past_begun, written_frame}
use Rattle.core_views.specs.Flat.{Facts, LineUnderWay, Flat, no_notes, Idle, Fresh, HasAccessed, HasLeft, HasChanged, HasArmed, HasRead}
use Rattle.core_views.specs.Flat.{HasCalled, HasSetPause}
pub use Rattle.core_views.specs.Stages.{after_next, first_logs, logs_left, stage_changed, stage_copied, stage_read, stage_taken, to_read_or_copy}

-- the memory after an access to a word of this host page
abbrev pub touched : Option ℕ → ℕ → Op → Memory → Memory
touched None word op memory = memory
touched (Some page) word op memory = with_word page word (word_after_op op (memory page word)) memory

-- Writes to the slot that has the guest frame are logged.
abbrev pub is_armed : MemorySlots → (ℕ → Bool) → ℕ → Bool
is_armed slots armed gfn = is_some_and (λ entry. armed entry.0) (slot_holding gfn slots)

-- the dirty frames after an access to one whose writes are logged, or aren't: a write makes its frame dirty
abbrev pub marked : Bool → ℕ → Op → FrameSet → FrameSet
marked logged gfn op pending = λ other. ((logged && is_write op) && (gfn == other)) || pending other

-- the dirty frames without those of the slot that was at an ID, and of the one that is there now
abbrev pub unlogged : Option MemorySlot → Option MemorySlot → FrameSet → FrameSet
unlogged was slot pending = λ gfn. not (has_gfn was gfn || has_gfn slot gfn) && pending gfn

-- the facts after the event: only an access changes memory, only a slot change the slots, only a host change and an access the host; a write of a logged
-- slot makes its frame dirty, and reading a log, arming it and changing a slot make frames clean; what is read of a log while a migration goes on is to be
-- copied
abbrev pub facts_after : EventKind → Facts → Facts
facts_after (BroughtIn page) f = record f { host = mapping page (brought_in (f.host page)) f.host }
facts_after (Accessed gfn word op frame before) f = record f {
  memory = touched (page_behind (flat_slots f.slots) gfn op) word op f.memory;
  pending = marked (is_armed f.slots f.armed gfn) gfn op f.pending;
}
facts_after (SlotChanged id slot) f = record f {
  slots = changed_slots id slot f.slots;
  armed = λ other. not (id == other) && f.armed other;
  pending = unlogged (slot_of_id id f.slots) slot f.pending;
}
facts_after (HostChanged page entry) f = record f { host = mapping page entry f.host }
facts_after (Armed id all) f = record f {
  armed = λ other. (id == other) || f.armed other;
  pending = λ gfn. if has_gfn (slot_of_id id f.slots) gfn then all else f.pending gfn;
}
facts_after (Harvested id frames) f = record f {
  pending = λ gfn. not (is_among gfn frames) && f.pending gfn;
  to_copy = λ gfn. (is_migrating f.migration && is_among gfn frames) || f.to_copy gfn;
}
facts_after MigrationStarted f = record f { migration = Running; to_copy = λ gfn. is_some (slot_holding gfn f.slots) }
facts_after PauseSet f = record f { migration = Pausing }
facts_after GuestStopped f = record f { migration = Stopped }
facts_after (WordCopied gfn page word value whole) f =
    record f { image = with_word page word value f.image; to_copy = λ other. not (whole && (gfn == other)) && f.to_copy other }
facts_after Resumed f = record f { migration = Unstarted }
facts_after _ f = f

-- the past after an event of the actor: it moves where a line begins or is answered, where a slot is changed, and where a log is armed and read
abbrev pub past_after : Actor → EventKind → Facts → Past → Past
past_after actor (Begun line) f past = past_begun actor (written_frame line.command) past
past_after actor (Answered line answer) f past = record past { writes = of_others actor past.writes }
past_after actor (SlotChanged id slot) f past =
    record past {
      recent = counted_anew (slot_of_id id f.slots) slot past.writes past.recent;
      causes = counted_anew (slot_of_id id f.slots) slot past.writes past.causes;
    }
past_after actor (Armed id all) f past = record past { causes = λ gfn. (all && has_gfn (slot_of_id id f.slots) gfn) || past.causes gfn }
past_after actor (Taken id) f past =
    record past { due = λ gfn. f.pending gfn && (is_stopped f.migration || not (is_being_written past.writes gfn)); recent = is_being_written past.writes }
past_after actor (Harvested id frames) f past = record past { causes = λ gfn. if is_among gfn frames then past.recent gfn else past.causes gfn }
past_after actor _ f past = past

-- the line under way after an event of its actor
abbrev pub under_after : EventKind → Facts → LineUnderWay → LineUnderWay
under_after (Begun line) f u = record { line = line; stage = Fresh; notes = no_notes }
under_after LookedAtPause f u = record u { notes = record u.notes { paused = Some (is_paused f.migration) } }
under_after LookedAtSlots f u = record u { notes = record u.notes { slots = Some (flat_slots f.slots) } }
under_after (LookedAtHost page) f u = record u { notes = record u.notes { host = with_entry page (f.host page) u.notes.host } }
under_after (BroughtIn page) f u = u
under_after (Accessed gfn word op frame before) f u = record u { stage = HasAccessed frame before }
under_after (Exited answer) f u = record u { stage = HasLeft answer }
under_after (SlotChanged id slot) f u = record u { stage = HasChanged }
under_after (HostChanged page entry) f u = record u { stage = stage_changed u.line.command f.host u.stage page entry }
under_after (Armed id all) f u = record u { stage = HasArmed }
under_after (Taken id) f u = record u { stage = stage_taken (log_read u.line.command) (logs_left f.slots u.line.command u.stage) id }
under_after (Harvested id frames) f u = record u { stage = stage_read u.stage frames (facts_after (Harvested id frames) f) }
under_after (Shown id frames) f u = record u { stage = HasRead frames }
under_after MigrationStarted f u = record u { stage = HasCalled }
under_after PauseSet f u = record u { stage = HasSetPause }
under_after GuestStopped f u = record u { stage = to_read_or_copy (keys_of f.slots) (facts_after GuestStopped f) }
under_after (WordCopied gfn page word value whole) f u = record u { stage = stage_copied whole u.stage }
under_after Resumed f u = record u { stage = HasCalled }
under_after (Answered line answer) f u = record u { stage = Idle }

abbrev pub after : Event → Flat → Flat
after e f = record {
  facts = facts_after e.kind f.facts;
  past = past_after e.actor e.kind f.facts f.past;
  under = changed_at e.actor (under_after e.kind f.facts (f.under e.actor)) f.under;
}

-- the state, and the facts, after a whole history
abbrev pub after_all : List Event → Flat → Flat
after_all [] f = f
after_all (e ∷ es) f = after_all es (after e f)

abbrev pub facts_after_all : List Event → Facts → Facts
facts_after_all [] f = f
facts_after_all (e ∷ es) f = facts_after_all es (facts_after e.kind f)
