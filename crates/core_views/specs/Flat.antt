-- The state of flat guest memory: facts, what is kept of what happened before, and for each actor the line that it has under way.
use Rattle.std.specs.Prelude.{ℕ, List, [], Bool, false, Option, None}
use Rattle.core_views.specs.declared.actor.Actor.{Actor}
use Rattle.core_views.specs.declared.actor.Actor.TheVariants.{Vcpu}
use Rattle.core_views.specs.declared.answer.Answer.{Answer}
use Rattle.core_views.specs.declared.host.HostEntry.{HostEntry}
use Rattle.core_views.specs.declared.migration.Migration.{Migration}
use Rattle.core_views.specs.declared.migration.Migration.TheVariants.{Unstarted}
use Rattle.core_views.specs.declared.trace.Command.TheVariants.{Access}
use Rattle.core_views.specs.declared.trace.Op.TheVariants.{Read}
use Rattle.core_views.specs.declared.trace.Line.{Line}
use Rattle.core_views.specs.Slots.{Slots}
use Rattle.core_views.specs.SlotSets.{MemorySlots}
use Rattle.core_views.specs.Host.{HostMap, HostNotes, own_frames}
use Rattle.core_views.specs.Memory.{Memory, all_zero}
use Rattle.core_views.specs.Past.{FrameSet, Past, first_past}

-- what is true of guest memory now, one field a topic
pub record Facts : Type 0 where
  pub slots : MemorySlots
  pub host : HostMap
  pub memory : Memory
  pub migration : Migration  -- How far the migration of the guest has come: its last stages are a pause, in which virtual processors are to make no access.
  pub armed : ℕ → Bool  -- Writes to the slot with the ID are logged.
  pub pending : FrameSet  -- The frame is dirty: it was written while its slot was armed, and wasn't taken out of the log since.
  pub image : Memory  -- what migrations have copied of each host page
  pub to_copy : FrameSet  -- The page of the frame is yet to be copied.

-- how far the line under way has come, by its own events
pub data Stage : Type 0 where
  Idle : Stage  -- no line is under way
  Fresh : Stage  -- begun, and nothing done yet
  HasAccessed : (frame value : ℕ) → Stage  -- its access was made
  HasLeft : (answer : Answer) → Stage  -- it was given up: its access left the guest, its page is huge, or no pool page or frame was free
  HasChanged : Stage  -- its change of a slot took effect
  HasArmed : Stage  -- so it did, and the slot's writes are logged since
  HasTaken : (id : ℕ) → Stage  -- it has begun to read the log of this slot
  HasRead : (frames : List ℕ) → Stage  -- it has read it, with these guest frames in it
  HasCalled : Stage  -- it has started the migration, or let the guest run again
  HasSetPause : Stage  -- it has set the pause
  HasToRead : (ids : List ℕ) → Stage  -- it has yet to read the logs of these slots, in this order, and then to copy
  HasTakenNext : (id : ℕ) (ids : List ℕ) → Stage  -- it has begun to read the log of this slot, and has yet to read those
  -- It has yet to copy these guest frames, in this order, and has copied so many, and so many words of the next one.
  HasToCopy : (frames : List ℕ) (count word : ℕ) → Stage
  HasChangedHost : (entry : HostEntry) → Stage  -- its change of a host page took effect: this is the page's entry since
  HasToSet : (page left level : ℕ) → Stage  -- it has yet to set so many pages, from this one on, to this level

-- what the line looked at, as it last did: the pause, the slots, and the entry of each host page
pub record Notes : Type 0 where
  pub paused : Option Bool
  pub slots : Option Slots
  pub host : HostNotes

-- the line under way, or the last one
pub record LineUnderWay : Type 0 where
  pub line : Line
  pub stage : Stage
  pub notes : Notes

pub record Flat : Type 0 where
  pub facts : Facts
  pub past : Past
  pub under : Actor → LineUnderWay

-- At the start there is no slot, each host page is present, writable and small, at its own frame, all content is zero, nothing is migrated, and no log is kept.
abbrev pub first_facts : Facts
first_facts = record {
  slots = [];
  host = own_frames;
  memory = all_zero;
  migration = Unstarted;
  armed = λ id. false;
  pending = λ gfn. false;
  image = all_zero;
  to_copy = λ gfn. false;
}

abbrev pub no_notes : Notes
no_notes = record { paused = None; slots = None; host = λ page. None }

-- stands where there is no line
abbrev pub no_line : Line
no_line = record { number = 0; actor = Vcpu 0; command = Access 0 0 Read }

abbrev pub first_flat : Flat
first_flat = record { facts = first_facts; past = first_past; under = λ actor. record { line = no_line; stage = Idle; notes = no_notes } }
