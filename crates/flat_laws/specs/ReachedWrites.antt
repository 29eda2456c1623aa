-- What holds of the writes that reach memory: their frames are kept, whatever their lines were taken to write as they began.
use Rattle.std.specs.Prelude.{◌≡◌, ℕ, List, ◌∷◌, ◌++◌, Some, true, false}
use Rattle.core_views.specs.declared.actor.Actor.{Actor}
use Rattle.core_views.specs.declared.event.Event.{Event}
use Rattle.core_views.specs.declared.event.EventKind.TheVariants.{Accessed}
use Rattle.core_views.specs.declared.sizes.Sizes.{Sizes}
use Rattle.core_views.specs.declared.trace.Command.{Command}
use Rattle.core_views.specs.declared.trace.Command.TheVariants.{Access}
use Rattle.core_views.specs.declared.trace.Op.{Op}
use Rattle.core_views.specs.Memory.{word_after_op}
use Rattle.core_views.specs.Slots.{is_write}
use Rattle.core_views.specs.Past.{written_frame}
use Rattle.core_views.specs.Flat.{first_flat}
use Rattle.core_views.specs.Events.{after_all, facts_after}
use Rattle.core_views.specs.Lawful.{IsLawful}
use Rattle.flat_laws.specs.Writes.{NoneIsTaken, NoneReadsOut, SlotKept}

-- In this history an access that writes has reached the guest frame, the frame's slot was not changed since, and the events since are such.
pub record WasReached (Since : List Event → Type 0) (history : List Event) (gfn : ℕ) : Type 0 where
  pub before : List Event
  pub actor : Actor
  pub word : ℕ
  pub op : Op
  pub frame : ℕ
  pub value : ℕ
  pub since : List Event
  pub history_is : history ≡ before ++ (record { actor = actor; kind = Accessed gfn word op frame value } ∷ since)
  pub writes : is_write op ≡ true
  pub kept : SlotKept gfn (facts_after (Accessed gfn word op frame value) (after_all before first_flat).facts) since
  pub are_such : Since since

-- After every lawful history such a frame is among those that were written lately, if no log began to be read since; and it has a cause to stand in a log, if
-- no reading that began since took it out.
abbrev pub ReachedFramesAreKept : Type 0
ReachedFramesAreKept =
    (z : Sizes) (history : List Event) → IsLawful z first_flat history → (gfn : ℕ)
    → (WasReached NoneIsTaken history gfn → (after_all history first_flat).past.recent gfn ≡ true)
    × (WasReached (NoneReadsOut gfn) history gfn → (after_all history first_flat).past.causes gfn ≡ true)

-- Any other access leaves in the word what was there.
abbrev pub OnlyWritesChange : Type 0
OnlyWritesChange = (op : Op) (before : ℕ) → is_write op ≡ false → word_after_op op before ≡ before

-- The command is an access that writes the frame.
pub record WritesFrame (command : Command) (gfn : ℕ) : Type 0 where
  pub word : ℕ
  pub op : Op
  pub command_is : command ≡ Access gfn word op
  pub writes : is_write op ≡ true

-- No other command is taken to write it.
abbrev pub OnlyWritesCount : Type 0
OnlyWritesCount = (command : Command) (gfn : ℕ) → written_frame command ≡ Some gfn → WritesFrame command gfn
