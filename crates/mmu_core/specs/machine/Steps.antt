-- What each form of line does, put together: the step that a hand allows, and the hand after it.
use Rattle.std.specs.Prelude.{ℕ, Bool, true, false, List, [], ◌∷◌, ◌++◌, map}
use Rattle.core_views.specs.declared.actor.Actor.TheVariants.{Manager}
use Rattle.core_views.specs.declared.event.Event.{Event}
use Rattle.core_views.specs.declared.event.EventKind.{EventKind}
use Rattle.core_views.specs.declared.event.EventKind.TheVariants.{Begun}
use Rattle.core_views.specs.declared.kind.Kind.{Kind}
use Rattle.core_views.specs.declared.place.Place.{Place}
use Rattle.core_views.specs.declared.place.Place.TheVariants as place
use Rattle.core_views.specs.declared.sizes.Sizes.{Sizes}
use Rattle.core_views.specs.declared.trace.Command.{Command}
use Rattle.core_views.specs.declared.trace.Line.{Line}
use Rattle.core_views.specs.Held.{Held, State, first_held}
pub use Rattle.core_views.specs.Held.{line_at, next_line}
use Rattle.core_views.specs.Sizes.{no_sizes}
use Rattle.core_views.specs.SlotSets.{MemorySlots}
use Rattle.part_steps.specs.declared.task.Task.{Task}
use Rattle.mmu_core.specs.forms.access.Cached.{flushed}
pub use Rattle.part_steps.specs.PartSteps.{has_line}
use Rattle.mmu_core.specs.lines.Delays.{counted, delays_counted, is_delay, steps_counted}
use Rattle.mmu_core.specs.lines.Forms.{caches_at, first_place, loads_at, outcome_at, reads_at, records_at, tells_at}
pub use Rattle.mmu_core.specs.lines.PartAt.{task_at}
use Rattle.mmu_core.specs.machine.Outcomes.{answering, answers_after, place_after}
use Rattle.part_steps.specs.TopicSteps.{topics_after}

-- where a line with this command stands, which is at its first place where it hasn't begun
abbrev pub standing : Place → Sizes → MemorySlots → Command → Place
standing place.Between z slots command = first_place z slots command
standing p z slots command = p

-- where the line of the hand's next step stands
abbrev pub place_at : Place → Held → Place
place_at p h = standing p h.state.sizes h.slots (line_at p h).command

-- what the hand's next step is to do
abbrev pub task_of : Held → Task
task_of h = task_at (place_at h.state.place h) (line_at h.state.place h).command h

-- The step is a delay of its line.
abbrev pub delays_at : Place → Command → Held → ℕ → Bool
delays_at p command h v = is_delay p command h (outcome_at p command h v) v

-- what the state has loaded and counted after it
abbrev pub state_at : Place → Command → Held → ℕ → State
state_at p command h v = record (loads_at p command h v) {
  steps = steps_counted (delays_at p command h v) (counted h.state.place h.state.steps);
  delays = delays_counted (delays_at p command h v) (counted h.state.place h.state.delays);
}

-- the hand after a step of this line, at this place, that found v, but for its topics and for a flush
abbrev pub line_after : Line → Place → Held → ℕ → Held
line_after line p h v = record {
  state = record (state_at p line.command h v) { line = line; place = place_after (outcome_at p line.command h v) };
  topics = h.topics;
  cached = caches_at p line.command h v;
  slots = records_at p line.command h.slots;
  harvest = reads_at p line.command h v;
  lines = h.lines;
  answers = answers_after (outcome_at p line.command h v) line h.answers;
}

-- the hand after a step of this line
abbrev pub held_after : Line → Place → Held → Kind → ℕ → Held
held_after line p h k v = record {
  state = record (state_at p line.command h v) { line = line; place = place_after (outcome_at p line.command h v) };
  topics = topics_after h.state.sizes k h.topics v;
  cached = flushed k (caches_at p line.command h v) v;
  slots = records_at p line.command h.slots;
  harvest = reads_at p line.command h v;
  lines = h.lines;
  answers = answers_after (outcome_at p line.command h v) line h.answers;
}

-- the hand after a step of a part, which is no line's
abbrev pub idle_after : Held → Kind → ℕ → Held
idle_after h k v =
    record {
      state = h.state;
      topics = topics_after h.state.sizes k h.topics v;
      cached = flushed k h.cached v;
      slots = h.slots;
      harvest = h.harvest;
      lines = h.lines;
      answers = h.answers;
    }

-- the hand after this step, which answered v: its line's next step where it has a line left, else a step of a part
abbrev pub next_by : Bool → Held → Kind → ℕ → Held
next_by true h k v = held_after (line_at h.state.place h) (place_at h.state.place h) h k v
next_by false h k v = idle_after h k v

unfoldable pub next : Held → Kind → ℕ → Held
next h k v = next_by (has_line h) h k v

-- A line begins with its first step.
abbrev pub beginning : Place → Line → List EventKind
beginning place.Between line = Begun line ∷ []
beginning _ line = []

abbrev pub event_kinds : Place → Line → Place → Held → ℕ → List EventKind
event_kinds stood line p h v = beginning stood line ++ (tells_at p line.command h v ++ answering (outcome_at p line.command h v) line)

-- what the hand's next step tells, where it answered v; a step of a part tells nothing
abbrev pub events_by : Bool → Held → ℕ → List Event
events_by true h v =
    map (λ kind. record { actor = h.state.actor; kind = kind }) (event_kinds h.state.place (line_at h.state.place h) (place_at h.state.place h) h v)
events_by false h v = []

unfoldable pub events_of : Held → ℕ → List Event
events_of h v = events_by (has_line h) h v

-- the hand of an actor that is none
abbrev pub nobody : Held
nobody = first_held (no_sizes) Manager []
