-- Runs from a start, each step of them the next one of an actor: what they tell, how often the last line was delayed, what a word holds after them, and where a
-- line stands. And the machine and the slots of the examples.
use Rattle.spte_words.specs.declared.area.Area.{Area}
use Rattle.mmu_core.specs.machine.View.{word_in}
use Rattle.std.specs.Prelude.{◌≡◌, ℕ, List, [], ◌∷◌, true, false, Option, Some}
use Rattle.core_views.specs.declared.event.Event.{Event}
use Rattle.core_views.specs.declared.kind.Kind.{Kind}
use Rattle.core_views.specs.declared.place.Place.{Place}
use Rattle.core_views.specs.declared.sizes.Sizes.{Sizes}
use Rattle.core_views.specs.declared.trace.Line.{Line}
use Rattle.core_views.specs.declared.memory_slot.MemorySlot.{MemorySlot}
use Rattle.core_views.specs.declared.trace.Slot.{Slot}
use Rattle.core_views.specs.Held.{Held}
use Rattle.flat_laws.specs.Laws.{example_sizes, example_slot, manager_line}
use Rattle.mmu_core.specs.machine.Enabled.{mmu}
use Rattle.mmu_core.specs.machine.Machine.{Legal, Step, World, effect, hand_in, run}
use Rattle.mmu_core.specs.machine.Worlds.{IsStart, history}
use Rattle.mmu_core.specs.machine.NextSteps.{next_step}

-- the next steps of these actors, one after another
abbrev pub turns_of : Sizes → World Held → List ℕ → List (Step Kind)
turns_of z w [] = []
turns_of z w (actor ∷ actors) = next_step z w actor ∷ turns_of z (effect mmu w (next_step z w actor)) actors

-- From a start with these lines the next steps of actors in this order can be made, and they tell this.
pub record RunTells (z : Sizes) (lines : List Line) (order : List ℕ) (events : List Event) : Type 0 where
  pub start : World Held
  pub is_start : IsStart z lines start
  pub legal : Legal mmu start (turns_of z start order)
  pub tells : history start (turns_of z start order) ≡ events

-- Such a run tells this, and after it the actor at this place has counted so many delays of its last line.
pub record RunDelays (z : Sizes) (lines : List Line) (order : List ℕ) (events : List Event) (actor delays : ℕ) : Type 0 where
  pub tells : RunTells z lines order events
  pub counts : (hand_in mmu (run mmu tells.start (turns_of z tells.start order)) actor).state.delays ≡ delays

-- From a start with these lines the next steps of actors in this order can be made, and after them this word holds this number.
pub record RunLeaves (z : Sizes) (lines : List Line) (order : List ℕ) (a : Area) (index value : ℕ) : Type 0 where
  pub start : World Held
  pub is_start : IsStart z lines start
  pub legal : Legal mmu start (turns_of z start order)
  pub holds : word_in z (run mmu start (turns_of z start order)) a index ≡ value

-- From a start with these lines the next steps of actors in this order can be made, and after them the line of the actor at this place stands here.
pub record RunStands (z : Sizes) (lines : List Line) (order : List ℕ) (actor : ℕ) (here : Place) : Type 0 where
  pub start : World Held
  pub is_start : IsStart z lines start
  pub legal : Legal mmu start (turns_of z start order)
  pub stands : (hand_in mmu (run mmu start (turns_of z start order)) actor).state.place ≡ here

-- A machine whose pool has as many pages as the lines below need: four, and one for a table of each level below the root.
abbrev pub run_sizes : Sizes
run_sizes = record example_sizes { pool = 7 }

-- this slot, which has no dirty log
abbrev pub unlogged : Slot → Option MemorySlot
unlogged slot = Some (record { slot = slot; logged = false })

-- The manager sets a slot, of guest frames 5 to 7, and a read-only one, of guest frames 16 to 18.
abbrev pub set_line : Line
set_line = manager_line 2 0 (example_slot 5 64 false)

abbrev pub set_read_only_line : Line
set_read_only_line = manager_line 3 1 (example_slot 16 0 true)
