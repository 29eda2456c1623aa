-- The words by area and index, and the hands by the places of their actors: what the parts of the invariant speak of.
use Rattle.std.specs.Prelude.{ℕ, Bool, true, false, ◌==◌, nat_lt, if◌then◌else◌, slice_index}
use Rattle.core_views.specs.declared.kind.Operation.{Operation}
use Rattle.core_views.specs.declared.kind.Operation.TheVariants as operation
use Rattle.core_views.specs.declared.place.Place.{Place}
use Rattle.core_views.specs.declared.sizes.Sizes.{Sizes}
use Rattle.core_views.specs.declared.trace.Command.{Command}
use Rattle.core_views.specs.declared.trace.Line.{Line}
use Rattle.core_views.specs.Held.{Held}
use Rattle.core_views.specs.Kinds.{operation_of, word_after, word_answered}
use Rattle.spte_words.specs.declared.area.Area.{Area}
use Rattle.spte_words.specs.Areas.{number_of, place, size_of}
use Rattle.part_steps.specs.declared.task.Task.{Task}
use Rattle.mmu_core.specs.forms.access.Cached.{flushed}
use Rattle.mmu_core.specs.machine.Enabled.{mmu}
use Rattle.mmu_core.specs.machine.Machine.{World, hand_in}
use Rattle.mmu_core.specs.lines.Forms.{caches_at, outcome_at, reads_at, records_at}
use Rattle.mmu_core.specs.machine.Steps.{idle_after, state_at, task_at}
use Rattle.part_steps.specs.PartTasks.{own_index, part_task}
use Rattle.part_steps.specs.declared.part_step.PartStep.{PartStep}
use Rattle.mmu_core.specs.machine.Outcomes.{answers_after, place_after}
use Rattle.part_steps.specs.Tasks.{kind_of_task, map_of}
use Rattle.part_steps.specs.TopicSteps.{topics_after}

pub record View : Type 0 where
  pub words : Area → ℕ → ℕ
  pub hand : ℕ → Held

-- the word of an area; 0 after its end
abbrev pub word_in : Sizes → World Held → Area → ℕ → ℕ
word_in z w area i = if nat_lt i (size_of (map_of z) area) then slice_index w.words (place (map_of z) area i) else 0

abbrev pub view : Sizes → World Held → View
view z w = record { words = word_in z w; hand = hand_in mmu w }

-- a column with another value at one place
abbrev pub upd : {X : Type 0} → (ℕ → X) → ℕ → X → ℕ → X
upd f a x i = if i == a then x else f i

-- the words with another one at one place of an area
abbrev pub put : (Area → ℕ → ℕ) → Area → ℕ → ℕ → Area → ℕ → ℕ
put words area i x b = if number_of b == number_of area then upd (words b) i x else words b

-- The operation may leave another number in its word.
abbrev pub stores : Operation → Bool
stores operation.Load = false
stores _ = true

-- the words after a step's task, and what the step answers
abbrev pub words_after : Task → (Area → ℕ → ℕ) → Area → ℕ → ℕ
words_after t words =
    if stores (operation_of t.kind) then put words t.area t.index (word_after (operation_of t.kind) t.expected t.written (words t.area t.index)) else words

abbrev pub answer_in : Task → (Area → ℕ → ℕ) → ℕ
answer_in t words = word_answered (operation_of t.kind) t.written (words t.area t.index)

-- the hand after a step of this line, with this command, at this place
abbrev pub hand_after : Line → Command → Place → Held → ℕ → Held
hand_after line command p h v = record {
  state = record (state_at p command h v) { line = line; place = place_after (outcome_at p command h v) };
  topics = topics_after h.state.sizes (kind_of_task h.state.sizes (task_at p command h)) h.topics v;
  cached = flushed (kind_of_task h.state.sizes (task_at p command h)) (caches_at p command h v) v;
  slots = records_at p command h.slots;
  harvest = reads_at p command h v;
  lines = h.lines;
  answers = answers_after (outcome_at p command h v) line h.answers;
}

-- what the actor's step makes of the words and hands
abbrev pub stepped : ℕ → Line → Command → Place → View → View
stepped a line command p v = record {
  words = words_after (task_at p command (v.hand a)) v.words;
  hand = upd v.hand a (hand_after line command p (v.hand a) (answer_in (task_at p command (v.hand a)) v.words));
}

-- what a step of a part makes of them
abbrev pub part_stepped : ℕ → PartStep → ℕ → View → View
part_stepped a step note v =
    let t : Task = part_task step (own_index (v.hand a)) (v.hand a).topics note in
    record {
      words = words_after t v.words;
      hand = upd v.hand a (idle_after (v.hand a) (kind_of_task (v.hand a).state.sizes t) (answer_in t v.words));
    }
